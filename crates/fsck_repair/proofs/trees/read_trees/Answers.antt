use Rattle.std.proofs.Common.{List, ◌∙◌, ap}
use Rattle.sector_disk.specs.Space.{Space}
use Rattle.btree_file.specs.FrameLaws.{reads_both}
use Rattle.fsck_core.specs.declared.overflow.OverflowRow.{OverflowRow}
use Rattle.fsck_core.specs.Overflows.{overflows_in}
use Rattle.fsck_core.proofs.ListJoins.{at_none, at_some}
use Rattle.fsck_core.proofs.ShownLaws.{shows_still, good_still}
use Rattle.fsck_repair.proofs.trees.read_trees.Goals as goal

pub read_attributes-requires : goal.read_attributes-requires
read_attributes-requires g c = record { good = good_still (g.V.SectorView.space c.args.view.now) (g.V.SectorView.space c.read_rows.new.view) c.args.head.now c.read_rows.ensures.reads c.requires.good }

pub read_catalog-requires : goal.read_catalog-requires
read_catalog-requires g c = let old : Space = g.V.SectorView.space c.args.view.now in
    let first : Space = g.V.SectorView.space c.read_rows.new.view in
    let second : Space = g.V.SectorView.space c.read_attributes.new.view in
    record { good = good_still old second c.args.head.now (reads_both old first second c.read_rows.ensures.reads c.read_attributes.ensures.reads) c.requires.good }

pub returns-in_default-clause-found : goal.returns-in_default-clause-found
returns-in_default-clause-found g c content shows head = at_none c.in_ok-overflow.field-0 _ _ c.in_default.is (c.in_ok-overflow.ensures.found content shows head)

pub returns-in_default-2-clause-found : goal.returns-in_default-2-clause-found
returns-in_default-2-clause-found g c content shows head =
    let old : Space = g.V.SectorView.space c.args.view.now in
    let first : Space = g.V.SectorView.space c.read_rows.new.view in
    let rows = at_some c.in_ok-overflow.field-0 c.in-Some.overflow _ _ c.in-Some.is (c.in_ok-overflow.ensures.found content shows head) in
    let there = shows_still old first content shows c.read_rows.ensures.reads in
    at_none c.in_ok-attributes.field-0 _ _ c.in_default-2.is (c.in_ok-attributes.ensures.found content there head (ap (λ (l : List OverflowRow). overflows_in l) c.deref.ensures.value ∙ rows.rows_are))

pub returns-in_default-3-clause-found : goal.returns-in_default-3-clause-found
returns-in_default-3-clause-found g c content shows head =
    let old : Space = g.V.SectorView.space c.args.view.now in
    let first : Space = g.V.SectorView.space c.read_rows.new.view in
    let second : Space = g.V.SectorView.space c.read_attributes.new.view in
    let rows = at_some c.in_ok-overflow.field-0 c.in-Some.overflow _ _ c.in-Some.is (c.in_ok-overflow.ensures.found content shows head) in
    let there = shows_still old second content shows (reads_both old first second c.read_rows.ensures.reads c.read_attributes.ensures.reads) in
    at_none c.in_ok-catalog.field-0 _ _ c.in_default-3.is (c.in_ok-catalog.ensures.found content there head (ap (λ (l : List OverflowRow). overflows_in l) c.deref-2.ensures.value ∙ rows.rows_are))

pub returns-clause-found : goal.returns-clause-found
returns-clause-found g c content shows head =
    let old : Space = g.V.SectorView.space c.args.view.now in
    let first : Space = g.V.SectorView.space c.read_rows.new.view in
    let second : Space = g.V.SectorView.space c.read_attributes.new.view in
    let rows = at_some c.in_ok-overflow.field-0 c.in-Some.overflow _ _ c.in-Some.is (c.in_ok-overflow.ensures.found content shows head) in
    let after = shows_still old first content shows c.read_rows.ensures.reads in
    let there = shows_still old second content shows (reads_both old first second c.read_rows.ensures.reads c.read_attributes.ensures.reads) in
    record {
      of_extents = rows;
      of_catalog = at_some c.in_ok-catalog.field-0 c.in-Some-3.catalog _ _ c.in-Some-3.is (c.in_ok-catalog.ensures.found content there head (ap (λ (l : List OverflowRow). overflows_in l) c.deref-2.ensures.value ∙ rows.rows_are));
      of_attributes = at_some c.in_ok-attributes.field-0 c.in-Some-2.attributes _ _ c.in-Some-2.is (c.in_ok-attributes.ensures.found content after head (ap (λ (l : List OverflowRow). overflows_in l) c.deref.ensures.value ∙ rows.rows_are));
    }

pub returns-clause-below : goal.returns-clause-below
returns-clause-below g c =
    g.met.V.SectorView.follows_trans c.args.view.now c.read_attributes.new.view c.read_catalog.new.view
    (g.met.V.SectorView.follows_trans c.args.view.now c.read_rows.new.view c.read_attributes.new.view c.read_rows.ensures.below c.read_attributes.ensures.below) c.read_catalog.ensures.below
