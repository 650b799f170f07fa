use Rattle.std.proofs.Common.{◌≡◌, List, [], ◌∙◌, ap}
use Rattle.sector_disk.specs.Space.{Space}
use Rattle.btree_file.specs.FrameLaws.{reads_both}
use Rattle.fsck_core.specs.declared.overflow.OverflowRow.{OverflowRow}
use Rattle.fsck_core.specs.Overflows.{overflows_in}
use Rattle.fsck_core.proofs.ListJoins.{at_none, at_some, some_empty}
use Rattle.fsck_core.proofs.ShownLaws.{shows_still, good_still, bytes_back, head_back, overflow_back, catalog_held, catalog_find_early}
use Rattle.fsck_core.proofs.volume.read_trees.Goals as goal

pub scan_catalog-requires-clause-good : goal.scan_catalog-requires-clause-good
scan_catalog-requires-clause-good g c = good_still (g.V.SectorView.space c.args.view.now) (g.V.SectorView.space c.read_extents.new.view) c.args.head.now c.read_extents.ensures.reads c.requires.good

pub scan_catalog-requires-clause-none : goal.scan_catalog-requires-clause-none
scan_catalog-requires-clause-none g c = some_empty c.in_ok-overflow.field-0 c.in-Some.overflow (c.read_extents.new.out ≡ []) c.in-Some.is c.in_ok-overflow.ensures.empty

pub read_attributes-requires-clause-good : goal.read_attributes-requires-clause-good
read_attributes-requires-clause-good g c =
    let old : Space = g.V.SectorView.space c.args.view.now in
    let first : Space = g.V.SectorView.space c.read_extents.new.view in
    let second : Space = g.V.SectorView.space c.scan_catalog.new.view in
    good_still old second c.args.head.now (reads_both old first second c.read_extents.ensures.reads c.scan_catalog.ensures.reads) c.requires.good

pub read_attributes-requires-clause-none : goal.read_attributes-requires-clause-none
read_attributes-requires-clause-none g c = some_empty c.in_ok-catalog.field-0 c.in-Some-2.catalog (c.scan_catalog.new.out ≡ []) c.in-Some-2.is c.in_ok-catalog.ensures.empty

pub returns-in_default-clause-found : goal.returns-in_default-clause-found
returns-in_default-clause-found g c content shows head = at_none c.in_ok-overflow.field-0 _ _ c.in_default.is (c.in_ok-overflow.ensures.found content shows head)

pub returns-in_default-clause-each : goal.returns-in_default-clause-each
returns-in_default-clause-each g c content shows head = c.in_ok-overflow.ensures.each content shows head

pub returns-in_default-2-clause-found : goal.returns-in_default-2-clause-found
returns-in_default-2-clause-found g c content shows head =
    let old : Space = g.V.SectorView.space c.args.view.now in
    let first : Space = g.V.SectorView.space c.read_extents.new.view in
    let rows = at_some c.in_ok-overflow.field-0 c.in-Some.overflow _ _ c.in-Some.is (c.in_ok-overflow.ensures.found content shows head) in
    let there = shows_still old first content shows c.read_extents.ensures.reads in
    at_none c.in_ok-catalog.field-0 _ _ c.in_default-2.is (c.in_ok-catalog.ensures.found there.tells (bytes_back first content there) (head_back first content c.args.head.now there head) (overflow_back first content (overflows_in c.deref.result.now) there (ap (λ (l : List OverflowRow). overflows_in l) c.deref.ensures.value ∙ rows.rows_are)))

pub returns-in_default-2-clause-each : goal.returns-in_default-2-clause-each
returns-in_default-2-clause-each g c content shows head =
    let old : Space = g.V.SectorView.space c.args.view.now in
    let first : Space = g.V.SectorView.space c.read_extents.new.view in
    let rows = at_some c.in_ok-overflow.field-0 c.in-Some.overflow _ _ c.in-Some.is (c.in_ok-overflow.ensures.found content shows head) in
    let there = shows_still old first content shows c.read_extents.ensures.reads in
    catalog_find_early first content c.scan_catalog.new.out there (c.scan_catalog.ensures.each there.tells (head_back first content c.args.head.now there head) (overflow_back first content (overflows_in c.deref.result.now) there (ap (λ (l : List OverflowRow). overflows_in l) c.deref.ensures.value ∙ rows.rows_are)))

pub returns-in_default-3-clause-found : goal.returns-in_default-3-clause-found
returns-in_default-3-clause-found g c content shows head =
    let old : Space = g.V.SectorView.space c.args.view.now in
    let first : Space = g.V.SectorView.space c.read_extents.new.view in
    let second : Space = g.V.SectorView.space c.scan_catalog.new.view in
    let rows = at_some c.in_ok-overflow.field-0 c.in-Some.overflow _ _ c.in-Some.is (c.in_ok-overflow.ensures.found content shows head) in
    let there = shows_still old second content shows (reads_both old first second c.read_extents.ensures.reads c.scan_catalog.ensures.reads) in
    at_none c.in_ok-attributes.field-0 _ _ c.in_default-3.is (c.in_ok-attributes.ensures.found content there head (ap (λ (l : List OverflowRow). overflows_in l) c.deref-2.ensures.value ∙ rows.rows_are))

pub returns-in_default-3-clause-each : goal.returns-in_default-3-clause-each
returns-in_default-3-clause-each g c content shows head =
    let old : Space = g.V.SectorView.space c.args.view.now in
    let first : Space = g.V.SectorView.space c.read_extents.new.view in
    let second : Space = g.V.SectorView.space c.scan_catalog.new.view in
    let rows = at_some c.in_ok-overflow.field-0 c.in-Some.overflow _ _ c.in-Some.is (c.in_ok-overflow.ensures.found content shows head) in
    let there = shows_still old second content shows (reads_both old first second c.read_extents.ensures.reads c.scan_catalog.ensures.reads) in
    c.in_ok-attributes.ensures.each content there head (ap (λ (l : List OverflowRow). overflows_in l) c.deref-2.ensures.value ∙ rows.rows_are)

pub returns-clause-empty : goal.returns-clause-empty
returns-clause-empty g c = some_empty c.in_ok-attributes.field-0 c.in-Some-3.attributes (c.read_attributes.new.out ≡ []) c.in-Some-3.is c.in_ok-attributes.ensures.empty

pub returns-clause-found : goal.returns-clause-found
returns-clause-found g c content shows head =
    let old : Space = g.V.SectorView.space c.args.view.now in
    let first : Space = g.V.SectorView.space c.read_extents.new.view in
    let second : Space = g.V.SectorView.space c.scan_catalog.new.view in
    let rows = at_some c.in_ok-overflow.field-0 c.in-Some.overflow _ _ c.in-Some.is (c.in_ok-overflow.ensures.found content shows head) in
    let after = shows_still old first content shows c.read_extents.ensures.reads in
    let there = shows_still old second content shows (reads_both old first second c.read_extents.ensures.reads c.scan_catalog.ensures.reads) in
    let catalog = at_some c.in_ok-catalog.field-0 c.in-Some-2.catalog _ _ c.in-Some-2.is
    (c.in_ok-catalog.ensures.found after.tells (bytes_back first content after) (head_back first content c.args.head.now after head) (overflow_back first content (overflows_in c.deref.result.now) after (ap (λ (l : List OverflowRow). overflows_in l) c.deref.ensures.value ∙ rows.rows_are))) in
    record {
      of_extents = rows;
      of_catalog = catalog_held first content c.in-Some-2.catalog c.scan_catalog.new.out after catalog;
      of_attributes = at_some c.in_ok-attributes.field-0 c.in-Some-3.attributes _ _ c.in-Some-3.is (c.in_ok-attributes.ensures.found content there head (ap (λ (l : List OverflowRow). overflows_in l) c.deref-2.ensures.value ∙ rows.rows_are));
    }

pub returns-clause-each : goal.returns-clause-each
returns-clause-each g c content shows head =
    let old : Space = g.V.SectorView.space c.args.view.now in
    let first : Space = g.V.SectorView.space c.read_extents.new.view in
    let second : Space = g.V.SectorView.space c.scan_catalog.new.view in
    let rows = at_some c.in_ok-overflow.field-0 c.in-Some.overflow _ _ c.in-Some.is (c.in_ok-overflow.ensures.found content shows head) in
    let there = shows_still old second content shows (reads_both old first second c.read_extents.ensures.reads c.scan_catalog.ensures.reads) in
    c.in_ok-attributes.ensures.each content there head (ap (λ (l : List OverflowRow). overflows_in l) c.deref-2.ensures.value ∙ rows.rows_are)

pub returns-clause-below : goal.returns-clause-below
returns-clause-below g c =
    g.met.V.SectorView.follows_trans c.args.view.now c.scan_catalog.new.view c.read_attributes.new.view
    (g.met.V.SectorView.follows_trans c.args.view.now c.read_extents.new.view c.scan_catalog.new.view c.read_extents.ensures.below c.scan_catalog.ensures.below) c.read_attributes.ensures.below
