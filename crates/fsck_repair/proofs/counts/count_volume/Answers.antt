use Rattle.std.proofs.Common.{List, ◌∙◌, ap}
use Rattle.sector_disk.specs.Space.{Space}
use Rattle.btree_file.specs.FrameLaws.{reads_both}
use Rattle.fsck_core.specs.declared.overflow.OverflowRow.{OverflowRow}
use Rattle.fsck_core.specs.Overflows.{overflows_in}
use Rattle.fsck_core.proofs.ListJoins.{at_none, at_some, some_both}
use Rattle.fsck_core.proofs.ShownLaws.{shows_still, good_still}
use Rattle.fsck_repair.proofs.CountTelling.{good_in}
use Rattle.fsck_repair.proofs.counts.count_volume.Goals as goal

pub read_trees-requires : goal.read_trees-requires
read_trees-requires g c = record {
  good = good_still (g.V.SectorView.space c.args.view.now) (g.V.SectorView.space c.read_good_header.new.view) c.in-Some.headers.head c.read_good_header.ensures.reads
      (some_both c.in_ok-headers.field-0 c.in-Some.headers _ c.in-Some.is c.in_ok-headers.ensures.good);
}

pub read_sizes-requires : goal.read_sizes-requires
read_sizes-requires g c = let old : Space = g.V.SectorView.space c.args.view.now in
    let first : Space = g.V.SectorView.space c.read_good_header.new.view in
    let second : Space = g.V.SectorView.space c.read_trees.new.view in
    record {
      good = good_still old second c.in-Some.headers.head (reads_both old first second c.read_good_header.ensures.reads c.read_trees.ensures.reads)
          (some_both c.in_ok-headers.field-0 c.in-Some.headers _ c.in-Some.is c.in_ok-headers.ensures.good);
    }

pub count_trees-requires : goal.count_trees-requires
count_trees-requires g c = let old : Space = g.V.SectorView.space c.args.view.now in
    let first : Space = g.V.SectorView.space c.read_good_header.new.view in
    let second : Space = g.V.SectorView.space c.read_trees.new.view in
    let third : Space = g.V.SectorView.space c.read_sizes.new.view in
    let reads = reads_both old second third (reads_both old first second c.read_good_header.ensures.reads c.read_trees.ensures.reads) c.read_sizes.ensures.reads in
    record { good = good_in old.sectors c.sectors.result c.in-Some.headers.head (c.sectors.ensures ∙ reads.same.sectors) (some_both c.in_ok-headers.field-0 c.in-Some.headers _ c.in-Some.is c.in_ok-headers.ensures.good) }

pub returns-in_default-clause-found : goal.returns-in_default-clause-found
returns-in_default-clause-found g c content shows = at_none c.in_ok-headers.field-0 _ _ c.in_default.is (c.in_ok-headers.ensures.found content shows)

pub returns-in_default-2-clause-found : goal.returns-in_default-2-clause-found
returns-in_default-2-clause-found g c content shows =
    let old : Space = g.V.SectorView.space c.args.view.now in
    let first : Space = g.V.SectorView.space c.read_good_header.new.view in
    let has = at_some c.in_ok-headers.field-0 c.in-Some.headers _ _ c.in-Some.is (c.in_ok-headers.ensures.found content shows) in
    at_none c.in_ok-trees.field-0 _ _ c.in_default-2.is (c.in_ok-trees.ensures.found content (shows_still old first content shows c.read_good_header.ensures.reads) has.head)

pub returns-in_default-3-clause-found : goal.returns-in_default-3-clause-found
returns-in_default-3-clause-found g c content shows =
    let old : Space = g.V.SectorView.space c.args.view.now in
    let first : Space = g.V.SectorView.space c.read_good_header.new.view in
    let second : Space = g.V.SectorView.space c.read_trees.new.view in
    let has = at_some c.in_ok-headers.field-0 c.in-Some.headers _ _ c.in-Some.is (c.in_ok-headers.ensures.found content shows) in
    let are = at_some c.in_ok-trees.field-0 c.in-Some-2.trees _ _ c.in-Some-2.is (c.in_ok-trees.ensures.found content (shows_still old first content shows c.read_good_header.ensures.reads) has.head) in
    let there = shows_still old second content shows (reads_both old first second c.read_good_header.ensures.reads c.read_trees.ensures.reads) in
    at_none c.in_ok-tree.field-0 _ _ c.in_default-3.is (c.in_ok-tree.ensures.found content there has.head (ap (λ (l : List OverflowRow). overflows_in l) c.deref.ensures.value ∙ are.of_extents.rows_are))

pub returns-clause-found : goal.returns-clause-found
returns-clause-found g c content shows =
    let old : Space = g.V.SectorView.space c.args.view.now in
    let first : Space = g.V.SectorView.space c.read_good_header.new.view in
    let second : Space = g.V.SectorView.space c.read_trees.new.view in
    let third : Space = g.V.SectorView.space c.read_sizes.new.view in
    let reads_2 = reads_both old first second c.read_good_header.ensures.reads c.read_trees.ensures.reads in
    let reads = reads_both old second third reads_2 c.read_sizes.ensures.reads in
    let has = at_some c.in_ok-headers.field-0 c.in-Some.headers _ _ c.in-Some.is (c.in_ok-headers.ensures.found content shows) in
    let are = at_some c.in_ok-trees.field-0 c.in-Some-2.trees _ _ c.in-Some-2.is (c.in_ok-trees.ensures.found content (shows_still old first content shows c.read_good_header.ensures.reads) has.head) in
    let there = shows_still old second content shows reads_2 in
    let sized = at_some c.in_ok-tree.field-0 c.in-Some-3.tree _ _ c.in-Some-3.is (c.in_ok-tree.ensures.found content there has.head (ap (λ (l : List OverflowRow). overflows_in l) c.deref.ensures.value ∙ are.of_extents.rows_are)) in
    c.in_ok-counts.ensures.counted content (c.sectors.ensures ∙ reads.same.sectors ∙ shows.size) has sized are

pub returns-in_err-counts-clause-reads : goal.returns-in_err-counts-clause-reads
returns-in_err-counts-clause-reads g c =
    let old : Space = g.V.SectorView.space c.args.view.now in
    let first : Space = g.V.SectorView.space c.read_good_header.new.view in
    let second : Space = g.V.SectorView.space c.read_trees.new.view in
    let third : Space = g.V.SectorView.space c.read_sizes.new.view in
    reads_both old second third (reads_both old first second c.read_good_header.ensures.reads c.read_trees.ensures.reads) c.read_sizes.ensures.reads

pub returns-in_err-counts-clause-below : goal.returns-in_err-counts-clause-below
returns-in_err-counts-clause-below g c =
    g.met.V.SectorView.follows_trans c.args.view.now c.read_trees.new.view c.read_sizes.new.view
    (g.met.V.SectorView.follows_trans c.args.view.now c.read_good_header.new.view c.read_trees.new.view c.read_good_header.ensures.below c.read_trees.ensures.below) c.read_sizes.ensures.below

pub returns-clause-reads : goal.returns-clause-reads
returns-clause-reads g c =
    let old : Space = g.V.SectorView.space c.args.view.now in
    let first : Space = g.V.SectorView.space c.read_good_header.new.view in
    let second : Space = g.V.SectorView.space c.read_trees.new.view in
    let third : Space = g.V.SectorView.space c.read_sizes.new.view in
    reads_both old second third (reads_both old first second c.read_good_header.ensures.reads c.read_trees.ensures.reads) c.read_sizes.ensures.reads

pub returns-clause-below : goal.returns-clause-below
returns-clause-below g c =
    g.met.V.SectorView.follows_trans c.args.view.now c.read_trees.new.view c.read_sizes.new.view
    (g.met.V.SectorView.follows_trans c.args.view.now c.read_good_header.new.view c.read_trees.new.view c.read_good_header.ensures.below c.read_trees.ensures.below) c.read_sizes.ensures.below
