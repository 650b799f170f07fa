use Rattle.std.proofs.Common.{◌≡◌, []}
use Rattle.sector_disk.specs.Space.{Space}
use Rattle.fsck_core.proofs.ListJoins.{at_none, at_some, some_empty}
use Rattle.fsck_core.proofs.ShownLaws.{shows_still, good_still, lists_told}
use Rattle.fsck_core.proofs.volume.read_lists.Goals as goal

pub read_files-requires-clause-good : goal.read_files-requires-clause-good
read_files-requires-clause-good g c = good_still (g.V.SectorView.space c.args.view.now) (g.V.SectorView.space c.read_trees.new.view) c.args.head.now c.read_trees.ensures.reads c.requires.good

pub read_files-requires-clause-none : goal.read_files-requires-clause-none
read_files-requires-clause-none g c = some_empty c.in_ok-trees.field-0 c.in-Some.trees (c.read_trees.new.out ≡ []) c.in-Some.is c.in_ok-trees.ensures.empty

pub returns-in_default-clause-found : goal.returns-in_default-clause-found
returns-in_default-clause-found g c content shows head = at_none c.in_ok-trees.field-0 _ _ c.in_default.is (c.in_ok-trees.ensures.found content shows head)

pub returns-in_default-clause-each : goal.returns-in_default-clause-each
returns-in_default-clause-each g c content shows head = c.in_ok-trees.ensures.each content shows head

pub returns-clause-found : goal.returns-clause-found
returns-clause-found g c content shows head =
    let old : Space = g.V.SectorView.space c.args.view.now in
    let first : Space = g.V.SectorView.space c.read_trees.new.view in
    let there = shows_still old first content shows c.read_trees.ensures.reads in
    let trees = at_some c.in_ok-trees.field-0 c.in-Some.trees _ _ c.in-Some.is (c.in_ok-trees.ensures.found content shows head) in
    lists_told content c.in-Some.trees.overflow.items c.in-Some.trees.catalog c.in-Some.trees.attributes c.read_files.result c.read_files.new.out trees (c.read_files.ensures.found content there head trees)

pub returns-clause-each : goal.returns-clause-each
returns-clause-each g c content shows head =
    let old : Space = g.V.SectorView.space c.args.view.now in
    let first : Space = g.V.SectorView.space c.read_trees.new.view in
    let there = shows_still old first content shows c.read_trees.ensures.reads in
    let trees = at_some c.in_ok-trees.field-0 c.in-Some.trees _ _ c.in-Some.is (c.in_ok-trees.ensures.found content shows head) in
    c.read_files.ensures.each content there head trees
