use Rattle.sector_disk.specs.Space.{Space}
use Rattle.hfs_volume.specs.Content.{volume_of}
use Rattle.fsck_core.proofs.CheckLaws.{checked_early, checked_all, headers_more}
use Rattle.fsck_core.proofs.ListJoins.{at_none, at_some, some_both}
use Rattle.fsck_core.proofs.ShownLaws.{shows_first, shows_still, good_there, good_still}
use Rattle.fsck_core.proofs.checking.judge_all.Goals as goal

pub read_lists-requires-clause-good : goal.read_lists-requires-clause-good
read_lists-requires-clause-good g c =
    good_still (g.V.SectorView.space c.args.view.now) (g.V.SectorView.space c.read_head.new.view) c.in-Some.head c.read_head.ensures.reads (some_both c.in_ok-head.field-0 c.in-Some.head _ c.in-Some.is c.in_ok-head.ensures.good).0

pub read_lists-requires-clause-none : goal.read_lists-requires-clause-none
read_lists-requires-clause-none g c = (some_both c.in_ok-head.field-0 c.in-Some.head _ c.in-Some.is c.in_ok-head.ensures.good).1

pub judge_lists-requires-clause-good : goal.judge_lists-requires-clause-good
judge_lists-requires-clause-good g c = (some_both c.in_ok-lists.field-0 c.in-Some-2.lists _ c.in-Some-2.is c.in_ok-lists.ensures.good).0

pub judge_lists-requires-clause-none : goal.judge_lists-requires-clause-none
judge_lists-requires-clause-none g c = (some_both c.in_ok-lists.field-0 c.in-Some-2.lists _ c.in-Some-2.is c.in_ok-lists.ensures.good).1

pub returns-in_default-clause-checked : goal.returns-in_default-clause-checked
returns-in_default-clause-checked g c tells bytes =
    let old : Space = g.V.SectorView.space c.args.view.now in
    let shows = shows_first old tells bytes (g.met.V.SectorView.well_formed c.args.view.now tells) in
    checked_early old.content c.read_head.new.out (at_none c.in_ok-head.field-0 _ _ c.in_default.is (c.in_ok-head.ensures.told old.content shows)) (c.in_ok-head.ensures.each old.content shows) (c.in_ok-head.ensures.rules old.content shows)

pub returns-in_default-2-clause-checked : goal.returns-in_default-2-clause-checked
returns-in_default-2-clause-checked g c tells bytes =
    let old : Space = g.V.SectorView.space c.args.view.now in
    let first : Space = g.V.SectorView.space c.read_head.new.view in
    let shows = shows_first old tells bytes (g.met.V.SectorView.well_formed c.args.view.now tells) in
    let there = shows_still old first old.content shows c.read_head.ensures.reads in
    let head = at_some c.in_ok-head.field-0 c.in-Some.head _ _ c.in-Some.is (c.in_ok-head.ensures.told old.content shows) in
    checked_early old.content c.read_lists.new.out (at_none c.in_ok-lists.field-0 _ _ c.in_default-2.is (c.in_ok-lists.ensures.found old.content there head.0)) (c.in_ok-lists.ensures.each old.content there head.0)
    (headers_more old.content c.read_head.new.out c.read_lists.new.out (some_both c.in_ok-head.field-0 c.in-Some.head _ c.in-Some.is c.in_ok-head.ensures.good).1 (c.in_ok-head.ensures.rules old.content shows))

pub returns-clause-checked : goal.returns-clause-checked
returns-clause-checked g c tells bytes =
    let old : Space = g.V.SectorView.space c.args.view.now in
    let first : Space = g.V.SectorView.space c.read_head.new.view in
    let shows = shows_first old tells bytes (g.met.V.SectorView.well_formed c.args.view.now tells) in
    let there = shows_still old first old.content shows c.read_head.ensures.reads in
    let head = at_some c.in_ok-head.field-0 c.in-Some.head _ _ c.in-Some.is (c.in_ok-head.ensures.told old.content shows) in
    let good = some_both c.in_ok-head.field-0 c.in-Some.head _ c.in-Some.is c.in_ok-head.ensures.good in
    let lists = at_some c.in_ok-lists.field-0 c.in-Some-2.lists _ _ c.in-Some-2.is (c.in_ok-lists.ensures.found old.content there head.0) in
    checked_all old.content c.in-Some.head c.judge_lists.new.out head.0 (good_there old old.content c.in-Some.head shows head.0 good.0) head.1 lists.1.0 lists.1.1 (c.in_ok-judge_lists.ensures (volume_of old.content) lists.0)
