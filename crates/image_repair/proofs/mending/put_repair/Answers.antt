use Rattle.std.proofs.Common.{sym, subst}
use Rattle.std.specs.Prelude.{IsTrue}
use Rattle.jnl_store.specs.Seen.{seen}
use Rattle.jnl_store.specs.Store.{plan_of}
use Rattle.hfs_serving.specs.Outside.{outside_of}
use Rattle.hfs_serving.proofs.Causes.{counts_both, faults_behind, fine}
use Rattle.hfs_serving.proofs.Grounding.{sizes_over}
use Rattle.hfs_serving.proofs.Mounted.{leaves_on}
use Rattle.image_repair.specs.Mending.{StandsEither}
use Rattle.image_repair.proofs.Mended.{brought_home, commit_leaves, count_is, mount_is, open_is, put_heads, rest_leaves, rest_stands, stage_put, three_leave}
use Rattle.image_repair.proofs.mending.put_repair.Goals as goal

pub put_renewed-requires-clause-open : goal.put_renewed-requires-clause-open
put_renewed-requires-clause-open g c tells =
    let base = c.args.base.now in
    let there = c.requires.shows tells in
    open_is c.repair_stays_remounted.ensures there.0 c.args.found.changes.items (seen g.R.SectorDisk.state base) (outside_of (plan_of base.store.now) (g.R.SectorDisk.state base.disk.now)) there.1 there.2

pub returns-in_err-put-clause-leaves : goal.returns-in_err-put-clause-leaves
returns-in_err-put-clause-leaves g c tells start shows may =
    let base = c.args.base.now in
    let put = c.put_renewed.new.space in
    let d0 = g.R.SectorDisk.state base.disk.now in
    let d1 = g.R.SectorDisk.state put.disk.now in
    let s0 = seen g.R.SectorDisk.state base in
    let s1 = seen g.R.SectorDisk.state put in
    let out0 = outside_of (plan_of base.store.now) d0 in
    let out1 = outside_of (plan_of put.store.now) d1 in
    let law = c.repair_stays_remounted.ensures in
    let n = c.args.found.changes.items in
    let e = c.put_renewed.ensures in
    let first =
    stage_put law start n base.store.ghost_name base.disk.ghost_name put.store.ghost_name put.disk.ghost_name base.store.now put.store.now d0 d1 c.requires.serves.0 (g.met.R.SectorDisk.well_formed put.disk.now) e.below c.requires.serves.1 tells shows may (e.durable tells) (e.spilled tells)
    (e.closed tells) (e.time tells) e.same.told in
    first

pub commit-requires-clause-heads : goal.commit-requires-clause-heads
commit-requires-clause-heads g c tells1 =
    let base = c.args.base.now in
    let put = c.put_renewed.new.space in
    let d0 = g.R.SectorDisk.state base.disk.now in
    let d1 = g.R.SectorDisk.state put.disk.now in
    let s0 = seen g.R.SectorDisk.state base in
    let s1 = seen g.R.SectorDisk.state put in
    let out0 = outside_of (plan_of base.store.now) d0 in
    let out1 = outside_of (plan_of put.store.now) d1 in
    let law = c.repair_stays_remounted.ensures in
    let n = c.args.found.changes.items in
    let e = c.put_renewed.ensures in
    let tells = subst (λ t. IsTrue t) e.same.tells tells1 in
    let there = c.requires.shows tells in
    let is = c.in_ok-put.ensures.repair tells there.0 there.2 (mount_is law there.0 n s0 out0 there.1 there.2) in
    put_heads law there.0 n s0 out0 there.1 there.2 s1 (e.durable tells) (e.spilled tells) (e.closed tells) is (sizes_over put.store.ghost_name put.disk.ghost_name put.store.now d1)

pub returns-in_err-commit-clause-leaves : goal.returns-in_err-commit-clause-leaves
returns-in_err-commit-clause-leaves g c tells start shows may =
    let base = c.args.base.now in
    let put = c.put_renewed.new.space in
    let d0 = g.R.SectorDisk.state base.disk.now in
    let d1 = g.R.SectorDisk.state put.disk.now in
    let s0 = seen g.R.SectorDisk.state base in
    let s1 = seen g.R.SectorDisk.state put in
    let out0 = outside_of (plan_of base.store.now) d0 in
    let out1 = outside_of (plan_of put.store.now) d1 in
    let law = c.repair_stays_remounted.ensures in
    let n = c.args.found.changes.items in
    let e = c.put_renewed.ensures in
    let first =
    stage_put law start n base.store.ghost_name base.disk.ghost_name put.store.ghost_name put.disk.ghost_name base.store.now put.store.now d0 d1 c.requires.serves.0 (g.met.R.SectorDisk.well_formed put.disk.now) e.below c.requires.serves.1 tells shows may (e.durable tells) (e.spilled tells)
    (e.closed tells) (e.time tells) e.same.told in
    let committed = c.commit.new.self in
    let d2 = g.R.SectorDisk.state committed.disk.now in
    let s2 = seen g.R.SectorDisk.state committed in
    let out2 = outside_of (plan_of committed.store.now) d2 in
    let tells1 = subst (λ t. IsTrue t) (sym e.same.tells) tells in
    let mount = mount_is law start n s0 out0 shows may in
    let is = c.in_ok-put.ensures.repair tells start may mount in
    leaves_on (StandsEither start) out0 out1 out2 first (commit_leaves law start n s0 out0 shows may s1 (e.durable tells) (e.spilled tells) (e.closed tells) is out1 out2 (c.commit.ensures.crash tells1))

pub rest-requires-clause-serves : goal.rest-requires-clause-serves
rest-requires-clause-serves g c =
    let capacity = c.requires.serves.0 in
    (capacity, c.in_ok-commit.ensures.still capacity (c.look.ensures.still capacity c.args.base.now c.put_renewed.ensures.below c.requires.serves.1))

pub returns-in_err-rest-clause-leaves : goal.returns-in_err-rest-clause-leaves
returns-in_err-rest-clause-leaves g c tells start shows may =
    let base = c.args.base.now in
    let put = c.put_renewed.new.space in
    let d0 = g.R.SectorDisk.state base.disk.now in
    let d1 = g.R.SectorDisk.state put.disk.now in
    let s0 = seen g.R.SectorDisk.state base in
    let s1 = seen g.R.SectorDisk.state put in
    let out0 = outside_of (plan_of base.store.now) d0 in
    let out1 = outside_of (plan_of put.store.now) d1 in
    let law = c.repair_stays_remounted.ensures in
    let n = c.args.found.changes.items in
    let e = c.put_renewed.ensures in
    let first =
    stage_put law start n base.store.ghost_name base.disk.ghost_name put.store.ghost_name put.disk.ghost_name base.store.now put.store.now d0 d1 c.requires.serves.0 (g.met.R.SectorDisk.well_formed put.disk.now) e.below c.requires.serves.1 tells shows may (e.durable tells) (e.spilled tells)
    (e.closed tells) (e.time tells) e.same.told in
    let committed = c.commit.new.self in
    let d2 = g.R.SectorDisk.state committed.disk.now in
    let s2 = seen g.R.SectorDisk.state committed in
    let out2 = outside_of (plan_of committed.store.now) d2 in
    let tells1 = subst (λ t. IsTrue t) (sym e.same.tells) tells in
    let mount = mount_is law start n s0 out0 shows may in
    let is = c.in_ok-put.ensures.repair tells start may mount in
    let home = c.rest.new.base in
    let d3 = g.R.SectorDisk.state home.disk.now in
    let s3 = seen g.R.SectorDisk.state home in
    let out3 = outside_of (plan_of home.store.now) d3 in
    let tells2 = subst (λ t. IsTrue t) (sym c.in_ok-commit.ensures.tells) tells1 in
    let commits = c.in_ok-commit.ensures.done tells1 in
    three_leave start out0 out1 out2 out3 first (commit_leaves law start n s0 out0 shows may s1 (e.durable tells) (e.spilled tells) (e.closed tells) is out1 out2 (c.commit.ensures.crash tells1)) (rest_leaves law start n s0 out0 shows may s1 (e.durable tells) (e.spilled tells) (e.closed tells) is out1 s2 out2 commits out3 (c.rest.ensures.crash tells2))

pub returns-clause-leaves : goal.returns-clause-leaves
returns-clause-leaves g c tells start shows may =
    let base = c.args.base.now in
    let put = c.put_renewed.new.space in
    let d0 = g.R.SectorDisk.state base.disk.now in
    let d1 = g.R.SectorDisk.state put.disk.now in
    let s0 = seen g.R.SectorDisk.state base in
    let s1 = seen g.R.SectorDisk.state put in
    let out0 = outside_of (plan_of base.store.now) d0 in
    let out1 = outside_of (plan_of put.store.now) d1 in
    let law = c.repair_stays_remounted.ensures in
    let n = c.args.found.changes.items in
    let e = c.put_renewed.ensures in
    let first =
    stage_put law start n base.store.ghost_name base.disk.ghost_name put.store.ghost_name put.disk.ghost_name base.store.now put.store.now d0 d1 c.requires.serves.0 (g.met.R.SectorDisk.well_formed put.disk.now) e.below c.requires.serves.1 tells shows may (e.durable tells) (e.spilled tells)
    (e.closed tells) (e.time tells) e.same.told in
    let committed = c.commit.new.self in
    let d2 = g.R.SectorDisk.state committed.disk.now in
    let s2 = seen g.R.SectorDisk.state committed in
    let out2 = outside_of (plan_of committed.store.now) d2 in
    let tells1 = subst (λ t. IsTrue t) (sym e.same.tells) tells in
    let mount = mount_is law start n s0 out0 shows may in
    let is = c.in_ok-put.ensures.repair tells start may mount in
    let home = c.rest.new.base in
    let d3 = g.R.SectorDisk.state home.disk.now in
    let s3 = seen g.R.SectorDisk.state home in
    let out3 = outside_of (plan_of home.store.now) d3 in
    let tells2 = subst (λ t. IsTrue t) (sym c.in_ok-commit.ensures.tells) tells1 in
    let commits = c.in_ok-commit.ensures.done tells1 in
    three_leave start out0 out1 out2 out3 first (commit_leaves law start n s0 out0 shows may s1 (e.durable tells) (e.spilled tells) (e.closed tells) is out1 out2 (c.commit.ensures.crash tells1)) (rest_leaves law start n s0 out0 shows may s1 (e.durable tells) (e.spilled tells) (e.closed tells) is out1 s2 out2 commits out3 (c.rest.ensures.crash tells2))

pub returns-clause-done : goal.returns-clause-done
returns-clause-done g c tells start shows may =
    let base = c.args.base.now in
    let put = c.put_renewed.new.space in
    let d0 = g.R.SectorDisk.state base.disk.now in
    let d1 = g.R.SectorDisk.state put.disk.now in
    let s0 = seen g.R.SectorDisk.state base in
    let s1 = seen g.R.SectorDisk.state put in
    let out0 = outside_of (plan_of base.store.now) d0 in
    let out1 = outside_of (plan_of put.store.now) d1 in
    let law = c.repair_stays_remounted.ensures in
    let n = c.args.found.changes.items in
    let e = c.put_renewed.ensures in
    let committed = c.commit.new.self in
    let d2 = g.R.SectorDisk.state committed.disk.now in
    let s2 = seen g.R.SectorDisk.state committed in
    let out2 = outside_of (plan_of committed.store.now) d2 in
    let tells1 = subst (λ t. IsTrue t) (sym e.same.tells) tells in
    let mount = mount_is law start n s0 out0 shows may in
    let is = c.in_ok-put.ensures.repair tells start may mount in
    let home = c.rest.new.base in
    let d3 = g.R.SectorDisk.state home.disk.now in
    let s3 = seen g.R.SectorDisk.state home in
    let out3 = outside_of (plan_of home.store.now) d3 in
    let tells2 = subst (λ t. IsTrue t) (sym c.in_ok-commit.ensures.tells) tells1 in
    let commits = c.in_ok-commit.ensures.done tells1 in
    brought_home law start n s0 out0 shows may s1 (e.durable tells) (e.spilled tells) (e.closed tells) is out1 s2 out2 commits s3 out3 d3 (sizes_over committed.store.ghost_name committed.disk.ghost_name committed.store.now d2) (c.in_ok-commit.ensures.heads tells1) (c.in_ok-rest.ensures.done tells2) (c.in_ok-rest.ensures.rests tells2)

pub returns-clause-stands : goal.returns-clause-stands
returns-clause-stands g c tells start shows may =
    let base = c.args.base.now in
    let put = c.put_renewed.new.space in
    let d0 = g.R.SectorDisk.state base.disk.now in
    let d1 = g.R.SectorDisk.state put.disk.now in
    let s0 = seen g.R.SectorDisk.state base in
    let s1 = seen g.R.SectorDisk.state put in
    let out0 = outside_of (plan_of base.store.now) d0 in
    let out1 = outside_of (plan_of put.store.now) d1 in
    let law = c.repair_stays_remounted.ensures in
    let n = c.args.found.changes.items in
    let e = c.put_renewed.ensures in
    let committed = c.commit.new.self in
    let d2 = g.R.SectorDisk.state committed.disk.now in
    let s2 = seen g.R.SectorDisk.state committed in
    let out2 = outside_of (plan_of committed.store.now) d2 in
    let tells1 = subst (λ t. IsTrue t) (sym e.same.tells) tells in
    let mount = mount_is law start n s0 out0 shows may in
    let is = c.in_ok-put.ensures.repair tells start may mount in
    let home = c.rest.new.base in
    let d3 = g.R.SectorDisk.state home.disk.now in
    let s3 = seen g.R.SectorDisk.state home in
    let out3 = outside_of (plan_of home.store.now) d3 in
    let tells2 = subst (λ t. IsTrue t) (sym c.in_ok-commit.ensures.tells) tells1 in
    let commits = c.in_ok-commit.ensures.done tells1 in
    rest_stands law start n s0 out0 shows may s1 (e.durable tells) (e.spilled tells) (e.closed tells) is out1 s2 out2 commits out3 (c.rest.ensures.crash tells2)

pub returns-clause-count : goal.returns-clause-count
returns-clause-count g c tells start shows may =
    let base = c.args.base.now in
    let put = c.put_renewed.new.space in
    let d0 = g.R.SectorDisk.state base.disk.now in
    let d1 = g.R.SectorDisk.state put.disk.now in
    let s0 = seen g.R.SectorDisk.state base in
    let s1 = seen g.R.SectorDisk.state put in
    let out0 = outside_of (plan_of base.store.now) d0 in
    let out1 = outside_of (plan_of put.store.now) d1 in
    let law = c.repair_stays_remounted.ensures in
    let n = c.args.found.changes.items in
    let e = c.put_renewed.ensures in
    let mount = mount_is law start n s0 out0 shows may in
    let is = c.in_ok-put.ensures.repair tells start may mount in
    count_is law start n s0 out0 shows may s1.content c.in_ok-put.put is (c.in_ok-put.ensures.count tells start may mount)

pub returns-in_err-commit-clause-faults : goal.returns-in_err-commit-clause-faults
returns-in_err-commit-clause-faults g c =
    faults_behind _ _ _ _ _ _ _ (c.look.ensures.counts c.args.base.now c.put_renewed.ensures.below c.put_renewed.ensures.same.sink_faults) c.commit.ensures.counts c.in_err-commit.ensures.cause

pub returns-in_err-rest-clause-faults : goal.returns-in_err-rest-clause-faults
returns-in_err-rest-clause-faults g c =
    faults_behind _ _ _ _ _ _ _ (counts_both (c.look.ensures.counts c.args.base.now c.put_renewed.ensures.below c.put_renewed.ensures.same.sink_faults) c.commit.ensures.counts) c.rest.ensures.counts c.in_err-rest.ensures.cause

pub returns-clause-faults : goal.returns-clause-faults
returns-clause-faults g c = fine (counts_both (counts_both (c.look.ensures.counts c.args.base.now c.put_renewed.ensures.below c.put_renewed.ensures.same.sink_faults) c.commit.ensures.counts) c.rest.ensures.counts) _
