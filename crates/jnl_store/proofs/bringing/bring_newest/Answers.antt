use Rattle.std.proofs.Common.{refl, ◌∙◌, arith}
use Rattle.std.specs.Prelude.{IsTrue}
use Rattle.sector_disk.specs.Disk.{content}
use Rattle.sector_disk.proofs.Writing.{same_after, sink_after}
use Rattle.jnl_format.specs.Recovery.{homes_of}
use Rattle.jnl_replay.specs.Plan.{journal_of}
use Rattle.jnl_store.proofs.BroughtHome.{all_came, coming_failed, coming_leaves, coming_none, coming_step, next_home, nowhere}
use Rattle.jnl_store.proofs.RingKept.{lists_parts}
use Rattle.jnl_store.proofs.bringing.bring_newest.Goals as goal

pub loop-k-init : goal.loop-k-init
loop-k-init g c = record {
  same = record { tells = refl; tells_left = refl; names = refl; sectors = refl };
  sink = record { told = refl; faults = refl };
  barriers = refl;
  faults = omega arith;
  value = λ tells kept. coming_none c.args.plan.now c.args.live.now.homes (g.D.SectorDisk.state c.args.disk.now);
}

pub home-home-requires : goal.home-home-requires
home-home-requires g c = omega (arith, c.loop-k-test.true, c.len-k-end.ensures)

pub loop-k-preserved : goal.loop-k-preserved
loop-k-preserved g c =
    let s0 = g.D.SectorDisk.state c.args.disk.now in
    let s1 = g.D.SectorDisk.state c.loop-k.disk in
    let s2 = g.D.SectorDisk.state c.bring_home.new.disk in
    let v = c.loop-k.invariant in
    let e = c.bring_home.ensures in
    let plan = c.args.plan.now in
    let live = c.args.live.now.homes in
    let home = c.home-home.result in
    record {
      same = same_after s0 s1 s2 v.same e.same;
      sink = sink_after s0 s1 s2 v.sink e.sink;
      barriers = e.barriers ∙ v.barriers;
      faults = omega (arith, v.faults, e.cause.later);
      value = λ tells kept.
          let is = g.met.D.SectorDisk.well_formed c.args.disk.now in
          let k = lists_parts plan live s0 kept in
          let so_far = v.value tells kept in
          let now : IsTrue s1.tells = v.same.tells ∙ tells in
          let homes = homes_of (journal_of plan) (content s0) in
          let next = next_home plan c.requires.rest live s0 is k tells c.loop-k.k s1.sectors s1 home so_far v.same.sectors c.home-home.ensures.newest in
          coming_step plan c.requires.rest live s0 is k c.loop-k.k s1 s2 home so_far v.sink (c.home-home.ensures.sector nowhere) c.home-home.ensures.newest
          (c.in_ok-bring_home.ensures.brought now homes next) (e.grows now homes next) (e.crash now homes next);
    }

pub returns-in_err-bring_home-clause-crash : goal.returns-in_err-bring_home-clause-crash
returns-in_err-bring_home-clause-crash g c tells =
    let s0 = g.D.SectorDisk.state c.args.disk.now in
    let s1 = g.D.SectorDisk.state c.loop-k.disk in
    let s2 = g.D.SectorDisk.state c.bring_home.new.disk in
    let v = c.loop-k.invariant in
    let e = c.bring_home.ensures in
    let plan = c.args.plan.now in
    let live = c.args.live.now.homes in
    let home = c.home-home.result in
    let kept = c.requires.keeps tells in
    let is = g.met.D.SectorDisk.well_formed c.args.disk.now in
    let k = lists_parts plan live s0 kept in
    let so_far = v.value tells kept in
    let now : IsTrue s1.tells = v.same.tells ∙ tells in
    let homes = homes_of (journal_of plan) (content s0) in
    let next = next_home plan c.requires.rest live s0 is k tells c.loop-k.k s1.sectors s1 home so_far v.same.sectors c.home-home.ensures.newest in
    coming_failed plan c.requires.rest live s0 is k c.loop-k.k s1 s2 so_far v.sink (e.grows now homes next) (e.crash now homes next)

pub returns-clause-brought : goal.returns-clause-brought
returns-clause-brought g c tells =
    let s0 = g.D.SectorDisk.state c.args.disk.now in
    let s1 = g.D.SectorDisk.state c.loop-k.disk in
    let plan = c.args.plan.now in
    let live = c.args.live.now.homes in
    let kept = c.requires.keeps tells in
    all_came plan c.requires.rest live s0 (g.met.D.SectorDisk.well_formed c.args.disk.now) (lists_parts plan live s0 kept) c.loop-k.k s1 (c.loop-k.invariant.value tells kept) (omega (arith, c.loop-k-test.false, c.len-k-end.ensures))

pub returns-clause-crash : goal.returns-clause-crash
returns-clause-crash g c tells =
    coming_leaves c.args.plan.now c.args.live.now.homes c.loop-k.k (g.D.SectorDisk.state c.args.disk.now) (g.D.SectorDisk.state c.loop-k.disk) (c.loop-k.invariant.value tells (c.requires.keeps tells))
