use Rattle.std.proofs.Common.{refl, sym, ◌∙◌, inl, subst}
use Rattle.std.specs.Prelude.{IsTrue}
use Rattle.jnl_replay.specs.Plan.{FitsPlan}
use Rattle.jnl_replay.specs.declared.plan.Plan.{Plan}
use Rattle.hfs_serving.specs.Readying.{IsMadeReady, IsMountedFrom, Readies}
use Rattle.hfs_serving.proofs.Leading.{place_none}
use Rattle.hfs_serving.proofs.Mounted.{replay_leaves, set_leaves_mounted, set_mounted}
use Rattle.hfs_serving.proofs.Readied.{fits_mounted, set_done, set_made, set_may, settled_by}
use Rattle.hfs_serving.proofs.Replays.{replay_turns}
use Rattle.hfs_serving.proofs.readying.ready_image.Goals as goal

pub returns-in_err-replay-clause-crash : goal.returns-in_err-replay-clause-crash
returns-in_err-replay-clause-crash g c tells settled start recovers same sound =
    let s0 = g.D.SectorDisk.state c.args.disk.now in
    let s1 = g.D.SectorDisk.state c.replay.new.disk in
    record {
      now = start;
      versioned = inl refl;
      place = place_none start;
      may = (replay_turns c.args.plan.now s0 s1 s0.sectors c.requires.fits (c.requires.plan tells) start recovers same (c.replay.ensures.crash tells settled) c.replay.ensures.sink).may;
    }

pub set_version-requires-clause-settled : goal.set_version-requires-clause-settled
set_version-requires-clause-settled g c tells =
    settled_by (g.D.SectorDisk.state c.replay.new.disk) _ (c.in_ok-replay.ensures.replayed (subst (λ t. IsTrue t) c.replay.ensures.same.tells tells))

pub returns-in_err-set_version-clause-crash : goal.returns-in_err-set_version-clause-crash
returns-in_err-set_version-clause-crash g c tells settled start recovers same sound =
    let s0 = g.D.SectorDisk.state c.args.disk.now in
    let s1 = g.D.SectorDisk.state c.replay.new.disk in
    let s2 = g.D.SectorDisk.state c.set_version.new.disk in
    set_may c.mount_keeps_the_tree.ensures c.header_round_trip.ensures.read_back c.args.plan.now s0 s1 s2 (g.met.D.SectorDisk.well_formed c.args.disk.now) (g.met.D.SectorDisk.well_formed c.replay.new.disk) tells c.requires.fits (c.requires.plan tells)
    (c.in_ok-replay.ensures.replayed tells) start recovers same sound (c.replay.ensures.crash tells settled) c.replay.ensures.sink c.set_version.ensures.sink (c.set_version.ensures.crash (subst (λ t. IsTrue t) (sym c.replay.ensures.same.tells) tells))

pub returns-clause-crash : goal.returns-clause-crash
returns-clause-crash g c tells settled start recovers same sound =
    let s0 = g.D.SectorDisk.state c.args.disk.now in
    let s1 = g.D.SectorDisk.state c.replay.new.disk in
    let s2 = g.D.SectorDisk.state c.set_version.new.disk in
    set_may c.mount_keeps_the_tree.ensures c.header_round_trip.ensures.read_back c.args.plan.now s0 s1 s2 (g.met.D.SectorDisk.well_formed c.args.disk.now) (g.met.D.SectorDisk.well_formed c.replay.new.disk) tells c.requires.fits (c.requires.plan tells)
    (c.in_ok-replay.ensures.replayed tells) start recovers same sound (c.replay.ensures.crash tells settled) c.replay.ensures.sink c.set_version.ensures.sink (c.set_version.ensures.crash (subst (λ t. IsTrue t) (sym c.replay.ensures.same.tells) tells))

pub returns-clause-ready : goal.returns-clause-ready
returns-clause-ready g c tells settled start recovers same sound =
    let s0 = g.D.SectorDisk.state c.args.disk.now in
    let s1 = g.D.SectorDisk.state c.replay.new.disk in
    let s2 = g.D.SectorDisk.state c.set_version.new.disk in
    let tells_mid = subst (λ t. IsTrue t) (sym c.replay.ensures.same.tells) tells in
    subst (λ (q : Plan). Readies c.args.plan.now start q s0 s2) (sym c.ready_plan.ensures)
    (set_done c.mount_keeps_the_tree.ensures c.header_round_trip.ensures.read_back c.args.plan.now s0 s1 s2 (g.met.D.SectorDisk.well_formed c.args.disk.now) (g.met.D.SectorDisk.well_formed c.replay.new.disk) tells c.requires.fits (c.requires.plan tells)
    (c.in_ok-replay.ensures.replayed tells) start recovers same sound (c.replay.ensures.crash tells settled) c.replay.ensures.sink c.set_version.ensures.sink (c.set_version.ensures.crash tells_mid) (c.in_ok-set_version.ensures.written tells_mid))

pub returns-clause-fits : goal.returns-clause-fits
returns-clause-fits g c =
    let s2 = g.D.SectorDisk.state c.set_version.new.disk in
    subst (λ (q : Plan). FitsPlan s2.sectors q) (sym c.ready_plan.ensures)
    (fits_mounted c.args.plan.now s2.sectors (subst (λ n. FitsPlan n c.args.plan.now) (sym (c.set_version.ensures.same.sectors ∙ c.replay.ensures.same.sectors)) c.requires.fits))

pub returns-clause-made : goal.returns-clause-made
returns-clause-made g c tells start recovers same sound =
    let s0 = g.D.SectorDisk.state c.args.disk.now in
    let s1 = g.D.SectorDisk.state c.replay.new.disk in
    let s2 = g.D.SectorDisk.state c.set_version.new.disk in
    let tells_mid = subst (λ t. IsTrue t) (sym c.replay.ensures.same.tells) tells in
    subst (λ (q : Plan). IsMadeReady start q s2) (sym c.ready_plan.ensures)
    (set_made c.mount_keeps_the_tree.ensures c.header_round_trip.ensures.read_back c.args.plan.now s0 s1 s2 (g.met.D.SectorDisk.well_formed c.args.disk.now) (g.met.D.SectorDisk.well_formed c.replay.new.disk) tells c.requires.fits (c.requires.plan tells)
    (c.in_ok-replay.ensures.replayed tells) start recovers same sound (c.in_ok-set_version.ensures.written tells_mid))

pub returns-in_err-replay-clause-leaves : goal.returns-in_err-replay-clause-leaves
returns-in_err-replay-clause-leaves g c tells settled start recovers same =
    let s0 = g.D.SectorDisk.state c.args.disk.now in
    let s1 = g.D.SectorDisk.state c.replay.new.disk in
    replay_leaves c.args.plan.now s0 s1 s0.sectors c.requires.fits (c.requires.plan tells) start recovers same (c.replay.ensures.crash tells settled) c.replay.ensures.sink

pub returns-in_err-set_version-clause-leaves : goal.returns-in_err-set_version-clause-leaves
returns-in_err-set_version-clause-leaves g c tells settled start recovers same =
    let s0 = g.D.SectorDisk.state c.args.disk.now in
    let s1 = g.D.SectorDisk.state c.replay.new.disk in
    let s2 = g.D.SectorDisk.state c.set_version.new.disk in
    set_leaves_mounted c.header_round_trip.ensures.read_back c.args.plan.now s0 s1 s2 (g.met.D.SectorDisk.well_formed c.args.disk.now) (g.met.D.SectorDisk.well_formed c.replay.new.disk) tells c.requires.fits (c.requires.plan tells)
    (c.in_ok-replay.ensures.replayed tells) start recovers same (c.replay.ensures.crash tells settled) c.replay.ensures.sink c.set_version.ensures.sink (c.set_version.ensures.crash (subst (λ t. IsTrue t) (sym c.replay.ensures.same.tells) tells))

pub returns-clause-leaves : goal.returns-clause-leaves
returns-clause-leaves g c tells settled start recovers same =
    let s0 = g.D.SectorDisk.state c.args.disk.now in
    let s1 = g.D.SectorDisk.state c.replay.new.disk in
    let s2 = g.D.SectorDisk.state c.set_version.new.disk in
    set_leaves_mounted c.header_round_trip.ensures.read_back c.args.plan.now s0 s1 s2 (g.met.D.SectorDisk.well_formed c.args.disk.now) (g.met.D.SectorDisk.well_formed c.replay.new.disk) tells c.requires.fits (c.requires.plan tells)
    (c.in_ok-replay.ensures.replayed tells) start recovers same (c.replay.ensures.crash tells settled) c.replay.ensures.sink c.set_version.ensures.sink (c.set_version.ensures.crash (subst (λ t. IsTrue t) (sym c.replay.ensures.same.tells) tells))

pub returns-clause-mounted : goal.returns-clause-mounted
returns-clause-mounted g c tells start recovers same =
    let s0 = g.D.SectorDisk.state c.args.disk.now in
    let s1 = g.D.SectorDisk.state c.replay.new.disk in
    let s2 = g.D.SectorDisk.state c.set_version.new.disk in
    let tells_mid = subst (λ t. IsTrue t) (sym c.replay.ensures.same.tells) tells in
    subst (λ (q : Plan). IsMountedFrom c.args.plan.now.place.last_mounted start q s2) (sym c.ready_plan.ensures)
    (set_mounted c.header_round_trip.ensures.read_back c.args.plan.now s0 s1 s2 (g.met.D.SectorDisk.well_formed c.args.disk.now) (g.met.D.SectorDisk.well_formed c.replay.new.disk) tells c.requires.fits (c.requires.plan tells)
    (c.in_ok-replay.ensures.replayed tells) start recovers same (c.in_ok-set_version.ensures.written tells_mid))
