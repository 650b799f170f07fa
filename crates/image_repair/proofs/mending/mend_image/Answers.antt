use Rattle.std.proofs.Common.{inl, refl, sym, ◌∙◌, ap, subst}
use Rattle.std.specs.Prelude.{IsTrue, OnOk}
use Rattle.sector_disk.specs.Disk.{content}
use Rattle.jnl_format.specs.Recovery.{Content, replayed}
use Rattle.jnl_replay.specs.Plan.{journal_of}
use Rattle.jnl_store.specs.Spaces.{found}
use Rattle.hfs_serving.specs.Outside.{outside_of}
use Rattle.hfs_serving.specs.Readying.{StandsMounted}
use Rattle.hfs_serving.proofs.Grounding.{outside_by}
use Rattle.hfs_serving.proofs.Mounted.{leaves_on}
use Rattle.hfs_serving.proofs.Served.{finds_mounted}
use Rattle.image_repair.specs.Mending.{StandsEither, StandsRepaired}
use Rattle.image_repair.proofs.Showing.{leaves_more, plans_same, start_bytes}
use Rattle.image_repair.proofs.mending.mend_image.Goals as goal

pub returns-in_err-ready-clause-leaves : goal.returns-in_err-ready-clause-leaves
returns-in_err-ready-clause-leaves g c tells settled =
    let s0 = g.R.SectorDisk.state c.args.rig.now in
    let s1 = g.R.SectorDisk.state c.ready_image.new.disk in
    let wf = g.met.R.SectorDisk.well_formed c.args.rig.now in
    let plan = c.args.plan.now in
    let start = replayed (journal_of plan) (content s0) in
    leaves_more (StandsMounted start) (StandsEither start) (outside_of plan s0) (outside_of plan s1) (λ r stands. inl stands) (c.ready_image.ensures.leaves tells settled start (c.requires.recovers tells) refl)

pub mend_ready-requires-clause-mounted : goal.mend_ready-requires-clause-mounted
mend_ready-requires-clause-mounted g c tells1 =
    let s0 = g.R.SectorDisk.state c.args.rig.now in
    let s1 = g.R.SectorDisk.state c.ready_image.new.disk in
    let wf = g.met.R.SectorDisk.well_formed c.args.rig.now in
    let plan = c.args.plan.now in
    let start = replayed (journal_of plan) (content s0) in
    let tells = subst (λ t. IsTrue t) c.ready_image.ensures.same.tells tells1 in
    (plan.place.last_mounted, start, c.in_ok-ready.ensures.mounted tells start (c.requires.recovers tells) refl, c.requires.found tells, start_bytes plan s0 wf tells c.requires.fits (c.requires.recovers tells))

pub returns-clause-leaves : goal.returns-clause-leaves
returns-clause-leaves g c tells settled =
    let s0 = g.R.SectorDisk.state c.args.rig.now in
    let s1 = g.R.SectorDisk.state c.ready_image.new.disk in
    let wf = g.met.R.SectorDisk.well_formed c.args.rig.now in
    let plan = c.args.plan.now in
    let start = replayed (journal_of plan) (content s0) in
    let tells1 = subst (λ t. IsTrue t) (sym c.ready_image.ensures.same.tells) tells in
    let mounted = c.in_ok-ready.ensures.mounted tells start (c.requires.recovers tells) refl in
    let bytes = start_bytes plan s0 wf tells c.requires.fits (c.requires.recovers tells) in
    let s2 = g.R.SectorDisk.state c.mend_ready.new.rig in
    let same = ap found c.in_ok-ready.ensures.plan ∙ finds_mounted plan in
    let first = c.ready_image.ensures.leaves tells settled start (c.requires.recovers tells) refl in
    let now = subst (λ (f : Content → Content). (r : Content) → (outside_by f s1).leaves r → StandsMounted start r) (sym same) first.leaves in
    leaves_on (StandsEither start) (outside_of plan s0) (outside_of plan s1) (outside_of plan s2) (leaves_more (StandsMounted start) (StandsEither start) (outside_of plan s0) (outside_of plan s1) (λ r stands. inl stands) first)
    (plans_same (StandsEither start) c.in_ok-ready.ready plan s1 s2 same (c.mend_ready.ensures.leaves tells1 plan.place.last_mounted start mounted (c.requires.found tells) bytes now))

pub returns-clause-done : goal.returns-clause-done
returns-clause-done g c tells =
    let s0 = g.R.SectorDisk.state c.args.rig.now in
    let s1 = g.R.SectorDisk.state c.ready_image.new.disk in
    let wf = g.met.R.SectorDisk.well_formed c.args.rig.now in
    let plan = c.args.plan.now in
    let start = replayed (journal_of plan) (content s0) in
    let tells1 = subst (λ t. IsTrue t) (sym c.ready_image.ensures.same.tells) tells in
    let mounted = c.in_ok-ready.ensures.mounted tells start (c.requires.recovers tells) refl in
    let bytes = start_bytes plan s0 wf tells c.requires.fits (c.requires.recovers tells) in
    c.mend_ready.ensures.done tells1 plan.place.last_mounted start mounted (c.requires.found tells) bytes

pub returns-clause-stands : goal.returns-clause-stands
returns-clause-stands g c tells =
    let s0 = g.R.SectorDisk.state c.args.rig.now in
    let s1 = g.R.SectorDisk.state c.ready_image.new.disk in
    let wf = g.met.R.SectorDisk.well_formed c.args.rig.now in
    let plan = c.args.plan.now in
    let start = replayed (journal_of plan) (content s0) in
    let tells1 = subst (λ t. IsTrue t) (sym c.ready_image.ensures.same.tells) tells in
    let mounted = c.in_ok-ready.ensures.mounted tells start (c.requires.recovers tells) refl in
    let bytes = start_bytes plan s0 wf tells c.requires.fits (c.requires.recovers tells) in
    let s2 = g.R.SectorDisk.state c.mend_ready.new.rig in
    let same = ap found c.in_ok-ready.ensures.plan ∙ finds_mounted plan in
    subst (λ (f : Content → Content). OnOk c.mend_ready.result ((recovered : Content) → (outside_by f s2).leaves recovered → StandsRepaired start recovered)) same
    (c.mend_ready.ensures.stands tells1 plan.place.last_mounted start mounted (c.requires.found tells) bytes)

pub returns-clause-count : goal.returns-clause-count
returns-clause-count g c tells =
    let s0 = g.R.SectorDisk.state c.args.rig.now in
    let s1 = g.R.SectorDisk.state c.ready_image.new.disk in
    let wf = g.met.R.SectorDisk.well_formed c.args.rig.now in
    let plan = c.args.plan.now in
    let start = replayed (journal_of plan) (content s0) in
    let tells1 = subst (λ t. IsTrue t) (sym c.ready_image.ensures.same.tells) tells in
    let mounted = c.in_ok-ready.ensures.mounted tells start (c.requires.recovers tells) refl in
    let bytes = start_bytes plan s0 wf tells c.requires.fits (c.requires.recovers tells) in
    c.mend_ready.ensures.count tells1 plan.place.last_mounted start mounted (c.requires.found tells) bytes
