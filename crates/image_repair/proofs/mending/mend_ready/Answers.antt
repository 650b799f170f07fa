use Rattle.std.proofs.Common.{◌≤◌, ℕ, List, get_or, inl, sym, ◌∙◌, ap, subst, arith}
use Rattle.std.specs.Prelude.{OnOk}
use Rattle.hx_bytes.specs.declared.faults.Trouble.TheVariants as trouble
use Rattle.sector_disk.specs.Disk.{SameDisk, content}
use Rattle.jnl_format.specs.Recovery.{Content}
use Rattle.jnl_store.specs.Store.{plan_of}
use Rattle.line_source.specs.Cause.{IsCause}
use Rattle.hfs_serving.specs.Outside.{outside_of}
use Rattle.hfs_serving.specs.Stages.{MayLeave}
use Rattle.hfs_serving.proofs.Attachable.{finds_ready, keeps_on}
use Rattle.hfs_serving.proofs.Grounding.{keeps_tells, outside_by, told_disk}
use Rattle.hfs_serving.proofs.Promising.{finds_by}
use Rattle.image_repair.specs.Mending.{IsBroughtHome, StandsEither, StandsRepaired}
use Rattle.image_repair.proofs.Showing.{capacity_held, none_leaves, plans_leave, shows_mounted}
use Rattle.image_repair.proofs.mending.mend_ready.Goals as goal

pub returns-in_err-store-clause-leaves : goal.returns-in_err-store-clause-leaves
returns-in_err-store-clause-leaves g c tells version start mounted may bytes now = none_leaves (StandsEither start) (outside_of c.args.plan.now (g.R.SectorDisk.state c.args.rig.now)) (λ r left. inl (now r left))

pub invariant_of-base : goal.invariant_of-base
invariant_of-base g c =
    let disk = c.args.rig.now in
    let d0 = g.R.SectorDisk.state disk in
    let wf = g.met.R.SectorDisk.well_formed disk in
    let plan = c.args.plan.now in
    let store = c.in_ok-store.store in
    let attached = c.in_ok-store.ensures disk c.requires.fits in
    record { kept = λ none tells. (keeps_on store plan d0 attached wf tells (content d0) (c.requires.mounted tells).2.is_ready).1 }

pub put_repair-requires-clause-serves : goal.put_repair-requires-clause-serves
put_repair-requires-clause-serves g c =
    let disk = c.args.rig.now in
    let d0 = g.R.SectorDisk.state disk in
    let wf = g.met.R.SectorDisk.well_formed disk in
    let plan = c.args.plan.now in
    let store = c.in_ok-store.store in
    let attached = c.in_ok-store.ensures disk c.requires.fits in
    let capacity = c.requires.holds.0 in
    let held = capacity_held store plan attached.plan_is capacity c.requires.holds.1 in
    (capacity, record { fits = attached.fits; holds = held; room = attached.no_more capacity held; keeps = λ tells. keeps_on store plan d0 attached wf tells (content d0) (c.requires.mounted tells).2.is_ready })

pub put_repair-requires-clause-room : goal.put_repair-requires-clause-room
put_repair-requires-clause-room g c =
    let disk = c.args.rig.now in
    let d0 = g.R.SectorDisk.state disk in
    let wf = g.met.R.SectorDisk.well_formed disk in
    let plan = c.args.plan.now in
    let store = c.in_ok-store.store in
    let attached = c.in_ok-store.ensures disk c.requires.fits in
    let capacity = c.requires.holds.0 in
    let held = capacity_held store plan attached.plan_is capacity c.requires.holds.1 in
    omega (arith, attached.room capacity held, c.requires.holds.2)

pub put_repair-requires-clause-shows : goal.put_repair-requires-clause-shows
put_repair-requires-clause-shows g c tells_space =
    let disk = c.args.rig.now in
    let d0 = g.R.SectorDisk.state disk in
    let wf = g.met.R.SectorDisk.well_formed disk in
    let plan = c.args.plan.now in
    let store = c.in_ok-store.store in
    let attached = c.in_ok-store.ensures disk c.requires.fits in
    let tells = told_disk c.store-2-1.given.0 c.base-1.given store d0 tells_space in
    let there = c.requires.mounted tells in
    (there.1, shows_mounted store plan d0 attached wf tells there.0 there.1 there.2 there.4 c.store-2-1.given.0 c.base-1.given, there.3)

pub returns-clause-leaves : goal.returns-clause-leaves
returns-clause-leaves g c tells version start mounted may bytes now =
    let disk = c.args.rig.now in
    let d0 = g.R.SectorDisk.state disk in
    let wf = g.met.R.SectorDisk.well_formed disk in
    let plan = c.args.plan.now in
    let store = c.in_ok-store.store in
    let attached = c.in_ok-store.ensures disk c.requires.fits in
    let shows = shows_mounted store plan d0 attached wf tells version start mounted bytes c.store-2-1.given.0 c.base-1.given in
    let space_tells = keeps_tells c.store-2-1.given.0 c.base-1.given store d0 (keeps_on store plan d0 attached wf tells (content d0) mounted.is_ready) in
    let base = c.put_repair.new.base in
    let rig_is = c.rig-1.given.1 (sym (ap (λ (l : List ℕ). get_or l 1 0) c.put_repair.ensures.names)) in
    subst (λ (r : g.row.R.Denot). MayLeave (StandsEither start) (outside_of plan d0) (outside_of plan (g.R.SectorDisk.state r))) (sym rig_is)
    (plans_leave (StandsEither start) (plan_of store) (plan_of base.store.now) plan d0 (g.R.SectorDisk.state base.disk.now) (finds_ready store plan d0 attached) c.put_repair.ensures.anchor (c.put_repair.ensures.leaves space_tells start shows may))

pub returns-clause-done : goal.returns-clause-done
returns-clause-done g c tells version start mounted may bytes =
    let disk = c.args.rig.now in
    let d0 = g.R.SectorDisk.state disk in
    let wf = g.met.R.SectorDisk.well_formed disk in
    let plan = c.args.plan.now in
    let store = c.in_ok-store.store in
    let attached = c.in_ok-store.ensures disk c.requires.fits in
    let shows = shows_mounted store plan d0 attached wf tells version start mounted bytes c.store-2-1.given.0 c.base-1.given in
    let space_tells = keeps_tells c.store-2-1.given.0 c.base-1.given store d0 (keeps_on store plan d0 attached wf tells (content d0) mounted.is_ready) in
    let base = c.put_repair.new.base in
    let rig_is = c.rig-1.given.1 (sym (ap (λ (l : List ℕ). get_or l 1 0) c.put_repair.ensures.names)) in
    subst (λ (r : g.row.R.Denot). OnOk c.put_repair.result (IsBroughtHome (g.R.SectorDisk.state r))) (sym rig_is) (c.put_repair.ensures.done space_tells start shows may)

pub returns-clause-stands : goal.returns-clause-stands
returns-clause-stands g c tells version start mounted may bytes =
    let disk = c.args.rig.now in
    let d0 = g.R.SectorDisk.state disk in
    let wf = g.met.R.SectorDisk.well_formed disk in
    let plan = c.args.plan.now in
    let store = c.in_ok-store.store in
    let attached = c.in_ok-store.ensures disk c.requires.fits in
    let shows = shows_mounted store plan d0 attached wf tells version start mounted bytes c.store-2-1.given.0 c.base-1.given in
    let space_tells = keeps_tells c.store-2-1.given.0 c.base-1.given store d0 (keeps_on store plan d0 attached wf tells (content d0) mounted.is_ready) in
    let base = c.put_repair.new.base in
    let rig_is = c.rig-1.given.1 (sym (ap (λ (l : List ℕ). get_or l 1 0) c.put_repair.ensures.names)) in
    subst (λ (r : g.row.R.Denot). OnOk c.put_repair.result ((recovered : Content) → (outside_of plan (g.R.SectorDisk.state r)).leaves recovered → StandsRepaired start recovered)) (sym rig_is)
    (subst (λ (f : Content → Content). OnOk c.put_repair.result ((recovered : Content) → (outside_by f (g.R.SectorDisk.state base.disk.now)).leaves recovered → StandsRepaired start recovered)) (finds_by (plan_of base.store.now) (plan_of store) c.put_repair.ensures.anchor ∙ finds_ready store plan d0 attached)
    (c.put_repair.ensures.stands space_tells start shows may))

pub returns-clause-count : goal.returns-clause-count
returns-clause-count g c tells version start mounted may bytes =
    let disk = c.args.rig.now in
    let d0 = g.R.SectorDisk.state disk in
    let wf = g.met.R.SectorDisk.well_formed disk in
    let plan = c.args.plan.now in
    let store = c.in_ok-store.store in
    let attached = c.in_ok-store.ensures disk c.requires.fits in
    let shows = shows_mounted store plan d0 attached wf tells version start mounted bytes c.store-2-1.given.0 c.base-1.given in
    let space_tells = keeps_tells c.store-2-1.given.0 c.base-1.given store d0 (keeps_on store plan d0 attached wf tells (content d0) mounted.is_ready) in
    c.put_repair.ensures.count space_tells start shows may

pub returns-clause-same : goal.returns-clause-same
returns-clause-same g c =
    let rig_is = c.rig-1.given.1 (sym (ap (λ (l : List ℕ). get_or l 1 0) c.put_repair.ensures.names)) in
    subst (λ (r : g.row.R.Denot). SameDisk (g.R.SectorDisk.state c.args.rig.now) (g.R.SectorDisk.state r)) (sym rig_is) c.put_repair.ensures.same

pub returns-clause-sink : goal.returns-clause-sink
returns-clause-sink g c =
    let rig_is = c.rig-1.given.1 (sym (ap (λ (l : List ℕ). get_or l 1 0) c.put_repair.ensures.names)) in
    subst (λ (r : g.row.R.Denot). (g.R.SectorDisk.state c.args.rig.now).sink_faults ≤ (g.R.SectorDisk.state r).sink_faults) (sym rig_is) c.put_repair.ensures.faults.counts.sink

pub returns-clause-cause : goal.returns-clause-cause
returns-clause-cause g c =
    let attached = c.in_ok-store.ensures c.args.rig.now c.requires.fits in
    let rig_is = c.rig-1.given.1 (sym (ap (λ (l : List ℕ). get_or l 1 0) c.put_repair.ensures.names)) in
    subst (λ (r : g.row.R.Denot). IsCause trouble.Disk (g.R.SectorDisk.state c.args.rig.now).faults (g.R.SectorDisk.state r).faults c.put_repair.result) (sym rig_is)
    (record { later = c.put_repair.ensures.faults.counts.later; rose = λ is. c.put_repair.ensures.faults.disk is attached.no_fault })
