use Rattle.std.proofs.Common.{◌∷◌, [], get_or, ap}
use Rattle.hfs_serving.specs.Grounds.{anchor_of}
use Rattle.hfs_serving.proofs.Grounding.{rests_on_disk, same_rig, seen_outside, serves_still, shows_journal}
use Rattle.std.proofs.Common.{arith}
use Rattle.hfs_serving.proofs.space.SpaceGround.look.Goals as goal

pub returns-clause-still : goal.returns-clause-still
returns-clause-still g c capacity first follows serves =
    serves_still first.store.now (g.R.SectorDisk.state first.disk.now) c.args.self.now.store.now (g.R.SectorDisk.state c.args.self.now.disk.now) capacity follows serves

pub returns-clause-room : goal.returns-clause-room
returns-clause-room g c first follows = follows.room

pub returns-clause-rests : goal.returns-clause-rests
returns-clause-rests g c capacity serves tells =
    let self = c.args.self.now in
    rests_on_disk self.store.ghost_name self.disk.ghost_name self.store.now (g.R.SectorDisk.state self.disk.now) capacity (g.met.R.SectorDisk.well_formed self.disk.now) serves tells

pub returns-clause-sees : goal.returns-clause-sees
returns-clause-sees g c capacity committed first follows serves tells touches =
    let self = c.args.self.now in
    seen_outside committed first.store.ghost_name first.disk.ghost_name self.store.ghost_name self.disk.ghost_name first.store.now self.store.now (g.R.SectorDisk.state first.disk.now) (g.R.SectorDisk.state self.disk.now) capacity
    (g.met.R.SectorDisk.well_formed self.disk.now) follows serves tells touches

pub returns-clause-anchor : goal.returns-clause-anchor
returns-clause-anchor g c first follows same = λ i. record { journal = ap anchor_of follows.plan i; rig = same_rig follows.same i; names = get_or (same i) 0 0 ∷ get_or (same i) 1 0 ∷ [] }

pub returns-clause-counts : goal.returns-clause-counts
returns-clause-counts g c =
    λ first follows sink. record { later = follows.later; counted = follows.faults; sink = omega (arith, sink) }

pub returns-clause-most : goal.returns-clause-most
returns-clause-most g c capacity serves = omega (arith, c.pending-pending.ensures.room, serves.room)

pub returns-clause-shows : goal.returns-clause-shows
returns-clause-shows g c capacity serves tells heads =
    let self = c.args.self.now in
    shows_journal self.store.ghost_name self.disk.ghost_name self.store.now (g.R.SectorDisk.state self.disk.now) capacity (g.met.R.SectorDisk.well_formed self.disk.now) serves tells heads
