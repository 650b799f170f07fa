use Rattle.std.proofs.Common.{◌≡◌, ◌<◌, ℕ, IsTrue, List, arith, subst, sym, ◌∙◌}
use Rattle.std.specs.Prelude.{All}
use Rattle.sector_disk.specs.Space.{Space}
use Rattle.sector_disk.proofs.SpaceLaws.{space_both, room_both}
use Rattle.fork_map.specs.Blocks.{blocks_of, sectors_of}
use Rattle.file_io.specs.Touching.{IsOneOf}
use Rattle.file_io.proofs.SpillLaws.{spills_both}
use Rattle.file_io.proofs.AroundLaws.{bytes_around, cause_around, may_spill_still, on_both, sizes_around, time_around}
use Rattle.file_io.proofs.spilling.spill_around.Goals as goal

pub spill_sectors-requires-clause-may_spill : goal.spill_sectors-requires-clause-may_spill
spill_sectors-requires-clause-may_spill g c = λ n s low lt at. c.requires.may_spill s (n, at)

pub spill_sectors-requires-clause-elsewhere : goal.spill_sectors-requires-clause-elsewhere
spill_sectors-requires-clause-elsewhere g c = λ some s fresh had. c.requires.elsewhere s fresh had

pub spill_sectors-requires-2-clause-inside : goal.spill_sectors-requires-2-clause-inside
spill_sectors-requires-2-clause-inside g c = subst (λ n. All (λ s. s < n) (sectors_of c.args.per_block (blocks_of c.args.fork.now))) (sym c.spill_sectors.ensures.same.sectors) c.requires.inside

pub spill_sectors-requires-2-clause-may_spill : goal.spill_sectors-requires-2-clause-may_spill
spill_sectors-requires-2-clause-may_spill g c = λ n s low lt at.
    may_spill_still (IsOneOf (sectors_of c.args.per_block (blocks_of c.args.fresh.now))) (g.P.SectorView.space c.args.space.now) (g.P.SectorView.space c.spill_sectors.new.space) c.spill_sectors.ensures.same c.spill_sectors.ensures.touches s (c.requires.may_spill s (n, at))

pub spill_sectors-requires-2-clause-elsewhere : goal.spill_sectors-requires-2-clause-elsewhere
spill_sectors-requires-2-clause-elsewhere g c = λ some s fresh had. c.requires.elsewhere s fresh had

pub returns-clause-bytes : goal.returns-clause-bytes
returns-clause-bytes g c = λ tells.
    let old : Space = g.P.SectorView.space c.args.space.now in
    let mid : Space = g.P.SectorView.space c.spill_sectors.new.space in
    let new : Space = g.P.SectorView.space c.spill_sectors-2.new.space in
    let told : IsTrue mid.tells = c.spill_sectors.ensures.same.tells ∙ tells in
    on_both c.spill_sectors-2.result _ _ _ (c.spill_sectors-2.ensures.bytes told) (c.spill_sectors-2.ensures.others told) (λ behind others n k lt below.
    bytes_around old mid new (sectors_of c.args.per_block (blocks_of c.args.fork.now)) (sectors_of c.args.per_block (blocks_of c.args.fresh.now)) c.args.first c.args.count c.args.idle c.args.busy c.args.size c.args.from c.args.value.now
    c.requires.within c.requires.enough c.requires.order c.requires.holds (c.spill_sectors.ensures.touches tells) (λ some s fresh had. c.requires.elsewhere s fresh had)
    (c.in_ok-spill_sectors.ensures.bytes tells) (c.in_ok-spill_sectors.ensures.others tells) (c.requires.ready tells) behind others n k lt below)

pub returns-clause-touches : goal.returns-clause-touches
returns-clause-touches g c = λ tells.
    spills_both (IsOneOf (sectors_of c.args.per_block (blocks_of c.args.fresh.now))) (g.P.SectorView.space c.args.space.now) (g.P.SectorView.space c.spill_sectors.new.space) (g.P.SectorView.space c.spill_sectors-2.new.space)
    (c.spill_sectors.ensures.touches tells) (c.spill_sectors-2.ensures.touches (c.spill_sectors.ensures.same.tells ∙ tells))

pub returns-clause-sizes : goal.returns-clause-sizes
returns-clause-sizes g c = λ tells.
    let told = c.spill_sectors.ensures.same.tells ∙ tells in
    on_both c.spill_sectors-2.result _ _ _ (c.spill_sectors-2.ensures.sizes told) (c.spill_sectors-2.ensures.sizes told) (λ second again at.
    sizes_around (g.P.SectorView.space c.args.space.now).content (g.P.SectorView.space c.spill_sectors.new.space).content (g.P.SectorView.space c.spill_sectors-2.new.space).content (c.in_ok-spill_sectors.ensures.sizes tells) second at)

pub returns-clause-time : goal.returns-clause-time
returns-clause-time g c = λ tells.
    let told = c.spill_sectors.ensures.same.tells ∙ tells in
    time_around (IsOneOf (sectors_of c.args.per_block (blocks_of c.args.fresh.now))) (g.P.SectorView.space c.args.space.now) (g.P.SectorView.space c.spill_sectors.new.space) (g.P.SectorView.space c.spill_sectors-2.new.space)
    (c.spill_sectors-2.ensures.touches told) c.spill_sectors-2.ensures.same.told (c.spill_sectors.ensures.time tells) (c.spill_sectors-2.ensures.time told)

pub returns-clause-room : goal.returns-clause-room
returns-clause-room g c = room_both (g.P.SectorView.space c.args.space.now) (g.P.SectorView.space c.spill_sectors.new.space) (g.P.SectorView.space c.spill_sectors-2.new.space) c.spill_sectors.ensures.room c.spill_sectors-2.ensures.room

pub returns-clause-same : goal.returns-clause-same
returns-clause-same g c = space_both (g.P.SectorView.space c.args.space.now) (g.P.SectorView.space c.spill_sectors.new.space) (g.P.SectorView.space c.spill_sectors-2.new.space) c.spill_sectors.ensures.same c.spill_sectors-2.ensures.same

pub returns-clause-below : goal.returns-clause-below
returns-clause-below g c = g.met.P.SectorView.follows_trans c.args.space.now c.spill_sectors.new.space c.spill_sectors-2.new.space c.spill_sectors.ensures.below c.spill_sectors-2.ensures.below

pub returns-clause-cause : goal.returns-clause-cause
returns-clause-cause g c =
    cause_around (g.P.SectorView.space c.args.space.now).faults (g.P.SectorView.space c.spill_sectors.new.space).faults (g.P.SectorView.space c.spill_sectors-2.new.space).faults c.spill_sectors-2.result c.spill_sectors.ensures.cause.later c.spill_sectors-2.ensures.cause
