use Rattle.std.proofs.Common.{◌∙◌}
use Rattle.alloc_bitmap.specs.Map.{free_of}
use Rattle.hfs_volume.specs.Sound.{IsSound}
use Rattle.volume_base.specs.Keeping.{shrunk_of}
use Rattle.volume_base.specs.Room.{capacity_of}
use Rattle.volume_base.proofs.FoundEntry.{ok_so}
use Rattle.volume_space.proofs.Sounding.{sound_here}
use Rattle.volume_step.proofs.Reclaimed.{places_as, reclaims_as}
use Rattle.volume_base.proofs.Seeing.{if_so}
use Rattle.volume_step.proofs.GrownFor.{short_tidied}
use Rattle.volume_base.specs.Frame.{Serves}
use Rattle.volume_step.proofs.tidying.tidy_now.Goals as goal

pub returns-clause-reclaims : goal.returns-clause-reclaims
returns-clause-reclaims g c tells =
    let a = g.P.SectorView.space c.args.space.now in
    let b = g.P.SectorView.space c.tidy.new.space in
    let later = (c.tidy.ensures.frees.ran.touches a.content).same.tells ∙ tells in
    reclaims_as c.soundness_has_two_halves.ensures (capacity_of c.args.volume.now) (shrunk_of c.args.volume.now) (free_of c.args.volume.now.map) a.spare a.content b.content (c.requires.serves.settled tells).sound c.tidy.result
    (ok_so (Serves c.tidy.new.volume b) (IsSound b.content) c.tidy.result c.tidy.ensures.serves (λ s. sound_here c.tidy.new.volume b (s.stands.stands later) (s.settled later)))
    (c.tidy.ensures.tidied tells)

pub returns-clause-place : goal.returns-clause-place
returns-clause-place g c tells =
    let a = g.P.SectorView.space c.args.space.now in
    let b = g.P.SectorView.space c.tidy.new.space in
    let later = (c.tidy.ensures.frees.ran.touches a.content).same.tells ∙ tells in
    places_as c.soundness_has_two_halves.ensures (capacity_of c.args.volume.now) (shrunk_of c.args.volume.now) (free_of c.args.volume.now.map) a.spare a.content b.content (c.requires.serves.settled tells).sound c.tidy.result
    (ok_so (Serves c.tidy.new.volume b) (IsSound b.content) c.tidy.result c.tidy.ensures.serves (λ s. sound_here c.tidy.new.volume b (s.stands.stands later) (s.settled later)))
    (c.tidy.ensures.tidied tells)

pub returns-clause-short : goal.returns-clause-short
returns-clause-short g c tells =
    if_so _ _ c.tidy.result (λ came was wants. short_tidied c.args.volume.now (g.P.SectorView.space c.args.space.now) (g.P.SectorView.space c.tidy.new.space).content came was wants) (c.tidy.ensures.tidied tells)

pub returns-clause-loads : goal.returns-clause-loads
returns-clause-loads g c tells step load grow next is = c.tidy.ensures.loads tells step load grow next is
