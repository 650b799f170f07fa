use Rattle.std.proofs.Common.{◌≡◌, refl, sym, ◌∙◌, subst, arith}
use Rattle.std.specs.Prelude.{Contains, Result, Err}
use Rattle.hx_bytes.specs.declared.faults.Trouble.{Trouble}
use Rattle.hfs_serving.specs.Faults.{Faults}
use Rattle.hfs_serving.proofs.Causes.{counts_none, fine, handed}
use Rattle.volume_base.specs.Opening.{IsFresh}
use Rattle.volume_base.specs.Standing.{IsSettled, StandsOver, own_sectors_in}
use Rattle.volume_base.specs.declared.volume.Volume.{Volume}
use Rattle.served_volume.proofs.Attaching.{attached, servable}
use Rattle.served_volume.proofs.Calls.{faults_of_call, value_of}
use Rattle.served_volume.proofs.Heading.{journal_alike}
use Rattle.served_volume.proofs.Seen.{looks_space}
use Rattle.served_volume.proofs.serving.ServedVolumeVolume.attach.Goals as goal

pub attach-found-requires-clause-servable : goal.attach-found-requires-clause-servable
attach-found-requires-clause-servable g c tells = let there = c.requires.stands tells in servable there.0 _ _ there.1

pub attach-found-requires-clause-closed : goal.attach-found-requires-clause-closed
attach-found-requires-clause-closed g c tells at shut = let there = c.requires.stands tells in journal_alike there.0 (g.G.SectorView.space c.args.base.now).content there.1.lists at (there.1.reads.closed at shut)

pub attach-found-requires-clause-live : goal.attach-found-requires-clause-live
attach-found-requires-clause-live g c tells at is = absurd ((c.requires.stands tells).1.live at is)

pub returns-in-Ok-clause-touches : goal.returns-in-Ok-clause-touches
returns-in-Ok-clause-touches g c tells now may = c.look.ensures.sees c.args.capacity now c.args.base.now c.attach-found.ensures.below c.requires.serves.0 tells (looks_space now _ _ _ tells c.attach-found.ensures.looks)

pub returns-in-Err-clause-touches : goal.returns-in-Err-clause-touches
returns-in-Err-clause-touches g c tells now may = c.look.ensures.sees c.args.capacity now c.args.base.now c.attach-found.ensures.below c.requires.serves.0 tells (looks_space now _ _ _ tells c.attach-found.ensures.looks)

pub returns-in-Ok-clause-attached : goal.returns-in-Ok-clause-attached
returns-in-Ok-clause-attached g c tells now may =
    let a = g.G.SectorView.space c.args.base.now in
    let b = g.G.SectorView.space c.attach-found.new.space in
    let v = c.in-Ok.volume in
    let r = c.attach-found.result in
    attached v c.args.capacity now (λ at. Contains (own_sectors_in a.content) at) a b (g.G.Ground.outside c.args.base.now) tells may c.attach-found.ensures.looks
    (value_of (λ (u : Volume). StandsOver u b) r v c.in-Ok.is c.attach-found.ensures.stands)
    (value_of (λ (u : Volume). IsSettled u b.content) r v c.in-Ok.is (c.attach-found.ensures.settled tells))
    (value_of (λ (u : Volume). IsFresh c.args.capacity u) r v c.in-Ok.is c.attach-found.ensures.fresh)

pub returns-in-Ok-clause-still : goal.returns-in-Ok-clause-still
returns-in-Ok-clause-still g c = (
  c.look.ensures.still c.args.capacity c.args.base.now c.attach-found.ensures.below c.requires.serves.0,
  omega (arith, c.pending-before.ensures.within, c.pending-after.ensures.within, c.look.ensures.room c.args.base.now c.attach-found.ensures.below, c.attach-found.ensures.looks.spare, c.requires.serves.1),
)

pub returns-in-Ok-clause-anchor : goal.returns-in-Ok-clause-anchor
returns-in-Ok-clause-anchor g c = c.look.ensures.anchor c.args.base.now c.attach-found.ensures.below c.attach-found.ensures.looks.same.names

pub returns-in-Err-clause-anchor : goal.returns-in-Err-clause-anchor
returns-in-Err-clause-anchor g c = c.look.ensures.anchor c.args.base.now c.attach-found.ensures.below c.attach-found.ensures.looks.same.names

pub returns-in-Ok-clause-faults : goal.returns-in-Ok-clause-faults
returns-in-Ok-clause-faults g c = fine (c.look.ensures.counts c.args.base.now c.attach-found.ensures.below c.attach-found.ensures.looks.same.sink_faults) _

pub returns-in-Err-clause-faults : goal.returns-in-Err-clause-faults
returns-in-Err-clause-faults g c =
    let counts = c.look.ensures.counts c.args.base.now c.attach-found.ensures.below c.attach-found.ensures.looks.same.sink_faults in
    handed (counts_none _ _) c.in-Err.trouble c.in-Err.trouble _
    (subst (λ (r : Result Volume Trouble). Faults (g.G.Ground.failed c.args.base.now) (g.G.SectorView.space c.args.base.now) (g.G.Ground.failed c.attach-found.new.space) (g.G.SectorView.space c.attach-found.new.space) r) c.in-Err.is (faults_of_call c.attach-found.result counts c.attach-found.ensures.cause)) refl refl

pub returns-in-Ok-clause-barriers : goal.returns-in-Ok-clause-barriers
returns-in-Ok-clause-barriers g c = c.attach-found.ensures.looks.same.barriers

pub returns-in-Err-clause-barriers : goal.returns-in-Err-clause-barriers
returns-in-Err-clause-barriers g c = c.attach-found.ensures.looks.same.barriers
