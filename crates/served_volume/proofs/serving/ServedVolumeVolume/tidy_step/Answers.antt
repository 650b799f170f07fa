use Rattle.std.proofs.Common.{◌≡◌, ℕ, [], refl, sym, ◌∙◌, subst}
use Rattle.std.specs.Prelude.{None, Option, Result}
use Rattle.alloc_bitmap.specs.Untold.{told_none}
use Rattle.hx_bytes.specs.declared.faults.Trouble.{Trouble}
use Rattle.hfs_serving.specs.Faults.{Faults}
use Rattle.hfs_serving.proofs.Agreeing.{agrees_self}
use Rattle.hfs_serving.proofs.Causes.{counts_none, handed}
use Rattle.volume_space.proofs.Sounding.{sound_here}
use Rattle.volume_base.specs.Keeping.{shrunk_of}
use Rattle.volume_base.specs.Room.{capacity_of}
use Rattle.volume_base.specs.Standing.{IsSettled, StandsOver}
use Rattle.volume_base.specs.declared.volume.Volume.{Volume}
use Rattle.volume_space.specs.declared.tidying.Tidying.{Tidying}
use Rattle.volume_step.specs.Steps.{KeepsJournal}
use Rattle.volume_step.specs.Tidying.{ReclaimsAs}
use Rattle.volume_step.proofs.Unfilled.{filled_none, service_filling, settled_filling, stands_filling}
use Rattle.served_volume.proofs.Anew.{own_then}
use Rattle.served_volume.proofs.Calls.{faults_of_call, on_any, on_value, quiet, short, value_of}
use Rattle.served_volume.proofs.Heading.{journal_alike}
use Rattle.served_volume.proofs.Seen.{touches_space}
use Rattle.served_volume.proofs.Service.{service_on}
use Rattle.served_volume.proofs.Housekeeping.{tidies_as}
use Rattle.served_volume.specs.Wanting.{WantsCommit}
use Rattle.volume_space.specs.declared.tidying.Tidying.TheVariants as tidying
use Rattle.hfs_serving.proofs.Tries.{if_ok}
use Rattle.served_volume.proofs.Wanted.{tidied_first}
use Rattle.served_volume.proofs.serving.ServedVolumeVolume.tidy_step.Goals as goal

pub tidy-came-requires-clause-stands : goal.tidy-came-requires-clause-stands
tidy-came-requires-clause-stands g c =
    let self = c.args.self.now in
    record {
      service = service_on self.volume (told_none self.sectors) (g.G.SectorView.space c.args.base.now) (c.is_elsewhere.ensures c.if-is_elsewhere.false) self.sized;
      stands = λ tells. (c.requires.stands tells).4.known.stands.stands tells;
    }

pub tidy-came-requires-clause-settled : goal.tidy-came-requires-clause-settled
tidy-came-requires-clause-settled g c tells = (c.requires.stands tells).4.known.settled

pub tidy-came-requires-clause-closed : goal.tidy-came-requires-clause-closed
tidy-came-requires-clause-closed g c tells at shut =
    let there = c.requires.stands tells in
    journal_alike there.2 (g.G.SectorView.space c.args.base.now).content (sym there.4.known.alike.lists) at (there.4.reads.closed at shut)

pub returns-then-is_elsewhere-clause-touches : goal.returns-then-is_elsewhere-clause-touches
returns-then-is_elsewhere-clause-touches g c tells capacity committed now shrunk stands = quiet committed _ _ stands.leaves

pub returns-then-is_elsewhere-clause-faults : goal.returns-then-is_elsewhere-clause-faults
returns-then-is_elsewhere-clause-faults g c = short (counts_none _ _)

pub returns-in-Ok-clause-touches : goal.returns-in-Ok-clause-touches
returns-in-Ok-clause-touches g c tells capacity committed now shrunk stands =
    c.look.ensures.sees c.requires.serves.0 committed c.args.base.now c.tidy-came.ensures.below c.requires.serves.1 tells (touches_space committed _ _ _ tells (c.tidy-came.ensures.touches committed))

pub returns-in-Err-clause-touches : goal.returns-in-Err-clause-touches
returns-in-Err-clause-touches g c tells capacity committed now shrunk stands =
    c.look.ensures.sees c.requires.serves.0 committed c.args.base.now c.tidy-came.ensures.below c.requires.serves.1 tells (touches_space committed _ _ _ tells (c.tidy-came.ensures.touches committed))

pub returns-in-Ok-clause-tidied : goal.returns-in-Ok-clause-tidied
returns-in-Ok-clause-tidied g c tells capacity committed now shrunk stands =
    let v = c.args.self.now.volume in
    let u = c.tidy-came.new.volume in
    let w : Volume = record u { filling = None } in
    let a = g.G.SectorView.space c.args.base.now in
    let b = g.G.SectorView.space c.tidy-came.new.space in
    let r = c.tidy-came.result in
    let o = c.in-Ok.came in
    let is = c.in-Ok.is in
    let there : StandsOver w b = stands_filling u None b (on_value (StandsOver u b) r o is c.tidy-came.ensures.stands) in
    let settled : IsSettled w b.content = settled_filling u None b.content (on_value (IsSettled u b.content) r o is (c.tidy-came.ensures.settled tells)) in
    let tells_then = (c.tidy-came.ensures.touches committed).same.tells ∙ tells in
    let was = value_of (λ (q : Tidying). ReclaimsAs q (capacity_of v) (shrunk_of v) a.content b.content) r o is (c.tidy-came.ensures.reclaims tells) in
    tidies_as v w capacity committed now shrunk a b stands.known stands.below stands.reads stands.heads
    (record {
      touches = touches_space committed _ a b tells (c.tidy-came.ensures.touches committed);
      keeps = on_value (KeepsJournal a.content b.content) r o is (c.tidy-came.ensures.place tells);
      stands = there;
      settled = settled;
      filled = filled_none w b refl;
      holds = λ held. c.tidy-came.ensures.holds committed held;
      capacity = c.tidy-came.ensures.capacity;
      sound = sound_here w b (there.stands tells_then) settled;
    }) c.tidy-came.ensures.shrunk o (subst (λ (k : ℕ × Option ℕ). ReclaimsAs o k.0 k.1 a.content b.content) {x = (capacity_of v, shrunk_of v)} {y = (capacity, shrunk)} (λ i. (stands.known.capacity_is i, stands.known.shrunk_is i)) was) c.next_of.result c.next_of.ensures.same

pub returns-in-Ok-clause-still : goal.returns-in-Ok-clause-still
returns-in-Ok-clause-still g c capacity serves few =
    let now = c.look.ensures.still capacity c.args.base.now c.tidy-came.ensures.below serves in
    on_any _ c.next_of.result (now, c.look.ensures.most capacity now)

pub returns-in-Ok-clause-tells : goal.returns-in-Ok-clause-tells
returns-in-Ok-clause-tells g c = (c.tidy-came.ensures.touches []).same.tells

pub returns-in-Err-clause-tells : goal.returns-in-Err-clause-tells
returns-in-Err-clause-tells g c = (c.tidy-came.ensures.touches []).same.tells

pub returns-in-Ok-clause-anchor : goal.returns-in-Ok-clause-anchor
returns-in-Ok-clause-anchor g c = c.look.ensures.anchor c.args.base.now c.tidy-came.ensures.below (c.tidy-came.ensures.touches []).same.names

pub returns-in-Err-clause-anchor : goal.returns-in-Err-clause-anchor
returns-in-Err-clause-anchor g c = c.look.ensures.anchor c.args.base.now c.tidy-came.ensures.below (c.tidy-came.ensures.touches []).same.names

pub returns-in-Ok-clause-faults : goal.returns-in-Ok-clause-faults
returns-in-Ok-clause-faults g c = record { counts = c.look.ensures.counts c.args.base.now c.tidy-came.ensures.below (c.tidy-came.ensures.touches []).same.sink_faults; disk = λ is. absurd (c.next_of.ensures.memory is) }

pub returns-in-Err-clause-faults : goal.returns-in-Err-clause-faults
returns-in-Err-clause-faults g c =
    let counts = c.look.ensures.counts c.args.base.now c.tidy-came.ensures.below (c.tidy-came.ensures.touches []).same.sink_faults in
    handed (counts_none _ _) c.in-Err.trouble c.in-Err.trouble _
    (subst (λ (r : Result Tidying Trouble). Faults (g.G.Ground.failed c.args.base.now) (g.G.SectorView.space c.args.base.now) (g.G.Ground.failed c.tidy-came.new.space) (g.G.SectorView.space c.tidy-came.new.space) r) c.in-Err.is (faults_of_call c.tidy-came.result counts c.tidy-came.ensures.cause)) refl refl

pub returns-then-is_elsewhere-clause-own : goal.returns-then-is_elsewhere-clause-own
returns-then-is_elsewhere-clause-own g c tells capacity committed now shrunk stands = agrees_self _ _

pub returns-in-Ok-clause-own : goal.returns-in-Ok-clause-own
returns-in-Ok-clause-own g c tells capacity committed now shrunk stands = own_then c.args.self.now.volume capacity committed now shrunk _ (g.G.SectorView.space c.args.base.now) (g.G.SectorView.space c.tidy-came.new.space) tells stands.known (λ content holds laid. c.tidy-came.ensures.touches content)

pub returns-in-Err-clause-own : goal.returns-in-Err-clause-own
returns-in-Err-clause-own g c tells capacity committed now shrunk stands = own_then c.args.self.now.volume capacity committed now shrunk _ (g.G.SectorView.space c.args.base.now) (g.G.SectorView.space c.tidy-came.new.space) tells stands.known (λ content holds laid. c.tidy-came.ensures.touches content)

pub returns-then-is_elsewhere-clause-below : goal.returns-then-is_elsewhere-clause-below
returns-then-is_elsewhere-clause-below g c = g.met.G.SectorView.follows_refl c.args.base.now

pub returns-in-Ok-clause-below : goal.returns-in-Ok-clause-below
returns-in-Ok-clause-below g c = c.tidy-came.ensures.below

pub returns-in-Err-clause-below : goal.returns-in-Err-clause-below
returns-in-Err-clause-below g c = c.tidy-came.ensures.below

pub invariant_of-self : goal.invariant_of-self
invariant_of-self g c =
    let sectors = (c.tidy-came.ensures.touches []).same.sectors ∙ c.is_elsewhere.ensures c.if-is_elsewhere.false in
    let w : Volume = record c.tidy-came.new.volume { filling = None } in
    record {
      sized = service_on w (g.G.SectorView.space c.tidy-came.new.space) (told_none c.args.self.now.sectors) (sym sectors) (service_filling c.tidy-came.new.volume None (g.G.SectorView.space c.tidy-came.new.space) c.tidy-came.ensures.service);
      filled = filled_none w (told_none c.args.self.now.sectors) refl;
    }

pub returns-in-Ok-clause-wanted : goal.returns-in-Ok-clause-wanted
returns-in-Ok-clause-wanted g c tells =
    let wants = WantsCommit c.args.self.now.volume (g.G.SectorView.space c.args.base.now) None in
    if_ok _ _ c.next_of.result
    (λ next same is. value_of (λ (q : Tidying). q ≡ tidying.CommitFirst → wants) c.tidy-came.result c.in-Ok.came c.in-Ok.is (c.tidy-came.ensures.short tells) (tidied_first c.in-Ok.came (sym same ∙ is))) c.next_of.ensures.same

pub returns-in-Ok-clause-barriers : goal.returns-in-Ok-clause-barriers
returns-in-Ok-clause-barriers g c = (c.tidy-came.ensures.touches []).same.barriers

pub returns-in-Err-clause-barriers : goal.returns-in-Err-clause-barriers
returns-in-Err-clause-barriers g c = (c.tidy-came.ensures.touches []).same.barriers
