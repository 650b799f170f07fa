use Rattle.std.proofs.Common.{◌≡◌, refl, sym, ◌∙◌, subst}
use Rattle.std.specs.Prelude.{Result, Some}
use Rattle.alloc_bitmap.specs.Untold.{told_none}
use Rattle.hx_bytes.specs.declared.faults.Trouble.{Trouble}
use Rattle.hfs_serving.specs.Faults.{Faults}
use Rattle.hfs_serving.specs.Going.{PerformsTo}
use Rattle.hfs_serving.specs.declared.volume.Performed.{Performed}
use Rattle.hfs_serving.proofs.Causes.{counts_none, handed}
use Rattle.volume_space.proofs.Sounding.{sound_here}
use Rattle.volume_base.specs.Keeping.{shrunk_of}
use Rattle.volume_base.specs.Room.{capacity_of}
use Rattle.volume_base.specs.Holding.{HoldsOn}
use Rattle.volume_base.specs.Standing.{IsSettled, StandsOver}
use Rattle.volume_step.specs.Steps.{KeepsJournal}
use Rattle.volume_step.specs.declared.outcome.Outcome.{Outcome}
use Rattle.served_volume.specs.Answering.{AnswersAs, ShrinksBy}
use Rattle.served_volume.specs.Knowing.{Knows}
use Rattle.served_volume.proofs.Answered.{performs}
use Rattle.served_volume.proofs.Calls.{faults_of_call, on_value, quiet, short, value_of}
use Rattle.served_volume.proofs.Heading.{journal_alike}
use Rattle.served_volume.proofs.InHand.{filled_there, takes_blocks}
use Rattle.hfs_serving.proofs.Agreeing.{agrees_self}
use Rattle.served_volume.proofs.Anew.{own_then}
use Rattle.served_volume.proofs.Seen.{touches_space}
use Rattle.served_volume.proofs.Service.{service_on}
use Rattle.served_volume.specs.Wanting.{WantsCommit}
use Rattle.volume_step.specs.declared.outcome.Outcome.TheVariants as outcome
use Rattle.served_volume.proofs.Wanted.{performed_first}
use Rattle.served_volume.proofs.serving.ServedVolumeVolume.perform.Goals as goal

pub do_asked-outcome-requires-clause-stands : goal.do_asked-outcome-requires-clause-stands
do_asked-outcome-requires-clause-stands g c =
    let self = c.args.self.now in
    record {
      service = service_on self.volume (told_none self.sectors) (g.G.SectorView.space c.args.base.now) (c.is_elsewhere.ensures c.if-is_elsewhere.false) self.sized;
      stands = λ tells. (c.requires.stands tells).4.known.stands.stands tells;
    }

pub do_asked-outcome-requires-clause-settled : goal.do_asked-outcome-requires-clause-settled
do_asked-outcome-requires-clause-settled g c tells = (c.requires.stands tells).4.known.settled

pub do_asked-outcome-requires-clause-filled : goal.do_asked-outcome-requires-clause-filled
do_asked-outcome-requires-clause-filled g c = filled_there c.args.self.now.volume c.args.self.now.sectors (g.G.SectorView.space c.args.base.now) c.args.self.now.filled (λ tells. (c.requires.stands tells).4.known.filled)

pub do_asked-outcome-requires-clause-closed : goal.do_asked-outcome-requires-clause-closed
do_asked-outcome-requires-clause-closed g c tells at shut =
    let there = c.requires.stands tells in
    journal_alike there.2 (g.G.SectorView.space c.args.base.now).content (sym there.4.known.alike.lists) at (there.4.reads.closed at shut)

pub do_asked-outcome-requires-clause-sound : goal.do_asked-outcome-requires-clause-sound
do_asked-outcome-requires-clause-sound g c tells = (c.requires.stands tells).4.known.alike.sound_other

pub returns-then-is_elsewhere-clause-touches : goal.returns-then-is_elsewhere-clause-touches
returns-then-is_elsewhere-clause-touches g c tells capacity committed now shrunk stands = quiet committed _ _ stands.leaves

pub returns-then-is_elsewhere-clause-faults : goal.returns-then-is_elsewhere-clause-faults
returns-then-is_elsewhere-clause-faults g c = short (counts_none _ _)

pub returns-in-Ok-clause-touches : goal.returns-in-Ok-clause-touches
returns-in-Ok-clause-touches g c tells capacity committed now shrunk stands =
    c.look.ensures.sees c.requires.serves.0 committed c.args.base.now c.do_asked-outcome.ensures.below c.requires.serves.1 tells (touches_space committed _ _ _ tells (c.do_asked-outcome.ensures.touches committed stands.known.holds stands.known.laid_out))

pub returns-in-Err-clause-touches : goal.returns-in-Err-clause-touches
returns-in-Err-clause-touches g c tells capacity committed now shrunk stands =
    c.look.ensures.sees c.requires.serves.0 committed c.args.base.now c.do_asked-outcome.ensures.below c.requires.serves.1 tells (touches_space committed _ _ _ tells (c.do_asked-outcome.ensures.touches committed stands.known.holds stands.known.laid_out))

pub returns-in-Ok-clause-performed : goal.returns-in-Ok-clause-performed
returns-in-Ok-clause-performed g c tells capacity committed now shrunk stands own line wanted =
    let v = c.args.self.now.volume in
    let w = c.do_asked-outcome.new.volume in
    let a = g.G.SectorView.space c.args.base.now in
    let b = g.G.SectorView.space c.do_asked-outcome.new.space in
    let r = c.do_asked-outcome.result in
    let o = c.in-Ok.outcome in
    let is = c.in-Ok.is in
    let there = on_value (StandsOver w b) r o is c.do_asked-outcome.ensures.stands in
    let settled = on_value (IsSettled w b.content) r o is (c.do_asked-outcome.ensures.settled tells) in
    let tells_then = c.do_asked-outcome.ensures.same.tells ∙ tells in
    let was = value_of (λ (q : Outcome). AnswersAs q (capacity_of v) c.args.number own line a.content b.content) r o is (c.do_asked-outcome.ensures.answered own line wanted tells) in
    let shrinks = value_of (λ (q : Outcome). ShrinksBy q own line a.content (shrunk_of v) (shrunk_of w)) r o is (c.do_asked-outcome.ensures.shrunk own line wanted tells) in
    subst (λ (p : Performed). PerformsTo p capacity (λ past here file. Knows w capacity past here file b) committed now shrunk b c.args.number own line) (sym c.performed.ensures)
    (performs v w capacity committed now shrunk a b stands.known stands.below stands.reads stands.heads
    (record {
      touches = touches_space committed _ a b tells (c.do_asked-outcome.ensures.touches committed stands.known.holds stands.known.laid_out);
      keeps = on_value (KeepsJournal a.content b.content) r o is (c.do_asked-outcome.ensures.place tells);
      stands = there;
      settled = settled;
      filled = c.do_asked-outcome.ensures.filled;
      holds = λ held. on_value (HoldsOn committed w) r o is (c.do_asked-outcome.ensures.holds committed held);
      capacity = c.do_asked-outcome.ensures.capacity;
      sound = sound_here w b (there.stands tells_then) settled;
    }) c.args.number own line o (subst (λ n. AnswersAs o n c.args.number own line a.content b.content) stands.known.capacity_is was) shrinks)

pub returns-in-Ok-clause-still : goal.returns-in-Ok-clause-still
returns-in-Ok-clause-still g c capacity serves few =
    let now = c.look.ensures.still capacity c.args.base.now c.do_asked-outcome.ensures.below serves in
    (now, c.look.ensures.most capacity now)

pub returns-in-Ok-clause-tells : goal.returns-in-Ok-clause-tells
returns-in-Ok-clause-tells g c = c.do_asked-outcome.ensures.same.tells

pub returns-in-Err-clause-tells : goal.returns-in-Err-clause-tells
returns-in-Err-clause-tells g c = c.do_asked-outcome.ensures.same.tells

pub returns-in-Ok-clause-anchor : goal.returns-in-Ok-clause-anchor
returns-in-Ok-clause-anchor g c = c.look.ensures.anchor c.args.base.now c.do_asked-outcome.ensures.below c.do_asked-outcome.ensures.same.names

pub returns-in-Err-clause-anchor : goal.returns-in-Err-clause-anchor
returns-in-Err-clause-anchor g c = c.look.ensures.anchor c.args.base.now c.do_asked-outcome.ensures.below c.do_asked-outcome.ensures.same.names

pub returns-in-Ok-clause-faults : goal.returns-in-Ok-clause-faults
returns-in-Ok-clause-faults g c =
    record {
      counts = c.look.ensures.counts c.args.base.now c.do_asked-outcome.ensures.below c.do_asked-outcome.ensures.same.sink_faults;
      disk = λ is. absurd (cc is);
    }

pub returns-in-Err-clause-faults : goal.returns-in-Err-clause-faults
returns-in-Err-clause-faults g c =
    let counts = c.look.ensures.counts c.args.base.now c.do_asked-outcome.ensures.below c.do_asked-outcome.ensures.same.sink_faults in
    handed (counts_none _ _) c.in-Err.trouble c.in-Err.trouble _
    (subst (λ (r : Result Outcome Trouble). Faults (g.G.Ground.failed c.args.base.now) (g.G.SectorView.space c.args.base.now) (g.G.Ground.failed c.do_asked-outcome.new.space) (g.G.SectorView.space c.do_asked-outcome.new.space) r) c.in-Err.is (faults_of_call c.do_asked-outcome.result counts c.do_asked-outcome.ensures.cause)) refl refl

pub returns-then-is_elsewhere-clause-own : goal.returns-then-is_elsewhere-clause-own
returns-then-is_elsewhere-clause-own g c tells capacity committed now shrunk stands = agrees_self _ _

pub returns-in-Ok-clause-own : goal.returns-in-Ok-clause-own
returns-in-Ok-clause-own g c tells capacity committed now shrunk stands = own_then c.args.self.now.volume capacity committed now shrunk _ (g.G.SectorView.space c.args.base.now) (g.G.SectorView.space c.do_asked-outcome.new.space) tells stands.known (λ content holds laid. c.do_asked-outcome.ensures.touches content holds laid)

pub returns-in-Err-clause-own : goal.returns-in-Err-clause-own
returns-in-Err-clause-own g c tells capacity committed now shrunk stands = own_then c.args.self.now.volume capacity committed now shrunk _ (g.G.SectorView.space c.args.base.now) (g.G.SectorView.space c.do_asked-outcome.new.space) tells stands.known (λ content holds laid. c.do_asked-outcome.ensures.touches content holds laid)

pub returns-then-is_elsewhere-clause-below : goal.returns-then-is_elsewhere-clause-below
returns-then-is_elsewhere-clause-below g c = g.met.G.SectorView.follows_refl c.args.base.now

pub returns-in-Ok-clause-below : goal.returns-in-Ok-clause-below
returns-in-Ok-clause-below g c = c.do_asked-outcome.ensures.below

pub returns-in-Err-clause-below : goal.returns-in-Err-clause-below
returns-in-Err-clause-below g c = c.do_asked-outcome.ensures.below

pub invariant_of-self : goal.invariant_of-self
invariant_of-self g c =
    let sectors = c.do_asked-outcome.ensures.same.sectors ∙ c.is_elsewhere.ensures c.if-is_elsewhere.false in
    record {
      sized = service_on c.do_asked-outcome.new.volume (g.G.SectorView.space c.do_asked-outcome.new.space) (told_none c.args.self.now.sectors) (sym sectors) c.do_asked-outcome.ensures.service;
      filled = takes_blocks c.do_asked-outcome.new.volume c.args.self.now.sectors (g.G.SectorView.space c.do_asked-outcome.new.space) c.do_asked-outcome.ensures.filled;
    }

pub returns-in-Ok-clause-wanted : goal.returns-in-Ok-clause-wanted
returns-in-Ok-clause-wanted g c tells is =
    let wants = WantsCommit c.args.self.now.volume (g.G.SectorView.space c.args.base.now) (Some c.args.asked.now) in
    value_of (λ (q : Outcome). q ≡ outcome.CommitFirst → wants) c.do_asked-outcome.result c.in-Ok.outcome c.in-Ok.is (c.do_asked-outcome.ensures.waits tells) (performed_first c.in-Ok.outcome (sym c.performed.ensures ∙ is))

pub returns-in-Ok-clause-barriers : goal.returns-in-Ok-clause-barriers
returns-in-Ok-clause-barriers g c = c.do_asked-outcome.ensures.same.barriers

pub returns-in-Err-clause-barriers : goal.returns-in-Err-clause-barriers
returns-in-Err-clause-barriers g c = c.do_asked-outcome.ensures.same.barriers
