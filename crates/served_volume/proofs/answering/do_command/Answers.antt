use Rattle.std.proofs.Common.{◌==◌, refl, sym, ◌∙◌, ap, subst}
use Rattle.std.specs.Prelude.{None}
use Rattle.volume_base.specs.Keeping.{shrunk_of}
use Rattle.volume_base.specs.Room.{capacity_of}
use Rattle.volume_step.proofs.Unfilled.{filled_none, service_filling}
use Rattle.volume_step.specs.declared.outcome.Outcome.{Outcome}
use Rattle.served_volume.specs.Answering.{AnswersAs, IsDecidedAs, IsDecidedOrWaits, ShrinksBy}
use Rattle.served_volume.proofs.Refusing.{decided, decided_or_waits, never_waits, shortened, shortened_shrinks, some_put}
use Rattle.served_volume.proofs.Wanted.{wanted_first, wants_commit}
use Rattle.served_volume.proofs.answering.do_command.Goals as goal

pub returns-in-Ok-clause-answered : goal.returns-in-Ok-clause-answered
returns-in-Ok-clause-answered g c own line wanted tells =
    let before = (g.P.SectorView.space c.args.space.now).content in
    let after = (g.P.SectorView.space c.step.new.space).content in
    let capacity = capacity_of c.args.volume.now in
    subst (λ (o : Outcome). AnswersAs o capacity c.args.number own line before after) (sym c.unless_short.ensures)
    (shortened capacity c.args.number own line before after (c.requires.sound tells) c.args.command.now wanted c.is_fresh-fresh.result c.in-Ok.outcome (c.in-Ok.ensures.answered tells))

pub returns-in-Ok-clause-shrunk : goal.returns-in-Ok-clause-shrunk
returns-in-Ok-clause-shrunk g c own line wanted tells =
    let before = (g.P.SectorView.space c.args.space.now).content in
    let old = shrunk_of c.args.volume.now in
    let new = shrunk_of c.step.new.volume in
    subst (λ (o : Outcome). ShrinksBy o own line before old new) (sym c.unless_short.ensures)
    (shortened_shrinks own line c.args.command.now before old new wanted c.is_fresh-fresh.result c.in-Ok.outcome (c.in-Ok.ensures.shrunk tells))

pub returns-in-Ok-clause-ready : goal.returns-in-Ok-clause-ready
returns-in-Ok-clause-ready g c line spelled tells ready =
    let before = (g.P.SectorView.space c.args.space.now).content in
    let after = (g.P.SectorView.space c.step.new.space).content in
    let capacity = capacity_of c.args.volume.now in
    subst (λ (o : Outcome). IsDecidedAs o capacity line before after) (sym c.unless_short.ensures)
    (decided capacity c.args.number line c.args.command.now before after spelled c.is_fresh-fresh.result c.in-Ok.outcome (c.in-Ok.ensures.answered tells) (c.in-Ok.ensures.ready tells ready))

pub returns-in-Ok-clause-anew : goal.returns-in-Ok-clause-anew
returns-in-Ok-clause-anew g c line spelled tells anew alone =
    let before = (g.P.SectorView.space c.args.space.now).content in
    let after = (g.P.SectorView.space c.step.new.space).content in
    let capacity = capacity_of c.args.volume.now in
    subst (λ (o : Outcome). IsDecidedAs o capacity line before after) (sym c.unless_short.ensures)
    (decided capacity c.args.number line c.args.command.now before after spelled c.is_fresh-fresh.result c.in-Ok.outcome (c.in-Ok.ensures.answered tells) (c.in-Ok.ensures.anew tells anew alone))

pub returns-in-Ok-clause-pends : goal.returns-in-Ok-clause-pends
returns-in-Ok-clause-pends g c line spelled tells put =
    let before = (g.P.SectorView.space c.args.space.now).content in
    let after = (g.P.SectorView.space c.step.new.space).content in
    let capacity = capacity_of c.args.volume.now in
    subst (λ (o : Outcome). IsDecidedOrWaits o capacity line before after) (sym c.unless_short.ensures)
    (decided_or_waits capacity c.args.number line c.args.command.now before after spelled c.is_fresh-fresh.result (c.is_fresh-fresh.ensures ∙ some_put (g.P.Ground.taken c.args.space.now) put) c.in-Ok.outcome (c.in-Ok.ensures.answered tells))

pub returns-in-Ok-clause-never : goal.returns-in-Ok-clause-never
returns-in-Ok-clause-never g c nothing is =
    never_waits c.is_fresh-fresh.result (c.is_fresh-fresh.ensures ∙ ap (λ n. n == 0) nothing) c.in-Ok.outcome (sym c.unless_short.ensures ∙ is)

pub returns-in-Err-clause-filled : goal.returns-in-Err-clause-filled
returns-in-Err-clause-filled g c = filled_none (record c.step.new.volume { filling = None }) (g.P.SectorView.space c.step.new.space) refl

pub returns-in-Err-clause-service : goal.returns-in-Err-clause-service
returns-in-Err-clause-service g c = service_filling c.step.new.volume None (g.P.SectorView.space c.step.new.space) c.step.ensures.frame.service

pub returns-in-Err-clause-touches : goal.returns-in-Err-clause-touches
returns-in-Err-clause-touches g c committed holds laid = c.step.ensures.frame.touches committed holds laid

-- ---- the frame

pub step-requires-clause-serves : goal.step-requires-clause-serves
step-requires-clause-serves g c = record { stands = c.requires.stands; settled = c.requires.settled }

pub returns-in-Ok-clause-stands : goal.returns-in-Ok-clause-stands
returns-in-Ok-clause-stands g c = c.in-Ok.ensures.frame.serves.stands

pub returns-in-Ok-clause-settled : goal.returns-in-Ok-clause-settled
returns-in-Ok-clause-settled g c tells = c.in-Ok.ensures.frame.serves.settled (c.step.ensures.frame.same.tells ∙ tells)

pub returns-in-Ok-clause-service : goal.returns-in-Ok-clause-service
returns-in-Ok-clause-service g c = c.step.ensures.frame.service

pub returns-in-Ok-clause-holds : goal.returns-in-Ok-clause-holds
returns-in-Ok-clause-holds g c committed was = c.in-Ok.ensures.frame.holds committed was

pub returns-in-Ok-clause-capacity : goal.returns-in-Ok-clause-capacity
returns-in-Ok-clause-capacity g c = c.step.ensures.frame.capacity

pub returns-in-Err-clause-capacity : goal.returns-in-Err-clause-capacity
returns-in-Err-clause-capacity g c = c.step.ensures.frame.capacity

pub returns-in-Ok-clause-touches : goal.returns-in-Ok-clause-touches
returns-in-Ok-clause-touches g c committed holds laid = c.step.ensures.frame.touches committed holds laid

pub returns-in-Ok-clause-same : goal.returns-in-Ok-clause-same
returns-in-Ok-clause-same g c = c.step.ensures.frame.same

pub returns-in-Err-clause-same : goal.returns-in-Err-clause-same
returns-in-Err-clause-same g c = c.step.ensures.frame.same

pub returns-in-Ok-clause-below : goal.returns-in-Ok-clause-below
returns-in-Ok-clause-below g c = c.step.ensures.frame.below

pub returns-in-Err-clause-below : goal.returns-in-Err-clause-below
returns-in-Err-clause-below g c = c.step.ensures.frame.below

pub returns-in-Ok-clause-waits : goal.returns-in-Ok-clause-waits
returns-in-Ok-clause-waits g c tells is =
    let first = wanted_first c.is_fresh-fresh.result c.in-Ok.outcome (sym c.unless_short.ensures ∙ is) in
    wants_commit c.args.command.now c.args.volume.now (g.P.SectorView.space c.args.space.now) (λ ready. c.in-Ok.ensures.ready tells ready first) (λ needs. c.in-Ok.ensures.short tells needs first)
