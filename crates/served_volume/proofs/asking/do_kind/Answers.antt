use Rattle.std.proofs.Common.{◌==◌, refl, sym, ◌∙◌, ap, subst}
use Rattle.std.specs.Prelude.{None}
use Rattle.volume_base.specs.Keeping.{shrunk_of}
use Rattle.volume_base.specs.Room.{capacity_of}
use Rattle.volume_step.proofs.Unfilled.{filled_none, service_filling}
use Rattle.volume_step.specs.declared.outcome.Outcome.{Outcome}
use Rattle.volume_links.specs.Steps.{KindStepsTo}
use Rattle.served_volume.specs.Answering.{AnswersAs, ShrinksBy, unless_short}
use Rattle.served_volume.proofs.Refusing.{kind_pends, kind_shortened, kind_shrinks, never_waits, some_put}
use Rattle.served_volume.proofs.Wanted.{wanted_first}
use Rattle.served_volume.proofs.asking.do_kind.Goals as goal

pub returns-in-Ok-clause-answered : goal.returns-in-Ok-clause-answered
returns-in-Ok-clause-answered g c own line wanted tells =
    let before = (g.P.SectorView.space c.args.space.now).content in
    let after = (g.P.SectorView.space c.kind_step.new.space).content in
    let capacity = capacity_of c.args.volume.now in
    subst (λ (o : Outcome). AnswersAs o capacity c.args.number own line before after) (sym c.unless_short.ensures)
    (kind_shortened capacity c.args.number own line before after (c.requires.sound tells) c.args.edit.now wanted c.is_fresh-fresh.result c.in-Ok.outcome (c.in-Ok.ensures.answered tells))

pub returns-in-Ok-clause-shrunk : goal.returns-in-Ok-clause-shrunk
returns-in-Ok-clause-shrunk g c own line wanted tells =
    let before = (g.P.SectorView.space c.args.space.now).content in
    let old = shrunk_of c.args.volume.now in
    let new = shrunk_of c.kind_step.new.volume in
    subst (λ (o : Outcome). ShrinksBy o own line before old new) (sym c.unless_short.ensures)
    (kind_shrinks own line c.args.edit.now before old new wanted c.in-Ok.ensures.shrunk (unless_short c.is_fresh-fresh.result c.in-Ok.outcome))

pub returns-in-Ok-clause-pends : goal.returns-in-Ok-clause-pends
returns-in-Ok-clause-pends g c tells put =
    let before = (g.P.SectorView.space c.args.space.now).content in
    let after = (g.P.SectorView.space c.kind_step.new.space).content in
    let capacity = capacity_of c.args.volume.now in
    subst (λ (o : Outcome). KindStepsTo o capacity c.args.number c.args.edit.now before after) (sym c.unless_short.ensures)
    (kind_pends capacity c.args.number c.args.edit.now before after c.is_fresh-fresh.result (c.is_fresh-fresh.ensures ∙ some_put (g.P.Ground.taken c.args.space.now) put) c.in-Ok.outcome (c.in-Ok.ensures.answered tells))

pub returns-in-Ok-clause-never : goal.returns-in-Ok-clause-never
returns-in-Ok-clause-never g c nothing is =
    never_waits c.is_fresh-fresh.result (c.is_fresh-fresh.ensures ∙ ap (λ n. n == 0) nothing) c.in-Ok.outcome (sym c.unless_short.ensures ∙ is)

pub returns-in-Err-clause-filled : goal.returns-in-Err-clause-filled
returns-in-Err-clause-filled g c = filled_none (record c.kind_step.new.volume { filling = None }) (g.P.SectorView.space c.kind_step.new.space) refl

pub returns-in-Err-clause-service : goal.returns-in-Err-clause-service
returns-in-Err-clause-service g c = service_filling c.kind_step.new.volume None (g.P.SectorView.space c.kind_step.new.space) c.kind_step.ensures.frame.service

pub returns-in-Err-clause-touches : goal.returns-in-Err-clause-touches
returns-in-Err-clause-touches g c committed holds laid = c.kind_step.ensures.frame.touches committed holds laid

-- ---- the frame

pub kind_step-requires-clause-serves : goal.kind_step-requires-clause-serves
kind_step-requires-clause-serves g c = record { stands = c.requires.stands; settled = c.requires.settled }

pub returns-in-Ok-clause-stands : goal.returns-in-Ok-clause-stands
returns-in-Ok-clause-stands g c = c.in-Ok.ensures.frame.serves.stands

pub returns-in-Ok-clause-settled : goal.returns-in-Ok-clause-settled
returns-in-Ok-clause-settled g c tells = c.in-Ok.ensures.frame.serves.settled (c.kind_step.ensures.frame.same.tells ∙ tells)

pub returns-in-Ok-clause-service : goal.returns-in-Ok-clause-service
returns-in-Ok-clause-service g c = c.kind_step.ensures.frame.service

pub returns-in-Ok-clause-holds : goal.returns-in-Ok-clause-holds
returns-in-Ok-clause-holds g c committed was = c.in-Ok.ensures.frame.holds committed was

pub returns-in-Ok-clause-capacity : goal.returns-in-Ok-clause-capacity
returns-in-Ok-clause-capacity g c = c.kind_step.ensures.frame.capacity

pub returns-in-Err-clause-capacity : goal.returns-in-Err-clause-capacity
returns-in-Err-clause-capacity g c = c.kind_step.ensures.frame.capacity

pub returns-in-Ok-clause-touches : goal.returns-in-Ok-clause-touches
returns-in-Ok-clause-touches g c committed holds laid = c.kind_step.ensures.frame.touches committed holds laid

pub returns-in-Ok-clause-same : goal.returns-in-Ok-clause-same
returns-in-Ok-clause-same g c = c.kind_step.ensures.frame.same

pub returns-in-Err-clause-same : goal.returns-in-Err-clause-same
returns-in-Err-clause-same g c = c.kind_step.ensures.frame.same

pub returns-in-Ok-clause-below : goal.returns-in-Ok-clause-below
returns-in-Ok-clause-below g c = c.kind_step.ensures.frame.below

pub returns-in-Err-clause-below : goal.returns-in-Err-clause-below
returns-in-Err-clause-below g c = c.kind_step.ensures.frame.below

pub returns-in-Ok-clause-waits : goal.returns-in-Ok-clause-waits
returns-in-Ok-clause-waits g c tells is = c.in-Ok.ensures.waits tells (wanted_first c.is_fresh-fresh.result c.in-Ok.outcome (sym c.unless_short.ensures ∙ is))
