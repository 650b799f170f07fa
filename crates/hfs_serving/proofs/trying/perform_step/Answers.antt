use Rattle.hfs_serving.proofs.Tries.{heard_answers, if_ok, on_any}
use Rattle.hfs_serving.proofs.Caused.{waits_as}
use Rattle.hfs_serving.proofs.trying.perform_step.Goals as goal

pub returns-in-Ok-clause-answered : goal.returns-in-Ok-clause-answered
returns-in-Ok-clause-answered g c tells capacity committed now shrunk stands own line spelled =
    let new = g.G.SectorView.space c.perform.new.base in
    if_ok _ _ c.hear_step.result
    (λ step heard. heard_answers capacity (g.V.Volume.knows c.perform.new.self new capacity) committed now shrunk new c.args.number own line _ _ c.in-Ok.performed step (c.in-Ok.ensures.performed tells capacity committed now shrunk stands own line spelled) heard) c.hear_step.ensures.heard

pub returns-in-Ok-clause-still : goal.returns-in-Ok-clause-still
returns-in-Ok-clause-still g c capacity serves few = on_any c.hear_step.result (c.in-Ok.ensures.still capacity serves few)

pub returns-in-Ok-clause-faults : goal.returns-in-Ok-clause-faults
returns-in-Ok-clause-faults g c = record { counts = c.perform.ensures.faults.counts; disk = λ is. absurd (c.hear_step.ensures.no_disk is) }

pub returns-in-Ok-clause-wanted : goal.returns-in-Ok-clause-wanted
returns-in-Ok-clause-wanted g c tells = if_ok _ _ c.hear_step.result (λ made heard is. c.in-Ok.ensures.wanted tells (waits_as made c.in-Ok.performed _ _ heard is)) c.hear_step.ensures.heard
