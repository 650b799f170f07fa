use Rattle.std.proofs.Common.{sym, subst}
use Rattle.hfsx_server.specs.Telling.{Tells, refusal_text}
use Rattle.hfsx_server.specs.declared.refusal.SizeRefusal.TheVariants.{TooSmall, TooLarge}
use Rattle.hfsx_server.proofs.Telling.{tells_all}
use Rattle.hfsx_server.proofs.refusal.tell_refusal.Goals as goal

pub returns-in-TooSmall : goal.returns-in-TooSmall
returns-in-TooSmall g c =
    let old = g.R.SectorDisk.state c.args.rig.now in
    let new = g.R.SectorDisk.state c.tell_refused.new.rig in
    subst (λ refusal. Tells old new (refusal_text refusal)) (sym c.in-TooSmall.is) (tells_all c.tell_refused.result old new (refusal_text (TooSmall c.in-TooSmall.sectors)) c.tell_refused.ensures)

pub returns-in-TooLarge : goal.returns-in-TooLarge
returns-in-TooLarge g c =
    let old = g.R.SectorDisk.state c.args.rig.now in
    let new = g.R.SectorDisk.state c.tell_refused-in-TooLarge.new.rig in
    subst (λ refusal. Tells old new (refusal_text refusal)) (sym c.in-TooLarge.is) (tells_all c.tell_refused-in-TooLarge.result old new (refusal_text (TooLarge c.in-TooLarge.sectors)) c.tell_refused-in-TooLarge.ensures)
