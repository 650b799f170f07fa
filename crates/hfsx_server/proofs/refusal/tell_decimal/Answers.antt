use Rattle.std.proofs.Common.{◌∙◌, ℕ, List, subst}
use Rattle.hfsx_server.specs.Telling.{Telling}
use Rattle.hfsx_server.proofs.refusal.tell_decimal.Goals as goal

pub returns : goal.returns
returns g c =
    let s0 = g.R.SectorDisk.state c.args.rig.now in
    let s1 = g.R.SectorDisk.state c.tell_piece.new.rig in
    let number = c.as_bytes.ensures.value ∙ c.format.ensures.text in
    subst (λ (l : List ℕ). Telling s0 s1 l c.tell_piece.result) number c.tell_piece.ensures
