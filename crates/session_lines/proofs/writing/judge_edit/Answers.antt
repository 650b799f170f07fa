use Rattle.std.proofs.Common.{ℕ, List, refl, sym, subst}
use Rattle.std.specs.Prelude.{Option, None}
use Rattle.session_lines.specs.Writing.{HasJudged}
use Rattle.session_lines.proofs.Looked.{looked_none}
use Rattle.session_lines.proofs.writing.judge_edit.Goals as goal

pub returns-in-None-clause-goes : goal.returns-in-None-clause-goes
returns-in-None-clause-goes g c tells capacity committed now shrunk stands =
    let old = g.G.Ground.outside c.args.base.now in
    let space = g.G.SectorView.space c.args.base.now in
    let knows = g.V.Volume.knows c.args.volume.now space capacity in
    subst (λ (w : Option (List (List ℕ))). HasJudged w capacity knows committed now old shrunk space old None) (sym c.in-None.ensures.none) (record { looked = looked_none capacity shrunk committed now old knows space stands; judged = refl })
