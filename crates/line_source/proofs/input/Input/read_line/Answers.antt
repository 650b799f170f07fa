use Rattle.std.proofs.Common.{◌≡◌, [], subst}
use Rattle.std.specs.Prelude.{IfNone}
use Rattle.line_source.specs.Input.{ahead}
use Rattle.line_source.proofs.Adding.{adds_end}
use Rattle.line_source.proofs.input.Input.read_line.Goals as goal

pub returns-in-None-clause-lines : goal.returns-in-None-clause-lines
returns-in-None-clause-lines g c =
    let now = g.S.Source.stream c.args.source.now in
    let new = g.S.Source.stream c.next_line.new.source in
    adds_end c.args.limit c.args.lines.now.items c.args.self.now c.next_line.new.self now new
    (λ tells. subst (λ next. IfNone next ((ahead c.args.self.now now ≡ []) × (ahead c.next_line.new.self new ≡ []))) c.in-None.is (c.in_ok-line.ensures.end tells))
    c.in_ok-line.ensures.no_heavier c.next_line.ensures.same c.next_line.ensures.cause.later
