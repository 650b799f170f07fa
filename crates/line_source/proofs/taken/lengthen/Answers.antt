use Rattle.std.proofs.Common.{◌≡◌, ◌+◌, ◌-◌, ◌∙◌, ℕ, length, take, ap, arith}
use Rattle.line_source.proofs.Pieces.{line_joins}
use Rattle.line_source.proofs.taken.lengthen.Goals as goal

pub returns : goal.returns
returns c =
    let long : c.len.result ≡ length c.args.line.now.items = omega arith in
    line_joins c.args.limit c.args.piece.now c.args.line.now.items c.front.result.now c.extend_from_slice.new.self.items (c.front.ensures ∙ ap (λ (n : ℕ). take (c.args.limit + 1 - n) c.args.piece.now) long) c.in_ok-extend_from_slice.ensures.items
