use Rattle.std.proofs.Common.{◌≡◌, ◌∙◌, [], ℕ, List, length, ap, arith}
use Rattle.line_source.specs.Batch.{has_newline}
use Rattle.line_source.proofs.Ready.{not_empty, ready_has_newline}
use Rattle.line_source.proofs.input.Input.has_line.Goals as goal

pub returns : goal.returns
returns c =
    let some : c.self.inside.ready.items ≡ [] → ⊥ = λ none. not_empty _ c.is_empty.result c.is_empty.ensures c.if-is_empty.false (omega (arith, ap (λ (l : List (List ℕ)). length l) none)) in
    ready_has_newline c.self.inside.ready.items c.self.inside.taken some ∙ ap has_newline c.self.view_is
