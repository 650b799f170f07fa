use Rattle.std.proofs.Common.{◌∙◌, ap, arith, length, length-drop, drop, List, ℕ}
use Rattle.std.proofs.lemmas.List.{drop-drop}
use Rattle.line_source.proofs.batch.drop_first.Goals as goal

pub loop-at-preserved : goal.loop-at-preserved
loop-at-preserved c = record {
  dropped = c.remove.ensures.items ∙ ap (λ (l : List (List ℕ)). drop 1 l) c.loop-at.invariant.dropped ∙ drop-drop 1 c.loop-at.at c.args.lines.now.items;
  inside = c.loop-at.invariant.inside;
}

pub remove-requires : goal.remove-requires
remove-requires c =
    let long = ap (λ (l : List (List ℕ)). length l) c.loop-at.invariant.dropped in
    omega (arith, c.loop-at.lines.ok.0, long, length-drop c.loop-at.at c.args.lines.now.items, c.loop-at-test.true, c.loop-at.invariant.inside)
