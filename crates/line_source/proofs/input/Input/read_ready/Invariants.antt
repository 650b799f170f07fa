use Rattle.std.proofs.Common.{◌≡◌, ◌≤◌, ◌-◌, IsTrue, length}
use Rattle.line_source.specs.Batch.{AddsLines}
use Rattle.line_source.proofs.input.Input.read_ready.Given as goal

abbrev pub invariant-loop-alloc : goal.invariant-loop-alloc
invariant-loop-alloc g l = record {
  adds : AddsLines l.fn.limit l.fn.lines.items l.fn.self (g.S.Source.stream l.fn.source) l.lines.items l.self (g.S.Source.stream l.source);
  most : length l.fn.lines.items ≤ l.fn.most → length l.lines.items ≤ l.fn.most;
  still : IsTrue (g.S.Source.stream l.fn.source).tells → g.S.Source.stream l.source ≡ g.S.Source.stream l.fn.source;
}

abbrev pub decreases-loop-alloc : goal.decreases-loop-alloc
decreases-loop-alloc g l = l.fn.most - length l.lines.items
