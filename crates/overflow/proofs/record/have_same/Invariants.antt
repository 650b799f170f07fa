use Rattle.std.proofs.Common.{◌≡◌, drop, length}
use Rattle.overflow.specs.Changes.{same_list}
use Rattle.overflow.proofs.record.have_same.Given as goal

abbrev pub invariant-loop-place : goal.invariant-loop-place
invariant-loop-place l = record {
  long : length l.one ≡ length l.other;
  rest : same_list (drop l.place l.one) (drop l.place l.other) ≡ same_list l.one l.other;
}
