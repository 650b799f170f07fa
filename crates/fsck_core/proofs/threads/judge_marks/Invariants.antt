use Rattle.std.proofs.Common.{◌≤◌, length}
use Rattle.fsck_core.specs.Catalogs.{IsCatalog}
use Rattle.fsck_core.specs.Decided.{Decided, AllPass, IsMissed}
use Rattle.fsck_core.specs.Parents.{marked}
use Rattle.fsck_core.specs.Threads.{placed_at, place_of}
use Rattle.fsck_core.proofs.threads.judge_marks.Given as goal

abbrev pub invariant-loop-at : goal.invariant-loop-at
invariant-loop-at l = record {
  most : l.at ≤ length l.pairs;
  decided : IsCatalog l.pairs → Decided (IsMissed 9 (marked l.marks) (λ k. place_of (placed_at l.pairs k)) (length l.pairs)) (AllPass (marked l.marks) l.at) l.fn.out l.out l.met;
}
