use Rattle.std.proofs.Common.{◌≡◌, ◌≤◌, length}
use Rattle.fsck_core.specs.Catalogs.{IsCatalog}
use Rattle.fsck_core.specs.Threads.{AreMatched}
use Rattle.fsck_core.proofs.threads.match_pairs.Given as goal

abbrev pub invariant-loop-at : goal.invariant-loop-at
invariant-loop-at l = record {
  long : length l.marks.items ≡ length l.pairs;
  most : l.at ≤ length l.pairs;
  matched : IsCatalog l.pairs → AreMatched l.pairs l.marks.items l.at;
}
