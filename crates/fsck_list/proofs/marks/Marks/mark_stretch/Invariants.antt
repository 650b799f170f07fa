use Rattle.std.proofs.Common.{◌≡◌, ◌⊎◌, ◌<◌, ◌≤◌, ℕ, ◌-◌, true, false, length, get_or}
use Rattle.fsck_list.proofs.marks.Marks.mark_stretch.Given as goal

abbrev pub invariant-loop-at : goal.invariant-loop-at
invariant-loop-at l = record {
  long : length l.self ≡ length l.fn.self;
  low : l.from ≤ l.at;
  high : l.at ≤ l.end;
  sets : (k : ℕ) → l.from ≤ k → k < l.at → get_or l.self k false ≡ true;
  stays : (k : ℕ) → get_or l.fn.self k false ≡ true → get_or l.self k false ≡ true;
  keeps : (k : ℕ) → (k < l.from) ⊎ (l.at ≤ k) → get_or l.self k false ≡ get_or l.fn.self k false;
}

abbrev pub decreases-loop-at : goal.decreases-loop-at
decreases-loop-at l = l.end - l.at
