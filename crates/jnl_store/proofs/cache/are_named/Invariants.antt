use Rattle.std.proofs.Common.{◌≡◌, ℕ, ◌<◌, ◌+◌, get_or}
use Rattle.std.specs.Prelude.{None, Some}
use Rattle.jnl_store.proofs.cache.are_named.Given as goal

abbrev pub invariant-loop-i : goal.invariant-loop-i
invariant-loop-i l = record {
  named : (k : ℕ) → k < l.i → get_or l.names k None ≡ Some (l.at + k);
}
