use Rattle.std.proofs.Common.{◌≡◌, ℕ, ◌<◌, false, get_or}
use Rattle.std.specs.Prelude.{None, Some}
use Rattle.jnl_store.specs.Own.{owns}
use Rattle.jnl_store.proofs.cache.any_own.Given as goal

abbrev pub invariant-loop-i : goal.invariant-loop-i
invariant-loop-i l = record {
  none : (k at : ℕ) → k < l.i → get_or l.names k None ≡ Some at → owns l.own at ≡ false;
}
