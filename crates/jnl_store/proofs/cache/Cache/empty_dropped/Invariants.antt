use Rattle.std.proofs.Common.{◌≡◌, ℕ, ◌<◌, ◌≤◌, get_or}
use Rattle.std.specs.Prelude.{None}
use Rattle.jnl_store.specs.Cache.{undone_name}
use Rattle.jnl_store.proofs.cache.Cache.empty_dropped.Given as goal

abbrev pub invariant-loop-name : goal.invariant-loop-name
invariant-loop-name l = record {
  done : (k : ℕ) → k < l.name-index → get_or l.name-items k None ≡ undone_name l.batch.all l.batch.kept (get_or l.initial.name-items k None);
  left : (k : ℕ) → l.name-index ≤ k → get_or l.name-items k None ≡ get_or l.initial.name-items k None;
}
