use Rattle.std.proofs.Common.{◌≡◌, ◌<◌, ◌≤◌, ◌↔◌, ℕ, ◌+◌, ◌-◌, ◌*◌}
use Rattle.std.specs.Prelude.{IsTrue}
use Rattle.hx_bytes.specs.Field.{big_at}
use Rattle.btree_node.proofs.reads.descends.Given as goal

abbrev pub invariant-loop-bytes : goal.invariant-loop-bytes
invariant-loop-bytes l = record {
  before : l.before ≡ big_at 2 l.table (2 * (l.bytes-index - 1));
  descends : IsTrue l.descends ↔ ((k : ℕ) → k + 1 < l.bytes-index → big_at 2 l.table (2 * (k + 1)) ≤ big_at 2 l.table (2 * k));
}
