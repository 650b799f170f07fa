use Rattle.std.proofs.Common.{◌≡◌, ℕ, take}
use Rattle.std.specs.List.{count_by}
use Rattle.alloc_bitmap.specs.Apart.{times}
use Rattle.fsck_core.specs.Owned.{takes_id}
use Rattle.fsck_core.proofs.owners.fork_ids.Given as goal

abbrev pub invariant-loop-owned : goal.invariant-loop-owned
invariant-loop-owned l = record {
  same : (id : ℕ) → times id l.ids.items ≡ count_by (takes_id l.kind id) (take l.owned-index l.forks);
}
