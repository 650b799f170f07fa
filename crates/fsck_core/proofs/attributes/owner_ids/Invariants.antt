use Rattle.std.proofs.Common.{◌≡◌, ℕ, take}
use Rattle.alloc_bitmap.specs.Apart.{times}
use Rattle.fsck_core.specs.Attributes.{owner_count}
use Rattle.fsck_core.proofs.attributes.owner_ids.Given as goal

abbrev pub invariant-loop-row : goal.invariant-loop-row
invariant-loop-row l = record {
  same : (id : ℕ) → times id l.ids.items ≡ owner_count (take l.row-index l.rows) id;
}
