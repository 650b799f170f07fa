use Rattle.std.proofs.Common.{◌≡◌, ℕ, take}
use Rattle.alloc_bitmap.specs.Apart.{times}
use Rattle.fsck_core.specs.Links.{link_count}
use Rattle.fsck_core.proofs.links.link_numbers.Given as goal

abbrev pub invariant-loop-row : goal.invariant-loop-row
invariant-loop-row l = record {
  same : (number : ℕ) → times number l.numbers.items ≡ link_count (take l.row-index l.rows) number;
}
