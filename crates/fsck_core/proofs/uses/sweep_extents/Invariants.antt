use Rattle.std.proofs.Common.{◌≡◌, ◌<◌, ◌≤◌, ℕ, false, length, replicate, take, get_or}
use Rattle.std.specs.List.Sorted.{IsNonDecreasingBy}
use Rattle.hx_bytes.specs.declared.extents.Extent.{Extent}
use Rattle.fork_map.specs.Blocks.{blocks_of}
use Rattle.alloc_bitmap.specs.Apart.{times}
use Rattle.fsck_core.specs.Uses.{HasSwept}
use Rattle.fsck_core.proofs.uses.sweep_extents.Given as goal

abbrev pub invariant-loop-extent : goal.invariant-loop-extent
invariant-loop-extent l = record {
  long : length l.used ≡ length l.fn.used;
  swept : IsNonDecreasingBy (λ (e : Extent). e.start) l.sorted → ((block : ℕ) → times block (blocks_of l.sorted) ≡ times block (blocks_of l.extents)) → l.fn.used ≡ replicate (length l.fn.used) false → (last : ℕ)
      → ((k : ℕ) → k < l.extent-index → (get_or l.sorted k (record { start = 0; count = 0 })).start ≤ last)
      → HasSwept (length l.fn.used) (blocks_of l.extents) (blocks_of (take l.extent-index l.sorted)) l.fn.out l.used l.out l.sweep last;
}
