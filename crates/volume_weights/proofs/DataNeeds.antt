-- What data needs by the numbers that a volume keeps is what it needs by its content's.
use Rattle.std.proofs.Common.{◌≡◌, ◌<◌, ◌≤◌, ℕ, ◌+◌, Bool, true, false, List, [], ◌∷◌, length, refl, sym, ◌∙◌, ap, subst, arith}
use Rattle.std.specs.Prelude.{◌^◌, ◌&&◌, nat_le, nat_lt, max, min, slice_index, Option, None, Some, IsTrue}
use Rattle.std.proofs.lemmas.Bool.{le-leb}
use Rattle.hx_bytes.specs.declared.extents.Extent.{Extent}
use Rattle.hx_bytes.specs.declared.extents.ForkRecord.{ForkRecord}
use Rattle.fork_map.specs.Blocks.{blocks_of}
use Rattle.sector_disk.specs.Lists.{Content}
use Rattle.sector_disk.specs.Space.{Space}
use Rattle.flag_rows.specs.Runs.{fewest_of}
use Rattle.hfs_volume.specs.Content.{VolumeState, overflow_in_volume, records_of, volume_of}
use Rattle.hfs_volume.specs.Cost.{cost_of}
use Rattle.hfs_volume.specs.Forks.{parts_for}
use Rattle.hfs_volume.specs.Records.{Overflow, entry_of}
use Rattle.hfs_volume.specs.Weight.{Data, extents_found, file_blocks, file_extents, file_fork, free_blocks, free_runs, needs_cut_in, new_blocks_of, room_with}
use Rattle.hfs_volume.specs.declared.cost.Cost.{Cost}
use Rattle.hfs_volume.specs.declared.cost.Needs.{Needs}
use Rattle.volume_weights.specs.DataWeighing.{are_usual, has_more, needs_put}
use Rattle.volume_base.specs.DataWeighing.{data_as, needs_data_in}
use Rattle.volume_base.specs.Room.{free_in, room_on}
use Rattle.volume_base.specs.Standing.{IsSettled, IsStanding}
use Rattle.volume_base.specs.declared.data_cost.Put.{Put}
use Rattle.volume_base.specs.declared.room.FreeBlocks.TheVariants as blocks
use Rattle.volume_base.specs.declared.volume.Volume.{Volume}
use Rattle.overflow.proofs.Cutting.{AreUsed, blocks_cons}
use Rattle.volume_base.proofs.CutLists.{extents_used}
use Rattle.volume_base.proofs.RoomKept.{free_content}
use Rattle.volume_base.proofs.Weighed.{is_measured_told, measured_volume}

both : (a b : Bool) → a ≡ true → b ≡ true → (a && b) ≡ true
both a b one two = (λ i. one i && two i)

-- its numbers are such as volumes have
pub usual_told : (v : Volume) (a : Space) → IsStanding v a → IsSettled v a.content → (put : Put) → put.old_size ≤ 2 ^ 48 → put.end ≤ 2 ^ 40 → are_usual v.header.block_size put ≡ true
usual_told v a was settled put old end =
    both (nat_le 512 v.header.block_size) (nat_le put.old_size 281474976710656 && nat_le put.end 1099511627776) (le-leb 512 v.header.block_size (measured_volume (room_on blocks.All v) (is_measured_told v a was settled blocks.All)).least)
    (both (nat_le put.old_size 281474976710656) (nat_le put.end 1099511627776) (le-leb put.old_size 281474976710656 (omega (arith, old))) (le-leb put.end 1099511627776 (omega (arith, end))))

-- extents that have blocks are no more than these
used_long : (xs : List Extent) → AreUsed xs → length xs ≤ length (blocks_of xs)
used_long [] used = omega arith
used_long (x ∷ xs) used = omega (arith, blocks_cons x xs, used.0, used_long xs used.1)

found_used : (overflow : List Overflow) (id kind : ℕ) (fork : Option ForkRecord) → AreUsed (extents_found overflow id kind fork)
found_used overflow id kind None = tt
found_used overflow id kind (Some fork) = extents_used overflow id kind fork

-- a list's length, counted up to 2^32 - 1
abbrev short : ℕ → ℕ
short n = min n 4294967295

module _ (kind : ℕ) (v : Volume) (content : Content) (settled : IsSettled v content) (put : Put) where
  abbrev long : ℕ
  long = length (file_extents (volume_of content) put.id kind)

  abbrev fresh : ℕ
  fresh = new_blocks_of (volume_of content).head.block_size (data_as put)

  block_is : v.header.block_size ≡ (volume_of content).head.block_size
  block_is = sym (ap (λ (l : VolumeState). l.head.block_size) settled.lists)

  -- it has blocks past its size
  pub cut_is : (many : ℕ) → many ≡ length (file_blocks (volume_of content) put.id kind) → has_more v.header.block_size many put ≡ needs_cut_in kind (volume_of content) (Some (data_as put))
  cut_is many is = λ i. nat_lt put.old_size (max put.old_size put.end) && nat_lt (parts_for put.old_size (block_is i)) (is i)

  -- each extent has a block, so they are as few as blocks are
  pub extents_low : (held : ℕ) → held ≡ length (file_blocks (volume_of content) put.id kind) → held < 4294967296 → length (file_extents (volume_of content) put.id kind) ≤ 4294967295
  extents_low held is low = omega (arith, is, low, used_long (file_extents (volume_of content) put.id kind) (found_used (overflow_in_volume (volume_of content)) put.id kind (file_fork kind (entry_of (records_of (volume_of content)) put.id))))

  needs_are : (free : List Bool) (count : ℕ) → count ≡ short long → long ≤ 4294967295 → needs_put free v.header.block_size count (data_as put) ≡ needs_data_in kind free (volume_of content) (data_as put)
  needs_are free count is few =
      let same : count ≡ long = omega (arith, is, few) in
      λ i. needs_put free (block_is i) (same i) (data_as put)

  -- what it costs of all free blocks, and of those that may be taken
  pub all_costs : (capacity count : ℕ) → count ≡ short long → long ≤ 4294967295 → (found : Cost)
      → found ≡ cost_of (needs_put (free_in blocks.All v.map) v.header.block_size count (data_as put)) (room_with capacity (free_in blocks.All v.map) (volume_of content))
      → found ≡ cost_of (needs_data_in kind (free_blocks (volume_of content)) (volume_of content) (data_as put)) (room_with capacity (free_blocks (volume_of content)) (volume_of content))
  all_costs capacity count is none found cost =
      cost ∙ ap (λ (n : Needs). cost_of n (room_with capacity (free_in blocks.All v.map) (volume_of content))) (needs_are (free_in blocks.All v.map) count is none)
      ∙ (λ i. cost_of (needs_data_in kind (free_content v content settled i) (volume_of content) (data_as put)) (room_with capacity (free_content v content settled i) (volume_of content)))

  pub takable_costs : (capacity count : ℕ) → count ≡ short long → long ≤ 4294967295 → (found : Cost)
      → found ≡ cost_of (needs_put (free_in blocks.Takable v.map) v.header.block_size count (data_as put)) (room_with capacity (free_in blocks.Takable v.map) (volume_of content))
      → found ≡ cost_of (needs_data_in kind (free_in blocks.Takable v.map) (volume_of content) (data_as put)) (room_with capacity (free_in blocks.Takable v.map) (volume_of content))
  takable_costs capacity count is none found cost = cost ∙ ap (λ (n : Needs). cost_of n (room_with capacity (free_in blocks.Takable v.map) (volume_of content))) (needs_are (free_in blocks.Takable v.map) count is none)
