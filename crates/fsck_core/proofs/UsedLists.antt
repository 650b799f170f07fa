-- The extents of what uses a volume's blocks, gathered one after the other.
use Rattle.std.proofs.Common.{◌≡◌, ◌<◌, ℕ, ◌+◌, ◌-◌, Bool, true, false, ◌==◌, List, [], ◌∷◌, ◌++◌, length, map, take, get_or, refl, sym, ◌∙◌, ap, if◌then◌else◌, append_assoc, append-nil}
use Rattle.std.specs.List.{flat_map, range_with_len}
use Rattle.std.proofs.lemmas.List.Concat.{flat_map-append}
use Rattle.hx_bytes.specs.declared.extents.Extent.{Extent}
use Rattle.fork_map.specs.Blocks.{blocks_of}
use Rattle.volume_header.specs.declared.header.VolumeHeader.{VolumeHeader}
use Rattle.btree_node.specs.Levels.{Pair}
use Rattle.hfs_model.specs.Sorted.{kept}
use Rattle.hfs_volume.specs.Blocks.{forks_of, used_in}
use Rattle.hfs_volume.specs.Content.{VolumeState, records_of, overflow_in_volume}
use Rattle.hfs_volume.specs.Forks.{in_use, blocks_owned, extents_of, bad_extents, bad_blocks_id, reserved_blocks, used_blocks, parts_for}
use Rattle.hfs_volume.specs.Records.{Overflow, attribute_of, spelled_value}
use Rattle.hfs_volume.specs.Values.{blocks_of_values, extents_in}
use Rattle.fsck_core.specs.Names.{pair_at}
use Rattle.fsck_core.specs.Overflows.{overflow_in, overflows_in}
use Rattle.fsck_core.specs.UsedExtents.{reserved_extents, last_part, bad_in}
use Rattle.fsck_core.specs.Owners.{owned_in, owned_all}
use Rattle.fsck_core.specs.declared.follow.OwnedFork.{OwnedFork}
use Rattle.fsck_core.specs.declared.overflow.OverflowRow.{OverflowRow}
use Rattle.fsck_core.proofs.JudgedLaws.{flat_more}

pub blocks_both : (xs ys : List Extent) → blocks_of (xs ++ ys) ≡ blocks_of xs ++ blocks_of ys
blocks_both xs ys = flat_map-append (λ (e : Extent). range_with_len e.start e.count) xs ys

-- past the end of a list it doesn't matter
abbrev pub no_fork : OwnedFork
no_fork = record { id = 0; kind = 0; fork = record { logical_size = 0; clump_size = 0; total_blocks = 0; extents = record { extents = [] } } }

abbrev pub no_overflow : OverflowRow
no_overflow = record { fork = 0; id = 0; start = 0; extents = record { extents = [] } }

-- the blocks of a fork with its owner
abbrev pub blocks_at : List Overflow → OwnedFork → List ℕ
blocks_at overflow row = blocks_owned overflow (owned_in row)

-- the extents of one fork more
pub owned_blocks_more : (overflow : List Overflow) (forks : List OwnedFork) (k : ℕ) (d : OwnedFork) (first mid new fork : List Extent) → k < length forks
    → blocks_of mid ≡ blocks_of first ++ flat_map (blocks_at overflow) (take k forks) → fork ≡ extents_of overflow (get_or forks k d).id (get_or forks k d).kind (get_or forks k d).fork → new ≡ mid ++ fork
    → blocks_of new ≡ blocks_of first ++ flat_map (blocks_at overflow) (take (k + 1) forks)
owned_blocks_more overflow forks k d first mid new fork inside was fork_is is =
    let here : List ℕ = blocks_at overflow (get_or forks k d) in
    ap (λ (l : List Extent). blocks_of l) is ∙ blocks_both mid fork ∙ (λ i. was i ++ blocks_of (fork_is i)) ∙ append_assoc (blocks_of first) (flat_map (blocks_at overflow) (take k forks)) here
    ∙ ap (λ l. blocks_of first ++ l) (sym (flat_more (blocks_at overflow) forks k d inside))

pub owned_blocks_all : (overflow : List Overflow) (forks : List OwnedFork) → flat_map (blocks_at overflow) forks ≡ flat_map (blocks_owned overflow) (owned_all forks)
owned_blocks_all overflow [] = refl
owned_blocks_all overflow (row ∷ rest) = ap (λ l. blocks_at overflow row ++ l) (owned_blocks_all overflow rest)

-- the extents of one row more of bad blocks
pub bad_more : (rows : List OverflowRow) (k : ℕ) (d : OverflowRow) (first mid new : List Extent) → k < length rows → mid ≡ first ++ flat_map bad_in (take k rows) → new ≡ mid ++ bad_in (get_or rows k d) → new ≡ first ++ flat_map bad_in (take (k + 1) rows)
bad_more rows k d first mid new inside was is =
    is ∙ ap (λ l. l ++ bad_in (get_or rows k d)) was ∙ append_assoc first (flat_map bad_in (take k rows)) (bad_in (get_or rows k d)) ∙ ap (λ l. first ++ l) (sym (flat_more bad_in rows k d inside))

bad_all : (rows : List OverflowRow) → flat_map bad_in rows ≡ bad_extents (overflows_in rows)
bad_all [] = refl
bad_all (row ∷ rest) = ap (λ l. bad_in row ++ l) (bad_all rest) ∙ by (row.id == bad_blocks_id)
  where
    by : (b : Bool) → (if b then row.extents.extents else []) ++ bad_extents (overflows_in rest)
        ≡ flat_map (λ (more : Overflow). more.extents) ((if b then overflow_in row ∷ [] else []) ++ kept (λ (more : Overflow). more.id == bad_blocks_id) (overflows_in rest))
    by true = refl
    by false = refl

reserved_all : (sectors : ℕ) (head : VolumeHeader) → blocks_of (reserved_extents sectors head) ≡ reserved_blocks sectors head
reserved_all sectors head = ap (λ l. range_with_len 0 (parts_for 1536 head.block_size) ++ l) (append-nil (range_with_len (last_part sectors head) (head.total_blocks - last_part sectors head)))

-- the blocks of the value in a pair
abbrev pub value_blocks : Pair → List ℕ
value_blocks pair = blocks_of (in_use (extents_in (spelled_value pair.1)))

-- the extents of one record more
pub values_more : (pairs : List Pair) (k : ℕ) (value : List ℕ) (first mid new : List Extent) → k < length pairs → blocks_of mid ≡ blocks_of first ++ flat_map value_blocks (take k pairs) → value ≡ (pair_at pairs k).1
    → new ≡ mid ++ in_use (extents_in (spelled_value value)) → blocks_of new ≡ blocks_of first ++ flat_map value_blocks (take (k + 1) pairs)
values_more pairs k value first mid new inside was value_is is =
    let here : List ℕ = value_blocks (pair_at pairs k) in
    ap (λ (l : List Extent). blocks_of l) is ∙ blocks_both mid (in_use (extents_in (spelled_value value))) ∙ (λ i. was i ++ blocks_of (in_use (extents_in (spelled_value (value_is i)))))
    ∙ append_assoc (blocks_of first) (flat_map value_blocks (take k pairs)) here ∙ ap (λ l. blocks_of first ++ l) (sym (flat_more value_blocks pairs k ([], []) inside))

pub values_all : (pairs : List Pair) → flat_map value_blocks pairs ≡ blocks_of_values (map attribute_of pairs)
unfolding blocks_of_values attribute_of
values_all [] = refl
values_all (pair ∷ rest) = ap (λ l. value_blocks pair ++ l) (values_all rest)

-- all together
module _ (volume : VolumeState) (sectors : ℕ) (head : VolumeHeader) (rows : List OverflowRow) (forks : List OwnedFork) (attributes : List Pair) (first mid third last : List Extent) (sectors_are : sectors ≡ volume.sectors) (head_is : head ≡ volume.head)
    (overflow_is : overflows_in rows ≡ overflow_in_volume volume) (forks_are : owned_all forks ≡ forks_of volume) (attributes_are : attributes ≡ volume.attribute_pairs) where
  files_all : first ≡ reserved_extents sectors head → blocks_of mid ≡ blocks_of first ++ flat_map (blocks_owned (overflows_in rows)) (owned_all forks) → third ≡ mid ++ flat_map bad_in rows
      → blocks_of third ≡ used_blocks volume.sectors volume.head (records_of volume) (overflow_in_volume volume)
  unfolding used_blocks
  files_all reserved owned bad =
      ap (λ (l : List Extent). blocks_of l) bad ∙ blocks_both mid (flat_map bad_in rows)
      ∙ (λ i. owned i ++ blocks_of (bad_all rows i))
      ∙ (λ i. (blocks_of (reserved i) ++ flat_map (blocks_owned (overflow_is i)) (forks_are i)) ++ blocks_of (bad_extents (overflow_is i)))
      ∙ (λ i. (reserved_all (sectors_are i) (head_is i) i ++ flat_map (blocks_owned (overflow_in_volume volume)) (forks_of volume)) ++ blocks_of (bad_extents (overflow_in_volume volume)))

  pub used_all : first ≡ reserved_extents sectors head → blocks_of mid ≡ blocks_of first ++ flat_map (blocks_owned (overflows_in rows)) (owned_all forks) → third ≡ mid ++ flat_map bad_in rows
      → blocks_of last ≡ blocks_of third ++ blocks_of_values (map attribute_of attributes) → blocks_of last ≡ used_in volume
  used_all reserved owned bad values = values ∙ (λ i. files_all reserved owned bad i ++ blocks_of_values (map attribute_of (attributes_are i)))
