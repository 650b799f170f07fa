-- The blocks of values of a settled volume: each is used, none stands twice; and the header counts those that aren't used.
use Rattle.std.proofs.Common.{◌≡◌, ◌<◌, ◌≤◌, ℕ, ◌+◌, Bool, true, false, not, List, [], ◌∷◌, length, get_or, map, cond, refl, sym, ◌∙◌, ap, subst, arith}
use Rattle.std.specs.Prelude.{Contains}
use Rattle.std.specs.List.{count_by, range_with_len}
use Rattle.std.proofs.lemmas.List.FromFn.{length-range_with_len}
use Rattle.std.proofs.lemmas.List.Sums.{sum_by-cons}
use Rattle.hx_bytes.specs.declared.extents.Extent.{Extent}
use Rattle.fork_map.specs.Blocks.{blocks_of}
use Rattle.flag_rows.specs.Bits.{count_set}
use Rattle.alloc_bitmap.specs.Apart.{AreApart, times}
use Rattle.alloc_bitmap.specs.Map.{unused_of}
use Rattle.alloc_bitmap.proofs.ApartLaws.{times-append}
use Rattle.file_io.specs.Places.{AreUsed}
use Rattle.file_io.proofs.MarkLaws.{set_cons}
use Rattle.attributes.specs.Values.{extents_at}
use Rattle.btree_node.specs.Levels.{Pair}
use Rattle.sector_disk.specs.Lists.{Content}
use Rattle.hfs_volume.specs.Blocks.{HasValueSizes, is_among, used_in}
use Rattle.hfs_volume.specs.Content.{VolumeState, attributes_of, is_set, overflow_in_volume, records_of, volume_of}
use Rattle.hfs_volume.specs.Forks.{used_blocks}
use Rattle.hfs_volume.specs.Records.{attribute_of}
use Rattle.hfs_volume.specs.Sound.{IsSoundVolume}
use Rattle.hfs_volume.specs.Values.{blocks_of_values, is_record_of, used_extents, value_blocks}
use Rattle.hfs_volume.specs.Weight.{free_blocks}
use Rattle.hfs_volume.proofs.Apart.{among, value_is_used}
use Rattle.hfs_volume.proofs.BlockWants.{range_bounds}
use Rattle.hfs_volume.proofs.Members.{all_of, at_front, behind, each_of}
use Rattle.hfs_volume.proofs.Reaching.{flat_cases}
use Rattle.hfs_volume.proofs.Valued.{value_block_among}
use Rattle.hfs_volume.proofs.ValueTrades.{blocks_split, named_blocks}
use Rattle.volume_header.specs.declared.header.VolumeHeader.{VolumeHeader}
use Rattle.volume_base.specs.Lists.{bits_on, lists_of}
use Rattle.volume_base.specs.Standing.{IsSettled, with_attributes_tree}
use Rattle.volume_base.specs.declared.volume.Volume.{Volume}
use Rattle.volume_base.proofs.Gauging.{free_is}
use Rattle.volume_base.proofs.Mapped.{kept_bit}

-- a block of a value lies inside the volume
value_inside : (volume : VolumeState) → IsSoundVolume volume → (block : ℕ) → Contains (blocks_of_values (attributes_of volume)) block → block < volume.head.total_blocks
unfolding blocks_of_values
value_inside volume sound block stands =
    let from = flat_cases (λ record_. blocks_of (used_extents record_)) (attributes_of volume) block stands in
    let run = flat_cases (λ (e : Extent). range_with_len e.start e.count) (used_extents from.0) block from.2 in
    let inside = each_of (λ (e : Extent). e.start + e.count ≤ volume.head.total_blocks) (used_extents from.0) (each_of (HasValueSizes volume.head.total_blocks volume.head.block_size (attributes_of volume)) (attributes_of volume) sound.blocks.forks.values from.0 from.1).inside run.0 run.1 in
    let bounds = range_bounds run.0.start run.0.count block run.2 in
    omega (arith, inside, bounds.0, bounds.1)

-- the values that don't pass a test and those that pass another one like it are all
counted_by : (P Q : ℕ → Bool) (xs : List ℕ) → ((k : ℕ) → Contains xs k → P k ≡ Q k) → count_set (map (λ k. not (P k)) xs) + count_by Q xs ≡ length xs
counted_by P Q [] same = refl
counted_by P Q (x ∷ xs) same =
    let rest = counted_by P Q xs (λ k there. same k (behind x k xs there)) in
    let here = one (P x) (Q x) (same x (at_front x xs)) in
    let first = set_cons (not (P x)) (map (λ k. not (P k)) xs) in
    let second : count_by Q (x ∷ xs) ≡ cond (Q x) 1 0 + count_by Q xs = sum_by-cons (λ k. cond (Q k) 1 0) x xs in
    omega (arith, rest, here, first, second)
  where
    one : (p q : Bool) → p ≡ q → cond (not p) 1 0 + cond q 1 0 ≡ 1
    one true true is = refl
    one false false is = refl
    one true false is = absurd (cc is)
    one false true is = absurd (cc is)

module _ (v : Volume) (content : Content) (settled : IsSettled v content) where
  head_is : (volume_of content).head ≡ v.header
  head_is = ap (λ (l : VolumeState). l.head) settled.lists

  bit_is : (block : ℕ) → is_set (volume_of content) block ≡ get_or (bits_on v) block false
  bit_is block = ap (λ (l : VolumeState). is_set l block) settled.lists

  -- a block of a value is in use
  block_used : (block : ℕ) → Contains (blocks_of_values (attributes_of (volume_of content))) block → get_or v.map.used block false ≡ true
  block_used block there =
      let inside = value_inside (volume_of content) settled.sound block there in
      let low : block < length v.map.used = omega (arith, inside, settled.blocks, ap (λ (h : VolumeHeader). h.total_blocks) head_is) in
      sym (kept_bit v block low) ∙ sym (bit_is block) ∙ settled.sound.blocks.bits.bits block inside ∙ among (used_in (volume_of content)) block (value_is_used (volume_of content) block there)

  pub values_used : (blocks : List ℕ) → ((block : ℕ) → Contains blocks block → Contains (blocks_of_values (attributes_of (volume_of content))) block) → AreUsed v.map blocks
  values_used blocks of_values = all_of (λ (block : ℕ). get_or v.map.used block false ≡ true) blocks (λ block there. block_used block (of_values block there))

  pub values_apart : (blocks : List ℕ) → ((block : ℕ) → times block blocks ≤ times block (blocks_of_values (attributes_of (volume_of content)))) → AreApart blocks
  values_apart blocks few block =
      let all = volume_of content in
      let once : times block (used_in (volume_of content)) ≤ 1 = settled.sound.blocks.forks.once block in
      let parts = times-append block (used_blocks all.sectors all.head (records_of all) (overflow_in_volume all)) (blocks_of_values (attributes_of all)) in
      omega (arith, few block, once, parts)

  -- those of one attribute
  pub value_used : (id : ℕ) (name : List ℕ) → AreUsed v.map (value_blocks (attributes_of (volume_of content)) id name)
  value_used id name = values_used (value_blocks (attributes_of (volume_of content)) id name) (value_block_among (attributes_of (volume_of content)) id name)

  pub value_apart : (id : ℕ) (name : List ℕ) → AreApart (value_blocks (attributes_of (volume_of content)) id name)
  value_apart id name = values_apart (value_blocks (attributes_of (volume_of content)) id name) (λ block.
      omega (arith, ap (times block) (named_blocks (attributes_of (volume_of content)) id name), blocks_split (is_record_of id name) (attributes_of (volume_of content)) block))

  pub freed_is : (id : ℕ) (name : List ℕ) → blocks_of (extents_at (lists_of v content).attribute_pairs id name) ≡ value_blocks (attributes_of (volume_of content)) id name
  freed_is id name = ap (λ (l : List Pair). value_blocks (map attribute_of l) id name) (sym (ap (λ (l : VolumeState). l.attribute_pairs) settled.lists))

  -- the header counts the blocks that aren't used
  pub free_counted : count_set (unused_of v.map) ≡ v.header.free_blocks
  unfolding free_blocks
  free_counted =
      let sum : v.header.free_blocks + count_by (is_among (used_in (volume_of content))) (range_with_len 0 v.header.total_blocks) ≡ v.header.total_blocks =
      subst (λ (h : VolumeHeader). h.free_blocks + count_by (is_among (used_in (volume_of content))) (range_with_len 0 h.total_blocks) ≡ h.total_blocks) head_is settled.sound.blocks.bits.free in
      let split : count_set (map (λ k. not (is_set (with_attributes_tree (lists_of v content) (volume_of content)) k)) (range_with_len 0 v.header.total_blocks)) + count_by (is_among (used_in (volume_of content))) (range_with_len 0 v.header.total_blocks) ≡ length (range_with_len 0 v.header.total_blocks) =
      counted_by (is_set (with_attributes_tree (lists_of v content) (volume_of content))) (is_among (used_in (volume_of content))) (range_with_len 0 v.header.total_blocks) (λ k there.
      let low : k < (volume_of content).head.total_blocks = omega (arith, (range_bounds 0 v.header.total_blocks k there).1, ap (λ (h : VolumeHeader). h.total_blocks) head_is) in
      sym (bit_is k) ∙ settled.sound.blocks.bits.bits k low) in
      let same : count_set (unused_of v.map) ≡ count_set (map (λ k. not (is_set (with_attributes_tree (lists_of v content) (volume_of content)) k)) (range_with_len 0 v.header.total_blocks)) = ap count_set (free_is v content settled) in
      omega (arith, sum, split, same, length-range_with_len 0 v.header.total_blocks)
