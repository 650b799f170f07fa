-- The bytes of a value in blocks of a sound volume are those of its extents, as the space reads them.
use Rattle.std.proofs.Common.{◌≡◌, ℕ, ◌<◌, ◌≤◌, ◌+◌, ◌*◌, ◌/◌, ◌==◌, Bool, true, List, length, map, take, refl, sym, ◌∙◌, ap, subst, arith}
use Rattle.std.specs.Prelude.{Contains, All, IfOk, IfSome, ◌%◌, find, Option, Some, None, Result}
use Rattle.std.specs.Str.{bytes_eq}
use Rattle.std.specs.List.{list_all}
use Rattle.std.proofs.lemmas.Bool.{eqb-true, and_parts}
use Rattle.std.proofs.lemmas.List.{length-take}
use Rattle.std.proofs.lemmas.Slice.Eq.{bytes_eq-Decides}
use Rattle.hx_bytes.specs.declared.extents.Extent.{Extent}
use Rattle.hx_bytes.specs.declared.extents.ForkRecord.{ForkRecord}
use Rattle.sector_disk.specs.Lists.{Content}
use Rattle.jnl_format.specs.Recovery.{header_of_volume}
use Rattle.fork_map.specs.Blocks.{blocks_of, sectors_of}
use Rattle.file_io.specs.Bytes.{fork_bytes as bytes_read}
use Rattle.file_io.proofs.ByteLaws.{length-bytes_in, bytes_enough}
use Rattle.cat_records.specs.declared.attribute.AttrRecord.{AttrRecord}
use Rattle.cat_records.specs.declared.attribute.AttrRecord.TheVariants as attribute
use Rattle.attributes.specs.Values.{value_at, value_in, value_of_first}
use Rattle.hfs_model.specs.Sorted.{kept}
use Rattle.hfs_volume.specs.Blocks.{FitsIn, HasValueSizes}
use Rattle.hfs_volume.specs.Content.{VolumeState, volume_of, attributes_of, block_limit, fork_bytes}
use Rattle.hfs_volume.specs.Forks.{in_use, per_block_of}
use Rattle.hfs_volume.specs.Records.{Attribute, attribute_of}
use Rattle.hfs_volume.specs.Sound.{IsSoundVolume}
use Rattle.hfs_volume.specs.Values.{extents_in, is_record_of, used_extents, value_blocks, value_extents}
use Rattle.hfs_volume.proofs.Flat.{found_some}
use Rattle.hfs_volume.proofs.Members.{each_of, kept_cases}
use Rattle.hfs_volume.proofs.Reaching.{flat_cases}
use Rattle.volume_base.specs.Opening.{ends_inside}
use Rattle.volume_base.specs.Values.{IsHeldIn, value_told}
use Rattle.attributes.specs.declared.value.ValueAt.{ValueAt}
use Rattle.hfs_language.specs.declared.reply.Reply.{Reply}
use Rattle.hx_bytes.specs.declared.faults.Trouble.{Trouble}
use Rattle.volume_header.specs.declared.header.VolumeHeader.{VolumeHeader}
use Rattle.volume_base.specs.Lists.{lists_of}
use Rattle.volume_base.specs.Standing.{IsSettled}
use Rattle.volume_base.specs.declared.volume.Volume.{Volume}
use Rattle.volume_base.proofs.Extending.{head_kept}
use Rattle.volume_base.proofs.Seeing.{if_so}
use Rattle.volume_base.proofs.FileBytes.{geometry_is, same_bytes, size_is, total_is}
use Rattle.volume_base.proofs.SoundForks.{all_end_inside, sectors_inside}

module _ (content : Content) (sound : IsSoundVolume (volume_of content)) where
  abbrev volume : VolumeState
  volume = volume_of content

  abbrev attributes : List Attribute
  attributes = attributes_of (volume_of content)

  abbrev per : ℕ
  per = per_block_of (header_of_volume content)

  abbrev block : ℕ
  block = (header_of_volume content).block_size

  sizes_of : (a : Attribute) → Contains attributes a → HasValueSizes volume.head.total_blocks volume.head.block_size attributes a
  sizes_of a stands = each_of (HasValueSizes volume.head.total_blocks volume.head.block_size attributes) attributes sound.blocks.forks.values a stands

  -- an extent of a value ends in the volume
  extent_inside : (id : ℕ) (name : List ℕ) (e : Extent) → Contains (value_extents attributes id name) e → e.start + e.count ≤ (header_of_volume content).total_blocks
  extent_inside id name e has =
      let from = flat_cases used_extents (kept (is_record_of id name) attributes) e has in
      let inside = each_of (λ (x : Extent). x.start + x.count ≤ volume.head.total_blocks) (in_use (extents_in from.0.value)) (sizes_of from.0 (kept_cases (is_record_of id name) attributes from.0 from.1).0).inside e from.2 in
      omega (arith, inside, total_is content sound)

  module _ (id : ℕ) (name : List ℕ) where
    abbrev extents : List Extent
    extents = value_extents (attributes_of (volume_of content)) id name

    ends : list_all (ends_inside per (block_limit content)) extents ≡ true
    ends = all_end_inside per (block_limit content) (header_of_volume content).total_blocks extents (omega arith) (extent_inside id name)

    pub ends_there : list_all (ends_inside per (length content)) extents ≡ true
    ends_there = all_end_inside per (length content) (header_of_volume content).total_blocks extents (geometry_is content sound).inside (extent_inside id name)

    pub value_bytes_are : (size : ℕ) → take size (fork_bytes content extents) ≡ take size (bytes_read content block extents)
    value_bytes_are size = ap (take size) (same_bytes content (block_limit content) (sectors_of per (blocks_of extents)) (sectors_inside per (block_limit content) extents (geometry_is content sound).some ends))

    module _ (a : Attribute) (stands : Contains attributes a) (here : is_record_of id name a ≡ true) (fork : ForkRecord) (value : a.value ≡ attribute.Fork fork) where
      -- its blocks hold its bytes
      pub value_holds : fork.logical_size ≤ length (blocks_of extents) * block
      value_holds =
          let key = and_parts (a.id == id) (bytes_eq a.name name) here in
          let fits : FitsIn volume.head.block_size attributes a (attribute.Fork fork) = subst (FitsIn volume.head.block_size attributes a) value (sizes_of a stands).fits in
          let blocks : length (value_blocks attributes id name) ≡ fork.total_blocks = sym (λ i. length (value_blocks attributes (eqb-true a.id id key.0 i) ((bytes_eq-Decides a.name name).0 key.1 i))) ∙ fits.0 in
          subst (λ n. fork.logical_size ≤ n) (λ i. sym blocks i * size_is content sound i) fits.1

      pub value_long : length (take fork.logical_size (fork_bytes content extents)) ≡ fork.logical_size
      value_long =
          let enough = bytes_enough per block fork.logical_size (blocks_of extents) refl (omega (arith, (geometry_is content sound).whole)) value_holds in
          ap (λ (l : List ℕ). length l) (value_bytes_are fork.logical_size)
          ∙ omega (arith, enough, length-take fork.logical_size (bytes_read content block extents), length-bytes_in content (sectors_of per (blocks_of extents)))

    -- the value that is found lies in the content
    pub value_held : IfSome (value_at (volume_of content).attribute_pairs id name) (IsHeldIn block (length content))
    value_held = by_first (find (is_record_of id name) attributes) refl
      where
        by_value : (a : Attribute) → Contains attributes a → is_record_of id name a ≡ true → (v : AttrRecord) → a.value ≡ v → IfSome (value_in attributes id name v) (IsHeldIn block (length content))
        by_value a stands here (attribute.Inline v) same = tt
        by_value a stands here (attribute.Fork fork) same = (ends_there, value_holds a stands here fork same)
        by_value a stands here (attribute.More e) same = tt

        by_first : (o : Option Attribute) → find (is_record_of id name) attributes ≡ o → IfSome (value_of_first attributes id name o) (IsHeldIn block (length content))
        by_first None found = tt
        by_first (Some a) found = let it = found_some (is_record_of id name) attributes a found in by_value a it.0 it.1 a.value refl

-- ---- the reply

-- the reply that tells a value which was found tells the one that there is
pub value_replied : (v : Volume) (content : Content) → IsSettled v content → (id : ℕ) (name : List ℕ) (found : Option ValueAt) → found ≡ value_at (lists_of v content).attribute_pairs id name
    → (later : Content) (sectors size : ℕ) → later ≡ content → length content ≡ sectors → size ≡ v.header.block_size → (result : Result Reply Trouble)
    → (size % 512 ≡ 0 → IfSome found (IsHeldIn size sectors) → IfOk result (λ told. told ≡ value_told later size found))
    → IfOk result (λ told. told ≡ value_told content v.header.block_size (value_at (lists_of v content).attribute_pairs id name))
value_replied v content settled id name found found_is later sectors size same long_is size_same result told =
    let size_at : size ≡ (header_of_volume content).block_size = size_same ∙ ap (λ (h : VolumeHeader). h.block_size) (head_kept v content settled) in
    let geometry = geometry_is content settled.sound in
    let there : found ≡ value_at (volume_of content).attribute_pairs id name = found_is ∙ ap (λ (l : VolumeState). value_at l.attribute_pairs id name) (sym settled.lists) in
    if_so (λ (r : Reply). r ≡ value_told later size found) (λ (r : Reply). r ≡ value_told content v.header.block_size (value_at (lists_of v content).attribute_pairs id name)) result
    (λ r is. is ∙ (λ i. value_told (same i) (size_same i) (found_is i)))
    (told (omega (arith, size_at, geometry.whole))
    (subst (λ (k : Option ValueAt × ℕ × ℕ). IfSome k.0 (IsHeldIn k.1 k.2)) (λ i. (sym there i, sym size_at i, long_is i)) (value_held content settled.sound id name)))
