-- What becomes of the value of an attribute, told by the value that is found; and how many blocks and extents that has.
use Rattle.std.proofs.Common.{◌≡◌, ◌<◌, ◌≤◌, ◌^◌, ℕ, ◌+◌, ◌==◌, Bool, true, false, not, List, [], ◌∷◌, ◌++◌, length, map, refl, sym, ◌∙◌, ap, subst, arith, inl, inr}
use Rattle.std.specs.Prelude.{find, Option, None, Some, if◌then◌else◌}
use Rattle.std.specs.List.{flat_map, range_with_len}
use Rattle.std.proofs.lemmas.Grind.{flat_map-append}
use Rattle.std.proofs.lemmas.List.{length-append}
use Rattle.std.proofs.lemmas.List.FromFn.{length-range_with_len}
use Rattle.std.proofs.lemmas.Bool.Decides.{eqb_tells}
use Rattle.hx_bytes.specs.declared.extents.Extent.{Extent}
use Rattle.fork_map.specs.Blocks.{blocks_of}
use Rattle.file_io.proofs.CutLaws.{few_used}
use Rattle.attributes.specs.declared.value.ValueAt.{ValueAt}
use Rattle.attributes.specs.declared.value.ValueAt.TheVariants as held
use Rattle.attributes.specs.Values.{extents_at, value_at, value_in, value_of_first}
use Rattle.btree_node.specs.Levels.{Pair}
use Rattle.cat_records.specs.declared.attribute.AttrRecord.{AttrRecord}
use Rattle.cat_records.specs.declared.attribute.AttrRecord.TheVariants as attribute
use Rattle.hfs_model.specs.Sorted.{kept}
use Rattle.hfs_volume.specs.Changes.{AreSortedAttributes, is_attribute_of}
use Rattle.hfs_volume.specs.Content.{VolumeState, attributes_of, volume_of}
use Rattle.hfs_volume.specs.Forks.{in_use}
use Rattle.hfs_volume.specs.Records.{Attribute, attribute_of}
use Rattle.hfs_volume.specs.Values.{extents_in, is_record_of, used_extents, value_blocks, value_extents}
use Rattle.hfs_volume.specs.Cost.{overflow_records}
use Rattle.hfs_volume.specs.Weight.{freed_blocks, further_records, value_change}
use Rattle.sector_disk.specs.Lists.{Content}
use Rattle.volume_base.specs.Lists.{lists_of}
use Rattle.volume_base.specs.Standing.{HoldsTrees, IsSettled}
use Rattle.volume_base.specs.Values.{AreFew, change_of, freed_by}
use Rattle.volume_base.specs.declared.volume.Volume.{Volume}
use Rattle.volume_base.proofs.NoValue.{inline_extents, none_extents}
use Rattle.volume_base.proofs.OwnedChange.{settled_valued}
use Rattle.volume_base.proofs.Rising.{settled_attributes_sorted}
use Rattle.volume_base.proofs.ValueFreed.{value_apart, value_used}

-- extents in use are at most as many as their blocks
used_few : (extents : List Extent) → length (in_use extents) ≤ length (blocks_of (in_use extents))
used_few [] = omega arith
used_few (e ∷ es) = by_count (e.count == 0) refl (used_few es)
  where
    by_count : (b : Bool) → (e.count == 0) ≡ b → length (in_use es) ≤ length (blocks_of (in_use es))
        → length ((if not b then e ∷ [] else []) ++ in_use es) ≤ length (blocks_of ((if not b then e ∷ [] else []) ++ in_use es))
    by_count true is rest = rest
    by_count false is rest =
        let some : 0 < e.count = elim (eqb_tells e.count 0) [
          | inl none ↦ absurd (cc (sym none.0 ∙ is))
          | inr more ↦ omega (arith, more.1)
        ] in
        omega (arith, rest, some, length-append (range_with_len e.start e.count) (blocks_of (in_use es)), length-range_with_len e.start e.count)

all_few : (records : List Attribute) → length (flat_map used_extents records) ≤ length (blocks_of (flat_map used_extents records))
all_few [] = omega arith
all_few (a ∷ rest) = omega (
  arith,
  used_few (extents_in a.value),
  all_few rest,
  length-append (used_extents a) (flat_map used_extents rest),
  ap (λ (l : List ℕ). length l) (flat_map-append (λ (e : Extent). range_with_len e.start e.count) (used_extents a) (flat_map used_extents rest)),
  length-append (blocks_of (used_extents a)) (blocks_of (flat_map used_extents rest)),
)

-- the extents of a value that is found are those of the attribute
pub in_blocks : (attributes : List Attribute) (id : ℕ) (name : List ℕ) (found : Option Attribute) (size : ℕ) (fork : List Extent) → value_of_first attributes id name found ≡ Some (held.Blocks size fork) → fork ≡ value_extents attributes id name
in_blocks attributes id name None size fork is = cc is
in_blocks attributes id name (Some first) size fork is = of_value first.value is
  where
    fork_or : Option ValueAt → List Extent
    fork_or None = []
    fork_or (Some (held.Inline v)) = []
    fork_or (Some (held.Blocks n l)) = l

    of_value : (v : AttrRecord) → value_in attributes id name v ≡ Some (held.Blocks size fork) → fork ≡ value_extents attributes id name
    of_value (attribute.Inline v) told = absurd (cc told)
    of_value (attribute.Fork f) told = sym (ap fork_or told)
    of_value (attribute.More e) told = absurd (cc told)

module _ (v : Volume) (content : Content) (holds : HoldsTrees v content) (settled : IsSettled v content) (id : ℕ) (name : List ℕ) where
  abbrev pairs : List Pair
  pairs = (lists_of v content).attribute_pairs

  pairs_are : (volume_of content).attribute_pairs ≡ pairs
  pairs_are = ap (λ (l : VolumeState). l.attribute_pairs) settled.lists

  extents_are : extents_at pairs id name ≡ value_extents (attributes_of (volume_of content)) id name
  extents_are = ap (λ (l : List Pair). value_extents (map attribute_of l) id name) (sym pairs_are)

  sorted : AreSortedAttributes pairs
  sorted = subst AreSortedAttributes pairs_are (settled_attributes_sorted v content holds settled)

  module _ (total : length v.map.used < 2 ^ 32) where
    few_blocks : length (blocks_of (extents_at pairs id name)) < 2 ^ 32
    few_blocks = omega (arith, ap (λ (l : List Extent). length (blocks_of l)) extents_are, few_used v.map (value_blocks (attributes_of (volume_of content)) id name) (value_apart v content settled id name) (value_used v content settled id name), total)

    few_extents : length (extents_at pairs id name) < 2 ^ 32
    few_extents = omega (arith, few_blocks, all_few (kept (is_record_of id name) (map attribute_of pairs)))

    -- the value that is found has as many blocks and extents as a volume may have
    pub found_few : AreFew (value_at pairs id name)
    found_few = of_found (value_at pairs id name) refl
      where
        of_found : (found : Option ValueAt) → value_at pairs id name ≡ found → AreFew found
        of_found None is = tt
        of_found (Some (held.Inline w)) is = tt
        of_found (Some (held.Blocks size fork)) is =
            let same = in_blocks (map attribute_of pairs) id name (find (is_attribute_of id name) (map attribute_of pairs)) size fork is in
            (omega (arith, few_blocks, ap (λ (l : List Extent). length (blocks_of l)) same), omega (arith, few_extents, ap (λ (l : List Extent). length l) same))

    -- and so has the change by which it goes
    pub freed_few : freed_blocks (volume_of content) id name < 2 ^ 32
    freed_few = omega (arith, ap (λ (l : List Extent). length (blocks_of l)) extents_are, few_blocks)

    pub further_few : further_records (volume_of content) id name ≤ 4294950909
    further_few = omega (arith, ap (λ (l : List Extent). overflow_records (length l)) extents_are, few_extents)

  -- and tells what becomes of it
  pub change_is : (blocks : ℕ) → change_of (value_at pairs id name) blocks ≡ value_change (volume_of content) id name blocks
  change_is blocks = of_found (value_at pairs id name) refl ∙ ap (λ (l : List Extent). freed_by l blocks) extents_are
    where
      of_found : (found : Option ValueAt) → value_at pairs id name ≡ found → change_of found blocks ≡ freed_by (extents_at pairs id name) blocks
      of_found None is = ap (λ (l : List Extent). freed_by l blocks) (sym (none_extents pairs sorted (settled_valued v content settled) id name is))
      of_found (Some (held.Inline w)) is = ap (λ (l : List Extent). freed_by l blocks) (sym (inline_extents pairs sorted (settled_valued v content settled) id name w is))
      of_found (Some (held.Blocks size fork)) is = ap (λ (l : List Extent). freed_by l blocks) (in_blocks (map attribute_of pairs) id name (find (is_attribute_of id name) (map attribute_of pairs)) size fork is)
