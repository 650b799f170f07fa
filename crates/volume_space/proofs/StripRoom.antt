-- The drop of an attribute with its value: what it takes, by its records and blocks.
use Rattle.std.proofs.Common.{◌≡◌, ◌≤◌, ℕ, zero, suc, ◌+◌, ◌==◌, ◌&&◌, Bool, true, false, List, [], length, refl, sym, ◌∙◌, ap, subst, arith}
use Rattle.std.specs.Prelude.{IsTrue, min, if◌then◌else◌}
use Rattle.std.proofs.lemmas.Bool.{ne_eqb}
use Rattle.alloc_bitmap.specs.Map.{none, free_of}
use Rattle.attributes.specs.Values.{AreValued, extents_at, records_at}
use Rattle.btree_edit.specs.Edits.{EditRoom}
use Rattle.btree_file.specs.State.{state_of}
use Rattle.btree_node.specs.Levels.{Pair}
use Rattle.file_io.proofs.MarkLaws.{set_cons}
use Rattle.flag_rows.specs.Bits.{count_set, sectors_for}
use Rattle.fork_map.specs.Blocks.{blocks_of}
use Rattle.hx_bytes.specs.declared.extents.Extent.{Extent}
use Rattle.hfs_volume.specs.Content.{VolumeState, attributes_of, has_attributes, volume_of}
use Rattle.hfs_volume.specs.Cost.{attributes_key, tree_load}
use Rattle.hfs_volume.specs.Values.{value_blocks}
use Rattle.hfs_volume.specs.Weight.{runs_for, value_change}
use Rattle.hfs_volume.specs.declared.cost.ValueChange.{ValueChange}
use Rattle.hfs_volume.proofs.ValueTrades.{named_blocks}
use Rattle.sector_disk.specs.Lists.{Content}
use Rattle.sector_disk.specs.Space.{Space}
use Rattle.tree_weights.specs.Weights.{EditsHaveRoom}
use Rattle.volume_base.specs.Attributing.{HasRoomForValue, attributes_cost, value_edits, value_load}
use Rattle.volume_base.specs.Giving.{is_trade, trade_load}
use Rattle.volume_base.specs.Lists.{lists_of}
use Rattle.volume_base.specs.Standing.{HoldsTrees, IsSettled}
use Rattle.volume_base.specs.declared.volume.Volume.{Volume}
use Rattle.volume_base.proofs.MarkRoom.{room_for_edits}
use Rattle.volume_base.proofs.OwnedChange.{settled_valued}
use Rattle.volume_base.proofs.Rising.{settled_attributes_sorted}
use Rattle.volume_base.proofs.ValueRecords.{records_at_few}
use Rattle.volume_base.proofs.ValuesGiven.{blocks_gone}
use Rattle.volume_space.specs.Orphans.{strip_load}
use Rattle.volume_space.proofs.Stripped.{named_by}

module _ (u : Volume) (content : Content) (settled : IsSettled u content) where
  pairs_are : (volume_of content).attribute_pairs ≡ (lists_of u content).attribute_pairs
  pairs_are = ap (λ (l : VolumeState). l.attribute_pairs) settled.lists

  -- an attribute has no more records than its value counts
  pub few_records : HoldsTrees u content → (id : ℕ) (name : List ℕ) (change : ValueChange) → change ≡ value_change (volume_of content) id name 0 → (most : ℕ) → most ≡ 1 + change.records → records_at (lists_of u content).attribute_pairs id name ≤ most
  few_records holds id name change is most counted =
      let least = records_at_few (volume_of content).attribute_pairs (settled_attributes_sorted u content holds settled) (subst AreValued (sym pairs_are) (settled_valued u content settled)) id name in
      omega (arith, least, counted, ap (λ (k : ValueChange). k.records) is, ap (λ (l : List Pair). records_at l id name) pairs_are)

  module _ (id : ℕ) (name : List ℕ) (old : List Extent) (is : old ≡ extents_at (lists_of u content).attribute_pairs id name) where
    -- the blocks that it has
    pub value_is : blocks_of old ≡ value_blocks (attributes_of (volume_of content)) id name
    value_is = ap blocks_of (is ∙ ap (λ (l : List Pair). extents_at l id name) (sym pairs_are))

    pub freed_are : blocks_of old ≡ blocks_gone (named_by id name) (volume_of content)
    freed_are = value_is ∙ sym (named_blocks (attributes_of (volume_of content)) id name)

  pub few_blocks : (id : ℕ) (name : List ℕ) (change : ValueChange) → change ≡ value_change (volume_of content) id name 0 → (old : List Extent) → old ≡ extents_at (lists_of u content).attribute_pairs id name → length (blocks_of old) ≤ change.freed
  few_blocks id name change same old is = omega (arith, ap (λ (l : List ℕ). length l) (value_is id name old is), ap (λ (k : ValueChange). k.freed) same)

-- ---- room

-- the room for its edits
pub strip_room : EditsHaveRoom → (v : Volume) (a : Space) (change : ValueChange) (most : ℕ) → most ≡ 1 + change.records → HasRoomForValue 1 change v a → IsTrue (has_attributes v.header) → 4096 ≤ v.attributes.file.shape.node_size
    → (IsTrue a.tells → change.blocks ≡ 0) → (names : List ℕ) → IsTrue a.tells → EditRoom most 266 (state_of names v.attributes.file a)
strip_room law v a change most counted room has large gone names tells =
    let many : value_edits 1 change (runs_for change.blocks (free_of v.map)) ≡ most = edits_are change v most counted (gone tells) in
    let it = room.told tells has in
    subst (λ n. EditRoom n 266 (state_of names v.attributes.file a)) many
    (room_for_edits (value_edits 1 change (runs_for change.blocks (free_of v.map))) (some_edits change v) law v a
    (record { update = room.update; told = λ told there. let here = room.told told there in (omega (arith, here.0), here.1, here.2) }) has large names tells)
  where
    edits_are : (k : ValueChange) (w : Volume) (n : ℕ) → n ≡ 1 + k.records → k.blocks ≡ 0 → value_edits 1 k (runs_for k.blocks (free_of w.map)) ≡ n
    edits_are k w n is none = ap (λ b. value_edits 1 k (runs_for b (free_of w.map))) none ∙ omega (arith, is)

    some_edits : (k : ValueChange) (w : Volume) → (value_edits 1 k (runs_for k.blocks (free_of w.map)) == 0) ≡ false
    some_edits k w = ne_eqb (value_edits 1 k (runs_for k.blocks (free_of w.map))) 0 (λ none_there. absurd (omega (arith, none_there)))

-- ---- what it takes

-- the edits alone
pub strip_spent_bare : (change : ValueChange) (v : Volume) (a b most : ℕ) → most ≡ 1 + change.records → a ≤ b + tree_load attributes_key (attributes_cost v) most 0 → a ≤ b + strip_load change v
strip_spent_bare change v a b most counted spent = omega (arith, spent, ap (λ n. tree_load attributes_key (attributes_cost v) n 0) counted)

-- with the blocks
pub strip_spent : (change : ValueChange) (v w : Volume) (old : List Extent) → w ≡ record v { attributes = w.attributes } → length (blocks_of old) ≤ change.freed → (a b c most : ℕ) → most ≡ 1 + change.records → a ≤ b + tree_load attributes_key (attributes_cost v) most 0
    → b ≤ c + trade_load 0 old w → a ≤ c + strip_load change v
strip_spent change v w old rest few a b c most counted spent traded =
    omega (arith, spent, traded, ap (λ n. tree_load attributes_key (attributes_cost v) n 0) counted, ap (λ (y : Volume). trade_load 0 old y) rest, least)
  where
    least : trade_load 0 old v ≤ min (sectors_for (length v.map.used)) change.freed + 1
    least = by (is_trade false old)
      where
        by : (x : Bool) → (if x then min (sectors_for (length v.map.used)) (0 + length (blocks_of old)) + 1 else 0) ≤ min (sectors_for (length v.map.used)) change.freed + 1
        by true = omega (arith, few)
        by false = omega arith

-- no bit was changed
none_set : (n : ℕ) → count_set (none n) ≡ 0
none_set zero = refl
none_set (suc n) = let first : count_set (none (suc n)) ≡ 0 + count_set (none n) = set_cons false (none n) in omega (arith, first, none_set n)

pub none_touched : (u w : Volume) → u.map.changed ≡ none (sectors_for (length u.map.used)) → w ≡ record u { attributes = w.attributes } → count_set w.map.changed ≤ 0
none_touched u w none_changed rest = omega (arith, ap (λ (y : Volume). count_set y.map.changed) rest, ap count_set none_changed, none_set (sectors_for (length u.map.used)))
