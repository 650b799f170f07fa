-- The attributes that a folder goes with, as they are told.
use Rattle.std.proofs.Common.{◌≡◌, ◌≤◌, ℕ, zero, suc, ◌+◌, ◌==◌, Bool, true, false, List, [], ◌∷◌, ◌++◌, map, length, arith, refl, sym, ◌∙◌, ap, subst}
use Rattle.std.specs.Prelude.{IfOk, Result, Ok, Err, not, sum, if◌then◌else◌}
use Rattle.alloc_bitmap.specs.Map.{none}
use Rattle.attributes.specs.Owned.{count_of, extents_owned, is_of, names_of}
use Rattle.attributes.specs.Values.{AreValued, extents_at}
use Rattle.btree_node.specs.Levels.{Pair}
use Rattle.file_io.proofs.MarkLaws.{set_cons}
use Rattle.flag_rows.specs.Bits.{count_set, sectors_for}
use Rattle.fork_map.specs.Blocks.{blocks_of}
use Rattle.hx_bytes.specs.declared.extents.Extent.{Extent}
use Rattle.file_io.specs.Places.{given}
use Rattle.hfs_model.specs.Sorted.{kept}
use Rattle.hfs_volume.specs.Changes.{InValues}
use Rattle.hfs_volume.specs.Commands.{DropsAttributes, blocks_of_all}
use Rattle.volume_base.specs.Giving.{counted_anew, is_trade, traded}
use Rattle.hfs_volume.specs.Records.{Attribute, attribute_of}
use Rattle.hfs_volume.specs.declared.cost.ValueChange.{ValueChange}
use Rattle.hfs_language.specs.declared.refusal.Refusal.{Refusal}
use Rattle.hfs_model.specs.Step.{to_rmdir}
use Rattle.hfs_model.specs.declared.plain.PlainEntry.{PlainEntry}
use Rattle.hfs_model.specs.declared.plain.PlainTree.{PlainTree}
use Rattle.hfs_volume.specs.Content.{VolumeState, attributes_of, volume_of}
use Rattle.hx_bytes.specs.declared.faults.Trouble.{Trouble}
use Rattle.sector_disk.specs.Lists.{Content}
use Rattle.volume_base.specs.Lists.{lists_of}
use Rattle.volume_base.specs.Keeping.{Keeps}
use Rattle.volume_base.specs.Removing.{HasNoAttributes, HasRoomToRemove, bare_load, folder_at, owned_at, records_owned, remove_load}
use Rattle.volume_base.proofs.KeptMarks.{is_marked}
use Rattle.sector_disk.specs.Space.{Space}
use Rattle.hfs_volume.specs.Cost.{overflow_records}
use Rattle.hfs_volume.proofs.Counting.{count_cons}
use Rattle.volume_base.specs.Standing.{HoldsTrees, IsSettled}
use Rattle.volume_base.specs.Values.{values_owned}
use Rattle.volume_base.specs.declared.removing.Leaving.{Leaving}
use Rattle.volume_base.specs.declared.value_changes.OwnedValues.{OwnedValues}
use Rattle.volume_base.specs.declared.volume.Volume.{Volume}
use Rattle.volume_base.proofs.OwnedChange.{settled_valued}
use Rattle.volume_base.proofs.Rising.{settled_attributes_sorted}
use Rattle.volume_base.proofs.ValueRecords.{owned_blocks, owned_records, values_joined}
use Rattle.volume_base.proofs.ValuesGiven.{Drops, blocks_gone}
use Rattle.volume_names.proofs.Bared.{owned_by}

-- the entry of a folder that may be removed
abbrev entry_or : PlainEntry → Result PlainEntry Refusal → PlainEntry
entry_or other (Ok entry) = entry
entry_or other (Err why) = other

pub same_entry : (tree : PlainTree) (path : List (List ℕ)) (at : Leaving) (name : List ℕ) (entry : PlainEntry) → to_rmdir tree path ≡ Ok (folder_at at name) → to_rmdir tree path ≡ Ok entry → at.id ≡ entry.id
same_entry tree path at name entry told is = ap (λ (r : Result PlainEntry Refusal). (entry_or entry r).id) (sym told ∙ is)

pub owned_told : (w : Volume) (later content : Content) (id number : ℕ) → id ≡ number → IsSettled w later → later ≡ content → (result : Result OwnedValues Trouble)
    → IfOk result (λ owned. owned.count ≡ length (names_of id (lists_of w later).attribute_pairs)) → IfOk result (λ owned. owned.change ≡ values_owned (volume_of later) id) → IfOk result (λ owned. owned ≡ owned_at number (volume_of content))
owned_told w later content id number same settled is (Err why) counted change = tt
owned_told w later content id number same settled is (Ok owned) counted change =
    let listed : owned.count ≡ length (names_of id (volume_of later).attribute_pairs) = counted ∙ sym (ap (λ (l : VolumeState). length (names_of id l.attribute_pairs)) settled.lists) in
    (λ i. record { count = listed i; change = change i }) ∙ (λ i. owned_at (same i) (volume_of (is i)))

-- ---- what goes, by the records

module _ (u : Volume) (content : Content) (settled : IsSettled u content) (holds : HoldsTrees u content) (id : ℕ) (owned : OwnedValues)
    (counted : owned.count ≡ length (names_of id (lists_of u content).attribute_pairs)) (change : owned.change ≡ values_owned (volume_of content) id) where
  pairs_are : (volume_of content).attribute_pairs ≡ (lists_of u content).attribute_pairs
  pairs_are = ap (λ (l : VolumeState). l.attribute_pairs) settled.lists

  valued : AreValued (volume_of content).attribute_pairs
  valued = subst AreValued (sym pairs_are) (settled_valued u content settled)

  pub few_records : count_of id (lists_of u content).attribute_pairs ≤ records_owned owned
  few_records =
      let least = owned_records (volume_of content).attribute_pairs (settled_attributes_sorted u content holds settled) valued id in
      omega (arith, least, counted, ap (λ (v : ValueChange). v.records) change, ap (count_of id) pairs_are, ap (λ (l : List Pair). length (names_of id l)) pairs_are)

  module _ (old : List Extent) (is : old ≡ extents_owned (lists_of u content).attribute_pairs id) where
    old_is : old ≡ extents_owned (volume_of content).attribute_pairs id
    old_is = is ∙ ap (λ (l : List Pair). extents_owned l id) (sym pairs_are)

    pub few_blocks : length (blocks_of old) ≤ owned.change.freed
    few_blocks =
        let least = owned_blocks (volume_of content).attribute_pairs (settled_attributes_sorted u content holds settled) valued id in
        omega (arith, least, ap (λ (l : List Extent). length (blocks_of l)) old_is, ap (λ (v : ValueChange). v.freed) change)

    pub freed_are : blocks_of old ≡ blocks_gone (owned_by id) (volume_of content)
    freed_are = ap blocks_of old_is ∙ sym (values_joined (kept (λ (a : Attribute). a.id == id) (attributes_of (volume_of content))))

-- no bit was changed
none_set : (n : ℕ) → count_set (none n) ≡ 0
none_set zero = refl
none_set (suc n) = let first : count_set (none (suc n)) ≡ 0 + count_set (none n) = set_cons false (none n) in omega (arith, first, none_set n)

pub none_touched : (u w : Volume) → u.map.changed ≡ none (sectors_for (length u.map.used)) → w ≡ record u { attributes = w.attributes } → count_set w.map.changed ≤ 0
none_touched u w none_changed rest = omega (arith, ap (λ (y : Volume). count_set y.map.changed) rest, ap count_set none_changed, none_set (sectors_for (length u.map.used)))

-- a trade leaves the size of the blocks
pub same_block : (old : List Extent) (w : Volume) → (traded false old w).header.block_size ≡ w.header.block_size
same_block old w = by (is_trade false old)
  where
    by : (z : Bool) → (if z then counted_anew (record w { map = given old w.map }) else w).header.block_size ≡ w.header.block_size
    by true = refl
    by false = refl

-- the law's change, by the blocks of all values
pub values_are : (id : ℕ) (freed : List ℕ) (old new : VolumeState) → freed ≡ blocks_gone (owned_by id) old → InValues (Drops (owned_by id)) [] freed old new → InValues (DropsAttributes id) [] (blocks_of_all (attributes_of old) id) old new
values_are id freed old new is values = subst (λ (l : List ℕ). InValues (DropsAttributes id) [] l old new) is values

-- ---- those of a folder, told

pub owned_is : (u : Volume) (content : Content) → IsSettled u content → (id : ℕ) (owned : OwnedValues) → owned.count ≡ length (names_of id (lists_of u content).attribute_pairs) → owned.change ≡ values_owned (volume_of content) id → owned ≡ owned_at id (volume_of content)
owned_is u content settled id owned counted change =
    let listed : owned.count ≡ length (names_of id (volume_of content).attribute_pairs) = counted ∙ sym (ap (λ (l : VolumeState). length (names_of id l.attribute_pairs)) settled.lists) in
    λ i. record { count = listed i; change = change i }

-- where none is counted, there are none
none_kept : (id : ℕ) (pairs : List Pair) → count_of id pairs ≡ 0 → pairs ≡ kept (λ pair. not ((attribute_of pair).id == id)) pairs
none_kept id [] none_there = refl
none_kept id (pair ∷ pairs) none_there = by (none_kept id pairs) ((attribute_of pair).id == id) refl
  where
    by : (count_of id pairs ≡ 0 → pairs ≡ kept (λ p. not ((attribute_of p).id == id)) pairs) → (b : Bool) → ((attribute_of pair).id == id) ≡ b → pair ∷ pairs ≡ (if not b then pair ∷ [] else []) ++ kept (λ p. not ((attribute_of p).id == id)) pairs
    by later true is = absurd (omega (arith, none_there, count_cons (is_of id) pair pairs, ap {B = ℕ} (λ z. if z then 1 else 0) is))
    by later false is = ap (λ (l : List Pair). pair ∷ l) (later (omega (arith, none_there, count_cons (is_of id) pair pairs, ap {B = ℕ} (λ z. if z then 1 else 0) is)))

no_names : (names : List (List ℕ)) → length names ≡ 0 → names ≡ []
no_names [] is = refl
no_names (name ∷ names) is = absurd (omega (arith, is))

pub none_owned : (u : Volume) (content : Content) → IsSettled u content → HoldsTrees u content → (id count : ℕ) → count ≡ length (names_of id (lists_of u content).attribute_pairs) → count ≡ 0 → HasNoAttributes id (volume_of content).attribute_pairs
none_owned u content settled holds id count counted zero_is =
    let pairs : List Pair = (volume_of content).attribute_pairs in
    let same = ap (λ (l : VolumeState). l.attribute_pairs) settled.lists in
    let nothing : names_of id (volume_of content).attribute_pairs ≡ [] = no_names (names_of id (volume_of content).attribute_pairs) (ap (λ (l : List Pair). length (names_of id l)) same ∙ sym counted ∙ zero_is) in
    let least = owned_records (volume_of content).attribute_pairs (settled_attributes_sorted u content holds settled) (subst AreValued (sym same) (settled_valued u content settled)) id in
    none_kept id (volume_of content).attribute_pairs
    (omega (arith, least, ap (λ (l : List (List ℕ)). length l + sum (map (λ name. overflow_records (length (extents_at (volume_of content).attribute_pairs id name))) l)) nothing))

-- ---- a keep ahead of it

module _ (v w : Volume) (keeps : Keeps v w) where
  pub remove_room_kept : (a : Space) → HasRoomToRemove v a → HasRoomToRemove w a
  remove_room_kept a was = subst (λ (u : Volume). HasRoomToRemove u a) (is_marked v w keeps) (record { some = was.some; told = was.told })

  pub remove_load_kept : remove_load w ≡ remove_load v
  remove_load_kept = ap remove_load (sym (is_marked v w keeps))

  pub bare_load_kept : (owned : OwnedValues) → bare_load owned w ≡ bare_load owned v
  bare_load_kept owned = ap (bare_load owned) (sym (is_marked v w keeps))
