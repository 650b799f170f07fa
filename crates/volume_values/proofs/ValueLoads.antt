-- The room for edits that change a value, what they take of it, and what the trade of its blocks takes.
use Rattle.std.proofs.Common.{◌≡◌, ◌<◌, ◌≤◌, ℕ, ◌+◌, ◌*◌, ◌/◌, ◌==◌, Bool, true, false, not, min, List, [], ◌∷◌, ◌++◌, length, refl, sym, ◌∙◌, ap, subst, arith, length-append, ⊎_elim}
use Rattle.std.specs.Prelude.{IsTrue, ◌&&◌, ◌||◌, Contains, if◌then◌else◌}
use Rattle.std.specs.List.{range_with_len}
use Rattle.std.proofs.lemmas.Bool.{and_parts, eqb-true, ne_eqb, true≢false}
use Rattle.std.proofs.lemmas.Bool.Decides.{eqb_tells}
use Rattle.std.proofs.lemmas.List.FromFn.{length-range_with_len}
use Rattle.hx_bytes.specs.declared.extents.Extent.{Extent}
use Rattle.flag_rows.specs.Bits.{sectors_for}
use Rattle.fork_map.specs.Blocks.{blocks_of}
use Rattle.btree_edit.specs.Edits.{EditRoom, TakesAtMost}
use Rattle.btree_file.specs.State.{state_of}
use Rattle.hfs_model.specs.Sorted.{kept}
use Rattle.hfs_volume.specs.Content.{has_attributes}
use Rattle.hfs_volume.specs.Cost.{attributes_key, tree_load}
use Rattle.hfs_volume.specs.Records.{Attribute}
use Rattle.hfs_volume.specs.Values.{extents_in, is_record_of, used_extents, value_extents}
use Rattle.hfs_volume.specs.declared.cost.ValueChange.{ValueChange}
use Rattle.hfs_volume.proofs.Members.{at_front, kept_cases}
use Rattle.hfs_volume.proofs.Reaching.{flat_cases}
use Rattle.sector_disk.specs.Space.{Space}
use Rattle.tree_weights.specs.Weights.{EditsHaveRoom, EditsTakeTheirLoad}
use Rattle.volume_base.specs.Attributing.{HasRoomForValue, attributes_cost, blocks_load, runs_taken, value_edits}
use Rattle.volume_base.specs.Giving.{is_trade, takes_some, trade_load}
use Rattle.volume_base.specs.declared.volume.Volume.{Volume}
use Rattle.volume_base.proofs.MarkRoom.{room_for_edits, spent_edits, value_marks}

-- ---- edits

module _ (law : EditsHaveRoom) (u : Volume) (a : Space) (edits : ℕ) (some : 0 < edits) (change : ValueChange) (room : HasRoomForValue edits change u a) (has : IsTrue (has_attributes u.header)) (large : 4096 ≤ u.attributes.file.shape.node_size) (most : ℕ)
    (same : IsTrue a.tells → value_edits edits change (runs_taken u change) ≡ most)
  where
    not_none : (value_edits edits change (runs_taken u change) == 0) ≡ false
    not_none = ne_eqb (value_edits edits change (runs_taken u change)) 0 (λ none. absurd (omega (arith, some, none)))

    pub room_to_change : (names : List ℕ) → IsTrue a.tells → EditRoom most 266 (state_of names u.attributes.file a)
    room_to_change names tells = subst (λ n. EditRoom n 266 (state_of names u.attributes.file a)) (same tells) (room_for_edits (value_edits edits change (runs_taken u change)) not_none law u a (value_marks edits change u a room) has large names tells)

    pub spent_to_change : EditsTakeTheirLoad → (w : Volume) (c : Space) → TakesAtMost most 266 (state_of [] u.attributes.file a) (state_of [] w.attributes.file c) → IsTrue a.tells → a.spare ≤ c.spare + tree_load attributes_key (attributes_cost u) most 0
    spent_to_change takes_law w c takes tells =
        subst (λ n. a.spare ≤ c.spare + tree_load attributes_key (attributes_cost u) n 0) (same tells)
        (spent_edits (value_edits edits change (runs_taken u change)) not_none law takes_law u w a c (value_marks edits change u a room) has large
        (subst (λ n. TakesAtMost n 266 (state_of [] u.attributes.file a) (state_of [] w.attributes.file c)) (sym (same tells)) takes) tells)

-- ---- the blocks

-- extents in use have blocks
first_some : (attributes : List Attribute) (id : ℕ) (name : List ℕ) (e : Extent) (rest : List Extent) → value_extents attributes id name ≡ e ∷ rest → 0 < e.count
first_some attributes id name e rest is =
    let from = flat_cases used_extents (kept (is_record_of id name) attributes) e (subst (λ (l : List Extent). Contains l e) (sym is) (at_front e rest)) in
    let used = (kept_cases (λ (x : Extent). not (x.count == 0)) (extents_in from.0.value) e from.2).1 in
    ⊎_elim (λ none. absurd (true≢false (sym used ∙ ap not none.0))) (λ more. omega (arith, more.1)) (eqb_tells e.count 0)

pub some_blocks : (attributes : List Attribute) (id : ℕ) (name : List ℕ) (list : List Extent) → list ≡ value_extents attributes id name → length (blocks_of list) ≡ 0 → length list ≡ 0
some_blocks attributes id name [] is none = refl
some_blocks attributes id name (e ∷ rest) is none =
    let some = first_some attributes id name e rest (sym is) in
    absurd (omega (arith, some, none, length-append (range_with_len e.start e.count) (blocks_of rest), length-range_with_len e.start e.count))

both_zero : (a b : ℕ) → ((a == 0) && (b == 0)) ≡ true → (a ≡ 0) × (b ≡ 0)
both_zero a b is = let parts = and_parts (a == 0) (b == 0) is in (eqb-true a 0 parts.0, eqb-true b 0 parts.1)

trade_most : (b : Bool) (n : ℕ) → (if b then n + 1 else 0) ≤ 1 + n
trade_most true n = omega arith
trade_most false n = omega arith

-- what a trade puts is counted
pub trade_counted : (u v : Volume) (change : ValueChange) (runs touched : ℕ) (old : List Extent) (attributes : List Attribute) (id : ℕ) (name : List ℕ) → old ≡ value_extents attributes id name → change.freed ≡ length (blocks_of old) → length v.map.used ≡ length u.map.used
    → (change.blocks ≡ 0 → touched ≡ 0) → touched ≤ change.blocks / 4096 + 2 * runs → trade_load touched old v ≤ blocks_load u change runs
trade_counted u v change runs touched old attributes id name is freed long untouched few = by ((change.blocks == 0) && (change.freed == 0)) refl
  where
    by : (b : Bool) → ((change.blocks == 0) && (change.freed == 0)) ≡ b → trade_load touched old v ≤ (if b then 0 else 1 + min (sectors_for (length u.map.used)) (change.blocks / 4096 + 2 * runs + change.freed))
    by true none =
        let zero_ = both_zero change.blocks change.freed none in
        let empty : length old ≡ 0 = some_blocks attributes id name old is (sym freed ∙ zero_.1) in
        let not_traded : is_trade (takes_some touched) old ≡ false = λ i. not (untouched zero_.0 i == 0) || not (empty i == 0) in
        subst (λ b. (if b then min (sectors_for (length v.map.used)) (touched + length (blocks_of old)) + 1 else 0) ≤ 0) (sym not_traded) (omega arith)
    by false some =
        let most = trade_most (is_trade (takes_some touched) old) (min (sectors_for (length v.map.used)) (touched + length (blocks_of old))) in
        let same = ap sectors_for long in
        omega (arith, most, same, freed, few)
