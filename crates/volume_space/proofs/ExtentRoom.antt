-- The room for edits of the extents overflow file: how many edits a fork's records are, and what their cost tells.
use Rattle.std.proofs.Common.{◌≡◌, ◌≢◌, inl, inr, ◌<◌, ◌≤◌, ℕ, zero, suc, ◌+◌, ◌-◌, ◌^◌, ◌==◌, Bool, true, false, List, [], ◌∷◌, ◌++◌, length, map, refl, sym, ◌∙◌, ap, subst, arith, length-append}
use Rattle.std.specs.Prelude.{◌&&◌, ◌||◌, not, nat_le, nat_lt, slice_index, IsTrue, if◌then◌else◌}
use Rattle.std.specs.List.{range_with_len}
use Rattle.std.proofs.lemmas.Bool.{and_parts, eqb-true, leb-true, ltb-false, ne_eqb, true≢false}
use Rattle.std.proofs.lemmas.List.{length-map}
use Rattle.std.proofs.lemmas.List.FromFn.{length-range_with_len}
use Rattle.std.proofs.lemmas.List.Sums.{count_by-le-length}
use Rattle.hx_bytes.specs.declared.extents.Extent.{Extent}
use Rattle.sector_disk.specs.Space.{Space}
use Rattle.btree_node.specs.Node.{IsNodeSize}
use Rattle.btree_node.specs.Store.{Store}
use Rattle.btree_edit.specs.Edits.{EditRoom}
use Rattle.btree_edit.proofs.EditLaws.{room_first}
use Rattle.btree_file.specs.FrameLaws.{state_well_formed}
use Rattle.btree_file.specs.State.{is_written, state_of}
use Rattle.hfs_volume.specs.Cost.{cost_of, depth_of, extents_key, growth, is_too_deep, rises, takes_extent, tree_at}
use Rattle.hfs_volume.specs.Forks.{in_use, parts_for}
use Rattle.hfs_volume.specs.declared.cost.Cost.{Cost}
use Rattle.hfs_volume.specs.declared.cost.Cost.TheVariants as cost
use Rattle.hfs_volume.specs.declared.cost.Needs.{Needs}
use Rattle.hfs_volume.specs.declared.cost.Room.{Room}
use Rattle.hfs_volume.specs.declared.cost.TreeCost.{TreeCost}
use Rattle.overflow.specs.Changes.{behind_front, change_at, changes_to, front_before, past, same_extents}
use Rattle.overflow.specs.Reading.{fork_records}
use Rattle.overflow.specs.Records.{record_of, records_for, records_from}
use Rattle.overflow.specs.Room.{HasStoreRoom, edits_for}
use Rattle.overflow.specs.declared.changes.Change.TheVariants.{Remove, Insert, Replace}
use Rattle.overflow.specs.declared.record.OverflowRecord.{OverflowRecord}
use Rattle.tree_weights.specs.Weights.{CommandsHaveRoom, HasGrown, IsAfforded, IsWrittenByGrowth, LoadIsOfParts, LoadSaysEnough}
use Rattle.volume_base.specs.Room.{room_on}
use Rattle.volume_space.specs.Spreading.{is_met_extents, needs_extents}
use Rattle.volume_base.specs.declared.room.FreeBlocks.{FreeBlocks}
use Rattle.volume_base.specs.declared.volume.Volume.{Volume}

-- ---- how many changes make some records others

split_long : (start : ℕ) (wanted : List OverflowRecord) → length (front_before start wanted) + length (behind_front start wanted) ≡ length wanted
split_long start [] = refl
split_long start (one ∷ more) = by (nat_lt one.start start) (split_long start more)
  where
    by : (b : Bool) → length (front_before start more) + length (behind_front start more) ≡ length more
        → length (if b then one ∷ front_before start more else []) + length (if b then behind_front start more else one ∷ more) ≡ length (one ∷ more)
    by true later = omega (arith, later)
    by false later = omega arith

one_change : (one : OverflowRecord) (wanted : List OverflowRecord) → length (change_at one wanted) ≤ 1
one_change one [] = omega arith
one_change one (first ∷ more) = by (first.start == one.start) (same_extents one.extents first.extents)
  where
    by : (a b : Bool) → length (if a then (if b then [] else Replace first ∷ []) else Remove one.start ∷ []) ≤ 1
    by true true = omega arith
    by true false = omega arith
    by false b = omega arith

past_fewer : (start : ℕ) (wanted : List OverflowRecord) → length (past start wanted) ≤ length wanted
past_fewer start [] = omega arith
past_fewer start (first ∷ more) = by (first.start == start)
  where
    by : (b : Bool) → length (if b then more else first ∷ more) ≤ length (first ∷ more)
    by true = omega arith
    by false = omega arith

changes_few : (old wanted : List OverflowRecord) → length (changes_to old wanted) ≤ length old + length wanted
changes_few [] wanted = omega (arith, length-map wanted Insert)
changes_few (one ∷ more) wanted = omega (
  arith,
  length-append (map Insert (front_before one.start wanted)) (change_at one (behind_front one.start wanted) ++ changes_to more (past one.start (behind_front one.start wanted))),
  length-append (change_at one (behind_front one.start wanted)) (changes_to more (past one.start (behind_front one.start wanted))),
  length-map (front_before one.start wanted) Insert,
  split_long one.start wanted,
  one_change one (behind_front one.start wanted),
  past_fewer one.start (behind_front one.start wanted),
  changes_few more (past one.start (behind_front one.start wanted)),
)

records_many : (many at : ℕ) (xs : List Extent) → length (records_from many at xs) ≡ many
records_many zero at xs = refl
records_many (suc many) at xs = ap suc (records_many many (at + 8) xs)

-- the edits that store a fork are no more than its records and those that it gets
pub edits_few : (store : Store) (id kind records : ℕ) (new : List Extent) → records ≡ length (fork_records id kind store) → in_use new ≡ new → edits_for store id kind new ≤ records + parts_for (length new - 8) 8
edits_few store id kind records new has used = omega (
  arith,
  changes_few (map record_of (fork_records id kind store)) (records_for (in_use new)),
  length-map (fork_records id kind store) record_of,
  has,
  ap (λ (l : List Extent). length (records_for l)) used,
  records_many (parts_for (length new - 8) 8) 8 new,
)

-- room for so many edits is room to store it
pub store_room_by : (store : Store) (id kind records : ℕ) (new : List Extent) (edits : ℕ) → records ≡ length (fork_records id kind store) → in_use new ≡ new → records + parts_for (length new - 8) 8 ≤ edits → IsTrue store.tells
    → EditRoom edits 10 store → HasStoreRoom store id kind new
store_room_by store id kind records new edits has used enough tells room =
    let few = edits_few store id kind records new has used in
    let sum : edits ≡ edits_for store id kind new + (edits - edits_for store id kind new) = omega (arith, few, enough) in
    inl (room_first (edits_for store id kind new) (edits - edits_for store id kind new) 10 store (λ told. subst (λ n. EditRoom n 10 store) sum room) tells)

-- ---- the room for edits, by what they cost

pub some_node : (size : ℕ) → IsNodeSize size → 512 ≤ size
some_node size (inl is) = omega (arith, is)
some_node size (inr (inl is)) = omega (arith, is)
some_node size (inr (inr (inl is))) = omega (arith, is)
some_node size (inr (inr (inr (inl is)))) = omega (arith, is)
some_node size (inr (inr (inr (inr (inl is))))) = omega (arith, is)
some_node size (inr (inr (inr (inr (inr (inl is)))))) = omega (arith, is)
some_node size (inr (inr (inr (inr (inr (inr is)))))) = omega (arith, is)

pub third_false : (a b c : Bool) → (a || b || c) ≡ false → c ≡ false
third_false true b c is = absurd (true≢false is)
third_false false true c is = absurd (true≢false is)
third_false false false c is = is

records_low : (edits : ℕ) (tree : TreeCost) → (edits == 0) ≡ false → is_too_deep extents_key tree edits ≡ false → tree.records < 2 ^ 32
records_low edits tree some is =
    let tests = nat_le 8 tree.depth || nat_lt 11 (depth_of tree + 1 + rises extents_key tree edits) || nat_lt 4294967295 (tree.records + edits) in
    omega (
      arith,
      ltb-false 4294967295 (tree.records + edits) (third_false (nat_le 8 tree.depth) (nat_lt 11 (depth_of tree + 1 + rises extents_key tree edits)) (nat_lt 4294967295 (tree.records + edits))
          (sym (ap (λ b. not b && (nat_le 8 tree.depth || nat_lt 11 (depth_of tree + 1 + rises extents_key tree edits) || nat_lt 4294967295 (tree.records + edits))) some) ∙ is)),
    )

module _ (have_room : CommandsHaveRoom) (says : LoadSaysEnough) (of_parts : LoadIsOfParts) (v : Volume) (a : Space) (free : FreeBlocks) (edits : ℕ) (some : 0 < edits) where
  abbrev room : Room
  room = room_on free v

  abbrev needs : Needs
  needs = needs_extents edits

  abbrev catalog_takes : ℕ
  catalog_takes = takes_extent (tree_at (room_on free v) 1) (growth v.header.block_size 516 (tree_at (room_on free v) 1) 0)

  abbrev attributes_take : ℕ
  attributes_take = takes_extent (tree_at (room_on free v) 2) (growth v.header.block_size 266 (tree_at (room_on free v) 2) 0)

  by_cost : (is : Cost) → is_met_extents is a.spare ≡ true → cost_of (needs_extents edits) (room_on free v) ≡ is → (names : List ℕ) → IsTrue a.tells → EditRoom edits 10 (state_of names v.extents.file a)
  by_cost (cost.Refused why) ok same names tells = absurd (true≢false (sym ok))
  by_cost (cost.Load load grow) ok same names tells =
      let parts = and_parts (slice_index grow 0 == 0) (nat_le load a.spare) ok in
      let none : slice_index grow 0 ≡ 0 = eqb-true (slice_index grow 0) 0 parts.0 in
      let afforded : IsAfforded needs room load grow = says needs room load grow same in
      let within = of_parts needs room load grow afforded in
      let store : Store = state_of names v.extents.file a in
      let grown : HasGrown (tree_at room 0) 0 store = record { node_size = refl; depth = refl; records = refl; total = omega arith; free = omega arith } in
      let written : IsWrittenByGrowth (tree_at room 0) 0 0 store = record {
        few = omega arith;
        others = omega (arith, count_by-le-length (λ n. not (is_written v.extents.file a.put n)) (range_with_len 0 v.extents.file.shape.total), length-range_with_len 0 v.extents.file.shape.total);
      } in
      let all : EditRoom (edits + catalog_takes + attributes_take) 10 store =
      have_room needs room load grow afforded 0 0 store (omega arith) tells (state_well_formed names v.extents.file a)
      (let large = some_node v.extents.file.shape.node_size (state_well_formed names v.extents.file a).node_size in omega (arith, large))
      (records_low (edits + catalog_takes + attributes_take) (tree_at room 0) (ne_eqb (edits + catalog_takes + attributes_take) 0 (λ zero_. absurd (omega (arith, zero_, some)))) afforded.extents)
      (subst (λ g. HasGrown (tree_at room 0) g store) (sym none) grown) (subst (λ g. IsWrittenByGrowth (tree_at room 0) g 0 store) (sym none) written)
      (omega (arith, within, leb-true load a.spare parts.1)) in
      room_first edits catalog_takes 10 store (λ told. room_first (edits + catalog_takes) attributes_take 10 store (λ told_too. all) told) tells

  pub extent_room : is_met_extents (cost_of (needs_extents edits) (room_on free v)) a.spare ≡ true → (names : List ℕ) → IsTrue a.tells → EditRoom edits 10 (state_of names v.extents.file a)
  extent_room ok = by_cost (cost_of (needs_extents edits) (room_on free v)) ok refl
