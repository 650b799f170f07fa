-- A value that was placed: the room for it, and what is so of the volume then.
use Rattle.std.proofs.Common.{◌≡◌, ◌<◌, ◌≤◌, ℕ, zero, suc, ◌+◌, ◌*◌, ◌/◌, ◌==◌, Bool, true, false, not, List, [], ◌∷◌, length, map, get_or, refl, sym, ◌∙◌, ap, subst, arith, inl, inr}
use Rattle.std.specs.Prelude.{Contains, nat_lt, if◌then◌else◌}
use Rattle.std.proofs.lemmas.Bool.{eqb-true, ne_eqb}
use Rattle.std.proofs.lemmas.Bool.Decides.{eqb_tells}
use Rattle.hx_bytes.specs.declared.extents.Extent.{Extent}
use Rattle.alloc_bitmap.specs.Map.{BlockMap, free_of}
use Rattle.alloc_bitmap.proofs.TakeLaws.{picks_chosen}
use Rattle.attributes.specs.Values.{extents_at}
use Rattle.btree_node.specs.Levels.{Pair}
use Rattle.file_io.specs.Places.{AreUsed, fresh_of, taken}
use Rattle.flag_rows.specs.Bits.{count_set}
use Rattle.flag_rows.specs.Marks.{is_held}
use Rattle.flag_rows.specs.Runs.{fewest_of}
use Rattle.flag_rows.proofs.TakeLaws.{get_or-mark_all}
use Rattle.fork_map.specs.Blocks.{blocks_of}
use Rattle.hfs_volume.specs.Content.{VolumeState, volume_of}
use Rattle.hfs_volume.specs.Cost.{attributes_key, growth, is_too_deep, overflow_records, tree_load}
use Rattle.hfs_volume.specs.Records.{attribute_of}
use Rattle.hfs_volume.specs.Values.{longest_inline}
use Rattle.hfs_volume.specs.Weight.{blocks_for_value, free_runs, runs_for, value_change}
use Rattle.hfs_volume.specs.declared.cost.ValueChange.{ValueChange}
use Rattle.hfs_volume.proofs.Members.{all_of, each_of}
use Rattle.sector_disk.specs.Lists.{Content}
use Rattle.sector_disk.specs.Space.{Space}
use Rattle.volume_base.specs.Attributing.{attributes_cost, runs_taken, value_edits, value_load}
use Rattle.volume_base.specs.Changing.{catalog_node}
use Rattle.volume_base.specs.Giving.{takes_some, trade_load}
use Rattle.volume_base.specs.Lists.{lists_of}
use Rattle.volume_base.specs.Standing.{IsSettled}
use Rattle.volume_base.specs.declared.volume.Volume.{Volume}
use Rattle.volume_base.proofs.ValueFreed.{freed_is}
use Rattle.volume_space.proofs.PutBits.{taken_runs}
use Rattle.volume_space.proofs.PutStages.{fresh_fit}
use Rattle.volume_values.specs.Valuing.{HasRoomToPlace, PlacesAs, PlacesValue, blocks_of_new, edits_to_place, place_load, runs_of_new, touched_by_value}
use Rattle.volume_values.proofs.ValueLoads.{trade_counted}

module _ (u : Volume) (change : ValueChange) (long : ℕ) (blocks : change.blocks ≡ blocks_of_new u long) where
  runs_same : runs_taken u change ≡ runs_of_new u long
  runs_same = ap (λ n. runs_for n (free_of u.map)) blocks

  -- the edits are those that were counted
  pub edits_same : value_edits 2 change (runs_taken u change) ≡ edits_to_place (change.records + 1) long u
  edits_same = omega (arith, ap overflow_records runs_same)

  pub place_within : place_load (change.records + 1) long u ≤ value_load 2 change u
  place_within = omega (arith, ap (λ n. tree_load attributes_key (attributes_cost u) n 0) edits_same)

-- the room for a change is room to place the value
pub room_to_place : (u : Volume) (a : Space) (change : ValueChange) (long : ℕ) → change.blocks ≡ blocks_of_new u long
    → (value_load 2 change u ≤ a.spare) × (is_too_deep attributes_key (attributes_cost u) (value_edits 2 change (runs_taken u change)) ≡ false) × (growth u.header.block_size attributes_key (attributes_cost u) (value_edits 2 change (runs_taken u change)) ≡ 0) × (change.blocks ≤ count_set (free_of u.map))
    → HasRoomToPlace (change.records + 1) long u a
room_to_place u a change long blocks told = let same = edits_same u change long blocks in record {
  load = omega (arith, told.0, ap (λ n. tree_load attributes_key (attributes_cost u) n 0) same);
  deep = subst (λ n. is_too_deep attributes_key (attributes_cost u) n ≡ false) same told.1;
  grows = subst (λ n. growth u.header.block_size attributes_key (attributes_cost u) n ≡ 0) same told.2;
  free = omega (arith, told.3, blocks);
}

-- ---- bits that change

some_extents : (extents : List Extent) → 0 < length (blocks_of extents) → 0 < length extents
some_extents [] some = some
some_extents (e ∷ rest) some = omega arith

-- blocks are of a run at least
pub some_runs : (u : Volume) (many : ℕ) → 0 < many → many ≤ count_set (free_of u.map) → 0 < runs_for many (free_of u.map)
some_runs u many some enough =
    let first = some_extents (fresh_of u.map many) (omega (arith, some, (picks_chosen (free_of u.map) many enough).count)) in
    subst (λ b. 0 < (if b then 0 else fewest_of many (free_runs (free_of u.map)))) (sym (ne_eqb many 0 (λ none. absurd (omega (arith, none, some))))) (omega (arith, first, taken_runs u.map many))

-- whether bits change says whether blocks are taken
pub takes_touched : (u : Volume) (long : ℕ) → blocks_of_new u long ≤ count_set (free_of u.map) → (touched : ℕ) → touched ≡ touched_by_value long u → takes_some touched ≡ not (blocks_of_new u long == 0)
takes_touched u long enough touched is = ap takes_some is ∙ by (blocks_of_new u long == 0) refl
  where
    by : (b : Bool) → (blocks_of_new u long == 0) ≡ b → takes_some (if b then 0 else blocks_of_new u long / 4096 + 2 * runs_of_new u long) ≡ not b
    by true none = refl
    by false some =
        let more : 0 < blocks_of_new u long = elim (eqb_tells (blocks_of_new u long) 0) [
          | inl zero_ ↦ absurd (cc (sym zero_.0 ∙ some))
          | inr other ↦ omega (arith, other.1)
        ] in
        ap not (ne_eqb (blocks_of_new u long / 4096 + 2 * runs_of_new u long) 0 (λ none. absurd (omega (arith, none, some_runs u (blocks_of_new u long) more enough))))

-- what is put then is counted
pub load_placed : (u v : Volume) (content : Content) → IsSettled u content → (id : ℕ) (name : List ℕ) (long : ℕ) (change : ValueChange) → change ≡ value_change (volume_of content) id name (blocks_for_value u.header.block_size long)
    → (old : List Extent) → old ≡ extents_at (lists_of u content).attribute_pairs id name → v ≡ record u { map = v.map; attributes = v.attributes } → length v.map.used ≡ length u.map.used
    → (touched : ℕ) → touched ≡ touched_by_value long u → place_load (change.records + 1) long u + (trade_load touched old v + catalog_node v) ≤ value_load 2 change u
load_placed u v content settled id name long change is old old_is rest same touched touched_is =
    let blocks : change.blocks ≡ blocks_of_new u long = ap (λ (c : ValueChange). c.blocks) is in
    let freed : change.freed ≡ length (blocks_of old) = ap (λ (c : ValueChange). c.freed) is ∙ ap (λ (l : List ℕ). length l) (sym (freed_is u content settled id name)) ∙ ap (λ (l : List Extent). length (blocks_of l)) (sym old_is) in
    let few = few_touched_by (blocks_of_new u long == 0) refl in
    let traded = trade_counted u v change (runs_taken u change) touched old (map attribute_of (lists_of u content).attribute_pairs) id name old_is freed same
    (λ none. touched_is ∙ none_touched (sym blocks ∙ none)) (omega (arith, few, touched_is, ap (λ n. n / 4096) blocks, runs_same u change long blocks)) in
    omega (arith, traded, ap (λ n. tree_load attributes_key (attributes_cost u) n 0) (edits_same u change long blocks), ap (λ (x : Volume). catalog_node x) rest)
  where
    few_touched_by : (b : Bool) → (blocks_of_new u long == 0) ≡ b → (if b then 0 else blocks_of_new u long / 4096 + 2 * runs_of_new u long) ≤ blocks_of_new u long / 4096 + 2 * runs_of_new u long
    few_touched_by true none = omega arith
    few_touched_by false some = omega arith

    none_touched : blocks_of_new u long ≡ 0 → touched_by_value long u ≡ 0
    none_touched none = ap (λ b. if b then 0 else blocks_of_new u long / 4096 + 2 * runs_of_new u long) (ap (λ n. n == 0) none)

-- ---- the volume then

module _ (id : ℕ) (name value : List ℕ) (u placed : Volume) (a : Space) (after : Content) where
  by_long : (b : Bool) → PlacesAs b id name value u placed a.content after → (blocks : List ℕ) → AreUsed u.map blocks → AreUsed placed.map blocks
  by_long false places blocks used = subst (λ (x : Volume). AreUsed x.map blocks) (sym places.rest) used
  by_long true places blocks used =
      let map_is : placed.map ≡ taken (blocks_of_new u (length value)) u.map = ap (λ (x : Volume). x.map) (places.sets.rest ∙ ap (λ (x : Volume). record x { attributes = placed.attributes }) places.takes) in
      subst (λ (m : BlockMap). AreUsed m blocks) (sym map_is)
      (all_of (λ (block : ℕ). get_or (taken (blocks_of_new u (length value)) u.map).used block false ≡ true) blocks (λ block there.
      get_or-mark_all u.map.used (fresh_of u.map (blocks_of_new u (length value))) true block false (fresh_fit u.map (blocks_of_new u (length value)))
      ∙ still (is_held (fresh_of u.map (blocks_of_new u (length value))) block) (each_of (λ (k : ℕ). get_or u.map.used k false ≡ true) blocks used block there)))
    where
      still : (b : Bool) {is : Bool} → is ≡ true → (if b then true else is) ≡ true
      still true is = refl
      still false is = is

  pub placed_used : PlacesValue id name value u placed a.content after → (blocks : List ℕ) → AreUsed u.map blocks → AreUsed placed.map blocks
  placed_used places = by_long (nat_lt longest_inline (length value)) places

  catalog_by : (b : Bool) → PlacesAs b id name value u placed a.content after → (lists_of placed after).catalog_pairs ≡ (lists_of u a.content).catalog_pairs
  catalog_by false places = places.catalog
  catalog_by true places = places.sets.catalog ∙ ap (λ (l : VolumeState). l.catalog_pairs) places.lists

  pub placed_catalog : PlacesValue id name value u placed a.content after → (lists_of placed after).catalog_pairs ≡ (lists_of u a.content).catalog_pairs
  placed_catalog places = catalog_by (nat_lt longest_inline (length value)) places
