-- The room for a new folder or file: for its edits of the catalog, and behind them for the folder above.
use Rattle.std.proofs.Common.{◌≡◌, ◌<◌, ◌≤◌, ℕ, ◌+◌, ◌-◌, ◌*◌, ◌/◌, ◌^◌, Bool, true, false, List, [], ◌∷◌, length, refl, sym, ◌∙◌, ap, subst, arith}
use Rattle.std.specs.Prelude.{◌||◌, not, nat_le, nat_lt, IsTrue, count_by}
use Rattle.std.specs.List.{range_with_len}
use Rattle.std.proofs.lemmas.Bool.{ltb-false, true≢false}
use Rattle.std.proofs.lemmas.List.FromFn.{length-range_with_len}
use Rattle.sector_disk.specs.Space.{Space}
use Rattle.volume_header.specs.declared.header.VolumeHeader.{VolumeHeader}
use Rattle.btree_edit.specs.Editing.{CostsAtMost, edit_writes}
use Rattle.btree_edit.specs.Edits.{EditRoom, TakesAtMost}
use Rattle.btree_file.specs.FrameLaws.{state_well_formed}
use Rattle.btree_file.specs.State.{is_written, state_of}
use Rattle.hfs_volume.specs.Cost.{catalog_key, depth_of, growth, is_too_deep, node_sectors, rises, tree_load}
use Rattle.hfs_volume.specs.Content.{TreeFacts, VolumeState}
use Rattle.hfs_volume.specs.Laws.{one_if}
use Rattle.hfs_volume.specs.Weight.{cost_of_tree}
use Rattle.hfs_volume.specs.declared.cost.TreeCost.{TreeCost}
use Rattle.hfs_volume.proofs.Counting.{count_cons}
use Rattle.tree_weights.specs.Weights.{EditsHaveRoom, EditsTakeTheirLoad, HasGrown, IsWrittenByGrowth}
use Rattle.volume_base.specs.Changing.{HasRoomToUpdate, catalog_node}
use Rattle.volume_base.specs.Lists.{facts_on}
use Rattle.volume_base.specs.Looking.{ReadsVolume}
use Rattle.volume_base.specs.Making.{HasRoomToMake, catalog_cost, entry_load, make_load}
use Rattle.volume_base.specs.declared.volume.Volume.{Volume}
use Rattle.volume_base.proofs.Still.{lists_still}

-- ---- the tree that hasn't grown

count_most : {X : Type 0} (p : X → Bool) (xs : List X) → count_by p xs ≤ length xs
count_most p [] = omega arith
count_most p (x ∷ xs) = omega (arith, count_cons p x xs, one_most (p x), count_most p xs)
  where
    one_most : (b : Bool) → one_if b ≤ 1
    one_most true = omega arith
    one_most false = omega arith

pub third_low : (a b c : Bool) → (a || b || c) ≡ false → c ≡ false
third_low true b c is = absurd (true≢false is)
third_low false true c is = absurd (true≢false is)
third_low false false c is = is

records_low : (tree : TreeCost) → is_too_deep catalog_key tree 2 ≡ false → tree.records < 2 ^ 32
records_low tree is = omega (arith, ltb-false 4294967295 (tree.records + 2) (third_low (nat_le 8 tree.depth) (nat_lt 11 (depth_of tree + 1 + rises catalog_key tree 2)) (nat_lt 4294967295 (tree.records + 2)) is))

module _ (v : Volume) (names : List ℕ) (m : Space) where
  pub grown : HasGrown (catalog_cost v) 0 (state_of names v.catalog.file m)
  grown = record { node_size = refl; depth = refl; records = refl; total = omega arith; free = omega arith }

  pub written : IsWrittenByGrowth (catalog_cost v) 0 0 (state_of names v.catalog.file m)
  written = record {
    few = omega arith;
    others = omega (arith, count_most (λ n. not (is_written v.catalog.file m.put n)) (range_with_len 0 v.catalog.file.shape.total), length-range_with_len 0 v.catalog.file.shape.total);
  }

-- ---- edits

-- the header is put before
pub room_for_entry : EditsHaveRoom → (v : Volume) (a m : Space) → HasRoomToMake v a → 4096 ≤ v.catalog.file.shape.node_size → m.tells ≡ a.tells → a.spare ≤ m.spare + 1 → (names : List ℕ) → IsTrue m.tells → EditRoom 2 516 (state_of names v.catalog.file m)
room_for_entry law v a m room large same spent names tells_now =
    let told = room.told (sym same ∙ tells_now) in
    let size : 3 * (516 + 8) ≤ v.catalog.file.shape.node_size - 16 = omega (arith, large) in
    law v.header.block_size catalog_key 2 0 (catalog_cost v) (state_of names v.catalog.file m) tells_now (state_well_formed names v.catalog.file m) size (records_low (catalog_cost v) told.1) told.1
    (subst (λ g. HasGrown (catalog_cost v) g (state_of names v.catalog.file m)) (sym told.2) (grown v names m)) (subst (λ g. IsWrittenByGrowth (catalog_cost v) g 0 (state_of names v.catalog.file m)) (sym told.2) (written v names m))
    (subst (λ g. tree_load catalog_key (catalog_cost v) 2 g ≤ m.spare + 0 * node_sectors (catalog_cost v)) (sym told.2) (omega (arith, told.0, spent)))

module _ (law : EditsHaveRoom) (takes_law : EditsTakeTheirLoad) (v w : Volume) (a m b : Space) (room : HasRoomToMake v a) (large : 4096 ≤ v.catalog.file.shape.node_size) (same : m.tells ≡ a.tells) (spent : a.spare ≤ m.spare + 1)
    (takes : TakesAtMost 2 516 (state_of [] v.catalog.file m) (state_of [] w.catalog.file b))
  where
    costs : (tells : IsTrue m.tells)
        → CostsAtMost (2 * edit_writes (room_for_entry law v a m room large same spent [] tells).deepest) (2 * ((room_for_entry law v a m room large same spent [] tells).deepest + 1)) (state_of [] v.catalog.file m) (state_of [] w.catalog.file b)
    costs tells = takes tells (room_for_entry law v a m room large same spent [] tells).deepest (room_for_entry law v a m room large same spent [] tells).deep

    told_after : IsTrue a.tells → m.spare ≤ b.spare + entry_load v
    told_after tells =
        let size : 3 * (516 + 8) ≤ v.catalog.file.shape.node_size - 16 = omega (arith, large) in
        let it = takes_law catalog_key 2 0 0 (catalog_cost v) (state_of [] v.catalog.file m) (state_of [] w.catalog.file b) (same ∙ tells) size (grown v [] m) (written v [] m) (costs (same ∙ tells)).same takes in
        omega (arith, it)

    pub spent_entry : IsTrue a.tells → a.spare ≤ b.spare + (1 + entry_load v)
    spent_entry tells = omega (arith, told_after tells, spent)

    pub room_behind : b.tells ≡ m.tells → HasRoomToUpdate w b
    room_behind later = record {
      told = λ tells_now.
          let tells : IsTrue a.tells = sym same ∙ sym later ∙ tells_now in
          let node_same : catalog_node w ≡ catalog_node v = ap (λ n. n / 512) (costs (same ∙ tells)).same.node_size in
          omega (arith, told_after tells, spent, (room.told tells).0, node_same);
    }

-- ---- reads leave the room

module _ (v w : Volume) (a b : Space) (reads : ReadsVolume v w a b) where
  facts_read : IsTrue a.tells → facts_on w.catalog.file ≡ facts_on v.catalog.file
  facts_read tells = ap (λ (l : VolumeState). l.catalog_tree) (lists_still v w a b reads tells)

  pub load_still : IsTrue a.tells → make_load w ≡ make_load v
  load_still tells = ap (λ (f : TreeFacts). 1 + f.shape.node_size / 512 + tree_load catalog_key (cost_of_tree f 0) 2 0) (facts_read tells)

  pub make_room_still : HasRoomToMake v a → HasRoomToMake w b
  make_room_still was = record {
    ids = subst (λ (h : VolumeHeader). h.next_catalog_id + 1 < 2 ^ 32) (sym reads.keeps.header) was.ids;
    some = omega (arith, was.some, reads.looks.spare);
    told = λ tells.
        subst (λ (k : TreeFacts × VolumeHeader × ℕ). (1 + k.0.shape.node_size / 512 + tree_load catalog_key (cost_of_tree k.0 0) 2 0 ≤ k.2) × (is_too_deep catalog_key (cost_of_tree k.0 0) 2 ≡ false) × (growth k.1.block_size catalog_key (cost_of_tree k.0 0) 2 ≡ 0))
        {x = (facts_on v.catalog.file, v.header, a.spare)} {y = (facts_on w.catalog.file, w.header, b.spare)} (λ i. (sym (facts_read (sym reads.looks.same.tells ∙ tells)) i, sym reads.keeps.header i, sym reads.looks.spare i)) (was.told (sym reads.looks.same.tells ∙ tells));
  }
