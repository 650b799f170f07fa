-- The room for edits of the attributes file and for the record of their owner, and what they take of it.
use Rattle.std.proofs.Common.{◌≡◌, ◌<◌, ◌≤◌, ℕ, ◌+◌, ◌-◌, ◌*◌, ◌/◌, ◌^◌, Bool, true, false, List, [], refl, sym, ◌∙◌, ap, subst, arith, inl, inr}
use Rattle.std.specs.Prelude.{◌==◌, ◌&&◌, ◌||◌, not, nat_le, nat_lt, IsTrue}
use Rattle.std.specs.List.{range_with_len}
use Rattle.std.proofs.lemmas.Bool.{ltb-false, true≢false}
use Rattle.std.proofs.lemmas.List.FromFn.{length-range_with_len}
use Rattle.std.proofs.lemmas.List.Sums.{count_by-le-length}
use Rattle.sector_disk.specs.Space.{Space}
use Rattle.btree_node.specs.Node.{IsNodeSize}
use Rattle.btree_node.specs.declared.store.TreeShape.{TreeShape}
use Rattle.btree_edit.specs.Editing.{CostsAtMost, edit_writes}
use Rattle.btree_edit.specs.Edits.{EditRoom, TakesAtMost}
use Rattle.btree_file.specs.FrameLaws.{state_well_formed}
use Rattle.btree_file.specs.State.{is_written, state_of}
use Rattle.btree_file.specs.declared.tree.TreeFile.{TreeFile}
use Rattle.hfs_volume.specs.Content.{VolumeState, TreeFacts, has_attributes}
use Rattle.hfs_volume.specs.Cost.{attributes_key, depth_of, growth, is_too_deep, node_sectors, rises, tree_load}
use Rattle.hfs_volume.specs.Weight.{cost_of_tree}
use Rattle.hfs_volume.specs.declared.cost.TreeCost.{TreeCost}
use Rattle.tree_weights.specs.Weights.{EditsHaveRoom, EditsTakeTheirLoad, HasGrown, IsWrittenByGrowth}
use Rattle.volume_header.specs.declared.header.VolumeHeader.{VolumeHeader}
use Rattle.volume_base.specs.Attributing.{HasRoomForValue, attributes_cost, mark_load, runs_taken, value_edits}
use Rattle.hfs_volume.specs.declared.cost.ValueChange.{ValueChange}
use Rattle.volume_base.specs.Changing.{HasRoomToUpdate}
use Rattle.volume_base.specs.Lists.{facts_on}
use Rattle.volume_base.specs.Looking.{ReadsVolume}
use Rattle.volume_base.specs.declared.volume.Tree.{Tree}
use Rattle.volume_base.specs.declared.volume.Volume.{Volume}
use Rattle.volume_base.proofs.FoundEntry.{room_still}
use Rattle.volume_base.proofs.Still.{lists_still}

-- Where the space tells, there is room to mark a folder or file; and where there is an attributes file, for so many edits of it before, for which it
-- needn't grow.
pub record HasRoomToMark (edits : ℕ) (volume : Volume) (space : Space) : Type 0 where
  pub update : HasRoomToUpdate volume space
  pub told : IsTrue space.tells → IsTrue (has_attributes volume.header)
      → (mark_load edits volume ≤ space.spare) × (is_too_deep attributes_key (attributes_cost volume) edits ≡ false) × (growth volume.header.block_size attributes_key (attributes_cost volume) edits ≡ 0)

-- room for a change of values is room for its edits
pub value_marks : (edits : ℕ) (change : ValueChange) (v : Volume) (a : Space) → HasRoomForValue edits change v a → HasRoomToMark (value_edits edits change (runs_taken v change)) v a
value_marks edits change v a room = record { update = room.update; told = λ tells has. let it = room.told tells has in (omega (arith, it.0), it.1, it.2) }

-- ---- numbers

some_sector : (size : ℕ) → IsNodeSize size → 0 < size / 512
some_sector size (inl is) = omega (arith, is)
some_sector size (inr (inl is)) = omega (arith, is)
some_sector size (inr (inr (inl is))) = omega (arith, is)
some_sector size (inr (inr (inr (inl is)))) = omega (arith, is)
some_sector size (inr (inr (inr (inr (inl is))))) = omega (arith, is)
some_sector size (inr (inr (inr (inr (inr (inl is)))))) = omega (arith, is)
some_sector size (inr (inr (inr (inr (inr (inr is)))))) = omega (arith, is)

pub some_node : (tree : TreeFile) (space : Space) → 0 < tree.shape.node_size / 512
some_node tree space = some_sector tree.shape.node_size (state_well_formed [] tree space).node_size

third_false : (a b c : Bool) → (a || b || c) ≡ false → c ≡ false
third_false true b c is = absurd (true≢false is)
third_false false true c is = absurd (true≢false is)
third_false false false c is = is

-- ---- edits of the attributes file

module _ (edits : ℕ) (some : (edits == 0) ≡ false) where
  records_low : (tree : TreeCost) → is_too_deep attributes_key tree edits ≡ false → tree.records < 2 ^ 32
  records_low tree is =
      let tests = nat_le 8 tree.depth || nat_lt 11 (depth_of tree + 1 + rises attributes_key tree edits) || nat_lt 4294967295 (tree.records + edits) in
      omega (
        arith,
        ltb-false 4294967295 (tree.records + edits) (third_false (nat_le 8 tree.depth) (nat_lt 11 (depth_of tree + 1 + rises attributes_key tree edits)) (nat_lt 4294967295 (tree.records + edits))
            (sym (ap (λ b. not b && (nat_le 8 tree.depth || nat_lt 11 (depth_of tree + 1 + rises attributes_key tree edits) || nat_lt 4294967295 (tree.records + edits))) some) ∙ is)),
      )

  module _ (v : Volume) (names : List ℕ) (a : Space) where
    grown : HasGrown (attributes_cost v) 0 (state_of names v.attributes.file a)
    grown = record { node_size = refl; depth = refl; records = refl; total = omega arith; free = omega arith }

    written : IsWrittenByGrowth (attributes_cost v) 0 0 (state_of names v.attributes.file a)
    written = record {
      few = omega arith;
      others = omega (arith, count_by-le-length (λ n. not (is_written v.attributes.file a.put n)) (range_with_len 0 v.attributes.file.shape.total), length-range_with_len 0 v.attributes.file.shape.total);
    }

  -- there is room for them
  pub room_for_edits : EditsHaveRoom → (v : Volume) (a : Space) → HasRoomToMark edits v a → IsTrue (has_attributes v.header) → 4096 ≤ v.attributes.file.shape.node_size → (names : List ℕ) → IsTrue a.tells → EditRoom edits 266 (state_of names v.attributes.file a)
  room_for_edits law v a room has large names tells =
      let told = room.told tells has in
      let size : 3 * (266 + 8) ≤ v.attributes.file.shape.node_size - 16 = omega (arith, large) in
      law v.header.block_size attributes_key edits 0 (attributes_cost v) (state_of names v.attributes.file a) tells (state_well_formed names v.attributes.file a) size (records_low (attributes_cost v) told.1) told.1
      (subst (λ g. HasGrown (attributes_cost v) g (state_of names v.attributes.file a)) (sym told.2) (grown v names a)) (subst (λ g. IsWrittenByGrowth (attributes_cost v) g 0 (state_of names v.attributes.file a)) (sym told.2) (written v names a))
      (subst (λ g. tree_load attributes_key (attributes_cost v) edits g ≤ a.spare + 0 * node_sectors (attributes_cost v)) (sym told.2) (omega (arith, told.0)))

  module _ (law : EditsHaveRoom) (takes_law : EditsTakeTheirLoad) (v w : Volume) (a c : Space) (room : HasRoomToMark edits v a) (has : IsTrue (has_attributes v.header)) (large : 4096 ≤ v.attributes.file.shape.node_size)
      (takes : TakesAtMost edits 266 (state_of [] v.attributes.file a) (state_of [] w.attributes.file c))
    where
      costs : (tells : IsTrue a.tells)
          → CostsAtMost (edits * edit_writes (room_for_edits law v a room has large [] tells).deepest) (edits * ((room_for_edits law v a room has large [] tells).deepest + 1)) (state_of [] v.attributes.file a) (state_of [] w.attributes.file c)
      costs tells = takes tells (room_for_edits law v a room has large [] tells).deepest (room_for_edits law v a room has large [] tells).deep

      -- told, they take what is counted
      pub spent_edits : IsTrue a.tells → a.spare ≤ c.spare + tree_load attributes_key (attributes_cost v) edits 0
      spent_edits tells =
          let size : 3 * (266 + 8) ≤ v.attributes.file.shape.node_size - 16 = omega (arith, large) in
          omega (arith, takes_law attributes_key edits 0 0 (attributes_cost v) (state_of [] v.attributes.file a) (state_of [] w.attributes.file c) tells size (grown v [] a) (written v [] a) (costs tells).same takes)

      -- and the owner's record can be put
      pub room_behind_edits : w.catalog ≡ v.catalog → c.tells ≡ a.tells → HasRoomToUpdate w c
      room_behind_edits catalog same = record {
        told = λ tells. omega (arith, ap (λ (t : Tree). t.file.shape.node_size / 512) catalog, (room.told (sym same ∙ tells) has).0, spent_edits (sym same ∙ tells));
      }

  -- ---- reads leave the room

  module _ (v w : Volume) (a b : Space) (reads : ReadsVolume v w a b) where
    facts_read : IsTrue a.tells → facts_on w.attributes.file ≡ facts_on v.attributes.file
    facts_read tells = ap (λ (l : VolumeState). l.attributes_tree) (lists_still v w a b reads tells)

    pub load_still : IsTrue a.tells → mark_load edits w ≡ mark_load edits v
    load_still tells = λ i. (reads.keeps.catalog.file.shape i).node_size / 512 + tree_load attributes_key (cost_of_tree (facts_read tells i) 0) edits 0

    pub mark_room_still : HasRoomToMark edits v a → HasRoomToMark edits w b
    mark_room_still was = record {
      update = room_still v w a b reads was.update;
      told = λ tells has.
          subst (λ (k : TreeFacts × TreeShape × VolumeHeader × ℕ). (k.1.node_size / 512 + tree_load attributes_key (cost_of_tree k.0 0) edits 0 ≤ k.3) × (is_too_deep attributes_key (cost_of_tree k.0 0) edits ≡ false) × (growth k.2.block_size attributes_key (cost_of_tree k.0 0) edits ≡ 0))
          {x = (facts_on v.attributes.file, v.catalog.file.shape, v.header, a.spare)} {y = (facts_on w.attributes.file, w.catalog.file.shape, w.header, b.spare)}
          (λ i. (sym (facts_read (sym reads.looks.same.tells ∙ tells)) i, sym reads.keeps.catalog.file.shape i, sym reads.keeps.header i, sym reads.looks.spare i))
          (was.told (sym reads.looks.same.tells ∙ tells) (subst (λ (h : VolumeHeader). IsTrue (has_attributes h)) reads.keeps.header has));
    }
