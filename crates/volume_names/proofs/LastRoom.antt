-- The room for the edits by which a file loses its last link.
use Rattle.std.proofs.Common.{◌≡◌, ◌<◌, ◌≤◌, ℕ, ◌+◌, ◌-◌, ◌*◌, ◌^◌, false, List, sym, ◌∙◌, subst, arith}
use Rattle.std.specs.Prelude.{IsTrue, nat_le, nat_lt}
use Rattle.std.proofs.lemmas.Bool.{ltb-false}
use Rattle.sector_disk.specs.Space.{Space}
use Rattle.btree_edit.specs.Edits.{EditRoom}
use Rattle.btree_file.specs.FrameLaws.{state_well_formed}
use Rattle.btree_file.specs.State.{state_of}
use Rattle.hfs_volume.specs.Cost.{catalog_key, depth_of, is_too_deep, node_sectors, rises, tree_load}
use Rattle.hfs_volume.specs.declared.cost.TreeCost.{TreeCost}
use Rattle.tree_weights.specs.Weights.{EditsHaveRoom, HasGrown, IsWrittenByGrowth}
use Rattle.volume_base.specs.Making.{catalog_cost}
use Rattle.volume_base.specs.Unlinking.{HasRoomToUnlinkLast}
use Rattle.volume_base.specs.declared.volume.Volume.{Volume}
use Rattle.volume_base.proofs.MakeRoom.{grown, third_low, written}

records_low : (tree : TreeCost) → is_too_deep catalog_key tree 5 ≡ false → tree.records < 2 ^ 32
records_low tree is = omega (arith, ltb-false 4294967295 (tree.records + 5) (third_low (nat_le 8 tree.depth) (nat_lt 11 (depth_of tree + 1 + rises catalog_key tree 5)) (nat_lt 4294967295 (tree.records + 5)) is))

-- the header is put before
pub room_to_unlink : EditsHaveRoom → (v : Volume) (a m : Space) → HasRoomToUnlinkLast v a → 4096 ≤ v.catalog.file.shape.node_size → m.tells ≡ a.tells → a.spare ≤ m.spare + 1 → (names : List ℕ) → IsTrue m.tells → EditRoom 5 516 (state_of names v.catalog.file m)
room_to_unlink law v a m room large same spent names tells_now =
    let told = room.told (sym same ∙ tells_now) in
    let size : 3 * (516 + 8) ≤ v.catalog.file.shape.node_size - 16 = omega (arith, large) in
    law v.header.block_size catalog_key 5 0 (catalog_cost v) (state_of names v.catalog.file m) tells_now (state_well_formed names v.catalog.file m) size (records_low (catalog_cost v) told.1) told.1
    (subst (λ g. HasGrown (catalog_cost v) g (state_of names v.catalog.file m)) (sym told.2) (grown v names m)) (subst (λ g. IsWrittenByGrowth (catalog_cost v) g 0 (state_of names v.catalog.file m)) (sym told.2) (written v names m))
    (subst (λ g. tree_load catalog_key (catalog_cost v) 5 g ≤ m.spare + 0 * node_sectors (catalog_cost v)) (sym told.2) (omega (arith, told.0, spent)))
