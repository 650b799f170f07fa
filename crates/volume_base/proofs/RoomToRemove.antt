-- The room for a folder that is removed: for its edits of the catalog, and behind them for the folder above.
use Rattle.std.proofs.Common.{◌≡◌, ◌≤◌, ℕ, ◌+◌, ◌-◌, ◌/◌, Bool, true, false, not, List, [], ◌∷◌, ◌++◌, length, map, refl, sym, ◌∙◌, ap, subst, arith}
use Rattle.std.specs.Prelude.{◌==◌, IsTrue, if◌then◌else◌}
use Rattle.std.proofs.lemmas.Bool.{true≢false}
use Rattle.sector_disk.specs.Lists.{Content}
use Rattle.attributes.specs.Owned.{names_of}
use Rattle.btree_node.specs.Levels.{Pair}
use Rattle.hfs_model.specs.Sorted.{kept}
use Rattle.hfs_volume.specs.Commands.{DropsAttributes}
use Rattle.hfs_volume.specs.Records.{Attribute, attribute_of}
use Rattle.sector_disk.specs.Space.{Space}
use Rattle.volume_header.specs.declared.header.VolumeHeader.{VolumeHeader}
use Rattle.btree_edit.specs.Edits.{EditRoom, TakesAtMost}
use Rattle.btree_file.specs.State.{state_of}
use Rattle.hfs_volume.specs.Cost.{catalog_key, growth, is_too_deep, tree_load}
use Rattle.hfs_volume.specs.Content.{TreeFacts, VolumeState, volume_of}
use Rattle.hfs_volume.specs.Weight.{cost_of_tree}
use Rattle.tree_weights.specs.Weights.{EditsHaveRoom, EditsTakeTheirLoad}
use Rattle.volume_base.specs.Changing.{HasRoomToUpdate}
use Rattle.volume_base.specs.Lists.{facts_on, lists_of}
use Rattle.volume_base.specs.Looking.{ReadsVolume}
use Rattle.volume_base.specs.Making.{HasRoomToMake, entry_load}
use Rattle.volume_base.specs.Removing.{HasNoAttributes, HasRoomToRemove, remove_load}
use Rattle.volume_base.specs.Standing.{IsSettled}
use Rattle.volume_base.specs.declared.volume.Volume.{Volume}
use Rattle.volume_base.proofs.MakeRoom.{load_still, room_behind, room_for_entry, spent_entry}
use Rattle.volume_base.proofs.Still.{lists_still}

-- the volume with a CNID to give: removing asks for none
abbrev with_ids : Volume → Volume
with_ids v = record v { header = record v.header { next_catalog_id = 0 } }

as_making : (v : Volume) (a : Space) → HasRoomToRemove v a → HasRoomToMake (with_ids v) a
as_making v a room = record { ids = omega arith; some = room.some; told = room.told }

pub room_to_remove : EditsHaveRoom → (v : Volume) (a m : Space) → HasRoomToRemove v a → 4096 ≤ v.catalog.file.shape.node_size → m.tells ≡ a.tells → a.spare ≤ m.spare + 1 → (names : List ℕ) → IsTrue m.tells → EditRoom 2 516 (state_of names v.catalog.file m)
room_to_remove law v a m room large same spent names = room_for_entry law (with_ids v) a m (as_making v a room) large same spent names

module _ (law : EditsHaveRoom) (takes_law : EditsTakeTheirLoad) (v w : Volume) (a m b : Space) (room : HasRoomToRemove v a) (large : 4096 ≤ v.catalog.file.shape.node_size) (same : m.tells ≡ a.tells) (spent : a.spare ≤ m.spare + 1)
    (takes : TakesAtMost 2 516 (state_of [] v.catalog.file m) (state_of [] w.catalog.file b))
  where
    pub spent_removal : IsTrue a.tells → a.spare ≤ b.spare + (1 + entry_load v)
    spent_removal tells = spent_entry law takes_law (with_ids v) w a m b (as_making v a room) large same spent takes tells

    pub room_behind_removal : b.tells ≡ m.tells → HasRoomToUpdate w b
    room_behind_removal later = room_behind law takes_law (with_ids v) w a m b (as_making v a room) large same spent takes later

-- ---- reads leave the room

module _ (v w : Volume) (a b : Space) (reads : ReadsVolume v w a b) where
  facts_read : IsTrue a.tells → facts_on w.catalog.file ≡ facts_on v.catalog.file
  facts_read tells = ap (λ (l : VolumeState). l.catalog_tree) (lists_still v w a b reads tells)

  pub remove_load_still : IsTrue a.tells → remove_load w ≡ remove_load v
  remove_load_still tells = load_still v w a b reads tells

  pub remove_room_still : HasRoomToRemove v a → HasRoomToRemove w b
  remove_room_still was = record {
    some = omega (arith, was.some, reads.looks.spare);
    told = λ tells.
        subst (λ (k : TreeFacts × VolumeHeader × ℕ). (1 + k.0.shape.node_size / 512 + tree_load catalog_key (cost_of_tree k.0 0) 2 0 ≤ k.2) × (is_too_deep catalog_key (cost_of_tree k.0 0) 2 ≡ false) × (growth k.1.block_size catalog_key (cost_of_tree k.0 0) 2 ≡ 0))
        {x = (facts_on v.catalog.file, v.header, a.spare)} {y = (facts_on w.catalog.file, w.header, b.spare)} (λ i. (sym (facts_read (sym reads.looks.same.tells ∙ tells)) i, sym reads.keeps.header i, sym reads.looks.spare i)) (was.told (sym reads.looks.same.tells ∙ tells));
  }
