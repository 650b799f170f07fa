-- The room for a change of values, and what it puts at most, behind a keep and behind reads.
use Rattle.std.proofs.Common.{◌≡◌, ◌≤◌, ℕ, ◌+◌, ◌*◌, ◌/◌, ◌==◌, Bool, true, false, List, length, refl, sym, ◌∙◌, ap, subst}
use Rattle.std.specs.Prelude.{IsTrue, ◌&&◌, min, if◌then◌else◌}
use Rattle.alloc_bitmap.specs.Map.{BlockMap, free_of}
use Rattle.btree_node.specs.declared.store.TreeShape.{TreeShape}
use Rattle.flag_rows.specs.Bits.{count_set, sectors_for}
use Rattle.hfs_volume.specs.Content.{TreeFacts, VolumeState, has_attributes}
use Rattle.hfs_volume.specs.Cost.{attributes_key, growth, is_too_deep, tree_load}
use Rattle.hfs_volume.specs.Weight.{cost_of_tree, runs_for}
use Rattle.hfs_volume.specs.declared.cost.ValueChange.{ValueChange}
use Rattle.sector_disk.specs.Space.{Space}
use Rattle.volume_header.specs.declared.header.VolumeHeader.{VolumeHeader}
use Rattle.volume_base.specs.Attributing.{HasRoomForValue, value_edits, value_load}
use Rattle.volume_base.specs.Keeping.{Keeps}
use Rattle.volume_base.specs.Lists.{facts_on}
use Rattle.volume_base.specs.Looking.{ReadsVolume}
use Rattle.volume_base.specs.declared.volume.Tree.{Tree}
use Rattle.volume_base.specs.declared.volume.Volume.{Volume}
use Rattle.volume_base.proofs.FoundEntry.{room_still}
use Rattle.volume_base.proofs.Still.{lists_still}

-- the numbers that they rest on
record Numbers : Type 0 where
  shape : TreeShape
  facts : TreeFacts
  header : VolumeHeader
  used : List Bool
  free : List Bool

abbrev numbers_of : Volume → Numbers
numbers_of v = record { shape = v.catalog.file.shape; facts = facts_on v.attributes.file; header = v.header; used = v.map.used; free = free_of v.map }

abbrev edits_by : ℕ → ValueChange → Numbers → ℕ
edits_by edits change k = value_edits edits change (runs_for change.blocks k.free)

abbrev load_by : ℕ → ValueChange → Numbers → ℕ
load_by edits change k =
    k.shape.node_size / 512 + tree_load attributes_key (cost_of_tree k.facts 0) (edits_by edits change k) 0
    + (if (change.blocks == 0) && (change.freed == 0) then 0 else 1 + min (sectors_for (length k.used)) (change.blocks / 4096 + 2 * runs_for change.blocks k.free + change.freed))

abbrev IsRoomBy : ℕ → ValueChange → Numbers → ℕ → Type 0
IsRoomBy edits change k spare =
    IsTrue (has_attributes k.header)
    → (load_by edits change k ≤ spare) × (is_too_deep attributes_key (cost_of_tree k.facts 0) (edits_by edits change k) ≡ false) × (growth k.header.block_size attributes_key (cost_of_tree k.facts 0) (edits_by edits change k) ≡ 0) × (change.blocks ≤ count_set k.free)

module _ (edits : ℕ) (change : ValueChange) (v w : Volume) where
  -- ---- behind a keep

  module _ (keeps : Keeps v w) where
    numbers_kept : numbers_of v ≡ numbers_of w
    numbers_kept = λ i. record {
      shape = (sym keeps.same.catalog i).file.shape;
      facts = facts_on (sym keeps.same.attributes i).file;
      header = sym keeps.same.header i;
      used = sym keeps.same.used i;
      free = free_of (record w.map { used = sym keeps.same.used i; held = sym keeps.held i });
    }

    pub value_load_kept : value_load edits change w ≡ value_load edits change v
    value_load_kept = ap (load_by edits change) (sym numbers_kept)

    pub value_room_kept : (a : Space) → HasRoomForValue edits change v a → HasRoomForValue edits change w a
    value_room_kept a was = record {
      update = record { told = λ tells. subst (λ (t : Tree). t.file.shape.node_size / 512 ≤ a.spare) (sym keeps.same.catalog) (was.update.told tells) };
      told = λ tells. subst (λ (k : Numbers). IsRoomBy edits change k a.spare) numbers_kept (was.told tells);
    }

  -- ---- behind reads

  module _ (a b : Space) (reads : ReadsVolume v w a b) where
    numbers_still : IsTrue a.tells → numbers_of v ≡ numbers_of w
    numbers_still tells = λ i. record {
      shape = sym reads.keeps.catalog.file.shape i;
      facts = (ap (λ (l : VolumeState). l.attributes_tree) (sym (lists_still v w a b reads tells))) i;
      header = sym reads.keeps.header i;
      used = (sym reads.keeps.map i).used;
      free = free_of (sym reads.keeps.map i);
    }

    pub value_load_still : IsTrue a.tells → value_load edits change w ≡ value_load edits change v
    value_load_still tells = ap (load_by edits change) (sym (numbers_still tells))

    pub value_room_still : HasRoomForValue edits change v a → HasRoomForValue edits change w b
    value_room_still was = record {
      update = room_still v w a b reads was.update;
      told = λ tells.
          let before : IsTrue a.tells = sym reads.looks.same.tells ∙ tells in
          subst (λ n. IsRoomBy edits change (numbers_of w) n) (sym reads.looks.spare) (subst (λ (k : Numbers). IsRoomBy edits change k a.spare) (numbers_still before) (was.told before));
    }
