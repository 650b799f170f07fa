-- The entry that was found by the CNID of a folder or file of the tree is where that stands; and reads leave the room for an update.
use Rattle.std.proofs.Common.{◌≡◌, ◌≤◌, ℕ, ◌/◌, ◌-◌, false, List, refl, sym, ◌∙◌, ap, subst}
use Rattle.std.specs.Prelude.{Contains, IsTrue, Option, None, Some, Result, Ok, Err, OnOk}
use Rattle.std.specs.Option.{option_map}
use Rattle.sector_disk.specs.Lists.{Content}
use Rattle.sector_disk.specs.Space.{Space}
use Rattle.btree_node.specs.Keys.{IsCatalogKey, catalog_cmp}
use Rattle.btree_node.specs.Levels.{Pair}
use Rattle.btree_node.specs.TreeFile.{store_of}
use Rattle.btree_node.specs.declared.store.TreeShape.{TreeShape}
use Rattle.btree_file.specs.Held.{file_in}
use Rattle.btree_file.specs.Standing.{pairs_in}
use Rattle.btree_file.specs.State.{sectors_of_tree}
use Rattle.catalog.specs.Pairs.{value_at}
use Rattle.hfs_model.specs.declared.plain.PlainNode.{PlainNode}
use Rattle.hfs_volume.specs.Content.{VolumeState, volume_of, records_of, attributes_of}
use Rattle.hfs_volume.specs.Entries.{AreSpelled, AreThreaded}
use Rattle.hfs_volume.specs.Records.{Placed, entries_of, id_of, id_in, is_thread, is_empty}
use Rattle.hfs_volume.specs.TreeOf.{tree_of, bytes_in, valued}
use Rattle.hfs_volume.proofs.Members.{each_of}
use Rattle.hfs_volume.proofs.NodesOf.{IsNodeOf, nodes_from}
use Rattle.hfs_volume.proofs.Sides.{entry_is_record, entry_is_named}
use Rattle.volume_base.specs.Changing.{HasRoomToUpdate, catalog_node}
use Rattle.volume_base.specs.Entering.{entry_by_id}
use Rattle.volume_base.specs.Lists.{lists_of}
use Rattle.volume_base.specs.Looking.{IsCatalogOver, ReadsVolume}
use Rattle.volume_base.specs.Standing.{HoldsTrees, IsSettled, StandsOver}
use Rattle.volume_base.specs.declared.entries.Entry.{Entry}
use Rattle.volume_base.specs.declared.volume.Volume.{Volume}
use Rattle.volume_base.proofs.CatalogEdited.{catalog_open}
use Rattle.volume_base.proofs.Entered.{keys_are, short_names, at_place, entry_is}
use Rattle.volume_base.proofs.Listed.{nodes_are}
use Rattle.volume_base.proofs.Rising.{settled_sorted}

-- A folder or file stands there, with its CNID.
pub record IsThere (pairs : List Pair) (id : ℕ) (entry : Entry) : Type 0 where
  pub value : value_at pairs entry.parent entry.name ≡ Some entry.rec
  pub kind : is_thread entry.rec ≡ false
  pub number : id_in entry.rec ≡ id

module _ (v : Volume) (content : Content) (holds : HoldsTrees v content) (settled : IsSettled v content) where
  pairs_are : (volume_of content).catalog_pairs ≡ (lists_of v content).catalog_pairs
  pairs_are = ap (λ (l : VolumeState). l.catalog_pairs) settled.lists

  keys : (pair : Pair) → Contains (volume_of content).catalog_pairs pair → IsCatalogKey pair.0
  keys pair has = keys_are IsCatalogKey catalog_cmp (store_of (file_in (sectors_of_tree v.catalog.file) content)) holds.catalog.file.rules pair (subst (λ (l : List Pair). Contains l pair) pairs_are has)

  of_entry : (e : Placed) → Contains (entries_of (records_of (volume_of content))) e → IsThere (volume_of content).catalog_pairs (id_of e) (record { parent = e.parent; name = e.name; rec = e.value })
  of_entry e stands =
      let is_record = entry_is_record (records_of (volume_of content)) e stands in
      record {
        value = ap (option_map (λ (p : Placed). p.value)) (at_place (volume_of content).catalog_pairs settled.sound.entries.threads (settled_sorted v content holds settled) e is_record);
        kind = each_of (λ (p : Placed). is_thread p.value ≡ is_empty p.name) (records_of (volume_of content)) settled.sound.entries.threads.kinds e is_record ∙ entry_is_named (records_of (volume_of content)) e stands;
        number = refl;
      }

  pub found_is : (e : Placed) → Contains (entries_of (records_of (volume_of content))) e → entry_by_id (volume_of content).catalog_pairs (id_of e) ≡ Some (record { parent = e.parent; name = e.name; rec = e.value })
  found_is e stands = entry_is (volume_of content).catalog_pairs settled.sound.entries.threads (settled_sorted v content holds settled) (short_names (volume_of content).catalog_pairs keys) e stands

  module _ (id : ℕ) (node : PlainNode) (there : Contains (tree_of content).nodes node) (number : node.id ≡ id) where
    node_of : IsNodeOf (valued (bytes_in content) (attributes_of (volume_of content))) (bytes_in content) (records_of (volume_of content)) node
    node_of = nodes_from (valued (bytes_in content) (attributes_of (volume_of content))) (bytes_in content) (records_of (volume_of content)) node (subst (λ (l : List PlainNode). Contains l node) (nodes_are content) there)

    here : entry_by_id (lists_of v content).catalog_pairs id ≡ Some (record { parent = node_of.entry.parent; name = node_of.entry.name; rec = node_of.entry.value })
    here = (λ i. entry_by_id (sym pairs_are i) ((sym number ∙ node_of.id) i)) ∙ found_is node_of.entry node_of.stands

    abbrev value_or : Entry → Option Entry → Entry
    value_or other None = other
    value_or other (Some e) = e

    pub entry_there : (entry : Entry) → Some entry ≡ entry_by_id (lists_of v content).catalog_pairs id → IsThere (lists_of v content).catalog_pairs id entry
    entry_there entry is =
        subst (λ (l : List Pair). IsThere l id entry) pairs_are
        (subst (λ n. IsThere (volume_of content).catalog_pairs n entry) (sym node_of.id ∙ number)
        (subst (λ (e : Entry). IsThere (volume_of content).catalog_pairs (id_of node_of.entry) e) (ap (value_or entry) (sym (is ∙ here))) (of_entry node_of.entry node_of.stands)))

    pub not_none : None ≡ entry_by_id (lists_of v content).catalog_pairs id → ⊥
    not_none none = let no : None ≡ Some (record { parent = node_of.entry.parent; name = node_of.entry.name; rec = node_of.entry.value }) = none ∙ here in cc no

-- ---- the catalog can be read in the middle of a command, too

pub settled_spelled : (v : Volume) (content : Content) → IsSettled v content → AreSpelled (lists_of v content).catalog_pairs
settled_spelled v content settled = subst AreSpelled (ap (λ (l : VolumeState). l.catalog_pairs) settled.lists) settled.sound.entries.threads.spelled

pub settled_threads : (v : Volume) (content : Content) → IsSettled v content → AreThreaded (lists_of v content).catalog_pairs
settled_threads v content settled = subst AreThreaded (ap (λ (l : VolumeState). l.catalog_pairs) settled.lists) settled.sound.entries.threads

pub catalog_over_by : (v : Volume) (space : Space) → StandsOver v space → (IsTrue space.tells → AreSpelled (pairs_in (sectors_of_tree v.catalog.file) space.content)) → IsCatalogOver v.catalog.file v.catalog.desk space
catalog_over_by v space stands spelled = record {
  fits = stands.service.catalog.desk;
  inside = stands.service.catalog.inside;
  unclosed = λ told. catalog_open v space stands told;
  holds = λ told. (stands.stands told).trees.catalog;
  whole = λ told. (stands.stands told).whole;
  spelled = spelled;
}

-- ---- reads leave the room

pub node_still : (v w : Volume) (a b : Space) → ReadsVolume v w a b → catalog_node w ≡ catalog_node v
node_still v w a b reads = ap (λ (s : TreeShape). s.node_size / 512) reads.keeps.catalog.file.shape

pub room_still : (v w : Volume) (a b : Space) → ReadsVolume v w a b → HasRoomToUpdate v a → HasRoomToUpdate w b
room_still v w a b reads was = record {
  told = λ tells. subst (λ (k : ℕ × ℕ). k.0 ≤ k.1) {x = (catalog_node v, a.spare)} {y = (catalog_node w, b.spare)} (λ i. (sym (node_still v w a b reads) i, sym reads.looks.spare i)) (was.told (sym reads.looks.same.tells ∙ tells));
}

-- ---- results

pub ok_so : {A E : Type 0} (P Q : Type 0) (result : Result A E) → OnOk result P → (P → Q) → OnOk result Q
ok_so P Q (Ok a) p so = so p
ok_so P Q (Err e) p so = p

pub ok_both : {A E : Type 0} (P Q R : Type 0) (result : Result A E) → OnOk result P → OnOk result Q → (P → Q → R) → OnOk result R
ok_both P Q R (Ok a) p q so = so p q
ok_both P Q R (Err e) p q so = p

pub ok_true : {A E : Type 0} {P : Type 0} (result : Result A E) → P → OnOk result P
ok_true (Ok a) p = p
ok_true (Err e) p = tt
