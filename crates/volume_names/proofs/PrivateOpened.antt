-- The private folder was added, and the root counts it: with the folder kept, the volume is settled again.
use Rattle.std.proofs.Common.{◌≡◌, ◌<◌, ℕ, ◌+◌, ◌^◌, true, List, refl, sym, ◌∙◌, ap, subst, arith}
use Rattle.std.specs.Prelude.{◌==◌, Option, None, Some}
use Rattle.sector_disk.specs.Lists.{Content}
use Rattle.sector_disk.specs.Space.{Space}
use Rattle.jnl_format.specs.Recovery.{header_of_volume}
use Rattle.btree_node.specs.Keys.{IsCatalogKey}
use Rattle.btree_node.specs.Levels.{Pair}
use Rattle.btree_node.specs.TreeFile.{store_of}
use Rattle.btree_file.specs.Held.{file_in}
use Rattle.btree_file.specs.State.{sectors_of_tree}
use Rattle.hfs_model.specs.Step.{private_name}
use Rattle.volume_header.specs.declared.header.VolumeHeader.{VolumeHeader}
use Rattle.hfs_volume.specs.Changes.{AddsEntry, HasSameNodes, InCatalog}
use Rattle.hfs_volume.specs.Commands.{IsNewValue, entry_in, with_made}
use Rattle.hfs_volume.specs.Content.{VolumeState, volume_of, records_of}
use Rattle.hfs_volume.specs.Entries.{AreThreaded, count_in}
use Rattle.hfs_volume.specs.Laws.{HeaderChanged}
use Rattle.hfs_volume.specs.Links.{private_id}
use Rattle.hfs_volume.specs.Records.{Placed, entries_of, id_of, is_folder, placed_in, record_at, valence_in}
use Rattle.hfs_volume.specs.Sound.{IsSoundVolume}
use Rattle.hfs_volume.specs.TreeOf.{bytes_in, tree_of}
use Rattle.hfs_volume.proofs.Ascending.{tree_sorted}
use Rattle.hfs_volume.proofs.Bytes.{file_bytes_are}
use Rattle.hfs_volume.proofs.Members.{each_of}
use Rattle.hfs_volume.proofs.Sides.{OneMore, one_more, still_entry}
use Rattle.hfs_volume.proofs.Threading.{threads_kept}
use Rattle.volume_base.specs.Changing.{ChangesCatalog, HasFolder}
use Rattle.volume_base.specs.Lists.{lists_of, facts_on}
use Rattle.volume_base.specs.Making.{AddsNew, free_place, new_value}
use Rattle.volume_names.specs.PrivateFolder.{HasOpened, OpensPrivate, RecountsFolder}
use Rattle.volume_base.specs.Service.{IsInService}
use Rattle.volume_base.specs.Standing.{HoldsTrees, IsStanding, IsSettled, StandsOver}
use Rattle.volume_base.specs.declared.volume.Volume.{Volume}
use Rattle.volume_names.proofs.Carried.{then_fields}
use Rattle.volume_base.proofs.Counted.{counts_low}
use Rattle.volume_base.proofs.ListsAfter.{changes_both}
use Rattle.volume_base.proofs.ListsAgain.{lists_told_again}
use Rattle.volume_names.proofs.Made.{new_is, new_kind}
use Rattle.volume_names.proofs.PrivateSound.{nothing_there, private_new, sound_opened, tree_opened}
use Rattle.volume_base.proofs.Settling.{lists_then, settles_private, tree_again}
use Rattle.volume_base.proofs.TreesSettled.{stands_private}

-- a volume that keeps another private folder stands as it did, over its space
pub over_private : (w : Volume) (b : Space) (private : Option ℕ) → StandsOver w b → StandsOver (record w { private = private }) b
over_private w b private over = record {
  service = in_service w b private over.service;
  stands = λ tells. stands_private w b private (over.stands tells);
}
  where
    in_service : (w : Volume) (b : Space) (private : Option ℕ) → IsInService w b → IsInService (record w { private = private }) b
    in_service w b private s = record {
      extents = s.extents;
      catalog = s.catalog;
      attributes = s.attributes;
      fits = s.fits;
      least = s.least;
      most = s.most;
      map_inside = s.map_inside;
      map_long = s.map_long;
      marks = s.marks;
    }

module _ (v : Volume) (a : Space) (settled : IsSettled v a.content) (absent : v.private ≡ None) where
  pairs_are : (volume_of a.content).catalog_pairs ≡ (lists_of v a.content).catalog_pairs
  pairs_are = ap (λ (l : VolumeState). l.catalog_pairs) settled.lists

  head_is : (volume_of a.content).head ≡ v.header
  head_is = ap (λ (l : VolumeState). l.head) settled.lists

  absent_here : private_id (records_of (volume_of a.content)) ≡ None
  absent_here = sym settled.private ∙ absent

  -- nothing has its name
  pub free_name : record_at (placed_in (lists_of v a.content).catalog_pairs) 2 private_name ≡ None
  free_name = ap (λ (l : List Pair). record_at (placed_in l) 2 private_name) (sym pairs_are) ∙ nothing_there (records_of (volume_of a.content)) absent_here settled.sound.links.good.private_folder

  module _ (w : Volume) (b : Content) (adds : AddsNew true 2 private_name v w a.content b) where
    abbrev folder : Placed
    folder = entry_in (free_place 2 private_name) (new_value true v.header.next_catalog_id v.header.modify_date)

    added_entry : AddsEntry (entry_in (free_place 2 private_name) (new_value true v.header.next_catalog_id v.header.modify_date)) (volume_of a.content).catalog_pairs (lists_of w b).catalog_pairs
    added_entry = subst (λ (l : List Pair). AddsEntry (entry_in (free_place 2 private_name) (new_value true v.header.next_catalog_id v.header.modify_date)) l (lists_of w b).catalog_pairs) (sym pairs_are) adds.adds

    -- behind it, records and threads match one to one
    pub threads_made : AreThreaded (lists_of w b).catalog_pairs
    threads_made = threads_kept folder (volume_of a.content).catalog_pairs (lists_of w b).catalog_pairs added_entry (new_kind true v.header.next_catalog_id v.header.modify_date) refl settled.sound.entries.threads

    side : OneMore folder (records_of (volume_of a.content)) (placed_in (lists_of w b).catalog_pairs)
    side = one_more added_entry refl

    -- the root is there
    pub root_after : v.header.next_catalog_id + 1 < 2 ^ 32 → HasFolder 2 1 (lists_of w b).catalog_pairs
    root_after fits =
        let root = settled.sound.entries.rooted.root in
        let next = ap (λ (h : VolumeHeader). h.next_catalog_id) head_is in
        let low = counts_low (volume_of a.content).head.next_catalog_id (entries_of (records_of (volume_of a.content))) settled.sound.blocks.header.next_id settled.sound.entries.ids (λ (p : Placed). p.parent == id_of root.0) in
        let valence = each_of (λ (p : Placed). is_folder p.value ≡ true → valence_in p.value ≡ count_in (entries_of (records_of (volume_of a.content))) (id_of p)) (entries_of (records_of (volume_of a.content))) settled.sound.entries.counts.valences root.0 root.1 root.2.folder in
        record { entry = root.0; stands = still_entry side root.0 root.1; number = root.2.id; folder = root.2.folder; fits = omega (arith, valence, low, next, fits) }

    nodes : HasSameNodes (volume_of a.content).catalog_tree (facts_on w.catalog.file)
    nodes = record {
      total = adds.changes.nodes.0 ∙ sym (ap (λ (l : VolumeState). l.catalog_tree.shape.total) settled.lists);
      size = adds.changes.nodes.1 ∙ sym (ap (λ (l : VolumeState). l.catalog_tree.shape.node_size) settled.lists);
    }

    in_catalog : InCatalog (AddsEntry folder) (record (volume_of a.content) { head = with_made true (volume_of a.content).head }) (lists_then a.content w b)
    in_catalog = record {
      changes = added_entry;
      nodes = nodes;
      rest =
          (λ i. record (adds.changes.lists i) { attributes_tree = (volume_of a.content).attributes_tree })
          ∙ sym (λ i. record (settled.lists i) { head = w.header; catalog_pairs = (lists_of w b).catalog_pairs; catalog_tree = facts_on w.catalog.file })
          ∙ (λ i. record (volume_of a.content) { head = (adds.header ∙ ap (with_made true) (sym head_is)) i; catalog_pairs = (lists_of w b).catalog_pairs; catalog_tree = facts_on w.catalog.file });
    }

    new_here : IsNewValue true (volume_of a.content).head.next_catalog_id (volume_of a.content).head.modify_date (new_value true v.header.next_catalog_id v.header.modify_date)
    new_here = subst (λ (h : VolumeHeader). IsNewValue true h.next_catalog_id h.modify_date (new_value true v.header.next_catalog_id v.header.modify_date)) (sym head_is) (new_is true v.header.next_catalog_id v.header.modify_date)

    module _ (was : IsStanding v a) (holds_w : HoldsTrees w b) (u : Volume) (c : Space) (stands : IsStanding u c) (t : RecountsFolder 2 1 w u b c.content) (law : HeaderChanged) where
      opens : OpensPrivate (volume_of a.content) (lists_then a.content u c.content)
      opens = record {
        absent = absent_here;
        value = new_value true v.header.next_catalog_id v.header.modify_date;
        is_new = new_here;
        added = lists_then a.content w b;
        adds = in_catalog;
        sorted = tree_sorted IsCatalogKey (store_of (file_in (sectors_of_tree w.catalog.file) b)) holds_w.catalog.file.rules;
        counts = then_fields (volume_of a.content).attributes_tree 2 (lists_of w b) (lists_of u c.content) t.counts;
      }

      sound : IsSoundVolume (lists_then a.content u c.content)
      sound = sound_opened law (volume_of a.content) (lists_then a.content u c.content) settled.sound opens

      changes : ChangesCatalog v u a.content c.content
      changes = changes_both v w u a.content b c.content adds.changes t.changes

      headed : header_of_volume c.content ≡ u.header
      headed = t.headed ∙ adds.headed ∙ sym (ap (λ (x : Volume). x.header) t.rest)

      settled_now : IsSettled (record u { private = Some v.header.next_catalog_id }) c.content
      settled_now = settles_private v u a c changes settled was stands headed sound (Some v.header.next_catalog_id)
          (sym (private_new law (volume_of a.content) (lists_then a.content u c.content) settled.sound opens ∙ ap (λ (h : VolumeHeader). Some h.next_catalog_id) head_is))

      pub private_opened : HasOpened (record u { private = Some v.header.next_catalog_id }) a.content c.content
      unfolding tree_of
      private_opened = record {
        settled = settled_now;
        opens = subst (λ (l : VolumeState). OpensPrivate (volume_of a.content) l) (sym (lists_told_again v u a c changes settled was settled_now.lists)) opens;
        tree = tree_again v u a c changes settled was stands headed sound ∙ tree_opened law (volume_of a.content) (lists_then a.content u c.content) settled.sound opens (bytes_in a.content) (file_bytes_are a.content).by_fork;
      }
