-- A link that is added to a folder, behind the header that counts it.
use Rattle.std.proofs.Common.{◌≡◌, ℕ, false, List, sym, ◌∙◌, ap, subst}
use Rattle.std.specs.Prelude.{IsTrue, None}
use Rattle.sector_disk.specs.Space.{Space}
use Rattle.btree_node.specs.Levels.{Pair}
use Rattle.btree_edit.specs.declared.edits.Inserted.{Inserted}
use Rattle.btree_file.specs.Frame.{FollowsOn}
use Rattle.btree_file.specs.FrameLaws.{same_sectors}
use Rattle.btree_file.specs.Standing.{pairs_in}
use Rattle.btree_file.specs.State.{sectors_of_tree}
use Rattle.cat_records.specs.declared.record.CatRecord.{CatRecord}
use Rattle.cat_records.specs.declared.record.CatRecord.TheVariants.{File}
use Rattle.catalog.specs.Entries.{Adding, AnswersAdd}
use Rattle.hard_links.specs.Linking.{link_record}
use Rattle.hfs_volume.specs.Changes.{AddsEntry, with_numbers}
use Rattle.hfs_volume.specs.Commands.{entry_in, with_made}
use Rattle.hfs_volume.specs.Records.{placed_in, record_at}
use Rattle.volume_base.specs.Changing.{ChangesCatalog, PutsHeader}
use Rattle.volume_names.specs.Linking.{AddsName}
use Rattle.volume_base.specs.Lists.{lists_of}
use Rattle.volume_base.specs.Making.{free_place}
use Rattle.volume_base.specs.Standing.{IsStanding}
use Rattle.volume_base.specs.declared.volume.Volume.{Volume}
use Rattle.volume_base.proofs.Added.{added_done, drawn_changes, pairs_drawn}
use Rattle.volume_base.proofs.ListsAfter.{catalog_changes, changes_both, header_stays}

module _ (v x : Volume) (a m : Space) (numbered : x ≡ record v { header = with_numbers v.header x.header }) (put : PutsHeader x a.content m.content)
    (w : Volume) (b : Space) (was : IsStanding x m) (tells : IsTrue m.tells) (stands : IsStanding w b) (follows : FollowsOn x.catalog.file w.catalog.file m b) (rest : w ≡ record x { catalog = w.catalog })
    (folder : ℕ) (name : List ℕ) (reference created : ℕ) (value : CatRecord) (answer : Inserted)
  where
    pub adds_name : value ≡ File (link_record v.header.next_catalog_id reference created) → x.header ≡ with_made false v.header → record_at (placed_in (lists_of v a.content).catalog_pairs) folder name ≡ None
        → AnswersAdd (record_at (placed_in (pairs_in (sectors_of_tree x.catalog.file) m.content)) folder name) answer
        → Adding (record { parent = folder; name = name; value = value }) (pairs_in (sectors_of_tree x.catalog.file) m.content) (pairs_in (sectors_of_tree x.catalog.file) b.content) answer
        → AddsName folder name reference created v w a.content b.content
    adds_name same made free answers added = record {
      adds = subst (λ (k : CatRecord × List Pair × List Pair). AddsEntry (entry_in (free_place folder name) k.0) k.1 k.2)
          {x = (value, pairs_in (sectors_of_tree x.catalog.file) m.content, pairs_in (sectors_of_tree x.catalog.file) b.content)}
          {y = (File (link_record v.header.next_catalog_id reference created), (lists_of v a.content).catalog_pairs, (lists_of w b.content).catalog_pairs)}
          (λ i. (same i, pairs_drawn v x a m numbered put i, pairs_in (sym (same_sectors x.catalog.file w.catalog.file follows.file) i) b.content))
          (added_done (record { parent = folder; name = name; value = value }) (pairs_in (sectors_of_tree x.catalog.file) m.content) (pairs_in (sectors_of_tree x.catalog.file) b.content) (record_at (placed_in (pairs_in (sectors_of_tree x.catalog.file) m.content)) folder name) answer
          (ap (λ (l : List Pair). record_at (placed_in l) folder name) (pairs_drawn v x a m numbered put) ∙ free) answers added);
      changes = changes_both v x w a.content m.content b.content (drawn_changes v x a m numbered put)
          (subst (λ (y : Volume). ChangesCatalog x y m.content b.content) (sym rest) (catalog_changes x m b w.catalog follows was tells stands.trees.catalog));
      header = ap (λ (y : Volume). y.header) rest ∙ made;
      headed = header_stays x m b w.catalog follows was tells stands.trees.catalog ∙ put.headed ∙ sym (ap (λ (y : Volume). y.header) rest);
    }
