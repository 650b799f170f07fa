-- A volume behind its header and a new entry of its catalog.
use Rattle.std.proofs.Common.{◌≡◌, ℕ, ◌++◌, Bool, List, ◌∷◌, sym, ◌∙◌, ap, subst}
use Rattle.std.specs.Prelude.{IsTrue, Option, None}
use Rattle.sector_disk.specs.Space.{Space}
use Rattle.btree_node.specs.Levels.{Pair}
use Rattle.btree_edit.specs.declared.edits.Inserted.{Inserted}
use Rattle.btree_edit.specs.declared.edits.Inserted.TheVariants as inserted
use Rattle.btree_file.specs.Frame.{FollowsOn}
use Rattle.btree_file.specs.FrameLaws.{same_sectors}
use Rattle.btree_file.specs.Standing.{pairs_in}
use Rattle.btree_file.specs.State.{sectors_of_tree}
use Rattle.cat_records.specs.declared.record.CatRecord.{CatRecord}
use Rattle.catalog.specs.Entries.{Adding, AnswersAdd}
use Rattle.hfs_volume.specs.Changes.{AddsEntry, with_numbers}
use Rattle.hfs_volume.specs.Commands.{entry_in, with_made}
use Rattle.hfs_volume.specs.Content.{VolumeState}
use Rattle.hfs_volume.specs.Records.{Placed, placed_in, record_at}
use Rattle.volume_base.specs.Changing.{ChangesCatalog, PutsHeader}
use Rattle.volume_base.specs.Lists.{lists_of}
use Rattle.volume_base.specs.Making.{AddsRecord, free_place}
use Rattle.volume_base.specs.Standing.{IsStanding, attribute_sectors, map_sectors, own_sectors}
use Rattle.volume_base.specs.declared.volume.Volume.{Volume}
use Rattle.volume_base.proofs.ListsAfter.{catalog_changes, changes_both, header_stays, numbers_change}

pub added_done : (entry : Placed) (old new : List Pair) (found : Option Placed) (answer : Inserted) → found ≡ None → AnswersAdd found answer → Adding entry old new answer → AddsEntry entry old new
added_done entry old new found inserted.Exists none there same = absurd (there none)
added_done entry old new found inserted.Done none free added = added.0

-- an edit of the catalog leaves the volume's own sectors
pub own_edited : (x w : Volume) (m b : Space) → FollowsOn x.catalog.file w.catalog.file m b → w ≡ record x { catalog = w.catalog } → own_sectors w ≡ own_sectors x
own_edited x w m b follows rest =
    ap own_sectors rest ∙ (λ i. 2 ∷ sectors_of_tree x.extents.file ++ (same_sectors x.catalog.file w.catalog.file follows.file i ++ (attribute_sectors x ++ map_sectors x)))

module _ (v x w : Volume) (m b : Space) (numbered : x ≡ record v { header = with_numbers v.header x.header }) (follows : FollowsOn x.catalog.file w.catalog.file m b) (rest : w ≡ record x { catalog = w.catalog }) where
  pub own_drawn : own_sectors x ≡ own_sectors v
  own_drawn = ap own_sectors numbered

  pub own_added : own_sectors w ≡ own_sectors v
  own_added = own_edited x w m b follows rest ∙ own_drawn

module _ (v x : Volume) (a m : Space) (numbered : x ≡ record v { header = with_numbers v.header x.header }) (put : PutsHeader x a.content m.content) where
  -- the header's put leaves the catalog
  pub pairs_drawn : pairs_in (sectors_of_tree x.catalog.file) m.content ≡ (lists_of v a.content).catalog_pairs
  pairs_drawn = ap (λ (l : VolumeState). l.catalog_pairs) put.lists ∙ ap (λ (y : Volume). pairs_in (sectors_of_tree y.catalog.file) a.content) numbered

  pub drawn_changes : ChangesCatalog v x a.content m.content
  drawn_changes =
      changes_both v x x a.content a.content m.content
      (subst (λ (y : Volume). ChangesCatalog v y a.content a.content) (sym numbered) (numbers_change v x.header a.content)) put.changes

  module _ (w : Volume) (b : Space) (was : IsStanding x m) (tells : IsTrue m.tells) (stands : IsStanding w b) (follows : FollowsOn x.catalog.file w.catalog.file m b) (rest : w ≡ record x { catalog = w.catalog })
      (folder : Bool) (id : ℕ) (name : List ℕ) (value : CatRecord) (answer : Inserted)
    where
      pub adds_record : x.header ≡ with_made folder v.header → record_at (placed_in (lists_of v a.content).catalog_pairs) id name ≡ None
          → AnswersAdd (record_at (placed_in (pairs_in (sectors_of_tree x.catalog.file) m.content)) id name) answer
          → Adding (record { parent = id; name = name; value = value }) (pairs_in (sectors_of_tree x.catalog.file) m.content) (pairs_in (sectors_of_tree x.catalog.file) b.content) answer
          → AddsRecord folder value id name v w a.content b.content
      adds_record made free answers added = record {
        adds = subst (λ (k : List Pair × List Pair). AddsEntry (entry_in (free_place id name) value) k.0 k.1)
            {x = (pairs_in (sectors_of_tree x.catalog.file) m.content, pairs_in (sectors_of_tree x.catalog.file) b.content)}
            {y = ((lists_of v a.content).catalog_pairs, (lists_of w b.content).catalog_pairs)}
            (λ i. (pairs_drawn i, pairs_in (sym (same_sectors x.catalog.file w.catalog.file follows.file) i) b.content))
            (added_done (record { parent = id; name = name; value = value }) (pairs_in (sectors_of_tree x.catalog.file) m.content) (pairs_in (sectors_of_tree x.catalog.file) b.content) (record_at (placed_in (pairs_in (sectors_of_tree x.catalog.file) m.content)) id name) answer
            (ap (λ (l : List Pair). record_at (placed_in l) id name) pairs_drawn ∙ free) answers added);
        changes = changes_both v x w a.content m.content b.content drawn_changes
            (subst (λ (y : Volume). ChangesCatalog x y m.content b.content) (sym rest) (catalog_changes x m b w.catalog follows was tells stands.trees.catalog));
        header = ap (λ (y : Volume). y.header) rest ∙ made;
        headed = header_stays x m b w.catalog follows was tells stands.trees.catalog ∙ put.headed ∙ sym (ap (λ (y : Volume). y.header) rest);
      }
