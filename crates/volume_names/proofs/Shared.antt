-- A file that goes to the private folder, and links that are added, as changes of a volume.
use Rattle.std.proofs.Common.{◌≡◌, ◌<◌, ℕ, ◌+◌, ◌^◌, List, sym, ◌∙◌, ap, subst, arith}
use Rattle.std.specs.Prelude.{IsTrue, None, Some}
use Rattle.sector_disk.specs.Lists.{Content}
use Rattle.sector_disk.specs.Space.{Space}
use Rattle.jnl_format.specs.Recovery.{header_of_volume}
use Rattle.btree_node.specs.Levels.{Pair}
use Rattle.btree_edit.specs.declared.edits.Inserted.{Inserted}
use Rattle.btree_file.specs.Frame.{FollowsOn}
use Rattle.btree_file.specs.FrameLaws.{same_sectors}
use Rattle.btree_file.specs.Standing.{pairs_in}
use Rattle.btree_file.specs.State.{sectors_of_tree}
use Rattle.cat_records.specs.declared.record.CatRecord.{CatRecord}
use Rattle.cat_records.specs.declared.record.CatRecord.TheVariants.{File}
use Rattle.catalog.specs.Entries.{Adding, AnswersAdd, AnswersMove, Moving, RelocatesEntry}
use Rattle.catalog.specs.declared.moving.Moved.{Moved}
use Rattle.catalog.specs.declared.moving.Moved.TheVariants as moved
use Rattle.hard_links.specs.Linking.{link_record}
use Rattle.hfs_volume.specs.Changes.{AddsEntry, with_numbers}
use Rattle.hfs_volume.specs.Commands.{ChangesFields, IsMarkedLinked, entry_in}
use Rattle.hfs_volume.specs.Content.{VolumeState, records_of, volume_of}
use Rattle.hfs_volume.specs.Links.{node_name}
use Rattle.hfs_volume.specs.Records.{Placed, entries_of, is_file, placed_in, record_at}
use Rattle.volume_header.specs.declared.header.VolumeHeader.{VolumeHeader}
use Rattle.volume_base.specs.Changing.{ChangesCatalog, PutsHeader}
use Rattle.volume_base.specs.Lists.{lists_of}
use Rattle.volume_base.specs.Looking.{ReadsVolume}
use Rattle.volume_base.specs.Losing.{IsOnlyName}
use Rattle.volume_base.specs.Making.{free_place}
use Rattle.volume_names.specs.Sharing.{PutsLink, SharesFile, with_two_made}
use Rattle.volume_base.specs.Standing.{IsSettled, IsStanding}
use Rattle.volume_names.specs.Unlinking.{SaysLinks}
use Rattle.volume_base.specs.declared.volume.Volume.{Volume}
use Rattle.volume_base.proofs.Added.{added_done, drawn_changes, pairs_drawn}
use Rattle.volume_base.proofs.Counted.{counts_low}
use Rattle.volume_base.proofs.ListsAfter.{catalog_changes, changes_both, header_stays}
use Rattle.volume_base.proofs.Recounting.{read_changes}
use Rattle.volume_base.proofs.Still.{lists_still}

-- the header's number of files can go up by two
pub files_fit : (v : Volume) (content : Content) → IsSettled v content → v.header.next_catalog_id + 2 < 2 ^ 32 → v.header.file_count + 2 < 2 ^ 32
files_fit v content settled fits =
    let head : (volume_of content).head ≡ v.header = ap (λ (l : VolumeState). l.head) settled.lists in
    let low = counts_low (volume_of content).head.next_catalog_id (entries_of (records_of (volume_of content))) settled.sound.blocks.header.next_id settled.sound.entries.ids (λ (p : Placed). is_file p.value) in
    omega (arith, fits, ap (λ (h : VolumeHeader). h.next_catalog_id) head, settled.sound.entries.counts.files, low, ap (λ (h : VolumeHeader). h.file_count) head)

-- what stands at one place and not at another is moved there
relocated : (from : ℕ) (old_name : List ℕ) (to : ℕ) (name : List ℕ) (old new : List Pair) (answer : Moved) → (record_at (placed_in old) from old_name ≡ None → ⊥) → record_at (placed_in old) to name ≡ None
    → AnswersMove (record_at (placed_in old) from old_name) (record_at (placed_in old) to name) answer → Moving from old_name to name old new answer → RelocatesEntry from old_name to name old new
relocated from old_name to name old new moved.Absent there vacant answers does = absurd (there answers)
relocated from old_name to name old new moved.Exists there vacant answers does = absurd (answers.1 vacant)
relocated from old_name to name old new moved.Done there vacant answers does = does

module _ (v x : Volume) (a m : Space) (numbered : x ≡ record v { header = with_numbers v.header x.header }) (put : PutsHeader x a.content m.content)
    (w : Volume) (b : Space) (was : IsStanding x m) (tells : IsTrue m.tells) (stands : IsStanding w b) (follows : FollowsOn x.catalog.file w.catalog.file m b) (rest : w ≡ record x { catalog = w.catalog })
    (parent : ℕ) (old : List ℕ) (private number : ℕ) (node : List ℕ) (answer : Moved)
  where
    pub shares_file : node ≡ node_name number → x.header ≡ with_two_made v.header → (record_at (placed_in (lists_of v a.content).catalog_pairs) parent old ≡ None → ⊥) → record_at (placed_in (lists_of v a.content).catalog_pairs) private (node_name number) ≡ None
        → AnswersMove (record_at (placed_in (pairs_in (sectors_of_tree x.catalog.file) m.content)) parent old) (record_at (placed_in (pairs_in (sectors_of_tree x.catalog.file) m.content)) private node) answer
        → Moving parent old private node (pairs_in (sectors_of_tree x.catalog.file) m.content) (pairs_in (sectors_of_tree x.catalog.file) b.content) answer
        → SharesFile parent old private number v w a.content b.content
    shares_file named made there free answers does = record {
      moves = subst (λ (k : List ℕ × List Pair × List Pair). RelocatesEntry parent old private k.0 k.1 k.2)
          {x = (node, pairs_in (sectors_of_tree x.catalog.file) m.content, pairs_in (sectors_of_tree x.catalog.file) b.content)}
          {y = (node_name number, (lists_of v a.content).catalog_pairs, (lists_of w b.content).catalog_pairs)}
          (λ i. (named i, pairs_drawn v x a m numbered put i, pairs_in (sym (same_sectors x.catalog.file w.catalog.file follows.file) i) b.content))
          (relocated parent old private node (pairs_in (sectors_of_tree x.catalog.file) m.content) (pairs_in (sectors_of_tree x.catalog.file) b.content) answer
          (λ none. there (ap (λ (l : List Pair). record_at (placed_in l) parent old) (sym (pairs_drawn v x a m numbered put)) ∙ none))
          ((λ i. record_at (placed_in (pairs_drawn v x a m numbered put i)) private (named i)) ∙ free) answers does);
      changes = changes_both v x w a.content m.content b.content (drawn_changes v x a m numbered put)
          (subst (λ (y : Volume). ChangesCatalog x y m.content b.content) (sym rest) (catalog_changes x m b w.catalog follows was tells stands.trees.catalog));
      header = ap (λ (y : Volume). y.header) rest ∙ made;
      headed = header_stays x m b w.catalog follows was tells stands.trees.catalog ∙ put.headed ∙ sym (ap (λ (y : Volume). y.header) rest);
    }

module _ (v w : Volume) (a b : Space) (was : IsStanding v a) (tells : IsTrue a.tells) (stands : IsStanding w b) (follows : FollowsOn v.catalog.file w.catalog.file a b) (rest : w ≡ record v { catalog = w.catalog })
    (folder : ℕ) (name : List ℕ) (id number created : ℕ) (value : CatRecord) (answer : Inserted)
  where
    pub puts_link : value ≡ File (link_record id number created) → record_at (placed_in (lists_of v a.content).catalog_pairs) folder name ≡ None
        → AnswersAdd (record_at (placed_in (pairs_in (sectors_of_tree v.catalog.file) a.content)) folder name) answer
        → Adding (record { parent = folder; name = name; value = value }) (pairs_in (sectors_of_tree v.catalog.file) a.content) (pairs_in (sectors_of_tree v.catalog.file) b.content) answer
        → PutsLink folder name id number created v w a.content b.content
    puts_link same vacant answers added = record {
      adds = subst (λ (k : CatRecord × List Pair). AddsEntry (entry_in (free_place folder name) k.0) (lists_of v a.content).catalog_pairs k.1)
          {x = (value, pairs_in (sectors_of_tree v.catalog.file) b.content)} {y = (File (link_record id number created), (lists_of w b.content).catalog_pairs)}
          (λ i. (same i, pairs_in (sym (same_sectors v.catalog.file w.catalog.file follows.file) i) b.content))
          (added_done (record { parent = folder; name = name; value = value }) (pairs_in (sectors_of_tree v.catalog.file) a.content) (pairs_in (sectors_of_tree v.catalog.file) b.content) (record_at (placed_in (pairs_in (sectors_of_tree v.catalog.file) a.content)) folder name) answer vacant answers added);
      changes = subst (λ (y : Volume). ChangesCatalog v y a.content b.content) (sym rest) (catalog_changes v a b w.catalog follows was tells stands.trees.catalog);
      rest = rest;
      headed = header_stays v a b w.catalog follows was tells stands.trees.catalog;
    }

pub says_read : (v u : Volume) (a m : Space) (reads : ReadsVolume v u a m) (tells : IsTrue a.tells) (rest : u ≡ record v { catalog = u.catalog }) (id links had : ℕ) (w : Volume) (after : Content) → SaysLinks id links had u w m.content after → SaysLinks id links had v w a.content after
says_read v u a m reads tells rest id links had w after t =
    let marks = subst (λ (k : VolumeHeader × VolumeState). (does : ChangesFields id (IsMarkedLinked k.0.modify_date links) k.1 (lists_of w after)) × (does.before.special ≡ had)) {x = (u.header, lists_of u m.content)} {y = (v.header, lists_of v a.content)}
    (λ i. (reads.keeps.header i, lists_still v u a m reads tells i)) (t.marks, t.was) in
    record {
      marks = marks.0;
      was = marks.1;
      changes = changes_both v u w a.content m.content after (read_changes v u a m reads tells rest) t.changes;
      rest = t.rest ∙ (λ i. record (rest i) { catalog = w.catalog });
      headed = t.headed ∙ ap header_of_volume (reads.looks.content tells);
    }

-- a file's only name stands where it does
pub stood_there : (l : List Pair) (parent : ℕ) (old : List ℕ) → IsOnlyName (record { parent = parent; name = old }) l → record_at (placed_in l) parent old ≡ None → ⊥
stood_there l parent old only none = let no : None ≡ Some only.names.entry = sym none ∙ only.names.found in cc no
