-- A volume behind its header and the removal of a folder from its catalog.
use Rattle.std.proofs.Common.{◌≡◌, ℕ, List, sym, ◌∙◌, ap, subst}
use Rattle.std.specs.Prelude.{IsTrue, Option, None}
use Rattle.sector_disk.specs.Space.{Space}
use Rattle.btree_node.specs.Levels.{Pair}
use Rattle.btree_edit.specs.declared.edits.Removed.{Removed}
use Rattle.btree_edit.specs.declared.edits.Removed.TheVariants as removed
use Rattle.btree_file.specs.Frame.{FollowsOn}
use Rattle.btree_file.specs.FrameLaws.{same_sectors}
use Rattle.btree_file.specs.Standing.{pairs_in}
use Rattle.btree_file.specs.State.{sectors_of_tree}
use Rattle.catalog.specs.Entries.{AnswersRemoval, RemovesEntry, Removing}
use Rattle.hfs_volume.specs.Changes.{with_numbers}
use Rattle.hfs_volume.specs.Commands.{with_folder_removed}
use Rattle.hfs_volume.specs.Content.{VolumeState}
use Rattle.hfs_volume.specs.Entries.{AreThreaded}
use Rattle.hfs_volume.specs.Records.{Placed, placed_in, record_at}
use Rattle.volume_base.specs.Changing.{ChangesCatalog, PutsHeader}
use Rattle.volume_base.specs.Lists.{lists_of}
use Rattle.volume_base.specs.Removing.{DropsFolder}
use Rattle.volume_base.specs.Standing.{IsSettled, IsStanding}
use Rattle.volume_base.specs.declared.volume.Volume.{Volume}
use Rattle.volume_base.proofs.Added.{pairs_drawn}
use Rattle.volume_base.proofs.ListsAfter.{catalog_changes, changes_both, header_stays, numbers_change}

removed_done : (parent : ℕ) (name : List ℕ) (old new : List Pair) (found : Option Placed) (answer : Removed) → (found ≡ None → ⊥) → AnswersRemoval found answer → Removing parent name old new answer → RemovesEntry parent name old new
removed_done parent name old new found removed.Absent there none same = absurd (there none)
removed_done parent name old new found removed.Done there some drops = drops

module _ (v x : Volume) (a m : Space) (numbered : x ≡ record v { header = with_numbers v.header x.header }) (put : PutsHeader x a.content m.content) where
  -- behind the header's put, records and threads match as before
  pub threads_drawn : IsSettled v a.content → AreThreaded (pairs_in (sectors_of_tree x.catalog.file) m.content)
  threads_drawn settled =
      subst AreThreaded (ap (λ (l : VolumeState). l.catalog_pairs) settled.lists ∙ sym (pairs_drawn v x a m numbered put)) settled.sound.entries.threads

  -- the edit's removal, from the lists before the header's put
  pub removes_record : (w : Volume) (b : Space) → FollowsOn x.catalog.file w.catalog.file m b → (parent : ℕ) (name : List ℕ) (answer : Removed) → (record_at (placed_in (lists_of v a.content).catalog_pairs) parent name ≡ None → ⊥)
      → AnswersRemoval (record_at (placed_in (pairs_in (sectors_of_tree x.catalog.file) m.content)) parent name) answer
      → Removing parent name (pairs_in (sectors_of_tree x.catalog.file) m.content) (pairs_in (sectors_of_tree x.catalog.file) b.content) answer
      → RemovesEntry parent name (lists_of v a.content).catalog_pairs (lists_of w b.content).catalog_pairs
  removes_record w b follows parent name answer there answers taken =
      subst (λ (k : List Pair × List Pair). RemovesEntry parent name k.0 k.1)
      {x = (pairs_in (sectors_of_tree x.catalog.file) m.content, pairs_in (sectors_of_tree x.catalog.file) b.content)} {y = ((lists_of v a.content).catalog_pairs, (lists_of w b.content).catalog_pairs)}
      (λ i. (pairs_drawn v x a m numbered put i, pairs_in (sym (same_sectors x.catalog.file w.catalog.file follows.file) i) b.content))
      (removed_done parent name (pairs_in (sectors_of_tree x.catalog.file) m.content) (pairs_in (sectors_of_tree x.catalog.file) b.content) (record_at (placed_in (pairs_in (sectors_of_tree x.catalog.file) m.content)) parent name) answer
      (λ none. there (sym (ap (λ (l : List Pair). record_at (placed_in l) parent name) (pairs_drawn v x a m numbered put)) ∙ none)) answers taken)

  module _ (w : Volume) (b : Space) (was : IsStanding x m) (tells : IsTrue m.tells) (stands : IsStanding w b) (follows : FollowsOn x.catalog.file w.catalog.file m b) (rest : w ≡ record x { catalog = w.catalog })
      (parent : ℕ) (name : List ℕ) (answer : Removed)
    where
      pub drops_folder : x.header ≡ with_folder_removed v.header → (record_at (placed_in (lists_of v a.content).catalog_pairs) parent name ≡ None → ⊥)
          → AnswersRemoval (record_at (placed_in (pairs_in (sectors_of_tree x.catalog.file) m.content)) parent name) answer
          → Removing parent name (pairs_in (sectors_of_tree x.catalog.file) m.content) (pairs_in (sectors_of_tree x.catalog.file) b.content) answer
          → DropsFolder parent name v w a.content b.content
      drops_folder less there answers taken = record {
        removes = removes_record w b follows parent name answer there answers taken;
        changes = changes_both v x w a.content m.content b.content
            (changes_both v x x a.content a.content m.content (subst (λ (y : Volume). ChangesCatalog v y a.content a.content) (sym numbered) (numbers_change v x.header a.content)) put.changes)
            (subst (λ (y : Volume). ChangesCatalog x y m.content b.content) (sym rest) (catalog_changes x m b w.catalog follows was tells stands.trees.catalog));
        header = ap (λ (y : Volume). y.header) rest ∙ less;
        headed = header_stays x m b w.catalog follows was tells stands.trees.catalog ∙ put.headed ∙ sym (ap (λ (y : Volume). y.header) rest);
      }
