-- Edits of the catalog's tree over a space: what a caller gets back.
use Rattle.std.proofs.Common.{◌≡◌, ℕ, IsTrue, List, refl, ◌∙◌, ap, subst}
use Rattle.std.specs.Prelude.{Result, Ok, Err, IfOk, OnOk}
use Rattle.hx_bytes.specs.declared.faults.Trouble.{Trouble}
use Rattle.btree_node.specs.Keys.{IsCatalogKey, catalog_cmp, anything}
use Rattle.btree_node.specs.Levels.{Pair}
use Rattle.btree_node.specs.Store.{unwritten_sectors}
use Rattle.btree_node.specs.Tree.{IsTree, pairs_of}
use Rattle.btree_node.specs.TreeFile.{catalog_form, tree_head, shape_of}
use Rattle.btree_edit.specs.Editing.{CostsAtMost}
use Rattle.btree_edit.specs.Edits.{TakesAtMost, TakesEdits}
use Rattle.catalog.specs.Rooms.{TakesUpdates}
use Rattle.sector_disk.specs.Space.{Space}
use Rattle.btree_file.specs.Frame.{FollowsOn}
use Rattle.btree_file.specs.FrameLaws.{same_sectors}
use Rattle.btree_file.specs.Standing.{Stands, HoldsTree, pairs_in}
use Rattle.btree_file.specs.State.{sectors_of_tree, state_of, Agrees}
use Rattle.btree_file.specs.declared.tree.TreeFile.{TreeFile}
use Rattle.btree_file.proofs.Edited.{stands_after, held_after}
use Rattle.btree_file.proofs.StandingLaws.{pairs_here}

module _ (names : List ℕ) (before after : TreeFile) (old new : Space) (tells : IsTrue old.tells) (follows : FollowsOn before after old new) where
  -- the content has a tree again
  pub holds_again : {A : Type 0} (result : Result A Trouble) → HoldsTree catalog_form IsCatalogKey anything catalog_cmp before old.content → Agrees after new.content → OnOk result (shape_of (tree_head after.header) ≡ after.shape)
      → OnOk result (IsTree IsCatalogKey catalog_cmp (state_of names after new)) → OnOk result (HoldsTree catalog_form IsCatalogKey anything catalog_cmp after new.content)
  holds_again (Ok answer) was agrees settled rules = held_after catalog_form IsCatalogKey anything catalog_cmp names before after old new tells was follows agrees settled rules (λ k d low. tt)
  holds_again (Err why) was agrees settled rules = settled

  -- what is said of the pairs of the store is so of those of the content
  pub pairs_again : {A : Type 0} (P : A → List Pair → List Pair → Type 0) (result : Result A Trouble) → Stands before old.content → Agrees after new.content → OnOk result (shape_of (tree_head after.header) ≡ after.shape)
      → IfOk result (λ answer. P answer (pairs_of (state_of names before old)) (pairs_of (state_of names after new))) → IfOk result (λ answer. P answer (pairs_in (sectors_of_tree before) old.content) (pairs_in (sectors_of_tree before) new.content))
  pairs_again P (Ok answer) was agrees settled told =
      let stands = stands_after before after old new tells was follows agrees settled in
      let first : pairs_of (state_of names before old) ≡ pairs_in (sectors_of_tree before) old.content = pairs_here before old.content was IsCatalogKey catalog_cmp names old refl in
      let second : pairs_of (state_of names after new) ≡ pairs_in (sectors_of_tree before) new.content =
      pairs_here after new.content stands IsCatalogKey catalog_cmp names new refl ∙ ap (λ (l : List ℕ). pairs_in l new.content) (same_sectors before after follows.file) in
      subst (λ (xs : List Pair). P answer xs (pairs_in (sectors_of_tree before) new.content)) first (subst (λ (ys : List Pair). P answer (pairs_of (state_of names before old)) ys) second told)
  pairs_again P (Err why) was agrees settled told = told

-- ---- what edits take doesn't hang on the names of the references

pub costs_renamed : (first later names : List ℕ) (before after : TreeFile) (old new : Space) (most takes : ℕ) → CostsAtMost most takes (state_of first before old) (state_of later after new) → CostsAtMost most takes (state_of names before old) (state_of names after new)
unfolding unwritten_sectors
costs_renamed first later names before after old new most takes was = record {
  fewer = was.fewer;
  some = was.some;
  left = was.left;
  sectors = was.sectors;
  free = was.free;
  later = was.later;
  same = record { tells = was.same.tells; names = refl; node_size = was.same.node_size; total = was.same.total; reserved = was.same.reserved };
}

pub takes_renamed : (first later names : List ℕ) (before after : TreeFile) (old new : Space) (edits longest : ℕ) → TakesAtMost edits longest (state_of first before old) (state_of later after new) → TakesAtMost edits longest (state_of names before old) (state_of names after new)
takes_renamed first later names before after old new edits longest was tells deepest deep =
    costs_renamed first later names before after old new _ _ (was tells deepest deep)

pub edits_renamed : (first later names : List ℕ) (before after : TreeFile) (old new : Space) (edits longest : ℕ) {A : Type 0} (result : Result A Trouble)
    → OnOk result (TakesEdits edits longest (state_of first before old) (state_of later after new)) → OnOk result (TakesEdits edits longest (state_of names before old) (state_of names after new))
edits_renamed first later names before after old new edits longest (Ok answer) was = record {
  takes = takes_renamed first later names before after old new edits longest was.takes;
  top = was.top;
  records = was.records;
}
edits_renamed first later names before after old new edits longest (Err why) was = was

pub updates_renamed : (first later names : List ℕ) (before after : TreeFile) (old new : Space) (edits updates longest : ℕ) {A : Type 0} (result : Result A Trouble)
    → OnOk result (TakesUpdates edits updates longest (state_of first before old) (state_of later after new)) → OnOk result (TakesUpdates edits updates longest (state_of names before old) (state_of names after new))
updates_renamed first later names before after old new edits updates longest (Ok answer) was = record {
  takes = λ tells deepest deep. costs_renamed first later names before after old new _ _ (was.takes tells deepest deep);
  top = was.top;
  records = was.records;
}
updates_renamed first later names before after old new edits updates longest (Err why) was = was
