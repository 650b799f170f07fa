-- Reads before an edit: the tree, its room and what edits take stay as they were.
use Rattle.std.proofs.Common.{◌≡◌, ◌≤◌, ◌<◌, ◌+◌, ◌*◌, ◌^◌, ℕ, List, length, max, ◌∙◌, ap, arith}
use Rattle.std.specs.Prelude.{IsTrue}
use Rattle.btree_node.specs.Keys.{IsCatalogKey, catalog_cmp}
use Rattle.btree_node.specs.Node.{items}
use Rattle.btree_node.specs.Store.{Store}
use Rattle.btree_node.specs.Tree.{IsTree, pairs_of}
use Rattle.btree_edit.specs.Editing.{edit_writes}
use Rattle.btree_edit.specs.Edits.{TakesEdits}
use Rattle.btree_edit.specs.Reading.{ReadsNodes}
use Rattle.btree_edit.proofs.Doing.{does_read, does_both}
use Rattle.btree_edit.proofs.Repeated.{reads_none}
use Rattle.btree_edit.proofs.Outcomes.{read_tree, read_pairs}

pub tree_read : (most : ℕ) (a b : Store) → ReadsNodes most a b → IsTrue a.tells → a.shape.total < 2 ^ 32 → IsTree IsCatalogKey catalog_cmp a → IsTree IsCatalogKey catalog_cmp b
tree_read most a b reads tells small tree = read_tree (λ _ key. key.size) most a b reads tells (omega (arith, small)) tree

pub pairs_read : (most : ℕ) (a b : Store) → ReadsNodes most a b → IsTrue a.tells → a.shape.total < 2 ^ 32 → IsTree IsCatalogKey catalog_cmp a → pairs_of b ≡ pairs_of a
pairs_read most a b reads tells small tree = read_pairs (λ _ key. key.size) most a b reads tells (omega (arith, small)) tree

-- reads are no edit
pub reads_edit_nothing : (most longest : ℕ) (a b : Store) → ReadsNodes most a b → a.faults ≤ b.faults → TakesEdits 0 longest a b
reads_edit_nothing most longest a b reads later = record {
  takes = λ tells deepest deep.
      let costs = does_read most reads later in
      does_both 0 0 0 0 (0 * edit_writes deepest) (0 * (deepest + 1)) costs (does_read 0 (reads_none b) (omega arith)) (omega arith) (omega arith);
  top = λ tells. record {
    depth = omega (arith, ap (λ h. h.depth) reads.shape);
    records = λ same deep.
        let root = ap (λ h. h.root) reads.shape in
        let items_are : length (items (b.nodes b.shape.root)) ≡ length (items (a.nodes a.shape.root)) = ap (λ n. length (items (b.nodes n))) root ∙ ap (λ (l : List ℕ). length (items l)) ((reads.tree tells).nodes a.shape.root) in
        omega (arith, ap (λ n. max 1 n) items_are);
  };
  records = λ tells. omega (arith, ap (λ h. h.leaf_records) reads.shape);
}
