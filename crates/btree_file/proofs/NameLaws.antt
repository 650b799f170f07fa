-- The ghost names of a store's references have no part in its tree.
use Rattle.std.proofs.Common.{ℕ, List, inl, inr, ⊎_elim}
use Rattle.std.specs.declared.cmp.Ordering.{Ordering}
use Rattle.sector_disk.specs.Space.{Space}
use Rattle.btree_node.specs.Tree.{IsTree, IsTreeNode, IsReached}
use Rattle.btree_file.specs.State.{state_of}
use Rattle.btree_file.specs.declared.tree.TreeFile.{TreeFile}

module _ (tree : TreeFile) (space : Space) (a b : List ℕ) where
  node_named : (height n : ℕ) → IsTreeNode (state_of a tree space) height n → IsTreeNode (state_of b tree space) height n
  node_named height n t = record { inside = t.inside; kind = t.kind; size = t.size }

  reached_named : (n : ℕ) → IsReached (state_of a tree space) n → IsReached (state_of b tree space) n
  reached_named n r = record { below = r.below; place = r.place; of_tree = r.of_tree; inside = r.inside; is = r.is }

pub tree_named : (is_key : List ℕ → Type 0) (cmp : List ℕ → List ℕ → Ordering) (tree : TreeFile) (space : Space) (a b : List ℕ) → IsTree is_key cmp (state_of a tree space) → IsTree is_key cmp (state_of b tree space)
tree_named is_key cmp tree space a b t = record {
  levels = record {
    nodes = λ j k low in_level. node_named tree space a b _ _ (t.levels.nodes j k low in_level);
    named = t.levels.named;
    some = t.levels.some;
    keys = t.levels.keys;
    short = t.levels.short;
  };
  ordered = record { ascends = t.ordered.ascends; next = t.ordered.next; back = t.ordered.back };
  header = record { depth = t.header.depth; empty = t.header.empty; leaf_records = t.header.leaf_records; first = t.header.first; last = t.header.last; no_leaf = t.header.no_leaf };
  mapped = record {
    used = λ n low. (λ u. ⊎_elim (λ r. inl (reached_named tree space a b n r)) (λ r. inr r) ((t.mapped.used n low).0 u), λ e. (t.mapped.used n low).1 (⊎_elim (λ r. inl (reached_named tree space b a n r)) (λ r. inr r) e));
    of_tree = λ n r. t.mapped.of_tree n (reached_named tree space b a n r);
    header = t.mapped.header;
    distinct = t.mapped.distinct;
    free = t.mapped.free;
  };
}
