-- Stores with the same shape, nodes, reserved nodes and map below the total number of nodes have the same tree.
use Rattle.std.proofs.Common.{◌≡◌, ℕ, ◌<◌, Bool, List, inl, inr, sym, ◌∙◌, ap, subst, arith, ⊎_elim}
use Rattle.std.specs.declared.cmp.Ordering.{Ordering}
use Rattle.btree_node.specs.Levels.{Nodes, leaves}
use Rattle.btree_node.specs.Store.{Store}
use Rattle.btree_node.specs.Tree.{IsTree, IsTreeNode, IsReached, pairs_of}
use Rattle.btree_node.specs.declared.store.TreeShape.{TreeShape}
use Rattle.btree_file.proofs.RoomLaws.{count_same}

-- a store of which a tree speaks of four things
abbrev pub plain : Bool → List ℕ → TreeShape → Nodes → (ℕ → Bool) → (ℕ → Bool) → TreeShape → (ℕ → Bool) → ℕ → ℕ → ℕ → ℕ → ℕ → Store
plain tells names shape nodes used reserved header written unwritten writes_left sectors_left loads faults = record {
  tells = tells;
  names = names;
  shape = shape;
  header = header;
  nodes = nodes;
  used = used;
  reserved = reserved;
  written = written;
  unwritten = unwritten;
  writes_left = writes_left;
  sectors_left = sectors_left;
  loads = loads;
  faults = faults;
}

module _ (is_key : List ℕ → Type 0) (cmp : List ℕ → List ℕ → Ordering) (s : Store) (tells : Bool) (names : List ℕ) (used : ℕ → Bool) (header : TreeShape) (written : ℕ → Bool) (unwritten writes_left sectors_left loads faults : ℕ)
    (same : (n : ℕ) → n < s.shape.total → used n ≡ s.used n)
  where
    abbrev other : Store
    other = plain tells names s.shape s.nodes used s.reserved header written unwritten writes_left sectors_left loads faults

    node_as : (height n : ℕ) → IsTreeNode s height n → IsTreeNode other height n
    node_as height n t = record { inside = t.inside; kind = t.kind; size = t.size }

    reached_as : (n : ℕ) → IsReached s n → IsReached other n
    reached_as n r = record { below = r.below; place = r.place; of_tree = r.of_tree; inside = r.inside; is = r.is }

    reached_back : (n : ℕ) → IsReached other n → IsReached s n
    reached_back n r = record { below = r.below; place = r.place; of_tree = r.of_tree; inside = r.inside; is = r.is }

    pub tree_as : IsTree is_key cmp s → IsTree is_key cmp other
    tree_as t = record {
      levels = record {
        nodes = λ j k low in_level. node_as _ _ (t.levels.nodes j k low in_level);
        named = t.levels.named;
        some = t.levels.some;
        keys = t.levels.keys;
        short = t.levels.short;
      };
      ordered = record { ascends = t.ordered.ascends; next = t.ordered.next; back = t.ordered.back };
      header = record { depth = t.header.depth; empty = t.header.empty; leaf_records = t.header.leaf_records; first = t.header.first; last = t.header.last; no_leaf = t.header.no_leaf };
      mapped = record {
        used = λ n low. (
          λ u. ⊎_elim (λ r. inl (reached_as n r)) (λ r. inr r) ((t.mapped.used n low).0 (sym (same n low) ∙ u)),
          λ e. same n low ∙ (t.mapped.used n low).1 (⊎_elim (λ r. inl (reached_back n r)) (λ r. inr r) e),
        );
        of_tree = λ n r. t.mapped.of_tree n (reached_back n r);
        header = t.mapped.header;
        distinct = t.mapped.distinct;
        free = omega (arith, t.mapped.free, count_same s.used used 0 s.shape.total (λ k low high. same k (omega (arith, high))));
      };
    }

-- the same, where shape, nodes and reserved nodes are equal
pub tree_alike : (is_key : List ℕ → Type 0) (cmp : List ℕ → List ℕ → Ordering) (s : Store) (shape : TreeShape) (nodes : Nodes) (used reserved : ℕ → Bool) (tells : Bool) (names : List ℕ) (header : TreeShape) (written : ℕ → Bool) (unwritten writes_left sectors_left loads faults : ℕ)
    → s.shape ≡ shape → s.nodes ≡ nodes → s.reserved ≡ reserved → ((n : ℕ) → n < s.shape.total → used n ≡ s.used n)
    → IsTree is_key cmp s → IsTree is_key cmp (plain tells names shape nodes used reserved header written unwritten writes_left sectors_left loads faults)
tree_alike is_key cmp s shape nodes used reserved tells names header written unwritten writes_left sectors_left loads faults shape_is nodes_are reserved_are same t =
    subst (λ (r : ℕ → Bool). IsTree is_key cmp (plain tells names shape nodes used r header written unwritten writes_left sectors_left loads faults)) reserved_are
    (subst (λ (m : Nodes). IsTree is_key cmp (plain tells names shape m used s.reserved header written unwritten writes_left sectors_left loads faults)) nodes_are
    (subst (λ (h : TreeShape). IsTree is_key cmp (plain tells names h s.nodes used s.reserved header written unwritten writes_left sectors_left loads faults)) shape_is
    (tree_as is_key cmp s tells names used header written unwritten writes_left sectors_left loads faults same t)))

pub pairs_alike : (a b : Store) → a.shape ≡ b.shape → a.nodes ≡ b.nodes → pairs_of a ≡ pairs_of b
pairs_alike a b shape nodes = ap (λ (m : Nodes). leaves m a.shape.root a.shape.depth) nodes ∙ ap (λ (h : TreeShape). leaves b.nodes h.root h.depth) shape
