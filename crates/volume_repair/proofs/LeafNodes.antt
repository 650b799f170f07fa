-- The leaves of a tree: each is a node of records, of its tree's size, and its records are pairs of the tree.
use Rattle.std.proofs.Common.{◌≡◌, ◌≢◌, ◌<◌, ℕ, suc, ◌+◌, ◌-◌, ◌==◌, true, false, List, [], length, refl, sym, ◌∙◌, ap, subst, arith, ⊎_elim, if◌then◌else◌}
use Rattle.std.specs.Prelude.{Contains, slice_range}
use Rattle.std.specs.declared.cmp.Ordering.{Ordering}
use Rattle.std.proofs.lemmas.Bool.{eqb-true, ne_eqb, true≢false}
use Rattle.std.proofs.lemmas.Bool.Decides.{eqb_tells}
use Rattle.std.proofs.lemmas.List.{get_or_default}
use Rattle.btree_node.specs.Levels.{entries, leaves, pair_of}
use Rattle.btree_node.specs.Node.{IsNode, items, offset, record_count, height_of}
use Rattle.btree_node.specs.Tree.{pairs_of, IsTreeNode}
use Rattle.btree_node.specs.TreeFile.{TreeFile, TreeForm, IsTreeFile, store_of, is_reserved_in}
use Rattle.btree_node.proofs.Items.{item-is, length-items}
use Rattle.hfs_volume.specs.Blocks.{is_among}
use Rattle.hfs_volume.specs.Broken.{levels_in, level_in, leaves_in}
use Rattle.hfs_volume.proofs.Members.{map_stands}
use Rattle.hfs_volume.proofs.Reaching.{flat_stands}
use Rattle.hfs_volume.proofs.Sharing.{any_is}

-- a node that is found among others is one of them
pub among_stands : (ns : List ℕ) (n : ℕ) → is_among ns n ≡ true → Contains ns n
among_stands ns n is = let found = any_is (λ other. other == n) ns is in subst (Contains ns) (eqb-true found.0 n found.2) found.1

module _ {form : TreeForm} {is_key is_value : List ℕ → Type 0} {cmp : List ℕ → List ℕ → Ordering} (tree : TreeFile) (is : IsTreeFile form is_key is_value cmp tree) where
  -- the last level, if the tree has one
  pub record IsLeaf (n : ℕ) : Type 0 where
    pub below : ℕ
    pub last : below + 1 ≡ tree.head.depth
    pub stands : Contains (level_in tree below) n

  levels_are : tree.head.root ≢ 0 → (0 < tree.head.depth) × (levels_in tree ≡ tree.head.depth)
  levels_are some = (more, ap (λ b. if b then 0 else height_of (tree.nodes tree.head.root)) no_root ∙ height)
    where
      more : 0 < tree.head.depth
      more = ⊎_elim (λ (none : (tree.head.depth == 0 ≡ true) × (tree.head.depth ≡ 0)). absurd (some (is.rules.header.empty none.1))) (λ (deep : (tree.head.depth == 0 ≡ false) × (tree.head.depth ≢ 0)). omega (arith, deep.1)) (eqb_tells tree.head.depth 0)

      no_root : (tree.head.root == 0) ≡ false
      no_root = ⊎_elim (λ (none : (tree.head.root == 0 ≡ true) × (tree.head.root ≡ 0)). absurd (some none.1)) (λ (there : (tree.head.root == 0 ≡ false) × (tree.head.root ≢ 0)). there.0) (eqb_tells tree.head.root 0)

      height : height_of (tree.nodes tree.head.root) ≡ tree.head.depth
      height = let top : height_of (tree.nodes tree.head.root) ≡ tree.head.depth - 0 = (is.rules.levels.nodes 0 0 more (omega arith)).kind.has_height in top ∙ omega arith

  root_some : 0 < tree.head.depth → tree.head.root ≢ 0
  root_some deep zero_is =
      let reserved = is.rules.mapped.of_tree tree.head.root (record { below = 0; place = 0; of_tree = deep; inside = omega arith; is = refl }) in
      true≢false (ap (λ n. is_reserved_in tree.chain n) (sym zero_is) ∙ reserved)

  -- the last level is that of the leaves
  pub leaf_level : (j : ℕ) → j + 1 ≡ tree.head.depth → leaves_in tree ≡ level_in tree j
  leaf_level j last =
      let some = root_some (omega (arith, last)) in
      let levels = levels_are some in
      ap (λ b. if b then [] else level_in tree (levels_in tree - 1)) (ne_eqb tree.head.root 0 some)
      ∙ ap (level_in tree) (let same : levels_in tree - 1 ≡ j = omega (arith, levels.1, last) in same)

  pub is_leaf : (n : ℕ) → Contains (leaves_in tree) n → IsLeaf n
  is_leaf n stands = ⊎_elim
      (λ (none : (tree.head.root == 0 ≡ true) × (tree.head.root ≡ 0)). absurd (let empty : Contains [] n = subst (λ l. Contains l n) (ap (λ b. if b then [] else level_in tree (levels_in tree - 1)) none.0) stands in omega (arith, empty.1)))
      (λ (there : (tree.head.root == 0 ≡ false) × (tree.head.root ≢ 0)).
      let levels = levels_are there.1 in
      record {
        below = levels_in tree - 1;
        last = omega (arith, levels.0, levels.1);
        stands = subst (λ l. Contains l n) (ap (λ b. if b then [] else level_in tree (levels_in tree - 1)) there.0) stands;
      })
      (eqb_tells tree.head.root 0)

  module _ (n : ℕ) (leaf : IsLeaf n) where
    node_is : IsTreeNode (store_of tree) (tree.head.depth - leaf.below) n
    node_is = subst (IsTreeNode (store_of tree) (tree.head.depth - leaf.below)) (get_or_default (level_in tree leaf.below) leaf.stands.0 0 n leaf.stands.1 ∙ leaf.stands.2) (is.rules.levels.nodes leaf.below leaf.stands.0 (omega (arith, leaf.last)) leaf.stands.1)

    pub leaf_is_node : IsNode (tree.nodes n)
    leaf_is_node = node_is.kind.well_formed

    pub leaf_long : length (tree.nodes n) ≡ tree.head.node_size
    leaf_long = node_is.size

    pub item_stands : (i : ℕ) → i < record_count (tree.nodes n) → Contains (items (tree.nodes n)) (slice_range (tree.nodes n) (offset (tree.nodes n) i) (offset (tree.nodes n) (i + 1)))
    item_stands i inside =
        let item = slice_range (tree.nodes n) (offset (tree.nodes n) i) (offset (tree.nodes n) (i + 1)) in
        (i, omega (arith, length-items (tree.nodes n), inside), get_or_default (items (tree.nodes n)) i item [] (omega (arith, length-items (tree.nodes n), inside)) ∙ item-is (tree.nodes n) i inside)

    -- a record of a leaf is a pair of the tree
    pub pair_stands : (item : List ℕ) → Contains (items (tree.nodes n)) item → Contains (pairs_of (store_of tree)) (pair_of item)
    pair_stands item stands = subst (λ d. Contains (leaves tree.nodes tree.head.root d) (pair_of item)) depth
        (map_stands pair_of (entries tree.nodes (level_in tree leaf.below)) item (flat_stands (λ m. items (tree.nodes m)) (level_in tree leaf.below) n item leaf.stands stands))
      where
        depth : suc leaf.below ≡ tree.head.depth
        depth = omega (arith, leaf.last)
