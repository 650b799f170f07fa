-- The pairs of a volume's trees stand in the order of their keys, so its lists have a plain tree.
use Rattle.std.proofs.Common.{◌≡◌, ℕ, zero, suc, ◌<◌, Bool, true, false, List, [], ◌∷◌, length, map, refl, sym, ◌∙◌, ap, subst, arith}
use Rattle.std.specs.Prelude.{IsTrue, slice_index_or, if◌then◌else◌}
use Rattle.std.specs.List.{AllByRecursion}
use Rattle.std.specs.Ordering.{is_lt}
use Rattle.std.specs.declared.cmp.Ordering.{Ordering}
use Rattle.std.specs.declared.cmp.Ordering.TheVariants.{Less}
use Rattle.std.proofs.lemmas.List.{get_or-map, length-map}
use Rattle.sector_disk.specs.Lists.{Content}
use Rattle.btree_node.specs.Keys.{IsCatalogKey, IsAttrKey, attr_cmp}
use Rattle.btree_node.specs.Levels.{Pair, Ascends, pair_of, key_of, entries, level, leaves}
use Rattle.btree_node.specs.Store.{Store}
use Rattle.btree_node.specs.Tree.{IsTree, pairs_of}
use Rattle.btree_node.specs.TreeFile.{store_of}
use Rattle.btree_file.specs.Held.{file_in}
use Rattle.btree_file.specs.Standing.{pairs_in}
use Rattle.btree_file.specs.State.{sectors_of_tree}
use Rattle.hfs_model.specs.Plain.{IsPlainTree}
use Rattle.hfs_model.specs.Sorted.{IsInOrder}
use Rattle.hfs_volume.specs.Books.{SoundHasPlainTree}
use Rattle.hfs_volume.specs.Changes.{AreSorted, AreSortedAttributes, attribute_before}
use Rattle.hfs_volume.specs.Content.{VolumeState, volume_of, has_attributes}
use Rattle.hfs_volume.specs.Records.{Attribute, attribute_of}
use Rattle.hfs_volume.specs.TreeOf.{tree_of, bytes_in}
use Rattle.hfs_volume.proofs.Ascending.{tree_sorted}
use Rattle.volume_base.specs.Standing.{HoldsTrees, IsSettled}
use Rattle.volume_base.specs.declared.volume.Volume.{Volume}

-- the keys of the pairs rise strictly
abbrev Rise : (List ℕ → List ℕ → Ordering) → List Pair → Type 0
Rise cmp pairs = (i j : ℕ) → i < j → j < length pairs → cmp (slice_index_or pairs i ([], [])).0 (slice_index_or pairs j ([], [])).0 ≡ Less

tree_rises : (is_key : List ℕ → Type 0) (cmp : List ℕ → List ℕ → Ordering) (store : Store) → IsTree is_key cmp store → Rise cmp (pairs_of store)
tree_rises is_key cmp store tree = by_depth store.shape.depth refl
  where
    rising : (xs : List (List ℕ)) → Ascends cmp xs → Rise cmp (map pair_of xs)
    rising xs ascends i j below fits =
        let inside : j < length xs = omega (arith, fits, length-map xs pair_of) in
        ap (λ (pair : Pair). cmp pair.0 (slice_index_or (map pair_of xs) j ([], [])).0) (get_or-map pair_of xs i [] ([], []) (omega (arith, below, inside)))
        ∙ ap (λ (pair : Pair). cmp (key_of (slice_index_or xs i [])) pair.0) (get_or-map pair_of xs j [] ([], []) inside)
        ∙ ascends i j below inside

    by_depth : (depth : ℕ) → store.shape.depth ≡ depth → Rise cmp (leaves store.nodes store.shape.root depth)
    by_depth zero is = λ i j below fits. absurd (omega (arith, fits))
    by_depth (suc below) is = rising (entries store.nodes (level store.nodes store.shape.root below)) (tree.ordered.ascends below (omega (arith, is)))

-- attributes whose keys rise are in order
attributes_in_order : (pairs : List Pair) → Rise attr_cmp pairs → IsInOrder attribute_before (map attribute_of pairs)
unfolding attribute_of
attributes_in_order [] rise = tt
attributes_in_order (pair ∷ rest) rise = (
  each rest (λ j within. rise 0 (suc j) (omega arith) (omega (arith, within))),
  attributes_in_order rest (λ i j below within. rise (suc i) (suc j) (omega (arith, below)) (omega (arith, within))),
)
  where
    each : (later : List Pair) → ((j : ℕ) → j < length later → attr_cmp pair.0 (slice_index_or later j ([], [])).0 ≡ Less) → AllByRecursion (λ (x : Attribute). attribute_before (attribute_of pair) x ≡ true) (map attribute_of later)
    each [] all = tt
    each (next ∷ others) all = (ap is_lt (all 0 (omega arith)), each others (λ j within. all (suc j) (omega (arith, within))))

-- the records of a settled volume stand in the order of their keys
pub settled_sorted : (v : Volume) (content : Content) → HoldsTrees v content → IsSettled v content → AreSorted (volume_of content).catalog_pairs
settled_sorted v content holds settled =
    subst AreSorted (sym (ap (λ (l : VolumeState). l.catalog_pairs) settled.lists)) (tree_sorted IsCatalogKey (store_of (file_in (sectors_of_tree v.catalog.file) content)) holds.catalog.file.rules)

-- so do those of its attributes file
pub held_sorted : (v : Volume) (content : Content) → HoldsTrees v content → IsTrue (has_attributes v.header) → AreSortedAttributes (pairs_in (sectors_of_tree v.attributes.file) content)
held_sorted v content holds has = attributes_in_order _ (tree_rises IsAttrKey attr_cmp _ (holds.attributes has).file.rules)

-- and so do its attributes
pub settled_attributes_sorted : (v : Volume) (content : Content) → HoldsTrees v content → IsSettled v content → AreSortedAttributes (volume_of content).attribute_pairs
settled_attributes_sorted v content holds settled = subst AreSortedAttributes (sym (ap (λ (l : VolumeState). l.attribute_pairs) settled.lists)) (by_test (has_attributes v.header) refl)
  where
    by_test : (b : Bool) → has_attributes v.header ≡ b → AreSortedAttributes (if b then pairs_in (sectors_of_tree v.attributes.file) content else [])
    by_test true has = attributes_in_order _ (tree_rises IsAttrKey attr_cmp _ (holds.attributes has).file.rules)
    by_test false none = tt

-- the tree of a settled volume is a plain tree
pub settled_is_plain : SoundHasPlainTree → (v : Volume) (content : Content) → HoldsTrees v content → IsSettled v content → IsPlainTree (tree_of content)
unfolding tree_of
settled_is_plain law v content holds settled = (law (volume_of content) (bytes_in content) (settled_sorted v content holds settled) (settled_attributes_sorted v content holds settled) settled.sound).plain
