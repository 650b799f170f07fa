-- The pairs of the trees of a volume that was just made.
use Rattle.std.proofs.Common.{◌≡◌, ℕ, ◌+◌, ◌*◌, ◌≤◌, true, false, List, [], ◌∷◌, ◌++◌, length, map, take, drop, codes, IsTrue, refl, ◌∙◌, ap, arith}
use Rattle.std.proofs.lemmas.List.{append-nil, append_assoc, take_at, drop_at}
use Rattle.hx_bytes.specs.Field.{big, big_at}
use Rattle.hx_bytes.specs.declared.fields.Order.TheVariants.{Big}
use Rattle.hx_bytes.proofs.Laws.{number_at-number_bytes}
use Rattle.cat_records.specs.declared.record.CatRecord.{CatRecord}
use Rattle.cat_records.specs.Keys.{catalog_key_bytes}
use Rattle.cat_records.specs.Records.{catalog_bytes, units_bytes}
use Rattle.btree_node.specs.Node.{items}
use Rattle.btree_node.specs.Levels.{Nodes, key_of, value_of, pair_of, leaves}
use Rattle.btree_node.specs.TreeFile.{TreeFile, TreeHead}
use Rattle.jnl_format.specs.Recovery.{Content}
use Rattle.hfs_model.specs.Fresh.{catalog_item, new_folder, new_thread}
use Rattle.hfs_volume.specs.Content.{catalog_file}
use Rattle.volume_make.specs.declared.layout.Layout.{Layout}
use Rattle.volume_make.specs.Layout.{CanBe, layout_of}
use Rattle.volume_make.specs.Refusal.{is_name}
use Rattle.volume_make.specs.Texts.{new_file, leaf_items}
use Rattle.volume_make.specs.Written.{IsFormatted}
use Rattle.volume_make.proofs.Leaves.{length-key, name_short}
use Rattle.fresh_volume.specs.Fresh.{HasFreshTrees, HasFreshPairs, catalog_pair, fresh_pairs}
use Rattle.fresh_volume.proofs.Trees.{has_fresh_trees, no_pairs}

-- a record of a node is its key and its value
pub pair_is : (parent : ℕ) (name : List ℕ) (value : CatRecord) → length name ≤ 255 → pair_of (catalog_item parent name value) ≡ catalog_pair parent name value
unfolding key_of value_of
pair_is parent name value short =
    let key : List ℕ = catalog_key_bytes parent name in
    let rest : List ℕ = catalog_bytes value in
    let whole : key ++ rest ≡ big 2 (6 + 2 * length name) ++ (big 4 parent ++ (big 2 (length name) ++ (units_bytes name ++ rest))) = simp append_assoc in
    let number : big_at 2 (key ++ rest) 0 ≡ 6 + 2 * length name =
    ap (λ (l : List ℕ). big_at 2 l 0) whole ∙ number_at-number_bytes Big 2 (6 + 2 * length name) 0 [] (big 4 parent ++ (big 2 (length name) ++ (units_bytes name ++ rest))) refl (omega (arith, short)) in
    let long : length key ≡ big_at 2 (key ++ rest) 0 + 2 = omega (arith, length-key parent name, number) in
    let front : take (big_at 2 (key ++ rest) 0 + 2) (key ++ rest) ≡ key = take_at key rest (big_at 2 (key ++ rest) 0 + 2) long in
    let back : drop (big_at 2 (key ++ rest) 0 + 2) (key ++ rest) ≡ rest = drop_at key rest (big_at 2 (key ++ rest) 0 + 2) long in
    λ i. (front i, back i)

-- the pairs of a tree whose root is its one leaf
one_leaf : (nodes : Nodes) (root depth : ℕ) (records : List (List ℕ)) → depth ≡ 1 → root ≡ 1 → items (nodes 1) ≡ records → leaves nodes root depth ≡ map pair_of records
one_leaf nodes root depth records one first are =
    ap (leaves nodes root) one ∙ ap (λ (n : ℕ). map pair_of (items (nodes n) ++ [])) first ∙ ap (map pair_of) (append-nil (items (nodes 1)) ∙ are)

items_paired : (layout : Layout) (name : List ℕ) → length name ≤ 255 → map pair_of (leaf_items layout name) ≡ fresh_pairs layout name
unfolding leaf_items
items_paired layout name short =
    let a = pair_is 1 name (new_folder 2 2) short in
    let b = pair_is 2 [] (new_thread false 1 name) (omega arith) in
    let c = pair_is 2 (codes ".journal") (new_file layout.block 17 layout.journal) (omega arith) in
    let d = pair_is 2 (codes ".journal_info_block") (new_file layout.block 16 layout.info) (omega arith) in
    let e = pair_is 16 [] (new_thread true 2 (codes ".journal_info_block")) (omega arith) in
    let f = pair_is 17 [] (new_thread true 2 (codes ".journal")) (omega arith) in
    λ i. a i ∷ b i ∷ c i ∷ d i ∷ e i ∷ f i ∷ []

pub has_fresh_pairs : (sectors block journal : ℕ) (name : List ℕ) (old new : Content) → CanBe sectors block journal → IsTrue (is_name name)
    → IsFormatted (layout_of sectors block journal) name old new → HasFreshPairs (layout_of sectors block journal) name new
has_fresh_pairs sectors block journal name old new can named made =
    let layout : Layout = layout_of sectors block journal in
    let trees : HasFreshTrees sectors block journal name new = has_fresh_trees sectors block journal name old new can named made in
    let depth_of : TreeHead → ℕ = λ h. h.depth in
    let root_of : TreeHead → ℕ = λ h. h.root in
    let file : TreeFile = catalog_file new in
    record {
      overflow = no_pairs _ _ _ (ap depth_of trees.extents.head);
      attributes = no_pairs _ _ _ (ap depth_of trees.attributes.head);
      catalog =
          one_leaf file.nodes file.head.root file.head.depth (leaf_items layout name) (ap depth_of trees.catalog.head) (ap root_of trees.catalog.head) trees.leaf.items
          ∙ items_paired layout name (name_short name named);
    }
