-- The nodes of a volume that is made are read as they were made.
use Rattle.std.proofs.Common.{◌≡◌, ℕ, ◌<◌, List, ◌++◌, length, take, drop, replicate, IsTrue, refl, sym, ◌∙◌, ap, subst, arith}
use Rattle.std.proofs.Math.ListN.{length-replicate}
use Rattle.std.proofs.lemmas.List.{take_at, drop_at}
use Rattle.flag_rows.specs.Bitmap.{is_marked, nowhere}
use Rattle.btree_node.specs.Codec.{IsPacked, IsHeaderOf, FitsNodeHead, FitsTreeHeader, ReadsBack, HeaderReadsBack, header_head, leaf_head, header_items}
use Rattle.btree_node.specs.declared.codec.TreeHeader.{TreeHeader}
use Rattle.btree_node.proofs.Printing.{node_over_is, header_items_room}
use Rattle.btree_node.proofs.ReadingBack.{reads_back, header_reads_back}
use Rattle.hfs_model.specs.Fresh.{empty_tree, catalog_tree}
use Rattle.volume_make.specs.declared.layout.Layout.{Layout}
use Rattle.volume_make.specs.Refusal.{is_name}
use Rattle.volume_make.specs.Texts.{header_node, catalog_text, leaf_text, leaf_items}
use Rattle.volume_make.specs.Laws.{NodesReadBack}
use Rattle.volume_make.proofs.Leaves.{leaf_room}

blank : length {A = ℕ} (replicate 4096 0) ≡ 4096
blank = length-replicate {A = ℕ} 4096 0

pub made_header : (tree : TreeHeader) (used : ℕ) → tree.node_size ≡ 4096 → IsHeaderOf tree (is_marked used nowhere) (header_node tree used)
unfolding header_node
made_header tree used size =
    node_over_is tree.node_size header_head (header_items tree (is_marked used nowhere)) (replicate 4096 0) (blank ∙ sym size) (header_items_room tree (is_marked used nowhere) (omega arith))

header_read : (tree : TreeHeader) (used : ℕ) → tree.node_size ≡ 4096 → FitsTreeHeader tree → HeaderReadsBack (header_node tree used) tree (is_marked used nowhere)
header_read tree used size fits = header_reads_back tree (is_marked used nowhere) (header_node tree used) (omega arith) (omega arith) fits (made_header tree used size)

empty_fits : (block key attributes : ℕ) → key < 65536 → attributes < 65536 → FitsTreeHeader (empty_tree block key attributes)
empty_fits block key attributes small few = record {
  depth = omega arith;
  root = omega arith;
  leaf_records = omega arith;
  first_leaf = omega arith;
  last_leaf = omega arith;
  max_key_length = small;
  total_nodes = omega arith;
  free_nodes = omega arith;
  attributes = omega arith;
}

catalog_fits : (block : ℕ) → FitsTreeHeader (catalog_tree block 0)
catalog_fits block = record {
  depth = omega arith;
  root = omega arith;
  leaf_records = omega arith;
  first_leaf = omega arith;
  last_leaf = omega arith;
  max_key_length = omega arith;
  total_nodes = omega arith;
  free_nodes = omega arith;
  attributes = omega arith;
}

pub made_leaf : (layout : Layout) (name : List ℕ) → IsTrue (is_name name) → IsPacked 4096 (leaf_text layout name) leaf_head (leaf_items layout name)
made_leaf layout name named = node_over_is 4096 leaf_head (leaf_items layout name) (replicate 4096 0) blank (leaf_room layout name named)

plain : FitsNodeHead leaf_head
plain = record { next = omega arith; previous = omega arith }

pub nodes_read_back : (layout : Layout) (name : List ℕ) → IsTrue (is_name name) → NodesReadBack layout name
unfolding catalog_text
nodes_read_back layout name named =
    let tree : TreeHeader = catalog_tree layout.block 0 in
    let head : List ℕ = header_node tree 2 in
    let leaf : List ℕ = leaf_text layout name in
    let long : length head ≡ 4096 = (made_header tree 2 refl).long in
    let front : take 4096 (head ++ leaf) ≡ head = take_at head leaf 4096 long in
    let back : drop 4096 (head ++ leaf) ≡ leaf = drop_at head leaf 4096 long in
    record {
      extents = header_read (empty_tree layout.block 10 2) 1 refl (empty_fits layout.block 10 2 (omega arith) (omega arith));
      attributes = header_read (empty_tree layout.block 266 6) 1 refl (empty_fits layout.block 266 6 (omega arith) (omega arith));
      catalog = subst (λ (b : List ℕ). HeaderReadsBack b tree (is_marked 2 nowhere)) (sym front) (header_read tree 2 refl (catalog_fits layout.block));
      leaf =
          subst (λ (b : List ℕ). ReadsBack b leaf_head (leaf_items layout name)) (sym back)
          (reads_back 4096 leaf leaf_head (leaf_items layout name) (omega arith) plain (made_leaf layout name named));
    }
