-- The three trees of a volume that was just made, in its content.
use Rattle.std.proofs.Common.{◌≡◌, ℕ, ◌+◌, ◌*◌, ◌/◌, ◌<◌, ◌≤◌, ◌==◌, Bool, true, false, not, List, [], ◌∷◌, ◌++◌, length, map, drop, if◌then◌else◌, IsTrue, refl, sym, ◌∙◌, ap, subst, arith, add-mul, mul-le-mul_right, zero-mul}
use Rattle.std.specs.List.{range_with_len, flat_map}
use Rattle.std.proofs.lemmas.Bool.{ne_eqb}
use Rattle.std.proofs.lemmas.List.{append-nil, length-append, length-drop, take_all}
use Rattle.hx_bytes.specs.declared.extents.Extent.{Extent}
use Rattle.hx_bytes.specs.declared.extents.ForkRecord.{ForkRecord}
use Rattle.volume_header.specs.declared.header.VolumeHeader.{VolumeHeader}
use Rattle.fork_map.specs.Blocks.{blocks_of, sectors_of}
use Rattle.btree_file.proofs.Sectors.{one_range}
use Rattle.flag_rows.specs.Bitmap.{is_marked, nowhere}
use Rattle.btree_node.specs.Levels.{Nodes, leaves}
use Rattle.btree_node.specs.Codec.{HeaderReadsBack, ReadsBack, leaf_head}
use Rattle.btree_node.specs.TreeFile.{TreeFile, TreeHead}
use Rattle.jnl_format.specs.Recovery.{Content, header_of_volume}
use Rattle.volume_header.specs.Header.{header_of}
use Rattle.hfs_model.specs.Fresh.{one_run, empty_tree, catalog_tree}
use Rattle.hfs_volume.specs.Records.{Overflow, overflow_of}
use Rattle.hfs_model.specs.Sorted.{kept}
use Rattle.hfs_volume.specs.Forks.{extents_of, in_use, overflow_in, is_of, extents_id, catalog_id, attributes_id, data_kind, per_block_of}
use Rattle.hfs_volume.specs.Content.{block_limit, sectors_in, tree_of_fork, extents_file, overflow_of_content, catalog_file, attributes_file}
use Rattle.volume_make.specs.declared.layout.Layout.{Layout}
use Rattle.volume_make.specs.Layout.{CanBe, IsFitting, layout_of, first_of, count_of}
use Rattle.volume_make.specs.Refusal.{is_name}
use Rattle.volume_make.specs.Texts.{special_fork, fresh_header, extents_text, attributes_text, catalog_text, leaf_text, leaf_items, header_node}
use Rattle.volume_make.specs.Laws.{NodesReadBack}
use Rattle.volume_make.specs.Written.{IsFormatted}
use Rattle.volume_make.proofs.Fields.{header_back}
use Rattle.volume_make.proofs.Sizes.{fitting, layout_block}
use Rattle.volume_make.proofs.NodesBack.{made_header, made_leaf, nodes_read_back}
use Rattle.fresh_volume.specs.Fresh.{IsFreshTree, HasFreshTrees}
use Rattle.fresh_volume.proofs.Forks.{fresh_tree, second_node}

-- the fork of a special file that has blocks is one run
pub run_extents : (overflow : List Overflow) (id block : ℕ) (part : Extent) → overflow ≡ [] → (part.count == 0) ≡ false → extents_of overflow id data_kind (special_fork block part) ≡ record { start = part.start; count = part.count } ∷ []
unfolding extents_of
run_extents overflow id block part none some =
    let run : Extent = record { start = part.start; count = part.count } in
    let kept_one : in_use (one_run part.start part.count).extents ≡ run ∷ [] = ap (λ (b : Bool). (if not b then run ∷ [] else []) ++ []) some in
    let rest : flat_map (λ more. in_use more.extents) (overflow_in overflow id data_kind) ≡ [] =
    ap (λ (l : List Overflow). flat_map (λ more. in_use more.extents) (overflow_in l id data_kind)) none ∙ none_in (id == extents_id) id in
    ap (λ (l : List Extent). l ++ flat_map (λ more. in_use more.extents) (overflow_in overflow id data_kind)) kept_one ∙ ap (λ (l : List Extent). (run ∷ []) ++ l) rest
  where
    none_in : (b : Bool) (id : ℕ) → flat_map (λ (more : Overflow). in_use more.extents) (if b then [] else kept (is_of id data_kind) []) ≡ []
    none_in true id = refl
    none_in false id = refl

-- its sectors, where it has so many
pub run_sectors : (layout : Layout) (part : Extent) → sectors_of (layout.block / 512) (blocks_of (record { start = part.start; count = part.count } ∷ [])) ≡ range_with_len (first_of layout part) (count_of layout part)
run_sectors layout part = one_range (layout.block / 512) (record { start = part.start; count = part.count }) [] ∙ append-nil (range_with_len (first_of layout part) (count_of layout part))

pub has_blocks : (layout : Layout) (part : Extent) (n : ℕ) → count_of layout part ≡ n → 0 < n → (part.count == 0) ≡ false
has_blocks layout part n is some = ne_eqb part.count 0 (λ none. let nothing : count_of layout part ≡ 0 = ap (λ (k : ℕ). k * (layout.block / 512)) none ∙ zero-mul (layout.block / 512) in omega arith)

-- the parts end inside the volume's blocks
pub last_end : (layout : Layout) → IsFitting layout → first_of layout layout.catalog + count_of layout layout.catalog ≤ layout.total * (layout.block / 512)
last_end layout fit =
    let per : ℕ = layout.block / 512 in
    let sum : (layout.catalog.start + layout.catalog.count) * per ≡ layout.catalog.start * per + layout.catalog.count * per = add-mul layout.catalog.start layout.catalog.count per in
    let low : layout.catalog.start + layout.catalog.count ≤ layout.total = omega (arith, fit.free) in
    let scaled = mul-le-mul_right per low in
    omega (arith, sum, scaled)

-- a tree of depth 0 has no pairs
pub no_pairs : (nodes : Nodes) (root depth : ℕ) → depth ≡ 0 → leaves nodes root depth ≡ []
no_pairs nodes root depth none = ap (leaves nodes root) none

module _ (sectors block journal : ℕ) (name : List ℕ) (old new : Content) (can : CanBe sectors block journal) (named : IsTrue (is_name name)) (made : IsFormatted (layout_of sectors block journal) name old new) where
  abbrev layout : Layout
  layout = layout_of sectors block journal

  fit : IsFitting layout
  fit = fitting sectors block journal can

  back : NodesReadBack layout name
  back = nodes_read_back layout name named

  pub head_is : header_of_volume new ≡ fresh_header layout
  head_is = ap header_of made.header ∙ header_back sectors block journal can

  pub limit_is : block_limit new ≡ layout.total * (layout.block / 512)
  limit_is = ap (λ (h : VolumeHeader). h.total_blocks * per_block_of h) head_is

  -- a tree in the fork of one part
  part_tree : (part : Extent) (overflow : List Overflow) (id : ℕ) (fork_of : VolumeHeader → ForkRecord) → fork_of (fresh_header layout) ≡ special_fork layout.block part → overflow ≡ [] → (part.count == 0) ≡ false
      → tree_of_fork new (block_limit new) (sectors_in new (extents_of overflow id data_kind (fork_of (header_of_volume new))))
      ≡ tree_of_fork new (layout.total * (layout.block / 512)) (range_with_len (first_of layout part) (count_of layout part))
  part_tree part overflow id fork_of fork_is none some =
      let run : Extent = record { start = part.start; count = part.count } in
      let extents : extents_of overflow id data_kind (fork_of (header_of_volume new)) ≡ run ∷ [] =
      ap (extents_of overflow id data_kind) (ap fork_of head_is ∙ fork_is) ∙ run_extents overflow id layout.block part none some in
      let per : per_block_of (header_of_volume new) ≡ layout.block / 512 = ap per_block_of head_is in
      let list : sectors_in new (extents_of overflow id data_kind (fork_of (header_of_volume new))) ≡ range_with_len (first_of layout part) (count_of layout part) =
      ap (λ (es : List Extent). sectors_of (per_block_of (header_of_volume new)) (blocks_of es)) extents ∙ ap (λ (p : ℕ). sectors_of p (blocks_of (run ∷ []))) per ∙ run_sectors layout part in
      ap (λ (l : ℕ). tree_of_fork new l (sectors_in new (extents_of overflow id data_kind (fork_of (header_of_volume new))))) limit_is
      ∙ ap (tree_of_fork new (layout.total * (layout.block / 512))) list

  overflow_tree : IsFreshTree (empty_tree block 10 2) 1 (extents_file new)
  unfolding extents_file
  overflow_tree =
      let part : Extent = layout.extents in
      let long : length (extents_text layout) ≡ 4096 = (made_header (empty_tree layout.block 10 2) 1 refl).long in
      let end = last_end layout fit in
      let tree = fresh_tree new (layout.total * (layout.block / 512)) (first_of layout part) (count_of layout part) (extents_text layout) 1 (omega (arith, long)) (omega (arith, end, fit.attributes, fit.catalog)) made.extents
      16 (empty_tree layout.block 10 2) (omega (arith, fit.extents_room)) (omega arith) (omega arith) refl
      (subst (λ (b : List ℕ). HeaderReadsBack b (empty_tree layout.block 10 2) (is_marked 1 nowhere)) (sym (take_all 4096 (extents_text layout) (omega (arith, long)))) back.extents) in
      subst (λ (b : ℕ). IsFreshTree (empty_tree b 10 2) 1 (extents_file new)) (layout_block sectors block journal)
      (subst (λ (file : TreeFile). IsFreshTree (empty_tree layout.block 10 2) 1 file) (sym (part_tree part [] extents_id (λ h. h.extents_fork) refl refl (has_blocks layout part 128 fit.extents_room (omega arith)))) tree)

  pub no_overflow : overflow_of_content new ≡ []
  unfolding overflow_of_content
  no_overflow =
      ap (map overflow_of) (no_pairs (extents_file new).nodes (extents_file new).head.root (extents_file new).head.depth (ap (λ (h : TreeHead). h.depth) overflow_tree.head))

  attribute_tree : IsFreshTree (empty_tree block 266 6) 1 (attributes_file new)
  unfolding attributes_file
  attribute_tree =
      let part : Extent = layout.attributes in
      let long : length (attributes_text layout) ≡ 4096 = (made_header (empty_tree layout.block 266 6) 1 refl).long in
      let end = last_end layout fit in
      let tree = fresh_tree new (layout.total * (layout.block / 512)) (first_of layout part) (count_of layout part) (attributes_text layout) 1 (omega (arith, long)) (omega (arith, end, fit.catalog)) made.attributes
      16 (empty_tree layout.block 266 6) (omega (arith, fit.attributes_room)) (omega arith) (omega arith) refl
      (subst (λ (b : List ℕ). HeaderReadsBack b (empty_tree layout.block 266 6) (is_marked 1 nowhere)) (sym (take_all 4096 (attributes_text layout) (omega (arith, long)))) back.attributes) in
      subst (λ (b : ℕ). IsFreshTree (empty_tree b 266 6) 1 (attributes_file new)) (layout_block sectors block journal)
      (subst (λ (file : TreeFile). IsFreshTree (empty_tree layout.block 266 6) 1 file)
      (sym (part_tree part (overflow_of_content new) attributes_id (λ h. h.attributes_fork) refl no_overflow (has_blocks layout part 128 fit.attributes_room (omega arith)))) tree)

  catalog_long : length (catalog_text layout name) ≡ 2 * 4096
  unfolding catalog_text
  catalog_long =
      omega (arith, (made_header (catalog_tree layout.block 0) 2 refl).long, (made_leaf layout name named).long, length-append (header_node (catalog_tree layout.block 0) 2) (leaf_text layout name))

  catalog_is : catalog_file new ≡ tree_of_fork new (layout.total * (layout.block / 512)) (range_with_len (first_of layout layout.catalog) (count_of layout layout.catalog))
  unfolding catalog_file
  catalog_is = part_tree layout.catalog (overflow_of_content new) catalog_id (λ h. h.catalog_fork) refl no_overflow (has_blocks layout layout.catalog 512 fit.catalog_room (omega arith))

  entry_tree : IsFreshTree (catalog_tree block 0) 2 (catalog_file new)
  entry_tree =
      let part : Extent = layout.catalog in
      let end = last_end layout fit in
      let tree = fresh_tree new (layout.total * (layout.block / 512)) (first_of layout part) (count_of layout part) (catalog_text layout name) 2 catalog_long end made.catalog
      64 (catalog_tree layout.block 0) (omega (arith, fit.catalog_room)) (omega arith) (omega arith) refl back.catalog in
      subst (λ (b : ℕ). IsFreshTree (catalog_tree b 0) 2 (catalog_file new)) (layout_block sectors block journal)
      (subst (λ (file : TreeFile). IsFreshTree (catalog_tree layout.block 0) 2 file) (sym catalog_is) tree)

  node_is : (catalog_file new).nodes 1 ≡ drop 4096 (catalog_text layout name)
  node_is =
      let part : Extent = layout.catalog in
      let end = last_end layout fit in
      ap (λ (file : TreeFile). file.nodes 1) catalog_is
      ∙ second_node new (layout.total * (layout.block / 512)) (first_of layout part) (count_of layout part) (catalog_text layout name) 2 catalog_long end made.catalog
      (catalog_tree layout.block 0) (omega (arith, fit.catalog_room)) refl refl back.catalog

  leaf_is : ReadsBack ((catalog_file new).nodes 1) leaf_head (leaf_items layout name)
  leaf_is = subst (λ (b : List ℕ). ReadsBack b leaf_head (leaf_items layout name)) (sym node_is) back.leaf

  leaf_long : length ((catalog_file new).nodes 1) ≡ 4096
  leaf_long = ap length node_is ∙ omega (arith, catalog_long, length-drop 4096 (catalog_text layout name))

  pub has_fresh_trees : HasFreshTrees sectors block journal name new
  has_fresh_trees = record { extents = overflow_tree; attributes = attribute_tree; catalog = entry_tree; leaf = leaf_is; leaf_size = leaf_long }
