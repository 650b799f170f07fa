-- The special files of a content that can be served, and the tree files that stand over them.
use Rattle.std.proofs.Common.{◌≡◌, ◌⊎◌, ◌<◌, ◌≤◌, ℕ, zero, suc, ◌+◌, ◌*◌, ◌/◌, ◌++◌, Bool, true, List, [], ◌∷◌, length, map, get_or, refl, sym, ◌∙◌, ap, subst, arith, inl, inr, ⊎_elim, length-append}
use Rattle.std.specs.Prelude.{Contains, All, IsTrue, Result, Ok, Err, IfOk}
use Rattle.std.specs.List.{list_all, flat_map, range_with_len}
use Rattle.std.specs.declared.cmp.Ordering.{Ordering}
use Rattle.std.proofs.Math.Nat.{mul_left_comm}
use Rattle.std.proofs.lemmas.List.FromFn.{length-range_with_len}
use Rattle.std.proofs.lemmas.List.Elements.{Contains-append_left, Contains-append_right}
use Rattle.hx_bytes.specs.declared.extents.Extent.{Extent}
use Rattle.hx_bytes.specs.declared.extents.ForkRecord.{ForkRecord}
use Rattle.sector_disk.specs.Lists.{Content, sector}
use Rattle.sector_disk.specs.Space.{Space}
use Rattle.jnl_format.specs.Recovery.{header_of_volume}
use Rattle.volume_header.specs.declared.header.VolumeHeader.{VolumeHeader}
use Rattle.fork_map.specs.Blocks.{blocks_of, sectors_of, fork_sectors}
use Rattle.alloc_bitmap.specs.Apart.{times}
use Rattle.alloc_bitmap.proofs.ApartLaws.{times-append}
use Rattle.btree_node.specs.Keys.{IsCatalogKey, IsExtentKey, IsAttrKey, catalog_cmp, extent_cmp, attr_cmp, is_eight_extents, anything}
use Rattle.btree_node.specs.Node.{IsNodeSize}
use Rattle.btree_node.specs.Tree.{pairs_of}
use Rattle.btree_node.specs.TreeFile.{TreeHead, TreeForm, TreeFile, tree_head, IsTreeFile, store_of, extents_form, catalog_form, attributes_form}
use Rattle.btree_file.specs.Held.{HoldsNodes, file_in}
use Rattle.btree_file.specs.Place.{AreApart}
use Rattle.btree_file.specs.Standing.{HoldsTree, Stands, LiesInside, pairs_in}
use Rattle.btree_file.specs.State.{sectors_of_tree}
use Rattle.btree_file.specs.declared.tree.TreeFile.{TreeFile as File}
use Rattle.btree_file.proofs.StandingLaws.{head_is}
use Rattle.hfs_volume.specs.Entries.{AreSpelled}
use Rattle.hfs_volume.specs.Blocks.{GoesOn, HasSizes, HasTreeSize, forks_of}
use Rattle.hfs_volume.specs.Content.{volume_of, overflow_of_content, overflow_in_volume, extents_file, catalog_file, attributes_file, tree_of_fork, block_limit, sectors_in, facts_of, has_attributes}
use Rattle.std.proofs.lemmas.List.{append-nil}
use Rattle.hx_bytes.specs.declared.faults.Trouble.{Trouble}
use Rattle.volume_base.specs.declared.volume.Tree.{Tree}
use Rattle.volume_base.proofs.Seeing.{if_so}
use Rattle.hfs_volume.specs.Forks.{in_use, Owned, per_block_of, extents_of, special_forks, data_kind, extents_id, catalog_id, allocation_id, attributes_id, blocks_owned}
use Rattle.hfs_volume.specs.Records.{Overflow, overflow_of}
use Rattle.hfs_volume.specs.Sound.{IsSound}
use Rattle.hfs_volume.proofs.Members.{each_of, first_or_later}
use Rattle.volume_base.specs.Lists.{facts_on}
use Rattle.volume_base.proofs.Facts.{facts_stand}
use Rattle.volume_base.specs.Opening.{IsServable, IsFileOf, ends_inside}
use Rattle.volume_base.proofs.Bridging.{file_bridged, nodes_bridged, pairs_bridged, facts_bridged, head_bridged, whole_size}
use Rattle.volume_base.proofs.Placing.{once_apart, times_sectors}
use Rattle.volume_base.proofs.SoundForks.{special_blocks, geometry_of, overflow_is, special_is_fork, special_ends, special_limit, sectors_inside, counted}

-- how many sectors some blocks have
pub length_sectors : (per : ℕ) (blocks : List ℕ) → length (sectors_of per blocks) ≡ length blocks * per
length_sectors per [] = omega arith
length_sectors per (block ∷ blocks) =
    let next : suc (length blocks) * per ≡ length blocks * per + per = omega arith in
    omega (arith, length-append (range_with_len (block * per) per) (sectors_of per blocks), length-range_with_len (block * per) per, length_sectors per blocks, next)

-- an item of one of the pieces stands in all of them at least as often
part_times : {X : Type 0} (f : X → List ℕ) (xs : List X) (x : X) (b : ℕ) → Contains xs x → times b (f x) ≤ times b (flat_map f xs)
part_times f [] x b none = absurd (omega (arith, none.1))
part_times f (y ∷ ys) x b stands = elim (first_or_later y x ys stands) [
  | inl is ↦ omega (arith, times-append b (f y) (flat_map f ys), ap (λ z. times b (f z)) is)
  | inr later ↦ omega (arith, times-append b (f y) (flat_map f ys), part_times f ys x b later)
]

-- nodes that fill blocks fill their sectors
nodes_fill : (total size blocks block per : ℕ) → size / 512 * 512 ≡ size → block ≡ 512 * per → total * size ≡ blocks * block → total * (size / 512) ≡ blocks * per
nodes_fill total size blocks block per whole sectors same =
    let one : total * size ≡ 512 * (total * (size / 512)) = ap (λ s. total * s) (sym whole) ∙ ap (λ s. total * s) (omega arith) ∙ mul_left_comm total 512 (size / 512) in
    let two : blocks * block ≡ 512 * (blocks * per) = ap (λ b. blocks * b) sectors ∙ mul_left_comm blocks 512 per in
    omega (arith, one, two, same)

module _ (content : Content) (good : IsServable content) where
  abbrev per : ℕ
  per = per_block_of (header_of_volume content)

  abbrev sectors_by : ℕ → ForkRecord → List ℕ
  sectors_by id fork = sectors_in content (extents_of (overflow_of_content content) id data_kind fork)

  abbrev IsSpecial : ℕ → ForkRecord → Type 0
  IsSpecial id fork = Contains (special_forks (header_of_volume content)) (record { id = id; kind = data_kind; fork = fork })

  module _ (id : ℕ) (fork : ForkRecord) (special : IsSpecial id fork) where
    -- its sectors lie in blocks of the content, which are whole
    pub each_sector : (at : ℕ) → Contains (sectors_by id fork) at → (at < block_limit content) × (length (sector content at) ≡ 512)
    each_sector at has =
        let geometry = geometry_of content good.sound in (
          sectors_inside per (block_limit content) (extents_of (overflow_of_content content) id data_kind fork) geometry.some (special_limit content good.sound id fork special) at has,
          good.whole at (sectors_inside per (length content) (extents_of (overflow_of_content content) id data_kind fork) geometry.some (special_ends content good.sound id fork special) at has),
        )

    -- no sector of it stands there twice
    pub special_apart : AreApart (sectors_by id fork)
    special_apart = once_apart (sectors_by id fork) (λ at. omega (
      arith,
      times_sectors per (blocks_of (extents_of (overflow_of_content content) id data_kind fork)) at (geometry_of content good.sound).some,
      part_times (blocks_owned (overflow_of_content content)) (special_forks (header_of_volume content)) (record { id = id; kind = data_kind; fork = fork }) (at / per) special,
      counted content good.sound (at / per),
    ))

    pub special_goes_on : GoesOn (overflow_of_content content) (record { id = id; kind = data_kind; fork = fork })
    special_goes_on = subst (λ (o : List Overflow). GoesOn o (record { id = id; kind = data_kind; fork = fork })) (overflow_is content good.sound)
        (each_of (GoesOn (overflow_in_volume (volume_of content))) (forks_of (volume_of content)) good.sound.volume.blocks.forks.goes_on (record { id = id; kind = data_kind; fork = fork }) (special_is_fork content good.sound (record { id = id; kind = data_kind; fork = fork }) special))

    module _ (form : TreeForm) (is_key is_value : List ℕ → Type 0) (cmp : List ℕ → List ℕ → Ordering) (tree : IsTreeFile form is_key is_value cmp (tree_of_fork content (block_limit content) (sectors_by id fork)))
        (size : HasTreeSize (header_of_volume content) fork (facts_of (tree_of_fork content (block_limit content) (sectors_by id fork))))
      where
        total_fills : (tree_of_fork content (block_limit content) (sectors_by id fork)).head.total * ((tree_of_fork content (block_limit content) (sectors_by id fork)).head.node_size / 512) ≡ length (sectors_by id fork)
        total_fills =
            let file = tree_of_fork content (block_limit content) (sectors_by id fork) in
            let blocks : length (blocks_of (extents_of (overflow_of_content content) id data_kind fork)) ≡ fork.total_blocks =
            subst (λ (o : List Overflow). length (blocks_of (extents_of o id data_kind fork)) ≡ fork.total_blocks) (overflow_is content good.sound) (special_blocks content good.sound id fork special) in
            nodes_fill (tree_of_fork content (block_limit content) (sectors_by id fork)).head.total (tree_of_fork content (block_limit content) (sectors_by id fork)).head.node_size fork.total_blocks (header_of_volume content).block_size per
            (whole_size (tree_of_fork content (block_limit content) (sectors_by id fork)).head.node_size tree.has_form.size) (geometry_of content good.sound).whole (sym size.nodes ∙ size.blocks)
            ∙ ap (λ n. n * per) (sym blocks) ∙ sym (length_sectors per (blocks_of (extents_of (overflow_of_content content) id data_kind fork)))

        -- what the rules say of the special file is so of the file of a tree there
        pub special_nodes : HoldsNodes (sectors_by id fork) (file_in (sectors_by id fork) content)
        special_nodes = nodes_bridged content (block_limit content) (sectors_by id fork) each_sector form is_key is_value cmp tree total_fills

        pub special_file : IsTreeFile form is_key is_value cmp (file_in (sectors_by id fork) content)
        special_file = file_bridged content (block_limit content) (sectors_by id fork) each_sector form is_key is_value cmp tree total_fills

        pub special_pairs : pairs_in (sectors_by id fork) content ≡ pairs_of (store_of (tree_of_fork content (block_limit content) (sectors_by id fork)))
        special_pairs = pairs_bridged content (block_limit content) (sectors_by id fork) each_sector form is_key is_value cmp tree total_fills

        pub special_facts : facts_of (file_in (sectors_by id fork) content) ≡ facts_of (tree_of_fork content (block_limit content) (sectors_by id fork))
        special_facts = facts_bridged content (block_limit content) (sectors_by id fork) each_sector form is_key is_value cmp tree total_fills

        pub special_head : (file_in (sectors_by id fork) content).head ≡ (tree_of_fork content (block_limit content) (sectors_by id fork)).head
        special_head = head_bridged content (block_limit content) (sectors_by id fork) each_sector form is_key is_value cmp tree total_fills

  -- ---- a tree file that stands over a special file

  pub sectors_are : (id : ℕ) (fork : ForkRecord) (tree : File) → IsFileOf id fork tree content → sectors_of_tree tree ≡ sectors_by id fork
  sectors_are id fork tree is = ap (λ (f : List Extent). fork_sectors f tree.per_block) is.extents ∙ ap (λ n. fork_sectors (extents_of (overflow_of_content content) id data_kind fork) n) is.per_block

  -- ---- the extents overflow file

  abbrev extents_fork : ForkRecord
  extents_fork = (header_of_volume content).extents_fork

  extents_special : IsSpecial extents_id (header_of_volume content).extents_fork
  extents_special = (0, omega arith, refl)

  extents_there : extents_file content ≡ tree_of_fork content (block_limit content) (sectors_by extents_id (header_of_volume content).extents_fork)
  unfolding extents_file extents_of
  extents_there = refl

  extents_tree : IsTreeFile extents_form IsExtentKey is_eight_extents extent_cmp (tree_of_fork content (block_limit content) (sectors_by extents_id (header_of_volume content).extents_fork))
  extents_tree = subst (λ f. IsTreeFile extents_form IsExtentKey is_eight_extents extent_cmp f) extents_there good.sound.trees.extents

  extents_size : HasTreeSize (header_of_volume content) (header_of_volume content).extents_fork (facts_of (tree_of_fork content (block_limit content) (sectors_by extents_id (header_of_volume content).extents_fork)))
  unfolding volume_of
  extents_size = subst (λ f. HasTreeSize (header_of_volume content) (header_of_volume content).extents_fork (facts_of f)) extents_there good.sound.volume.blocks.files.extents

  pub extents_nodes : HoldsNodes (sectors_by extents_id (header_of_volume content).extents_fork) (file_in (sectors_by extents_id (header_of_volume content).extents_fork) content)
  extents_nodes = special_nodes extents_id (header_of_volume content).extents_fork extents_special extents_form IsExtentKey is_eight_extents extent_cmp extents_tree extents_size

  module _ (tree : File) (is : IsFileOf extents_id (header_of_volume content).extents_fork tree content) where
    pub extents_hold : HoldsTree extents_form IsExtentKey is_eight_extents extent_cmp tree content
    extents_hold = record {
      stands = is.stands;
      file = subst (λ (s : List ℕ). IsTreeFile extents_form IsExtentKey is_eight_extents extent_cmp (file_in s content)) (sym (sectors_are extents_id (header_of_volume content).extents_fork tree is))
          (special_file extents_id (header_of_volume content).extents_fork extents_special extents_form IsExtentKey is_eight_extents extent_cmp extents_tree extents_size);
    }

    pub extents_pairs : pairs_in (sectors_of_tree tree) content ≡ pairs_of (store_of (extents_file content))
    extents_pairs = ap (λ (s : List ℕ). pairs_in s content) (sectors_are extents_id (header_of_volume content).extents_fork tree is)
        ∙ special_pairs extents_id (header_of_volume content).extents_fork extents_special extents_form IsExtentKey is_eight_extents extent_cmp extents_tree extents_size
        ∙ ap (λ f. pairs_of (store_of f)) (sym extents_there)

    pub extents_facts : facts_on tree ≡ facts_of (extents_file content)
    extents_facts = facts_stand tree content is.stands ∙ ap (λ (s : List ℕ). facts_of (file_in s content)) (sectors_are extents_id (header_of_volume content).extents_fork tree is)
        ∙ special_facts extents_id (header_of_volume content).extents_fork extents_special extents_form IsExtentKey is_eight_extents extent_cmp extents_tree extents_size ∙ ap facts_of (sym extents_there)

    -- its overflow records are those of the content
    pub overflow_told : map overflow_of (pairs_in (sectors_of_tree tree) content) ≡ overflow_of_content content
    unfolding overflow_of_content
    overflow_told = ap (λ ps. map overflow_of ps) extents_pairs

  -- ---- the catalog

  catalog_special : IsSpecial catalog_id (header_of_volume content).catalog_fork
  catalog_special = (1, omega arith, refl)

  catalog_there : catalog_file content ≡ tree_of_fork content (block_limit content) (sectors_by catalog_id (header_of_volume content).catalog_fork)
  unfolding catalog_file
  catalog_there = refl

  catalog_tree : IsTreeFile catalog_form IsCatalogKey anything catalog_cmp (tree_of_fork content (block_limit content) (sectors_by catalog_id (header_of_volume content).catalog_fork))
  catalog_tree = subst (λ f. IsTreeFile catalog_form IsCatalogKey anything catalog_cmp f) catalog_there good.sound.trees.catalog

  catalog_size : HasTreeSize (header_of_volume content) (header_of_volume content).catalog_fork (facts_of (tree_of_fork content (block_limit content) (sectors_by catalog_id (header_of_volume content).catalog_fork)))
  unfolding volume_of
  catalog_size = subst (λ f. HasTreeSize (header_of_volume content) (header_of_volume content).catalog_fork (facts_of f)) catalog_there good.sound.volume.blocks.files.catalog

  pub catalog_nodes : HoldsNodes (sectors_by catalog_id (header_of_volume content).catalog_fork) (file_in (sectors_by catalog_id (header_of_volume content).catalog_fork) content)
  catalog_nodes = special_nodes catalog_id (header_of_volume content).catalog_fork catalog_special catalog_form IsCatalogKey anything catalog_cmp catalog_tree catalog_size

  module _ (tree : File) (is : IsFileOf catalog_id (header_of_volume content).catalog_fork tree content) where
    pub catalog_holds : HoldsTree catalog_form IsCatalogKey anything catalog_cmp tree content
    catalog_holds = record {
      stands = is.stands;
      file = subst (λ (s : List ℕ). IsTreeFile catalog_form IsCatalogKey anything catalog_cmp (file_in s content)) (sym (sectors_are catalog_id (header_of_volume content).catalog_fork tree is))
          (special_file catalog_id (header_of_volume content).catalog_fork catalog_special catalog_form IsCatalogKey anything catalog_cmp catalog_tree catalog_size);
    }

    pub catalog_pairs_are : pairs_in (sectors_of_tree tree) content ≡ pairs_of (store_of (catalog_file content))
    catalog_pairs_are = ap (λ (s : List ℕ). pairs_in s content) (sectors_are catalog_id (header_of_volume content).catalog_fork tree is)
        ∙ special_pairs catalog_id (header_of_volume content).catalog_fork catalog_special catalog_form IsCatalogKey anything catalog_cmp catalog_tree catalog_size
        ∙ ap (λ f. pairs_of (store_of f)) (sym catalog_there)

    pub catalog_facts : facts_on tree ≡ facts_of (catalog_file content)
    catalog_facts = facts_stand tree content is.stands ∙ ap (λ (s : List ℕ). facts_of (file_in s content)) (sectors_are catalog_id (header_of_volume content).catalog_fork tree is)
        ∙ special_facts catalog_id (header_of_volume content).catalog_fork catalog_special catalog_form IsCatalogKey anything catalog_cmp catalog_tree catalog_size ∙ ap facts_of (sym catalog_there)

    pub catalog_spelled : AreSpelled (pairs_in (sectors_of_tree tree) content)
    unfolding volume_of
    catalog_spelled = subst AreSpelled (sym catalog_pairs_are) good.sound.volume.entries.threads.spelled

    pub catalog_compares : (tree_head tree.header).compare ≡ 0xBC
    catalog_compares =
        ap (λ (h : TreeHead). h.compare) (sym (head_is tree content is.stands))
        ∙ ap (λ (s : List ℕ). (file_in s content).head.compare) (sectors_are catalog_id (header_of_volume content).catalog_fork tree is)
        ∙ ap (λ (h : TreeHead). h.compare) (special_head catalog_id (header_of_volume content).catalog_fork catalog_special catalog_form IsCatalogKey anything catalog_cmp catalog_tree catalog_size)
        ∙ ap (λ (f : TreeFile). f.head.compare) (sym catalog_there) ∙ good.sound.trees.compare

  -- ---- the attributes file, where there is one

  module _ (has : IsTrue (has_attributes (header_of_volume content))) where
    attributes_special : IsSpecial attributes_id (header_of_volume content).attributes_fork
    attributes_special = (4, omega arith, refl)

    attributes_there : attributes_file content ≡ tree_of_fork content (block_limit content) (sectors_by attributes_id (header_of_volume content).attributes_fork)
    unfolding attributes_file
    attributes_there = refl

    attributes_tree : IsTreeFile attributes_form IsAttrKey anything attr_cmp (tree_of_fork content (block_limit content) (sectors_by attributes_id (header_of_volume content).attributes_fork))
    attributes_tree = subst (λ f. IsTreeFile attributes_form IsAttrKey anything attr_cmp f) attributes_there (good.sound.trees.attributes has)

    attributes_size : HasTreeSize (header_of_volume content) (header_of_volume content).attributes_fork (facts_of (tree_of_fork content (block_limit content) (sectors_by attributes_id (header_of_volume content).attributes_fork)))
    unfolding volume_of
    attributes_size = subst (λ f. HasTreeSize (header_of_volume content) (header_of_volume content).attributes_fork (facts_of f)) attributes_there (good.sound.volume.blocks.files.attributes has)

    pub attributes_nodes : HoldsNodes (sectors_by attributes_id (header_of_volume content).attributes_fork) (file_in (sectors_by attributes_id (header_of_volume content).attributes_fork) content)
    attributes_nodes = special_nodes attributes_id (header_of_volume content).attributes_fork attributes_special attributes_form IsAttrKey anything attr_cmp attributes_tree attributes_size

    module _ (tree : File) (is : IsFileOf attributes_id (header_of_volume content).attributes_fork tree content) where
      pub attributes_hold : HoldsTree attributes_form IsAttrKey anything attr_cmp tree content
      attributes_hold = record {
        stands = is.stands;
        file = subst (λ (s : List ℕ). IsTreeFile attributes_form IsAttrKey anything attr_cmp (file_in s content)) (sym (sectors_are attributes_id (header_of_volume content).attributes_fork tree is))
            (special_file attributes_id (header_of_volume content).attributes_fork attributes_special attributes_form IsAttrKey anything attr_cmp attributes_tree attributes_size);
      }

      pub attribute_pairs_are : pairs_in (sectors_of_tree tree) content ≡ pairs_of (store_of (attributes_file content))
      attribute_pairs_are = ap (λ (s : List ℕ). pairs_in s content) (sectors_are attributes_id (header_of_volume content).attributes_fork tree is)
          ∙ special_pairs attributes_id (header_of_volume content).attributes_fork attributes_special attributes_form IsAttrKey anything attr_cmp attributes_tree attributes_size
          ∙ ap (λ f. pairs_of (store_of f)) (sym attributes_there)

      pub attribute_facts : facts_on tree ≡ facts_of (attributes_file content)
      attribute_facts = facts_stand tree content is.stands ∙ ap (λ (s : List ℕ). facts_of (file_in s content)) (sectors_are attributes_id (header_of_volume content).attributes_fork tree is)
          ∙ special_facts attributes_id (header_of_volume content).attributes_fork attributes_special attributes_form IsAttrKey anything attr_cmp attributes_tree attributes_size ∙ ap facts_of (sym attributes_there)

  -- ---- what was read of the extents overflow file

  in_use_is : in_use (header_of_volume content).extents_fork.extents.extents ≡ extents_of (overflow_of_content content) extents_id data_kind (header_of_volume content).extents_fork
  unfolding extents_of
  in_use_is = sym (append-nil (in_use (header_of_volume content).extents_fork.extents.extents))

  -- a tree file that is attached to these extents stands over the special file
  pub opened_at : (id : ℕ) (fork : ForkRecord) → IsSpecial id fork → HoldsNodes (sectors_by id fork) (file_in (sectors_by id fork) content) → (extents : List Extent) (block sectors : ℕ) (result : Result Tree Trouble)
      → extents ≡ extents_of (overflow_of_content content) id data_kind fork → block ≡ (header_of_volume content).block_size → length content ≡ sectors
      → (list_all (ends_inside (block / 512) sectors) extents ≡ true → AreApart (fork_sectors extents (block / 512)) → HoldsNodes (fork_sectors extents (block / 512)) (file_in (fork_sectors extents (block / 512)) content)
      → IfOk result (λ tree. Stands tree.file content × (tree.file.fork ≡ extents) × (tree.file.per_block ≡ block / 512)))
      → IfOk result (λ tree. IsFileOf id fork tree.file content)
  opened_at id fork special nodes extents block sectors result extents_are block_is long attached =
      let per_is : block / 512 ≡ per_block_of (header_of_volume content) = ap (λ b. b / 512) block_is in
      let there : fork_sectors extents (block / 512) ≡ sectors_by id fork = (λ i. sectors_of (per_is i) (blocks_of (extents_are i))) in
      let ends : list_all (ends_inside (block / 512) sectors) extents ≡ true =
      (λ i. list_all (ends_inside (per_is i) (sym long i)) (extents_are i)) ∙ special_ends content good.sound id fork special in
      if_so (λ tree. Stands tree.file content × (tree.file.fork ≡ extents) × (tree.file.per_block ≡ block / 512)) (λ tree. IsFileOf id fork tree.file content) result
      (λ tree has. record { stands = has.0; extents = has.1 ∙ extents_are; per_block = has.2 ∙ per_is })
      (attached ends (subst (λ (s : List ℕ). AreApart s) (sym there) (special_apart id fork special)) (subst (λ (s : List ℕ). HoldsNodes s (file_in s content)) (sym there) nodes))

  pub extents_opened : (header : VolumeHeader) (extents : List Extent) (sectors : ℕ) (result : Result Tree Trouble) → header ≡ header_of_volume content → extents ≡ in_use header.extents_fork.extents.extents → length content ≡ sectors
      → (list_all (ends_inside (header.block_size / 512) sectors) extents ≡ true → AreApart (fork_sectors extents (header.block_size / 512)) → HoldsNodes (fork_sectors extents (header.block_size / 512)) (file_in (fork_sectors extents (header.block_size / 512)) content)
      → IfOk result (λ tree. Stands tree.file content × (tree.file.fork ≡ extents) × (tree.file.per_block ≡ header.block_size / 512)))
      → IfOk result (λ tree. IsFileOf extents_id header.extents_fork tree.file content)
  extents_opened header extents sectors result head_is extents_are long attached =
      subst (λ (f : ForkRecord). IfOk result (λ tree. IsFileOf extents_id f tree.file content)) (ap (λ (h : VolumeHeader). h.extents_fork) (sym head_is))
      (opened_at extents_id (header_of_volume content).extents_fork extents_special extents_nodes extents header.block_size sectors result
      (extents_are ∙ ap (λ (h : VolumeHeader). in_use h.extents_fork.extents.extents) head_is ∙ in_use_is) (ap (λ (h : VolumeHeader). h.block_size) head_is) long attached)
