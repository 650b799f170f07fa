-- A volume whose catalog goes on in a run of free blocks, with the overflow records of its fork, is settled again once its bitmap and its header are put, and stands for the same tree.
use Rattle.std.proofs.Common.{◌≡◌, ◌≢◌, ◌⊎◌, inl, inr, ◌<◌, ◌≤◌, ℕ, ◌*◌, List, [], ◌∷◌, ◌++◌, length, refl, sym, ◌∙◌, ap, subst, arith, ⊎_elim}
use Rattle.std.specs.Prelude.{Contains, IsTrue}
use Rattle.std.proofs.lemmas.List.Elements.{Contains-append_left, Contains-append_right}
use Rattle.hx_bytes.specs.declared.extents.Extent.{Extent}
use Rattle.jnl_format.specs.Recovery.{header_of_volume}
use Rattle.volume_header.specs.declared.header.VolumeHeader.{VolumeHeader}
use Rattle.fork_map.specs.Blocks.{blocks_of, fork_sectors, sectors_of}
use Rattle.alloc_bitmap.specs.Map.{BlockMap}
use Rattle.btree_node.specs.Keys.{IsExtentKey, extent_cmp, is_eight_extents}
use Rattle.btree_node.specs.Levels.{Pair}
use Rattle.btree_node.specs.TreeFile.{extents_form}
use Rattle.btree_file.specs.Frame.{FollowsOn, PutsWithin}
use Rattle.btree_file.specs.FrameLaws.{same_sectors}
use Rattle.btree_file.specs.Growth.{HasGrown, nodes_in, sectors_with}
use Rattle.btree_file.specs.Standing.{HoldsTree, pairs_in}
use Rattle.btree_file.specs.State.{sectors_of_tree}
use Rattle.btree_file.specs.declared.tree.TreeFile.{TreeFile}
use Rattle.sector_disk.specs.Lists.{sector}
use Rattle.sector_disk.specs.Space.{Space}
use Rattle.hfs_volume.specs.Changes.{HasSameNodes}
use Rattle.hfs_volume.specs.Content.{TreeFacts, VolumeState, attributes_file, attributes_of, block_limit, facts_of, overflow_in_volume, overflow_of_content, sectors_in, tree_of_fork, volume_of}
use Rattle.hfs_volume.specs.Forks.{allocation_id, attributes_id, catalog_id, data_kind, extents_id, extents_of, per_block_of}
use Rattle.hfs_volume.specs.Links.{private_id}
use Rattle.hfs_volume.specs.Records.{placed_in, Overflow}
use Rattle.hfs_volume.specs.Reclaim.{GrowsTree, GrowsTrees, SameValues, blocks_at}
use Rattle.hfs_volume.specs.Sound.{IsSoundVolume}
use Rattle.hfs_volume.specs.TreeOf.{bytes_in, tree_in, tree_of}
use Rattle.hfs_volume.specs.Values.{value_blocks}
use Rattle.hfs_volume.specs.Writing.{GrowthKeeps}
use Rattle.hx_bytes.specs.declared.extents.ForkRecord.{ForkRecord}
use Rattle.hfs_volume.proofs.Rereading.{same_tree}
use Rattle.overflow.proofs.Cutting.{AreUsed}
use Rattle.volume_space.specs.Growing.{HeadGrows, KeepsForks, TakesRun, lengthened, with_catalog}
use Rattle.volume_space.specs.SpreadGrowth.{StandsBut}
use Rattle.volume_base.specs.Lists.{bits_on, facts_on, lists_of}
use Rattle.volume_base.specs.Spreading.{StoresFork}
use Rattle.volume_base.specs.Mapping.{HoldsMap}
use Rattle.volume_base.specs.Standing.{IsSettled, IsStanding, map_sectors, with_attributes_tree}
use Rattle.volume_base.specs.declared.volume.Tree.{Tree}
use Rattle.volume_base.specs.declared.volume.Volume.{Volume}
use Rattle.volume_base.proofs.FilesKept.{allocation_sectors, attributes_apart, attributes_off_extents, attributes_off_map, attributes_sectors, catalog_sectors, extents_sectors}
use Rattle.volume_space.proofs.GrownBits.{bits_read}
use Rattle.volume_space.proofs.GrownRun.{same_length}
use Rattle.volume_space.proofs.GrownSettled.{same_fork}
use Rattle.volume_space.proofs.GrownStands.{elsewhere, sectors_now}
use Rattle.volume_space.proofs.SpreadCatalog.{lists_but, used_now}
use Rattle.volume_space.proofs.SpreadCatalogLists.{grows_counted, lists_grown}
use Rattle.volume_space.proofs.SpreadForks.{extents_alike}
use Rattle.volume_space.proofs.SpreadStands.{lists_whole, stored}
use Rattle.volume_space.proofs.SpreadTrees.{tree_kept}
use Rattle.volume_base.proofs.Resettling.{bits_at, lists_anew, settles}
use Rattle.volume_base.proofs.TreesSettled.{header_settled, tree_without}

module _ (v : Volume) (a b c : Space) (was : IsStanding v a) (settled : IsSettled v a.content) (count : ℕ) (run : Extent) (later : BlockMap) (takes : TakesRun count run v.map later) (some : 0 < run.count)
    (file : TreeFile) (grown : HasGrown run v.catalog.file file a.content b.content) (within : PutsWithin (sectors_with v.catalog.file run) a b) (tells : IsTrue a.tells)
    (more : ℕ) (counted : run.count ≤ v.header.free_blocks)
    (nodes : nodes_in run v.catalog.file.per_block v.catalog.file.shape.node_size ≡ more) (whole : run.count * v.header.block_size ≡ more * v.catalog.file.shape.node_size)
    (tree : Tree) (but : StandsBut catalog_id (lengthened run.count v later file) b) (follows : FollowsOn v.extents.file tree.file b c)
    (held : HoldsTree extents_form IsExtentKey is_eight_extents extent_cmp tree.file c.content) (stores : StoresFork catalog_id data_kind file.fork (pairs_in (sectors_of_tree v.extents.file) b.content) (pairs_in (sectors_of_tree v.extents.file) c.content))
    (law : GrowthKeeps) (d : Space) (stands : IsStanding (record (lengthened run.count v later file) { extents = tree }) d) (headed : header_of_volume d.content ≡ with_catalog run.count file.fork v.header) (holds : HoldsMap (record (lengthened run.count v later file) { extents = tree }) d.content)
    (lists : lists_of (record (lengthened run.count v later file) { extents = tree }) d.content ≡ lists_of (record (lengthened run.count v later file) { extents = tree }) c.content)
    (outside : (s : ℕ) → s ≢ 2 → (Contains (map_sectors (record (lengthened run.count v later file) { extents = tree })) s → ⊥) → sector d.content s ≡ sector c.content s)
  where
    abbrev w : Volume
    w = lengthened run.count v later file

    abbrev x : Volume
    x = record (lengthened run.count v later file) { extents = tree }

    told : IsTrue b.tells
    told = within.same.tells ∙ tells

    used : AreUsed file.fork
    used = used_now v a b was settled count run later takes some file grown within tells

    other_file : catalog_id ≢ extents_id
    other_file same = omega (arith, same)

    not_map : catalog_id ≢ allocation_id
    not_map same = omega (arith, same)

    abbrev pairs : List Pair
    pairs = (lists_of (record (lengthened run.count v later file) { extents = tree }) c.content).overflow_pairs

    -- ---- the overflow records, in the lists of the content

    pairs_were : (lists_of (lengthened run.count v later file) b.content).overflow_pairs ≡ (volume_of a.content).overflow_pairs
    pairs_were = ap (λ (l : VolumeState). l.overflow_pairs) (lists_but v a b was settled count run later takes some file grown within tells) ∙ ap (λ (l : VolumeState). l.overflow_pairs) (sym settled.lists)

    stored_in : StoresFork catalog_id data_kind file.fork (volume_of a.content).overflow_pairs (lists_of (record (lengthened run.count v later file) { extents = tree }) c.content).overflow_pairs
    stored_in = subst (λ (l : List Pair). StoresFork catalog_id data_kind file.fork l pairs) pairs_were (stored catalog_id w b c tree but told follows file.fork used other_file not_map held stores)

    same_nodes : HasSameNodes (volume_of a.content).extents_tree (facts_on tree.file)
    same_nodes = record {
      total = follows.file.total ∙ ap (λ (l : VolumeState). l.extents_tree.shape.total) (sym settled.lists);
      size = follows.file.node_size ∙ ap (λ (l : VolumeState). l.extents_tree.shape.node_size) (sym settled.lists);
    }

    abbrev grown_lists : VolumeState
    grown_lists = lists_grown v a b was settled count run later takes some file grown within tells more counted nodes whole pairs (facts_on tree.file) stored_in same_nodes

    abbrev fresh : List ℕ
    fresh = blocks_of (run ∷ [])

    by_law : IsSoundVolume (lists_grown v a b was settled count run later takes some file grown within tells more counted nodes whole pairs (facts_on tree.file) stored_in same_nodes)
        × (tree_in (lists_grown v a b was settled count run later takes some file grown within tells more counted nodes whole pairs (facts_on tree.file) stored_in same_nodes) (bytes_in a.content) ≡ tree_in (volume_of a.content) (bytes_in a.content))
        × GrowsTree catalog_id more (volume_of a.content) (lists_grown v a b was settled count run later takes some file grown within tells more counted nodes whole pairs (facts_on tree.file) stored_in same_nodes)
        × ((other kind : ℕ) → (other ≢ catalog_id) ⊎ (kind ≢ data_kind) → blocks_at (lists_grown v a b was settled count run later takes some file grown within tells more counted nodes whole pairs (facts_on tree.file) stored_in same_nodes) other kind ≡ blocks_at (volume_of a.content) other kind)
        × SameValues (volume_of a.content) (lists_grown v a b was settled count run later takes some file grown within tells more counted nodes whole pairs (facts_on tree.file) stored_in same_nodes)
    by_law = law catalog_id more (blocks_of (run ∷ [])) (volume_of a.content) grown_lists (bytes_in a.content) (inr (inl refl)) settled.sound
        (grows_counted v a b was settled count run later takes some file grown within tells more counted nodes whole pairs (facts_on tree.file) stored_in same_nodes)

    fits : length later.used ≤ 8 * v.header.allocation_fork.logical_size
    fits = omega (
      arith,
      same_length count run v.map later takes,
      settled.blocks,
      settled.sound.blocks.files.bits,
      ap (λ (l : VolumeState). l.head.total_blocks) settled.lists,
      ap (λ (l : VolumeState). l.head.allocation_fork.logical_size) settled.lists,
    )

    bits : bits_at d.content x ≡ bits_on x
    bits = bits_read x d stands headed fits holds

    -- what the volume keeps behind the puts
    lists_behind : lists_of (record (lengthened run.count v later file) { extents = tree }) d.content
        ≡ record (lists_of v a.content) { head = with_catalog run.count file.fork v.header; catalog_tree = facts_on file; bits = bits_on (lengthened run.count v later file); overflow_pairs = pairs; extents_tree = facts_on tree.file }
    lists_behind = lists ∙ lists_whole catalog_id w b c tree but told follows file.fork used other_file not_map held stores
        ∙ (λ i. record (lists_but v a b was settled count run later takes some file grown within tells i) { overflow_pairs = pairs; extents_tree = facts_on tree.file })

    lists_then : record (lists_of (record (lengthened run.count v later file) { extents = tree }) d.content) { attributes_tree = (volume_of a.content).attributes_tree } ≡ grown_lists
    lists_then = (λ i. record (lists_behind i) { attributes_tree = (volume_of a.content).attributes_tree })
        ∙ sym (λ i. record (settled.lists i) { head = with_catalog run.count file.fork (settled.lists i).head; catalog_tree = facts_on file; overflow_pairs = pairs; extents_tree = facts_on tree.file; bits = bits_on (lengthened run.count v later file) })

    pub settled_now : IsSettled (record (lengthened run.count v later file) { extents = tree }) d.content
    settled_now = settles x d stands headed bits (volume_of a.content).attributes_tree settled.attributes (subst IsSoundVolume (sym lists_then) by_law.0)
        (settled.private ∙ ap (λ (l : VolumeState). private_id (placed_in l.catalog_pairs)) (sym lists_then))

    -- the lists of the content are these, but for the numbers of the attributes' tree where there is none
    volume_now : volume_of d.content ≡ with_attributes_tree grown_lists (volume_of d.content)
    volume_now = lists_anew x d stands headed bits ∙ (λ i. with_attributes_tree (lists_then i) (volume_of d.content))

    -- ---- every other fork

    others_kept : (other kind : ℕ) → (other ≢ catalog_id) ⊎ (kind ≢ data_kind) → blocks_at (volume_of d.content) other kind ≡ blocks_at (volume_of a.content) other kind
    others_kept other kind differs = ap (λ (l : VolumeState). blocks_at l other kind) volume_now ∙ by_law.3 other kind differs

    pub forks_kept : KeepsForks catalog_id (volume_of a.content) (volume_of d.content)
    forks_kept = (others_kept, λ id name. ap (λ (l : VolumeState). value_blocks (attributes_of l) id name) volume_now ∙ by_law.4 id name)

    -- ---- the sectors that are as they were

    file_is : catalog_sectors grown_lists ≡ sectors_of_tree file
    file_is = sym ((λ i. sectors_of (stands.forks.catalog_per i) (blocks_of (stands.forks.catalog i))) ∙ ap (λ (l : VolumeState). catalog_sectors l) lists_then)

    map_is : allocation_sectors grown_lists ≡ map_sectors x
    map_is = sym ((λ i. sectors_of (stands.forks.map_per i) (blocks_of (stands.forks.map i))) ∙ ap (λ (l : VolumeState). allocation_sectors l) lists_then)

    extents_are : extents_sectors grown_lists ≡ sectors_of_tree v.extents.file
    extents_are = sym ((λ i. sectors_of (stands.forks.extents_per i) (blocks_of (stands.forks.extents i))) ∙ ap (λ (l : VolumeState). extents_sectors l) lists_then) ∙ same_sectors v.extents.file tree.file follows.file

    same_sector : (at : ℕ) → at ≢ 2 → (Contains (catalog_sectors grown_lists) at → ⊥) → (Contains (extents_sectors grown_lists) at → ⊥) → (Contains (allocation_sectors grown_lists) at → ⊥) → sector d.content at ≡ sector a.content at
    same_sector at differs none no_record nor =
        outside at differs (λ has. nor (subst (λ (l : List ℕ). Contains l at) (sym map_is) has))
        ∙ ⊎_elim (λ same. same) (λ has. absurd (no_record (subst (λ (l : List ℕ). Contains l at) (sym extents_are) has))) ((follows.space.content told).each at)
        ∙ elsewhere v a b was settled count run later takes some file grown within tells at
        (λ has. none (subst (λ (l : List ℕ). Contains l at) (sym (file_is ∙ sectors_now v a b was settled count run later takes some file grown within tells)) (left at has)))
        (λ has. none (subst (λ (l : List ℕ). Contains l at) (sym (file_is ∙ sectors_now v a b was settled count run later takes some file grown within tells)) (right at has)))
      where
        left : (n : ℕ) → Contains (sectors_of_tree v.catalog.file) n → Contains (sectors_of_tree v.catalog.file ++ fork_sectors (run ∷ []) v.catalog.file.per_block) n
        left n has = Contains-append_left (sectors_of_tree v.catalog.file) (fork_sectors (run ∷ []) v.catalog.file.per_block) n has

        right : (n : ℕ) → Contains (fork_sectors (run ∷ []) v.catalog.file.per_block) n → Contains (sectors_of_tree v.catalog.file ++ fork_sectors (run ∷ []) v.catalog.file.per_block) n
        right n has = Contains-append_right (sectors_of_tree v.catalog.file) (fork_sectors (run ∷ []) v.catalog.file.per_block) n has

    -- ---- its tree

    head_was : header_of_volume a.content ≡ v.header
    head_was = header_settled v a.content settled

    head_now : grown_lists.head ≡ with_catalog run.count file.fork v.header
    head_now = ap (λ (l : VolumeState). with_catalog run.count file.fork l.head) settled.lists

    pub tree_same : tree_of d.content ≡ tree_of a.content
    unfolding tree_of
    tree_same =
        ap (λ (l : VolumeState). tree_in l (bytes_in d.content)) volume_now
        ∙ tree_without grown_lists (volume_of d.content).attributes_tree (bytes_in d.content)
        ∙ tree_kept grown_lists by_law.0 catalog_id (omega arith) (λ two. absurd (omega (arith, two))) a.content d.content
        (record {
          total = ap (λ (h : VolumeHeader). h.total_blocks) head_was ∙ sym (ap (λ (h : VolumeHeader). h.total_blocks) head_now);
          block = ap (λ (h : VolumeHeader). h.block_size) head_was ∙ sym (ap (λ (h : VolumeHeader). h.block_size) head_now);
        })
        (record {
          overflow = ap (λ (l : VolumeState). l.overflow_pairs) volume_now;
          total = ap (λ (h : VolumeHeader). h.total_blocks) headed ∙ sym (ap (λ (h : VolumeHeader). h.total_blocks) head_now);
          block = ap (λ (h : VolumeHeader). h.block_size) headed ∙ sym (ap (λ (h : VolumeHeader). h.block_size) head_now);
        })
        stored_in.others
        (λ at differs in_catalog in_attributes in_extents in_map. same_sector at differs in_catalog in_extents in_map)
        ∙ by_law.1

    -- ---- the attributes' tree, whatever is in its place

    heads : header_of_volume d.content ≡ with_catalog run.count file.fork (header_of_volume a.content)
    heads = headed ∙ ap (λ h. with_catalog run.count file.fork h) (sym head_was)

    overflow_then : overflow_of_content d.content ≡ overflow_in_volume grown_lists
    unfolding volume_of overflow_of_content
    overflow_then = ap (λ (l : VolumeState). overflow_in_volume l) volume_now

    extents_then : (fork : ForkRecord) → extents_of (overflow_of_content d.content) attributes_id data_kind fork ≡ extents_of (overflow_of_content a.content) attributes_id data_kind fork
    unfolding volume_of overflow_of_content
    extents_then fork = ap (λ (o : List Overflow). extents_of o attributes_id data_kind fork) overflow_then
        ∙ extents_alike catalog_id data_kind (overflow_in_volume (volume_of a.content)) (overflow_in_volume grown_lists) stored_in.others attributes_id data_kind fork (λ same. absurd (omega (arith, same)))

    attribute_list_is : sectors_in a.content (extents_of (overflow_of_content a.content) attributes_id data_kind (header_of_volume a.content).attributes_fork) ≡ attributes_sectors grown_lists
    unfolding volume_of overflow_of_content
    attribute_list_is = λ i. sectors_of (per_block_of (header_of_volume a.content))
        (blocks_of (sym (extents_alike catalog_id data_kind (overflow_in_volume (volume_of a.content)) (overflow_in_volume grown_lists) stored_in.others attributes_id data_kind (header_of_volume a.content).attributes_fork (λ same. absurd (omega (arith, same)))) i))

    attributes_agree : (at : ℕ) → Contains (sectors_in a.content (extents_of (overflow_of_content a.content) attributes_id data_kind (header_of_volume a.content).attributes_fork)) at → sector d.content at ≡ sector a.content at
    attributes_agree at has =
        let here : Contains (attributes_sectors grown_lists) at = subst (λ (l : List ℕ). Contains l at) attribute_list_is has in
        let apart = attributes_apart grown_lists by_law.0 at here in
        same_sector at apart.0 apart.1 (λ other. attributes_off_extents grown_lists by_law.0 at here other) (λ other. attributes_off_map grown_lists by_law.0 at here other)

    attributes_file_is : attributes_file d.content ≡ attributes_file a.content
    unfolding attributes_file
    attributes_file_is =
        (λ i. tree_of_fork d.content ((heads i).total_blocks * per_block_of (heads i)) (sectors_of (per_block_of (heads i)) (blocks_of (extents_then (heads i).attributes_fork i))))
        ∙ same_tree a.content d.content (block_limit a.content) (sectors_in a.content (extents_of (overflow_of_content a.content) attributes_id data_kind (header_of_volume a.content).attributes_fork)) attributes_agree

    attributes_tree_same : (volume_of d.content).attributes_tree ≡ (volume_of a.content).attributes_tree
    unfolding volume_of
    attributes_tree_same = ap facts_of attributes_file_is

    -- ---- each tree has just these nodes more

    pub trees_grow : GrowsTrees (0 ∷ more ∷ 0 ∷ []) (volume_of a.content) (volume_of d.content)
    trees_grow = record {
      extents = record {
        nodes = omega (arith, ap (λ (l : VolumeState). l.extents_tree.shape.total) volume_now, same_nodes.total);
        blocks = same_fork (volume_of a.content).extents_tree.shape.node_size (volume_of a.content).head.block_size (blocks_at (volume_of a.content) extents_id data_kind) (blocks_at (volume_of d.content) extents_id data_kind)
            (others_kept extents_id data_kind (inl (λ same. absurd (omega (arith, same)))));
      };
      catalog = subst (λ (l : VolumeState). GrowsTree catalog_id more (volume_of a.content) l) (sym volume_now) (record { nodes = by_law.2.nodes; blocks = by_law.2.blocks });
      attributes = record {
        nodes = omega (arith, ap (λ (t : TreeFacts). t.shape.total) attributes_tree_same);
        blocks = same_fork (volume_of a.content).attributes_tree.shape.node_size (volume_of a.content).head.block_size (blocks_at (volume_of a.content) attributes_id data_kind) (blocks_at (volume_of d.content) attributes_id data_kind)
            (others_kept attributes_id data_kind (inl (λ same. absurd (omega (arith, same)))));
      };
    }

    pub head_then : HeadGrows (volume_of a.content).head (volume_of d.content).head
    head_then =
        let is : (volume_of d.content).head ≡ with_catalog run.count file.fork (volume_of a.content).head = ap (λ (l : VolumeState). l.head) volume_now in
        is ∙ (λ i. record (volume_of a.content).head { free_blocks = (sym is i).free_blocks; extents_fork = (sym is i).extents_fork; catalog_fork = (sym is i).catalog_fork; attributes_fork = (sym is i).attributes_fork })

    pub journal_then : (volume_of d.content).journal ≡ (volume_of a.content).journal
    journal_then = ap (λ (l : VolumeState). l.journal) volume_now
