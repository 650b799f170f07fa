-- A volume whose catalog goes on in a run of free blocks is settled again once its bitmap and its header are put, and stands for the same tree.
use Rattle.std.proofs.Common.{List, [], ℕ, ◌*◌, ◌++◌, ◌/◌, ◌<◌, ◌∙◌, ◌∷◌, ◌≡◌, ◌≢◌, ◌≤◌, ◌⊎◌, ap, arith, inl, length, map, refl, subst, sym, take}
use Rattle.std.specs.Prelude.{Contains, IsTrue}
use Rattle.hx_bytes.specs.declared.extents.Extent.{Extent}
use Rattle.jnl_format.specs.Recovery.{header_of_volume}
use Rattle.volume_header.specs.declared.header.VolumeHeader.{VolumeHeader}
use Rattle.std.proofs.lemmas.List.Elements.{Contains-append_left, Contains-append_right}
use Rattle.fork_map.specs.Blocks.{blocks_of, fork_sectors, sectors_of}
use Rattle.alloc_bitmap.specs.Map.{BlockMap}
use Rattle.btree_file.specs.Frame.{PutsWithin}
use Rattle.btree_file.specs.Growth.{HasGrown, nodes_in, sectors_with}
use Rattle.btree_file.specs.State.{sectors_of_tree}
use Rattle.btree_file.specs.declared.tree.TreeFile.{TreeFile}
use Rattle.sector_disk.specs.Lists.{Content, sector}
use Rattle.sector_disk.specs.Space.{Space}
use Rattle.hfs_volume.specs.Content.{TreeFacts, VolumeState, attributes_file, attributes_of, block_bytes, block_limit, facts_of, overflow_in_volume, overflow_of_content, sectors_in, tree_of_fork, volume_of}
use Rattle.hfs_volume.specs.Forks.{attributes_id, blocks_owned, catalog_id, data_kind, extents_id, extents_of, per_block_of}
use Rattle.hfs_volume.specs.Links.{private_id}
use Rattle.hfs_volume.specs.Records.{overflow_of, placed_in}
use Rattle.hfs_volume.specs.Reclaim.{GrowsTree, GrowsTrees, SameValues, blocks_at}
use Rattle.hfs_volume.specs.Sound.{IsSoundVolume}
use Rattle.hfs_volume.specs.TreeOf.{bytes_in, tree_in, tree_of}
use Rattle.hfs_volume.specs.Values.{value_blocks}
use Rattle.hfs_volume.specs.Writing.{GrowthKeeps}
use Rattle.hfs_volume.proofs.Rereading.{same_bytes, same_tree}
use Rattle.volume_space.specs.Growing.{HeadGrows, KeepsForks, TakesRun, lengthened_extents, with_extents}
use Rattle.volume_base.specs.Lists.{bits_on, lists_of}
use Rattle.volume_base.specs.Mapping.{HoldsMap}
use Rattle.volume_base.specs.Standing.{IsSettled, IsStanding, map_sectors, with_attributes_tree}
use Rattle.volume_base.specs.declared.volume.Volume.{Volume}
use Rattle.volume_base.proofs.FilesKept.{ReadsAs, allocation_sectors, attributes_apart, attributes_off_extents, attributes_off_map, attributes_sectors, both_forks, by_lists, extents_sectors, not_2, not_in_extents, not_in_map}
use Rattle.volume_space.proofs.GrownSettled.{same_fork}
use Rattle.volume_space.proofs.GrownBits.{bits_read}
use Rattle.volume_space.proofs.ExtentsGrownLists.{grows_counted, lists_are_grown, lists_grown}
use Rattle.volume_space.proofs.GrownRun.{same_length}
use Rattle.volume_space.proofs.ExtentsGrownStands.{elsewhere, sectors_now}
use Rattle.volume_base.proofs.Resettling.{bits_at, lists_anew, settles}
use Rattle.volume_base.proofs.TreesSettled.{header_settled, tree_without}
use Rattle.hfs_volume.proofs.Bytes.{same_bytes_same_tree}
use Rattle.volume_space.proofs.ValuesKept.{values_kept}

-- the tree of the lists, where neither header nor extents overflow file nor bitmap is looked at
module _ (lists : VolumeState) (sound : IsSoundVolume lists) (a b : Content) (reads_a : ReadsAs a lists) (reads_b : ReadsAs b lists)
    (agrees : (at : ℕ) → at ≢ 2 → (Contains (extents_sectors lists) at → ⊥) → (Contains (allocation_sectors lists) at → ⊥) → sector b at ≡ sector a at)
  where
    tree_stays_apart : tree_in lists (bytes_in b) ≡ tree_in lists (bytes_in a)
    tree_stays_apart = same_bytes_same_tree lists (bytes_in b) (bytes_in a) (both_forks lists sound a b (λ fork there user.
        by_lists lists sound fork there user b reads_b
        ∙ ap (λ (l : List ℕ). take fork.fork.logical_size l) (same_bytes a b (lists.head.total_blocks * per_block_of lists.head) (sectors_of (per_block_of lists.head) (blocks_owned (overflow_in_volume lists) fork))
        (λ at has. agrees at (not_2 lists sound fork there user at has) (not_in_extents lists sound fork there user at has) (not_in_map lists sound fork there user at has)))
        ∙ sym (by_lists lists sound fork there user a reads_a)))
        (values_kept lists sound a b reads_a.total reads_a.block reads_b.total reads_b.block (λ at differs not_catalog not_attributes not_extents not_map. agrees at differs not_extents not_map))

module _ (v : Volume) (a b : Space) (was : IsStanding v a) (settled : IsSettled v a.content) (count : ℕ) (run : Extent) (later : BlockMap) (takes : TakesRun count run v.map later) (some : 0 < run.count)
    (file : TreeFile) (grown : HasGrown run v.extents.file file a.content b.content) (within : PutsWithin (sectors_with v.extents.file run) a b) (tells : IsTrue a.tells)
    (eight : length v.header.extents_fork.extents.extents ≡ 8) (few : length v.extents.file.fork < 8) (more : ℕ) (counted : run.count ≤ v.header.free_blocks)
    (nodes : nodes_in run v.extents.file.per_block v.extents.file.shape.node_size ≡ more) (whole : run.count * v.header.block_size ≡ more * v.extents.file.shape.node_size)
    (law : GrowthKeeps) (d : Space) (stands : IsStanding (lengthened_extents run.count v later file) d) (headed : header_of_volume d.content ≡ with_extents run.count file.fork v.header) (holds : HoldsMap (lengthened_extents run.count v later file) d.content)
    (lists : lists_of (lengthened_extents run.count v later file) d.content ≡ lists_of (lengthened_extents run.count v later file) b.content)
    (outside : (s : ℕ) → s ≢ 2 → (Contains (map_sectors (lengthened_extents run.count v later file)) s → ⊥) → sector d.content s ≡ sector b.content s)
  where
    abbrev w : Volume
    w = lengthened_extents run.count v later file

    abbrev grown_lists : VolumeState
    grown_lists = lists_grown v a b was settled count run later takes some file grown within tells eight few more counted nodes whole

    abbrev fresh : List ℕ
    fresh = blocks_of (run ∷ [])

    by_law : IsSoundVolume (lists_grown v a b was settled count run later takes some file grown within tells eight few more counted nodes whole)
        × (tree_in (lists_grown v a b was settled count run later takes some file grown within tells eight few more counted nodes whole) (bytes_in a.content) ≡ tree_in (volume_of a.content) (bytes_in a.content))
        × GrowsTree extents_id more (volume_of a.content) (lists_grown v a b was settled count run later takes some file grown within tells eight few more counted nodes whole)
        × ((other kind : ℕ) → (other ≢ extents_id) ⊎ (kind ≢ data_kind) → blocks_at (lists_grown v a b was settled count run later takes some file grown within tells eight few more counted nodes whole) other kind ≡ blocks_at (volume_of a.content) other kind)
        × SameValues (volume_of a.content) (lists_grown v a b was settled count run later takes some file grown within tells eight few more counted nodes whole)
    by_law = law extents_id more (blocks_of (run ∷ [])) (volume_of a.content) (lists_grown v a b was settled count run later takes some file grown within tells eight few more counted nodes whole) (bytes_in a.content) (inl refl) settled.sound
        (grows_counted v a b was settled count run later takes some file grown within tells eight few more counted nodes whole)

    fits : length later.used ≤ 8 * v.header.allocation_fork.logical_size
    fits = omega (
      arith,
      same_length count run v.map later takes,
      settled.blocks,
      settled.sound.blocks.files.bits,
      ap (λ (l : VolumeState). l.head.total_blocks) settled.lists,
      ap (λ (l : VolumeState). l.head.allocation_fork.logical_size) settled.lists,
    )

    bits : bits_at d.content w ≡ bits_on w
    bits = bits_read w d stands headed fits holds

    lists_then : record (lists_of (lengthened_extents run.count v later file) d.content) { attributes_tree = (volume_of a.content).attributes_tree } ≡ lists_grown v a b was settled count run later takes some file grown within tells eight few more counted nodes whole
    lists_then = (λ i. record (lists i) { attributes_tree = (volume_of a.content).attributes_tree }) ∙ lists_are_grown v a b was settled count run later takes some file grown within tells eight few more counted nodes whole

    pub settled_now : IsSettled (lengthened_extents run.count v later file) d.content
    settled_now = settles w d stands headed bits (volume_of a.content).attributes_tree settled.attributes (subst IsSoundVolume (sym lists_then) by_law.0)
        (settled.private ∙ ap (λ (l : VolumeState). private_id (placed_in l.catalog_pairs)) (sym lists_then))

    -- the lists of the content are these, but for the numbers of the attributes' tree where there is none
    volume_now : volume_of d.content ≡ with_attributes_tree (lists_grown v a b was settled count run later takes some file grown within tells eight few more counted nodes whole) (volume_of d.content)
    volume_now = lists_anew w d stands headed bits ∙ (λ i. with_attributes_tree (lists_then i) (volume_of d.content))

    -- ---- every other fork

    others_kept : (other kind : ℕ) → (other ≢ extents_id) ⊎ (kind ≢ data_kind) → blocks_at (volume_of d.content) other kind ≡ blocks_at (volume_of a.content) other kind
    others_kept other kind differs = ap (λ (l : VolumeState). blocks_at l other kind) volume_now ∙ by_law.3 other kind differs

    pub forks_kept : KeepsForks extents_id (volume_of a.content) (volume_of d.content)
    forks_kept = (others_kept, λ id name. ap (λ (l : VolumeState). value_blocks (attributes_of l) id name) volume_now ∙ by_law.4 id name)

    -- ---- the sectors that are as they were

    extents_are : extents_sectors grown_lists ≡ sectors_of_tree file
    extents_are = sym ((λ i. sectors_of (stands.forks.extents_per i) (blocks_of (stands.forks.extents i))) ∙ ap (λ (l : VolumeState). extents_sectors l) lists_then)

    map_is : allocation_sectors grown_lists ≡ map_sectors w
    map_is = sym ((λ i. sectors_of (stands.forks.map_per i) (blocks_of (stands.forks.map i))) ∙ ap (λ (l : VolumeState). allocation_sectors l) lists_then)

    same_sector : (at : ℕ) → at ≢ 2 → (Contains (extents_sectors grown_lists) at → ⊥) → (Contains (allocation_sectors grown_lists) at → ⊥) → sector d.content at ≡ sector a.content at
    same_sector at differs none nor =
        outside at differs (λ has. nor (subst (λ (l : List ℕ). Contains l at) (sym map_is) has))
        ∙ elsewhere v a b was settled count run later takes some file grown within tells at
        (λ has. none (subst (λ (l : List ℕ). Contains l at) (sym (extents_are ∙ sectors_now v a b was settled count run later takes some file grown within tells)) (left at has)))
        (λ has. none (subst (λ (l : List ℕ). Contains l at) (sym (extents_are ∙ sectors_now v a b was settled count run later takes some file grown within tells)) (right at has)))
      where
        left : (n : ℕ) → Contains (sectors_of_tree v.extents.file) n → Contains (sectors_of_tree v.extents.file ++ fork_sectors (run ∷ []) v.extents.file.per_block) n
        left n has = Contains-append_left (sectors_of_tree v.extents.file) (fork_sectors (run ∷ []) v.extents.file.per_block) n has

        right : (n : ℕ) → Contains (fork_sectors (run ∷ []) v.extents.file.per_block) n → Contains (sectors_of_tree v.extents.file ++ fork_sectors (run ∷ []) v.extents.file.per_block) n
        right n has = Contains-append_right (sectors_of_tree v.extents.file) (fork_sectors (run ∷ []) v.extents.file.per_block) n has

    -- ---- its tree

    head_was : header_of_volume a.content ≡ v.header
    head_was = header_settled v a.content settled

    head_now : (lists_grown v a b was settled count run later takes some file grown within tells eight few more counted nodes whole).head ≡ with_extents run.count file.fork v.header
    head_now = ap (λ (l : VolumeState). with_extents run.count file.fork l.head) settled.lists

    pub tree_same : tree_of d.content ≡ tree_of a.content
    unfolding tree_of
    tree_same =
        ap (λ (l : VolumeState). tree_in l (bytes_in d.content)) volume_now
        ∙ tree_without grown_lists (volume_of d.content).attributes_tree (bytes_in d.content)
        ∙ tree_stays_apart grown_lists by_law.0 a.content d.content
        (record {
          overflow = refl;
          total = ap (λ (h : VolumeHeader). h.total_blocks) head_was ∙ sym (ap (λ (h : VolumeHeader). h.total_blocks) head_now);
          block = ap (λ (h : VolumeHeader). h.block_size) head_was ∙ sym (ap (λ (h : VolumeHeader). h.block_size) head_now);
        })
        (record {
          overflow = ap (λ (l : VolumeState). l.overflow_pairs) volume_now;
          total = ap (λ (h : VolumeHeader). h.total_blocks) headed ∙ sym (ap (λ (h : VolumeHeader). h.total_blocks) head_now);
          block = ap (λ (h : VolumeHeader). h.block_size) headed ∙ sym (ap (λ (h : VolumeHeader). h.block_size) head_now);
        })
        same_sector
        ∙ by_law.1

    -- ---- the attributes' tree, whatever is in its place

    overflow_same : overflow_of_content d.content ≡ overflow_of_content a.content
    unfolding volume_of overflow_of_content
    overflow_same = ap (λ (l : VolumeState). overflow_in_volume l) volume_now

    heads : header_of_volume d.content ≡ with_extents run.count file.fork (header_of_volume a.content)
    heads = headed ∙ ap (λ h. with_extents run.count file.fork h) (sym head_was)

    abbrev attribute_list : List ℕ
    attribute_list = sectors_in a.content (extents_of (overflow_of_content a.content) attributes_id data_kind (header_of_volume a.content).attributes_fork)

    attribute_list_is : sectors_in a.content (extents_of (overflow_of_content a.content) attributes_id data_kind (header_of_volume a.content).attributes_fork) ≡ attributes_sectors grown_lists
    unfolding volume_of overflow_of_content
    attribute_list_is = refl

    attributes_agree : (at : ℕ) → Contains (sectors_in a.content (extents_of (overflow_of_content a.content) attributes_id data_kind (header_of_volume a.content).attributes_fork)) at → sector d.content at ≡ sector a.content at
    attributes_agree at has =
        let here : Contains (attributes_sectors grown_lists) at = subst (λ (l : List ℕ). Contains l at) attribute_list_is has in
        same_sector at (attributes_apart grown_lists by_law.0 at here).0 (λ other. attributes_off_extents grown_lists by_law.0 at here other) (λ other. attributes_off_map grown_lists by_law.0 at here other)

    attributes_file_is : attributes_file d.content ≡ attributes_file a.content
    unfolding attributes_file
    attributes_file_is =
        (λ i. tree_of_fork d.content ((heads i).total_blocks * per_block_of (heads i)) (sectors_of (per_block_of (heads i)) (blocks_of (extents_of (overflow_same i) attributes_id data_kind (heads i).attributes_fork))))
        ∙ same_tree a.content d.content (block_limit a.content) attribute_list attributes_agree

    attributes_tree_same : (volume_of d.content).attributes_tree ≡ (volume_of a.content).attributes_tree
    unfolding volume_of
    attributes_tree_same = ap facts_of attributes_file_is

    -- ---- each tree has just these nodes more

    pub trees_grow : GrowsTrees (more ∷ 0 ∷ 0 ∷ []) (volume_of a.content) (volume_of d.content)
    trees_grow = record {
      extents = subst (λ (l : VolumeState). GrowsTree extents_id more (volume_of a.content) l) (sym volume_now) (record { nodes = by_law.2.nodes; blocks = by_law.2.blocks });
      catalog = record {
        nodes = omega (arith, ap (λ (l : VolumeState). l.catalog_tree.shape.total) volume_now);
        blocks = same_fork (volume_of a.content).catalog_tree.shape.node_size (volume_of a.content).head.block_size (blocks_at (volume_of a.content) catalog_id data_kind) (blocks_at (volume_of d.content) catalog_id data_kind)
            (others_kept catalog_id data_kind (inl (λ same. absurd (omega (arith, same)))));
      };
      attributes = record {
        nodes = omega (arith, ap (λ (t : TreeFacts). t.shape.total) attributes_tree_same);
        blocks = same_fork (volume_of a.content).attributes_tree.shape.node_size (volume_of a.content).head.block_size (blocks_at (volume_of a.content) attributes_id data_kind) (blocks_at (volume_of d.content) attributes_id data_kind)
            (others_kept attributes_id data_kind (inl (λ same. absurd (omega (arith, same)))));
      };
    }

    -- ---- the header, and the journal's place

    pub head_then : HeadGrows (volume_of a.content).head (volume_of d.content).head
    head_then =
        let is : (volume_of d.content).head ≡ with_extents run.count file.fork (volume_of a.content).head = ap (λ (l : VolumeState). l.head) volume_now in
        is ∙ (λ i. record (volume_of a.content).head { free_blocks = (sym is i).free_blocks; extents_fork = (sym is i).extents_fork; catalog_fork = (sym is i).catalog_fork; attributes_fork = (sym is i).attributes_fork })

    pub journal_then : (volume_of d.content).journal ≡ (volume_of a.content).journal
    journal_then = ap (λ (l : VolumeState). l.journal) volume_now
