-- A volume whose attributes file goes on in a run of free blocks is settled again once its bitmap and its header are put, and stands for the same tree.
use Rattle.std.proofs.Common.{◌≡◌, ◌≢◌, ◌⊎◌, inl, inr, ◌<◌, ◌≤◌, ℕ, ◌*◌, List, [], ◌∷◌, ◌++◌, length, refl, sym, ◌∙◌, ap, subst, arith}
use Rattle.std.specs.Prelude.{Contains, IsTrue}
use Rattle.hx_bytes.specs.declared.extents.Extent.{Extent}
use Rattle.jnl_format.specs.Recovery.{header_of_volume}
use Rattle.volume_header.specs.declared.header.VolumeHeader.{VolumeHeader}
use Rattle.std.proofs.lemmas.List.Elements.{Contains-append_left, Contains-append_right}
use Rattle.fork_map.specs.Blocks.{blocks_of, fork_sectors, sectors_of}
use Rattle.alloc_bitmap.specs.Map.{BlockMap}
use Rattle.btree_file.specs.Frame.{PutsWithin}
use Rattle.btree_file.specs.Growth.{HasGrown, nodes_in, sectors_with}
use Rattle.btree_file.specs.State.{sectors_of_tree}
use Rattle.btree_file.specs.declared.tree.TreeFile.{TreeFile}
use Rattle.sector_disk.specs.Lists.{sector}
use Rattle.sector_disk.specs.Space.{Space}
use Rattle.hfs_volume.specs.Content.{VolumeState, attributes_of, has_attributes, volume_of}
use Rattle.hfs_volume.specs.Forks.{attributes_id, catalog_id, data_kind, extents_id}
use Rattle.hfs_volume.specs.Links.{private_id}
use Rattle.hfs_volume.specs.Records.{placed_in}
use Rattle.hfs_volume.specs.Reclaim.{GrowsTree, GrowsTrees, SameValues, blocks_at}
use Rattle.hfs_volume.specs.Sound.{IsSoundVolume}
use Rattle.hfs_volume.specs.TreeOf.{bytes_in, tree_in, tree_of}
use Rattle.hfs_volume.specs.Values.{value_blocks}
use Rattle.hfs_volume.specs.Writing.{GrowthKeeps}
use Rattle.volume_space.specs.Growing.{HeadGrows, KeepsForks, TakesRun, lengthened_attributes, with_attributes}
use Rattle.volume_base.specs.Lists.{bits_on, facts_on, lists_of}
use Rattle.volume_base.specs.Mapping.{HoldsMap}
use Rattle.volume_base.specs.Standing.{IsSettled, IsStanding, map_sectors, with_attributes_tree}
use Rattle.volume_base.specs.declared.volume.Volume.{Volume}
use Rattle.volume_base.proofs.FilesKept.{allocation_sectors, attributes_sectors, tree_stays_beside}
use Rattle.volume_space.proofs.GrownBits.{bits_read}
use Rattle.volume_space.proofs.AttributesGrownLists.{grows_counted, lists_are_grown, lists_grown}
use Rattle.volume_space.proofs.GrownRun.{same_length}
use Rattle.volume_space.proofs.AttributesGrownStands.{elsewhere, sectors_now, there_now}
use Rattle.volume_base.proofs.Resettling.{bits_at, lists_anew, settles}
use Rattle.volume_space.proofs.GrownSettled.{same_fork}
use Rattle.volume_base.proofs.TreesSettled.{header_settled}

module _ (v : Volume) (a b : Space) (was : IsStanding v a) (settled : IsSettled v a.content) (there : IsTrue (has_attributes v.header)) (count : ℕ) (run : Extent) (later : BlockMap) (takes : TakesRun count run v.map later) (some : 0 < run.count)
    (file : TreeFile) (grown : HasGrown run v.attributes.file file a.content b.content) (within : PutsWithin (sectors_with v.attributes.file run) a b) (tells : IsTrue a.tells)
    (eight : length v.header.attributes_fork.extents.extents ≡ 8) (few : length v.attributes.file.fork < 8) (more : ℕ) (counted : run.count ≤ v.header.free_blocks)
    (nodes : nodes_in run v.attributes.file.per_block v.attributes.file.shape.node_size ≡ more) (whole : run.count * v.header.block_size ≡ more * v.attributes.file.shape.node_size)
    (law : GrowthKeeps) (d : Space) (stands : IsStanding (lengthened_attributes run.count v later file) d) (headed : header_of_volume d.content ≡ with_attributes run.count file.fork v.header) (holds : HoldsMap (lengthened_attributes run.count v later file) d.content)
    (lists : lists_of (lengthened_attributes run.count v later file) d.content ≡ lists_of (lengthened_attributes run.count v later file) b.content)
    (outside : (s : ℕ) → s ≢ 2 → (Contains (map_sectors (lengthened_attributes run.count v later file)) s → ⊥) → sector d.content s ≡ sector b.content s)
  where
    abbrev w : Volume
    w = lengthened_attributes run.count v later file

    abbrev grown_lists : VolumeState
    grown_lists = lists_grown v a b was settled there count run later takes some file grown within tells eight few more counted nodes whole

    abbrev fresh : List ℕ
    fresh = blocks_of (run ∷ [])

    by_law : IsSoundVolume (lists_grown v a b was settled there count run later takes some file grown within tells eight few more counted nodes whole)
        × (tree_in (lists_grown v a b was settled there count run later takes some file grown within tells eight few more counted nodes whole) (bytes_in a.content) ≡ tree_in (volume_of a.content) (bytes_in a.content))
        × GrowsTree attributes_id more (volume_of a.content) (lists_grown v a b was settled there count run later takes some file grown within tells eight few more counted nodes whole)
        × ((other kind : ℕ) → (other ≢ attributes_id) ⊎ (kind ≢ data_kind) → blocks_at (lists_grown v a b was settled there count run later takes some file grown within tells eight few more counted nodes whole) other kind ≡ blocks_at (volume_of a.content) other kind)
        × SameValues (volume_of a.content) (lists_grown v a b was settled there count run later takes some file grown within tells eight few more counted nodes whole)
    by_law = law attributes_id more (blocks_of (run ∷ [])) (volume_of a.content) (lists_grown v a b was settled there count run later takes some file grown within tells eight few more counted nodes whole) (bytes_in a.content) (inr (inr refl)) settled.sound
        (grows_counted v a b was settled there count run later takes some file grown within tells eight few more counted nodes whole)

    fits : length later.used ≤ 8 * v.header.allocation_fork.logical_size
    fits = omega (
      arith,
      same_length count run v.map later takes,
      settled.blocks,
      settled.sound.blocks.files.bits,
      ap (λ (l : VolumeState). l.head.total_blocks) settled.lists,
      ap (λ (l : VolumeState). l.head.allocation_fork.logical_size) settled.lists,
    )

    bits : bits_at d.content w ≡ bits_on w
    bits = bits_read w d stands headed fits holds

    lists_then : lists_of (lengthened_attributes run.count v later file) d.content ≡ lists_grown v a b was settled there count run later takes some file grown within tells eight few more counted nodes whole
    lists_then = lists ∙ lists_are_grown v a b was settled there count run later takes some file grown within tells eight few more counted nodes whole

    pub settled_now : IsSettled (lengthened_attributes run.count v later file) d.content
    settled_now = settles w d stands headed bits (facts_on file) (λ told. refl) (subst IsSoundVolume (sym lists_then) by_law.0)
        (settled.private ∙ ap (λ (l : VolumeState). private_id (placed_in l.catalog_pairs)) (sym lists_then))

    pub attributes_then : (volume_of d.content).attributes_tree ≡ facts_on file
    attributes_then = settled_now.attributes (there_now v a b was settled there count run later takes some file grown within tells)

    -- the lists of the content are these
    volume_now : volume_of d.content ≡ lists_grown v a b was settled there count run later takes some file grown within tells eight few more counted nodes whole
    volume_now = lists_anew w d stands headed bits ∙ (λ i. with_attributes_tree (lists_then i) (volume_of d.content)) ∙ (λ i. record (lists_grown v a b was settled there count run later takes some file grown within tells eight few more counted nodes whole) { attributes_tree = attributes_then i })

    -- ---- every other fork

    others_kept : (other kind : ℕ) → (other ≢ attributes_id) ⊎ (kind ≢ data_kind) → blocks_at (volume_of d.content) other kind ≡ blocks_at (volume_of a.content) other kind
    others_kept other kind differs = ap (λ (l : VolumeState). blocks_at l other kind) volume_now ∙ by_law.3 other kind differs

    pub forks_kept : KeepsForks attributes_id (volume_of a.content) (volume_of d.content)
    forks_kept = (others_kept, λ id name. ap (λ (l : VolumeState). value_blocks (attributes_of l) id name) volume_now ∙ by_law.4 id name)

    -- ---- the sectors that are as they were

    attributes_are : attributes_sectors grown_lists ≡ sectors_of_tree file
    attributes_are =
        let told = there_now v a b was settled there count run later takes some file grown within tells in
        sym ((λ i. sectors_of (stands.forks.attributes_per told i) (blocks_of (stands.forks.attributes told i))) ∙ ap (λ (l : VolumeState). attributes_sectors l) lists_then)

    map_is : allocation_sectors grown_lists ≡ map_sectors w
    map_is = sym ((λ i. sectors_of (stands.forks.map_per i) (blocks_of (stands.forks.map i))) ∙ ap (λ (l : VolumeState). allocation_sectors l) lists_then)

    same_sector : (at : ℕ) → at ≢ 2 → (Contains (attributes_sectors grown_lists) at → ⊥) → (Contains (allocation_sectors grown_lists) at → ⊥) → sector d.content at ≡ sector a.content at
    same_sector at differs none nor =
        outside at differs (λ has. nor (subst (λ (l : List ℕ). Contains l at) (sym map_is) has))
        ∙ elsewhere v a b was settled there count run later takes some file grown within tells at
        (λ has. none (subst (λ (l : List ℕ). Contains l at) (sym (attributes_are ∙ sectors_now v a b was settled there count run later takes some file grown within tells)) (left at has)))
        (λ has. none (subst (λ (l : List ℕ). Contains l at) (sym (attributes_are ∙ sectors_now v a b was settled there count run later takes some file grown within tells)) (right at has)))
      where
        left : (n : ℕ) → Contains (sectors_of_tree v.attributes.file) n → Contains (sectors_of_tree v.attributes.file ++ fork_sectors (run ∷ []) v.attributes.file.per_block) n
        left n has = Contains-append_left (sectors_of_tree v.attributes.file) (fork_sectors (run ∷ []) v.attributes.file.per_block) n has

        right : (n : ℕ) → Contains (fork_sectors (run ∷ []) v.attributes.file.per_block) n → Contains (sectors_of_tree v.attributes.file ++ fork_sectors (run ∷ []) v.attributes.file.per_block) n
        right n has = Contains-append_right (sectors_of_tree v.attributes.file) (fork_sectors (run ∷ []) v.attributes.file.per_block) n has

    -- ---- its tree

    head_was : header_of_volume a.content ≡ v.header
    head_was = header_settled v a.content settled

    head_now : (lists_grown v a b was settled there count run later takes some file grown within tells eight few more counted nodes whole).head ≡ with_attributes run.count file.fork v.header
    head_now = ap (λ (l : VolumeState). with_attributes run.count file.fork l.head) settled.lists

    pub tree_same : tree_of d.content ≡ tree_of a.content
    unfolding tree_of
    tree_same =
        ap (λ (l : VolumeState). tree_in l (bytes_in d.content)) volume_now
        ∙ tree_stays_beside grown_lists by_law.0 a.content d.content
        (record {
          overflow = refl;
          total = ap (λ (h : VolumeHeader). h.total_blocks) head_was ∙ sym (ap (λ (h : VolumeHeader). h.total_blocks) head_now);
          block = ap (λ (h : VolumeHeader). h.block_size) head_was ∙ sym (ap (λ (h : VolumeHeader). h.block_size) head_now);
        })
        (record {
          overflow = ap (λ (l : VolumeState). l.overflow_pairs) volume_now;
          total = ap (λ (h : VolumeHeader). h.total_blocks) headed ∙ sym (ap (λ (h : VolumeHeader). h.total_blocks) head_now);
          block = ap (λ (h : VolumeHeader). h.block_size) headed ∙ sym (ap (λ (h : VolumeHeader). h.block_size) head_now);
        })
        same_sector
        ∙ by_law.1

    -- ---- each tree has just these nodes more

    pub trees_grow : GrowsTrees (0 ∷ 0 ∷ more ∷ []) (volume_of a.content) (volume_of d.content)
    trees_grow = record {
      extents = record {
        nodes = omega (arith, ap (λ (l : VolumeState). l.extents_tree.shape.total) volume_now);
        blocks = same_fork (volume_of a.content).extents_tree.shape.node_size (volume_of a.content).head.block_size (blocks_at (volume_of a.content) extents_id data_kind) (blocks_at (volume_of d.content) extents_id data_kind)
            (others_kept extents_id data_kind (inl (λ same. absurd (omega (arith, same)))));
      };
      catalog = record {
        nodes = omega (arith, ap (λ (l : VolumeState). l.catalog_tree.shape.total) volume_now);
        blocks = same_fork (volume_of a.content).catalog_tree.shape.node_size (volume_of a.content).head.block_size (blocks_at (volume_of a.content) catalog_id data_kind) (blocks_at (volume_of d.content) catalog_id data_kind)
            (others_kept catalog_id data_kind (inl (λ same. absurd (omega (arith, same)))));
      };
      attributes = subst (λ (l : VolumeState). GrowsTree attributes_id more (volume_of a.content) l) (sym volume_now) (record { nodes = by_law.2.nodes; blocks = by_law.2.blocks });
    }

    -- ---- the header, and the journal's place

    pub head_then : HeadGrows (volume_of a.content).head (volume_of d.content).head
    head_then =
        let is : (volume_of d.content).head ≡ with_attributes run.count file.fork (volume_of a.content).head = ap (λ (l : VolumeState). l.head) volume_now in
        is ∙ (λ i. record (volume_of a.content).head { free_blocks = (sym is i).free_blocks; extents_fork = (sym is i).extents_fork; catalog_fork = (sym is i).catalog_fork; attributes_fork = (sym is i).attributes_fork })

    pub journal_then : (volume_of d.content).journal ≡ (volume_of a.content).journal
    journal_then = ap (λ (l : VolumeState). l.journal) volume_now
