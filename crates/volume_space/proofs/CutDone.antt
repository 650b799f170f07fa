-- A cut of a fork: by the laws the volume is sound, its tree is as it was, and no other fork is cut.
use Rattle.std.proofs.Common.{◌≡◌, ◌≢◌, ◌⊎◌, inl, inr, ◌<◌, ◌≤◌, ℕ, ◌+◌, ◌-◌, ◌*◌, ◌/◌, ◌%◌, ◌==◌, ◌&&◌, min, Bool, true, false, List, [], ◌∷◌, ◌++◌, length, take, drop, refl, sym, ◌∙◌, ap, subst, arith, ⊎_elim, length-append, length-take}
use Rattle.std.specs.Prelude.{Contains, IsTrue, map, Option, None, Some}
use Rattle.std.specs.List.{range_with_len}
use Rattle.std.specs.Str.{bytes_eq}
use Rattle.std.proofs.lemmas.Bool.{and_parts, eqb-true}
use Rattle.std.proofs.lemmas.Grind.{flat_map-append}
use Rattle.std.proofs.lemmas.List.{take-append-drop}
use Rattle.std.proofs.lemmas.List.Elements.{Contains-append_left}
use Rattle.std.proofs.lemmas.Slice.Eq.{bytes_eq-Decides}
use Rattle.jnl_format.specs.Recovery.{header_of_volume}
use Rattle.volume_header.specs.declared.header.VolumeHeader.{VolumeHeader}
use Rattle.sector_disk.specs.Lists.{Content, sector}
use Rattle.hx_bytes.specs.declared.extents.Extent.{Extent}
use Rattle.sector_disk.specs.Space.{AgreesOutside, Space}
use Rattle.cat_records.specs.declared.record.CatRecord.TheVariants.{File}
use Rattle.cat_records.specs.declared.record.FileRecord.{FileRecord}
use Rattle.catalog.specs.Pairs.{value_at}
use Rattle.alloc_bitmap.specs.Map.{none}
use Rattle.flag_rows.specs.Bits.{sectors_for}
use Rattle.fork_map.specs.Blocks.{blocks_of, sectors_of}
use Rattle.btree_file.specs.State.{sectors_of_tree}
use Rattle.hfs_model.specs.Step.{is_private_name}
use Rattle.hfs_volume.specs.Changes.{with_fork}
use Rattle.hfs_volume.specs.Content.{TreeFacts, VolumeState, attributes_file, block_bytes, block_limit, facts_of, overflow_in_volume, overflow_of_content, records_of, sectors_in, tree_of_fork, volume_of}
use Rattle.hfs_volume.specs.Forks.{Owned, allocation_id, attributes_id, catalog_id, data_kind, extents_id, extents_of, parts_for, per_block_of, reserved_blocks, resource_kind, special_forks}
use Rattle.hfs_volume.specs.Laws.{IsUserFile}
use Rattle.hfs_volume.specs.Links.{orphans_of}
use Rattle.hfs_volume.specs.Records.{Placed, overflow_of, entries_of, id_in, id_of, is_link_type, is_placed_at}
use Rattle.hfs_volume.specs.Reclaim.{CutsAlone, IsTreeFork, blocks_at}
use Rattle.hfs_volume.specs.Sound.{IsSound, IsSoundVolume}
use Rattle.hfs_volume.specs.TreeOf.{bytes_in, tree_in, tree_of}
use Rattle.hfs_volume.specs.Writing.{CutsBlocks, IsPutSector, KeepsForksBut, KeepsOthers, OrphanCut, OthersKeepBytes, ShrunkCut}
use Rattle.hfs_volume.proofs.BlockWants.{in_range}
use Rattle.hfs_volume.proofs.Flat.{found_some}
use Rattle.hfs_volume.proofs.Hiding.{same_entry}
use Rattle.hfs_volume.proofs.Rereading.{same_tree}
use Rattle.hfs_volume.proofs.Sectors.{in_block, in_front}
use Rattle.hfs_volume.proofs.Untouched.{HasWholeBlocks, whole_blocks}
use Rattle.volume_base.specs.Changing.{ReplacesRecord}
use Rattle.volume_space.specs.Cutting.{CutsOne, KeepsTrees, MayGive, PutsGiven, given_back}
use Rattle.volume_base.specs.Cutting.{IsCutOf, cut_fork_of, fork_at, with_freed}
use Rattle.volume_base.specs.Lists.{bits_on, facts_on, lists_of}
use Rattle.volume_base.specs.Standing.{IsSettled, IsStanding, map_sectors}
use Rattle.volume_space.specs.Spreading.{StoresExtents}
use Rattle.volume_base.specs.declared.cutting.Cut.{Cut}
use Rattle.volume_base.specs.declared.entries.Entry.{Entry}
use Rattle.volume_base.specs.declared.volume.Volume.{Volume}
use Rattle.volume_base.proofs.CutLists.{high, stood}
use Rattle.volume_space.proofs.SpreadForks.{extents_alike}
use Rattle.volume_space.proofs.CutSettled.{does, elsewhere, extents_nodes, found_value, header_same, headed, lists_cut, nodes, settled_now, stored, updates, volume_now}
use Rattle.volume_base.proofs.FilesKept.{allocation_sectors, attributes_apart, attributes_off_extents, attributes_off_map, attributes_sectors, catalog_sectors, extents_sectors}
use Rattle.volume_space.proofs.Sounding.{sound_here}
use Rattle.volume_base.proofs.TreesSettled.{header_settled, tree_without}

module _ (v x w : Volume) (a c e d : Space) (was : IsStanding v a) (settled : IsSettled v a.content) (entry : Entry) (file : FileRecord) (list : List Extent) (kind keep : ℕ) (cut : Cut) (may : MayGive cut.goes v) (unchanged : v.map.changed ≡ none (sectors_for (length v.map.used)))
    (is_kind : (kind ≡ data_kind) ⊎ (kind ≡ resource_kind)) (is_list : list ≡ extents_of (overflow_in_volume (volume_of a.content)) file.fields.id kind (fork_at kind file)) (is_cut : IsCutOf list (fork_at kind file) keep cut) (no_link : is_link_type file.fields ≡ false)
    (there : value_at (lists_of v a.content).catalog_pairs entry.parent entry.name ≡ Some entry.rec) (is : entry.rec ≡ File file)
    (puts : PutsGiven (given_back cut.goes v) a.content c.content) (stores : StoresExtents file.fields.id kind cut.stays (given_back cut.goes v) x c.content e.content)
    (replaces : ReplacesRecord entry (File (with_fork kind (cut_fork_of v.header.block_size (fork_at kind file) cut) file)) x w e.content d.content)
    (stands : IsStanding w d)
  where
    abbrev old : VolumeState
    old = volume_of a.content

    abbrev new : VolumeState
    new = lists_cut v x w a c e d was settled entry file list kind keep cut may unchanged is_kind is_list is_cut no_link there is puts stores replaces stands

    abbrev per : ℕ
    per = per_block_of (volume_of a.content).head

    blocks : HasWholeBlocks (volume_of a.content).sectors (volume_of a.content).head
    blocks = whole_blocks (volume_of a.content).sectors (volume_of a.content).head settled.sound.blocks.header.accepted

    -- ---- the sectors that are others

    catalog_is : sectors_of_tree v.catalog.file ≡ catalog_sectors (volume_of a.content)
    catalog_is = (λ i. sectors_of (was.forks.catalog_per i) (blocks_of (was.forks.catalog i))) ∙ sym (ap (λ (l : VolumeState). catalog_sectors l) settled.lists)

    map_is : map_sectors v ≡ allocation_sectors (volume_of a.content)
    map_is = (λ i. sectors_of (was.forks.map_per i) (blocks_of (was.forks.map i))) ∙ sym (ap (λ (l : VolumeState). allocation_sectors l) settled.lists)

    extents_is : sectors_of_tree v.extents.file ≡ extents_sectors (volume_of a.content)
    extents_is = (λ i. sectors_of (was.forks.extents_per i) (blocks_of (was.forks.extents i))) ∙ sym (ap (λ (l : VolumeState). extents_sectors l) settled.lists)

    pub off : (s : ℕ) → s ≢ 2 → (Contains (catalog_sectors (volume_of a.content)) s → ⊥) → (Contains (extents_sectors (volume_of a.content)) s → ⊥) → (Contains (allocation_sectors (volume_of a.content)) s → ⊥) → sector d.content s ≡ sector a.content s
    off s differs none_there none_more nor = elsewhere v x w a c e d was settled entry file list kind keep cut may unchanged is_kind is_list is_cut no_link there is puts stores replaces stands s differs (λ has. none_there (subst (λ (l : List ℕ). Contains l s) catalog_is has)) (λ has. none_more (subst (λ (l : List ℕ). Contains l s) extents_is has)) (λ has. nor (subst (λ (l : List ℕ). Contains l s) map_is has))

    put_head : IsPutSector a.content 2
    unfolding volume_of
    put_head = inr (inl (Contains-append_left (range_with_len 0 (parts_for 1536 (volume_of a.content).head.block_size)) (range_with_len (((volume_of a.content).sectors * 512 - 1024) / (volume_of a.content).head.block_size) ((volume_of a.content).head.total_blocks - ((volume_of a.content).sectors * 512 - 1024) / (volume_of a.content).head.block_size)) (2 / per)
        (in_range 0 (parts_for 1536 (volume_of a.content).head.block_size) (2 / per) (omega arith) (omega (arith, in_front (volume_of a.content).head.block_size per blocks.whole blocks.some 1536 2 (omega arith))))))

    put_catalog : (s : ℕ) → Contains (catalog_sectors (volume_of a.content)) s → IsPutSector a.content s
    unfolding volume_of
    put_catalog s has = inr (inr (record { id = catalog_id; kind = data_kind; fork = (volume_of a.content).head.catalog_fork }, (1, omega arith, refl), in_block per (blocks_of (extents_of (overflow_in_volume (volume_of a.content)) catalog_id data_kind (volume_of a.content).head.catalog_fork)) s blocks.some has))

    put_map : (s : ℕ) → Contains (allocation_sectors (volume_of a.content)) s → IsPutSector a.content s
    unfolding volume_of
    put_map s has = inr (inr (record { id = allocation_id; kind = data_kind; fork = (volume_of a.content).head.allocation_fork }, (2, omega arith, refl), in_block per (blocks_of (extents_of (overflow_in_volume (volume_of a.content)) allocation_id data_kind (volume_of a.content).head.allocation_fork)) s blocks.some has))

    put_extents : (s : ℕ) → Contains (extents_sectors (volume_of a.content)) s → IsPutSector a.content s
    unfolding volume_of extents_of
    put_extents s has = inr (inr (record { id = extents_id; kind = data_kind; fork = (volume_of a.content).head.extents_fork }, (0, omega arith, refl), in_block per (blocks_of (extents_of [] extents_id data_kind (volume_of a.content).head.extents_fork)) s blocks.some has))

    agrees : AgreesOutside (IsPutSector a.content) a.content d.content
    agrees = record {
      size = replaces.changes.outside.size ∙ stores.outside.size ∙ puts.outside.size;
      each = λ s. by s (replaces.changes.outside.each s) (stores.outside.each s) (puts.outside.each s);
    }
      where
        put_tree : (s : ℕ) → Contains (sectors_of_tree v.catalog.file) s → IsPutSector a.content s
        put_tree s has = put_catalog s (subst (λ (l : List ℕ). Contains l s) catalog_is has)

        put_more : (s : ℕ) → Contains (sectors_of_tree v.extents.file) s → IsPutSector a.content s
        put_more s has = put_extents s (subst (λ (l : List ℕ). Contains l s) extents_is has)

        by : (s : ℕ) → (sector d.content s ≡ sector e.content s) ⊎ ((s ≡ 2) ⊎ Contains (sectors_of_tree x.catalog.file) s) → (sector e.content s ≡ sector c.content s) ⊎ Contains (sectors_of_tree v.extents.file) s
            → (sector c.content s ≡ sector a.content s) ⊎ ((s ≡ 2) ⊎ Contains (map_sectors v) s) → (sector d.content s ≡ sector a.content s) ⊎ IsPutSector a.content s
        by s (inr (inl two)) later first = inr (subst (IsPutSector a.content) (sym two) put_head)
        by s (inr (inr has)) later first = inr (put_tree s (subst (λ (l : List ℕ). Contains l s) (ap (λ (y : Volume). sectors_of_tree y.catalog.file) stores.rest) has))
        by s (inl same) (inr has) first = inr (put_more s has)
        by s (inl same) (inl later) (inl first) = inl (same ∙ later ∙ first)
        by s (inl same) (inl later) (inr (inl two)) = inr (subst (IsPutSector a.content) (sym two) put_head)
        by s (inl same) (inl later) (inr (inr has)) = inr (put_map s (subst (λ (l : List ℕ). Contains l s) map_is has))

    others_both : OthersKeepBytes → KeepsOthers file.fields.id (volume_of a.content) (bytes_in a.content) (bytes_in d.content) × KeepsForksBut file.fields.id kind a.content d.content
    others_both law = law file.fields.id kind is_cut.last.left cut.goes.count [] a.content d.content new (sound_here v a was settled) (does v x w a c e d was settled entry file list kind keep cut may unchanged is_kind is_list is_cut no_link there is puts stores replaces stands).puts
        (ap (λ (l : VolumeState). l.head) (volume_now v x w a c e d was settled entry file list kind keep cut may unchanged is_kind is_list is_cut no_link there is puts stores replaces stands)) (ap (λ (l : VolumeState). l.overflow_pairs) (volume_now v x w a c e d was settled entry file list kind keep cut may unchanged is_kind is_list is_cut no_link there is puts stores replaces stands)) agrees

    pub others : OthersKeepBytes → KeepsOthers file.fields.id (volume_of a.content) (bytes_in a.content) (bytes_in d.content)
    others law = (others_both law).0

    -- and its other fork has its bytes
    pub other_fork : OthersKeepBytes → KeepsForksBut file.fields.id kind a.content d.content
    other_fork law = (others_both law).1

    -- ---- what is left as it is

    pub the_file : id_of (updates v x w a c e d was settled entry file list kind keep cut may unchanged is_kind is_list is_cut no_link there is puts stores replaces stands).entry ≡ file.fields.id
    the_file = ap id_in (found_value v x w a c e d was settled entry file list kind keep cut may unchanged is_kind is_list is_cut no_link there is puts stores replaces stands (updates v x w a c e d was settled entry file list kind keep cut may unchanged is_kind is_list is_cut no_link there is puts stores replaces stands))

    pub high_id : 16 ≤ file.fields.id
    high_id = high (volume_of a.content) settled.sound kind keep entry.parent entry.name file list cut (lists_of w d.content).catalog_pairs (facts_on w.catalog.file) (lists_of x e.content).overflow_pairs (facts_on x.extents.file) (bits_on (given_back cut.goes v)) (updates v x w a c e d was settled entry file list kind keep cut may unchanged is_kind is_list is_cut no_link there is puts stores replaces stands) (found_value v x w a c e d was settled entry file list kind keep cut may unchanged is_kind is_list is_cut no_link there is puts stores replaces stands (updates v x w a c e d was settled entry file list kind keep cut may unchanged is_kind is_list is_cut no_link there is puts stores replaces stands)) no_link is_kind is_list is_cut (nodes v x w a c e d was settled entry file list kind keep cut may unchanged is_kind is_list is_cut no_link there is puts stores replaces stands) (stored v x w a c e d was settled entry file list kind keep cut may unchanged is_kind is_list is_cut no_link there is puts stores replaces stands) (extents_nodes v x w a c e d was settled entry file list kind keep cut may unchanged is_kind is_list is_cut no_link there is puts stores replaces stands)

    pub entry_there : Contains (entries_of (records_of (volume_of a.content))) (updates v x w a c e d was settled entry file list kind keep cut may unchanged is_kind is_list is_cut no_link there is puts stores replaces stands).entry
    entry_there = stood (volume_of a.content) settled.sound kind keep entry.parent entry.name file list cut (lists_of w d.content).catalog_pairs (facts_on w.catalog.file) (lists_of x e.content).overflow_pairs (facts_on x.extents.file) (bits_on (given_back cut.goes v)) (updates v x w a c e d was settled entry file list kind keep cut may unchanged is_kind is_list is_cut no_link there is puts stores replaces stands) (found_value v x w a c e d was settled entry file list kind keep cut may unchanged is_kind is_list is_cut no_link there is puts stores replaces stands (updates v x w a c e d was settled entry file list kind keep cut may unchanged is_kind is_list is_cut no_link there is puts stores replaces stands)) no_link is_kind is_list is_cut (nodes v x w a c e d was settled entry file list kind keep cut may unchanged is_kind is_list is_cut no_link there is puts stores replaces stands) (stored v x w a c e d was settled entry file list kind keep cut may unchanged is_kind is_list is_cut no_link there is puts stores replaces stands) (extents_nodes v x w a c e d was settled entry file list kind keep cut may unchanged is_kind is_list is_cut no_link there is puts stores replaces stands)

    pub low_tree : (id : ℕ) → IsTreeFork id → id < 16
    low_tree id (inl e) = omega (arith, e)
    low_tree id (inr (inl e)) = omega (arith, e)
    low_tree id (inr (inr e)) = omega (arith, e)

    -- the attributes' tree, whatever is in its place
    attributes_same : IsSoundVolume (volume_of a.content) → (volume_of d.content).attributes_tree ≡ (volume_of a.content).attributes_tree
    unfolding volume_of attributes_file overflow_of_content
    attributes_same sound =
        ap facts_of (
        (λ i. tree_of_fork d.content ((heads i).total_blocks * per_block_of (heads i)) (sectors_of (per_block_of (heads i)) (blocks_of (extents_of (overflow_in_volume (volume_of d.content)) attributes_id data_kind (heads i).attributes_fork))))
        ∙ (λ i. tree_of_fork d.content (block_limit a.content) (sectors_of (per_block_of (header_of_volume a.content)) (blocks_of (overflow i))))
        ∙ same_tree a.content d.content (block_limit a.content) (attributes_sectors (volume_of a.content)) (λ at has.
        let apart = attributes_apart (volume_of a.content) sound at has in off at apart.0 apart.1 (λ other. attributes_off_extents (volume_of a.content) sound at has other) (λ other. attributes_off_map (volume_of a.content) sound at has other)))
      where
        heads : header_of_volume d.content ≡ with_freed cut.goes.count (header_of_volume a.content)
        heads = headed v x w a c e d was settled entry file list kind keep cut may unchanged is_kind is_list is_cut no_link there is puts stores replaces stands ∙ header_same v x w a c e d was settled entry file list kind keep cut may unchanged is_kind is_list is_cut no_link there is puts stores replaces stands ∙ ap (with_freed cut.goes.count) (sym (header_settled v a.content settled))

        overflow : extents_of (overflow_in_volume (volume_of d.content)) attributes_id data_kind (header_of_volume a.content).attributes_fork ≡ extents_of (overflow_in_volume (volume_of a.content)) attributes_id data_kind (header_of_volume a.content).attributes_fork
        overflow =
            ap (λ (l : VolumeState). extents_of (overflow_in_volume l) attributes_id data_kind (header_of_volume a.content).attributes_fork) (volume_now v x w a c e d was settled entry file list kind keep cut may unchanged is_kind is_list is_cut no_link there is puts stores replaces stands)
            ∙ extents_alike file.fields.id kind (overflow_in_volume (volume_of a.content)) (map overflow_of (lists_of x e.content).overflow_pairs) (stored v x w a c e d was settled entry file list kind keep cut may unchanged is_kind is_list is_cut no_link there is puts stores replaces stands).others attributes_id data_kind (header_of_volume a.content).attributes_fork (λ same. absurd (omega (arith, same, high_id)))

    pub keeps : ((id other : ℕ) → IsTreeFork id → blocks_at new id other ≡ blocks_at (volume_of a.content) id other) → KeepsTrees (volume_of a.content) (volume_of d.content)
    keeps forks =
        let head : (volume_of d.content).head ≡ with_freed cut.goes.count (volume_of a.content).head = ap (λ (l : VolumeState). l.head) (volume_now v x w a c e d was settled entry file list kind keep cut may unchanged is_kind is_list is_cut no_link there is puts stores replaces stands) in
        record {
          head = head ∙ (λ i. record (volume_of a.content).head { free_blocks = (sym head i).free_blocks });
          extents = ap (λ (l : VolumeState). l.extents_tree.shape.total) (volume_now v x w a c e d was settled entry file list kind keep cut may unchanged is_kind is_list is_cut no_link there is puts stores replaces stands) ∙ (extents_nodes v x w a c e d was settled entry file list kind keep cut may unchanged is_kind is_list is_cut no_link there is puts stores replaces stands).total;
          catalog = ap (λ (l : VolumeState). l.catalog_tree.shape.total) (volume_now v x w a c e d was settled entry file list kind keep cut may unchanged is_kind is_list is_cut no_link there is puts stores replaces stands) ∙ (nodes v x w a c e d was settled entry file list kind keep cut may unchanged is_kind is_list is_cut no_link there is puts stores replaces stands).total;
          attributes = ap (λ (t : TreeFacts). t.shape.total) (attributes_same settled.sound);
          journal = ap (λ (l : VolumeState). l.journal) (volume_now v x w a c e d was settled entry file list kind keep cut may unchanged is_kind is_list is_cut no_link there is puts stores replaces stands);
          forks = λ id other tree. ap (λ (l : VolumeState). blocks_at l id other) (volume_now v x w a c e d was settled entry file list kind keep cut may unchanged is_kind is_list is_cut no_link there is puts stores replaces stands) ∙ forks id other tree;
        }

    pub tree_same : tree_in new (bytes_in d.content) ≡ tree_in (volume_of a.content) (bytes_in a.content) → tree_of d.content ≡ tree_of a.content
    unfolding tree_of
    tree_same same = ap (λ (l : VolumeState). tree_in l (bytes_in d.content)) (volume_now v x w a c e d was settled entry file list kind keep cut may unchanged is_kind is_list is_cut no_link there is puts stores replaces stands) ∙ tree_without new (volume_of d.content).attributes_tree (bytes_in d.content) ∙ same

    -- ---- a file that lost its last name

    module _ (law : OrphanCut) (bytes : OthersKeepBytes) (orphan : Placed) (waits : Contains (orphans_of (records_of (volume_of a.content))) orphan) (its : id_of orphan ≡ file.fields.id) where
      by_orphan : IsSoundVolume new × (tree_in new (bytes_in d.content) ≡ tree_in (volume_of a.content) (bytes_in a.content)) × CutsAlone file.fields.id kind 0 (volume_of a.content) new
      by_orphan = subst (λ n. KeepsOthers n (volume_of a.content) (bytes_in a.content) (bytes_in d.content) → CutsBlocks n kind is_cut.last.left cut.goes.count (volume_of a.content) new
          → IsSoundVolume new × (tree_in new (bytes_in d.content) ≡ tree_in (volume_of a.content) (bytes_in a.content)) × CutsAlone n kind 0 (volume_of a.content) new) its
          (λ kept cuts. law orphan kind is_cut.last.left cut.goes.count (volume_of a.content) new (bytes_in a.content) (bytes_in d.content) settled.sound waits cuts kept) (others bytes) (does v x w a c e d was settled entry file list kind keep cut may unchanged is_kind is_list is_cut no_link there is puts stores replaces stands)

      pub orphan_done : IsSettled w d.content × CutsOne file.fields.id kind 0 a.content d.content
      orphan_done = (
        settled_now v x w a c e d was settled entry file list kind keep cut may unchanged is_kind is_list is_cut no_link there is puts stores replaces stands by_orphan.0,
        record {
          alone = subst (λ (l : VolumeState). CutsAlone file.fields.id kind 0 (volume_of a.content) l) (sym (volume_now v x w a c e d was settled entry file list kind keep cut may unchanged is_kind is_list is_cut no_link there is puts stores replaces stands)) (record { cut = by_orphan.2.cut; others = by_orphan.2.others; values = by_orphan.2.values });
          keeps = keeps (λ id other tree. by_orphan.2.others id other (inl (λ same. absurd (omega (arith, same, high_id, low_tree id tree)))));
          tree = tree_same by_orphan.1;
        },
      )
