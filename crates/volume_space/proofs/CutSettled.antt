-- A volume of which the end of a file's fork was given back is settled again once bitmap, header and record are put, and its tree is as it was.
use Rattle.std.proofs.Common.{◌≡◌, ◌≢◌, ◌⊎◌, inl, inr, ◌<◌, ◌≤◌, ℕ, ◌+◌, ◌-◌, ◌*◌, ◌/◌, ◌==◌, min, Bool, true, false, List, [], ◌∷◌, ◌++◌, length, take, drop, refl, sym, ◌∙◌, ap, subst, arith, ⊎_elim, length-append, length-take}
use Rattle.std.specs.Prelude.{Contains, IsTrue, Option, None, Some}
use Rattle.std.specs.Option.{option_map}
use Rattle.std.proofs.lemmas.Bool.{true≢false}
use Rattle.hx_bytes.specs.declared.extents.Extent.{Extent}
use Rattle.hx_bytes.specs.declared.extents.ForkRecord.{ForkRecord}
use Rattle.jnl_format.specs.Recovery.{header_of_volume}
use Rattle.volume_header.specs.declared.header.VolumeHeader.{VolumeHeader}
use Rattle.sector_disk.specs.Lists.{Content, sector}
use Rattle.sector_disk.specs.Space.{AgreesOutside, Space}
use Rattle.btree_node.specs.Levels.{Pair}
use Rattle.btree_file.specs.State.{sectors_of_tree}
use Rattle.cat_records.specs.declared.record.CatRecord.{CatRecord}
use Rattle.cat_records.specs.declared.record.CatRecord.TheVariants.{File}
use Rattle.cat_records.specs.declared.record.FileRecord.{FileRecord}
use Rattle.catalog.specs.Entries.{UpdatesEntry}
use Rattle.catalog.specs.Pairs.{value_at}
use Rattle.alloc_bitmap.specs.Apart.{times}
use Rattle.alloc_bitmap.specs.Map.{none}
use Rattle.alloc_bitmap.proofs.ApartLaws.{times-append}
use Rattle.flag_rows.specs.Bits.{sectors_for}
use Rattle.fork_map.specs.Blocks.{blocks_of, fork_sectors, sectors_of}
use Rattle.hfs_volume.specs.Blocks.{forks_of}
use Rattle.hfs_volume.specs.Changes.{HasSameNodes, SameKind, with_fork}
use Rattle.hfs_volume.specs.Content.{TreeFacts, VolumeState, attributes_file, block_limit, facts_of, has_attributes, overflow_in_volume, overflow_of_content, records_of, sectors_in, tree_of_fork, volume_of}
use Rattle.hfs_volume.specs.Forks.{Owned, allocation_id, attributes_id, blocks_owned, catalog_id, data_kind, extents_of, parts_for, per_block_of, reserved_blocks, resource_kind, special_forks}
use Rattle.hfs_volume.specs.Links.{private_id}
use Rattle.hfs_volume.specs.Records.{Placed, id_in, is_empty, is_file, is_folder, is_link, is_link_type, is_placed_at, is_thread, placed_in, special_of}
use Rattle.hfs_volume.specs.Reclaim.{IsTreeFork, blocks_at}
use Rattle.hfs_volume.specs.Sound.{IsSound, IsSoundVolume}
use Rattle.hfs_volume.specs.TreeOf.{file_bytes, tree_in, tree_of}
use Rattle.hfs_volume.specs.Writing.{CutsBlocks, file_after, file_before}
use Rattle.hfs_volume.proofs.BlockWants.{in_range}
use Rattle.hfs_volume.proofs.Flat.{found_some, some_same}
use Rattle.hfs_volume.proofs.Making.{pairs_split}
use Rattle.hfs_volume.proofs.Members.{each_of}
use Rattle.hfs_volume.proofs.Rereading.{same_tree}
use Rattle.hfs_volume.proofs.Sectors.{in_block, in_front}
use Rattle.hfs_volume.proofs.Swapping.{private_same}
use Rattle.hfs_volume.proofs.Untouched.{HasWholeBlocks, whole_blocks}
use Rattle.volume_base.specs.Changing.{ReplacesRecord}
use Rattle.volume_base.specs.Cutting.{IsCutOf, cut_fork_of, fork_at, with_freed}
use Rattle.volume_space.specs.Cutting.{MayGive, PutsGiven, given_back}
use Rattle.volume_base.specs.Lists.{bits_on, facts_on, lists_of}
use Rattle.volume_base.specs.Mapping.{HoldsMap}
use Rattle.volume_base.specs.Standing.{IsSettled, IsStanding, attribute_sectors, file_sectors, map_sectors, with_attributes_tree}
use Rattle.volume_space.specs.Spreading.{StoresExtents}
use Rattle.volume_base.specs.Spreading.{StoresFork}
use Rattle.volume_base.specs.declared.cutting.Cut.{Cut}
use Rattle.volume_base.specs.declared.entries.Entry.{Entry}
use Rattle.volume_base.specs.declared.volume.Volume.{Volume}
use Rattle.volume_base.proofs.CutLists.{after_is, cut_lists, cuts}
use Rattle.volume_space.proofs.GivenBack.{flips_given}
use Rattle.volume_space.proofs.GrownBits.{bit_elsewhere, bits_read}
use Rattle.volume_base.proofs.Placing.{stands_once}
use Rattle.volume_base.proofs.Resettling.{bits_at, lists_anew, settles}

named_so : {parent : ℕ} {name : List ℕ} {rec : CatRecord} {old : VolumeState} {pairs : List Pair} → IsSoundVolume old → (u : UpdatesEntry parent name rec old.catalog_pairs pairs) → (file : FileRecord) → u.entry.value ≡ File file → is_empty u.entry.name ≡ false
named_so {parent} {name} {rec} {old} sound u file value =
    sym (each_of (λ (p : Placed). is_thread p.value ≡ is_empty p.name) (records_of old) sound.entries.threads.kinds u.entry (found_some (is_placed_at parent name) (records_of old) u.entry u.found).0) ∙ ap is_thread value

-- another fork leaves a file's record of its kind
alike_for : (entry : Placed) (file : FileRecord) (value : entry.value ≡ File file) (any : ForkRecord) (kind : ℕ) → (kind ≡ data_kind) ⊎ (kind ≡ resource_kind) → SameKind entry (record entry { value = File (with_fork kind any file) })
alike_for entry file value any kind (inl is) = subst (λ n. SameKind entry (record entry { value = File (with_fork n any file) })) (sym is) (record {
  place = (refl, refl);
  kind = (sym (ap is_folder value), sym (ap is_file value));
  id = sym (ap id_in value);
  link = sym (ap (λ (v : CatRecord). is_link (record entry { value = v })) value);
  reference = λ _. sym (ap (λ (v : CatRecord). special_of (record entry { value = v })) value);
})
alike_for entry file value any kind (inr is) = subst (λ n. SameKind entry (record entry { value = File (with_fork n any file) })) (sym is) (record {
  place = (refl, refl);
  kind = (sym (ap is_folder value), sym (ap is_file value));
  id = sym (ap id_in value);
  link = sym (ap (λ (v : CatRecord). is_link (record entry { value = v })) value);
  reference = λ _. sym (ap (λ (v : CatRecord). special_of (record entry { value = v })) value);
})

module _ (v x w : Volume) (a c e d : Space) (was : IsStanding v a) (settled : IsSettled v a.content) (entry : Entry) (file : FileRecord) (list : List Extent) (kind keep : ℕ) (cut : Cut) (may : MayGive cut.goes v) (unchanged : v.map.changed ≡ none (sectors_for (length v.map.used)))
    (is_kind : (kind ≡ data_kind) ⊎ (kind ≡ resource_kind)) (is_list : list ≡ extents_of (overflow_in_volume (volume_of a.content)) file.fields.id kind (fork_at kind file)) (is_cut : IsCutOf list (fork_at kind file) keep cut) (no_link : is_link_type file.fields ≡ false)
    (there : value_at (lists_of v a.content).catalog_pairs entry.parent entry.name ≡ Some entry.rec) (is : entry.rec ≡ File file)
    (puts : PutsGiven (given_back cut.goes v) a.content c.content) (stores : StoresExtents file.fields.id kind cut.stays (given_back cut.goes v) x c.content e.content)
    (replaces : ReplacesRecord entry (File (with_fork kind (cut_fork_of v.header.block_size (fork_at kind file) cut) file)) x w e.content d.content)
    (stands : IsStanding w d)
  where
    abbrev old : VolumeState
    old = volume_of a.content

    abbrev pairs : List Pair
    pairs = (lists_of w d.content).catalog_pairs

    abbrev tree : TreeFacts
    tree = facts_on w.catalog.file

    head_is : (volume_of a.content).head ≡ v.header
    head_is = ap (λ (l : VolumeState). l.head) settled.lists

    pairs_are : (lists_of x e.content).catalog_pairs ≡ (volume_of a.content).catalog_pairs
    pairs_are = ap (λ (l : VolumeState). l.catalog_pairs) stores.lists ∙ ap (λ (l : VolumeState). l.catalog_pairs) puts.lists ∙ sym (ap (λ (l : VolumeState). l.catalog_pairs) settled.lists)

    pub updates : UpdatesEntry entry.parent entry.name (File (with_fork kind (cut_fork_of (volume_of a.content).head.block_size (fork_at kind file) cut) file)) (volume_of a.content).catalog_pairs (lists_of w d.content).catalog_pairs
    updates = subst (λ (k : ℕ × List Pair). UpdatesEntry entry.parent entry.name (File (with_fork kind (cut_fork_of k.0 (fork_at kind file) cut) file)) k.1 (lists_of w d.content).catalog_pairs)
        {x = (v.header.block_size, (lists_of x e.content).catalog_pairs)} {y = ((volume_of a.content).head.block_size, (volume_of a.content).catalog_pairs)} (λ i. ((sym head_is i).block_size, pairs_are i)) replaces.updates

    there_now : value_at (volume_of a.content).catalog_pairs entry.parent entry.name ≡ Some (File file)
    there_now = ap (λ (l : VolumeState). value_at l.catalog_pairs entry.parent entry.name) settled.lists ∙ there ∙ ap Some is

    pub found_value : {rec : CatRecord} (u : UpdatesEntry entry.parent entry.name rec (volume_of a.content).catalog_pairs (lists_of w d.content).catalog_pairs) → u.entry.value ≡ File file
    found_value u = some_same u.entry.value (File file) (sym (ap (option_map (λ (p : Placed). p.value)) u.found) ∙ there_now)

    pub nodes : HasSameNodes (volume_of a.content).catalog_tree (facts_on w.catalog.file)
    nodes = record {
      total = replaces.changes.nodes.0 ∙ ap (λ (y : Volume). y.catalog.file.shape.total) stores.rest ∙ sym (ap (λ (l : VolumeState). l.catalog_tree.shape.total) settled.lists);
      size = replaces.changes.nodes.1 ∙ ap (λ (y : Volume). y.catalog.file.shape.node_size) stores.rest ∙ sym (ap (λ (l : VolumeState). l.catalog_tree.shape.node_size) settled.lists);
    }

    pub extents_nodes : HasSameNodes (volume_of a.content).extents_tree (facts_on x.extents.file)
    extents_nodes = record {
      total = stores.file.total ∙ sym (ap (λ (l : VolumeState). l.extents_tree.shape.total) settled.lists);
      size = stores.file.node_size ∙ sym (ap (λ (l : VolumeState). l.extents_tree.shape.node_size) settled.lists);
    }

    -- the overflow records that it leads to
    abbrev pub more_pairs : List Pair
    more_pairs = (lists_of x e.content).overflow_pairs

    pub stored : StoresFork file.fields.id kind cut.stays (volume_of a.content).overflow_pairs (lists_of x e.content).overflow_pairs
    stored = subst (λ (l : List Pair). StoresFork file.fields.id kind cut.stays l (lists_of x e.content).overflow_pairs) (ap (λ (l : VolumeState). l.overflow_pairs) puts.lists ∙ sym (ap (λ (l : VolumeState). l.overflow_pairs) settled.lists)) stores.stores

    -- the lists that it leads to
    abbrev pub lists_cut : VolumeState
    lists_cut = cut_lists (volume_of a.content) settled.sound kind keep entry.parent entry.name file list cut (lists_of w d.content).catalog_pairs (facts_on w.catalog.file) (lists_of x e.content).overflow_pairs (facts_on x.extents.file) (bits_on (given_back cut.goes v)) updates (found_value updates) no_link is_kind is_list is_cut nodes stored extents_nodes

    pub does : CutsBlocks file.fields.id kind is_cut.last.left cut.goes.count (volume_of a.content) lists_cut
    does = cuts (volume_of a.content) settled.sound kind keep entry.parent entry.name file list cut (lists_of w d.content).catalog_pairs (facts_on w.catalog.file) (lists_of x e.content).overflow_pairs (facts_on x.extents.file) (bits_on (given_back cut.goes v)) updates (found_value updates) no_link is_kind is_list is_cut nodes stored extents_nodes
        (flips_given cut.goes v may unchanged a was settled _ _ refl refl)

    pub does_after : (file_after does.puts ≡ with_fork kind (cut_fork_of (volume_of a.content).head.block_size (fork_at kind file) cut) file) × (file_before does.puts ≡ file)
    unfolding does
    does_after = after_is (volume_of a.content) settled.sound kind keep entry.parent entry.name file list cut (lists_of w d.content).catalog_pairs (facts_on w.catalog.file) (lists_of x e.content).overflow_pairs (facts_on x.extents.file) (bits_on (given_back cut.goes v)) updates (found_value updates) no_link is_kind is_list is_cut nodes stored extents_nodes
        (flips_given cut.goes v may unchanged a was settled _ _ refl refl)

    -- behind the record, header, bits and bitmap are those of the volume that gave the run back
    rest_is : w ≡ record (given_back cut.goes v) { extents = x.extents; catalog = w.catalog }
    rest_is = replaces.rest ∙ (λ i. record (stores.rest i) { catalog = w.catalog })

    pub header_same : w.header ≡ with_freed cut.goes.count v.header
    header_same = ap (λ (y : Volume). y.header) rest_is

    lists_then : record (lists_of w d.content) { attributes_tree = (volume_of a.content).attributes_tree } ≡ lists_cut
    lists_then =
        (λ i. record (replaces.changes.lists i) { attributes_tree = (volume_of a.content).attributes_tree })
        ∙ (λ i. record (stores.lists i) { head = w.header; catalog_pairs = (lists_of w d.content).catalog_pairs; catalog_tree = facts_on w.catalog.file; attributes_tree = (volume_of a.content).attributes_tree })
        ∙ (λ i. record (puts.lists i) { head = w.header; catalog_pairs = (lists_of w d.content).catalog_pairs; catalog_tree = facts_on w.catalog.file; overflow_pairs = (lists_of x e.content).overflow_pairs; extents_tree = facts_on x.extents.file; attributes_tree = (volume_of a.content).attributes_tree })
        ∙ (λ i. record (lists_of (given_back cut.goes v) a.content) { head = header_same i; catalog_pairs = (lists_of w d.content).catalog_pairs; catalog_tree = facts_on w.catalog.file; overflow_pairs = (lists_of x e.content).overflow_pairs; extents_tree = facts_on x.extents.file; attributes_tree = (volume_of a.content).attributes_tree })
        ∙ sym (λ i. record (settled.lists i) { head = with_freed cut.goes.count (settled.lists i).head; catalog_pairs = (lists_of w d.content).catalog_pairs; catalog_tree = facts_on w.catalog.file; overflow_pairs = (lists_of x e.content).overflow_pairs; extents_tree = facts_on x.extents.file; bits = bits_on (given_back cut.goes v) })

    -- ---- what is read

    pub headed : header_of_volume d.content ≡ w.header
    headed = replaces.headed ∙ stores.headed ∙ puts.headed ∙ sym header_same

    catalog_same : sectors_of_tree x.catalog.file ≡ sectors_of_tree v.catalog.file
    catalog_same = ap (λ (y : Volume). sectors_of_tree y.catalog.file) stores.rest

    -- a sector of the bitmap is neither the header's nor one of the catalog's or of the extents overflow file's
    map_off : (s : ℕ) → Contains (map_sectors v) s → (s ≢ 2) × (Contains (sectors_of_tree v.catalog.file) s → ⊥) × (Contains (sectors_of_tree v.extents.file) s → ⊥)
    map_off s has = (
      λ two. omega (arith, counted, stands_once s (map_sectors v) has, stands_once s (2 ∷ []) (0, omega arith, sym two)),
      λ other. omega (arith, counted, stands_once s (map_sectors v) has, stands_once s (sectors_of_tree v.catalog.file) other),
      λ other. omega (arith, counted, stands_once s (map_sectors v) has, stands_once s (sectors_of_tree v.extents.file) other),
    )
      where
        counted : times s (2 ∷ []) + (times s (sectors_of_tree v.extents.file) + (times s (sectors_of_tree v.catalog.file) + (times s (attribute_sectors v) + times s (map_sectors v)))) ≤ 1
        counted = omega (
          arith,
          was.apart s,
          times-append s (2 ∷ []) (file_sectors v),
          times-append s (sectors_of_tree v.extents.file) (sectors_of_tree v.catalog.file ++ (attribute_sectors v ++ map_sectors v)),
          times-append s (sectors_of_tree v.catalog.file) (attribute_sectors v ++ map_sectors v),
          times-append s (attribute_sectors v) (map_sectors v),
        )

    replaced_elsewhere : (s : ℕ) → s ≢ 2 → (Contains (sectors_of_tree v.catalog.file) s → ⊥) → (Contains (sectors_of_tree v.extents.file) s → ⊥) → sector d.content s ≡ sector c.content s
    replaced_elsewhere s differs none_there none_more =
        ⊎_elim (λ same. same) (λ has. absurd (⊎_elim differs (λ here. none_there (subst (λ (l : List ℕ). Contains l s) catalog_same here)) has)) (replaces.changes.outside.each s)
        ∙ ⊎_elim (λ same. same) (λ has. absurd (none_more has)) (stores.outside.each s)

    pub elsewhere : (s : ℕ) → s ≢ 2 → (Contains (sectors_of_tree v.catalog.file) s → ⊥) → (Contains (sectors_of_tree v.extents.file) s → ⊥) → (Contains (map_sectors v) s → ⊥) → sector d.content s ≡ sector a.content s
    elsewhere s differs none_there none_more nor = replaced_elsewhere s differs none_there none_more ∙ ⊎_elim (λ same. same) (λ has. absurd (⊎_elim differs nor has)) (puts.outside.each s)

    holds : HoldsMap w d.content
    holds = subst (λ (y : Volume). HoldsMap y d.content) (sym rest_is) (λ k low.
        bit_elsewhere (map_sectors v) c.content d.content (λ s has. replaced_elsewhere s (map_off s has).0 (map_off s has).1 (map_off s has).2) k ∙ puts.holds k low)

    fits : length w.map.used ≤ 8 * w.header.allocation_fork.logical_size
    fits = omega (
      arith,
      stands.blocks,
      settled.sound.blocks.files.bits,
      ap (λ (l : VolumeState). l.head.total_blocks) settled.lists,
      ap (λ (l : VolumeState). l.head.allocation_fork.logical_size) settled.lists,
      ap (λ (h : VolumeHeader). h.total_blocks) header_same,
      ap (λ (h : VolumeHeader). h.allocation_fork.logical_size) header_same,
    )

    bits : bits_at d.content w ≡ bits_on w
    bits = bits_read w d stands headed fits holds

    -- the lists of the content are these, but for the numbers of the attributes' tree where there is none
    pub volume_now : volume_of d.content ≡ with_attributes_tree lists_cut (volume_of d.content)
    volume_now = lists_anew w d stands headed bits ∙ (λ i. with_attributes_tree (lists_then i) (volume_of d.content))

    private : private_id (placed_in (lists_of w d.content).catalog_pairs) ≡ private_id (records_of (volume_of a.content))
    private =
        let split = pairs_split updates.entry (record updates.entry { value = File (with_fork kind (cut_fork_of (volume_of a.content).head.block_size (fork_at kind file) cut) file) }) updates.pair updates.other (volume_of a.content).catalog_pairs (lists_of w d.content).catalog_pairs updates.swapped updates.is_entry.stands updates.is_other.stands in
        ap private_id split.is
        ∙ private_same updates.entry (File (with_fork kind (cut_fork_of (volume_of a.content).head.block_size (fork_at kind file) cut) file)) split.front split.back
        (named_so settled.sound updates file (found_value updates)) (alike_for updates.entry file (found_value updates) (cut_fork_of (volume_of a.content).head.block_size (fork_at kind file) cut) kind is_kind)
        ∙ sym (ap private_id split.was)

    module _ (sound : IsSoundVolume lists_cut) where
      pub settled_now : IsSettled w d.content
      settled_now = settles w d stands headed bits (volume_of a.content).attributes_tree (λ has. settled.attributes (subst (λ (h : VolumeHeader). IsTrue (has_attributes h)) header_same has) ∙ attributes_file_same) (subst IsSoundVolume (sym lists_then) sound)
          (ap (λ (y : Volume). y.private) rest_is ∙ settled.private ∙ sym private)
        where
          attributes_file_same : facts_on v.attributes.file ≡ facts_on w.attributes.file
          attributes_file_same = sym (ap (λ (y : Volume). facts_on y.attributes.file) rest_is)
