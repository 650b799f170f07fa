-- A link whose target was put into free blocks, whose record was added and whose folder counts it: the volume is settled again, its tree is the step's, and
-- of all forks its own alone has other blocks.
use Rattle.std.proofs.Common.{◌≡◌, ◌≢◌, ◌⊎◌, inl, inr, ◌<◌, ◌≤◌, ℕ, ◌+◌, ◌-◌, ◌*◌, ◌/◌, ◌++◌, Bool, true, false, List, [], ◌∷◌, length, take, refl, sym, ◌∙◌, ap, subst, arith, ⊎_elim}
use Rattle.std.specs.Prelude.{Contains, IsTrue, Ok, Some, Result, drop, nat_lt, slice_index_or, if◌then◌else◌}
use Rattle.std.proofs.Math.Nat.{div-eq_of_lt, div-le_self, zero-div}
use Rattle.std.proofs.lemmas.List.{take_all}
use Rattle.std.proofs.lemmas.Bool.{true≢false}
use Rattle.std.proofs.lemmas.List.Elements.{Contains-append_left, Contains-append_right}
use Rattle.alloc_bitmap.specs.Fork.{fork_bit}
use Rattle.alloc_bitmap.specs.Map.{BlockMap, free_of}
use Rattle.alloc_bitmap.proofs.ApartLaws.{times-append}
use Rattle.alloc_bitmap.proofs.TakeLaws.{picks_chosen}
use Rattle.btree_file.specs.State.{sectors_of_tree}
use Rattle.btree_node.specs.Levels.{Pair}
use Rattle.cat_records.specs.Fits.{FitsFile}
use Rattle.file_io.specs.Bytes.{bytes_in as bytes_at, fork_bytes as bytes_of_fork, padded, sector_bytes, sectors_in}
use Rattle.file_io.specs.Places.{AreUsed, fresh_of, taken}
use Rattle.file_io.proofs.KeepLaws.{keeps_taken}
use Rattle.flag_rows.specs.Bits.{count_set, sectors_for}
use Rattle.fork_map.specs.Blocks.{blocks_of, sectors_of}
use Rattle.hfs_language.specs.declared.refusal.Refusal.{Refusal}
use Rattle.hfs_language.specs.declared.reply.Reply.TheVariants as reply
use Rattle.hfs_model.specs.Kinds.{kind_step, made_link, to_symlink}
use Rattle.hfs_model.specs.Step.{Place, on, to_make}
use Rattle.hfs_model.specs.Targets.{is_target}
use Rattle.hfs_model.specs.declared.kinds.KindEdit.TheVariants as edit
use Rattle.hfs_model.specs.declared.plain.PlainTree.{PlainTree}
use Rattle.hx_bytes.specs.declared.extents.Extent.{Extent}
use Rattle.hx_bytes.specs.declared.extents.ForkRecord.{ForkRecord}
use Rattle.jnl_format.specs.Recovery.{header_of_volume}
use Rattle.overflow.specs.Records.{eight_at}
use Rattle.sector_disk.specs.Lists.{Content, sector}
use Rattle.sector_disk.specs.Space.{AgreesOutside, Space}
use Rattle.volume_header.specs.declared.header.VolumeHeader.{VolumeHeader}
use Rattle.hfs_volume.specs.Blocks.{used_in}
use Rattle.hfs_volume.specs.Changes.{AddsEntry, AreSorted, FlipsBits, HasSameNodes, with_free}
use Rattle.hfs_volume.specs.Commands.{ChangesFields, IsTouched, with_made}
use Rattle.hfs_volume.specs.Content.{VolumeState, block_bytes, block_limit, fork_bytes, has_attributes, is_set, overflow_in_volume, volume_of}
use Rattle.hfs_volume.specs.Data.{AreFresh, PutsInForkOf}
use Rattle.hfs_volume.specs.Forks.{Owned, all_forks, attributes_id, blocks_owned, data_kind, extents_of, parts_for, per_block_of}
use Rattle.hfs_volume.specs.Kinds.{SymlinkDoes}
use Rattle.hfs_volume.specs.Reclaim.{GrowsBy, GrowsTrees}
use Rattle.hfs_volume.specs.Sound.{IsSoundVolume}
use Rattle.hfs_volume.specs.Weight.{Data, first_block, new_blocks_of, old_blocks_of}
use Rattle.hfs_volume.specs.Writing.{RewritePuts, RewritesFork}
use Rattle.hfs_volume.specs.TreeOf.{bytes_in, bytes_in_fork, tree_in, tree_of}
use Rattle.hfs_volume.proofs.Apart.{among, fork_is_used}
use Rattle.hfs_volume.proofs.Bytes.{file_bytes_are}
use Rattle.hfs_volume.proofs.Flat.{flat_agree}
use Rattle.hfs_volume.proofs.Members.{each_of}
use Rattle.hfs_volume.proofs.Sectors.{in_block}
use Rattle.hfs_volume.proofs.Untouched.{special_stands, whole_blocks}
use Rattle.volume_base.specs.Changing.{ChangesCatalog, TouchesFolder}
use Rattle.volume_base.specs.DataWeighing.{target_of}
use Rattle.volume_base.specs.Lists.{bits_on, facts_on, lists_of}
use Rattle.volume_base.specs.Making.{AddsRecord, IsSite, free_place, new_link_value, no_fork}
use Rattle.volume_base.specs.Mapping.{HoldsMap, PutsMap}
use Rattle.volume_base.specs.Standing.{IsSettled, IsStanding, attribute_sectors, file_sectors, map_sectors, own_sectors, with_attributes_tree}
use Rattle.volume_base.specs.declared.volume.Tree.{Tree}
use Rattle.volume_base.specs.declared.volume.Volume.{Volume}
use Rattle.volume_base.proofs.FileBytes.{same_bytes}
use Rattle.volume_base.proofs.FilesKept.{allocation_sectors, attributes_apart, attributes_off_map, attributes_sectors, catalog_sectors, tree_stays_used}
use Rattle.volume_base.proofs.ListsAfter.{changes_both}
use Rattle.volume_base.proofs.ListsAgain.{attributes_again}
use Rattle.volume_base.proofs.MapBits.{bit_elsewhere, bits_read}
use Rattle.volume_base.proofs.Placing.{stands_once}
use Rattle.volume_base.proofs.Resettling.{bits_at, lists_anew, settles}
use Rattle.volume_base.proofs.TreesSettled.{header_settled}
use Rattle.volume_space.proofs.GrownFree.{below_product}
use Rattle.volume_space.proofs.PutStages.{fresh_fit}
use Rattle.volume_space.proofs.SpilledBits.{fresh_are, spilled_flips}
use Rattle.volume_values.proofs.FreshOff.{off_fresh}
use Rattle.volume_links.proofs.LinkBare.{link_entry, link_file}
use Rattle.volume_step.proofs.Kept.{Keeps}
use Rattle.volume_links.specs.Links.{LeavesLink}
use Rattle.volume_links.proofs.LinkPlace.{has_name, not_own, not_private, other_number}
use Rattle.volume_links.proofs.Staged.{keeps_it, link_keeps_forks, link_user, made, made_sound, makes_link, makes_target, private_staged, writes}
use Rattle.volume_links.proofs.Symlinked.{place_is}

abbrev stepped : PlainTree → List ℕ → Result Place Refusal → PlainTree
stepped tree value r = (on tree r (λ at. (reply.Ok, made_link at value tree))).1

module _ (law : SymlinkDoes) (v w x : Volume) (a e : Space) (m m2 c : Content) (was : IsStanding v a) (settled : IsSettled v a.content) (stands : IsStanding x e) (n : ℕ) (enough : n ≤ count_set (free_of v.map)) (marks : length v.map.changed ≡ sectors_for (length v.map.used)) (least : 512 ≤ v.header.block_size)
    (value : List ℕ) (more : List Extent) (blocks : blocks_of more ≡ blocks_of (fresh_of v.map n)) (few : length more ≤ 8) (bytes : take (length value) (bytes_of_fork m v.header.block_size more) ≡ value)
    (spilled : AgreesOutside (λ s. Contains (sectors_in v.header.block_size (fresh_of v.map n)) s) a.content m)
    (spilled_lists : lists_of (record v { map = taken n v.map }) m ≡ record (lists_of v a.content) { bits = bits_on (record v { map = taken n v.map }) })
    (map_put : PutsMap (record v { map = taken n v.map }) m m2) (free : ℕ) (counted : free + n ≡ v.header.free_blocks) (long : length value ≤ n * v.header.block_size)
    (fork : ForkRecord) (fork_is : fork ≡ record { logical_size = length value; clump_size = 0; total_blocks = n; extents = eight_at more 0 }) (fits : FitsFile (link_file v.header.next_catalog_id v.header.modify_date fork))
    (folder : ℕ) (name : List ℕ) (site : IsSite (tree_of a.content) folder name) (good : is_target value ≡ true)
    (adds : AddsRecord false (new_link_value v.header.next_catalog_id v.header.modify_date fork) folder name (record v { map = taken n v.map; header = record v.header { free_blocks = free } }) w m2 c) (sorted : AreSorted (lists_of w c).catalog_pairs)
    (t : TouchesFolder folder 1 0 w x c e.content) (sorted_new : AreSorted (lists_of x e.content).catalog_pairs)
  where
    abbrev o : VolumeState
    o = volume_of a.content

    abbrev spilled_volume : Volume
    spilled_volume = record v { map = taken n v.map }

    abbrev counted_volume : Volume
    counted_volume = record v { map = taken n v.map; header = record v.header { free_blocks = free } }

    abbrev fresh : List ℕ
    fresh = blocks_of (fresh_of v.map n)

    head_is : (volume_of a.content).head ≡ v.header
    head_is = ap (λ (l : VolumeState). l.head) settled.lists

    fresh_many : length (blocks_of (fresh_of v.map n)) ≡ n
    fresh_many = (picks_chosen (free_of v.map) n enough).count

    are_fresh : AreFresh (volume_of a.content) (blocks_of (fresh_of v.map n))
    are_fresh = fresh_are v a was settled n enough

    change : ChangesCatalog counted_volume x m2 e.content
    change = changes_both counted_volume w x m2 c e.content adds.changes t.changes

    -- ---- the lists that it leads to

    header_is : x.header ≡ with_free free v.header.next_allocation (with_made false v.header)
    header_is = ap (λ (y : Volume). y.header) t.rest ∙ adds.header

    headed : header_of_volume e.content ≡ x.header
    headed = t.headed ∙ adds.headed ∙ sym (ap (λ (y : Volume). y.header) t.rest)

    abbrev pub final : VolumeState
    final = record (volume_of a.content) {
      head = with_free free (volume_of a.content).head.next_allocation (with_made false (volume_of a.content).head);
      catalog_pairs = (lists_of x e.content).catalog_pairs;
      catalog_tree = facts_on x.catalog.file;
      bits = bits_on spilled_volume;
    }

    lists_told : record (lists_of x e.content) { attributes_tree = (volume_of a.content).attributes_tree } ≡ final
    lists_told =
        (λ i. record (change.lists i) { attributes_tree = (volume_of a.content).attributes_tree })
        ∙ (λ i. record (map_put.lists i) { head = x.header; catalog_pairs = (lists_of x e.content).catalog_pairs; catalog_tree = facts_on x.catalog.file; attributes_tree = (volume_of a.content).attributes_tree })
        ∙ (λ i. record (spilled_lists i) { head = x.header; catalog_pairs = (lists_of x e.content).catalog_pairs; catalog_tree = facts_on x.catalog.file; attributes_tree = (volume_of a.content).attributes_tree })
        ∙ sym (λ i. record (settled.lists i) { head = x.header; catalog_pairs = (lists_of x e.content).catalog_pairs; catalog_tree = facts_on x.catalog.file; bits = bits_on spilled_volume; attributes_tree = (volume_of a.content).attributes_tree })
        ∙ (λ i. record (volume_of a.content) { head = (header_is ∙ sym (ap (λ (h : VolumeHeader). with_free free h.next_allocation (with_made false h)) head_is)) i; catalog_pairs = (lists_of x e.content).catalog_pairs; catalog_tree = facts_on x.catalog.file; bits = bits_on spilled_volume })

    -- ---- the sectors

    map_same : map_sectors x ≡ map_sectors v
    map_same = ap (λ (m : BlockMap). map_sectors (record v { map = m })) change.map

    map_are : map_sectors v ≡ allocation_sectors (volume_of a.content)
    map_are = (λ i. sectors_of (was.forks.map_per i) (blocks_of (was.forks.map i))) ∙ sym (ap (λ (l : VolumeState). allocation_sectors l) settled.lists)

    catalog_are : sectors_of_tree v.catalog.file ≡ catalog_sectors (volume_of a.content)
    catalog_are = (λ i. sectors_of (was.forks.catalog_per i) (blocks_of (was.forks.catalog i))) ∙ sym (ap (λ (l : VolumeState). catalog_sectors l) settled.lists)

    once : (s : ℕ) → Contains (map_sectors x) s → (s ≡ 2) ⊎ Contains (sectors_of_tree x.catalog.file) s → ⊥
    once s here (inl two) =
        omega (
          arith,
          stands.apart s,
          times-append s (2 ∷ []) (file_sectors x),
          times-append s (sectors_of_tree x.extents.file) (sectors_of_tree x.catalog.file ++ (attribute_sectors x ++ map_sectors x)),
          times-append s (sectors_of_tree x.catalog.file) (attribute_sectors x ++ map_sectors x),
          times-append s (attribute_sectors x) (map_sectors x),
          stands_once s (map_sectors x) here,
          stands_once s (2 ∷ []) (0, omega arith, sym two),
        )
    once s here (inr there) =
        omega (
          arith,
          stands.apart s,
          times-append s (2 ∷ []) (file_sectors x),
          times-append s (sectors_of_tree x.extents.file) (sectors_of_tree x.catalog.file ++ (attribute_sectors x ++ map_sectors x)),
          times-append s (sectors_of_tree x.catalog.file) (attribute_sectors x ++ map_sectors x),
          times-append s (attribute_sectors x) (map_sectors x),
          stands_once s (map_sectors x) here,
          stands_once s (sectors_of_tree x.catalog.file) there,
        )

    -- the bitmap was put before the record
    map_stays : (s : ℕ) → Contains (map_sectors x) s → sector e.content s ≡ sector m2 s
    map_stays s here = ⊎_elim
        (λ same. same)
        (λ other. absurd (once s here (⊎_elim (λ two. inl two) (λ there. inr (subst (λ (l : List ℕ). Contains l s) (sym change.catalog) there)) other)))
        (change.outside.each s)

    bits_same : bits_on x ≡ bits_on spilled_volume
    bits_same = λ i. bits_on (record x { map = change.map i; header = header_is i })

    holds_end : HoldsMap x e.content
    holds_end k low =
        ap (λ (l : List ℕ). fork_bit e.content l k) map_same
        ∙ bit_elsewhere (map_sectors v) m2 e.content (λ s here. map_stays s (subst (λ (l : List ℕ). Contains l s) (sym map_same) here)) k
        ∙ map_put.holds k (omega (arith, low, ap (λ (l : List Bool). length l) bits_same))
        ∙ sym (ap (λ (l : List Bool). slice_index_or l k false) bits_same)

    bits_fit : length x.map.used ≤ 8 * x.header.allocation_fork.logical_size
    bits_fit = omega (
      arith,
      stands.blocks,
      settled.sound.blocks.files.bits,
      ap (λ (h : VolumeHeader). h.total_blocks) header_is,
      ap (λ (h : VolumeHeader). h.allocation_fork.logical_size) header_is,
      ap (λ (h : VolumeHeader). h.total_blocks) head_is,
      ap (λ (h : VolumeHeader). h.allocation_fork.logical_size) head_is,
    )

    bits : bits_at e.content x ≡ bits_on x
    bits = bits_read x e stands headed bits_fit holds_end

    volume_now : volume_of e.content ≡ with_attributes_tree final (volume_of e.content)
    volume_now = lists_anew x e stands headed bits ∙ (λ i. with_attributes_tree (lists_told i) (volume_of e.content))

    -- ---- what stays

    per_some : 0 < per_block_of v.header
    per_some = omega (arith, least)

    fresh_block : (s : ℕ) → Contains (sectors_of (per_block_of v.header) (blocks_of (fresh_of v.map n))) s → Contains (blocks_of (fresh_of v.map n)) (s / per_block_of v.header)
    fresh_block s here = in_block (per_block_of v.header) (blocks_of (fresh_of v.map n)) s per_some here

    fresh_low : (block : ℕ) → Contains (blocks_of (fresh_of v.map n)) block → block < v.header.total_blocks
    fresh_low block here = omega (arith, each_of (λ (k : ℕ). k < (volume_of a.content).head.total_blocks) fresh are_fresh.inside block here, ap (λ (h : VolumeHeader). h.total_blocks) head_is)

    -- no fresh block is in use
    fresh_unused : (block : ℕ) → Contains (blocks_of (fresh_of v.map n)) block → Contains (used_in (volume_of a.content)) block → ⊥
    fresh_unused block here in_use_too =
        true≢false (sym (settled.sound.blocks.bits.bits block (each_of (λ (k : ℕ). k < (volume_of a.content).head.total_blocks) fresh are_fresh.inside block here) ∙ among (used_in (volume_of a.content)) block in_use_too) ∙ each_of (λ (k : ℕ). is_set (volume_of a.content) k ≡ false) fresh are_fresh.free block here)

    -- behind the spill the header, the catalog and the bitmap alone are others
    moved : (s : ℕ) → (sector e.content s ≡ sector m s) ⊎ ((s ≡ 2) ⊎ (Contains (sectors_of_tree v.catalog.file) s ⊎ Contains (map_sectors v) s))
    moved s = by (change.outside.each s) (map_put.outside.each s)
      where
        by : (sector e.content s ≡ sector m2 s) ⊎ ((s ≡ 2) ⊎ Contains (sectors_of_tree v.catalog.file) s) → (sector m2 s ≡ sector m s) ⊎ Contains (map_sectors v) s → (sector e.content s ≡ sector m s) ⊎ ((s ≡ 2) ⊎ (Contains (sectors_of_tree v.catalog.file) s ⊎ Contains (map_sectors v) s))
        by (inr (inl two)) before = inr (inl two)
        by (inr (inr there)) before = inr (inr (inl there))
        by (inl same) (inr map) = inr (inr (inr map))
        by (inl same) (inl before) = inl (same ∙ before)

    -- a sector of a block in use is as it was, but for those
    stays_used : (s : ℕ) → s ≢ 2 → (Contains (catalog_sectors (volume_of a.content)) s → ⊥) → (Contains (allocation_sectors (volume_of a.content)) s → ⊥) → Contains (used_in (volume_of a.content)) (s / per_block_of (volume_of a.content).head) → sector e.content s ≡ sector a.content s
    stays_used s differs off_catalog off_map used =
        ⊎_elim (λ same. same) (λ other. absurd (⊎_elim (λ two. differs two) (λ one. ⊎_elim (λ there. off_catalog (subst (λ (l : List ℕ). Contains l s) catalog_are there)) (λ map. off_map (subst (λ (l : List ℕ). Contains l s) map_are map)) one) other)) (moved s)
        ∙ ⊎_elim (λ same. same) (λ here. absurd (fresh_unused (s / per_block_of v.header) (fresh_block s here) (subst (λ (h : VolumeHeader). Contains (used_in (volume_of a.content)) (s / per_block_of h)) head_is used))) (spilled.each s)

    -- ---- the attributes file

    abbrev own_attributes : Owned
    own_attributes = record { id = attributes_id; kind = data_kind; fork = (volume_of a.content).head.attributes_fork }

    attributes_still : (s : ℕ) → Contains (attributes_sectors (volume_of a.content)) s → sector e.content s ≡ sector a.content s
    attributes_still s has =
        let apart = attributes_apart (volume_of a.content) settled.sound s has in
        stays_used s apart.0 apart.1 (λ map. attributes_off_map (volume_of a.content) settled.sound s has map)
        (fork_is_used (volume_of a.content) own_attributes (s / per_block_of (volume_of a.content).head) (special_stands (volume_of a.content) own_attributes (4, omega arith, refl))
        (in_block (per_block_of (volume_of a.content).head) (blocks_owned (overflow_in_volume (volume_of a.content)) own_attributes) s (whole_blocks (volume_of a.content).sectors (volume_of a.content).head settled.sound.blocks.header.accepted).some has))

    limit_same : block_limit e.content ≡ block_limit a.content
    limit_same = ap (λ (h : VolumeHeader). h.total_blocks * per_block_of h) (headed ∙ header_is) ∙ sym (ap (λ (h : VolumeHeader). h.total_blocks * per_block_of h) (header_settled v a.content settled))

    attributes_same : (volume_of e.content).attributes_tree ≡ (volume_of a.content).attributes_tree
    attributes_same = attributes_again a.content e.content limit_same (ap (λ (l : VolumeState). attributes_sectors l) volume_now) attributes_still

    pub volume_is : volume_of e.content ≡ final
    volume_is = volume_now ∙ (λ i. record final { attributes_tree = attributes_same i })

    -- ---- the bytes

    stays : tree_in (volume_of a.content) (bytes_in e.content) ≡ tree_of a.content
    unfolding tree_of
    stays =
        tree_stays_used (volume_of a.content) settled.sound a.content e.content
        (record {
          overflow = refl;
          total = ap (λ (h : VolumeHeader). h.total_blocks) (header_settled v a.content settled ∙ sym head_is);
          block = ap (λ (h : VolumeHeader). h.block_size) (header_settled v a.content settled ∙ sym head_is);
        })
        (record {
          overflow = ap (λ (l : VolumeState). l.overflow_pairs) volume_now;
          total = ap (λ (h : VolumeHeader). h.total_blocks) (headed ∙ header_is) ∙ ap (λ (h : VolumeHeader). h.total_blocks) (sym head_is);
          block = ap (λ (h : VolumeHeader). h.block_size) (headed ∙ header_is) ∙ ap (λ (h : VolumeHeader). h.block_size) (sym head_is);
        })
        (λ s differs off_catalog off_attributes off_map used. stays_used s differs off_catalog off_map used)

    at_two : (s : ℕ) → s ≡ 2 → Contains (own_sectors v) s
    at_two s is = (0, omega arith, sym is)

    in_catalog : (s : ℕ) → Contains (sectors_of_tree v.catalog.file) s → Contains (own_sectors v) s
    in_catalog s here = Contains-append_right (2 ∷ sectors_of_tree v.extents.file) (sectors_of_tree v.catalog.file ++ (attribute_sectors v ++ map_sectors v)) s
        (Contains-append_left (sectors_of_tree v.catalog.file) (attribute_sectors v ++ map_sectors v) s here)

    in_map : (s : ℕ) → Contains (map_sectors v) s → Contains (own_sectors v) s
    in_map s here = Contains-append_right (2 ∷ sectors_of_tree v.extents.file) (sectors_of_tree v.catalog.file ++ (attribute_sectors v ++ map_sectors v)) s
        (Contains-append_right (sectors_of_tree v.catalog.file) (attribute_sectors v ++ map_sectors v) s (Contains-append_right (attribute_sectors v) (map_sectors v) s here))

    stays_fresh : (s : ℕ) → Contains (sectors_of (per_block_of v.header) (blocks_of (fresh_of v.map n))) s → sector e.content s ≡ sector m s
    stays_fresh s here = ⊎_elim
        (λ same. same)
        (λ other. absurd (off_fresh v a was settled n enough s here (⊎_elim (λ two. at_two s two) (λ one. ⊎_elim (λ there. in_catalog s there) (λ map. in_map s map) one) other)))
        (moved s)

    fresh_sector : (s : ℕ) → Contains (sectors_of (per_block_of v.header) (blocks_of (fresh_of v.map n))) s → sector_bytes e.content s ≡ sector_bytes m s
    unfolding sector_bytes
    fresh_sector s here = ap (λ (l : List ℕ). take 512 (padded 512 l)) (stays_fresh s here)

    -- ---- the law

    pairs_are : (lists_of counted_volume m2).catalog_pairs ≡ (volume_of a.content).catalog_pairs
    pairs_are = ap (λ (l : VolumeState). l.catalog_pairs) map_put.lists ∙ ap (λ (l : VolumeState). l.catalog_pairs) spilled_lists ∙ sym (ap (λ (l : VolumeState). l.catalog_pairs) settled.lists)

    pub added : AddsEntry (link_entry folder name (volume_of a.content).head.next_catalog_id (volume_of a.content).head.modify_date fork) (volume_of a.content).catalog_pairs (lists_of w c).catalog_pairs
    added = subst (λ (k : VolumeHeader × List Pair). AddsEntry (link_entry folder name k.0.next_catalog_id k.0.modify_date fork) k.1 (lists_of w c).catalog_pairs) {x = (v.header, (lists_of counted_volume m2).catalog_pairs)} {y = ((volume_of a.content).head, (volume_of a.content).catalog_pairs)} (λ i. (sym head_is i, pairs_are i)) adds.adds

    nodes : HasSameNodes (volume_of a.content).catalog_tree (facts_on w.catalog.file)
    nodes = record {
      total = adds.changes.nodes.0 ∙ sym (ap (λ (l : VolumeState). l.catalog_tree.shape.total) settled.lists);
      size = adds.changes.nodes.1 ∙ sym (ap (λ (l : VolumeState). l.catalog_tree.shape.node_size) settled.lists);
    }

    moment : w.header.modify_date ≡ (volume_of a.content).head.modify_date
    moment = ap (λ (h : VolumeHeader). h.modify_date) adds.header ∙ sym (ap (λ (h : VolumeHeader). h.modify_date) head_is)

    abbrev touched : ChangesFields folder (IsTouched (volume_of a.content).head.modify_date 1 0) (record (volume_of a.content) { head = with_made false (volume_of a.content).head; catalog_pairs = (lists_of w c).catalog_pairs; catalog_tree = facts_on w.catalog.file })
        (record (volume_of a.content) { head = with_made false (volume_of a.content).head; catalog_pairs = (lists_of x e.content).catalog_pairs; catalog_tree = facts_on x.catalog.file })
    touched = record {
      entry = t.counts.entry;
      before = t.counts.before;
      after = t.counts.after;
      has = t.counts.has;
      is_entry = t.counts.is_entry;
      fields = subst (λ k. IsTouched k 1 0 t.counts.before t.counts.after) moment t.counts.fields;
      changes = record { changes = t.counts.changes.changes; nodes = t.counts.changes.nodes; rest = refl };
    }

    link_fits : FitsFile (link_file (volume_of a.content).head.next_catalog_id (volume_of a.content).head.modify_date fork)
    link_fits = subst (λ (h : VolumeHeader). FitsFile (link_file h.next_catalog_id h.modify_date fork)) (sym head_is) fits

    may : to_make (tree_in (volume_of a.content) (bytes_in e.content)) site.path ≡ Ok (free_place folder name)
    may = ap (λ (tree : PlainTree). to_make tree site.path) stays ∙ site.allowed

    none_given : AreUsed v.map (blocks_of [])
    none_given k d low = absurd (omega (arith, low))

    flips : FlipsBits (blocks_of (fresh_of v.map n)) [] (volume_of a.content) (record (volume_of a.content) { bits = bits_on spilled_volume })
    flips = spilled_flips v a was settled n enough [] (fresh_fit v.map n) tt none_given (taken n v.map) (keeps_taken v.map n marks) refl

    total_is : fork.total_blocks ≡ length (blocks_of more)
    total_is = ap (λ (f : ForkRecord). f.total_blocks) fork_is ∙ sym fresh_many ∙ sym (ap (λ (l : List ℕ). length l) blocks)

    counts : free + length (blocks_of (fresh_of v.map n)) ≡ (volume_of a.content).head.free_blocks
    counts = omega (arith, counted, fresh_many, ap (λ (h : VolumeHeader). h.free_blocks) head_is)

    holds : fork.logical_size ≤ length (blocks_of more) * (volume_of a.content).head.block_size
    holds = subst (λ (k : ℕ × VolumeHeader). fork.logical_size ≤ k.0 * k.1.block_size) {x = (n, v.header)} {y = (length (blocks_of more), (volume_of a.content).head)}
        (λ i. ((sym fresh_many ∙ sym (ap (λ (l : List ℕ). length l) blocks)) i, sym head_is i)) (omega (arith, long, ap (λ (f : ForkRecord). f.logical_size) fork_is))

    gets : fork.extents ≡ eight_at more 0
    gets = ap (λ (f : ForkRecord). f.extents) fork_is

    other : link_entry folder name (volume_of a.content).head.next_catalog_id (volume_of a.content).head.modify_date fork ≡ t.counts.entry → ⊥
    other = other_number a.content settled.sound folder name site t.counts.entry t.counts.before t.counts.has t.counts.is_entry fork

    -- ---- the target is the bytes of its file

    blocks_end : blocks_of (extents_of (overflow_in_volume (volume_of e.content)) (volume_of a.content).head.next_catalog_id data_kind fork) ≡ blocks_of (fresh_of v.map n)
    blocks_end =
        ap (λ (l : VolumeState). blocks_of (extents_of (overflow_in_volume l) (volume_of a.content).head.next_catalog_id data_kind fork)) volume_now
        ∙ (keeps_it folder name fork (volume_of a.content) (lists_of w c).catalog_pairs (lists_of x e.content).catalog_pairs (facts_on w.catalog.file) (facts_on x.catalog.file) link_fits added nodes sorted sorted_new touched other (bytes_in e.content) (file_bytes_are e.content) settled.sound site.path site.not_own site.named may (has_name a.content settled.sound folder name site) (not_private a.content settled.sound folder name site no_fork) free (bits_on spilled_volume) fresh more are_fresh counts gets few total_is holds blocks flips).blocks
        ∙ blocks

    bytes_end : bytes_in_fork e.content (volume_of a.content).head.next_catalog_id data_kind fork ≡ value
    unfolding bytes_in_fork
    bytes_end =
        ap (λ k. take k (fork_bytes e.content (extents_of (overflow_in_volume (volume_of e.content)) (volume_of a.content).head.next_catalog_id data_kind fork))) (ap (λ (f : ForkRecord). f.logical_size) fork_is)
        ∙ ap (take (length value)) (
        (λ i. block_bytes e.content (((headed ∙ header_is) i).total_blocks * per_block_of ((headed ∙ header_is) i)) (sectors_of (per_block_of ((headed ∙ header_is) i)) (blocks_end i)))
        ∙ same_bytes e.content (v.header.total_blocks * per_block_of v.header) (sectors_of (per_block_of v.header) (blocks_of (fresh_of v.map n))) (λ s here. below_product s (per_block_of v.header) v.header.total_blocks per_some (fresh_low (s / per_block_of v.header) (fresh_block s here)))
        ∙ flat_agree (λ s. sector_bytes e.content s) (λ s. sector_bytes m s) (sectors_of (per_block_of v.header) (blocks_of (fresh_of v.map n))) fresh_sector
        ∙ ap (λ (l : List ℕ). bytes_at m (sectors_of (per_block_of v.header) l)) (sym blocks)
        )
        ∙ bytes

    file_end : (bytes_in e.content).file (link_file (volume_of a.content).head.next_catalog_id (volume_of a.content).head.modify_date fork) ≡ record { data_bytes = value; resource_bytes = [] }
    unfolding bytes_in_fork
    file_end = λ i. record { data_bytes = bytes_end i; resource_bytes = [] }

    place : to_symlink (tree_in (volume_of a.content) (bytes_in e.content)) site.path value ≡ Ok (free_place folder name)
    place = place_is (tree_in (volume_of a.content) (bytes_in e.content)) site.path value (free_place folder name) may good

    does : IsSoundVolume final × (tree_in final (bytes_in e.content) ≡ (kind_step (tree_in (volume_of a.content) (bytes_in e.content)) (edit.Symlink site.path value)).1)
    does = law site.path value (free_place folder name) fresh (volume_of a.content) final (bytes_in e.content) (bytes_in e.content) (file_bytes_are e.content) (file_bytes_are e.content) settled.sound site.not_own site.named place
        (makes_link folder name fork (volume_of a.content) (lists_of w c).catalog_pairs (lists_of x e.content).catalog_pairs (facts_on w.catalog.file) (facts_on x.catalog.file) link_fits added nodes sorted sorted_new touched other (bytes_in e.content) (file_bytes_are e.content) settled.sound site.path site.not_own site.named may (has_name a.content settled.sound folder name site) (not_private a.content settled.sound folder name site no_fork) free (bits_on spilled_volume) fresh more are_fresh counts gets few total_is holds blocks flips)
        (makes_target folder name fork (volume_of a.content) (lists_of w c).catalog_pairs (lists_of x e.content).catalog_pairs (facts_on w.catalog.file) (facts_on x.catalog.file) link_fits added nodes sorted sorted_new touched other (bytes_in e.content) (file_bytes_are e.content) settled.sound site.path site.not_own site.named may (has_name a.content settled.sound folder name site) (not_private a.content settled.sound folder name site no_fork) free (bits_on spilled_volume) fresh more are_fresh counts gets few total_is holds blocks flips value file_end)

    has_still : IsTrue (has_attributes x.header) → IsTrue (has_attributes v.header)
    has_still there = subst (λ (h : VolumeHeader). IsTrue (has_attributes h)) header_is there

    pub link_settled : IsSettled x e.content
    link_settled = settles x e stands headed bits (volume_of a.content).attributes_tree (λ there. settled.attributes (has_still there) ∙ sym (ap (λ (k : Tree). facts_on k.file) change.attributes)) (subst IsSoundVolume (sym lists_told) does.0)
        (change.private ∙ settled.private ∙ sym (private_staged folder name fork (volume_of a.content) (lists_of w c).catalog_pairs (lists_of x e.content).catalog_pairs (facts_on w.catalog.file) (facts_on x.catalog.file) link_fits added nodes sorted sorted_new touched other (bytes_in e.content) (file_bytes_are e.content) settled.sound site.path site.not_own site.named may (has_name a.content settled.sound folder name site) (not_private a.content settled.sound folder name site no_fork)))

    pub link_tree : tree_of e.content ≡ made_link (free_place folder name) value (tree_of a.content)
    unfolding tree_of
    link_tree =
        ap (λ (l : VolumeState). tree_in l (bytes_in e.content)) volume_is ∙ does.1 ∙ ap (λ (tree : PlainTree). (kind_step tree (edit.Symlink site.path value)).1) stays
        ∙ ap (stepped (tree_of a.content) value) (place_is (tree_of a.content) site.path value (free_place folder name) site.allowed good)

    -- ---- what it leaves

    module _ (puts : RewritePuts) (many : n ≡ parts_for (length value) v.header.block_size) where
      abbrev put : Data
      put = target_of (volume_of a.content) (length value)

      block_is : (volume_of a.content).head.block_size ≡ v.header.block_size
      block_is = ap (λ (h : VolumeHeader). h.block_size) head_is

      no_first : first_block (volume_of a.content).head.block_size put ≡ 0
      no_first = zero-div (volume_of a.content).head.block_size

      no_parts : parts_for 0 (volume_of a.content).head.block_size ≡ 0
      no_parts = div-eq_of_lt {n = 0 + (volume_of a.content).head.block_size - 1} {m = (volume_of a.content).head.block_size} (omega (arith, block_is, least))

      no_old : old_blocks_of (volume_of a.content).head.block_size put ≡ 0
      no_old = omega (arith, no_parts, no_first)

      all_new : length (blocks_of (fresh_of v.map n)) ≡ new_blocks_of (volume_of a.content).head.block_size put
      all_new = omega (arith, fresh_many, many, ap (parts_for (length value)) block_is, no_first, either (nat_lt 0 (length value)))
        where
          either : (b : Bool) → (if b then parts_for (length value) (volume_of a.content).head.block_size else parts_for (length value) (volume_of a.content).head.block_size) ≡ parts_for (length value) (volume_of a.content).head.block_size
          either true = refl
          either false = refl

      abbrev made_first : VolumeState
      made_first = made folder name fork (volume_of a.content) (lists_of w c).catalog_pairs (lists_of x e.content).catalog_pairs (facts_on w.catalog.file) (facts_on x.catalog.file) link_fits added nodes sorted sorted_new touched other

      keeps : Keeps (volume_of a.content) made_first
      keeps = link_keeps_forks folder name fork (volume_of a.content) (lists_of w c).catalog_pairs (lists_of x e.content).catalog_pairs (facts_on w.catalog.file) (facts_on x.catalog.file) link_fits added nodes sorted sorted_new touched other (bytes_in e.content) (file_bytes_are e.content) settled.sound site.path site.not_own site.named may (has_name a.content settled.sound folder name site) (not_private a.content settled.sound folder name site no_fork)

      written : RewritesFork put.id data_kind (first_block (volume_of a.content).head.block_size put) (old_blocks_of (volume_of a.content).head.block_size put) fresh made_first final
      written = subst (λ (k : ℕ × ℕ). RewritesFork put.id data_kind k.0 k.1 fresh made_first final) {x = (0, 0)} {y = (first_block (volume_of a.content).head.block_size put, old_blocks_of (volume_of a.content).head.block_size put)} (λ i. (sym no_first i, sym no_old i))
          (writes folder name fork (volume_of a.content) (lists_of w c).catalog_pairs (lists_of x e.content).catalog_pairs (facts_on w.catalog.file) (facts_on x.catalog.file) link_fits added nodes sorted sorted_new touched other (bytes_in e.content) (file_bytes_are e.content) settled.sound site.path site.not_own site.named may (has_name a.content settled.sound folder name site) (not_private a.content settled.sound folder name site no_fork) free (bits_on spilled_volume) fresh more are_fresh counts gets few total_is holds blocks flips)

      forks_made : PutsInForkOf data_kind (Some put) made_first final
      forks_made = puts data_kind put fresh made_first final (made_sound folder name fork (volume_of a.content) (lists_of w c).catalog_pairs (lists_of x e.content).catalog_pairs (facts_on w.catalog.file) (facts_on x.catalog.file) link_fits added nodes sorted sorted_new touched other (bytes_in e.content) (file_bytes_are e.content) settled.sound site.path site.not_own site.named may (has_name a.content settled.sound folder name site) (not_private a.content settled.sound folder name site no_fork))
          (link_user folder name fork (volume_of a.content) (lists_of w c).catalog_pairs (lists_of x e.content).catalog_pairs (facts_on w.catalog.file) (facts_on x.catalog.file) link_fits added nodes sorted sorted_new touched other (bytes_in e.content) (file_bytes_are e.content) settled.sound site.path site.not_own site.named may (has_name a.content settled.sound folder name site) (not_private a.content settled.sound folder name site no_fork) (not_own a.content settled.sound folder name site)) written all_new

      forks_put : PutsInForkOf data_kind (Some put) (volume_of a.content) final
      forks_put = (
        record {
          fresh = forks_made.0.fresh;
          are_fresh = record { inside = forks_made.0.are_fresh.inside; free = forks_made.0.are_fresh.free; once = forks_made.0.are_fresh.once };
          many = forks_made.0.many;
          is = forks_made.0.is
              ∙ (λ i. take (first_block (volume_of a.content).head.block_size put) (keeps.forks.blocks put.id data_kind i)
              ++ (forks_made.0.fresh ++ drop (first_block (volume_of a.content).head.block_size put + old_blocks_of (volume_of a.content).head.block_size put) (keeps.forks.blocks put.id data_kind i)));
        },
        λ id kind user differs. forks_made.1 id kind user differs ∙ keeps.forks.blocks id kind,
      )

      grows_by : (more : ℕ) (xs : List ℕ) → more ≡ 0 → GrowsBy more xs xs
      grows_by more xs none = record { front = take_all (length xs) xs (omega arith); longer = omega (arith, none) }

      nothing : (size block : ℕ) → 0 * size / block ≡ 0
      nothing size block = omega (arith, div-le_self (0 * size) block)

      trees : GrowsTrees (0 ∷ 0 ∷ 0 ∷ []) (volume_of a.content) final
      unfolding all_forks
      trees = record {
        extents = record { nodes = omega arith; blocks = grows_by _ _ (nothing (volume_of a.content).extents_tree.shape.node_size (volume_of a.content).head.block_size) };
        catalog = record {
          nodes = omega (arith, nodes.total, t.counts.changes.nodes.total);
          blocks = grows_by _ _ (nothing (volume_of a.content).catalog_tree.shape.node_size (volume_of a.content).head.block_size);
        };
        attributes = record { nodes = omega arith; blocks = grows_by _ _ (nothing (volume_of a.content).attributes_tree.shape.node_size (volume_of a.content).head.block_size) };
      }

      pub link_leaves : LeavesLink (length value) (volume_of a.content) (volume_of e.content)
      link_leaves = subst (λ (l : VolumeState). LeavesLink (length value) (volume_of a.content) l) (sym volume_is) (record {
        grows = trees;
        forks = forks_put;
        values = λ id name. refl;
        journal = refl;
        flags = refl;
        numbers = record { signature = refl; version = refl; last_mounted = refl; info_block = refl; block_size = refl; total_blocks = refl; bit_12 = refl; bit_13 = refl; bit_15 = refl };
      })
