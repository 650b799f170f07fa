-- A volume that came into service stands over its content, and has what the content has.
use Rattle.std.proofs.Common.{◌≡◌, ◌⊎◌, ◌<◌, ◌≤◌, ℕ, zero, suc, ◌+◌, ◌-◌, ◌*◌, ◌/◌, ◌%◌, ◌++◌, Bool, true, false, List, [], ◌∷◌, length, map, replicate, get_or, refl, sym, ◌∙◌, ap, subst, arith, ⊎_elim}
use Rattle.std.specs.Prelude.{Contains, IsTrue, Option, Some, None, slice_get, if◌then◌else◌}
use Rattle.std.specs.List.{flat_map, range_with_len}
use Rattle.std.proofs.lemmas.Bool.{cases_lt}
use Rattle.std.proofs.lemmas.List.{ext_get_or, get_or-map, length-map, length-append, length-replicate, get_or_append_left, get_or-append_right}
use Rattle.std.proofs.lemmas.List.FromFn.{length-range_with_len, get_or-range_with_len}
use Rattle.std.proofs.lemmas.Option.{slice_get_within, get_or_from_slice_get}
use Rattle.hx_bytes.specs.declared.extents.Extent.{Extent}
use Rattle.volume_header.specs.declared.header.VolumeHeader.{VolumeHeader}
use Rattle.volume_header.specs.Header.{header_of}
use Rattle.sector_disk.specs.Lists.{Content, sector}
use Rattle.sector_disk.specs.Space.{Space}
use Rattle.jnl_format.specs.Recovery.{header_of_volume, info_sector_of}
use Rattle.flag_rows.specs.Bits.{bit_of}
use Rattle.flag_rows.proofs.ByteLaws.{bit_past}
use Rattle.fork_map.specs.Blocks.{blocks_of, sectors_of, fork_sectors}
use Rattle.alloc_bitmap.specs.Apart.{AreApart}
use Rattle.alloc_bitmap.specs.Fork.{fork_bit, sector_or_none}
use Rattle.btree_node.specs.Levels.{Pair}
use Rattle.btree_node.specs.Tree.{pairs_of}
use Rattle.btree_node.specs.Keys.{IsCatalogKey, IsExtentKey, IsAttrKey, catalog_cmp, extent_cmp, attr_cmp, is_eight_extents, anything}
use Rattle.btree_node.specs.TreeFile.{store_of, extents_form, catalog_form, attributes_form}
use Rattle.btree_file.specs.Standing.{HoldsTree, pairs_in}
use Rattle.btree_file.specs.State.{sectors_of_tree}
use Rattle.hfs_volume.specs.Aside.{IsJournalSector}
use Rattle.hfs_volume.specs.Content.{VolumeState, TreeFacts, volume_of, records_of, overflow_in_volume, overflow_of_content, extents_file, catalog_file, attributes_file, facts_of, has_attributes, is_set, bit_in, bit_of_sector, bitmap_sectors, block_limit, block_sector, sectors_in, journal_place}
use Rattle.hfs_volume.specs.Forks.{per_block_of, extents_of, data_kind, extents_id, catalog_id, allocation_id, attributes_id, special_forks}
use Rattle.hfs_volume.specs.Links.{private_id}
use Rattle.hfs_volume.specs.Records.{placed_in, overflow_of}
use Rattle.volume_base.specs.Lists.{lists_of}
use Rattle.volume_base.specs.Opening.{IsServable, IsOpened}
use Rattle.volume_base.specs.Standing.{AreWhole, HasItsForks, IsStanding, IsSettled, file_sectors, own_sectors, own_sectors_in, with_attributes_tree}
use Rattle.volume_base.specs.declared.volume.Volume.{Volume}
use Rattle.volume_base.proofs.Bridging.{whole_sector}
use Rattle.volume_base.proofs.Opened.{each_sector, sectors_are, extents_hold, extents_pairs, extents_facts, overflow_told, catalog_holds, catalog_pairs_are, catalog_compares, catalog_facts, attributes_hold, attribute_pairs_are, attribute_facts}
use Rattle.volume_base.proofs.SoundForks.{own_apart, own_extents, journal_apart, aside_apart, files_of, own_inside, geometry_of}

module _ (volume : Volume) (content : Content) (good : IsServable content) (opened : IsOpened volume content) where
  abbrev head : VolumeHeader
  head = header_of_volume content

  -- ---- the sectors that are its own

  extents_sectors : sectors_of_tree volume.extents.file ≡ sectors_in content (extents_of [] extents_id data_kind head.extents_fork)
  extents_sectors = sectors_are content good extents_id head.extents_fork volume.extents.file opened.extents ∙ ap (λ (es : List Extent). sectors_in content es) (sym (own_extents content good.sound))

  map_sectors_are : fork_sectors volume.map.fork volume.map.per_block ≡ sectors_in content (extents_of (overflow_of_content content) allocation_id data_kind head.allocation_fork)
  map_sectors_are = λ i. sectors_of (opened.map_per i) (blocks_of (opened.map i))

  attribute_sectors_are : (if has_attributes volume.header then sectors_of_tree volume.attributes.file else []) ≡ (if has_attributes head then sectors_in content (extents_of (overflow_of_content content) attributes_id data_kind head.attributes_fork) else [])
  attribute_sectors_are =
      ap (λ h. if has_attributes h then sectors_of_tree volume.attributes.file else []) opened.header
      ∙ by (has_attributes head) (λ has. sectors_are content good attributes_id head.attributes_fork volume.attributes.file (opened.attributes has))
    where
      by : (b : Bool) → (b ≡ true → sectors_of_tree volume.attributes.file ≡ sectors_in content (extents_of (overflow_of_content content) attributes_id data_kind head.attributes_fork))
          → (if b then sectors_of_tree volume.attributes.file else []) ≡ (if b then sectors_in content (extents_of (overflow_of_content content) attributes_id data_kind head.attributes_fork) else [])
      by true same = same refl
      by false same = refl

  pub own_is : own_sectors volume ≡ own_sectors_in content
  own_is = λ i. 2 ∷ extents_sectors i ++ (sectors_are content good catalog_id head.catalog_fork volume.catalog.file opened.catalog i ++ (attribute_sectors_are i ++ map_sectors_are i))

  overflow_here : overflow_in_volume (lists_of volume content) ≡ overflow_of_content content
  overflow_here = overflow_told content good volume.extents.file opened.extents

  -- ---- it stands

  abbrev HoldsExtents : Content → Type 0
  HoldsExtents c = HoldsTree extents_form IsExtentKey is_eight_extents extent_cmp volume.extents.file c

  abbrev HoldsCatalog : Content → Type 0
  HoldsCatalog c = HoldsTree catalog_form IsCatalogKey anything catalog_cmp volume.catalog.file c

  abbrev HoldsAttributes : Content → Type 0
  HoldsAttributes c = HoldsTree attributes_form IsAttrKey anything attr_cmp volume.attributes.file c

  forks : HasItsForks volume content
  forks = record {
    extents = opened.extents.extents ∙ sym (own_extents content good.sound) ∙ ap (λ (h : VolumeHeader). extents_of [] extents_id data_kind h.extents_fork) (sym opened.header);
    extents_per = opened.extents.per_block ∙ ap per_block_of (sym opened.header);
    catalog = opened.catalog.extents ∙ (λ i. extents_of (sym overflow_here i) catalog_id data_kind (sym opened.header i).catalog_fork);
    catalog_per = opened.catalog.per_block ∙ ap per_block_of (sym opened.header);
    attributes = λ has. let there : IsTrue (has_attributes head) = subst (λ h. IsTrue (has_attributes h)) opened.header has in (opened.attributes there).extents ∙ (λ i. extents_of (sym overflow_here i) attributes_id data_kind (sym opened.header i).attributes_fork);
    attributes_per = λ has. let there : IsTrue (has_attributes head) = subst (λ h. IsTrue (has_attributes h)) opened.header has in (opened.attributes there).per_block ∙ ap per_block_of (sym opened.header);
    map = opened.map ∙ (λ i. extents_of (sym overflow_here i) allocation_id data_kind (sym opened.header i).allocation_fork);
    map_per = opened.map_per ∙ ap per_block_of (sym opened.header);
  }

  in_blocks : (at : ℕ) → Contains (file_sectors volume) at → at < block_limit content
  in_blocks at has = own_inside content good.sound at (subst (λ (l : List ℕ). Contains l at) files_are has)
    where
      files_are : file_sectors volume ≡ files_of content good.sound
      files_are = λ i. extents_sectors i ++ (sectors_are content good catalog_id head.catalog_fork volume.catalog.file opened.catalog i ++ (attribute_sectors_are i ++ map_sectors_are i))

  pub stands : (space : Space) → space.content ≡ content → ((at : ℕ) → space.closed at → IsJournalSector content at) → ((at : ℕ) → space.live at → Contains (own_sectors_in content) at) → IsStanding volume space
  stands space here closed live = record {
    trees = record {
      extents = subst (λ (c : Content). HoldsExtents c) (sym here) (extents_hold content good volume.extents.file opened.extents);
      catalog = subst (λ (c : Content). HoldsCatalog c) (sym here) (catalog_holds content good volume.catalog.file opened.catalog);
      compare = catalog_compares content good volume.catalog.file opened.catalog;
      attributes = λ has. let there : IsTrue (has_attributes head) = subst (λ h. IsTrue (has_attributes h)) opened.header has in
          subst (λ (c : Content). HoldsAttributes c) (sym here) (attributes_hold content good there volume.attributes.file (opened.attributes there));
    };
    forks = subst (λ (c : Content). HasItsForks volume c) (sym here) forks;
    whole = subst (λ (c : Content). AreWhole c) (sym here) good.whole;
    apart = subst (λ (l : List ℕ). AreApart l) (sym own_is) (own_apart content good.sound);
    blocks = opened.blocks ∙ ap (λ (h : VolumeHeader). h.total_blocks) (sym opened.header);
    closed = λ at is has. journal_apart content good.sound at (closed at is) (subst (λ (l : List ℕ). Contains l at) own_is has);
    aside = λ at is has. aside_apart content good.sound at (subst (λ (k : ℕ × VolumeHeader). (at ≡ k.0 - 2) ⊎ (at ≡ info_sector_of k.1)) {x = (length space.content, volume.header)} {y = (length content, header_of_volume content)} (λ i. (length (here i), opened.header i)) is) (subst (λ (l : List ℕ). Contains l at) own_is has);
    large = subst (λ (c : Content). 2 < length c) (sym here) (omega (arith, (geometry_of content good.sound).large));
    inside = λ at has. subst (λ (h : VolumeHeader). at < h.total_blocks * per_block_of h) (sym opened.header) (in_blocks at has);
    fit = subst (λ (k : Content × VolumeHeader). k.1.total_blocks * per_block_of k.1 ≤ length k.0) {x = (content, header_of_volume content)} {y = (space.content, volume.header)} (λ i. (sym here i, sym opened.header i)) (geometry_of content good.sound).inside;
    live = λ at is. subst (λ (l : List ℕ). Contains l at) (sym own_is) (live at is);
  }

  -- ---- what it keeps is what the content has

  bit_same : (k : ℕ) (o : Option ℕ) → slice_get (bitmap_sectors content) (k / 4096) ≡ o → bit_of_sector content (k % 4096) o ≡ bit_of (sector_or_none content o) (k % 4096)
  unfolding bit_of_sector
  bit_same k None found = sym (bit_past [] (k % 4096) (omega arith))
  bit_same k (Some at) found =
      let low = slice_get_within (bitmap_sectors content) (k / 4096) at found in
      let there = each_sector content good allocation_id head.allocation_fork (2, omega arith, refl) at (k / 4096, low, get_or_from_slice_get (bitmap_sectors content) (k / 4096) at at found) in
      ap (λ (s : List ℕ). bit_of s (k % 4096)) (whole_sector content (block_limit content) at there.0 there.1)

  bit_is : (k : ℕ) → k < length volume.map.used → bit_in content (bitmap_sectors content) k ≡ get_or volume.map.used k false
  unfolding bit_in
  bit_is k low = bit_same k (slice_get (bitmap_sectors content) (k / 4096)) refl ∙ ap (λ (xs : List ℕ). fork_bit content xs k) (sym map_sectors_are) ∙ opened.bits k low

  abbrev bits : List Bool
  bits = map (bit_in content (bitmap_sectors content)) (range_with_len 0 (8 * head.allocation_fork.logical_size))

  many : length bits ≡ 8 * head.allocation_fork.logical_size
  many = length-map (range_with_len 0 (8 * head.allocation_fork.logical_size)) (bit_in content (bitmap_sectors content)) ∙ length-range_with_len 0 (8 * head.allocation_fork.logical_size)

  bit_at : (k : ℕ) → k < 8 * head.allocation_fork.logical_size → get_or bits k false ≡ bit_in content (bitmap_sectors content) k
  bit_at k low =
      get_or-map (bit_in content (bitmap_sectors content)) (range_with_len 0 (8 * head.allocation_fork.logical_size)) k 0 false (omega (arith, low, length-range_with_len 0 (8 * head.allocation_fork.logical_size)))
      ∙ ap (bit_in content (bitmap_sectors content)) (get_or-range_with_len 0 (8 * head.allocation_fork.logical_size) k 0 low ∙ omega arith)

  total_fits : length volume.map.used ≤ 8 * head.allocation_fork.logical_size
  unfolding volume_of
  total_fits = omega (arith, opened.blocks, good.sound.volume.blocks.files.bits)

  behind_clear : (k : ℕ) → length volume.map.used ≤ k → get_or bits k false ≡ false
  unfolding volume_of
  behind_clear k high = good.sound.volume.blocks.files.no_more k (omega (arith, high, opened.blocks))

  bits_are : bits ≡ volume.map.used ++ replicate (8 * head.allocation_fork.logical_size - length volume.map.used) false
  bits_are = ext_get_or false bits (volume.map.used ++ replicate (8 * head.allocation_fork.logical_size - length volume.map.used) false)
      (omega (arith, many, total_fits, length-append volume.map.used (replicate (8 * head.allocation_fork.logical_size - length volume.map.used) false), length-replicate (8 * head.allocation_fork.logical_size - length volume.map.used) false))
      (λ k low. ⊎_elim
      (λ (less : k < length volume.map.used). bit_at k (omega (arith, less, total_fits)) ∙ bit_is k less ∙ sym (get_or_append_left volume.map.used (replicate (8 * head.allocation_fork.logical_size - length volume.map.used) false) false k less))
      (λ (more : length volume.map.used ≤ k). behind_clear k more ∙ sym (get_or-append_right volume.map.used (replicate (8 * head.allocation_fork.logical_size - length volume.map.used) false) (length volume.map.used) k false refl more
      ∙ clear (8 * head.allocation_fork.logical_size - length volume.map.used) (k - length volume.map.used)))
      (cases_lt k (length volume.map.used)))
    where
      clear : (n k : ℕ) → get_or (replicate n false) k false ≡ false
      clear zero k = refl
      clear (suc n) zero = refl
      clear (suc n) (suc k) = clear n k

  attributes_lists : (if has_attributes head then pairs_of (store_of (attributes_file content)) else []) ≡ (if has_attributes volume.header then pairs_in (sectors_of_tree volume.attributes.file) content else [])
  attributes_lists =
      by (has_attributes head) (λ has. sym (attribute_pairs_are content good has volume.attributes.file (opened.attributes has)))
      ∙ ap (λ (h : VolumeHeader). if has_attributes h then pairs_in (sectors_of_tree volume.attributes.file) content else []) (sym opened.header)
    where
      by : (b : Bool) → (b ≡ true → pairs_of (store_of (attributes_file content)) ≡ pairs_in (sectors_of_tree volume.attributes.file) content)
          → (if b then pairs_of (store_of (attributes_file content)) else []) ≡ (if b then pairs_in (sectors_of_tree volume.attributes.file) content else [])
      by true same = same refl
      by false same = refl

  lists_are : volume_of content ≡ with_attributes_tree (lists_of volume content) (volume_of content)
  unfolding volume_of
  lists_are = λ i. record {
    sectors = length content;
    head = sym opened.header i;
    alternate = header_of (sector content (length content - 2));
    journal = journal_place (sector content (info_sector_of (sym opened.header i)));
    overflow_pairs = sym (extents_pairs content good volume.extents.file opened.extents) i;
    catalog_pairs = sym (catalog_pairs_are content good volume.catalog.file opened.catalog) i;
    attribute_pairs = attributes_lists i;
    extents_tree = sym (extents_facts content good volume.extents.file opened.extents) i;
    catalog_tree = sym (catalog_facts content good volume.catalog.file opened.catalog) i;
    attributes_tree = facts_of (attributes_file content);
    bits = (bits_are ∙ ap (λ (h : VolumeHeader). volume.map.used ++ replicate (8 * h.allocation_fork.logical_size - length volume.map.used) false) (sym opened.header)) i;
  }

  pub settled : IsSettled volume content
  unfolding volume_of
  settled = record {
    blocks = opened.blocks ∙ ap (λ (h : VolumeHeader). h.total_blocks) (sym opened.header);
    lists = lists_are;
    attributes = λ has. let there : IsTrue (has_attributes head) = subst (λ h. IsTrue (has_attributes h)) opened.header has in sym (attribute_facts content good there volume.attributes.file (opened.attributes there));
    sound = good.sound.volume;
    private = opened.private ∙ ap (λ (ps : List Pair). private_id (placed_in ps)) (catalog_pairs_are content good volume.catalog.file opened.catalog);
  }
