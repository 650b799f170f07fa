-- The header and the blocks of a volume that was just made, in its content.
use Rattle.alloc_bitmap.proofs.ApartLaws.{times-append}
use Rattle.hfs_volume.specs.Values.{blocks_of_values}
use Rattle.std.proofs.Common.{◌≡◌, ℕ, ◌+◌, ◌-◌, ◌*◌, ◌/◌, ◌^◌, ◌<◌, ◌≤◌, false, List, [], length, map, IsTrue, refl, sym, ◌∙◌, ap, subst, arith, ⊎_elim, mul_assoc, ◌++◌}
use Rattle.std.specs.List.{All, AllByRecursion, range_with_len}
use Rattle.std.proofs.lemmas.Bool.{cases_lt}
use Rattle.std.proofs.lemmas.List.{get_or_past}
use Rattle.std.proofs.lemmas.List.Elements.{All-nil}
use Rattle.std.proofs.lemmas.List.FromFn.{length-map-range_with_len, get_or-map-range_with_len}
use Rattle.hx_bytes.specs.declared.extents.Extent.{Extent}
use Rattle.volume_header.specs.Header.{header_of}
use Rattle.volume_header.specs.declared.header.VolumeHeader.{VolumeHeader}
use Rattle.alloc_bitmap.specs.Apart.{times}
use Rattle.btree_node.specs.Codec.{head_of}
use Rattle.btree_node.specs.TreeFile.{TreeFile, TreeHead}
use Rattle.btree_node.specs.declared.codec.TreeHeader.{TreeHeader}
use Rattle.jnl_format.specs.Recovery.{Content, sector, header_of_volume}
use Rattle.hfs_model.specs.Fresh.{empty_tree, catalog_tree}
use Rattle.hfs_volume.specs.Records.{Overflow, Attribute}
use Rattle.hfs_volume.specs.Forks.{Owned, used_blocks, all_forks}
use Rattle.hfs_volume.specs.Content.{volume_of, overflow_in_volume, is_set, bit_in, bitmap_sectors, facts_of, extents_file, catalog_file, attributes_file}
use Rattle.hfs_volume.specs.Blocks.{HasBlocks, HasForks, HasFiles, HasBits, HasSizes, HasFork, HasTreeSize, GoesOn, GoOnBad, LieInside, IsGoodHeader, AgreesWith, used_in, forks_of, is_among, count_used, HasValueSizes}
use Rattle.volume_make.specs.declared.layout.Layout.{Layout}
use Rattle.volume_make.specs.Layout.{CanBe, IsFitting, layout_of, count_of, end_of, is_used}
use Rattle.volume_make.specs.Refusal.{is_name}
use Rattle.volume_make.specs.Texts.{special_fork, fresh_header}
use Rattle.volume_make.specs.Written.{IsFormatted}
use Rattle.volume_make.proofs.Fields.{header_back}
use Rattle.volume_make.proofs.Sizes.{each_size, fitting, layout_sectors}
use Rattle.fresh_volume.specs.Fresh.{HasFreshTrees, HasFreshRecords, fresh_records}
use Rattle.fresh_volume.proofs.Trees.{head_is, has_fresh_trees}
use Rattle.fresh_volume.proofs.EmptyJournal.{stands_for_itself}
use Rattle.fresh_volume.proofs.Bits.{some, has_fresh_bits}
use Rattle.fresh_volume.proofs.SixRecords.{has_fresh_records}
use Rattle.fresh_volume.proofs.RowCounts.{each_once, among_marked, used_counted, unmarked_past}
use Rattle.fresh_volume.proofs.NineForks.{nine_forks, nine, apart, all_sized, all_go_on, times_used}

-- the bytes of a part, by the sectors that it has
part_bytes : (layout : Layout) (part : Extent) (n : ℕ) → IsFitting layout → count_of layout part ≡ n → part.count * layout.block ≡ n * 512
part_bytes layout part n fit is =
    let whole : layout.block ≡ layout.block / 512 * 512 = each_size (λ m. m ≡ m / 512 * 512) refl refl refl refl refl refl refl refl layout.block fit.block_size in
    ap (λ (m : ℕ). part.count * m) whole ∙ sym (mul_assoc part.count (layout.block / 512) 512) ∙ ap (λ (m : ℕ). m * 512) is

tree_size : (layout : Layout) (part : Extent) (tree : TreeHeader) (file : TreeFile) → file.head ≡ head_of tree → part.count * layout.block ≡ tree.total_nodes * tree.node_size → HasTreeSize (fresh_header layout) (special_fork layout.block part) (facts_of file)
tree_size layout part tree file is size = record { blocks = refl; nodes = size ∙ sym (ap (λ (h : TreeHead). h.total * h.node_size) is) }

module _ (sectors block journal : ℕ) (name : List ℕ) (old new : Content) (size : length old ≡ sectors) (can : CanBe sectors block journal) (named : IsTrue (is_name name)) (units : AllByRecursion (λ unit. unit < 2 ^ 16) name) (made : IsFormatted (layout_of sectors block journal) name old new) where
  abbrev layout : Layout
  layout = layout_of sectors block journal

  fit : IsFitting layout
  fit = fitting sectors block journal can

  bitmap_some : 1 ≤ count_of layout layout.bitmap
  bitmap_some = some sectors block journal name old new can named made

  trees : HasFreshTrees sectors block journal name new
  trees = has_fresh_trees sectors block journal name old new can named made

  found : HasFreshRecords layout name new
  found = has_fresh_records sectors block journal name old new can named units made

  head_of_state : (volume_of new).head ≡ fresh_header layout
  unfolding volume_of
  head_of_state = head_is sectors block journal name old new can named made

  sectors_are : (volume_of new).sectors ≡ sectors
  unfolding volume_of
  sectors_are = made.size ∙ size

  -- ---- the header

  good_header : IsGoodHeader (volume_of new).sectors (volume_of new).head
  unfolding volume_of
  good_header =
      let next : (header_of_volume new).next_catalog_id ≡ 18 = ap (λ (h : VolumeHeader). h.next_catalog_id) (head_is sectors block journal name old new can named made) in
      record { accepted = (stands_for_itself sectors block journal name old new size can made).is_open.accepted; next_id = omega (arith, next) }

  alternate_is : (volume_of new).alternate ≡ fresh_header layout
  unfolding volume_of
  alternate_is =
      let long : length new ≡ layout.sectors = made.size ∙ size ∙ sym (layout_sectors sectors block journal) in
      ap (λ (n : ℕ). header_of (sector new (n - 2))) long ∙ ap header_of made.alternate ∙ header_back sectors block journal can

  agrees : AgreesWith (volume_of new).head (volume_of new).alternate
  agrees =
      let same : (volume_of new).alternate ≡ (volume_of new).head = alternate_is ∙ sym head_of_state in
      subst (λ (h : VolumeHeader). AgreesWith (volume_of new).head h) (sym same) (record { signature = refl; version = refl; block_size = refl; total_blocks = refl })

  -- ---- the blocks in use

  abbrev used : List ℕ
  used = used_in (volume_of new)

  no_values : (k : ℕ) → times k (blocks_of_values []) ≡ 0
  unfolding blocks_of_values
  no_values k = refl

  used_are : (k : ℕ) → times k used ≡ times k (range_with_len 0 (end_of layout.catalog)) + times k (range_with_len layout.last.start layout.last.count)
  used_are k =
      let same : used ≡ used_blocks sectors (fresh_header layout) (fresh_records layout name) [] ++ blocks_of_values [] = λ i. used_blocks (sectors_are i) (head_of_state i) (found.records i) (found.overflow i) ++ blocks_of_values (found.attributes i) in
      omega (arith, ap (λ (l : List ℕ). times k l) same, times-append k (used_blocks sectors (fresh_header layout) (fresh_records layout name) []) (blocks_of_values []), no_values k, times_used sectors block journal name can bitmap_some k)

  behind : end_of layout.catalog ≤ layout.last.start
  behind = apart sectors block journal name can

  marked : (k : ℕ) → is_among used k ≡ is_used layout k
  marked = among_marked used (end_of layout.catalog) layout.last behind used_are

  -- ---- the bits

  bits_size : 8 * (header_of_volume new).allocation_fork.logical_size ≡ 4096 * count_of layout layout.bitmap
  bits_size =
      let logical : (header_of_volume new).allocation_fork.logical_size ≡ layout.bitmap.count * layout.block = ap (λ (h : VolumeHeader). h.allocation_fork.logical_size) (head_is sectors block journal name old new can named made) in
      omega (arith, logical, part_bytes layout layout.bitmap (count_of layout layout.bitmap) fit refl)

  set_inside : (k : ℕ) → k < 4096 * count_of layout layout.bitmap → is_set (volume_of new) k ≡ is_used layout k
  unfolding volume_of
  set_inside k inside =
      get_or-map-range_with_len (bit_in new (bitmap_sectors new)) 0 (8 * (header_of_volume new).allocation_fork.logical_size) k k false (omega (arith, inside, bits_size)) (omega arith)
      ∙ has_fresh_bits sectors block journal name old new can named made k inside

  set_past : (k : ℕ) → 4096 * count_of layout layout.bitmap ≤ k → is_set (volume_of new) k ≡ false
  unfolding volume_of
  set_past k past =
      let count : ℕ = 8 * (header_of_volume new).allocation_fork.logical_size in
      get_or_past (map (bit_in new (bitmap_sectors new)) (range_with_len 0 count)) k false (omega (arith, past, bits_size, length-map-range_with_len (bit_in new (bitmap_sectors new)) 0 count))

  no_more : (k : ℕ) → layout.total ≤ k → is_set (volume_of new) k ≡ false
  no_more k past =
      ⊎_elim
      (λ (inside : k < 4096 * count_of layout layout.bitmap). set_inside k inside ∙ unmarked_past k (end_of layout.catalog) layout.last (omega (arith, past, fit.free)) (omega (arith, past, fit.last)))
      (λ (beyond : 4096 * count_of layout layout.bitmap ≤ k). set_past k beyond)
      (cases_lt k (4096 * count_of layout layout.bitmap))

  has_bits : HasBits (volume_of new)
  has_bits =
      let counted : count_used layout.total used ≡ end_of layout.catalog + layout.last.count = used_counted used (end_of layout.catalog) layout.total layout.last behind fit.last marked in
      record {
        bits = λ k below.
            let low : k < layout.total = subst (λ (h : VolumeHeader). k < h.total_blocks) head_of_state below in
            set_inside k (omega (arith, low, fit.bits)) ∙ sym (marked k);
        free = subst (λ (h : VolumeHeader). h.free_blocks + count_used h.total_blocks used ≡ h.total_blocks) (sym head_of_state) (omega (arith, counted, fit.free));
      }

  -- ---- the special files

  extents_size : HasTreeSize (volume_of new).head (volume_of new).head.extents_fork (volume_of new).extents_tree
  unfolding volume_of
  extents_size =
      subst (λ (h : VolumeHeader). HasTreeSize h h.extents_fork (facts_of (extents_file new))) (sym (head_is sectors block journal name old new can named made))
      (tree_size layout layout.extents (empty_tree block 10 2) (extents_file new) trees.extents.head (part_bytes layout layout.extents 128 fit fit.extents_room))

  catalog_size : HasTreeSize (volume_of new).head (volume_of new).head.catalog_fork (volume_of new).catalog_tree
  unfolding volume_of
  catalog_size =
      subst (λ (h : VolumeHeader). HasTreeSize h h.catalog_fork (facts_of (catalog_file new))) (sym (head_is sectors block journal name old new can named made))
      (tree_size layout layout.catalog (catalog_tree block 0) (catalog_file new) trees.catalog.head (part_bytes layout layout.catalog 512 fit fit.catalog_room))

  attributes_size : HasTreeSize (volume_of new).head (volume_of new).head.attributes_fork (volume_of new).attributes_tree
  unfolding volume_of
  attributes_size =
      subst (λ (h : VolumeHeader). HasTreeSize h h.attributes_fork (facts_of (attributes_file new))) (sym (head_is sectors block journal name old new can named made))
      (tree_size layout layout.attributes (empty_tree block 266 6) (attributes_file new) trees.attributes.head (part_bytes layout layout.attributes 128 fit fit.attributes_room))

  has_files : HasFiles (volume_of new)
  has_files = record {
    extents = extents_size;
    catalog = catalog_size;
    attributes = λ has. attributes_size;
    bits = subst (λ (h : VolumeHeader). h.total_blocks ≤ 8 * h.allocation_fork.logical_size) (sym head_of_state) (omega (arith, fit.bits, part_bytes layout layout.bitmap (count_of layout layout.bitmap) fit refl));
    no_more = λ k past. no_more k (subst (λ (h : VolumeHeader). h.total_blocks ≤ k) head_of_state past);
  }

  -- ---- the forks

  forks_are : forks_of (volume_of new) ≡ nine_forks layout
  forks_are =
      let same : forks_of (volume_of new) ≡ all_forks (fresh_header layout) (fresh_records layout name) = λ i. all_forks (head_of_state i) (found.records i) in
      same ∙ nine layout name

  has_forks : HasForks (volume_of new)
  has_forks =
      let forks : List Owned = forks_of (volume_of new) in
      record {
        sizes =
            subst (λ (h : VolumeHeader). All (HasSizes h (overflow_in_volume (volume_of new))) forks) (sym head_of_state)
            (subst (λ (o : List Overflow). All (HasSizes (fresh_header layout) o) forks) (sym found.overflow)
            (subst (λ (l : List Owned). All (HasSizes (fresh_header layout) []) l) (sym forks_are) (all_sized sectors block journal name can bitmap_some)));
        more_inside = subst (λ (o : List Overflow). All (λ (more : Overflow). LieInside (volume_of new).head.total_blocks more.extents) o) (sym found.overflow) (All-nil (λ (more : Overflow). LieInside (volume_of new).head.total_blocks more.extents));
        goes_on =
            subst (λ (o : List Overflow). All (GoesOn o) forks) (sym found.overflow)
            (subst (λ (l : List Owned). All (GoesOn []) l) (sym forks_are) (all_go_on sectors block journal name can));
        bad_goes_on = subst (λ (o : List Overflow). GoOnBad o) (sym found.overflow) (tt, tt);
        owned = subst (λ (o : List Overflow). All (HasFork forks) o) (sym found.overflow) (All-nil (HasFork forks));
        values = subst (λ (l : List Attribute). All (HasValueSizes (volume_of new).head.total_blocks (volume_of new).head.block_size l) l) (sym found.attributes) (All-nil (HasValueSizes (volume_of new).head.total_blocks (volume_of new).head.block_size []));
        once = each_once used (end_of layout.catalog) layout.last behind used_are;
      }

  pub has_blocks_sound : HasBlocks (volume_of new)
  has_blocks_sound = record { header = good_header; alternate = agrees; files = has_files; forks = has_forks; bits = has_bits }
