-- Where the special files of a content that can be served lie, and what a bitmap that is read holds.
use Rattle.std.proofs.Common.{◌≡◌, ◌<◌, ◌≤◌, ℕ, suc, ◌+◌, ◌*◌, ◌/◌, ◌++◌, Bool, true, List, [], ◌∷◌, length, map, get_or, refl, sym, ◌∙◌, ap, subst, arith}
use Rattle.std.specs.Prelude.{Contains, IsTrue, Result, Ok, Err, IfOk, if◌then◌else◌}
use Rattle.std.specs.List.{list_all, All}
use Rattle.std.proofs.Math.Nat.{mul_left_comm, mul-le-mul_right}
use Rattle.std.proofs.lemmas.List.Elements.{Contains-append_left, Contains-append_right}
use Rattle.hx_bytes.specs.declared.extents.Extent.{Extent}
use Rattle.hx_bytes.specs.declared.extents.ForkRecord.{ForkRecord}
use Rattle.hx_bytes.specs.declared.faults.Trouble.{Trouble}
use Rattle.sector_disk.specs.Lists.{Content}
use Rattle.sector_disk.specs.Space.{Space}
use Rattle.jnl_format.specs.Recovery.{header_of_volume}
use Rattle.volume_header.specs.declared.header.VolumeHeader.{VolumeHeader}
use Rattle.flag_rows.specs.Bits.{sectors_for}
use Rattle.fork_map.specs.Blocks.{blocks_of, sectors_of, fork_sectors}
use Rattle.alloc_bitmap.specs.Fork.{HoldsBits}
use Rattle.alloc_bitmap.specs.Map.{BlockMap, none}
use Rattle.btree_file.specs.Held.{HoldsNodes, file_in}
use Rattle.btree_file.specs.Place.{AreApart}
use Rattle.btree_file.specs.Standing.{Stands}
use Rattle.btree_file.specs.State.{sectors_of_tree}
use Rattle.btree_file.specs.declared.tree.TreeFile.{TreeFile as File}
use Rattle.hfs_volume.specs.Blocks.{HasSizes, forks_of}
use Rattle.hfs_volume.specs.Content.{volume_of, overflow_of_content, overflow_in_volume, sectors_in, has_attributes}
use Rattle.hfs_volume.specs.Forks.{Owned, per_block_of, extents_of, special_forks, data_kind, extents_id, catalog_id, allocation_id, attributes_id}
use Rattle.hfs_volume.specs.Records.{Overflow}
use Rattle.hfs_volume.proofs.Members.{each_of}
use Rattle.volume_base.specs.Opening.{IsServable, IsFileOf, ends_inside}
use Rattle.volume_base.specs.Standing.{own_sectors_in}
use Rattle.volume_base.specs.declared.volume.Tree.{Tree}
use Rattle.volume_base.proofs.Opened.{opened_at, sectors_are, length_sectors}
use Rattle.volume_base.proofs.Placing.{default_is}
use Rattle.volume_base.proofs.SoundForks.{own_extents, special_ends, special_blocks, special_is_fork, geometry_of, overflow_is, places_inside}

-- so many bytes have no more bits than these sectors
bits_fit : (total size blocks block per : ℕ) → block ≡ 512 * per → total ≤ 8 * size → size ≤ blocks * block → sectors_for total ≤ blocks * per
bits_fit total size blocks block per whole bits bytes =
    let one : blocks * block ≡ 512 * (blocks * per) = ap (λ b. blocks * b) whole ∙ mul_left_comm blocks 512 per in
    omega (arith, one, bits, bytes)

-- each sector of extents that end inside lies there
pub all_sectors_inside : (per sectors : ℕ) (extents : List Extent) → 0 < per → list_all (ends_inside per sectors) extents ≡ true → All (λ at. at < sectors) (fork_sectors extents per)
all_sectors_inside per sectors extents some all k d low =
    subst (λ at. at < sectors) (sym (default_is (fork_sectors extents per) k d low)) (places_inside per sectors extents some all k low)

-- the bitmap that is read has its sectors there
pub map_inside : (inside : List Extent) (block told sectors : ℕ) (result : Result BlockMap Trouble) → 512 ≤ block → list_all (ends_inside (block / 512) sectors) inside ≡ true
    → IfOk result (λ map. map ≡ record { used = map.used; held = none told; changed = none (sectors_for told); kept_used = map.used; kept_held = none told; fork = inside; per_block = block / 512 })
    → IfOk result (λ map. All (λ at. at < sectors) (fork_sectors map.fork map.per_block))
map_inside inside block told sectors (Err why) least ends rest = tt
map_inside inside block told sectors (Ok map) least ends rest =
    subst (λ (l : List ℕ). All (λ at. at < sectors) l) (sym (λ i. fork_sectors (ap (λ (m : BlockMap). m.fork) rest i) (ap (λ (m : BlockMap). m.per_block) rest i)))
    (all_sectors_inside (block / 512) sectors inside (omega (arith, least)) ends)

module _ (content : Content) (good : IsServable content) where
  abbrev per : ℕ
  per = per_block_of (header_of_volume content)

  abbrev sectors_by : ℕ → ForkRecord → List ℕ
  sectors_by id fork = sectors_in content (extents_of (overflow_of_content content) id data_kind fork)

  abbrev IsSpecial : ℕ → ForkRecord → Type 0
  IsSpecial id fork = Contains (special_forks (header_of_volume content)) (record { id = id; kind = data_kind; fork = fork })

  -- the sectors of the extents overflow file are the volume's own
  pub extents_own : (tree : File) → IsFileOf extents_id (header_of_volume content).extents_fork tree content → (at : ℕ) → Contains (sectors_of_tree tree) at → Contains (own_sectors_in content) at
  extents_own tree is at has =
      let head = header_of_volume content in
      let there : Contains (sectors_in content (extents_of [] extents_id data_kind (header_of_volume content).extents_fork)) at =
      subst (λ (l : List ℕ). Contains l at) (sectors_are content good extents_id (header_of_volume content).extents_fork tree is ∙ ap (λ (es : List Extent). sectors_in content es) (sym (own_extents content good.sound))) has in
      Contains-append_right (2 ∷ [])
      (sectors_in content (extents_of [] extents_id data_kind head.extents_fork)
      ++ (sectors_in content (extents_of (overflow_of_content content) catalog_id data_kind head.catalog_fork)
      ++ ((if has_attributes head then sectors_in content (extents_of (overflow_of_content content) attributes_id data_kind head.attributes_fork) else [])
      ++ sectors_in content (extents_of (overflow_of_content content) allocation_id data_kind head.allocation_fork)))) at
      (Contains-append_left (sectors_in content (extents_of [] extents_id data_kind head.extents_fork))
      (sectors_in content (extents_of (overflow_of_content content) catalog_id data_kind head.catalog_fork)
      ++ ((if has_attributes head then sectors_in content (extents_of (overflow_of_content content) attributes_id data_kind head.attributes_fork) else [])
      ++ sectors_in content (extents_of (overflow_of_content content) allocation_id data_kind head.allocation_fork))) at there)

  -- those of the catalog are
  pub catalog_own : (tree : File) → IsFileOf catalog_id (header_of_volume content).catalog_fork tree content → (at : ℕ) → Contains (sectors_of_tree tree) at → Contains (own_sectors_in content) at
  catalog_own tree is at has =
      let head = header_of_volume content in
      let there : Contains (sectors_by catalog_id (header_of_volume content).catalog_fork) at = subst (λ (l : List ℕ). Contains l at) (sectors_are content good catalog_id (header_of_volume content).catalog_fork tree is) has in
      Contains-append_right (2 ∷ sectors_in content (extents_of [] extents_id data_kind head.extents_fork))
      (sectors_in content (extents_of (overflow_of_content content) catalog_id data_kind head.catalog_fork)
      ++ ((if has_attributes head then sectors_in content (extents_of (overflow_of_content content) attributes_id data_kind head.attributes_fork) else [])
      ++ sectors_in content (extents_of (overflow_of_content content) allocation_id data_kind head.allocation_fork))) at
      (Contains-append_left (sectors_in content (extents_of (overflow_of_content content) catalog_id data_kind head.catalog_fork))
      ((if has_attributes head then sectors_in content (extents_of (overflow_of_content content) attributes_id data_kind head.attributes_fork) else [])
      ++ sectors_in content (extents_of (overflow_of_content content) allocation_id data_kind head.allocation_fork)) at there)

  -- a tree file that is attached once the content was read
  pub opened_later : (id : ℕ) (fork : ForkRecord) → IsSpecial id fork → HoldsNodes (sectors_by id fork) (file_in (sectors_by id fork) content) → (extents : List Extent) (block sectors : ℕ) (result : Result Tree Trouble) (later : Content)
      → later ≡ content → extents ≡ extents_of (overflow_of_content content) id data_kind fork → block ≡ (header_of_volume content).block_size → length content ≡ sectors
      → (list_all (ends_inside (block / 512) sectors) extents ≡ true → AreApart (fork_sectors extents (block / 512)) → HoldsNodes (fork_sectors extents (block / 512)) (file_in (fork_sectors extents (block / 512)) later)
      → IfOk result (λ tree. Stands tree.file later × (tree.file.fork ≡ extents) × (tree.file.per_block ≡ block / 512)))
      → IfOk result (λ tree. IsFileOf id fork tree.file content)
  opened_later id fork special nodes extents block sectors result later same extents_are block_is long attached =
      opened_at content good id fork special nodes extents block sectors result extents_are block_is long
      (subst (λ (c : Content). list_all (ends_inside (block / 512) sectors) extents ≡ true → AreApart (fork_sectors extents (block / 512)) → HoldsNodes (fork_sectors extents (block / 512)) (file_in (fork_sectors extents (block / 512)) c)
      → IfOk result (λ tree. Stands tree.file c × (tree.file.fork ≡ extents) × (tree.file.per_block ≡ block / 512))) same attached)

  -- ---- the bitmap

  abbrev allocation_fork : ForkRecord
  allocation_fork = (header_of_volume content).allocation_fork

  pub allocation_special : IsSpecial allocation_id (header_of_volume content).allocation_fork
  allocation_special = (2, omega arith, refl)

  allocation_sizes : HasSizes (volume_of content).head (overflow_in_volume (volume_of content)) (record { id = allocation_id; kind = data_kind; fork = (header_of_volume content).allocation_fork })
  allocation_sizes = each_of (HasSizes (volume_of content).head (overflow_in_volume (volume_of content))) (forks_of (volume_of content)) good.sound.volume.blocks.forks.sizes
      (record { id = allocation_id; kind = data_kind; fork = (header_of_volume content).allocation_fork })
      (special_is_fork content good.sound (record { id = allocation_id; kind = data_kind; fork = (header_of_volume content).allocation_fork }) allocation_special)

  enough_bits : sectors_for (header_of_volume content).total_blocks ≤ length (sectors_by allocation_id (header_of_volume content).allocation_fork)
  unfolding volume_of
  enough_bits =
      let blocks : length (blocks_of (extents_of (overflow_of_content content) allocation_id data_kind (header_of_volume content).allocation_fork)) ≡ (header_of_volume content).allocation_fork.total_blocks =
      subst (λ (o : List Overflow). length (blocks_of (extents_of o allocation_id data_kind (header_of_volume content).allocation_fork)) ≡ (header_of_volume content).allocation_fork.total_blocks) (overflow_is content good.sound)
      (special_blocks content good.sound allocation_id (header_of_volume content).allocation_fork allocation_special) in
      subst (λ n. sectors_for (header_of_volume content).total_blocks ≤ n)
      (ap (λ n. n * per) (sym blocks) ∙ sym (length_sectors per (blocks_of (extents_of (overflow_of_content content) allocation_id data_kind (header_of_volume content).allocation_fork))))
      (bits_fit (header_of_volume content).total_blocks (header_of_volume content).allocation_fork.logical_size (header_of_volume content).allocation_fork.total_blocks (header_of_volume content).block_size per
      (geometry_of content good.sound).whole good.sound.volume.blocks.files.bits allocation_sizes.bytes)

  pub map_opened : (header : VolumeHeader) (list inside : List Extent) (told sectors : ℕ) (later : Content) (result : Result BlockMap Trouble) → header ≡ header_of_volume content → later ≡ content → length content ≡ sectors
      → list ≡ extents_of (overflow_of_content content) allocation_id data_kind header.allocation_fork
      → (list_all (ends_inside (header.block_size / 512) sectors) list ≡ true → inside ≡ list)
      → (sectors_for header.total_blocks ≤ length (fork_sectors inside (header.block_size / 512)) → told ≡ header.total_blocks)
      → IfOk result (λ map. length map.used ≡ told) → IfOk result (λ map. HoldsBits later (fork_sectors inside (header.block_size / 512)) map.used)
      → IfOk result (λ map. map ≡ record { used = map.used; held = none told; changed = none (sectors_for told); kept_used = map.used; kept_held = none told; fork = inside; per_block = header.block_size / 512 })
      → IfOk result (λ map. (map.fork ≡ extents_of (overflow_of_content content) allocation_id data_kind header.allocation_fork) × (length map.used ≡ header.total_blocks) × HoldsBits content (fork_sectors map.fork map.per_block) map.used)
  map_opened header list inside told sectors later (Err why) head_is same long list_is inside_is told_is size bits rest = tt
  map_opened header list inside told sectors later (Ok map) head_is same long list_is inside_is told_is size bits rest =
      let per_is : header.block_size / 512 ≡ per_block_of (header_of_volume content) = ap (λ (h : VolumeHeader). h.block_size / 512) head_is in
      let list_here : list ≡ extents_of (overflow_of_content content) allocation_id data_kind (header_of_volume content).allocation_fork =
      list_is ∙ ap (λ (h : VolumeHeader). extents_of (overflow_of_content content) allocation_id data_kind h.allocation_fork) head_is in
      let ends : list_all (ends_inside (header.block_size / 512) sectors) list ≡ true =
      (λ i. list_all (ends_inside (per_is i) (sym long i)) (list_here i)) ∙ special_ends content good.sound allocation_id (header_of_volume content).allocation_fork allocation_special in
      let is_list : inside ≡ list = inside_is ends in
      let there : fork_sectors inside (header.block_size / 512) ≡ sectors_by allocation_id (header_of_volume content).allocation_fork = (λ i. sectors_of (per_is i) (blocks_of ((is_list ∙ list_here) i))) in
      let all_told : told ≡ header.total_blocks =
      told_is (subst (λ (l : List ℕ). sectors_for header.total_blocks ≤ length l) (sym there) (subst (λ (h : VolumeHeader). sectors_for h.total_blocks ≤ length (sectors_by allocation_id (header_of_volume content).allocation_fork)) (sym head_is) enough_bits)) in
      let fork_is : map.fork ≡ inside = ap (λ (m : BlockMap). m.fork) rest in
      let per_block_is : map.per_block ≡ header.block_size / 512 = ap (λ (m : BlockMap). m.per_block) rest in (
        fork_is ∙ is_list ∙ list_is,
        size ∙ all_told,
        subst (λ (c : Content). HoldsBits c (fork_sectors map.fork map.per_block) map.used) same
            (subst (λ (l : List ℕ). HoldsBits later l map.used) (sym (λ i. fork_sectors (fork_is i) (per_block_is i))) bits),
      )
