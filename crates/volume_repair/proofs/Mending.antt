-- The sectors of the mended content: its header, and which sectors are as they were.
use Rattle.std.proofs.Common.{◌≡◌, ◌≢◌, ◌<◌, ◌≤◌, ℕ, ◌+◌, ◌-◌, ◌*◌, ◌/◌, ◌==◌, ◌&&◌, Bool, true, false, List, [], ◌∷◌, length, refl, sym, ◌∙◌, ap, subst, arith, ⊎_elim, if◌then◌else◌}
use Rattle.std.specs.Prelude.{Contains, Some, None, slice_get}
use Rattle.std.proofs.lemmas.Bool.{eq-eqb, ne_eqb, cases_lt}
use Rattle.std.proofs.lemmas.Bool.Decides.{eqb_tells}
use Rattle.std.proofs.lemmas.List.{get_or_past}
use Rattle.std.proofs.lemmas.List.FromFn.{length-map-range_with_len, get_or-map-range_with_len}
use Rattle.std.proofs.Math.Nat.{le-div_iff_mul-le}
use Rattle.jnl_format.specs.Recovery.{Content, sector, header_of_volume}
use Rattle.fork_map.specs.Blocks.{sectors_of}
use Rattle.alloc_bitmap.specs.Apart.{times}
use Rattle.volume_header.specs.Refusal.{header_refusal}
use Rattle.volume_header.specs.Header.{header_of}
use Rattle.volume_header.specs.declared.header.VolumeHeader.{VolumeHeader}
use Rattle.hfs_volume.specs.Forks.{Owned, per_block_of, data_kind, extents_of, fork_blocks, blocks_owned, special_forks, reserved_blocks, extents_id, catalog_id, allocation_id, attributes_id}
use Rattle.hfs_volume.specs.Content.{VolumeState, volume_of, overflow_in_volume, overflow_of_content, bitmap_sectors, attributes_file, extents_file}
use Rattle.hfs_volume.specs.Blocks.{forks_of}
use Rattle.hfs_volume.proofs.Members.{at_front, behind}
use Rattle.hfs_volume.proofs.Sectors.{in_block}
use Rattle.hfs_volume.proofs.Untouched.{special_stands}
use Rattle.volume_repair.specs.Recount.{header_recounted}
use Rattle.volume_repair.specs.Repair.{IsMendable, mended, sector_mended, header_mended, file_sector_mended, bitmap_mended, catalog_mended, place_from, catalog_sectors, needs_copy}
use Rattle.volume_repair.proofs.Slices.{stands_there}
use Rattle.volume_repair.proofs.Distinct.{place_there, sectors_once}
use Rattle.volume_repair.proofs.Alone.{many_sectors, kept_apart, map_apart, map_once, catalog_apart, catalog_once, whole, header_kept, alternate_kept}
use Rattle.volume_repair.proofs.Rereads.{relabelled, sectors_by, extents_stay, attributes_stay}
use Rattle.volume_repair.proofs.Words.{low, counts_spell}

and_false : (b : Bool) → (b && false) ≡ false
and_false true = refl
and_false false = refl

-- ---- places

pub place_none : (k : ℕ) (xs : List ℕ) (at : ℕ) → (Contains xs at → ⊥) → place_from k xs at ≡ None
place_none k [] at none = refl
place_none k (s ∷ rest) at none = ⊎_elim
    (λ (same : (s == at ≡ true) × (s ≡ at)). absurd (none (subst (Contains (s ∷ rest)) same.1 (at_front s rest))))
    (λ (other : (s == at ≡ false) × (s ≢ at)). ap (λ b. if b then Some k else place_from (k + 1) rest at) other.0 ∙ place_none (k + 1) rest at (λ stands. none (behind s at rest stands)))
    (eqb_tells s at)

-- ---- any content

pub size_mended : (content : Content) → length (mended content) ≡ length content
unfolding mended
size_mended content = length-map-range_with_len (sector_mended content) 0 (length content)

pub sector_of_mended : (content : Content) (at : ℕ) → at < length content → sector (mended content) at ≡ sector_mended content at
unfolding mended
sector_of_mended content at inside = get_or-map-range_with_len (sector_mended content) 0 (length content) at at [] inside (omega arith)

-- neither of the headers
pub mended_file : (content : Content) (at : ℕ) → at ≢ 2 → ((at == length content - 2) && needs_copy content) ≡ false
    → sector_mended content at ≡ file_sector_mended content at (place_from 0 (bitmap_sectors content) at) (place_from 0 (catalog_sectors content) at)
unfolding sector_mended
mended_file content at not_two no_copy =
    ap (λ b. if b then header_mended content else if (at == length content - 2) && needs_copy content then header_mended content else file) (ne_eqb at 2 not_two)
    ∙ ap (λ b. if b then header_mended content else file) no_copy
  where
    file : List ℕ
    file = file_sector_mended content at (place_from 0 (bitmap_sectors content) at) (place_from 0 (catalog_sectors content) at)

pub no_alternate : (content : Content) (at : ℕ) → at ≢ length content - 2 → ((at == length content - 2) && needs_copy content) ≡ false
no_alternate content at differ = ap (λ b. b && needs_copy content) (ne_eqb at (length content - 2) differ)

-- in neither of the files
pub mended_else : (content : Content) (at : ℕ) → at ≢ 2 → at ≢ length content - 2 → (Contains (bitmap_sectors content) at → ⊥) → (Contains (catalog_sectors content) at → ⊥) → sector_mended content at ≡ sector content at
mended_else content at not_two not_alternate no_map no_catalog =
    mended_file content at not_two (no_alternate content at not_alternate)
    ∙ ap (λ o. file_sector_mended content at o (place_from 0 (catalog_sectors content) at)) (place_none 0 (bitmap_sectors content) at no_map)
    ∙ ap (λ o. file_sector_mended content at None o) (place_none 0 (catalog_sectors content) at no_catalog)

pub mended_header : (content : Content) → sector_mended content 2 ≡ header_mended content
unfolding sector_mended
mended_header content = refl

-- ---- a content that can be repaired

module _ (content : Content) (may : IsMendable content) where
  abbrev pub was : VolumeState
  was = volume_of content

  abbrev pub head : VolumeHeader
  head = header_of_volume content

  abbrev pub per : ℕ
  per = per_block_of head

  abbrev pub limit : ℕ
  limit = head.total_blocks * per

  pub accepted : header_refusal head (length content) ≡ None
  accepted = may.header.accepted

  pub some_sectors : 2048 ≤ length content
  some_sectors = many_sectors head (length content) accepted

  pub some : 0 < per
  some = (whole (length content) head accepted).some

  pub block_inside : (at : ℕ) → at < limit → at / per < head.total_blocks
  block_inside at below = ⊎_elim
      (λ (less : at / per < head.total_blocks). less)
      (λ (past : head.total_blocks ≤ at / per). absurd (let low : head.total_blocks * per ≤ at = (le-div_iff_mul-le {k = per} {x = head.total_blocks} {y = at} some).0 past in omega (arith, low, below)))
      (cases_lt (at / per) head.total_blocks)

  -- the overflow records are those of the lists
  overflow_is : overflow_in_volume was ≡ overflow_of_content content
  unfolding volume_of overflow_of_content
  overflow_is = refl

  kept_is : reserved_blocks was.sectors was.head ≡ reserved_blocks (length content) head
  unfolding volume_of
  kept_is = refl

  -- the blocks of a special file by its sectors
  pub block_of : (owned : Owned) → (at : ℕ) → Contains (sectors_of per (blocks_owned (overflow_in_volume was) owned)) at → Contains (blocks_owned (overflow_in_volume was) owned) (at / per)
  block_of owned at has = in_block per (blocks_owned (overflow_in_volume was) owned) at some has

  abbrev map_fork : Owned
  map_fork = record { id = allocation_id; kind = data_kind; fork = head.allocation_fork }

  abbrev catalog_fork : Owned
  catalog_fork = record { id = catalog_id; kind = data_kind; fork = head.catalog_fork }

  map_block : (at : ℕ) → Contains (bitmap_sectors content) at → Contains (fork_blocks (overflow_in_volume was) allocation_id data_kind was.head.allocation_fork) (at / per)
  unfolding volume_of
  map_block at has = block_of map_fork at (subst (λ o. Contains (sectors_by head o allocation_id head.allocation_fork) at) (sym overflow_is) has)

  catalog_block : (at : ℕ) → Contains (catalog_sectors content) at → Contains (fork_blocks (overflow_in_volume was) catalog_id data_kind was.head.catalog_fork) (at / per)
  unfolding volume_of
  catalog_block at has = block_of catalog_fork at (subst (λ o. Contains (sectors_by head o catalog_id head.catalog_fork) at) (sym overflow_is) has)

  -- a block that is kept back is in no file
  fork_not_kept : (owned : Owned) → Contains (forks_of was) owned → (at : ℕ) → Contains (sectors_of per (blocks_owned (overflow_in_volume was) owned)) at → Contains (reserved_blocks (length content) head) (at / per) → ⊥
  fork_not_kept owned stands at has kept = kept_apart was may.once owned (at / per) stands (block_of owned at has) (subst (λ l. Contains l (at / per)) (sym kept_is) kept)

  -- so the header is in none
  fork_not_two : (owned : Owned) → Contains (forks_of was) owned → (at : ℕ) → Contains (sectors_of per (blocks_owned (overflow_in_volume was) owned)) at → at ≢ 2
  fork_not_two owned stands at has two =
      fork_not_kept owned stands at has (subst (λ n. Contains (reserved_blocks (length content) head) (n / per)) (sym two) (header_kept (length content) head accepted))

  -- nor is the alternate header in one that lies in the volume
  fork_not_alternate : (owned : Owned) → Contains (forks_of was) owned → (at : ℕ) → Contains (sectors_of per (blocks_owned (overflow_in_volume was) owned)) at → at < limit → at ≢ length content - 2
  fork_not_alternate owned stands at has below same =
      fork_not_kept owned stands at has (subst (λ n. Contains (reserved_blocks (length content) head) (n / per)) (sym same) (alternate_kept (length content) head accepted (block_inside (length content - 2) (omega (arith, below, same)))))

  pub special_not_two : (owned : Owned) → Contains (special_forks was.head) owned → (at : ℕ) → Contains (sectors_of per (blocks_owned (overflow_in_volume was) owned)) at → at ≢ 2
  special_not_two owned stands at has = fork_not_two owned (special_stands was owned stands) at has

  pub special_not_alternate : (owned : Owned) → Contains (special_forks was.head) owned → (at : ℕ) → Contains (sectors_of per (blocks_owned (overflow_in_volume was) owned)) at → at < limit → at ≢ length content - 2
  special_not_alternate owned stands at has below = fork_not_alternate owned (special_stands was owned stands) at has below

  -- a sector of a file other than the two is as it was
  pub fork_stays : (owned : Owned) → Contains (forks_of was) owned → owned.id ≢ allocation_id → owned.id ≢ catalog_id
      → (at : ℕ) → Contains (sectors_of per (blocks_owned (overflow_in_volume was) owned)) at → at < limit → sector (mended content) at ≡ sector content at
  fork_stays owned stands no_map no_catalog at has below = ⊎_elim
      (λ (inside : at < length content). sector_of_mended content at inside ∙ mended_else content at (fork_not_two owned stands at has) (fork_not_alternate owned stands at has below)
      (λ in_map. map_apart was may.once owned (at / per) stands no_map (block_of owned at has) (map_block at in_map))
      (λ in_catalog. catalog_apart was may.once owned (at / per) stands no_catalog (block_of owned at has) (catalog_block at in_catalog)))
      (λ (past : length content ≤ at). get_or_past (mended content) at [] (omega (arith, size_mended content, past)) ∙ sym (get_or_past content at [] past))
      (cases_lt at (length content))

  special_stays : (owned : Owned) → Contains (special_forks was.head) owned → owned.id ≢ allocation_id → owned.id ≢ catalog_id
      → (at : ℕ) → Contains (sectors_of per (blocks_owned (overflow_in_volume was) owned)) at → at < limit → sector (mended content) at ≡ sector content at
  special_stays owned stands no_map no_catalog at has below = fork_stays owned (special_stands was owned stands) no_map no_catalog at has below

  -- a sector of the allocation file that lies in the volume, counted anew
  pub map_is : (at k : ℕ) → at < length content → at < limit → slice_get (bitmap_sectors content) k ≡ Some at → sector (mended content) at ≡ bitmap_mended content at k
  unfolding volume_of
  map_is at k inside below found =
      let has = stands_there (bitmap_sectors content) k at found in
      let here = subst (λ o. Contains (sectors_by head o allocation_id head.allocation_fork) at) (sym overflow_is) has in
      let once : times at (bitmap_sectors content) ≤ 1 = subst (λ o. times at (sectors_by head o allocation_id head.allocation_fork) ≤ 1) overflow_is
      (omega (arith, sectors_once per (blocks_owned (overflow_in_volume was) map_fork) at some, map_once was may.once (at / per) (map_block at has))) in
      sector_of_mended content at inside
      ∙ mended_file content at (special_not_two map_fork (2, omega arith, refl) at here) (no_alternate content at (special_not_alternate map_fork (2, omega arith, refl) at here below))
      ∙ ap (λ o. file_sector_mended content at o (place_from 0 (catalog_sectors content) at)) (place_there 0 (bitmap_sectors content) k at found once)
      ∙ ap (bitmap_mended content at) (let same : 0 + k ≡ k = omega arith in same)

  -- the same for a sector of the catalog file
  pub catalog_is : (at k : ℕ) → at < length content → at < limit → slice_get (catalog_sectors content) k ≡ Some at → sector (mended content) at ≡ catalog_mended content at k
  unfolding volume_of
  catalog_is at k inside below found =
      let has = stands_there (catalog_sectors content) k at found in
      let here = subst (λ o. Contains (sectors_by head o catalog_id head.catalog_fork) at) (sym overflow_is) has in
      let once : times at (catalog_sectors content) ≤ 1 = subst (λ o. times at (sectors_by head o catalog_id head.catalog_fork) ≤ 1) overflow_is
      (omega (arith, sectors_once per (blocks_owned (overflow_in_volume was) catalog_fork) at some, catalog_once was may.once (at / per) (catalog_block at has))) in
      sector_of_mended content at inside
      ∙ mended_file content at (special_not_two catalog_fork (1, omega arith, refl) at here) (no_alternate content at (special_not_alternate catalog_fork (1, omega arith, refl) at here below))
      ∙ ap (λ o. file_sector_mended content at o (place_from 0 (catalog_sectors content) at))
      (place_none 0 (bitmap_sectors content) at (λ in_map. map_apart was may.once catalog_fork (at / per) (special_stands was catalog_fork (1, omega arith, refl)) (omega arith) (catalog_block at has) (map_block at in_map)))
      ∙ ap (file_sector_mended content at None) (place_there 0 (catalog_sectors content) k at found once)
      ∙ ap (catalog_mended content at) (let same : 0 + k ≡ k = omega arith in same)

  -- the alternate header's sector is in neither file, where both lie in the volume
  pub alternate_plain : ((at : ℕ) → Contains (bitmap_sectors content) at → at < limit) → ((at : ℕ) → Contains (catalog_sectors content) at → at < limit) → needs_copy content ≡ false
      → sector (mended content) (length content - 2) ≡ sector content (length content - 2)
  unfolding volume_of
  alternate_plain map_inside catalog_inside none =
      let last : ℕ = length content - 2 in
      sector_of_mended content last (omega (arith, some_sectors))
      ∙ mended_file content last (λ two. absurd (omega (arith, two, some_sectors))) (ap (λ b. (last == last) && b) none ∙ and_false (last == last))
      ∙ ap (λ o. file_sector_mended content last o (place_from 0 (catalog_sectors content) last))
      (place_none 0 (bitmap_sectors content) last (λ has. special_not_alternate map_fork (2, omega arith, refl) last (subst (λ o. Contains (sectors_by head o allocation_id head.allocation_fork) last) (sym overflow_is) has) (map_inside last has) refl))
      ∙ ap (λ o. file_sector_mended content last None o)
      (place_none 0 (catalog_sectors content) last (λ has. special_not_alternate catalog_fork (1, omega arith, refl) last (subst (λ o. Contains (sectors_by head o catalog_id head.catalog_fork) last) (sym overflow_is) has) (catalog_inside last has) refl))

  -- or it is a copy of the mended header
  pub alternate_copied : needs_copy content ≡ true → sector (mended content) (length content - 2) ≡ header_mended content
  unfolding sector_mended
  alternate_copied copy =
      let last : ℕ = length content - 2 in
      let file : List ℕ = file_sector_mended content last (place_from 0 (bitmap_sectors content) last) (place_from 0 (catalog_sectors content) last) in
      sector_of_mended content last (omega (arith, some_sectors))
      ∙ ap (λ b. if b then header_mended content else if (last == last) && needs_copy content then header_mended content else file) (ne_eqb last 2 (λ two. omega (arith, two, some_sectors)))
      ∙ ap (λ b. if b && needs_copy content then header_mended content else file) (eq-eqb last last refl)
      ∙ ap (λ b. if b then header_mended content else file) copy

  -- ---- the header

  abbrev pub counts : VolumeHeader
  counts = header_recounted was

  module _ (long : length (sector content 2) ≡ 512) where
    pub head_mended : header_of_volume (mended content) ≡ relabelled head head.last_mounted_version (low counts.file_count) (low counts.folder_count) (low counts.free_blocks)
    head_mended = ap header_of (sector_of_mended content 2 (omega (arith, some_sectors)) ∙ mended_header content) ∙ counts_spell counts.file_count counts.folder_count counts.free_blocks (sector content 2) long

    pub extents_mended : extents_file (mended content) ≡ extents_file content
    unfolding volume_of extents_of
    extents_mended = extents_stay content (mended content) head.last_mounted_version (low counts.file_count) (low counts.folder_count) (low counts.free_blocks) head_mended
        (λ at has below. special_stays (record { id = extents_id; kind = data_kind; fork = head.extents_fork }) (0, omega arith, refl) (omega arith) (omega arith) at has below)

    pub attributes_mended : attributes_file (mended content) ≡ attributes_file content
    unfolding volume_of
    attributes_mended = attributes_stay content (mended content) head.last_mounted_version (low counts.file_count) (low counts.folder_count) (low counts.free_blocks) head_mended extents_mended
        (λ at has below. special_stays (record { id = attributes_id; kind = data_kind; fork = head.attributes_fork }) (4, omega arith, refl) (omega arith) (omega arith) at (subst (λ o. Contains (sectors_by head o attributes_id head.attributes_fork) at) (sym overflow_is) has) below)
