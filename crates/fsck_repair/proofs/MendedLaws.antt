-- What the repair has in sectors of the two files.
use Rattle.std.proofs.Common.{◌≡◌, ◌<◌, ◌≤◌, ℕ, ◌+◌, ◌-◌, ◌*◌, ◌/◌, ◌%◌, Bool, true, false, ◌==◌, ◌&&◌, nat_lt, if◌then◌else◌, List, [], ◌∷◌, length, map, take, drop, inl, inr, refl, sym, ◌∙◌, ap, arith, ⊎_elim}
use Rattle.std.specs.Prelude.{Contains, Some, slice_get, slice_index, slice_index_or}
use Rattle.std.specs.List.{range_with_len}
use Rattle.std.proofs.lemmas.Bool.{cases_lt}
use Rattle.std.proofs.lemmas.List.{get_or_past}
use Rattle.std.proofs.lemmas.List.FromFn.{length-map-range_with_len, get_or-map-range_with_len}
use Rattle.std.proofs.Math.Nat.{div-lt_iff_lt-mul, mod-eq-sub-div-mul}
use Rattle.sector_disk.specs.Lists.{Content, sector}
use Rattle.jnl_format.specs.Recovery.{header_of_volume}
use Rattle.hfs_volume.specs.Blocks.{is_among, used_in}
use Rattle.hfs_volume.specs.Broken.{bit, leaves_in}
use Rattle.hfs_volume.specs.Content.{volume_of, records_of, catalog_file, bitmap_sectors}
use Rattle.hfs_volume.specs.Forks.{per_block_of}
use Rattle.hfs_volume.proofs.TreeWants.{stands_among}
use Rattle.fsck_core.specs.Flags.{AreUsed}
use Rattle.fsck_core.proofs.RowLaws.{true_below, not_below}
use Rattle.volume_repair.specs.Recount.{is_bit_wanted}
use Rattle.volume_repair.specs.Repair.{IsMendable, sector_mended, header_mended, file_sector_mended, catalog_sectors, place_from, byte_of_bits, leaf_mended, needs_copy}
use Rattle.fsck_repair.specs.Bitmap.{MendsBitmap}
use Rattle.fsck_repair.specs.Counted.{IsPlain, IsHeaderSector}
use Rattle.fsck_repair.specs.Leaf.{MendsNode}
use Rattle.fsck_repair.proofs.WrittenLaws.{bitmap_place, catalog_place}

-- a sector of a header
pub header_sector : (content : Content) (at : ℕ) → IsHeaderSector content at → sector_mended content at ≡ header_mended content
unfolding sector_mended
header_sector content at (inl is) = ap (λ b. if b then header_mended content else (if (at == length content - 2) && needs_copy content then header_mended content else file_sector_mended content at (place_from 0 (bitmap_sectors content) at) (place_from 0 (catalog_sectors content) at))) is
header_sector content at (inr is) = by (at == 2) ∙ refl
  where
    by : (b : Bool) → (if b then header_mended content else (if (at == length content - 2) && needs_copy content then header_mended content else file_sector_mended content at (place_from 0 (bitmap_sectors content) at) (place_from 0 (catalog_sectors content) at))) ≡ header_mended content
    by true = refl
    by false = ap (λ b. if b then header_mended content else file_sector_mended content at (place_from 0 (bitmap_sectors content) at) (place_from 0 (catalog_sectors content) at)) is

-- another one
pub plain_sector : (content : Content) (at : ℕ) → IsPlain content at → sector_mended content at ≡ file_sector_mended content at (place_from 0 (bitmap_sectors content) at) (place_from 0 (catalog_sectors content) at)
unfolding sector_mended
plain_sector content at plain =
    ap (λ b. if b then header_mended content else (if (at == length content - 2) && needs_copy content then header_mended content else file_sector_mended content at (place_from 0 (bitmap_sectors content) at) (place_from 0 (catalog_sectors content) at))) plain.no_header
    ∙ ap (λ b. if b then header_mended content else file_sector_mended content at (place_from 0 (bitmap_sectors content) at) (place_from 0 (catalog_sectors content) at)) plain.no_copy

-- ---- the allocation file

-- the flags of used blocks are the bits wanted
pub wanted_is : (content : Content) (flags : List Bool) → AreUsed (volume_of content) flags → (k : ℕ) → is_bit_wanted (volume_of content) k ≡ slice_index_or flags k false
wanted_is content flags are k = ⊎_elim
    (λ (inside : k < total).
    ap (λ b. b && is_among (used_in (volume_of content)) k) (true_below k total inside)
    ∙ sym (ap (λ l. slice_index_or l k false) are ∙ get_or-map-range_with_len (is_among (used_in (volume_of content))) 0 total k k false inside (omega arith)))
    (λ (past : total ≤ k).
    ap (λ b. b && is_among (used_in (volume_of content)) k) (not_below k total past)
    ∙ sym (get_or_past flags k false (let long : length flags ≡ total = ap (λ (l : List Bool). length l) are ∙ length-map-range_with_len (is_among (used_in (volume_of content))) 0 total in omega (arith, long, past))))
    (cases_lt k total)
  where
    total : ℕ
    total = (volume_of content).head.total_blocks

same_byte : (f g : ℕ → Bool) → ((k : ℕ) → f k ≡ g k) → (j : ℕ) → byte_of_bits f j ≡ byte_of_bits g j
same_byte f g same j = λ i.
    128 * bit (same (8 * j) i) + 64 * bit (same (8 * j + 1) i) + 32 * bit (same (8 * j + 2) i) + 16 * bit (same (8 * j + 3) i)
    + 8 * bit (same (8 * j + 4) i) + 4 * bit (same (8 * j + 5) i) + 2 * bit (same (8 * j + 6) i) + bit (same (8 * j + 7) i)

map_same : {X Y : Type 0} (f g : X → Y) (xs : List X) → ((x : X) → f x ≡ g x) → map f xs ≡ map g xs
map_same f g [] same = refl
map_same f g (x ∷ xs) same = λ i. same x i ∷ map_same f g xs same i

module _ (content : Content) (can : IsMendable content) (some : 0 < per_block_of (header_of_volume content)) where
  pub mends_bitmap : (flags : List Bool) → AreUsed (volume_of content) flags → (place at : ℕ) → place * 512 < (header_of_volume content).allocation_fork.logical_size → slice_get (bitmap_sectors content) place ≡ Some at → IsPlain content at
      → MendsBitmap content (λ k. slice_index_or flags k false) (header_of_volume content).allocation_fork.logical_size place at
  mends_bitmap flags are place at inside is plain =
      plain_sector content at plain
      ∙ ap (λ o. file_sector_mended content at o (place_from 0 (catalog_sectors content) at)) (bitmap_place content can some at place is)
      ∙ ap (λ b. if b then map byte (range_with_len 0 512) else sector content at) (true_below (512 * place) size (omega (arith, inside)))
      ∙ map_same byte (λ i. if nat_lt (512 * place + i) size then byte_of_bits (λ k. slice_index_or flags k false) (512 * place + i) else slice_index (sector content at) i) (range_with_len 0 512)
      (λ i. ap (λ b. if nat_lt (512 * place + i) size then b else slice_index (sector content at) i) (same_byte (is_bit_wanted (volume_of content)) (λ k. slice_index_or flags k false) (wanted_is content flags are) (512 * place + i)))
    where
      size : ℕ
      size = (header_of_volume content).allocation_fork.logical_size

      byte : ℕ → ℕ
      byte i = if nat_lt (512 * place + i) size then byte_of_bits (is_bit_wanted (volume_of content)) (512 * place + i) else slice_index (sector content at) i

  -- ---- the catalog file

  pub mends_leaf : (n : ℕ) → 0 < (catalog_file content).head.node_size / 512 → Contains (leaves_in (catalog_file content)) n
      → MendsNode content (catalog_sectors content) ((catalog_file content).head.node_size / 512) n (leaf_mended (records_of (volume_of content)) ((catalog_file content).nodes n))
  mends_leaf n long stands k at inside there =
      let tree = catalog_file content in
      let per = tree.head.node_size / 512 in
      let place = catalog_place content can some at (n * per + k) there.0 in
      let quotient : (n * per + k) / per ≡ n = whole n per k inside in
      let rest : (n * per + k) % per ≡ k = mod-eq-sub-div-mul (n * per + k) per ∙ ap (λ q. n * per + k - q * per) quotient ∙ omega arith in
      plain_sector content at there.1
      ∙ (λ i. file_sector_mended content at (place.0 i) (place.1 i))
      ∙ (λ i. if is_among (leaves_in tree) (quotient i) then take 512 (drop (512 * (rest i)) (leaf_mended (records_of (volume_of content)) (tree.nodes (quotient i)))) else sector content at)
      ∙ ap (λ b. if b then take 512 (drop (512 * k) (leaf_mended (records_of (volume_of content)) (tree.nodes n))) else sector content at) (stands_among (leaves_in tree) n stands)
    where
      whole : (m per j : ℕ) → j < per → (m * per + j) / per ≡ m
      whole m per j less =
          let some_per : 0 < per = omega (arith, less) in
          let high : (m * per + j) / per < m + 1 = (div-lt_iff_lt-mul {k = per} {x = m * per + j} {y = m + 1} some_per).1 (let same : (m + 1) * per ≡ m * per + per = grind arith in omega (arith, less, same)) in
          ⊎_elim
          (λ (low : (m * per + j) / per < m). absurd (let less_all : m * per + j < m * per = (div-lt_iff_lt-mul {k = per} {x = m * per + j} {y = m} some_per).0 low in omega (arith, less_all)))
          (λ (most : m ≤ (m * per + j) / per). omega (arith, high, most))
          (cases_lt ((m * per + j) / per) m)
