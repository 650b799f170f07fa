-- The special files of a sound volume lie in it, and are as long as they say.
use Rattle.std.proofs.Common.{◌≡◌, ◌<◌, ◌≤◌, ℕ, suc, ◌+◌, ◌*◌, ◌/◌, nat_le, Bool, true, false, not, ◌==◌, List, [], ◌∷◌, length, refl, sym, ◌∙◌, ap, subst, arith, if◌then◌else◌}
use Rattle.std.specs.Prelude.{Contains, Option, Some, None}
use Rattle.std.specs.List.{range_with_len}
use Rattle.std.proofs.lemmas.Bool.{and_parts, eqb-true}
use Rattle.std.proofs.lemmas.List.{length-append}
use Rattle.std.proofs.lemmas.List.FromFn.{length-range_with_len}
use Rattle.std.proofs.Math.Nat.{div-add-mod, mod-lt, mul_comm, mul-le-mul_right, div-mul-le_self, mul_left_comm}
use Rattle.jnl_format.specs.Recovery.{Content, header_of_volume}
use Rattle.fork_map.specs.Blocks.{sectors_of}
use Rattle.volume_header.specs.Refusal.{header_refusal, is_volume_size, is_hfsx, is_block_size, fits_blocks}
use Rattle.volume_header.specs.declared.header.VolumeHeader.{VolumeHeader}
use Rattle.volume_header.specs.declared.refusal.HeaderRefusal.{HeaderRefusal}
use Rattle.volume_header.specs.declared.refusal.HeaderRefusal.TheVariants.{LimitSectors, NotHfsx, BadGeometry}
use Rattle.hfs_volume.specs.Forks.{Owned, per_block_of, data_kind, blocks_owned, special_forks, catalog_id, allocation_id}
use Rattle.hfs_volume.specs.Content.{VolumeState, volume_of, overflow_in_volume, overflow_of_content, bitmap_sectors}
use Rattle.hfs_volume.specs.Blocks.{HasSizes, forks_of}
use Rattle.hfs_volume.specs.Sound.{IsSound}
use Rattle.hfs_volume.proofs.Members.{each_of}
use Rattle.hfs_volume.proofs.Sectors.{in_block}
use Rattle.hfs_volume.proofs.Untouched.{HasWholeBlocks, whole_blocks, blocks_inside, special_stands}
use Rattle.volume_repair.specs.Repair.{catalog_sectors}
use Rattle.volume_repair.proofs.Rereads.{sectors_by}

-- ---- the blocks of an accepted header

pub passed : (b : Bool) (why : HeaderRefusal) (rest : Option HeaderRefusal) → (if not b then Some why else rest) ≡ None → (b ≡ true) × (rest ≡ None)
passed true why rest is = (refl, is)
passed false why rest is = absurd (cc)

-- they fill no more than the volume
pub blocks_fit : (sectors : ℕ) (head : VolumeHeader) → header_refusal head sectors ≡ None → head.total_blocks * per_block_of head ≤ sectors
blocks_fit sectors head accepted =
    let p1 = passed (is_volume_size sectors) (LimitSectors sectors) _ accepted in
    let p2 = passed (is_hfsx head) (NotHfsx head.signature head.version) _ p1.1 in
    let p3 = passed (is_block_size head.block_size) (BadGeometry 40) _ p2.1 in
    let p4 = passed (fits_blocks head sectors) (BadGeometry 44) _ p3.1 in
    let parts = and_parts (head.total_blocks == sectors * 512 / head.block_size) (nat_le head.total_blocks 268435456) p4.0 in
    let total : head.total_blocks ≡ sectors * 512 / head.block_size = eqb-true head.total_blocks (sectors * 512 / head.block_size) parts.0 in
    let under : sectors * 512 / head.block_size * head.block_size ≤ sectors * 512 = div-mul-le_self (sectors * 512) head.block_size in
    let whole = whole_blocks sectors head accepted in
    let scaled : head.total_blocks * head.block_size ≡ 512 * (head.total_blocks * per_block_of head) = ap (λ b. head.total_blocks * b) whole.whole ∙ mul_left_comm head.total_blocks 512 (per_block_of head) in
    let same : head.total_blocks * head.block_size ≡ sectors * 512 / head.block_size * head.block_size = ap (λ t. t * head.block_size) total in
    omega (arith, under, scaled, same)

-- a sector of a block below these lies below their end
pub below_blocks : (per total at : ℕ) → 0 < per → at / per < total → at < total * per
below_blocks per total at some inside =
    let next : suc (at / per) * per ≤ total * per = mul-le-mul_right {m = suc (at / per)} {n = total} per (omega (arith, inside)) in
    let here : suc (at / per) * per ≡ at / per * per + per = omega arith in
    omega (arith, next, here, div-add-mod at per, mul_comm (at / per) per, mod-lt at some)

-- so many sectors have blocks
pub length_sectors : (per : ℕ) (blocks : List ℕ) → length (sectors_of per blocks) ≡ length blocks * per
length_sectors per [] = omega arith
length_sectors per (block ∷ blocks) =
    let next : suc (length blocks) * per ≡ per + length blocks * per = omega arith in
    omega (arith, length-append (range_with_len (block * per) per) (sectors_of per blocks), length-range_with_len (block * per) per, length_sectors per blocks, next)

module _ (content : Content) (sound : IsSound content) where
  abbrev was : VolumeState
  was = volume_of content

  abbrev head : VolumeHeader
  head = header_of_volume content

  abbrev per : ℕ
  per = per_block_of head

  abbrev limit : ℕ
  limit = head.total_blocks * per

  accepted : header_refusal head (length content) ≡ None
  unfolding volume_of
  accepted = sound.volume.blocks.header.accepted

  whole : HasWholeBlocks (length content) head
  whole = whole_blocks (length content) head accepted

  overflow_is : overflow_in_volume was ≡ overflow_of_content content
  unfolding volume_of overflow_of_content
  overflow_is = refl

  -- a special file's sectors lie in the volume
  special_below : (owned : Owned) → Contains (special_forks was.head) owned → (at : ℕ) → Contains (sectors_of per (blocks_owned (overflow_in_volume was) owned)) at → at < limit
  unfolding volume_of
  special_below owned stands at has =
      below_blocks per head.total_blocks at whole.some
      (blocks_inside was owned (at / per) sound.volume.blocks.forks (special_stands was owned stands) (in_block per (blocks_owned (overflow_in_volume was) owned) at whole.some has))

  pub map_below : (at : ℕ) → Contains (bitmap_sectors content) at → at < limit
  unfolding volume_of
  map_below at has = special_below (record { id = allocation_id; kind = data_kind; fork = head.allocation_fork }) (2, omega arith, refl) at (subst (λ o. Contains (sectors_by head o allocation_id head.allocation_fork) at) (sym overflow_is) has)

  pub catalog_below : (at : ℕ) → Contains (catalog_sectors content) at → at < limit
  unfolding volume_of
  catalog_below at has = special_below (record { id = catalog_id; kind = data_kind; fork = head.catalog_fork }) (1, omega arith, refl) at (subst (λ o. Contains (sectors_by head o catalog_id head.catalog_fork) at) (sym overflow_is) has)

  -- they are as many as the file's bytes take
  long_enough : (owned : Owned) → Contains (special_forks was.head) owned → owned.fork.logical_size ≤ 512 * length (sectors_of per (blocks_owned (overflow_in_volume was) owned))
  unfolding volume_of
  long_enough owned stands =
      let sizes : HasSizes was.head (overflow_in_volume was) owned = each_of (HasSizes was.head (overflow_in_volume was)) (forks_of was) sound.volume.blocks.forks.sizes owned (special_stands was owned stands) in
      let blocks : List ℕ = blocks_owned (overflow_in_volume was) owned in
      let scaled : owned.fork.total_blocks * head.block_size ≡ 512 * (owned.fork.total_blocks * per) = ap (λ b. owned.fork.total_blocks * b) whole.whole ∙ mul_left_comm owned.fork.total_blocks 512 per in
      let counted : length blocks * per ≡ owned.fork.total_blocks * per = ap (λ n. n * per) sizes.blocks in
      omega (arith, sizes.bytes, scaled, counted, length_sectors per blocks)

  pub map_long : head.allocation_fork.logical_size ≤ 512 * length (bitmap_sectors content)
  unfolding volume_of
  map_long = subst (λ o. head.allocation_fork.logical_size ≤ 512 * length (sectors_by head o allocation_id head.allocation_fork)) overflow_is (long_enough (record { id = allocation_id; kind = data_kind; fork = head.allocation_fork }) (2, omega arith, refl))

  pub catalog_long : head.catalog_fork.logical_size ≤ 512 * length (catalog_sectors content)
  unfolding volume_of
  catalog_long = subst (λ o. head.catalog_fork.logical_size ≤ 512 * length (sectors_by head o catalog_id head.catalog_fork)) overflow_is (long_enough (record { id = catalog_id; kind = data_kind; fork = head.catalog_fork }) (1, omega arith, refl))
