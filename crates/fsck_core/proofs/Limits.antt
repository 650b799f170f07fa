-- The blocks of a volume take its sectors up to the last whole block.
use Rattle.std.proofs.Common.{◌≡◌, ◌<◌, ◌≤◌, ℕ, ◌+◌, ◌-◌, ◌*◌, ◌/◌, ◌%◌, ◌^◌, true, ◌==◌, ◌&&◌, ◌||◌, nat_le, nat_lt, length, [], refl, sym, ◌∙◌, ap, subst, arith}
use Rattle.std.specs.Prelude.{None, Some, not, if◌then◌else◌, Option, Bool, false}
use Rattle.std.specs.Int.{is_power_of_two}
use Rattle.std.proofs.Math.Nat.{div-mul-le_self, le-div_iff_mul-le, div-add-mod', mul-le-mul_right, div-le_of_le-mul}
use Rattle.std.proofs.lemmas.Bool.{eqb-true, leb-true, ltb-true, and_parts}
use Rattle.volume_header.specs.Refusal.{header_refusal, is_volume_size, is_hfsx, is_block_size, fits_blocks, fits_journal, is_journaled}
use Rattle.volume_header.specs.declared.header.VolumeHeader.{VolumeHeader}
use Rattle.volume_header.specs.declared.refusal.HeaderRefusal.{HeaderRefusal}
use Rattle.volume_header.specs.declared.refusal.HeaderRefusal.TheVariants.{LimitSectors, NotHfsx, BadGeometry, NotJournaled}
use Rattle.fork_map.specs.Blocks.{fork_sectors}
use Rattle.jnl_format.specs.Recovery.{Content, header_of_volume}
use Rattle.hfs_volume.specs.Forks.{per_block_of, extents_of, extents_id, catalog_id, attributes_id, data_kind}
use Rattle.hfs_volume.specs.Content.{block_limit, tree_of_fork, extents_file, catalog_file, attributes_file, overflow_of_content}
use Rattle.hfs_volume.specs.Blocks.{IsGoodHeader}
use Rattle.hfs_volume.proofs.Untouched.{whole_blocks}
use Rattle.fsck_scan.specs.Form.{tree_in}
use Rattle.fsck_core.proofs.HeaderLaws.{few_sectors}

passed : (b : Bool) (why : HeaderRefusal) (rest : Option HeaderRefusal) → (if not b then Some why else rest) ≡ None → (b ≡ true) × (rest ≡ None)
passed true why rest is = (refl, is)
passed false why rest is = absurd (cc)

-- so many blocks
total_is : (sectors : ℕ) (head : VolumeHeader) → header_refusal head sectors ≡ None → head.total_blocks ≡ sectors * 512 / head.block_size
total_is sectors head accepted =
    let p1 = passed (is_volume_size sectors) (LimitSectors sectors) _ accepted in
    let p2 = passed (is_hfsx head) (NotHfsx head.signature head.version) _ p1.1 in
    let p3 = passed (is_block_size head.block_size) (BadGeometry 40) _ p2.1 in
    let p4 = passed (fits_blocks head sectors) (BadGeometry 44) _ p3.1 in
    let t = and_parts (head.total_blocks == sectors * 512 / head.block_size) (nat_le head.total_blocks 268435456) p4.0 in
    eqb-true head.total_blocks (sectors * 512 / head.block_size) t.0

-- a good header's block size lies in its range
pub block_range : (sectors : ℕ) (head : VolumeHeader) → IsGoodHeader sectors head → (512 ≤ head.block_size) × (head.block_size ≤ 65536)
block_range sectors head good =
    let p1 = passed (is_volume_size sectors) (LimitSectors sectors) _ good.accepted in
    let p2 = passed (is_hfsx head) (NotHfsx head.signature head.version) _ p1.1 in
    let p3 = passed (is_block_size head.block_size) (BadGeometry 40) _ p2.1 in
    let most = and_parts (is_power_of_two head.block_size && nat_le 512 head.block_size) (nat_le head.block_size 65536) p3.0 in
    let least = and_parts (is_power_of_two head.block_size) (nat_le 512 head.block_size) most.0 in
    (leb-true 512 head.block_size least.1, leb-true head.block_size 65536 most.1)

-- blocks of whole sectors fill the sectors but for those of a part of one
whole_part : (sectors per size : ℕ) → size ≡ 512 * per → 0 < per → sectors * 512 / size * per ≡ sectors - sectors % per
whole_part sectors per size whole some =
    let some_size : 0 < size = omega (arith, whole, some) in
    let q : ℕ = sectors / per in
    let total : ℕ = sectors * 512 / size in
    let times_q : q * size ≡ 512 * (q * per) = ap (λ n. q * n) whole ∙ omega arith in
    let times_total : total * size ≡ 512 * (total * per) = ap (λ n. total * n) whole ∙ omega arith in
    let under_q : q * per ≤ sectors = div-mul-le_self sectors per in
    let under_total : total * size ≤ sectors * 512 = div-mul-le_self (sectors * 512) size in
    let up : q ≤ total = (le-div_iff_mul-le {k = size} {x = q} {y = sectors * 512} some_size).1 (omega (arith, times_q, under_q)) in
    let down : total ≤ q = (le-div_iff_mul-le {k = per} {x = total} {y = sectors} some).1 (omega (arith, times_total, under_total)) in
    let same : total ≡ q = omega (arith, up, down) in
    let split : q * per + sectors % per ≡ sectors = div-add-mod' sectors per in
    ap (λ n. n * per) same ∙ omega (arith, split)

-- the limit of a content whose header is good
pub limit_is : (content : Content) → IsGoodHeader (length content) (header_of_volume content) → block_limit content ≡ length content - length content % per_block_of (header_of_volume content)
limit_is content good =
    let head : VolumeHeader = header_of_volume content in
    let blocks = whole_blocks (length content) head good.accepted in
    ap (λ n. n * per_block_of head) (total_is (length content) head good.accepted) ∙ whole_part (length content) (per_block_of head) head.block_size blocks.whole blocks.some

-- the three trees lie where they are scanned
module _ (content : Content) (good : IsGoodHeader (length content) (header_of_volume content)) where
  pub extents_lie : tree_in content (length content) (header_of_volume content).block_size (extents_of [] extents_id data_kind (header_of_volume content).extents_fork) ≡ extents_file content
  unfolding extents_file
  extents_lie = λ i. tree_of_fork content (sym (limit_is content good) i) (fork_sectors (extents_of [] extents_id data_kind (header_of_volume content).extents_fork) (per_block_of (header_of_volume content)))

  pub catalog_lies : tree_in content (length content) (header_of_volume content).block_size (extents_of (overflow_of_content content) catalog_id data_kind (header_of_volume content).catalog_fork) ≡ catalog_file content
  unfolding catalog_file
  catalog_lies =
      λ i. tree_of_fork content (sym (limit_is content good) i) (fork_sectors (extents_of (overflow_of_content content) catalog_id data_kind (header_of_volume content).catalog_fork) (per_block_of (header_of_volume content)))

  pub attributes_lie : tree_in content (length content) (header_of_volume content).block_size (extents_of (overflow_of_content content) attributes_id data_kind (header_of_volume content).attributes_fork) ≡ attributes_file content
  unfolding attributes_file
  attributes_lie =
      λ i. tree_of_fork content (sym (limit_is content good) i) (fork_sectors (extents_of (overflow_of_content content) attributes_id data_kind (header_of_volume content).attributes_fork) (per_block_of (header_of_volume content)))

-- a volume has few sectors
pub sectors_range : (sectors : ℕ) (head : VolumeHeader) → IsGoodHeader sectors head → sectors ≤ 2 ^ 31
sectors_range sectors head good = few_sectors sectors (passed (is_volume_size sectors) (LimitSectors sectors) _ good.accepted).0

-- the journal's info block is one of the volume's sectors
pub info_inside : (sectors : ℕ) (head : VolumeHeader) → IsGoodHeader sectors head → head.journal_info_block * (head.block_size / 512) < sectors
info_inside sectors head good =
    let p1 = passed (is_volume_size sectors) (LimitSectors sectors) _ good.accepted in
    let p2 = passed (is_hfsx head) (NotHfsx head.signature head.version) _ p1.1 in
    let p3 = passed (is_block_size head.block_size) (BadGeometry 40) _ p2.1 in
    let p4 = passed (fits_blocks head sectors) (BadGeometry 44) _ p3.1 in
    let p5 = passed (fits_journal head) (BadGeometry 12) _ p4.1 in
    let p6 = passed (is_journaled head.attributes) NotJournaled _ p5.1 in
    let inside : head.journal_info_block < head.total_blocks = ltb-true head.journal_info_block head.total_blocks (subst (λ b. (not b || nat_lt head.journal_info_block head.total_blocks) ≡ true) p6.0 p5.0) in
    let blocks = whole_blocks sectors head good.accepted in
    let per : ℕ = per_block_of head in
    let some : 0 < per = blocks.some in
    let filled : head.total_blocks * per ≡ sectors - sectors % per = ap (λ n. n * per) (total_is sectors head good.accepted) ∙ whole_part sectors per head.block_size blocks.whole some in
    let next : (head.journal_info_block + 1) * per ≤ head.total_blocks * per = mul-le-mul_right per (omega (arith, inside)) in
    let split : (head.journal_info_block + 1) * per ≡ head.journal_info_block * per + per = omega arith in
    omega (arith, filled, next, split, some)

-- a place near the end of a volume, in blocks, is small
pub quotient_few : (sectors size : ℕ) → 512 ≤ size → (sectors * 512 - 1024) / size ≤ sectors
quotient_few sectors size least = div-le_of_le-mul size {m = sectors * 512 - 1024} {n = sectors} (let wide : 512 * sectors ≤ size * sectors = mul-le-mul_right sectors least in omega (arith, wide))

pub some_size : (sectors : ℕ) (head : VolumeHeader) → IsGoodHeader sectors head → 0 < head.block_size
some_size sectors head good = let range = block_range sectors head good in omega (arith, range.0)
