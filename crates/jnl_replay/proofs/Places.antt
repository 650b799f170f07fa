-- Where an accepted volume header says that the info block is.
use Rattle.std.proofs.Common.{◌≡◌, ◌<◌, ◌≤◌, ◌+◌, ◌*◌, ◌/◌, ℕ, Bool, true, false, not, refl, subst, arith, cond}
use Rattle.std.specs.Prelude.{Option, None, Some, nat_lt, ◌||◌}
use Rattle.std.proofs.Math.Nat.{mul-le-mul_left, mul-le-mul_right, div-mul-le_self, le_of_mul-le-mul_right, mul_assoc, add-mul}
use Rattle.std.proofs.lemmas.Bool.{and_parts, leb-true, ltb-true, eqb-true}
use Rattle.volume_header.specs.Refusal.{header_refusal, is_volume_size, is_hfsx, is_block_size, fits_blocks, fits_journal, is_journaled, has_ids_reused}
use Rattle.volume_header.specs.declared.header.VolumeHeader.{VolumeHeader}
use Rattle.volume_header.specs.declared.refusal.HeaderRefusal.{HeaderRefusal}
use Rattle.volume_header.specs.declared.refusal.HeaderRefusal.TheVariants.{LimitSectors, NotHfsx, BadGeometry, NotJournaled, IdsReused}
use Rattle.jnl_format.specs.Recovery.{info_sector_of}

place_inside : (n bs total info : ℕ) → 512 ≤ bs → total ≡ n * 512 / bs → info < total → info * (bs / 512) < n
place_inside n bs total info low is inside =
    let k = bs / 512 in
    let some : 1 ≤ k = omega (arith, low) in
    let one_more : info + 1 ≤ n * 512 / bs = omega (arith, is, inside) in
    let a : (info + 1) * (k * 512) ≤ (info + 1) * bs = mul-le-mul_left (info + 1) (div-mul-le_self bs 512) in
    let b : (info + 1) * bs ≤ n * 512 / bs * bs = mul-le-mul_right bs one_more in
    let c : n * 512 / bs * bs ≤ n * 512 = div-mul-le_self (n * 512) bs in
    let d : (info + 1) * k * 512 ≡ (info + 1) * (k * 512) = mul_assoc (info + 1) k 512 in
    let e : (info + 1) * k ≤ n = le_of_mul-le-mul_right {k = 512} (omega (arith, a, b, c, d)) (omega arith) in
    let f : (info + 1) * k ≡ info * k + 1 * k = add-mul info 1 k in
    omega (arith, some, e, f)

refused_none : (b : Bool) (x : HeaderRefusal) (rest : Option HeaderRefusal) → cond (not b) (Some x) rest ≡ None → (b ≡ true) × (rest ≡ None)
refused_none true x rest h = (refl, h)
refused_none false x rest h = absurd (cc h)

journal_fits : (head : VolumeHeader) → (not (is_journaled head.attributes) || nat_lt head.journal_info_block head.total_blocks) ≡ true → is_journaled head.attributes ≡ true → nat_lt head.journal_info_block head.total_blocks ≡ true
journal_fits head fits is = subst (λ (b : Bool). (not b || nat_lt head.journal_info_block head.total_blocks) ≡ true) is fits

-- the info block of an accepted header lies on the volume, which isn't too large
pub accepted_place : (head : VolumeHeader) (sectors : ℕ) → header_refusal head sectors ≡ None → (info_sector_of head < sectors) × (sectors ≤ 2147483648)
accepted_place head sectors accepted =
    let journaled = is_journaled head.attributes in
    let ids = has_ids_reused head.attributes in
    let p1 = refused_none (is_volume_size sectors) (LimitSectors sectors) _ accepted in
    let p2 = refused_none (is_hfsx head) (NotHfsx head.signature head.version) _ p1.1 in
    let p3 = refused_none (is_block_size head.block_size) (BadGeometry 40) _ p2.1 in
    let p4 = refused_none (fits_blocks head sectors) (BadGeometry 44) _ p3.1 in
    let p5 = refused_none (fits_journal head) (BadGeometry 12) _ p4.1 in
    let p6 = refused_none journaled NotJournaled (cond ids (Some IdsReused) None) p5.1 in
    let size = and_parts _ _ p1.0 in
    let block = and_parts _ _ p3.0 in
    let whole = and_parts _ _ block.0 in
    let blocks = and_parts _ _ p4.0 in (
      place_inside sectors head.block_size head.total_blocks head.journal_info_block
          (leb-true 512 head.block_size whole.1) (eqb-true head.total_blocks (sectors * 512 / head.block_size) blocks.0)
          (ltb-true head.journal_info_block head.total_blocks (journal_fits head p5.0 p6.0)),
      leb-true sectors 2147483648 size.1,
    )
