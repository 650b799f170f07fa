-- Zero blocks that hold zeros before a file is made longer: they hold what it ought to have there.
use Rattle.std.proofs.Common.{◌≡◌, ℕ, ◌+◌, ◌-◌, ◌*◌, ◌/◌, ◌%◌, ◌^◌, ◌≤◌, ◌<◌, List, length, min, sym, ◌∙◌, ap, subst, arith, ⊎_elim}
use Rattle.std.proofs.lemmas.Bool.{cases_lt}
use Rattle.std.proofs.Math.Nat.{div-mul-le_self, le_of_mul-le-mul_right, mul-le-mul, mul-le-mul_right, zero-mul}
use Rattle.sector_disk.specs.Lists.{Content}
use Rattle.file_io.specs.Bytes.{new_byte}
use Rattle.file_io.specs.Places.{blocks_for}
use Rattle.file_io.proofs.AroundLaws.{zero_there}
use Rattle.file_io.proofs.PlaceLaws.{blocks_hold, whole_block}

pub both_products : (a d p : ℕ) → (a + d) * p ≡ a * p + d * p
both_products a d p = omega arith

-- they lie among the new blocks
pub zeros_within : (p a b e had zeroed : ℕ) → a ≤ e → e ≡ min b had → zeroed ≤ b - had → (e - a) * p + zeroed * p ≤ (b - a) * p
zeros_within p a b e had zeroed order e_is few =
    let sum : e - a + zeroed ≤ b - a = omega (arith, order, e_is, few) in
    omega (arith, mul-le-mul_right p sum, both_products (e - a) zeroed p)

-- the bytes of the file there are zeros
pub zero_inside : (content : Content) (had : List ℕ) (block size from a e zeroed n k : ℕ) (value : List ℕ) → block % 512 ≡ 0 → 0 < block → a ≤ e → e ≡ blocks_for block size
    → (e - a) * (block / 512) ≤ n → n < (e - a) * (block / 512) + zeroed * (block / 512) → k < 512 → (0 < length value → (e + zeroed) * block ≤ from)
    → new_byte content had size from value ((a * (block / 512) + n) * 512 + k) ≡ 0
zero_inside content had block size from a e zeroed n k value whole some order e_is low high below gap =
    let p : ℕ = block / 512 in
    let d : ℕ = e - a in
    let sum : a + d ≡ e = omega (arith, order) in
    let first : e * p ≡ a * p + d * p = ap (λ m. m * p) (sym sum) ∙ both_products a d p in
    let second : (e + zeroed) * p ≡ e * p + zeroed * p = both_products e zeroed p in
    let size_low : size ≤ e * block = subst (λ m. size ≤ m * block) (sym e_is) (blocks_hold block size some) in
    zero_there content had size from ((a * p + n) * 512 + k) value (omega (arith, low, first, whole_block block e whole, size_low))
    (λ more. omega (arith, high, first, second, whole_block block (e + zeroed) whole, gap more, below))

-- before a place of the file
pub place_before_end : (block from end : ℕ) → 0 < block → from ≤ end → from / block ≤ blocks_for block end
place_before_end block from end some more = le_of_mul-le-mul_right {k = block} (omega (arith, div-mul-le_self from block, blocks_hold block end some, more)) some

pub zeros_before : (block size from zeroed : ℕ) → 0 < zeroed → zeroed ≤ from / block - blocks_for block size → (blocks_for block size + zeroed) * block ≤ from
zeros_before block size from zeroed more few =
    let sum : blocks_for block size + zeroed ≤ from / block = omega (arith, few, more) in
    omega (arith, mul-le-mul_right block sum, div-mul-le_self from block)

-- a product that isn't zero has no factor that is zero
pub some_factor : (x p : ℕ) → 0 < x * p → 0 < x
some_factor x p some = ⊎_elim
    (λ (none : x < 1). let is : x ≡ 0 = omega (arith, none) in let nothing : x * p ≡ 0 = ap (λ n. n * p) is ∙ zero-mul p in absurd (omega (arith, nothing, some)))
    (λ (one : 1 ≤ x). one)
    (cases_lt x 1)

pub few_behind : (zeroed x y had : ℕ) → zeroed ≤ x - had → x ≤ y → zeroed ≤ y - had
few_behind zeroed x y had few le = omega (arith, few, le)

-- where there are zero blocks, the old blocks end before the new ones do
pub end_of_old : (zeroed b e had : ℕ) → e ≡ min b had → zeroed ≤ b - had → 0 < zeroed → e ≡ had
end_of_old zeroed b e had is few some = omega (arith, is, few, some)

-- sectors of so many blocks fit
pub fits_sectors : (n p : ℕ) → n ≤ 2 ^ 31 → p ≤ 128 → n * p ≤ 2 ^ 31 * 128
fits_sectors n p few most = mul-le-mul {n₁ = n} {m₁ = p} {n₂ = 2 ^ 31} {m₂ = 128} few most

pub few_in_all : (zeroed b had : ℕ) → zeroed ≤ b - had → b ≤ 2 ^ 31 → zeroed ≤ 2 ^ 31
few_in_all zeroed b had few all = omega (arith, few, all)
