-- Where a walk over sectors stands after a step.
use Rattle.std.proofs.Common.{◌≡◌, ℕ, ◌+◌, ◌-◌, ◌*◌, ◌/◌, ◌%◌, ◌^◌, ◌≤◌, ◌<◌, List, Some, None, length, get_or, slice_get, sym, ◌∙◌, ap, subst, arith}
use Rattle.std.specs.Option.{option_map}
use Rattle.std.proofs.lemmas.Nat.{div-mul-add, mod-mul-add}
use Rattle.std.proofs.Math.Nat.{mul-le-mul}
use Rattle.std.proofs.lemmas.Option.{slice_get-get_or}
use Rattle.hx_bytes.specs.declared.extents.Extent.{Extent}
use Rattle.fork_map.specs.declared.cursor.Cursor.{Cursor}
use Rattle.fork_map.specs.Blocks.{blocks_of, sectors_of}
use Rattle.fork_map.specs.Cursors.{IsAt}
use Rattle.fork_map.proofs.Laws.{sector_at_place}
use Rattle.file_io.specs.declared.walk.Walk.{Walk}
use Rattle.file_io.specs.Walks.{StandsAt}

abbrev pub walk : Cursor → ℕ → ℕ → Walk
walk at sector left = record { at = at; sector = sector; left = left }

-- a sector of a block
pub sector_of_block : (p : ℕ) (bs : List ℕ) (q r b : ℕ) → r < p → Some b ≡ slice_get bs q → slice_get (sectors_of p bs) (q * p + r) ≡ Some (b * p + r)
sector_of_block p bs q r b lt is =
    sector_at_place p bs (q * p + r) (omega (arith, lt))
    ∙ ap (λ m. option_map (λ c. c * p + (q * p + r) % p) (slice_get bs m)) (div-mul-add q p r lt)
    ∙ ap (λ m. option_map (λ c. c * p + m) (slice_get bs q)) (mod-mul-add q p r lt)
    ∙ ap (λ o. option_map (λ c. c * p + r) o) (sym is)

no_sector_of_block : (p : ℕ) (bs : List ℕ) (q : ℕ) → 0 < p → None ≡ slice_get bs q → None ≡ slice_get (sectors_of p bs) (q * p)
no_sector_of_block p bs q some is =
    let here : q * p ≡ q * p + 0 = omega arith in
    ap (λ o. option_map (λ c. c * p + (q * p + 0) % p) o) is
    ∙ sym (ap (λ m. slice_get (sectors_of p bs) m) here ∙ sector_at_place p bs (q * p + 0) some ∙ ap (λ m. option_map (λ c. c * p + (q * p + 0) % p) (slice_get bs m)) (div-mul-add q p 0 some))

bounded : (b p skipped : ℕ) → skipped < p → p ≤ 128 → b < 2 ^ 33 → b * p + skipped + (p - skipped) < 2 ^ 60
bounded b p skipped lt few small =
    let product : b * p ≤ 2 ^ 33 * 128 = mul-le-mul {n₁ = b} {m₁ = p} {n₂ = 2 ^ 33} {m₂ = 128} (omega (arith, small)) few in
    omega (arith, product, lt, few)

-- ---- a block is begun
-- the block's place, and how many of its sectors are left out
pub block_begun : (es : List Extent) (p : ℕ) (at : Cursor) (place skipped b : ℕ) → skipped < p → p ≤ 128 → b < 2 ^ 33 → Some b ≡ slice_get (blocks_of es) place → IsAt es at (place + 1)
    → StandsAt es p (walk at (b * p + skipped) (p - skipped)) (place * p + skipped)
block_begun es p at place skipped b lt few small is cursor = record {
  place = place + 1;
  cursor = cursor;
  number = omega (arith, lt);
  left = λ k below.
      let inside : skipped + k < p = omega (arith, below, lt) in
      ap (λ m. slice_get (sectors_of p (blocks_of es)) m) (let e : place * p + skipped + k ≡ place * p + (skipped + k) = omega arith in e)
      ∙ sector_of_block p (blocks_of es) place (skipped + k) b inside is
      ∙ ap (λ m. Some m) (let e : b * p + (skipped + k) ≡ b * p + skipped + k = omega arith in e);
  small = bounded b p skipped lt few small;
}

pub block_whole : (es : List Extent) (p : ℕ) (at : Cursor) (place n b : ℕ) → 0 < p → p ≤ 128 → b < 2 ^ 33 → Some b ≡ slice_get (blocks_of es) place → IsAt es at (place + 1) → n ≡ place * p
    → StandsAt es p (walk at (b * p) p) n
block_whole es p at place n b some few small is cursor number =
    subst (λ m. StandsAt es p (walk at (b * p) p) m) (let e : place * p + 0 ≡ n = omega (arith, number) in e)
    (subst (λ m. StandsAt es p (walk at m p) (place * p + 0)) (let e : b * p + 0 ≡ b * p = omega arith in e)
    (subst (λ m. StandsAt es p (walk at (b * p + 0) m) (place * p + 0)) (let e : p - 0 ≡ p = omega arith in e) (block_begun es p at place 0 b some few small is cursor)))

-- ---- a sector is given
pub sector_here : (es : List Extent) (p n : ℕ) (w : Walk) → StandsAt es p w n → 0 < w.left → Some w.sector ≡ slice_get (sectors_of p (blocks_of es)) n
sector_here es p n w s some = sym (ap (λ m. slice_get (sectors_of p (blocks_of es)) m) (let e : n ≡ n + 0 = omega arith in e) ∙ s.left 0 some ∙ ap (λ m. Some m) (let e : w.sector + 0 ≡ w.sector = omega arith in e))

pub sector_given : (es : List Extent) (p n : ℕ) (w : Walk) → StandsAt es p w n → 0 < w.left → StandsAt es p (walk w.at ((w.sector + 1) % 18446744073709551616) (w.left - 1)) (n + 1)
sector_given es p n w s some =
    let next : (w.sector + 1) % 18446744073709551616 ≡ w.sector + 1 = omega (arith, s.small) in
    subst (λ m. StandsAt es p (walk w.at m (w.left - 1)) (n + 1)) (sym next) (record {
      place = s.place;
      cursor = s.cursor;
      number = omega (arith, s.number, some);
      left = λ k below.
          ap (λ m. slice_get (sectors_of p (blocks_of es)) m) (let e : n + 1 + k ≡ n + (k + 1) = omega arith in e)
          ∙ s.left (k + 1) (omega (arith, below)) ∙ ap (λ m. Some m) (let e : w.sector + (k + 1) ≡ w.sector + 1 + k = omega arith in e);
      small = omega (arith, s.small, some);
    })

pub nothing_here : (es : List Extent) (p n : ℕ) (w : Walk) → 0 < p → StandsAt es p w n → w.left ≡ 0 → ((m : ℕ) → IsAt es w.at m → None ≡ slice_get (blocks_of es) m) → None ≡ slice_get (sectors_of p (blocks_of es)) n
nothing_here es p n w some s none end =
    no_sector_of_block p (blocks_of es) s.place some (end s.place s.cursor) ∙ ap (λ m. slice_get (sectors_of p (blocks_of es)) m) (let e : s.place * p ≡ n = omega (arith, s.number, none) in e)

-- ---- the first sector
pub none_before : (es : List Extent) (p n : ℕ) → 0 < p → None ≡ slice_get (blocks_of es) (n / p) → n < length (sectors_of p (blocks_of es)) → ⊥
none_before es p n some is lt =
    let none : None ≡ slice_get (sectors_of p (blocks_of es)) n = ap (λ o. option_map (λ b. b * p + n % p) o) is ∙ sym (sector_at_place p (blocks_of es) n some) in
    let there : None ≡ Some (get_or (sectors_of p (blocks_of es)) n 0) = none ∙ slice_get-get_or (sectors_of p (blocks_of es)) n 0 lt in
    absurd (cc there)
