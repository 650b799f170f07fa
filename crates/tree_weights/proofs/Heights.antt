-- How high edits raise a root.
use Rattle.std.proofs.Common.{◌≡◌, ◌<◌, ◌≤◌, ℕ, zero, suc, ◌+◌, ◌-◌, ◌*◌, ◌/◌, Bool, true, false, inl, inr, refl, ap, arith}
use Rattle.std.specs.Prelude.{nat_lt, max, if◌then◌else◌}
use Rattle.std.proofs.lemmas.Nat.{le-div, div_below}
use Rattle.std.proofs.lemmas.Bool.{cases_lt}
use Rattle.std.proofs.Math.Nat.{div-mul-le_self}
use Rattle.btree_edit.specs.Edits.{tops}

-- a quotient grows with what is divided
pub div_grows : (n m k : ℕ) → 0 < k → n ≤ m → n / k ≤ m / k
div_grows n m k some less = let it = div-mul-le_self n k in le-div (n / k) m k some (omega (arith, it, less))

module _ (room wide : ℕ) (some : 0 < wide) (three : 3 * wide ≤ room) where
  abbrev fill : ℕ
  fill = room / wide - 2

  filled : 0 < fill
  filled = let it = le-div 3 room wide some three in omega (arith, it)

  -- where a root of so many records is full, it has as many as fit
  full : (records : ℕ) → nat_lt room (wide * (records + 1)) ≡ true → fill + 2 ≤ records
  full records is = let it = div_below room wide (records + 1) some (grind (arith, is)) in omega (arith, it, filled)

  -- from a root of at least two records: each rise takes as many edits as fill one
  from_two : (edits above records : ℕ) → 2 ≤ records → (tops room wide edits (record { depth = suc (suc above); records = records })).depth * fill ≤ (above + 2) * fill + (records - 2) + edits
  from_two zero above records many = omega arith
  from_two (suc edits) above records many = by_test (from_two edits (suc above) 2 (omega arith)) (from_two edits above (records + 1) (omega (arith, many))) (nat_lt room (wide * (records + 1))) refl
    where
      by_test : (tops room wide edits (record { depth = suc (suc (suc above)); records = 2 })).depth * fill ≤ (suc above + 2) * fill + (2 - 2) + edits
          → (tops room wide edits (record { depth = suc (suc above); records = records + 1 })).depth * fill ≤ (above + 2) * fill + (records + 1 - 2) + edits
          → (b : Bool) → nat_lt room (wide * (records + 1)) ≡ b
          → (tops room wide edits (if b then record { depth = suc (suc (suc above)); records = 2 } else record { depth = suc (suc above); records = records + 1 })).depth * fill ≤ (above + 2) * fill + (records - 2) + suc edits
      by_test risen wider true is = let most = full records is in omega (arith, risen, most)
      by_test risen wider false is = omega (arith, wider, many)

  less_of : (a b e : ℕ) → a * fill ≤ b * fill + (2 - 2) + e → (a - b) * fill ≤ e
  less_of a b e most = elim (cases_lt a b) [
    | inr more ↦ let parts : b + (a - b) ≡ a = omega (arith, more) in let whole = ap (λ n. n * fill) parts in omega (arith, most, whole)
    | inl less ↦ let gone : a - b ≡ 0 = omega (arith, less) in let none = ap (λ n. n * fill) gone in omega (arith, none)
  ]

  raised : (edits above : ℕ) → (tops room wide edits (record { depth = suc (suc above); records = 2 })).depth ≤ above + 2 + edits / fill
  raised edits above =
      let it = from_two edits above 2 (omega arith) in
      let more : (tops room wide edits (record { depth = suc (suc above); records = 2 })).depth - (above + 2) ≤ edits / fill = le-div _ edits fill filled (less_of (tops room wide edits (record { depth = suc (suc above); records = 2 })).depth (above + 2) edits it) in
      omega (arith, more)

  -- from any root of an index: one rise at most comes before
  index : (edits above records : ℕ) → (tops room wide edits (record { depth = suc (suc above); records = records })).depth ≤ above + 3 + edits / fill
  index zero above records = omega arith
  index (suc edits) above records = by_test (index edits above (records + 1)) (nat_lt room (wide * (records + 1)))
    where
      more : edits / fill ≤ suc edits / fill
      more = div_grows edits (suc edits) fill filled (omega arith)

      by_test : (tops room wide edits (record { depth = suc (suc above); records = records + 1 })).depth ≤ above + 3 + edits / fill
          → (b : Bool) → (tops room wide edits (if b then record { depth = suc (suc (suc above)); records = 2 } else record { depth = suc (suc above); records = records + 1 })).depth ≤ above + 3 + suc edits / fill
      by_test wider true = let it = raised edits (suc above) in omega (arith, it, more)
      by_test wider false = omega (arith, wider, more)

  leaf : (edits records : ℕ) → (tops room wide edits (record { depth = 1; records = records })).depth ≤ 2 + edits / fill
  leaf zero records = omega arith
  leaf (suc edits) records = let it = raised edits 0 in let more = div_grows edits (suc edits) fill filled (omega arith) in omega (arith, it, more)

  -- after any edits
  pub low : (edits depth records : ℕ) → (tops room wide edits (record { depth = depth; records = records })).depth ≤ max depth 1 + 1 + edits / fill
  low zero zero records = omega arith
  low (suc edits) zero records = let it = leaf edits 1 in let more = div_grows edits (suc edits) fill filled (omega arith) in omega (arith, it, more)
  low edits (suc zero) records = let it = leaf edits records in omega (arith, it)
  low edits (suc (suc above)) records = let it = index edits above records in omega (arith, it)
