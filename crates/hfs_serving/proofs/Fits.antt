-- Names, one by one and all together.
use Rattle.std.proofs.Common.{◌<◌, ◌≤◌, ◌-◌, ◌^◌, ℕ, suc, List, [], ◌∷◌, inl, inr, get_or, length, sym, subst, arith}
use Rattle.std.proofs.lemmas.Bool.{cases_eq}
use Rattle.name_text.specs.Laws.{AreUnits}
use Rattle.hfs_language.specs.Written.{FitsPath}
use Rattle.hfs_serving.specs.Parts.{HasNames}

pub units_from : (units : List ℕ) → ((k : ℕ) → k < length units → get_or units k 0 < 2 ^ 16) → AreUnits units
units_from [] each = tt
units_from (u ∷ units) each = (each 0 (omega arith), units_from units (λ k low. each (suc k) (omega (arith, low))))

-- what is so from here on, and at the place before, is so from that place on
pub one_more : (P : ℕ → Type 0) (at long : ℕ) → 0 < at → ((k : ℕ) → at ≤ k → k < long → P k) → P (at - 1) → (k : ℕ) → at - 1 ≤ k → k < long → P k
one_more P at long some later here k from low = elim (cases_eq k (at - 1)) [
  | inl is ↦ subst P (sym is) here
  | inr other ↦ later k (omega (arith, from, other, some)) low
]

-- names that have their lengths, and whose units are numbers of sixteen bits
pub path_from : (path : List (List ℕ)) → HasNames path → ((k : ℕ) → k < length path → AreUnits (get_or path k [])) → FitsPath path
path_from [] names each = tt
path_from (name ∷ path) names each = (record { some = names.0.0; short = names.0.1; units = each 0 (omega arith) }, path_from path names.1 (λ k low. each (suc k) (omega (arith, low))))
