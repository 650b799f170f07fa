-- Names, one by one and all together.
use Rattle.std.proofs.Common.{◌≡◌, ◌<◌, ◌≤◌, ◌^◌, ◌==◌, ◌&&◌, ℕ, suc, zero, Bool, true, false, nat_le, List, [], ◌∷◌, get_or, length, arith}
use Rattle.std.specs.Prelude.{IsTrue, not}
use Rattle.std.proofs.lemmas.Bool.{and_parts, leb-true}
use Rattle.name_text.specs.Laws.{AreUnits}
use Rattle.hfs_language.specs.Written.{FitsPath, IsName}
use Rattle.volume_look.specs.Talk.{are_names, is_name}

pub units_from : (units : List ℕ) → ((k : ℕ) → k < length units → get_or units k 0 < 2 ^ 16) → AreUnits units
units_from [] each = tt
units_from (u ∷ units) each = (each 0 (omega arith), units_from units (λ k low. each (suc k) (omega (arith, low))))

some_of : (n : ℕ) → IsTrue (not (n == 0)) → 0 < n
some_of zero never = absurd (cc never)
some_of (suc n) some = omega arith

-- a name that has its length, and whose units are numbers of sixteen bits
pub name_from : (most : ℕ) (name : List ℕ) → IsTrue (is_name most name) → AreUnits name → IsName most name
name_from most name is units =
    let p = and_parts (not (length name == 0)) (nat_le (length name) most) is in
    record { some = some_of (length name) p.0; short = leb-true (length name) most p.1; units = units }

-- names that have their lengths, and whose units are numbers of sixteen bits
pub path_from : (path : List (List ℕ)) → IsTrue (are_names path) → ((k : ℕ) → k < length path → AreUnits (get_or path k [])) → FitsPath path
path_from [] names each = tt
path_from (name ∷ path) names each =
    let p = and_parts (is_name 255 name) (are_names path) names in
    (name_from 255 name p.0 (each 0 (omega arith)), path_from path p.1 (λ k low. each (suc k) (omega (arith, low))))
