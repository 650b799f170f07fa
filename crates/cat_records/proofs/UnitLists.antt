-- Units in bytes, one after the other.
use Rattle.std.proofs.Common.{◌≡◌, ℕ, zero, suc, ◌+◌, ◌-◌, ◌*◌, ◌<◌, ◌≤◌, List, [], ◌∷◌, ◌++◌, length, take, get_or, refl, sym, ◌∙◌, ap, arith, append_assoc, ◌^◌, drop}
use Rattle.std.proofs.lemmas.List.{length-append, append-nil, take_more}
use Rattle.std.proofs.lemmas.Grind.{flat_map-append}
use Rattle.std.specs.List.{AllByRecursion}
use Rattle.hx_bytes.specs.Field.{big, big_at, AreBytes}
use Rattle.hx_bytes.specs.declared.fields.Order.TheVariants.{Big}
use Rattle.hx_bytes.proofs.Laws.{length-number_bytes, number_bytes-number_at_2}
use Rattle.hx_bytes.proofs.Reading.{Behind, behind_number, number_here}
use Rattle.hx_bytes.proofs.Spelling.{spelled_first, spelled_part}
use Rattle.cat_records.specs.Records.{units_at, units_bytes}

-- one unit read, and the rest behind it
pub units_at-more : (bytes got : List ℕ) (at count place : ℕ) → place < count → got ++ units_at bytes (at + 2 * place) (count - place) ≡ (got ++ big_at 2 bytes (at + 2 * place) ∷ []) ++ units_at bytes (at + 2 * (place + 1)) (count - (place + 1))
units_at-more bytes got at count place within =
    let left : count - place ≡ suc (count - (place + 1)) = omega arith in
    let next : at + 2 * place + 2 ≡ at + 2 * (place + 1) = omega arith in
    ap (λ (k : ℕ). got ++ units_at bytes (at + 2 * place) k) left
    ∙ ap (λ (k : ℕ). got ++ big_at 2 bytes (at + 2 * place) ∷ units_at bytes k (count - (place + 1))) next
    ∙ sym (append_assoc got (big_at 2 bytes (at + 2 * place) ∷ []) (units_at bytes (at + 2 * (place + 1)) (count - (place + 1))))

-- one unit written behind the others
pub units_bytes-more : (units : List ℕ) (place none : ℕ) → place < length units → units_bytes (take (place + 1) units) ≡ units_bytes (take place units) ++ big 2 (get_or units place none)
units_bytes-more units place none within =
    ap units_bytes (take_more units place none within)
    ∙ flat_map-append (λ unit. big 2 unit) (take place units) (get_or units place none ∷ [])
    ∙ ap (λ (l : List ℕ). units_bytes (take place units) ++ l) (append-nil (big 2 (get_or units place none)))

-- the units that stand here
pub units_here : (whole rest : List ℕ) (at : ℕ) (units : List ℕ) → AllByRecursion (λ unit. unit < 2 ^ 16) units → Behind whole (units_bytes units ++ rest) at → units_at whole at (length units) ≡ units
units_here whole rest at [] fits here = refl
units_here whole rest at (unit ∷ more) fits here =
    let first : Behind whole (big 2 unit ++ (units_bytes more ++ rest)) at = record { is = here.is ∙ append_assoc (big 2 unit) (units_bytes more) rest } in
    let one = number_here _ 2 unit fits.0 first in
    let others = units_here whole rest (at + 2) more fits.1 (behind_number 2 unit first) in
    ap (λ (n : ℕ). n ∷ units_at whole (at + 2) (length more)) one ∙ ap (λ (l : List ℕ). unit ∷ l) others

-- two bytes a unit
pub length-units_bytes : (units : List ℕ) → length (units_bytes units) ≡ 2 * length units
length-units_bytes [] = refl
length-units_bytes (unit ∷ more) = omega (arith, length-append (big 2 unit) (units_bytes more), length-number_bytes Big 2 unit, length-units_bytes more)

-- units read are spelled as they stood
pub spelled_units : (bytes : List ℕ) (at count : ℕ) → AreBytes bytes → at + 2 * count ≤ length bytes → units_bytes (units_at bytes at count) ≡ take (2 * count) (drop at bytes)
spelled_units bytes at zero are fits = refl
spelled_units bytes at (suc count) are fits =
    let one = spelled_first bytes _ at 2 (number_bytes-number_at_2 Big bytes at (omega arith) are) in
    let all = spelled_part _ (2 * count) one (spelled_units bytes (at + 2) count are (omega arith)) in
    all.is ∙ ap (λ (n : ℕ). take n (drop at bytes)) (omega arith)

-- so many units are read as are asked for
pub length-units_at : (bytes : List ℕ) (at count : ℕ) → length (units_at bytes at count) ≡ count
length-units_at bytes at zero = refl
length-units_at bytes at (suc count) = ap (λ (n : ℕ). suc n) (length-units_at bytes (at + 2) count)
