-- The keys of attributes: they are keys of the attributes tree, and read back as what they were made of.
use Rattle.std.proofs.Common.{◌≡◌, ℕ, ◌+◌, ◌*◌, ◌^◌, ◌<◌, ◌≤◌, List, [], ◌∷◌, length, replicate, ◌++◌, refl, sym, ◌∙◌, ap, arith, append_assoc}
use Rattle.std.proofs.lemmas.List.{length-append}
use Rattle.std.specs.List.{AllByRecursion}
use Rattle.hx_bytes.specs.Field.{big, big_at, number_at}
use Rattle.hx_bytes.specs.declared.fields.Order.TheVariants.{Big}
use Rattle.hx_bytes.proofs.Laws.{length-number_bytes}
use Rattle.hx_bytes.proofs.Reading.{Behind, behind_number, behind_part, number_here}
use Rattle.btree_node.specs.Keys.{units}
use Rattle.cat_records.specs.Keys.{attr_key_bytes}
use Rattle.cat_records.specs.Records.{units_bytes}
use Rattle.attributes.specs.Values.{IsKeyOf}

-- two bytes as a number
pub two_bytes : (high low : ℕ) (rest : List ℕ) → big_at 2 (high ∷ low ∷ rest) 0 ≡ high * 256 + low
unfolding number_at
two_bytes high low rest = omega arith

units_read_back : (name : List ℕ) → AllByRecursion (λ unit. unit < 2 ^ 16) name → units (units_bytes name) ≡ name
units_read_back [] fits = refl
units_read_back (unit ∷ more) fits = by_bytes (big 2 unit) refl (length-number_bytes Big 2 unit) (units_read_back more fits.1)
  where
    by_bytes : (bytes : List ℕ) → bytes ≡ big 2 unit → length bytes ≡ 2 → units (units_bytes more) ≡ more → units (big 2 unit ++ units_bytes more) ≡ unit ∷ more
    by_bytes [] is long rest_back = absurd (omega (arith, long))
    by_bytes (high ∷ []) is long rest_back = absurd (omega (arith, long))
    by_bytes (high ∷ low ∷ []) is long rest_back =
        let start : Behind (high ∷ low ∷ units_bytes more) (big 2 unit ++ units_bytes more) 0 = record { is = ap (λ (l : List ℕ). l ++ units_bytes more) is } in
        let first : high * 256 + low ≡ unit = sym (two_bytes high low (units_bytes more)) ∙ number_here _ 2 unit fits.0 start in
        ap (λ (l : List ℕ). units (l ++ units_bytes more)) (sym is) ∙ ap (λ n. n ∷ units (units_bytes more)) first ∙ ap (λ (l : List ℕ). unit ∷ l) rest_back
    by_bytes (high ∷ low ∷ third ∷ rest) is long rest_back = absurd (omega (arith, long))

length-units_bytes : (name : List ℕ) → length (units_bytes name) ≡ 2 * length name
length-units_bytes [] = refl
length-units_bytes (unit ∷ more) = omega (arith, length-append (big 2 unit) (units_bytes more), length-number_bytes Big 2 unit, length-units_bytes more)

pub key_reads : (id : ℕ) (name : List ℕ) (start : ℕ) → id < 2 ^ 32 → start < 2 ^ 32 → length name ≤ 127 → AllByRecursion (λ unit. unit < 2 ^ 16) name → IsKeyOf id name start (attr_key_bytes id name start)
key_reads id name place small low short fits =
    let count = length name in
    let whole = attr_key_bytes id name place in
    let start : Behind whole (big 2 (12 + 2 * count) ++ (replicate 2 0 ++ (big 4 id ++ (big 4 place ++ (big 2 count ++ units_bytes name))))) 0 = record { is = simp (append_assoc) } in
    let size_is : big_at 2 whole 0 ≡ 12 + 2 * count = number_here _ 2 (12 + 2 * count) (omega (arith, short)) start in
    let at_pad = behind_number 2 (12 + 2 * count) start in
    let at_id = behind_part (replicate 2 0) 2 refl at_pad in
    let id_is : big_at 4 whole 4 ≡ id = number_here _ 4 id small at_id in
    let at_start = behind_number 4 id at_id in
    let start_is : big_at 4 whole 8 ≡ place = number_here _ 4 place low at_start in
    let at_count = behind_number 4 place at_start in
    let count_is : big_at 2 whole 12 ≡ count = number_here _ 2 count (omega (arith, short)) at_count in
    let at_name = behind_number 2 count at_count in
    let long : length whole ≡ 14 + 2 * length name = omega (arith, length-append {A = ℕ}, length-number_bytes Big, length-units_bytes name) in
    record {
      is_key = record {
        long = omega (arith, long);
        size = omega (arith, long, size_is);
        name = omega (arith, size_is, count_is);
        most = omega (arith, count_is, short);
      };
      id_is = id_is;
      name_is = ap units at_name.is ∙ units_read_back name fits;
      start_is = start_is;
      long = long;
    }
