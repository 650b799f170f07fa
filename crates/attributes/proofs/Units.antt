-- The units of a name, read two bytes at a time.
use Rattle.std.proofs.Common.{◌≡◌, ◌<◌, ◌≤◌, ◌+◌, ◌*◌, ◌%◌, ℕ, List, [], ◌∷◌, length, drop, refl, sym, ◌∙◌, ap, arith, length-drop}
use Rattle.std.proofs.lemmas.List.{drop-drop}
use Rattle.hx_bytes.specs.Field.{big_at}
use Rattle.hx_bytes.specs.declared.fields.Order.TheVariants.{Big}
use Rattle.hx_bytes.proofs.Laws.{number_at-drop}
use Rattle.btree_node.specs.Keys.{IsAttrKey, attr_units, units}
use Rattle.attributes.proofs.Keys.{two_bytes}

units_from : (l : List ℕ) → 2 ≤ length l → units l ≡ big_at 2 l 0 ∷ units (drop 2 l)
units_from [] long = absurd (omega (arith, long))
units_from (high ∷ []) long = absurd (omega (arith, long))
units_from (high ∷ low ∷ rest) long = ap (λ n. n ∷ units rest) (sym (two_bytes high low rest))

pub units_short : (l : List ℕ) → length l < 2 → units l ≡ []
units_short [] short = refl
units_short (high ∷ []) short = refl
units_short (high ∷ low ∷ rest) short = absurd (omega (arith, short))

-- one unit more from a place on
pub units_step : (key : List ℕ) (at : ℕ) → at + 2 ≤ length key → units (drop at key) ≡ big_at 2 key at ∷ units (drop (at + 2) key)
units_step key at inside =
    units_from (drop at key) (omega (arith, inside, length-drop at key))
    ∙ ap (λ n. n ∷ units (drop 2 (drop at key))) (sym (number_at-drop Big 2 at key))
    ∙ ap (λ l. big_at 2 key at ∷ units l) (drop-drop 2 at key)

pub same_head : (m n : ℕ) (xs ys : List ℕ) → m ∷ xs ≡ n ∷ ys → m ≡ n
same_head m n xs ys same = ap first same
  where
    first : List ℕ → ℕ
    first [] = 0
    first (k ∷ ks) = k

pub same_tail : (m n : ℕ) (xs ys : List ℕ) → m ∷ xs ≡ n ∷ ys → xs ≡ ys
same_tail m n xs ys same = ap (drop 1) same

-- names of keys have the same units only where they have as many bytes
pub length-units : (l : List ℕ) → length l ≡ 2 * length (units l) + length l % 2
length-units [] = refl
length-units (high ∷ []) = refl
length-units (high ∷ low ∷ rest) = omega (arith, length-units rest)

pub key_long : (key : List ℕ) → IsAttrKey key → length key ≡ 14 + 2 * length (attr_units key)
key_long key is = omega (arith, is.size, is.name, length-units (drop 14 key), length-drop 14 key)
