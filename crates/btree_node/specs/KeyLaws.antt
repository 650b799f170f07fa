-- The laws of the orders of keys: each is total, and keys of one place are the same bytes but for padding.
use Rattle.std.proofs.Common.{◌≡◌, ◌≢◌, ℕ, suc, ◌+◌, ◌-◌, ◌*◌, ◌<◌, ◌≤◌, List, [], ◌∷◌, length, take, drop, get_or, set, inl, inr, refl, sym, ◌∙◌, ap, arith, length-drop}
use Rattle.std.proofs.lemmas.Bool.{cases_lt}
use Rattle.std.proofs.lemmas.Cmp.{nat_cmp_total, then_total, on_total, nat_list_cmp_total}
use Rattle.std.proofs.lemmas.List.{ext_get_or, get_or-take, get_or-drop, get_or-set_other, get_or-set_same, length-set}
use Rattle.std.specs.Cmp.{IsTotalOrder}
use Rattle.std.specs.Cmp.Lexicographic.{slice_cmp}
use Rattle.std.specs.FinMap.{nat_cmp-IsAntisymmetric, slice_cmp-IsAntisymmetric}
use Rattle.std.specs.Ordering.{nat_cmp, ordering_then}
use Rattle.std.specs.declared.cmp.Ordering.{Ordering}
use Rattle.std.specs.declared.cmp.Ordering.TheVariants.{Less, Equal, Greater}
use Rattle.hx_bytes.specs.Field.{big_at, AreBytes}
use Rattle.hx_bytes.specs.declared.fields.Order.TheVariants.{Big}
use Rattle.hx_bytes.proofs.Laws.{number_bytes-number_at_2, number_bytes-number_at_4}
use Rattle.hx_bytes.specs.Field.{number_bytes}
use Rattle.btree_node.specs.Keys.{units, IsCatalogKey, IsExtentKey, IsAttrKey, catalog_cmp, catalog_parent, catalog_units, extent_cmp, extent_file, extent_fork, extent_start, extent_plain, attr_cmp, attr_file, attr_units, attr_start, attr_plain}

pub catalog_total : IsTotalOrder catalog_cmp
catalog_total = then_total (on_total catalog_parent nat_cmp_total) (on_total catalog_units nat_list_cmp_total)

pub extent_total : IsTotalOrder extent_cmp
extent_total = then_total (on_total extent_file nat_cmp_total) (then_total (on_total extent_fork nat_cmp_total) (on_total extent_start nat_cmp_total))

pub attr_total : IsTotalOrder attr_cmp
attr_total = then_total (on_total attr_file nat_cmp_total) (then_total (on_total attr_units nat_list_cmp_total) (on_total attr_start nat_cmp_total))

then_first : (o p : Ordering) → ordering_then o p ≡ Equal → o ≡ Equal
then_first Less p e = cc
then_first Equal p e = refl
then_first Greater p e = cc

then_second : (o p : Ordering) → ordering_then o p ≡ Equal → p ≡ Equal
then_second Less p e = cc
then_second Equal p e = e
then_second Greater p e = cc

-- equal numbers at a place have equal bytes there
from_field : (n at : ℕ) (a b : List ℕ) → take n (drop at a) ≡ take n (drop at b) → (k : ℕ) → at ≤ k → k < at + n → get_or a k 0 ≡ get_or b k 0
from_field n at a b same k low high =
    let each : (l : List ℕ) → get_or (take n (drop at l)) (k - at) 0 ≡ get_or l k 0 = λ l. get_or-take n (drop at l) (k - at) 0 (omega arith) ∙ get_or-drop at l (k - at) 0 ∙ ap (λ m. get_or l m 0) (omega arith) in
    sym (each a) ∙ ap (λ (l : List ℕ). get_or l (k - at) 0) same ∙ each b

two_same : (at : ℕ) (a b : List ℕ) → at + 2 ≤ length a → at + 2 ≤ length b → AreBytes a → AreBytes b → big_at 2 a at ≡ big_at 2 b at → (k : ℕ) → at ≤ k → k < at + 2 → get_or a k 0 ≡ get_or b k 0
two_same at a b first second are_a are_b same =
    from_field 2 at a b (sym (number_bytes-number_at_2 Big a at first are_a) ∙ ap (λ x. number_bytes Big 2 x) same ∙ number_bytes-number_at_2 Big b at second are_b)

four_same : (at : ℕ) (a b : List ℕ) → at + 4 ≤ length a → at + 4 ≤ length b → AreBytes a → AreBytes b → big_at 4 a at ≡ big_at 4 b at → (k : ℕ) → at ≤ k → k < at + 4 → get_or a k 0 ≡ get_or b k 0
four_same at a b first second are_a are_b same =
    from_field 4 at a b (sym (number_bytes-number_at_4 Big a at first are_a) ∙ ap (λ x. number_bytes Big 4 x) same ∙ number_bytes-number_at_4 Big b at second are_b)

-- equal units have equal bytes
pub units_same : (xs ys : List ℕ) (m n : ℕ) → length xs ≡ 2 * m → length ys ≡ 2 * n → AreBytes xs → AreBytes ys → units xs ≡ units ys → xs ≡ ys
units_same [] [] m n p q are_x are_y e = refl
units_same [] (h ∷ []) m n p q are_x are_y e = absurd (omega arith)
units_same [] (h ∷ l ∷ r) m n p q are_x are_y e = cc
units_same (h ∷ []) ys m n p q are_x are_y e = absurd (omega arith)
units_same (h ∷ l ∷ r) [] m n p q are_x are_y e = cc
units_same (h ∷ l ∷ r) (h2 ∷ []) m n p q are_x are_y e = absurd (omega arith)
units_same (h ∷ l ∷ r) (h2 ∷ l2 ∷ r2) m n p q are_x are_y e =
    let head : h * 256 + l ≡ h2 * 256 + l2 = cc in
    let rest : units r ≡ units r2 = cc in
    let low : l < 256 = are_x 1 in
    let low2 : l2 < 256 = are_y 1 in
    let high : h ≡ h2 = omega arith in
    let lower : l ≡ l2 = omega arith in
    let more : r ≡ r2 = units_same r r2 (m - 1) (n - 1) (omega arith) (omega arith) (λ k. are_x (suc (suc k))) (λ k. are_y (suc (suc k))) rest in
    cc

pub length_units : (xs : List ℕ) (m : ℕ) → length xs ≡ 2 * m → length (units xs) ≡ m
length_units [] m p = omega arith
length_units (h ∷ []) m p = absurd (omega arith)
length_units (h ∷ l ∷ r) m p = let rest = length_units r (m - 1) (omega arith) in omega arith

from_drop : (at : ℕ) (a b : List ℕ) → drop at a ≡ drop at b → (k : ℕ) → at ≤ k → get_or a k 0 ≡ get_or b k 0
from_drop at a b same k low =
    let each : (l : List ℕ) → get_or (drop at l) (k - at) 0 ≡ get_or l k 0 = λ l. get_or-drop at l (k - at) 0 ∙ ap (λ m. get_or l m 0) (omega arith) in
    sym (each a) ∙ ap (λ (l : List ℕ). get_or l (k - at) 0) same ∙ each b

are_dropped : (at : ℕ) (a : List ℕ) → AreBytes a → AreBytes (drop at a)
are_dropped at a are k = omega (arith, get_or-drop at a k 0, are (at + k))

pub catalog_same : (a b : List ℕ) → AreBytes a → AreBytes b → IsCatalogKey a → IsCatalogKey b → catalog_cmp a b ≡ Equal → a ≡ b
catalog_same a b are_a are_b key_a key_b e =
    let parent : catalog_parent a ≡ catalog_parent b = nat_cmp-IsAntisymmetric (catalog_parent a) (catalog_parent b) (then_first (nat_cmp (catalog_parent a) (catalog_parent b)) (slice_cmp nat_cmp (catalog_units a) (catalog_units b)) e) in
    let name : catalog_units a ≡ catalog_units b = slice_cmp-IsAntisymmetric nat_cmp-IsAntisymmetric (catalog_units a) (catalog_units b) (then_second (nat_cmp (catalog_parent a) (catalog_parent b)) (slice_cmp nat_cmp (catalog_units a) (catalog_units b)) e) in
    let size_a : length a ≡ big_at 2 a 0 + 2 = key_a.size in
    let size_b : length b ≡ big_at 2 b 0 + 2 = key_b.size in
    let name_a : big_at 2 a 0 ≡ 6 + 2 * big_at 2 a 6 = key_a.name in
    let name_b : big_at 2 b 0 ≡ 6 + 2 * big_at 2 b 6 = key_b.name in
    let rest_a : length (drop 8 a) ≡ 2 * big_at 2 a 6 = omega (arith, length-drop 8 a) in
    let rest_b : length (drop 8 b) ≡ 2 * big_at 2 b 6 = omega (arith, length-drop 8 b) in
    let many : big_at 2 a 6 ≡ big_at 2 b 6 = sym (length_units (drop 8 a) (big_at 2 a 6) rest_a) ∙ ap length name ∙ length_units (drop 8 b) (big_at 2 b 6) rest_b in
    let rest : drop 8 a ≡ drop 8 b = units_same (drop 8 a) (drop 8 b) (big_at 2 a 6) (big_at 2 b 6) rest_a rest_b (are_dropped 8 a are_a) (are_dropped 8 b are_b) name in
    ext_get_or 0 a b (omega arith) (λ k inside. elim (cases_lt k 2) [
      | inl first ↦ two_same 0 a b (omega arith) (omega arith) are_a are_b (omega arith) k (omega arith) first
      | inr past ↦ elim (cases_lt k 6) [
        | inl second ↦ four_same 2 a b (omega arith) (omega arith) are_a are_b parent k past (omega arith)
        | inr past_parent ↦ elim (cases_lt k 8) [
          | inl third ↦ two_same 6 a b (omega arith) (omega arith) are_a are_b many k past_parent (omega arith)
          | inr last ↦ from_drop 8 a b rest k last
        ]
      ]
    ])

-- keys of one place have names of one length
pub catalog_length : (a b : List ℕ) → IsCatalogKey a → IsCatalogKey b → catalog_cmp a b ≡ Equal → length a ≡ length b
catalog_length a b key_a key_b e =
    let name : catalog_units a ≡ catalog_units b = slice_cmp-IsAntisymmetric nat_cmp-IsAntisymmetric (catalog_units a) (catalog_units b) (then_second (nat_cmp (catalog_parent a) (catalog_parent b)) (slice_cmp nat_cmp (catalog_units a) (catalog_units b)) e) in
    let rest_a : length (drop 8 a) ≡ 2 * big_at 2 a 6 = omega (arith, length-drop 8 a, key_a.size, key_a.name) in
    let rest_b : length (drop 8 b) ≡ 2 * big_at 2 b 6 = omega (arith, length-drop 8 b, key_b.size, key_b.name) in
    let many : big_at 2 a 6 ≡ big_at 2 b 6 = sym (length_units (drop 8 a) (big_at 2 a 6) rest_a) ∙ ap length name ∙ length_units (drop 8 b) (big_at 2 b 6) rest_b in
    omega (arith, many, key_a.size, key_b.size, key_a.name, key_b.name)

pub attr_length : (a b : List ℕ) → IsAttrKey a → IsAttrKey b → attr_cmp a b ≡ Equal → length a ≡ length b
attr_length a b key_a key_b e =
    let more : ordering_then (slice_cmp nat_cmp (attr_units a) (attr_units b)) (nat_cmp (attr_start a) (attr_start b)) ≡ Equal = then_second (nat_cmp (attr_file a) (attr_file b)) (ordering_then (slice_cmp nat_cmp (attr_units a) (attr_units b)) (nat_cmp (attr_start a) (attr_start b))) e in
    let name : attr_units a ≡ attr_units b = slice_cmp-IsAntisymmetric nat_cmp-IsAntisymmetric (attr_units a) (attr_units b) (then_first (slice_cmp nat_cmp (attr_units a) (attr_units b)) (nat_cmp (attr_start a) (attr_start b)) more) in
    let rest_a : length (drop 14 a) ≡ 2 * big_at 2 a 12 = omega (arith, length-drop 14 a, key_a.size, key_a.name) in
    let rest_b : length (drop 14 b) ≡ 2 * big_at 2 b 12 = omega (arith, length-drop 14 b, key_b.size, key_b.name) in
    let many : big_at 2 a 12 ≡ big_at 2 b 12 = sym (length_units (drop 14 a) (big_at 2 a 12) rest_a) ∙ ap length name ∙ length_units (drop 14 b) (big_at 2 b 12) rest_b in
    omega (arith, many, key_a.size, key_b.size, key_a.name, key_b.name)

pub extent_same : (a b : List ℕ) → AreBytes a → AreBytes b → IsExtentKey a → IsExtentKey b → extent_cmp a b ≡ Equal → extent_plain a ≡ extent_plain b
extent_same a b are_a are_b key_a key_b e =
    let file : extent_file a ≡ extent_file b = nat_cmp-IsAntisymmetric (extent_file a) (extent_file b) (then_first (nat_cmp (extent_file a) (extent_file b)) (ordering_then (nat_cmp (extent_fork a) (extent_fork b)) (nat_cmp (extent_start a) (extent_start b))) e) in
    let rest : ordering_then (nat_cmp (extent_fork a) (extent_fork b)) (nat_cmp (extent_start a) (extent_start b)) ≡ Equal = then_second (nat_cmp (extent_file a) (extent_file b)) (ordering_then (nat_cmp (extent_fork a) (extent_fork b)) (nat_cmp (extent_start a) (extent_start b))) e in
    let fork : extent_fork a ≡ extent_fork b = nat_cmp-IsAntisymmetric (extent_fork a) (extent_fork b) (then_first (nat_cmp (extent_fork a) (extent_fork b)) (nat_cmp (extent_start a) (extent_start b)) rest) in
    let start : extent_start a ≡ extent_start b = nat_cmp-IsAntisymmetric (extent_start a) (extent_start b) (then_second (nat_cmp (extent_fork a) (extent_fork b)) (nat_cmp (extent_start a) (extent_start b)) rest) in
    let size_a : big_at 2 a 0 ≡ 10 = key_a.size in
    let size_b : big_at 2 b 0 ≡ 10 = key_b.size in
    let long_a : length a ≡ 12 = key_a.long in
    let long_b : length b ≡ 12 = key_b.long in
    let set_a : length (set a 3 0) ≡ length a = length-set a 3 0 in
    let set_b : length (set b 3 0) ≡ length b = length-set b 3 0 in
    let kept : (k : ℕ) → k ≢ 3 → get_or a k 0 ≡ get_or b k 0 → get_or (set a 3 0) k 0 ≡ get_or (set b 3 0) k 0 = λ k other same. get_or-set_other a 3 k 0 0 other ∙ same ∙ sym (get_or-set_other b 3 k 0 0 other) in
    ext_get_or 0 (set a 3 0) (set b 3 0) (omega arith) (λ k inside. elim (cases_lt k 2) [
      | inl first ↦ kept k (omega arith) (two_same 0 a b (omega arith) (omega arith) are_a are_b (omega arith) k (omega arith) first)
      | inr past ↦ elim (cases_lt k 3) [
        | inl second ↦
            let is : k ≡ 2 = omega arith in
            kept k (omega arith) (ap (λ m. get_or a m 0) is ∙ fork ∙ ap (λ m. get_or b m 0) (sym is))
        | inr past_fork ↦ elim (cases_lt k 4) [
          | inl third ↦
              let is : k ≡ 3 = omega arith in
              ap (λ m. get_or (set a 3 0) m 0) is ∙ get_or-set_same a 3 0 0 (omega arith) ∙ sym (get_or-set_same b 3 0 0 (omega arith)) ∙ ap (λ m. get_or (set b 3 0) m 0) (sym is)
          | inr past_pad ↦ elim (cases_lt k 8) [
            | inl fourth ↦ kept k (omega arith) (four_same 4 a b (omega arith) (omega arith) are_a are_b file k past_pad (omega arith))
            | inr last ↦ kept k (omega arith) (four_same 8 a b (omega arith) (omega arith) are_a are_b start k last (omega arith))
          ]
        ]
      ]
    ])

pub extent_plain_length : (a : List ℕ) → length (extent_plain a) ≡ length a
extent_plain_length a = length-set a 3 0

pub attr_plain_length : (a : List ℕ) → length (attr_plain a) ≡ length a
attr_plain_length a = length-set (set a 2 0) 3 0 ∙ length-set a 2 0

attr_kept : (a : List ℕ) (k : ℕ) → k ≢ 2 → k ≢ 3 → get_or (attr_plain a) k 0 ≡ get_or a k 0
attr_kept a k first second = get_or-set_other (set a 2 0) 3 k 0 0 second ∙ get_or-set_other a 2 k 0 0 first

attr_pad_2 : (a : List ℕ) → 4 ≤ length a → get_or (attr_plain a) 2 0 ≡ 0
attr_pad_2 a long = get_or-set_other (set a 2 0) 3 2 0 0 (omega arith) ∙ get_or-set_same a 2 0 0 (omega arith)

attr_pad_3 : (a : List ℕ) → 4 ≤ length a → get_or (attr_plain a) 3 0 ≡ 0
attr_pad_3 a long = get_or-set_same (set a 2 0) 3 0 0 (omega (arith, length-set a 2 0))

pub attr_same : (a b : List ℕ) → AreBytes a → AreBytes b → IsAttrKey a → IsAttrKey b → attr_cmp a b ≡ Equal → attr_plain a ≡ attr_plain b
attr_same a b are_a are_b key_a key_b e =
    let file : attr_file a ≡ attr_file b = nat_cmp-IsAntisymmetric (attr_file a) (attr_file b) (then_first (nat_cmp (attr_file a) (attr_file b)) (ordering_then (slice_cmp nat_cmp (attr_units a) (attr_units b)) (nat_cmp (attr_start a) (attr_start b))) e) in
    let more : ordering_then (slice_cmp nat_cmp (attr_units a) (attr_units b)) (nat_cmp (attr_start a) (attr_start b)) ≡ Equal = then_second (nat_cmp (attr_file a) (attr_file b)) (ordering_then (slice_cmp nat_cmp (attr_units a) (attr_units b)) (nat_cmp (attr_start a) (attr_start b))) e in
    let name : attr_units a ≡ attr_units b = slice_cmp-IsAntisymmetric nat_cmp-IsAntisymmetric (attr_units a) (attr_units b) (then_first (slice_cmp nat_cmp (attr_units a) (attr_units b)) (nat_cmp (attr_start a) (attr_start b)) more) in
    let start : attr_start a ≡ attr_start b = nat_cmp-IsAntisymmetric (attr_start a) (attr_start b) (then_second (slice_cmp nat_cmp (attr_units a) (attr_units b)) (nat_cmp (attr_start a) (attr_start b)) more) in
    let size_a : length a ≡ big_at 2 a 0 + 2 = key_a.size in
    let size_b : length b ≡ big_at 2 b 0 + 2 = key_b.size in
    let name_a : big_at 2 a 0 ≡ 12 + 2 * big_at 2 a 12 = key_a.name in
    let name_b : big_at 2 b 0 ≡ 12 + 2 * big_at 2 b 12 = key_b.name in
    let rest_a : length (drop 14 a) ≡ 2 * big_at 2 a 12 = omega (arith, length-drop 14 a) in
    let rest_b : length (drop 14 b) ≡ 2 * big_at 2 b 12 = omega (arith, length-drop 14 b) in
    let many : big_at 2 a 12 ≡ big_at 2 b 12 = sym (length_units (drop 14 a) (big_at 2 a 12) rest_a) ∙ ap length name ∙ length_units (drop 14 b) (big_at 2 b 12) rest_b in
    let rest : drop 14 a ≡ drop 14 b = units_same (drop 14 a) (drop 14 b) (big_at 2 a 12) (big_at 2 b 12) rest_a rest_b (are_dropped 14 a are_a) (are_dropped 14 b are_b) name in
    let kept : (k : ℕ) → k ≢ 2 → k ≢ 3 → get_or a k 0 ≡ get_or b k 0 → get_or (attr_plain a) k 0 ≡ get_or (attr_plain b) k 0 = λ k first second same. attr_kept a k first second ∙ same ∙ sym (attr_kept b k first second) in
    ext_get_or 0 (attr_plain a) (attr_plain b) (omega (arith, attr_plain_length a, attr_plain_length b)) (λ k inside. elim (cases_lt k 2) [
      | inl first ↦ kept k (omega arith) (omega arith) (two_same 0 a b (omega arith) (omega arith) are_a are_b (omega arith) k (omega arith) first)
      | inr past ↦ elim (cases_lt k 3) [
        | inl second ↦
            let is : k ≡ 2 = omega arith in
            ap (λ m. get_or (attr_plain a) m 0) is ∙ attr_pad_2 a (omega arith) ∙ sym (attr_pad_2 b (omega arith)) ∙ ap (λ m. get_or (attr_plain b) m 0) (sym is)
        | inr past_first ↦ elim (cases_lt k 4) [
          | inl third ↦
              let is : k ≡ 3 = omega arith in
              ap (λ m. get_or (attr_plain a) m 0) is ∙ attr_pad_3 a (omega arith) ∙ sym (attr_pad_3 b (omega arith)) ∙ ap (λ m. get_or (attr_plain b) m 0) (sym is)
          | inr past_pad ↦ elim (cases_lt k 8) [
            | inl fourth ↦ kept k (omega arith) (omega arith) (four_same 4 a b (omega arith) (omega arith) are_a are_b file k past_pad (omega arith))
            | inr past_file ↦ elim (cases_lt k 12) [
              | inl fifth ↦ kept k (omega arith) (omega arith) (four_same 8 a b (omega arith) (omega arith) are_a are_b start k past_file (omega arith))
              | inr past_start ↦ elim (cases_lt k 14) [
                | inl sixth ↦ kept k (omega arith) (omega arith) (two_same 12 a b (omega arith) (omega arith) are_a are_b many k past_start (omega arith))
                | inr last ↦ kept k (omega arith) (omega arith) (from_drop 14 a b rest k last)
              ]
            ]
          ]
        ]
      ]
    ])
