-- What was looked up of a file, and what follows.
use Rattle.std.proofs.Common.{◌≡◌, ◌≢◌, ℕ, ◌+◌, ◌-◌, ◌*◌, ◌/◌, ◌%◌, ◌≤◌, ◌<◌, true, false, List, [], ◌∷◌, ◌++◌, length, get_or, take, refl, sym, ◌∙◌, ap, subst, arith, ⊎_elim, length-append}
use Rattle.std.specs.List.{range_with_len}
use Rattle.std.proofs.Math.Nat.{mul-le-mul_right, mul_assoc}
use Rattle.std.proofs.lemmas.Nat.{div-mul-add}
use Rattle.std.proofs.lemmas.List.{get_or_append_left, get_or-append_right, get_or_past, take_more, append-nil}
use Rattle.std.proofs.lemmas.Grind.{flat_map-append}
use Rattle.std.proofs.lemmas.List.FromFn.{length-range_with_len, get_or-range_with_len}
use Rattle.std.proofs.lemmas.Bool.{cases_lt}
use Rattle.hx_bytes.specs.declared.extents.Extent.{Extent}
use Rattle.fork_map.specs.Blocks.{blocks_of, sectors_of}
use Rattle.alloc_bitmap.specs.Map.{BlockMap, Have, free_of}
use Rattle.alloc_bitmap.proofs.MapLaws.{length-open}
use Rattle.file_io.specs.Places.{AreUsed}
use Rattle.file_io.specs.Bytes.{IsBlockSize}
use Rattle.file_io.specs.Touching.{MaySpill}
use Rattle.file_io.proofs.ByteLaws.{length-sectors_of}
use Rattle.file_io.proofs.PlaceLaws.{free_not_used}
use Rattle.file_tests.specs.Untold.{told_faults}

used_both : (map : BlockMap) (xs : List ℕ) (e : Extent) → AreUsed map xs → Have map.used e true → AreUsed map (xs ++ range_with_len e.start e.count)
used_both map xs e used have = λ k d lt. ⊎_elim
    (λ (first : k < length xs). subst (λ b. get_or map.used b false ≡ true) (sym (get_or_append_left xs (range_with_len e.start e.count) d k first)) (used k d first))
    (λ (later : length xs ≤ k).
    let j : ℕ = k - length xs in
    let inside : j < e.count = omega (arith, later, lt, length-append xs (range_with_len e.start e.count), length-range_with_len e.start e.count) in
    subst (λ b. get_or map.used b false ≡ true)
    (sym (get_or-append_right xs (range_with_len e.start e.count) (length xs) k d refl later ∙ get_or-range_with_len e.start e.count j d inside))
    (have.each (e.start + j) (omega arith) (omega (arith, inside))))
    (cases_lt k (length xs))

pub used_more : (map : BlockMap) (list : List Extent) (i : ℕ) (d : Extent) → i < length list → AreUsed map (blocks_of (take i list)) → Have map.used (get_or list i d) true → AreUsed map (blocks_of (take (i + 1) list))
used_more map list i d lt used have =
    let e : Extent = get_or list i d in
    let blocks : blocks_of (take (i + 1) list) ≡ blocks_of (take i list) ++ range_with_len e.start e.count =
    ap (λ (l : List Extent). blocks_of l) (take_more list i d lt) ∙ flat_map-append (λ (x : Extent). range_with_len x.start x.count) (take i list) (e ∷ [])
    ∙ ap (λ (l : List ℕ). blocks_of (take i list) ++ l) (append-nil (range_with_len e.start e.count)) in
    subst (λ (l : List ℕ). AreUsed map l) (sym blocks) (used_both map (blocks_of (take i list)) e used have)

free_inside : (map : BlockMap) (b : ℕ) → get_or (free_of map) b false ≡ true → b < length map.used
free_inside map b free = ⊎_elim
    (λ (lt : b < length (free_of map)). omega (arith, lt, length-open map.used map.held))
    (λ (past : length (free_of map) ≤ b). absurd (let clash : false ≡ true = sym (get_or_past (free_of map) b false past) ∙ free in cc clash))
    (cases_lt b (length (free_of map)))

pub sector_inside : (map : BlockMap) (p sectors b s : ℕ) → length map.used * p ≤ sectors → get_or (free_of map) b false ≡ true → s < b * p + p → s < sectors
sector_inside map p sectors b s enough free lt =
    let whole : (b + 1) * p ≤ length map.used * p = mul-le-mul_right p (omega (arith, free_inside map b free)) in
    let product : (b + 1) * p ≡ b * p + p = omega arith in
    omega (arith, enough, whole, product, lt)

pub not_header : (map : BlockMap) (p b s : ℕ) → 0 < p → Have map.used (record { start = 2 / p; count = 1 }) true → get_or (free_of map) b false ≡ true → b * p ≤ s → s < b * p + p → s ≢ 2
not_header map p b s some have free low high = λ is.
    let rest : b * p + (2 - b * p) ≡ 2 = omega (arith, low, is) in
    let same : 2 / p ≡ b = ap (λ n. n / p) (sym rest) ∙ div-mul-add b p (2 - b * p) (omega (arith, high, is, low)) in
    free_not_used map b free (subst (λ k. get_or map.used k false ≡ true) same (have.each (2 / p) (omega arith) (omega arith)))

pub blocks_enough : (p block size : ℕ) (bs : List ℕ) → p ≡ block / 512 → block % 512 ≡ 0 → size ≤ length (sectors_of p bs) * 512 → size ≤ length bs * block
blocks_enough p block size bs is whole enough =
    let split : block ≡ p * 512 = omega (arith, is, whole) in
    let product : length bs * block ≡ length bs * p * 512 = ap (λ m. length bs * m) split ∙ sym (mul_assoc (length bs) p 512) in
    omega (arith, enough, product, ap (λ m. m * 512) (length-sectors_of p bs))

pub spill_is_fine : (map : BlockMap) (block p sectors faults b s : ℕ) → IsBlockSize block → p ≡ block / 512 → length map.used * p ≤ sectors → Have map.used (record { start = 2 / p; count = 1 }) true → get_or (free_of map) b false ≡ true → b * p ≤ s → s < b * p + p
    → MaySpill (told_faults sectors faults) s
spill_is_fine map block p sectors faults b s size is enough have free low high = record {
  inside = sector_inside map p sectors b s enough free high;
  no_header = not_header map p b s (omega (arith, is, size.least)) have free low high;
  outside = λ tells closed. closed;
  idle = λ tells live. live;
}
