-- The first blocks of a list of extents.
use Rattle.std.proofs.Common.{◌≡◌, ℕ, ◌+◌, ◌-◌, ◌≤◌, ◌<◌, List, [], ◌∷◌, ◌++◌, length, get_or, set, take, drop, min, sym, ◌∙◌, ap, arith, ⊎_elim, length-append}
use Rattle.std.specs.List.{range_with_len}
use Rattle.std.proofs.Math.Seq.{take-append-add}
use Rattle.std.proofs.lemmas.Bool.{cases_lt}
use Rattle.std.proofs.lemmas.List.{append-nil, take-append-drop, take_all, take-append-le, take_more, take_more_set}
use Rattle.std.proofs.lemmas.List.Concat.{flat_map-append}
use Rattle.std.proofs.lemmas.List.FromFn.{length-range_with_len}
use Rattle.hx_bytes.specs.declared.extents.Extent.{Extent}
use Rattle.fork_map.specs.Blocks.{blocks_of}
use Rattle.fork_map.proofs.Ranges.{take-range}

take_joined : {X : Type 0} (n : ℕ) (xs ys : List X) → take n (xs ++ ys) ≡ take n xs ++ take (n - length xs) ys
take_joined n xs ys = ⊎_elim
    (λ (less : n < length xs). take-append-le n xs ys (omega (arith, less)) ∙ sym (append-nil (take n xs)) ∙ ap (λ k. take n xs ++ take k ys) {x = 0} {y = n - length xs} (omega (arith, less)))
    (λ (more : length xs ≤ n). ap (λ k. take k (xs ++ ys)) {x = n} {y = length xs + (n - length xs)} (omega (arith, more)) ∙ take-append-add xs ys (n - length xs) ∙ ap (λ l. l ++ take (n - length xs) ys) (sym (take_all n xs more)))
    (cases_lt n (length xs))

one_extent : (e y : Extent) (left : ℕ) → e.start ≡ y.start → e.count ≡ min y.count left → blocks_of (e ∷ []) ≡ take left (blocks_of (y ∷ []))
one_extent e y left start count =
    let plain : blocks_of (e ∷ []) ≡ range_with_len y.start (min y.count left) = append-nil (range_with_len e.start e.count) ∙ ap (λ s. range_with_len s e.count) start ∙ ap (λ n. range_with_len y.start n) count in
    let whole : take left (blocks_of (y ∷ [])) ≡ take left (range_with_len y.start y.count) = ap (λ l. take left l) (append-nil (range_with_len y.start y.count)) in
    plain ∙ ⊎_elim
    (λ (less : left < y.count). ap (λ n. range_with_len y.start n) {x = min y.count left} {y = left} (omega (arith, less)) ∙ sym (take-range left y.start y.count (omega (arith, less))))
    (λ (more : y.count ≤ left). ap (λ n. range_with_len y.start n) {x = min y.count left} {y = y.count} (omega (arith, more)) ∙ sym (take_all left (range_with_len y.start y.count) (omega (arith, more, length-range_with_len y.start y.count))))
    (cases_lt left y.count) ∙ sym whole

pub keep_step : (ys xs : List Extent) (i blocks : ℕ) (d e : Extent) → i < length ys → length xs ≡ length ys → blocks_of (take i xs) ≡ take blocks (blocks_of (take i ys))
    → e.start ≡ (get_or ys i d).start → e.count ≡ min (get_or ys i d).count (blocks - length (blocks_of (take i ys))) → blocks_of (take (i + 1) (set xs i e)) ≡ take blocks (blocks_of (take (i + 1) ys))
keep_step ys xs i blocks d e low long done start count =
    ap blocks_of (take_more_set xs i e (omega (arith, low, long))) ∙ flat_map-append (λ (x : Extent). range_with_len x.start x.count) (take i xs) (e ∷ [])
    ∙ ap (λ l. l ++ blocks_of (e ∷ [])) done ∙ ap (λ l. take blocks (blocks_of (take i ys)) ++ l) (one_extent e (get_or ys i d) (blocks - length (blocks_of (take i ys))) start count)
    ∙ sym (take_joined blocks (blocks_of (take i ys)) (blocks_of (get_or ys i d ∷ [])))
    ∙ ap (λ l. take blocks l) (sym (flat_map-append (λ (x : Extent). range_with_len x.start x.count) (take i ys) (get_or ys i d ∷ []))) ∙ ap (λ l. take blocks (blocks_of l)) (sym (take_more ys i d low))

-- how many blocks come before an extent and with it
pub blocks_more : (ys : List Extent) (i : ℕ) (d : Extent) → i < length ys → length (blocks_of (take (i + 1) ys)) ≡ length (blocks_of (take i ys)) + (get_or ys i d).count
blocks_more ys i d low =
    ap (λ l. length (blocks_of l)) (take_more ys i d low) ∙ ap (λ (l : List ℕ). length l) (flat_map-append (λ (x : Extent). range_with_len x.start x.count) (take i ys) (get_or ys i d ∷ []))
    ∙ omega (
      arith,
      length-append (blocks_of (take i ys)) (blocks_of (get_or ys i d ∷ [])),
      length-append (range_with_len (get_or ys i d).start (get_or ys i d).count) [],
      length-range_with_len (get_or ys i d).start (get_or ys i d).count,
    )

-- where the blocks of the first extents are enough
pub keep_cut : (ys xs : List Extent) (i blocks : ℕ) → blocks_of (take i xs) ≡ take blocks (blocks_of (take i ys)) → blocks ≤ length (blocks_of (take i ys)) → blocks_of (take i xs) ≡ take blocks (blocks_of ys)
keep_cut ys xs i blocks done enough =
    done ∙ sym (take-append-le blocks (blocks_of (take i ys)) (blocks_of (drop i ys)) enough)
    ∙ ap (λ l. take blocks l) (sym (flat_map-append (λ (x : Extent). range_with_len x.start x.count) (take i ys) (drop i ys)) ∙ ap blocks_of (take-append-drop i ys))
