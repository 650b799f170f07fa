-- How many blocks extents have, from one on.
use Rattle.std.proofs.Common.{eqb, Bool, ◌≡◌, ℕ, suc, zero, ◌+◌, ◌^◌, ◌≤◌, ◌<◌, List, [], ◌∷◌, length, get_or, take, drop, true, false, refl, sym, ◌∙◌, ap, arith, ⊎_elim, length-append}
use Rattle.std.proofs.lemmas.List.{take-append-drop, get_or_past}
use Rattle.std.proofs.lemmas.Bool.{cases_lt}
use Rattle.std.proofs.lemmas.List.FromFn.{length-range_with_len}
use Rattle.std.specs.List.{range_with_len}
use Rattle.std.specs.List.{All, AllByRecursion, IsDistinct, list_any}
use Rattle.std.proofs.lemmas.Map.Steps.{length-le_from_distinct_below}
use Rattle.std.proofs.lemmas.Bool.Decides.{eqb_tells}
use Rattle.alloc_bitmap.specs.Map.{free_of}
use Rattle.alloc_bitmap.proofs.MapLaws.{length-open}
use Rattle.hx_bytes.specs.declared.extents.Extent.{Extent}
use Rattle.fork_map.specs.Blocks.{blocks_of, AreNumbers}
use Rattle.alloc_bitmap.specs.Apart.{times, AreApart}
use Rattle.alloc_bitmap.specs.Map.{BlockMap}
use Rattle.alloc_bitmap.proofs.ApartLaws.{times-append, times-cons}
use Rattle.file_io.specs.Places.{AreUsed}

blocks_first : (e : Extent) (es : List Extent) → length (blocks_of (e ∷ es)) ≡ e.count + length (blocks_of es)
blocks_first e es = omega (arith, length-append (range_with_len e.start e.count) (blocks_of es), length-range_with_len e.start e.count)

-- fewer extents have fewer blocks
pub fewer_behind : (es : List Extent) (m n : ℕ) → m ≤ n → length (blocks_of (drop n es)) ≤ length (blocks_of (drop m es))
fewer_behind [] zero zero le = omega arith
fewer_behind [] zero (suc n) le = omega arith
fewer_behind [] (suc m) zero le = absurd (omega (arith, le))
fewer_behind [] (suc m) (suc n) le = omega arith
fewer_behind (e ∷ es) zero zero le = omega arith
fewer_behind (e ∷ es) zero (suc n) le = omega (arith, blocks_first e es, fewer_behind es 0 n (omega arith))
fewer_behind (e ∷ es) (suc m) zero le = absurd (omega (arith, le))
fewer_behind (e ∷ es) (suc m) (suc n) le = fewer_behind es m n (omega (arith, le))

pub both_sides : (es : List Extent) (n : ℕ) → length (blocks_of (take n es)) + length (blocks_of (drop n es)) ≡ length (blocks_of es)
both_sides [] zero = refl
both_sides [] (suc n) = refl
both_sides (e ∷ es) zero = omega arith
both_sides (e ∷ es) (suc n) = omega (arith, blocks_first e es, blocks_first e (take n es), both_sides es n)

-- blocks that are used have numbers
pub numbers_used : (map : BlockMap) (blocks : List ℕ) (n : ℕ) → length map.used ≡ n → n < 2 ^ 32 → AreUsed map blocks → AreNumbers blocks
numbers_used map blocks n size small used = λ k d lt.
    let b : ℕ = get_or blocks k d in
    ⊎_elim
    (λ (inside : b < length map.used). omega (arith, inside, size, small))
    (λ (past : length map.used ≤ b). absurd (let clash : false ≡ true = sym (get_or_past map.used b false past) ∙ used k d lt in cc clash))
    (cases_lt b (length map.used))

-- ---- the blocks behind a cut
pub apart_behind : (blocks : List ℕ) (n : ℕ) → AreApart blocks → AreApart (drop n blocks)
apart_behind blocks n apart = λ b.
    let split = ap (λ (l : List ℕ). times b l) (sym (take-append-drop n blocks)) ∙ times-append b (take n blocks) (drop n blocks) in
    omega (arith, apart b, split)

pub apart_before : (blocks : List ℕ) (n : ℕ) → AreApart blocks → AreApart (take n blocks)
apart_before blocks n apart = λ b.
    let split = ap (λ (l : List ℕ). times b l) (sym (take-append-drop n blocks)) ∙ times-append b (take n blocks) (drop n blocks) in
    omega (arith, apart b, split)

-- ---- what a bitmap's flags say of blocks
is_true_inside : (xs : List Bool) (k : ℕ) → get_or xs k false ≡ true → k < length xs
is_true_inside xs k is = ⊎_elim (λ lt. lt) (λ past. absurd (let clash : false ≡ true = sym (get_or_past xs k false past) ∙ is in cc clash)) (cases_lt k (length xs))

pub numbers_free : (map : BlockMap) (blocks : List ℕ) (n : ℕ) → length map.used ≡ n → n < 2 ^ 32 → All (λ b. get_or (free_of map) b false ≡ true) blocks → AreNumbers blocks
numbers_free map blocks n size small free = λ k d lt.
    let b : ℕ = get_or blocks k d in
    omega (arith, is_true_inside (free_of map) b (free k d lt), length-open map.used map.held, size, small)

-- no block of a list is this one
none_equal : (x : ℕ) (xs : List ℕ) → times x xs ≡ 0 → AllByRecursion (λ (y : ℕ). eqb x y ≡ false) xs
none_equal x [] none = tt
none_equal x (y ∷ ys) none = ⊎_elim
    (λ same. absurd (omega (arith, none, (let e : times x (y ∷ ys) ≡ 1 + times x ys = times-cons x y ys ∙ rw same.0 refl in e))))
    (λ other. (⊎_elim (λ same. absurd (other.1 (sym same.1))) (λ differs. differs.0) (eqb_tells x y), none_equal x ys (omega (arith, none, (let e : times x (y ∷ ys) ≡ 0 + times x ys = times-cons x y ys ∙ rw other.0 refl in e)))))
    (eqb_tells y x)

distinct_apart : (xs : List ℕ) → AreApart xs → IsDistinct eqb xs
unfolding IsDistinct
distinct_apart [] apart = tt
distinct_apart (x ∷ xs) apart =
    let one : times x (x ∷ xs) ≡ 1 + times x xs = times-cons x x xs ∙ ⊎_elim (λ same. rw same.0 refl) (λ other. absurd (other.1 refl)) (eqb_tells x x) in
    (none_equal x xs (omega (arith, apart x, one)), distinct_apart xs (λ b. omega (arith, apart b, times-cons b x xs)))

any_below : (xs : List ℕ) (n q : ℕ) → ((k d : ℕ) → k < length xs → get_or xs k d < n) → list_any (eqb q) xs ≡ true → q < n
any_below [] n q below is = absurd (cc is)
any_below (x ∷ xs) n q below is = ⊎_elim
    (λ same. omega (arith, same.1, below 0 0 (omega arith)))
    (λ other. any_below xs n q (λ k d lt. below (suc k) d (omega (arith, lt))) (let later : list_any (eqb q) xs ≡ true = rw other.0 at is in later))
    (eqb_tells q x)

-- used blocks are few where none stands twice
pub few_used : (map : BlockMap) (blocks : List ℕ) → AreApart blocks → AreUsed map blocks → length blocks ≤ length map.used
few_used map blocks apart used = length-le_from_distinct_below blocks (length map.used) (distinct_apart blocks apart)
    (λ q is. any_below blocks (length map.used) q (λ k d lt. is_true_inside map.used (get_or blocks k d) (used k d lt)) is)
