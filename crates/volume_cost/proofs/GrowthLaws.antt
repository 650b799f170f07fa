-- The first number of nodes that suffices.
use Rattle.std.proofs.Common.{◌≡◌, ℕ, zero, suc, ◌+◌, ◌-◌, ◌*◌, ◌/◌, ◌≤◌, ◌<◌, Bool, true, false, max, List, [], ◌∷◌, map, length, get_or, refl, sym, ◌∙◌, ap, arith, ⊎_elim}
use Rattle.std.specs.List.{range_with_len}
use Rattle.std.proofs.Math.Nat.{div-mul-le_self, mul-le-mul, mul-le-mul_right}
use Rattle.std.proofs.lemmas.Nat.{le-div}
use Rattle.std.proofs.lemmas.Bool.{lt-leb, le-leb, cases_lt}
use Rattle.std.proofs.lemmas.List.FromFn.{get_or-map-range_with_len, length-map-range_with_len}
use Rattle.hfs_volume.specs.declared.cost.TreeCost.{TreeCost}
use Rattle.hfs_volume.specs.Cost.{first_of, suffices, new_maps, growth_for, whole_nodes}
use Rattle.hfs_volume.specs.Forks.{parts_for}

-- ---- quotients, rounded up

pub div_le : (a b k : ℕ) → 0 < k → a ≤ b → a / k ≤ b / k
div_le a b k some le = le-div (a / k) b k some (omega (arith, div-mul-le_self a k, le))

pub parts_above : (w u k : ℕ) → 0 < u → k * u < w → k < parts_for w u
parts_above w u k some lt =
    let product : (k + 1) * u ≡ k * u + u = omega arith in
    let e : k + 1 ≤ (w + u - 1) / u = le-div (k + 1) (w + u - 1) u some (omega (arith, lt, product, some)) in
    omega (arith, e)

pub parts_most : (w u : ℕ) → 0 < u → parts_for w u * u < w + u
parts_most w u some = omega (arith, div-mul-le_self (w + u - 1) u, some)

pub parts_below : (w u j : ℕ) → 0 < u → j < parts_for w u → j * u < w
parts_below w u j some lt =
    let product : (j + 1) * u ≡ j * u + u = omega arith in
    omega (arith, mul-le-mul_right {m = j + 1} {n = parts_for w u} u (omega (arith, lt)), product, div-mul-le_self (w + u - 1) u, some)

-- ---- the first that suffices

found_in : (test : ℕ → Bool) (xs : List ℕ) (k : ℕ) → k < length xs → ((j : ℕ) → j < k → test (get_or xs j 0) ≡ false) → test (get_or xs k 0) ≡ true → first_of test xs ≡ get_or xs k 0
found_in test [] k lt before here = absurd (omega (arith, lt))
found_in test (x ∷ xs) zero lt before here = rw here refl
found_in test (x ∷ xs) (suc k) lt before here =
    rw (before zero (omega arith)) (found_in test xs k (omega (arith, lt)) (λ j less. before (suc j) (omega (arith, less))) here)

none_in : (test : ℕ → Bool) (xs : List ℕ) → ((j : ℕ) → j < length xs → test (get_or xs j 0) ≡ false) → first_of test xs ≡ 0
none_in test [] fails = refl
none_in test (x ∷ xs) fails = rw (fails zero (omega arith)) (none_in test xs (λ j less. fails (suc j) (omega (arith, less))))

pub first_found : (test : ℕ → Bool) (f : ℕ → ℕ) (n k : ℕ) → k < n → ((j : ℕ) → j < k → test (f j) ≡ false) → test (f k) ≡ true → first_of test (map f (range_with_len 0 n)) ≡ f k
first_found test f n k lt before here =
    let xs : List ℕ = map f (range_with_len 0 n) in
    let at : (j : ℕ) → j < n → get_or xs j 0 ≡ f j = λ j less. get_or-map-range_with_len f 0 n j j 0 less (omega arith) in
    found_in test xs k (omega (arith, lt, length-map-range_with_len f 0 n))
    (λ j less. ap (λ m. test m) (at j (omega (arith, less, lt))) ∙ before j less)
    (ap (λ m. test m) (at k lt) ∙ here) ∙ at k lt

pub none_found : (test : ℕ → Bool) (f : ℕ → ℕ) (n : ℕ) → ((j : ℕ) → j < n → test (f j) ≡ false) → first_of test (map f (range_with_len 0 n)) ≡ 0
none_found test f n fails =
    let xs : List ℕ = map f (range_with_len 0 n) in
    none_in test xs (λ j less. let lt : j < n = omega (arith, less, length-map-range_with_len f 0 n) in
    ap (λ m. test m) (get_or-map-range_with_len f 0 n j j 0 lt (omega arith)) ∙ fails j lt)

-- ---- what suffices

pub maps_rise : (tree : TreeCost) (a b : ℕ) → 512 ≤ tree.node_size → a ≤ b → new_maps tree a ≤ new_maps tree b
maps_rise tree a b size le =
    let part : ℕ = 8 * (tree.node_size - 20) in
    div_le (tree.nodes + a - tree.map_bits + part - 1) (tree.nodes + b - tree.map_bits + part - 1) part (omega (arith, size)) (omega (arith, le))

-- a map node has two bits at least
pub maps_few : (tree : TreeCost) (more : ℕ) → 512 ≤ tree.node_size → 2 * new_maps tree more ≤ tree.nodes + more + 2
maps_few tree more size =
    let part : ℕ = 8 * (tree.node_size - 20) in
    let n : ℕ = tree.nodes + more - tree.map_bits in
    let q : ℕ = new_maps tree more in
    let r : ℕ = q - 1 in
    let most : q * part < n + part = parts_most n part (omega (arith, size)) in
    ⊎_elim
    (λ (none : q < 1). omega (arith, none))
    (λ (some : 1 ≤ q).
    let split : q * part ≡ r * part + part = ap (λ m. m * part) (let e : q ≡ r + 1 = omega (arith, some) in e) ∙ (let e : (r + 1) * part ≡ r * part + part = omega arith in e) in
    let twice : r * 2 ≤ r * part = mul-le-mul {n₁ = r} {m₁ = 2} {n₂ = r} {m₂ = part} (omega arith) (omega (arith, size)) in
    omega (arith, most, split, twice, some))
    (cases_lt q 1)

-- where so many don't suffice, what is wanted is bounded
pub wanted_few : (tree : TreeCost) (lacks more : ℕ) → 512 ≤ tree.node_size → more < lacks + new_maps tree more → lacks + new_maps tree more < 2 * lacks + tree.nodes + 2
wanted_few tree lacks more size lt = omega (arith, maps_few tree more size, lt)

pub does_suffice : (tree : TreeCost) (lacks more : ℕ) → lacks + new_maps tree more ≤ more → suffices tree lacks more ≡ true
does_suffice tree lacks more le = le-leb lacks (more - new_maps tree more) (omega (arith, le))

pub not_suffices : (tree : TreeCost) (lacks more : ℕ) → 0 < lacks → more < lacks + new_maps tree more → suffices tree lacks more ≡ false
not_suffices tree lacks more some lt = lt-leb lacks (more - new_maps tree more) (omega (arith, some, lt))

-- none between a number that doesn't suffice and what it wants suffices
pub none_between : (tree : TreeCost) (lacks unit units k : ℕ) → 512 ≤ tree.node_size → 0 < lacks → 0 < unit → units ≤ k → k < parts_for (lacks + new_maps tree (units * unit)) unit → suffices tree lacks (k * unit) ≡ false
none_between tree lacks unit units k size some one low high =
    not_suffices tree lacks (k * unit) some
    (omega (arith, parts_below (lacks + new_maps tree (units * unit)) unit k one high, maps_rise tree (units * unit) (k * unit) size (mul-le-mul_right unit low)))

-- ---- what is found

same_growth : (tree : TreeCost) (lacks unit whole least : ℕ) → unit ≡ whole → least ≡ parts_for (max lacks (tree.nodes / 4)) unit
    → first_of (suffices tree lacks) (map (λ j. (least + j) * unit) (range_with_len 0 (tree.nodes + lacks + 2)))
    ≡ first_of (suffices tree lacks) (map (λ j. (parts_for (max lacks (tree.nodes / 4)) whole + j) * whole) (range_with_len 0 (tree.nodes + lacks + 2)))
same_growth tree lacks unit whole least is_unit is_least =
    ap (λ l. first_of (suffices tree lacks) (map (λ j. (l + j) * unit) (range_with_len 0 (tree.nodes + lacks + 2)))) is_least
    ∙ ap (λ u. first_of (suffices tree lacks) (map (λ j. (parts_for (max lacks (tree.nodes / 4)) u + j) * u) (range_with_len 0 (tree.nodes + lacks + 2)))) is_unit

pub growth_found : (block : ℕ) (tree : TreeCost) (lacks unit least units : ℕ) → unit ≡ whole_nodes block tree → least ≡ parts_for (max lacks (tree.nodes / 4)) unit → least ≤ units → units < least + tree.nodes + lacks + 2
    → ((k : ℕ) → least ≤ k → k < units → suffices tree lacks (k * unit) ≡ false) → suffices tree lacks (units * unit) ≡ true → units * unit ≡ growth_for block tree lacks
unfolding growth_for
growth_found block tree lacks unit least units is_unit is_least low high fails here =
    let k : ℕ = units - least in
    let back : least + k ≡ units = omega (arith, low) in
    let found : first_of (suffices tree lacks) (map (λ j. (least + j) * unit) (range_with_len 0 (tree.nodes + lacks + 2))) ≡ (least + k) * unit =
    first_found (suffices tree lacks) (λ j. (least + j) * unit) (tree.nodes + lacks + 2) k (omega (arith, high, low))
    (λ j less. fails (least + j) (omega arith) (omega (arith, less, low)))
    (ap (λ m. suffices tree lacks (m * unit)) back ∙ here) in
    ap (λ m. m * unit) (sym back) ∙ sym found ∙ same_growth tree lacks unit (whole_nodes block tree) least is_unit is_least

pub growth_none : (block : ℕ) (tree : TreeCost) (lacks unit least units : ℕ) → unit ≡ whole_nodes block tree → least ≡ parts_for (max lacks (tree.nodes / 4)) unit → least + tree.nodes + lacks + 2 ≤ units
    → ((k : ℕ) → least ≤ k → k < units → suffices tree lacks (k * unit) ≡ false) → 0 ≡ growth_for block tree lacks
unfolding growth_for
growth_none block tree lacks unit least units is_unit is_least past fails =
    sym (none_found (suffices tree lacks) (λ j. (least + j) * unit) (tree.nodes + lacks + 2) (λ j less. fails (least + j) (omega arith) (omega (arith, less, past))))
    ∙ same_growth tree lacks unit (whole_nodes block tree) least is_unit is_least
