-- The nodes by which a tree grows fill whole blocks, and suffice for what it lacks beside the new map nodes.
use Rattle.std.proofs.Common.{◌≡◌, ◌≢◌, ◌⊎◌, inl, inr, ◌<◌, ◌≤◌, ℕ, ◌+◌, ◌-◌, ◌*◌, ◌/◌, ◌%◌, max, Bool, true, false, List, [], ◌∷◌, map, refl, sym, ◌∙◌, ap, subst, arith, ⊎_elim}
use Rattle.std.specs.Prelude.{◌||◌, ◌==◌, if◌then◌else◌, not}
use Rattle.std.specs.Int.RustNames.{count_ones}
use Rattle.std.specs.List.{list_all, range_with_len}
use Rattle.std.proofs.Math.Nat.{div-add-mod, mul-div_cancel, mul-zero, mul_assoc, mul_comm, mul_left_comm}
use Rattle.std.proofs.lemmas.List.Folds.{list_all_at}
use Rattle.std.proofs.lemmas.List.FromFn.{get_or-range_with_len, length-range_with_len}
use Rattle.std.proofs.lemmas.Bool.{eqb-true, cases_lt, true≢false}
use Rattle.btree_node.specs.Node.{IsNodeSize}
use Rattle.hfs_volume.specs.Cost.{first_of, growth, growth_for, missing, new_maps, suffices, whole_nodes}
use Rattle.hfs_volume.specs.Forks.{parts_for}
use Rattle.hfs_volume.specs.declared.cost.TreeCost.{TreeCost}
use Rattle.tree_weights.specs.Weights.{GrowsByEnough, HoldsThree}

-- the first of some numbers that passes a test is one of them, or there is none
first_in : (test : ℕ → Bool) (f : ℕ → ℕ) (xs : List ℕ) → (first_of test (map f xs) ≡ 0) ⊎ ((k : ℕ) × (first_of test (map f xs) ≡ f k))
first_in test f [] = inl refl
first_in test f (x ∷ xs) = by (test (f x)) (first_in test f xs)
  where
    by : (b : Bool) → (first_of test (map f xs) ≡ 0) ⊎ ((k : ℕ) × (first_of test (map f xs) ≡ f k)) → ((if b then f x else first_of test (map f xs)) ≡ 0) ⊎ ((k : ℕ) × ((if b then f x else first_of test (map f xs)) ≡ f k))
    by true later = inr (x, refl)
    by false later = later

-- a growth is of whole blocks' nodes
pub units : (block : ℕ) (tree : TreeCost) (lacks : ℕ) → 0 < growth_for block tree lacks → (k : ℕ) × (growth_for block tree lacks ≡ k * whole_nodes block tree)
unfolding growth_for
units block tree lacks some = elim (first_in (suffices tree lacks) (λ k. (parts_for (max lacks (tree.nodes / 4)) (whole_nodes block tree) + k) * whole_nodes block tree) (range_with_len 0 (tree.nodes + lacks + 2))) [
  | inl none ↦ absurd (omega (arith, none, some))
  | inr found ↦ (parts_for (max lacks (tree.nodes / 4)) (whole_nodes block tree) + found.0, found.1)
]

-- where a tree grows it lacks nodes, and grows as it lacks them
grown_as : (block key : ℕ) (tree : TreeCost) (edits : ℕ) → 0 < growth block key tree edits → (missing key tree edits ≢ 0) × (growth block key tree edits ≡ growth_for block tree (missing key tree edits))
grown_as block key tree edits some = by (missing key tree edits == 0) refl
  where
    by : (b : Bool) → (missing key tree edits == 0) ≡ b → (missing key tree edits ≢ 0) × (growth block key tree edits ≡ growth_for block tree (missing key tree edits))
    by true is = absurd (omega (arith, some, ap (λ c. if c then 0 else growth_for block tree (missing key tree edits)) is))
    by false is = (λ none. true≢false (sym (ap (λ n. n == 0) none) ∙ is), ap (λ c. if c then 0 else growth_for block tree (missing key tree edits)) is)

pub in_units : (block key : ℕ) (tree : TreeCost) (edits : ℕ) → 0 < growth block key tree edits → (k : ℕ) × (growth block key tree edits ≡ k * whole_nodes block tree)
in_units block key tree edits some =
    let it = grown_as block key tree edits some in
    let found = units block tree (missing key tree edits) (subst (λ n. 0 < n) it.1 some) in
    (found.0, it.1 ∙ found.1)

-- it has a node more than its new map nodes, at least
pub past_maps : (block key : ℕ) (tree : TreeCost) (edits : ℕ) → GrowsByEnough → HoldsThree key tree → 0 < growth block key tree edits → new_maps tree (growth block key tree edits) + 1 ≤ growth block key tree edits
past_maps block key tree edits law three some =
    let lacks = (grown_as block key tree edits some).0 in
    omega (arith, law block key edits tree three, lacks)

-- ---- sizes of nodes and blocks

-- of two powers of two one divides the other: for numbers of sectors of nodes and blocks
abbrev divides_either : ℕ → ℕ → Bool
divides_either n per = not (count_ones per == 1) || ((n % per == 0) || (per % n == 0))

abbrev all_divide : ℕ → Bool
all_divide n = list_all (divides_either n) (range_with_len 0 129)

each_passes : (p : ℕ → Bool) (n : ℕ) → list_all p (range_with_len 0 n) ≡ true → (k : ℕ) → k < n → p k ≡ true
each_passes p n all k low = by (p k) refl
  where
    by : (b : Bool) → p k ≡ b → p k ≡ true
    by true is = is
    by false is = absurd (true≢false (sym all ∙ list_all_at p (range_with_len 0 n) k 0 (omega (arith, length-range_with_len 0 n, low)) (ap p (get_or-range_with_len 0 n k 0 low ∙ (let e : 0 + k ≡ k = omega arith in e)) ∙ is)))

either_of : (n per : ℕ) → all_divide n ≡ true → per < 129 → count_ones per ≡ 1 → (n % per ≡ 0) ⊎ (per % n ≡ 0)
either_of n per all low one = by (n % per == 0) (per % n == 0) refl refl (passed (not (count_ones per == 1)) _ (sym (ap (λ k. not (k == 1)) one)) (each_passes (divides_either n) 129 all per low))
  where
    passed : (b c : Bool) → false ≡ b → (b || c) ≡ true → c ≡ true
    passed true c is holds = absurd (true≢false (sym is))
    passed false c is holds = holds

    by : (b c : Bool) → (n % per == 0) ≡ b → (per % n == 0) ≡ c → (b || c) ≡ true → (n % per ≡ 0) ⊎ (per % n ≡ 0)
    by true c one_ two is = inl (eqb-true (n % per) 0 one_)
    by false true one_ two is = inr (eqb-true (per % n) 0 two)
    by false false one_ two is = absurd (true≢false (sym is))

pub each_divides : (n per : ℕ) → IsNodeSize (512 * n) → per < 129 → count_ones per ≡ 1 → (n % per ≡ 0) ⊎ (per % n ≡ 0)
unfolding count_ones
each_divides n per (inl e) low one = subst (λ m. (m % per ≡ 0) ⊎ (per % m ≡ 0)) (let is : 1 ≡ n = omega (arith, e) in is) (either_of 1 per refl low one)
each_divides n per (inr (inl e)) low one = subst (λ m. (m % per ≡ 0) ⊎ (per % m ≡ 0)) (let is : 2 ≡ n = omega (arith, e) in is) (either_of 2 per refl low one)
each_divides n per (inr (inr (inl e))) low one = subst (λ m. (m % per ≡ 0) ⊎ (per % m ≡ 0)) (let is : 4 ≡ n = omega (arith, e) in is) (either_of 4 per refl low one)
each_divides n per (inr (inr (inr (inl e)))) low one = subst (λ m. (m % per ≡ 0) ⊎ (per % m ≡ 0)) (let is : 8 ≡ n = omega (arith, e) in is) (either_of 8 per refl low one)
each_divides n per (inr (inr (inr (inr (inl e))))) low one = subst (λ m. (m % per ≡ 0) ⊎ (per % m ≡ 0)) (let is : 16 ≡ n = omega (arith, e) in is) (either_of 16 per refl low one)
each_divides n per (inr (inr (inr (inr (inr (inl e)))))) low one = subst (λ m. (m % per ≡ 0) ⊎ (per % m ≡ 0)) (let is : 32 ≡ n = omega (arith, e) in is) (either_of 32 per refl low one)
each_divides n per (inr (inr (inr (inr (inr (inr e)))))) low one = subst (λ m. (m % per ≡ 0) ⊎ (per % m ≡ 0)) (let is : 64 ≡ n = omega (arith, e) in is) (either_of 64 per refl low one)

exact_parts : (x per q : ℕ) → 0 < per → x ≡ q * per → x / per * per ≡ x
exact_parts x per q some is = ap (λ y. y / per * per) is ∙ ap (λ z. z * per) (mul-div_cancel q some) ∙ sym is

times_of : (n q : ℕ) → n % q ≡ 0 → n ≡ q * (n / q)
times_of n q none = omega (arith, div-add-mod n q, none)

-- nodes in such units fill whole blocks
pub fill_blocks : (node block n per more k : ℕ) → node ≡ 512 * n → block ≡ 512 * per → 0 < n → 0 < per → (n % per ≡ 0) ⊎ (per % n ≡ 0) → more ≡ k * max 1 (block / node) → more * n / per * per ≡ more * n
fill_blocks node block n per more k node_is block_is some some_per (inl none) is =
    exact_parts (more * n) per (more * (n / per)) some_per (ap (λ m. more * m) (times_of n per none) ∙ mul_left_comm more per (n / per) ∙ mul_comm per (more * (n / per)))
fill_blocks node block n per more k node_is block_is some some_per (inr none) is =
    let q : ℕ = per / n in
    let split : per ≡ n * (per / n) = times_of per n none in
    let whole : block ≡ per / n * node = block_is ∙ ap (λ m. 512 * m) split ∙ sym (mul_assoc 512 n (per / n)) ∙ ap (λ m. m * (per / n)) (sym node_is) ∙ mul_comm node (per / n) in
    let ratio : block / node ≡ per / n = ap (λ m. m / node) whole ∙ mul-div_cancel (per / n) (omega (arith, node_is, some)) in
    let more_one : 1 ≤ per / n = ⊎_elim (λ (low : per / n < 1). absurd (omega (arith, some_per, split, ap (λ m. n * m) (let zero_ : per / n ≡ 0 = omega (arith, low) in zero_), mul-zero n))) (λ (high : 1 ≤ per / n). high) (cases_lt (per / n) 1) in
    let unit : max 1 (block / node) ≡ per / n = omega (arith, ratio, more_one) in
    exact_parts (more * n) per k some_per (ap (λ m. m * n) (is ∙ ap (λ u. k * u) unit) ∙ mul_assoc k (per / n) n ∙ ap (λ m. k * m) (mul_comm (per / n) n ∙ sym split))
