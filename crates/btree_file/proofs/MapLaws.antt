-- One bit of the map.
use Rattle.std.proofs.Common.{◌≡◌, ◌≢◌, ℕ, suc, zero, ◌+◌, ◌-◌, ◌*◌, ◌≤◌, ◌<◌, Bool, true, false, cond, ltb, take, List, [], ◌∷◌, length, get_or, refl, sym, ◌∙◌, ap, subst, arith, ⊎_elim}
use Rattle.std.specs.List.{count_by, range_with_len}
use Rattle.std.proofs.lemmas.Bool.{cases_lt, cases_Bool, lt-ltb}
use Rattle.std.proofs.lemmas.Bool.Decides.{leb_tells}
use Rattle.std.proofs.lemmas.List.{get_or_default}
use Rattle.std.proofs.lemmas.List.Sums.{sum_by-cons}
use Rattle.flag_rows.specs.Bits.{bit_of}
use Rattle.btree_file.specs.Map.{used_in, bits_of}
use Rattle.btree_file.specs.declared.tree.Stretch.{Stretch}

-- a number that a test doesn't pass, where fewer pass it than there are
pub some_clear : (p : ℕ → Bool) (a n : ℕ) → count_by p (range_with_len a n) < n → (m : ℕ) × (a ≤ m) × (m < a + n) × (p m ≡ false)
some_clear p a zero few = absurd (omega (arith, few))
some_clear p a (suc n) few = ⊎_elim
    (λ (t : p a ≡ true).
    let one : ◌≡◌ {A = ℕ} (cond (p a) 1 0) 1 = rw t refl in
    let rest = some_clear p (a + 1) n (omega (arith, few, one, sum_by-cons (λ (k : ℕ). cond (p k) 1 0) a (range_with_len (a + 1) n))) in
    (rest.0, omega (arith, rest.1), omega (arith, rest.2), rest.3))
    (λ (f : p a ≡ false). (a, omega arith, omega arith, f))
    (cases_Bool (p a))

-- the bit of a part at a place
abbrev pub part_or : List Stretch → ℕ → Stretch → Stretch
part_or map k d = get_or map k d

pub in_part : (nodes : ℕ → List ℕ) (part : Stretch) (rest : List Stretch) (n : ℕ) → n < 8 * part.len → used_in nodes (part ∷ rest) n ≡ bit_of (nodes part.node) (8 * part.at + n)
in_part nodes part rest n low = let t : ltb n (8 * part.len) ≡ true = lt-ltb n (8 * part.len) low in rw t refl

pub past_part : (nodes : ℕ → List ℕ) (part : Stretch) (rest : List Stretch) (n : ℕ) → 8 * part.len ≤ n → used_in nodes (part ∷ rest) n ≡ used_in nodes rest (n - 8 * part.len)
past_part nodes part rest n high = ⊎_elim (λ low. absurd (omega (arith, low.1, high))) (λ f. rw f.0 refl) (leb_tells (suc n) (8 * part.len))

-- What a node's change of one bit does to the map: that node has its bit so, and each other one as before.
pub record ChangesBit (a b : ℕ → List ℕ) (part : Stretch) (i : ℕ) (value : Bool) : Type 0 where
  pub here : bit_of (b part.node) (8 * part.at + i) ≡ value
  pub others : (j : ℕ) → j ≢ i → j < 8 * part.len → bit_of (b part.node) (8 * part.at + j) ≡ bit_of (a part.node) (8 * part.at + j)
  pub nodes : (n : ℕ) → n ≢ part.node → b n ≡ a n

-- none of these parts stands in this node
abbrev pub NoneIn : ℕ → List Stretch → Type 0
NoneIn node map = (k : ℕ) (d : Stretch) → k < length map → (get_or map k d).node ≢ node

same_rest : (a b : ℕ → List ℕ) (part : Stretch) (i : ℕ) (value : Bool) (map : List Stretch) (n : ℕ) → ChangesBit a b part i value → NoneIn part.node map → used_in b map n ≡ used_in a map n
same_rest a b part i value [] n sets none = refl
same_rest a b part i value (p ∷ rest) n sets none =
    let first : b p.node ≡ a p.node = sets.nodes p.node (none 0 p (omega arith)) in
    let more = same_rest a b part i value rest (n - 8 * p.len) sets (λ k d low. none (suc k) d (omega (arith, low))) in
    rw (first, more) refl

-- the bits of the parts before a place
abbrev pub bits_before : List Stretch → ℕ → ℕ
bits_before map k = bits_of (take k map)

omega_back : (x y : ℕ) → x + y - x ≡ y
omega_back x y = omega arith

-- a node whose bit stands in this part
pub used_at : (nodes : ℕ → List ℕ) (map : List Stretch) (k i : ℕ) (d : Stretch) → k < length map → i < 8 * (get_or map k d).len → used_in nodes map (bits_before map k + i) ≡ bit_of (nodes (get_or map k d).node) (8 * (get_or map k d).at + i)
used_at nodes [] k i d low inside = absurd (omega (arith, low))
used_at nodes (p ∷ rest) zero i d low inside = ap (used_in nodes (p ∷ rest)) (omega_none i) ∙ in_part nodes p rest i inside
  where
    omega_none : (i : ℕ) → 0 + i ≡ i
    omega_none i = omega arith
used_at nodes (p ∷ rest) (suc k) i d low inside =
    let before : bits_before (p ∷ rest) (suc k) ≡ 8 * p.len + bits_before rest k = sum_by-cons (λ (q : Stretch). 8 * q.len) p (take k rest) in
    let place : bits_before (p ∷ rest) (suc k) + i ≡ 8 * p.len + (bits_before rest k + i) = omega (arith, before) in
    ap (used_in nodes (p ∷ rest)) place ∙ past_part nodes p rest (8 * p.len + (bits_before rest k + i)) (omega arith) ∙ ap (used_in nodes rest) (omega_back (8 * p.len) (bits_before rest k + i)) ∙ used_at nodes rest k i d (omega (arith, low)) inside

-- the part with this place in the map, which has these bits before it
pub set_used : (a b : ℕ → List ℕ) (map : List Stretch) (k i : ℕ) (d : Stretch) (value : Bool) → k < length map → i < 8 * (get_or map k d).len → ChangesBit a b (get_or map k d) i value
    → ((j : ℕ) → j < length map → j ≢ k → (get_or map j d).node ≢ (get_or map k d).node)
    → (m : ℕ) → m ≢ bits_before map k + i → used_in b map m ≡ used_in a map m
set_used a b [] k i d value low inside sets apart m other = absurd (omega (arith, low))
set_used a b (p ∷ rest) zero i d value low inside sets apart m other = ⊎_elim
    (λ (lt : m < 8 * p.len). in_part b p rest m lt ∙ sets.others m (λ e. other (omega (arith, e))) lt ∙ sym (in_part a p rest m lt))
    (λ (ge : 8 * p.len ≤ m). past_part b p rest m ge ∙ same_rest a b p i value rest (m - 8 * p.len) sets (λ j e inner. subst (λ (q : Stretch). q.node ≢ p.node) (get_or_default rest j d e inner) (apart (suc j) (omega (arith, inner)) (omega arith))) ∙ sym (past_part a p rest m ge))
    (cases_lt m (8 * p.len))
set_used a b (p ∷ rest) (suc k) i d value low inside sets apart m other =
    let before : bits_before (p ∷ rest) (suc k) ≡ 8 * p.len + bits_before rest k = sum_by-cons (λ (q : Stretch). 8 * q.len) p (take k rest) in
    let away : b p.node ≡ a p.node = sets.nodes p.node (apart 0 (omega arith) (omega arith)) in
    ⊎_elim
    (λ (lt : m < 8 * p.len). in_part b p rest m lt ∙ ap (λ (l : List ℕ). bit_of l (8 * p.at + m)) away ∙ sym (in_part a p rest m lt))
    (λ (ge : 8 * p.len ≤ m). past_part b p rest m ge ∙ set_used a b rest k i d value (omega (arith, low)) inside sets (λ j inner far. apart (suc j) (omega (arith, inner)) (omega (arith, far))) (m - 8 * p.len) (omega (arith, other, ge, before)) ∙ sym (past_part a p rest m ge))
    (cases_lt m (8 * p.len))

-- one number more passes the test
count_step : (p : ℕ → Bool) (a n : ℕ) → count_by p (range_with_len a (suc n)) ≡ cond (p a) 1 0 + count_by p (range_with_len (a + 1) n)
count_step p a n = sum_by-cons (λ (k : ℕ). cond (p k) 1 0) a (range_with_len (a + 1) n)
