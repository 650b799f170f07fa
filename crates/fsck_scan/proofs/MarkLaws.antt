-- Nodes that are marked one by one.
use Rattle.std.proofs.Common.{◌≡◌, ◌⊎◌, ◌<◌, ◌≤◌, ℕ, zero, suc, ◌+◌, Bool, true, false, not, ◌==◌, ◌||◌, List, [], ◌∷◌, ◌++◌, length, get_or, set, inl, inr, refl, sym, ◌∙◌, ap, arith, ⊎_elim, length-append, length-set, get_or-set_same, get_or-set_other}
use Rattle.std.specs.Prelude.{slice_index}
use Rattle.std.specs.List.{list_any, Contains}
use Rattle.std.proofs.lemmas.Bool.{cases_lt, cases_eq, eq-eqb, ne_eqb}
use Rattle.std.proofs.lemmas.Bool.Decides.{eqb_tells}
use Rattle.std.proofs.lemmas.List.{get_or_default, get_or_past, get_or_append_left, get_or-append-add}
use Rattle.fsck_list.proofs.MarkLaws.{count_more}
use Rattle.fsck_scan.specs.Marks.{MarksAll}

pub marks_none : (marks : List Bool) → MarksAll [] marks marks
marks_none marks = record {
  size = refl;
  bits = λ n. same (get_or marks n false);
  fresh = λ k inside. absurd (omega (arith, inside));
  apart = λ i j less inside. absurd (omega (arith, inside));
  count = omega arith;
}
  where
    same : (b : Bool) → b ≡ (b || false)
    same true = refl
    same false = refl

any_more : (ns : List ℕ) (n m : ℕ) → list_any (λ other. other == m) (ns ++ n ∷ []) ≡ (list_any (λ other. other == m) ns || n == m)
any_more [] n m = last (n == m)
  where
    last : (b : Bool) → (b || false) ≡ (false || b)
    last true = refl
    last false = refl
any_more (x ∷ ns) n m = ap (λ b. (x == m) || b) (any_more ns n m) ∙ joined (x == m) (list_any (λ other. other == m) ns) (n == m)
  where
    joined : (a b c : Bool) → (a || (b || c)) ≡ ((a || b) || c)
    joined true b c = refl
    joined false b c = refl

any_stands : (ns : List ℕ) (k : ℕ) → k < length ns → list_any (λ other. other == slice_index ns k) ns ≡ true
any_stands [] k inside = absurd (omega (arith, inside))
any_stands (x ∷ ns) zero inside = ap (λ b. b || list_any (λ other. other == x) ns) (eq-eqb x x refl)
any_stands (x ∷ ns) (suc k) inside = ap (λ b. (x == slice_index ns k) || b) (any_stands ns k (omega (arith, inside))) ∙ or_true (x == slice_index ns k)
  where
    or_true : (b : Bool) → (b || true) ≡ true
    or_true true = refl
    or_true false = refl

or_false : (a b : Bool) → (a || b) ≡ false → (a ≡ false) × (b ≡ false)
or_false true b is = cc
or_false false b is = (refl, is)

-- a node that isn't marked so far
not_yet : (old now : List Bool) (ns : List ℕ) (n : ℕ) → MarksAll ns old now → get_or now n true ≡ false → (n < length old) × ((get_or old n true ≡ false) × (list_any (λ other. other == n) ns ≡ false))
not_yet old now ns n marks clear = ⊎_elim
    (λ (inside : n < length now).
    let both = or_false (get_or old n false) (list_any (λ other. other == n) ns) (sym (marks.bits n) ∙ get_or_default now n false true inside ∙ clear) in
    (omega (arith, inside, marks.size), (get_or_default old n true false (omega (arith, inside, marks.size)) ∙ both.0, both.1)))
    (λ (past : length now ≤ n). absurd (never (sym (get_or_past now n true past) ∙ clear)))
    (cases_lt n (length now))
  where
    never : true ≡ false → ⊥
    never is = cc

pub marks_more : (old now : List Bool) (ns : List ℕ) (n : ℕ) → MarksAll ns old now → get_or now n true ≡ false → MarksAll (ns ++ n ∷ []) old (set now n true)
marks_more old now ns n marks clear = record {
  size = length-set now n true ∙ marks.size;
  bits = λ m. bits_at m;
  fresh = λ k inside. elim (cases_lt k (length ns)) [
    | inl low ↦ ap (λ x. get_or old x true) (get_or_append_left ns (n ∷ []) 0 k low) ∙ marks.fresh k low
    | inr high ↦ ap (λ x. get_or old x true) (last k (omega (arith, inside, high, length-append ns (n ∷ [])))) ∙ free.1.0
  ];
  apart = λ i j less inside same. elim (cases_lt j (length ns)) [
    | inl low ↦ marks.apart i j less low (sym (get_or_append_left ns (n ∷ []) 0 i (omega (arith, less, low))) ∙ same ∙ get_or_append_left ns (n ∷ []) 0 j low)
    | inr high ↦
        let at : j ≡ length ns = omega (arith, inside, high, length-append ns (n ∷ [])) in
        let before : i < length ns = omega (arith, less, at) in
        let is : slice_index ns i ≡ n = sym (get_or_append_left ns (n ∷ []) 0 i before) ∙ same ∙ last j at in
        never (sym (any_stands ns i before) ∙ ap (λ x. list_any (λ other. other == x) ns) is ∙ free.1.1)
  ];
  count = omega (arith, count_more now n (omega (arith, free.0, marks.size)) clear, marks.count, length-append ns (n ∷ []));
}
  where
    free : (n < length old) × ((get_or old n true ≡ false) × (list_any (λ other. other == n) ns ≡ false))
    free = not_yet old now ns n marks clear

    never : true ≡ false → ⊥
    never is = cc

    last : (k : ℕ) → k ≡ length ns → slice_index (ns ++ n ∷ []) k ≡ n
    last k at = ap (λ i. slice_index (ns ++ n ∷ []) i) (let is : k ≡ length ns + 0 = omega (arith, at) in is) ∙ get_or-append-add ns (n ∷ []) 0 0

    or_true : (a b : Bool) → (a || (b || true)) ≡ true
    or_true true b = refl
    or_true false true = refl
    or_true false false = refl

    or_same : (a b : Bool) → (a || b) ≡ (a || (b || false))
    or_same true b = refl
    or_same false true = refl
    or_same false false = refl

    bits_at : (m : ℕ) → get_or (set now n true) m false ≡ (get_or old m false || list_any (λ other. other == m) (ns ++ n ∷ []))
    bits_at m = elim (cases_eq m n) [
      | inl is ↦
          ap (λ x. get_or (set now n true) x false) is ∙ get_or-set_same now n true false (omega (arith, free.0, marks.size))
          ∙ sym (ap (λ b. get_or old m false || b) (any_more ns n m ∙ ap (λ b. list_any (λ other. other == m) ns || b) (eq-eqb n m (sym is))) ∙ or_true (get_or old m false) (list_any (λ other. other == m) ns))
      | inr other ↦
          get_or-set_other now n m true false other ∙ marks.bits m ∙ or_same (get_or old m false) (list_any (λ x. x == m) ns)
          ∙ sym (ap (λ b. get_or old m false || b) (any_more ns n m ∙ ap (λ b. list_any (λ x. x == m) ns || b) (ne_eqb n m (λ same. other (sym same)))))
    ]

-- a node among others stands at a place of theirs
pub any_place : (xs : List ℕ) (n : ℕ) → list_any (λ other. other == n) xs ≡ true → Contains xs n
any_place [] n any = cc
any_place (x ∷ xs) n any = ⊎_elim
    (λ (same : (x == n ≡ true) × (x ≡ n)). (0, omega arith, same.1))
    (λ (other : (x == n ≡ false) × (x ≡ n → ⊥)). let rest = any_place xs n (let later = any in rw other.0 at later) in (suc rest.0, omega (arith, rest.1), rest.2))
    (eqb_tells x n)

-- a node that can't be marked was marked before, or has no mark, or is one of those that were marked since
pub marked_cases : (old now : List Bool) (ns : List ℕ) (n : ℕ) → MarksAll ns old now → get_or now n true ≡ true → (get_or old n true ≡ true) ⊎ Contains ns n
marked_cases old now ns n marks set = ⊎_elim
    (λ (inside : n < length now).
    from (get_or old n false) (list_any (λ other. other == n) ns) refl refl (sym (marks.bits n) ∙ get_or_default now n false true inside ∙ set) (omega (arith, inside, marks.size)))
    (λ (past : length now ≤ n). inl (get_or_past old n true (omega (arith, past, marks.size))))
    (cases_lt n (length now))
  where
    from : (a b : Bool) → get_or old n false ≡ a → list_any (λ other. other == n) ns ≡ b → (a || b) ≡ true → n < length old → (get_or old n true ≡ true) ⊎ Contains ns n
    from true b was any or inside = inl (get_or_default old n true false inside ∙ was)
    from false b was any or inside = inr (any_place ns n (any ∙ or))

pub not_true : (b : Bool) → true ≡ not b → b ≡ false
not_true true is = cc
not_true false is = refl

pub not_false : (b : Bool) → false ≡ not b → b ≡ true
not_false true is = refl
not_false false is = cc
