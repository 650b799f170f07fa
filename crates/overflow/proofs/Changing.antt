-- The changes that make some records others make them those.
use Rattle.std.proofs.Common.{◌≡◌, ℕ, suc, ◌+◌, ◌<◌, ◌≤◌, Bool, true, false, List, [], ◌∷◌, ◌++◌, length, map, refl, sym, ◌∙◌, ap, subst, arith, append_assoc}
use Rattle.std.specs.Prelude.{◌==◌, ◌&&◌, ◌||◌, nat_lt, if◌then◌else◌}
use Rattle.std.proofs.lemmas.Bool.{ne_eqb, ltb-true, ltb-false, eqb-true, eqb-false, and_parts, both_ways}
use Rattle.std.proofs.lemmas.List.{map-append, append-nil}
use Rattle.hx_bytes.specs.declared.extents.Extent.{Extent}
use Rattle.hfs_volume.specs.Records.{Overflow}
use Rattle.overflow.specs.Changes.{same_list, same_extents, front_before, behind_front, change_at, past, changes_to, changed, all_changed}
use Rattle.overflow.specs.Making.{has_start, CanMake, CanMakeAll}
use Rattle.overflow.specs.Records.{under}
use Rattle.overflow.specs.declared.record.OverflowRecord.{OverflowRecord}
use Rattle.overflow.specs.declared.changes.Change.{Change}
use Rattle.overflow.specs.declared.changes.Change.TheVariants.{Remove, Insert, Replace}
use Rattle.overflow.proofs.Lists.{AreBelow, AreFrom, below_append, below_more, from_less, put_between, put_over, taken_out, start_stands}

-- the starts rise, from a place on
abbrev pub RiseFrom : ℕ → List OverflowRecord → Type 0
RiseFrom place [] = Unit {0}
RiseFrom place (one ∷ more) = (place ≤ one.start) × RiseFrom (suc one.start) more

-- all begin before a place
abbrev AllBefore : ℕ → List OverflowRecord → Type 0
AllBefore place [] = Unit {0}
AllBefore place (one ∷ more) = (one.start < place) × AllBefore place more

rise_less : (place other : ℕ) (xs : List OverflowRecord) → other ≤ place → RiseFrom place xs → RiseFrom other xs
rise_less place other [] less rises = tt
rise_less place other (x ∷ xs) less rises = (omega (arith, less, rises.0), rises.1)

rise_under : (id kind place : ℕ) (xs : List OverflowRecord) → RiseFrom place xs → AreFrom place (map (under id kind) xs)
rise_under id kind place [] rises = tt
rise_under id kind place (x ∷ xs) rises = (rises.0, from_less (suc x.start) place (map (under id kind) xs) (omega (arith, rises.0)) (rise_under id kind (suc x.start) xs rises.1))

before_below : (id kind place : ℕ) (xs : List OverflowRecord) → AllBefore place xs → AreBelow place (map (under id kind) xs)
before_below id kind place [] all = tt
before_below id kind place (x ∷ xs) all = (all.0, before_below id kind place xs all.1)

-- ---- the parts of a list before a start, and from it on

front_is_before : (start : ℕ) (xs : List OverflowRecord) → AllBefore start (front_before start xs)
front_is_before start [] = tt
front_is_before start (x ∷ xs) = by_test (nat_lt x.start start) refl (front_is_before start xs)
  where
    by_test : (b : Bool) → nat_lt x.start start ≡ b → AllBefore start (front_before start xs) → AllBefore start (if b then x ∷ front_before start xs else [])
    by_test true is others = (ltb-true x.start start is, others)
    by_test false is others = tt

front_rises : (place start : ℕ) (xs : List OverflowRecord) → RiseFrom place xs → RiseFrom place (front_before start xs)
front_rises place start [] rises = tt
front_rises place start (x ∷ xs) rises = by_test (nat_lt x.start start) (front_rises (suc x.start) start xs rises.1)
  where
    by_test : (b : Bool) → RiseFrom (suc x.start) (front_before start xs) → RiseFrom place (if b then x ∷ front_before start xs else [])
    by_test true others = (rises.0, others)
    by_test false others = tt

rest_rises : (place start : ℕ) (xs : List OverflowRecord) → RiseFrom place xs → RiseFrom start (behind_front start xs)
rest_rises place start [] rises = tt
rest_rises place start (x ∷ xs) rises = by_test (nat_lt x.start start) refl (rest_rises (suc x.start) start xs rises.1)
  where
    by_test : (b : Bool) → nat_lt x.start start ≡ b → RiseFrom start (behind_front start xs) → RiseFrom start (if b then behind_front start xs else x ∷ xs)
    by_test true is others = others
    by_test false is others = (ltb-false x.start start is, rises.1)

front_and_rest : (start : ℕ) (xs : List OverflowRecord) → front_before start xs ++ behind_front start xs ≡ xs
front_and_rest start [] = refl
front_and_rest start (x ∷ xs) = by_test (nat_lt x.start start) (front_and_rest start xs)
  where
    by_test : (b : Bool) → front_before start xs ++ behind_front start xs ≡ xs → (if b then x ∷ front_before start xs else []) ++ (if b then behind_front start xs else x ∷ xs) ≡ x ∷ xs
    by_test true others = ap (λ (l : List OverflowRecord). x ∷ l) others
    by_test false others = refl

-- ---- the same extents

extent_same : (a b : Extent) → a.start ≡ b.start → a.count ≡ b.count → a ≡ b
extent_same a b start count = λ i. record { start = start i; count = count i }

list_same : (xs ys : List Extent) → same_list xs ys ≡ true → xs ≡ ys
list_same [] [] is = refl
list_same [] (y ∷ ys) is = absurd (cc is)
list_same (x ∷ xs) [] is = absurd (cc is)
list_same (x ∷ xs) (y ∷ ys) is =
    let outer = and_parts ((x.start == y.start) && (x.count == y.count)) (same_list xs ys) is in
    let inner = and_parts (x.start == y.start) (x.count == y.count) outer.0 in
    let first = extent_same x y (eqb-true x.start y.start inner.0) (eqb-true x.count y.count inner.1) in
    λ i. first i ∷ list_same xs ys outer.1 i

same_under : (id kind : ℕ) (one other : OverflowRecord) → other.start ≡ one.start → same_extents one.extents other.extents ≡ true → under id kind one ≡ under id kind other
same_under id kind one other start same = λ i. record { fork = kind; id = id; start = sym start i; extents = list_same one.extents.extents other.extents.extents same i }

-- ---- changes one behind the other

pub all_changed-append : (id kind : ℕ) (xs ys : List Change) (records : List Overflow) → all_changed id kind (xs ++ ys) records ≡ all_changed id kind ys (all_changed id kind xs records)
all_changed-append id kind [] ys records = refl
all_changed-append id kind (x ∷ xs) ys records = all_changed-append id kind xs ys (changed id kind x records)

can_append : (id kind : ℕ) (xs ys : List Change) (records : List Overflow) → CanMakeAll id kind xs records → CanMakeAll id kind ys (all_changed id kind xs records) → CanMakeAll id kind (xs ++ ys) records
can_append id kind [] ys records first second = second
can_append id kind (x ∷ xs) ys records first second = (first.0, can_append id kind xs ys (changed id kind x records) first.1 second)

-- what a list of changes makes of some records
pub record Makes (id kind : ℕ) (changes : List Change) (old new : List Overflow) : Type 0 where
  pub can : CanMakeAll id kind changes old
  pub is : all_changed id kind changes old ≡ new

makes_none : (id kind : ℕ) (records : List Overflow) → Makes id kind [] records records
makes_none id kind records = record { can = tt; is = refl }

makes_both : (id kind : ℕ) (xs ys : List Change) (a b c : List Overflow) → Makes id kind xs a b → Makes id kind ys b c → Makes id kind (xs ++ ys) a c
makes_both id kind xs ys a b c p q = record {
  can = can_append id kind xs ys a p.can (subst (CanMakeAll id kind ys) (sym p.is) q.can);
  is = all_changed-append id kind xs ys a ∙ ap (all_changed id kind ys) p.is ∙ q.is;
}

makes_one : (id kind : ℕ) (change : Change) (a b : List Overflow) → CanMake id kind change a → changed id kind change a ≡ b → Makes id kind (change ∷ []) a b
makes_one id kind change a b can is = record { can = (can, tt); is = is }

-- ---- whether a record begins at a start

no_start_below : (start : ℕ) (xs : List Overflow) → AreBelow start xs → has_start start xs ≡ false
no_start_below start [] below = refl
no_start_below start (x ∷ xs) below = (λ i. ne_eqb x.start start (λ same. omega (arith, below.0, same)) i || has_start start xs) ∙ no_start_below start xs below.1

no_start_from : (start : ℕ) (xs : List Overflow) → AreFrom (suc start) xs → has_start start xs ≡ false
no_start_from start [] from = refl
no_start_from start (x ∷ xs) from = (λ i. ne_eqb x.start start (λ same. omega (arith, from.0, same)) i || has_start start xs) ∙ no_start_from start xs from.1

no_start_both : (start : ℕ) (xs ys : List Overflow) → has_start start xs ≡ false → has_start start ys ≡ false → has_start start (xs ++ ys) ≡ false
no_start_both start [] ys first second = second
no_start_both start (x ∷ xs) ys first second = by_test (x.start == start) refl (λ none. no_start_both start xs ys none second)
  where
    by_test : (b : Bool) → (x.start == start) ≡ b → (has_start start xs ≡ false → has_start start (xs ++ ys) ≡ false) → (b || has_start start (xs ++ ys)) ≡ false
    by_test true is others = absurd (both_ways true (sym (λ i. is i || has_start start xs) ∙ first) refl)
    by_test false is others = others (sym (λ i. is i || has_start start xs) ∙ first)

-- ---- the law

module _ (id kind : ℕ) where
  abbrev placed : List OverflowRecord → List Overflow
  placed records = map (under id kind) records

  snoc : (done : List Overflow) (x : Overflow) (rest : List Overflow) → (done ++ x ∷ []) ++ rest ≡ done ++ x ∷ rest
  snoc done x rest = append_assoc done (x ∷ []) rest

  makes_inserts : (low high : ℕ) (done rest : List Overflow) (front : List OverflowRecord) → AreBelow low done → RiseFrom low front → AllBefore high front → AreFrom high rest
      → Makes id kind (map Insert front) (done ++ rest) ((done ++ placed front) ++ rest)
  makes_inserts low high done rest [] below rises before from = record { can = tt; is = ap (λ (l : List Overflow). l ++ rest) (sym (append-nil done)) }
  makes_inserts low high done rest (x ∷ xs) below rises before from =
      let here = under id kind x in
      let below_x = below_more low x.start done rises.0 below in
      let from_x = from_less high (suc x.start) rest (omega (arith, before.0)) from in
      let first = makes_one id kind (Insert x) (done ++ rest) ((done ++ here ∷ []) ++ rest)
      (no_start_both x.start done rest (no_start_below x.start done below_x) (no_start_from x.start rest from_x))
      (put_between here done rest below_x from_x ∙ sym (snoc done here rest)) in
      let more = makes_inserts (suc x.start) high (done ++ here ∷ []) rest xs
      (below_append (suc x.start) done (here ∷ []) (below_more low (suc x.start) done (omega (arith, rises.0)) below) (omega arith, tt)) rises.1 before.1 from in
      subst (λ l. Makes id kind (map Insert (x ∷ xs)) (done ++ rest) (l ++ rest)) (append_assoc done (here ∷ []) (placed xs))
      (makes_both id kind (Insert x ∷ []) (map Insert xs) (done ++ rest) ((done ++ here ∷ []) ++ rest) (((done ++ here ∷ []) ++ placed xs) ++ rest) first more)

  -- what the change of one record leaves: the records done, with it or another in its place where one is wanted at its start
  record Steps (one : OverflowRecord) (more wanted : List OverflowRecord) (done : List Overflow) : Type 0 where
    after : List Overflow
    below : AreBelow (suc one.start) after
    makes : Makes id kind (change_at one wanted) (done ++ placed (one ∷ more)) (after ++ placed more)
    rises : RiseFrom (suc one.start) (past one.start wanted)
    is : after ++ placed (past one.start wanted) ≡ done ++ placed wanted

  -- none is wanted at its start
  removes : (one : OverflowRecord) (more wanted : List OverflowRecord) (done : List Overflow) → AreBelow one.start done → RiseFrom (suc one.start) more → RiseFrom (suc one.start) wanted
      → change_at one wanted ≡ Remove one.start ∷ [] → past one.start wanted ≡ wanted → Steps one more wanted done
  removes one more wanted done below rises wants change same = record {
    after = done;
    below = below_more one.start (suc one.start) done (omega arith) below;
    makes = subst (λ l. Makes id kind l (done ++ placed (one ∷ more)) (done ++ placed more)) (sym change)
        (makes_one id kind (Remove one.start) (done ++ placed (one ∷ more)) (done ++ placed more) tt
        (taken_out one.start (under id kind one) done (placed more) below (rise_under id kind (suc one.start) more rises) refl));
    rises = subst (RiseFrom (suc one.start)) (sym same) wants;
    is = ap (λ l. done ++ placed l) same;
  }

  -- one is wanted at its start
  stays : (one first : OverflowRecord) (more wanted : List OverflowRecord) (done : List Overflow) (same : Bool) → same_extents one.extents first.extents ≡ same → AreBelow one.start done → first.start ≡ one.start
      → Makes id kind (if same then [] else Replace first ∷ []) (done ++ placed (one ∷ more)) ((done ++ under id kind first ∷ []) ++ placed more)
  stays one first more wanted done true same below start = record {
    can = tt;
    is = (λ i. done ++ same_under id kind one first start same i ∷ placed more) ∙ sym (snoc done (under id kind first) (placed more));
  }
  stays one first more wanted done false same below start = makes_one id kind (Replace first) (done ++ placed (one ∷ more)) ((done ++ under id kind first ∷ []) ++ placed more)
      (start_stands first.start done (placed more) (under id kind one) (sym start))
      (put_over (under id kind first) (under id kind one) done (placed more) (below_more one.start first.start done (omega (arith, start)) below) (sym start) ∙ sym (snoc done (under id kind first) (placed more)))

  steps : (one : OverflowRecord) (more wanted : List OverflowRecord) (done : List Overflow) → AreBelow one.start done → RiseFrom (suc one.start) more → RiseFrom one.start wanted → Steps one more wanted done
  steps one more [] done below rises wants = removes one more [] done below rises tt refl refl
  steps one more (first ∷ others) done below rises wants = by_test (first.start == one.start) refl
    where
      by_test : (b : Bool) → (first.start == one.start) ≡ b → Steps one more (first ∷ others) done
      by_test true is =
          let start = eqb-true first.start one.start is in
          record {
            after = done ++ under id kind first ∷ [];
            below = below_append (suc one.start) done (under id kind first ∷ []) (below_more one.start (suc one.start) done (omega arith) below) (omega (arith, start), tt);
            makes = subst (λ b. Makes id kind (if b then (if same_extents one.extents first.extents then [] else Replace first ∷ []) else Remove one.start ∷ []) (done ++ placed (one ∷ more)) ((done ++ under id kind first ∷ []) ++ placed more)) (sym is)
                (stays one first more others done (same_extents one.extents first.extents) refl below start);
            rises = subst (λ b. RiseFrom (suc one.start) (if b then others else first ∷ others)) (sym is) (rise_less (suc first.start) (suc one.start) others (omega (arith, start)) wants.1);
            is = ap (λ b. (done ++ under id kind first ∷ []) ++ placed (if b then others else first ∷ others)) is ∙ snoc done (under id kind first) (placed others);
          }
      by_test false is = removes one more (first ∷ others) done below rises (omega (arith, wants.0, eqb-false first.start one.start is), wants.1)
          (ap (λ b. if b then (if same_extents one.extents first.extents then [] else Replace first ∷ []) else Remove one.start ∷ []) is)
          (ap (λ b. if b then others else first ∷ others) is)

  pub makes_wanted : (low : ℕ) (done : List Overflow) (records wanted : List OverflowRecord) → AreBelow low done → RiseFrom low records → RiseFrom low wanted
      → Makes id kind (changes_to records wanted) (done ++ placed records) (done ++ placed wanted)
  makes_wanted low done [] wanted below rises wants =
      subst (λ l. Makes id kind (map Insert wanted) (done ++ []) l) (append-nil (done ++ placed wanted)) (makes_inserts low (last low wanted) done [] wanted below wants (all_last low wanted wants) tt)
    where
      last : ℕ → List OverflowRecord → ℕ
      last place [] = place
      last place (x ∷ xs) = last (suc x.start) xs

      last_more : (place : ℕ) (xs : List OverflowRecord) → RiseFrom place xs → place ≤ last place xs
      last_more place [] all = omega arith
      last_more place (x ∷ xs) all = omega (arith, all.0, last_more (suc x.start) xs all.1)

      all_last : (place : ℕ) (xs : List OverflowRecord) → RiseFrom place xs → AllBefore (last place xs) xs
      all_last place [] all = tt
      all_last place (x ∷ xs) all = (omega (arith, last_more (suc x.start) xs all.1), all_last (suc x.start) xs all.1)
  makes_wanted low done (one ∷ more) wanted below rises wants =
      let front = front_before one.start wanted in
      let rest = behind_front one.start wanted in
      let inserts = makes_inserts low one.start done (placed (one ∷ more)) front below (front_rises low one.start wanted wants) (front_is_before one.start wanted)
      (omega arith, from_less (suc one.start) one.start (placed more) (omega arith) (rise_under id kind (suc one.start) more rises.1)) in
      let here = done ++ placed front in
      let below_here = below_append one.start done (placed front) (below_more low one.start done rises.0 below) (before_below id kind one.start front (front_is_before one.start wanted)) in
      let step = steps one more rest here below_here rises.1 (rest_rises low one.start wanted wants) in
      let others = makes_wanted (suc one.start) step.after more (past one.start rest) step.below rises.1 step.rises in
      let both = makes_both id kind (change_at one rest) (changes_to more (past one.start rest)) (here ++ placed (one ∷ more)) (step.after ++ placed more) (step.after ++ placed (past one.start rest)) step.makes others in
      let all = makes_both id kind (map Insert front) (change_at one rest ++ changes_to more (past one.start rest)) (done ++ placed (one ∷ more)) (here ++ placed (one ∷ more)) (step.after ++ placed (past one.start rest)) inserts both in
      subst (λ l. Makes id kind (changes_to (one ∷ more) wanted) (done ++ placed (one ∷ more)) l)
      (step.is ∙ append_assoc done (placed front) (placed rest) ∙ ap (λ l. done ++ l) (sym (map-append (under id kind) front rest) ∙ ap placed (front_and_rest one.start wanted))) all
