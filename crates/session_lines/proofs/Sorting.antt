-- Sorted lists of entries: what stands in them, and that no two entries have one place.
use Rattle.std.proofs.Common.{◌≡◌, ◌⊎◌, Bool, true, false, List, [], ◌∷◌, inl, inr, refl, sym, ◌∙◌, ap, subst, arith}
use Rattle.std.specs.Prelude.{Contains, if◌then◌else◌}
use Rattle.std.specs.List.{AllByRecursion}
use Rattle.std.specs.declared.cmp.Ordering.{Ordering}
use Rattle.std.specs.declared.cmp.Ordering.TheVariants.{Less, Equal, Greater}
use Rattle.std.specs.Ordering.{is_lt, nat_cmp, on, ordering_reverse, then_cmp}
use Rattle.std.specs.Cmp.{IsTotalOrder}
use Rattle.std.specs.Cmp.Lexicographic.{slice_cmp}
use Rattle.std.proofs.lemmas.Bool.{true≢false}
use Rattle.std.proofs.lemmas.Cmp.{nat_cmp_total, nat_list_cmp_total, on_total, then_total}
use Rattle.hfs_model.specs.Plain.{entry_before}
use Rattle.hfs_model.specs.Sorted.{put_before}
use Rattle.hfs_model.specs.declared.plain.PlainEntry.{PlainEntry}
use Rattle.hfs_volume.proofs.Members.{at_front, behind, first_or_later}

-- each item, as a tuple, and by membership
pub each_by : {X : Type 0} (P : X → Type 0) (xs : List X) → AllByRecursion P xs → (x : X) → Contains xs x → P x
each_by P [] all x none = absurd (omega (arith, none.1))
each_by P (y ∷ ys) all x stands = elim (first_or_later y x ys stands) [
  | inl is ↦ subst P (sym is) all.0
  | inr later ↦ each_by P ys all.1 x later
]

-- what stands in a list with an item put in it
pub put_cases : {X : Type 0} (before : X → X → Bool) (item : X) (xs : List X) (x : X) → Contains (put_before before item xs) x → (x ≡ item) ⊎ Contains xs x
put_cases before item [] x stands = elim (first_or_later item x [] stands) [
  | inl is ↦ inl is
  | inr none ↦ inr none
]
put_cases {X} before item (y ∷ ys) x stands = by (put_cases before item ys x) (before item y) stands
  where
    by : (Contains (put_before before item ys) x → (x ≡ item) ⊎ Contains ys x) → (b : Bool) → Contains (if b then item ∷ y ∷ ys else y ∷ put_before before item ys) x → (x ≡ item) ⊎ Contains (y ∷ ys) x
    by rest true there = first_or_later item x (y ∷ ys) there
    by rest false there = elim (first_or_later y x (put_before before item ys) there) [
      | inl is ↦ inr (subst (λ z. Contains (z ∷ ys) x) is (at_front x ys))
      | inr later ↦ elim (rest later) [
        | inl is ↦ inl is
        | inr old ↦ inr (behind y x ys old)
      ]
    ]

pub put_stands : {X : Type 0} (before : X → X → Bool) (item : X) (xs : List X) → Contains (put_before before item xs) item
put_stands before item [] = at_front item []
put_stands {X} before item (y ∷ ys) = by (put_stands before item ys) (before item y)
  where
    by : Contains (put_before before item ys) item → (b : Bool) → Contains (if b then item ∷ y ∷ ys else y ∷ put_before before item ys) item
    by rest true = at_front item (y ∷ ys)
    by rest false = behind y item (put_before before item ys) rest

pub put_still : {X : Type 0} (before : X → X → Bool) (item : X) (xs : List X) (x : X) → Contains xs x → Contains (put_before before item xs) x
put_still before item [] x none = absurd (omega (arith, none.1))
put_still {X} before item (y ∷ ys) x stands = by (put_still before item ys x) (before item y)
  where
    by : (Contains ys x → Contains (put_before before item ys) x) → (b : Bool) → Contains (if b then item ∷ y ∷ ys else y ∷ put_before before item ys) x
    by rest true = behind item x (y ∷ ys) stands
    by rest false = elim (first_or_later y x ys stands) [
      | inl is ↦ subst (λ z. Contains (z ∷ put_before before item ys) x) is (at_front x (put_before before item ys))
      | inr later ↦ behind y x (put_before before item ys) (rest later)
    ]

one_way : {K : Type 0} {R : K → K → Ordering} → IsTotalOrder R → (x y : K) → is_lt (R x y) ≡ true → is_lt (R y x) ≡ false
one_way {K} {R} total x y before = by_case (R y x) (sym (ap is_lt (total.antisymm x y)) ∙ before)
  where
    by_case : (o : Ordering) → is_lt (ordering_reverse o) ≡ true → is_lt o ≡ false
    by_case Less is = absurd (true≢false (sym is))
    by_case Equal is = refl
    by_case Greater is = refl

pub entry_one_way : (x y : PlainEntry) → entry_before x y ≡ true → entry_before y x ≡ false
entry_one_way = one_way {R = then_cmp (on (λ (e : PlainEntry). e.parent) nat_cmp) (on (λ (e : PlainEntry). e.name) (slice_cmp nat_cmp))} (then_total (on_total (λ (e : PlainEntry). e.parent) nat_cmp_total) (on_total (λ (e : PlainEntry). e.name) nat_list_cmp_total))
