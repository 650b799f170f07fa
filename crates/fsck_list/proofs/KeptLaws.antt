-- What a finding more does to those that are kept.
use Rattle.std.proofs.Common.{◌≡◌, ◌⊎◌, ◌<◌, ◌≤◌, ℕ, ◌+◌, ◌-◌, min, List, length, take, get_or, inl, inr, refl, sym, ◌∙◌, ap, subst, arith}
use Rattle.std.specs.Prelude.{Contains}
use Rattle.std.specs.List.{insert}
use Rattle.std.proofs.lemmas.Bool.{cases_lt, cases_eq}
use Rattle.std.proofs.lemmas.List.{get_or_default, get_or-take, length-take}
use Rattle.std.proofs.lemmas.List.Edits.{length-insert, get_or-insert_below, get_or-insert_at, get_or-insert_above}
use Rattle.fsck_list.specs.declared.finding.Finding.{Finding}
use Rattle.fsck_list.specs.Order.{IsBefore, IsInOrder, IsPlace}
use Rattle.fsck_list.specs.Kept.{IsKept, IsListed, Keeps}
use Rattle.fsck_list.proofs.OrderLaws.{goes_on, one_way, three_ways}

-- where an item stands after an insert
inserted : (xs : List Finding) (i k : ℕ) (y d : Finding) → i ≤ length xs
    → ((k < i) × (get_or (insert xs i y) k d ≡ get_or xs k d)) ⊎ (((k ≡ i) × (get_or (insert xs i y) k d ≡ y)) ⊎ ((i < k) × (get_or (insert xs i y) k d ≡ get_or xs (k - 1) d)))
inserted xs i k y d within = elim (cases_lt k i) [
  | inl under ↦ inl (under, get_or-insert_below xs i y d k under within)
  | inr over ↦ elim (cases_eq k i) [
    | inl here ↦ inr (inl (here, ap (λ n. get_or (insert xs i y) n d) here ∙ get_or-insert_at xs i y d within))
    | inr other ↦
        let back : k ≡ k - 1 + 1 = omega (arith, over, other) in
        let past : i < k = omega (arith, over, other) in
        inr (inr (past, ap (λ n. get_or (insert xs i y) n d) back ∙ get_or-insert_above xs i y d (k - 1) (omega (arith, past)) within))
  ]
]

between : (a b c d : Finding) → a ≡ c → b ≡ d → IsBefore c d → IsBefore a b
between a b c d first second before = subst (λ x. IsBefore x b) (sym first) (subst (λ y. IsBefore c y) (sym second) before)

-- the place behind one that comes before a finding, where all from there on come after it
pub place_is : (finding none : Finding) (xs : List Finding) (at : ℕ) → IsInOrder xs → at ≤ length xs → ((k : ℕ) → at ≤ k → k < length xs → IsBefore finding (get_or xs k finding))
    → (0 < at → IsBefore (get_or xs (at - 1) none) finding) → IsPlace finding xs at
place_is finding none xs at order within behind last = record {
  within = within;
  low = low;
  high = λ k d from inside. subst (λ x. IsBefore finding x) (get_or_default xs k finding d inside) (behind k from inside);
}
  where
    low : (k : ℕ) (d : Finding) → k < at → IsBefore (get_or xs k d) finding
    low k d less =
        let same : get_or xs (at - 1) d ≡ get_or xs (at - 1) none = get_or_default xs (at - 1) d none (omega (arith, less, within)) in
        let before_last : IsBefore (get_or xs (at - 1) d) finding = between (get_or xs (at - 1) d) finding (get_or xs (at - 1) none) finding same refl (last (omega (arith, less))) in
        elim (cases_eq k (at - 1)) [
          | inl is ↦ between (get_or xs k d) finding (get_or xs (at - 1) d) finding (ap (λ n. get_or xs n d) is) refl before_last
          | inr before ↦ goes_on (get_or xs k d) (get_or xs (at - 1) d) finding (order k (at - 1) d (omega (arith, less, before)) (omega (arith, less, within))) before_last
        ]

-- one more comes after the finding
pub one_more : (finding none : Finding) (xs : List Finding) (at : ℕ) → 0 < at → at ≤ length xs → ((k : ℕ) → at ≤ k → k < length xs → IsBefore finding (get_or xs k finding)) → IsBefore finding (get_or xs (at - 1) none)
    → (k : ℕ) → at - 1 ≤ k → k < length xs → IsBefore finding (get_or xs k finding)
one_more finding none xs at some within behind before k from inside = elim (cases_eq k (at - 1)) [
  | inl is ↦ subst (λ n. IsBefore finding (get_or xs n finding)) (sym is) (subst (λ x. IsBefore finding x) (get_or_default xs (at - 1) none finding (omega (arith, some, within))) before)
  | inr past ↦ behind k (omega (arith, from, past)) inside
]

-- a finding that neither comes before nor after one of the list is that one
pub found_here : (finding none : Finding) (xs : List Finding) (k : ℕ) → k < length xs → (IsBefore (get_or xs k none) finding → ⊥) → (IsBefore finding (get_or xs k none) → ⊥) → Contains xs finding
found_here finding none xs k inside not_before not_after = elim (three_ways (get_or xs k none) finding) [
  | inl same ↦ (k, inside, get_or_default xs k finding none inside ∙ same)
  | inr differ ↦ elim differ [ inl before ↦ absurd (not_before before) | inr after ↦ absurd (not_after after) ]
]

-- a finding that stands there already
pub keeps_same : (finding : Finding) (xs : List Finding) → Contains xs finding → Keeps finding xs xs
keeps_same finding xs stands = record {
  listed = inl stands;
  still = λ other listed. listed;
  from = λ other stands. inr stands;
}

-- a finding behind a full list
pub keeps_full : (finding : Finding) (xs : List Finding) (at : ℕ) → IsKept xs → IsPlace finding xs at → 100 ≤ at → Keeps finding xs xs
keeps_full finding xs at kept place full = record {
  listed = inr (
    omega (arith, kept.few, place.within, full),
    λ other stands before.
        one_way finding other before (subst (λ x. IsBefore x finding) stands.2 (place.low stands.0 other (omega (arith, stands.1, kept.few, full)))),
  );
  still = λ other listed. listed;
  from = λ other stands. inr stands;
}

module _ (finding : Finding) (xs : List Finding) (at : ℕ) (kept : IsKept xs) (place : IsPlace finding xs at) (room : at < 100) where
  abbrev ys : List Finding
  ys = insert xs at finding

  abbrev zs : List Finding
  zs = take 100 (insert xs at finding)

  long : length zs ≡ min 100 (length xs + 1)
  long = length-take 100 ys ∙ ap (λ n. min 100 n) (length-insert xs at finding place.within)

  item : (k : ℕ) (d : Finding) → k < 100 → get_or zs k d ≡ get_or ys k d
  item k d less = get_or-take 100 ys k d less

  ordered : (i j : ℕ) (d : Finding) → i < j → j < length xs + 1 → IsBefore (get_or ys i d) (get_or ys j d)
  ordered i j d less inside = elim (inserted xs at i finding d place.within) [
    | inl p ↦ elim (inserted xs at j finding d place.within) [
      | inl q ↦ between (get_or ys i d) (get_or ys j d) (get_or xs i d) (get_or xs j d) p.1 q.1 (kept.order i j d less (omega (arith, q.0, place.within)))
      | inr more ↦ elim more [
        | inl q ↦ between (get_or ys i d) (get_or ys j d) (get_or xs i d) finding p.1 q.1 (place.low i d p.0)
        | inr q ↦ between (get_or ys i d) (get_or ys j d) (get_or xs i d) (get_or xs (j - 1) d) p.1 q.1 (kept.order i (j - 1) d (omega (arith, p.0, q.0)) (omega (arith, inside, q.0)))
      ]
    ]
    | inr rest ↦ elim rest [
      | inl p ↦ elim (inserted xs at j finding d place.within) [
        | inl q ↦ absurd (omega (arith, less, p.0, q.0))
        | inr more ↦ elim more [
          | inl q ↦ absurd (omega (arith, less, p.0, q.0))
          | inr q ↦ between (get_or ys i d) (get_or ys j d) finding (get_or xs (j - 1) d) p.1 q.1 (place.high (j - 1) d (omega (arith, q.0)) (omega (arith, inside, q.0)))
        ]
      ]
      | inr p ↦ elim (inserted xs at j finding d place.within) [
        | inl q ↦ absurd (omega (arith, less, p.0, q.0))
        | inr more ↦ elim more [
          | inl q ↦ absurd (omega (arith, less, p.0, q.0))
          | inr q ↦ between (get_or ys i d) (get_or ys j d) (get_or xs (i - 1) d) (get_or xs (j - 1) d) p.1 q.1 (kept.order (i - 1) (j - 1) d (omega (arith, less, p.0)) (omega (arith, inside, q.0)))
        ]
      ]
    ]
  ]

  pub is_kept : IsKept zs
  is_kept = record {
    order = λ i j d less inside.
        let low : j < 100 = omega (arith, inside, long) in
        between (get_or zs i d) (get_or zs j d) (get_or ys i d) (get_or ys j d) (item i d (omega (arith, less, low))) (item j d low) (ordered i j d less (omega (arith, inside, long)));
    few = omega (arith, long);
  }

  here : Contains zs finding
  here = (at, omega (arith, long, place.within, room), item at finding room ∙ get_or-insert_at xs at finding finding place.within)

  came_from : (other : Finding) → Contains zs other → (other ≡ finding) ⊎ Contains xs other
  came_from other stands =
      let low : stands.0 < 100 = omega (arith, stands.1, long) in
      let is : get_or ys stands.0 other ≡ other = sym (item stands.0 other low) ∙ stands.2 in
      elim (inserted xs at stands.0 finding other place.within) [
        | inl p ↦ inr (stands.0, omega (arith, p.0, place.within), sym p.1 ∙ is)
        | inr more ↦ elim more [
          | inl p ↦ inl (sym is ∙ p.1)
          | inr p ↦ inr (stands.0 - 1, omega (arith, p.0, stands.1, long), sym p.1 ∙ is)
        ]
      ]

  -- what stood there stands there still, or it was the last of a hundred
  stays : (other : Finding) → Contains xs other → Contains zs other ⊎ ((length xs ≡ 100) × (get_or xs 99 other ≡ other))
  stays other stands = elim (cases_lt stands.0 at) [
    | inl under ↦ inl (stands.0, omega (arith, under, room, long, stands.1), item stands.0 other (omega (arith, under, room)) ∙ get_or-insert_below xs at finding other stands.0 under place.within ∙ stands.2)
    | inr over ↦ elim (cases_lt (stands.0 + 1) 100) [
      | inl low ↦ inl (stands.0 + 1, omega (arith, low, long, stands.1), item (stands.0 + 1) other low ∙ get_or-insert_above xs at finding other stands.0 over place.within ∙ stands.2)
      | inr high ↦
          let is : stands.0 ≡ 99 = omega (arith, high, stands.1, kept.few) in
          inr (omega (arith, high, stands.1, kept.few), ap (λ n. get_or xs n other) (sym is) ∙ stands.2)
    ]
  ]

  -- none that is kept comes behind the last of a hundred that was
  none_behind : (other : Finding) → length xs ≡ 100 → get_or xs 99 other ≡ other → (more : Finding) → Contains zs more → IsBefore other more → ⊥
  none_behind other full is more stands before =
      let low : stands.0 < 100 = omega (arith, stands.1, long) in
      let last : get_or ys 100 more ≡ other = get_or-insert_above xs at finding more 99 (omega (arith, room)) place.within ∙ get_or_default xs 99 more other (omega (arith, full)) ∙ is in
      one_way other more before
      (between more other (get_or ys stands.0 more) (get_or ys 100 more) (sym (sym (item stands.0 more low) ∙ stands.2)) (sym last) (ordered stands.0 100 more low (omega (arith, full))))

  still : (other : Finding) → IsListed xs other → IsListed zs other
  still other (inl stands) = elim (stays other stands) [
    | inl there ↦ inl there
    | inr last ↦ inr (omega (arith, long, last.0), none_behind other last.0 last.1)
  ]
  still other (inr none) = inr (
    omega (arith, long, none.0),
    λ more stands before. elim (came_from more stands) [
      | inl is ↦ none.1 (get_or xs 99 more) (99, omega (arith, none.0), get_or_default xs 99 (get_or xs 99 more) more (omega (arith, none.0)))
          (goes_on other finding (get_or xs 99 more) (subst (λ x. IsBefore other x) is before) (place.high 99 more (omega (arith, room)) (omega (arith, none.0))))
      | inr was ↦ none.1 more was before
    ],
  )

  pub keeps_more : Keeps finding xs zs
  keeps_more = record { listed = inl here; still = still; from = came_from }

-- a full list whose last finding comes before those of a rule from a place on
pub full_before : (xs : List Finding) (rule place : ℕ) (none other : Finding) → IsKept xs → 100 ≤ length xs → IsBefore (get_or xs 99 none) (record { rule = rule; place = place; found = 0; wanted = 0 })
    → other.rule ≡ rule → place ≤ other.place → IsListed xs other
full_before xs rule place none other kept full last same_rule behind = inr (
  omega (arith, kept.few, full),
  λ more stands before. one_way other more before (ahead more stands),
)
  where
    passes : (one : Finding) → IsBefore one (record { rule = rule; place = place; found = 0; wanted = 0 }) → IsBefore one other
    passes one is = grind (arith, same_rule, behind)

    last_ahead : (more : Finding) → IsBefore (get_or xs 99 more) other
    last_ahead more = subst (λ (x : Finding). IsBefore x other) (get_or_default xs 99 none more (omega (arith, full))) (passes (get_or xs 99 none) last)

    ahead : (more : Finding) → Contains xs more → IsBefore more other
    ahead more stands = elim (cases_eq stands.0 99) [
      | inl here ↦ between more other (get_or xs 99 more) other (sym stands.2 ∙ ap (λ n. get_or xs n more) here) refl (last_ahead more)
      | inr earlier ↦
          let low : stands.0 < 99 = omega (arith, earlier, stands.1, kept.few) in
          goes_on more (get_or xs 99 more) other (between more (get_or xs 99 more) (get_or xs stands.0 more) (get_or xs 99 more) (sym stands.2) refl (kept.order stands.0 99 more low (omega (arith, full)))) (last_ahead more)
    ]
