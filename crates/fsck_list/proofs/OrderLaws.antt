-- The order of findings is strict and total.
use Rattle.std.proofs.Common.{◌≡◌, ◌⊎◌, ◌<◌, ℕ, inl, inr, arith}
use Rattle.std.proofs.lemmas.Bool.{cases_lt, cases_eq}
use Rattle.fsck_list.specs.declared.finding.Finding.{Finding}
use Rattle.fsck_list.specs.Order.{IsBefore}

pub never_itself : (one : Finding) → IsBefore one one → ⊥
never_itself one before = grind arith

pub goes_on : (one other last : Finding) → IsBefore one other → IsBefore other last → IsBefore one last
goes_on one other last first second = grind arith

pub one_way : (one other : Finding) → IsBefore one other → IsBefore other one → ⊥
one_way one other first second = never_itself one (goes_on one other one first second)

-- two numbers are equal, or one of them is the smaller
apart : (m n : ℕ) → (m ≡ n) ⊎ ((m < n) ⊎ (n < m))
apart m n = elim (cases_eq m n) [
  | inl same ↦ inl same
  | inr other ↦ elim (cases_lt m n) [ inl low ↦ inr (inl low) | inr high ↦ inr (inr (omega (arith, other, high))) ]
]

-- two findings are equal, or one of them stands before the other
pub three_ways : (one other : Finding) → (one ≡ other) ⊎ (IsBefore one other ⊎ IsBefore other one)
three_ways one other = elim (apart one.rule other.rule) [
  | inl rule ↦ elim (apart one.place other.place) [
    | inl place ↦ elim (apart one.found other.found) [
      | inl found ↦ elim (apart one.wanted other.wanted) [
        | inl wanted ↦ inl (λ i. record { rule = rule i; place = place i; found = found i; wanted = wanted i })
        | inr differ ↦ elim differ [
          | inl less ↦ inr (inl (inr (rule, inr (place, inr (found, less)))))
          | inr more ↦ inr (inr (inr (omega (arith, rule), inr (omega (arith, place), inr (omega (arith, found), more)))))
        ]
      ]
      | inr differ ↦ elim differ [
        | inl less ↦ inr (inl (inr (rule, inr (place, inl less))))
        | inr more ↦ inr (inr (inr (omega (arith, rule), inr (omega (arith, place), inl more))))
      ]
    ]
    | inr differ ↦ elim differ [ inl less ↦ inr (inl (inr (rule, inl less))) | inr more ↦ inr (inr (inr (omega (arith, rule), inl more))) ]
  ]
  | inr differ ↦ elim differ [ inl less ↦ inr (inl (inl less)) | inr more ↦ inr (inr (inl more)) ]
]
