-- The records of a value: the numbers in them, and how they go on.
use Rattle.std.proofs.Common.{inl, inr, ℕ, suc, ◌+◌, ◌<◌, List, [], ◌∷◌, length, subst, arith}
use Rattle.std.specs.Prelude.{slice_index_or}
use Rattle.std.specs.List.{AllByRecursion}
use Rattle.std.proofs.lemmas.Bool.{cases_lt}
use Rattle.hx_bytes.specs.Fork.{FitsExtent}
use Rattle.hx_bytes.specs.declared.extents.Extent.{Extent}

abbrev none : Extent
none = record { start = 0; count = 0 }

pub one_more_fits : (extents : List Extent) (n : ℕ) → ((k : ℕ) → k < n → FitsExtent (slice_index_or extents k none)) → FitsExtent (slice_index_or extents n none) → (k : ℕ) → k < n + 1 → FitsExtent (slice_index_or extents k none)
one_more_fits extents n before this k low = elim (cases_lt k n) [
  | inl less ↦ before k less
  | inr from ↦ subst (λ m. FitsExtent (slice_index_or extents m none)) (omega (arith, low, from)) this
]

pub they_fit : (extents : List Extent) → ((k : ℕ) → k < length extents → FitsExtent (slice_index_or extents k none)) → AllByRecursion FitsExtent extents
they_fit [] each = tt
they_fit (extent ∷ extents) each = (each 0 (omega arith), they_fit extents (λ k inside. each (suc k) (omega (arith, inside))))
