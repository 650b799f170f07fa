-- The order of findings.
use Rattle.std.specs.Prelude.{◌≡◌, ◌⊎◌, ◌<◌, ◌≤◌, ℕ, List, length, slice_index_or}
use Rattle.fsck_list.specs.declared.finding.Finding.{Finding}

-- by rule, then by place, then by what was found, then by what is wanted
abbrev pub IsBefore : Finding → Finding → Type 0
IsBefore one other =
    (one.rule < other.rule) ⊎ ((one.rule ≡ other.rule) × ((one.place < other.place) ⊎ ((one.place ≡ other.place)
    × ((one.found < other.found) ⊎ ((one.found ≡ other.found) × (one.wanted < other.wanted))))))

-- each finding stands before all behind it, so none stands twice
abbrev pub IsInOrder : List Finding → Type 0
IsInOrder list = (i j : ℕ) (none : Finding) → i < j → j < length list → IsBefore (slice_index_or list i none) (slice_index_or list j none)

-- the place of a finding in a list: those before the place come before it, and it comes before the others
pub record IsPlace (finding : Finding) (list : List Finding) (at : ℕ) : Type 0 where
  pub within : at ≤ length list
  pub low : (k : ℕ) (none : Finding) → k < at → IsBefore (slice_index_or list k none) finding
  pub high : (k : ℕ) (none : Finding) → at ≤ k → k < length list → IsBefore finding (slice_index_or list k none)
