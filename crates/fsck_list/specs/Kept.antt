-- The first hundred of all findings, in order.
use Rattle.std.specs.Prelude.{◌≡◌, ◌⊎◌, ◌≤◌, List, Contains, length}
use Rattle.fsck_list.specs.declared.finding.Finding.{Finding}
use Rattle.fsck_list.specs.Order.{IsBefore, IsInOrder}

-- in order, and at most a hundred
pub record IsKept (list : List Finding) : Type 0 where
  pub order : IsInOrder list
  pub few : length list ≤ 100

-- a finding stands in the list, or the list is full and none of it comes behind the finding
abbrev pub IsListed : List Finding → Finding → Type 0
IsListed list finding = Contains list finding ⊎ ((length list ≡ 100) × ((other : Finding) → Contains list other → IsBefore finding other → ⊥))

-- One finding more: it is listed, what was listed still is, and nothing else is.
pub record Keeps (finding : Finding) (old new : List Finding) : Type 0 where
  pub listed : IsListed new finding
  pub still : (other : Finding) → IsListed old other → IsListed new other
  pub from : (other : Finding) → Contains new other → (other ≡ finding) ⊎ Contains old other
