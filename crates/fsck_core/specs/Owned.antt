-- Rule 17, judged one place after the other.
use Rattle.std.specs.Prelude.{◌≡◌, ◌⊎◌, ◌↔◌, ◌==◌, ◌&&◌, not, ℕ, Bool, false, List, Contains, IsTrue, count_by}
use Rattle.fsck_list.specs.declared.finding.Finding.{Finding}
use Rattle.hfs_volume.specs.Records.{Overflow}
use Rattle.std.specs.List.Sorted.{IsNonDecreasing}
use Rattle.alloc_bitmap.specs.Apart.{times}
use Rattle.hfs_volume.specs.Forks.{Owned, is_of, extents_id, bad_blocks_id, data_kind, resource_kind}
use Rattle.hfs_volume.specs.Blocks.{GoesOn, GoOnBad, HasFork}
use Rattle.hfs_volume.specs.Broken.{IsFailed}
use Rattle.fsck_core.specs.Decided.{StaysListed, IsTold}
use Rattle.fsck_core.specs.Overflows.{overflow_in}
use Rattle.fsck_core.specs.Wants.{as_found}
use Rattle.fsck_core.specs.declared.follow.OwnedFork.{OwnedFork}
use Rattle.fsck_core.specs.declared.overflow.OverflowRow.{OverflowRow}

-- where rule 17 fails among these forks and overflow records: a fork's records don't go on, those of bad blocks don't, or one has no fork
abbrev pub FailsIn : List Owned → List Overflow → ℕ → Type 0
FailsIn forks overflow place =
    ((owned : Owned) × Contains forks owned × (owned.id ≡ place) × (¬ GoesOn overflow owned))
    ⊎ (((place ≡ bad_blocks_id) × (¬ GoOnBad overflow))
    ⊎ ((more : Overflow) × Contains overflow more × (more.id ≡ place) × (¬ HasFork forks more)))

-- what was added to the findings are places where rule 17 fails
abbrev pub AddsFailed : (ℕ → Type 0) → List Finding → List Finding → Type 0
AddsFailed Fails old new = (finding : Finding) → Contains new finding → Contains old finding ⊎ IsFailed 17 (as_found finding) Fails

-- A part of rule 17 was judged: it is told whether it holds, where it doesn't a finding of the rule is listed, and each that was added is one.
pub record Tested (Fails : ℕ → Type 0) (P : Type 0) (old new : List Finding) (met : Bool) : Type 0 where
  pub tells : IsTrue met ↔ P
  pub found : met ≡ false → IsTold (λ f. IsFailed 17 f Fails) new
  pub still : StaysListed old new
  pub each : AddsFailed Fails old new

-- an overflow record belongs to a fork, which isn't that of the extents overflow file
abbrev pub takes : OverflowRow → OwnedFork → Bool
takes row owned = (is_of owned.id owned.kind (overflow_in row)) && not (owned.id == extents_id)

-- a fork is of this kind and this CNID, which isn't that of the extents overflow file
abbrev pub takes_id : ℕ → ℕ → OwnedFork → Bool
takes_id kind id owned = ((id == owned.id) && (kind == owned.kind)) && not (owned.id == extents_id)

-- The CNIDs of data forks and of resource forks, in order.
pub record AreForkIds (forks : List OwnedFork) (data_ids resource_ids : List ℕ) : Type 0 where
  pub data_order : IsNonDecreasing data_ids
  pub data_same : (id : ℕ) → times id data_ids ≡ count_by (takes_id data_kind id) forks
  pub resource_order : IsNonDecreasing resource_ids
  pub resource_same : (id : ℕ) → times id resource_ids ≡ count_by (takes_id resource_kind id) forks
