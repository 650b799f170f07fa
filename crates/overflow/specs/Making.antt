-- When a change may be made.
use Rattle.std.specs.Prelude.{◌≡◌, ℕ, ◌==◌, Bool, true, false, List, [], ◌∷◌}
use Rattle.std.specs.List.{list_any}
use Rattle.hfs_volume.specs.Records.{Overflow}
use Rattle.overflow.specs.Changes.{changed}
use Rattle.overflow.specs.declared.changes.Change.{Change}
use Rattle.overflow.specs.declared.changes.Change.TheVariants.{Remove, Insert, Replace}

-- one of the records begins at this place
abbrev pub has_start : ℕ → List Overflow → Bool
has_start start records = list_any (λ more. more.start == start) records

-- a record is inserted where none begins at its start, and replaced where one does
abbrev pub CanMake : ℕ → ℕ → Change → List Overflow → Type 0
CanMake id kind (Remove start) records = Unit {0}
CanMake id kind (Insert one) records = has_start one.start records ≡ false
CanMake id kind (Replace one) records = has_start one.start records ≡ true

-- each of some changes may be made behind those before it
abbrev pub CanMakeAll : ℕ → ℕ → List Change → List Overflow → Type 0
CanMakeAll id kind [] records = Unit {0}
CanMakeAll id kind (change ∷ more) records = CanMake id kind change records × CanMakeAll id kind more (changed id kind change records)
