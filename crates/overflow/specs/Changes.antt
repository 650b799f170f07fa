-- How the overflow records of a fork become others: one change for each start at which they differ.
use Rattle.std.specs.Prelude.{ℕ, ◌==◌, ◌&&◌, Bool, true, false, not, nat_lt, List, [], ◌∷◌, ◌++◌, map, if◌then◌else◌}
use Rattle.std.specs.List.{list_all}
use Rattle.hx_bytes.specs.declared.extents.Extent.{Extent}
use Rattle.hx_bytes.specs.declared.extents.ExtentRecord.{ExtentRecord}
use Rattle.hfs_model.specs.Sorted.{kept}
use Rattle.hfs_volume.specs.Records.{Overflow}
use Rattle.overflow.specs.Records.{under}
use Rattle.overflow.specs.declared.record.OverflowRecord.{OverflowRecord}
use Rattle.overflow.specs.declared.changes.Change.{Change}
use Rattle.overflow.specs.declared.changes.Change.TheVariants.{Remove, Insert, Replace}

-- ---- what is to be changed

-- the same extents, one by one
abbrev pub same_list : List Extent → List Extent → Bool
same_list [] [] = true
same_list [] (extent ∷ more) = false
same_list (extent ∷ more) [] = false
same_list (extent ∷ more) (other ∷ others) = (extent.start == other.start) && (extent.count == other.count) && same_list more others

abbrev pub same_extents : ExtentRecord → ExtentRecord → Bool
same_extents one other = same_list one.extents other.extents

-- the records in front that begin before a place of the fork
abbrev pub front_before : ℕ → List OverflowRecord → List OverflowRecord
front_before start [] = []
front_before start (one ∷ more) = if nat_lt one.start start then one ∷ front_before start more else []

-- those that stand behind them
abbrev pub behind_front : ℕ → List OverflowRecord → List OverflowRecord
behind_front start [] = []
behind_front start (one ∷ more) = if nat_lt one.start start then behind_front start more else one ∷ more

-- A record where the first of those wanted may begin at its start: it is removed where none does, and has other extents where that one has.
abbrev pub change_at : OverflowRecord → List OverflowRecord → List Change
change_at one [] = Remove one.start ∷ []
change_at one (first ∷ more) = if first.start == one.start then (if same_extents one.extents first.extents then [] else Replace first ∷ []) else Remove one.start ∷ []

-- those wanted behind a record's start
abbrev pub past : ℕ → List OverflowRecord → List OverflowRecord
past start [] = []
past start (first ∷ more) = if first.start == start then more else first ∷ more

-- The changes that make some records those that are wanted, in the order of their starts.
abbrev pub changes_to : List OverflowRecord → List OverflowRecord → List Change
changes_to [] wanted = map Insert wanted
changes_to (one ∷ more) wanted =
    map Insert (front_before one.start wanted) ++ (change_at one (behind_front one.start wanted) ++ changes_to more (past one.start (behind_front one.start wanted)))

-- a change that puts no record where none was, and so wants no more room in the tree
abbrev pub is_light : Change → Bool
is_light (Remove start) = true
is_light (Insert one) = false
is_light (Replace one) = true

abbrev pub are_light : List Change → Bool
are_light changes = list_all is_light changes

-- ---- what a change does

-- the records with this one in the place of the one that begins where it does, or where it belongs among those
abbrev pub put_record : Overflow → List Overflow → List Overflow
put_record one [] = one ∷ []
put_record one (next ∷ more) =
    if nat_lt next.start one.start then next ∷ put_record one more
    else if next.start == one.start then one ∷ more else one ∷ next ∷ more

-- the records of a fork after a change
abbrev pub changed : ℕ → ℕ → Change → List Overflow → List Overflow
changed id kind (Remove start) records = kept (λ more. not (more.start == start)) records
changed id kind (Insert one) records = put_record (under id kind one) records
changed id kind (Replace one) records = put_record (under id kind one) records

-- and after several
abbrev pub all_changed : ℕ → ℕ → List Change → List Overflow → List Overflow
all_changed id kind [] records = records
all_changed id kind (change ∷ more) records = all_changed id kind more (changed id kind change records)
