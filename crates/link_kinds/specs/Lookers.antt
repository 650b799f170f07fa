-- Somebody who looks at names.
use Rattle.std.specs.Prelude.{◌≡◌, ◌≤◌, ℕ, Bool, List, take, Result, IsErrOf}
use Rattle.hx_bytes.specs.declared.faults.Trouble.{Trouble}
use Rattle.hx_bytes.specs.declared.faults.Trouble.TheVariants.{Disk}
use Rattle.sector_disk.specs.Cause.{Rose}
use Rattle.hfs_model.specs.declared.kinds.Sight.{Sight}
use Rattle.hfs_model.specs.declared.kinds.Sight.TheVariants as sight

-- What a contract sees of it: whether it tells what it looks at, what it then sees under each name in each folder, and its count of faults.
pub record Looking : Type 0 where
  pub tells : Bool
  pub sight : ℕ → List ℕ → Sight
  pub faults : ℕ

-- It only looked: it sees what it saw before, and its count of faults rose where it failed.
pub record OnlyLooks {T : Type 0} (old new : Looking) (result : Result T Trouble) : Type 0 where
  pub tells : new.tells ≡ old.tells
  pub sight : new.sight ≡ old.sight
  pub later : old.faults ≤ new.faults
  pub failed : IsErrOf result Disk → Rose old.faults new.faults

-- Of a link its first 1,024 bytes alone are handed over: a longer one is no target.
abbrev pub front_of : Sight → Sight
front_of sight.Absent = sight.Absent
front_of (sight.Folder id) = sight.Folder id
front_of sight.File = sight.File
front_of (sight.Link bytes) = sight.Link (take 1024 bytes)

abbrev pub front_seen : (ℕ → List ℕ → Sight) → ℕ → List ℕ → Sight
front_seen look parent name = front_of (look parent name)
