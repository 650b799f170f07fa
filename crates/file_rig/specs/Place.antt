-- A place that holds sectors, and a store of sectors over it.
use Rattle.std.specs.Prelude.{◌≡◌, ◌<◌, ◌≤◌, ◌+◌, ℕ, Bool, List, Option, Some, length, take, drop, replicate, slice_set}
use Rattle.sector_disk.specs.Lists.{Content, sector, put_sectors}
use Rattle.file_rig.specs.Runs.{Run}

-- all that a contract sees of a place: whether it tells the rest, what reads of it give, and what they gave when it was flushed last
pub record Place : Type 0 where
  pub tells : Bool
  pub held : Content
  pub flushed : Content

-- a sector of zeros
abbrev pub zeros : List ℕ
zeros = replicate 512 0

-- from this sector on all that the place holds is zeros
abbrev pub HoldsZerosFrom : ℕ → Content → Type 0
HoldsZerosFrom from held = (at : ℕ) → from ≤ at → at < length held → sector held at ≡ zeros

-- of the zeros from a known sector on, those from this sector on are left when what lies before `end` is written
abbrev pub AreLeft : Option ℕ → (end left : ℕ) → Type 0
AreLeft known end left = (from : ℕ) × (known ≡ Some from) × (from ≤ left) × (end ≤ left)

-- all that a contract sees of a store: how many sectors it has, whether its place tells what it holds, what reads of the store give, and what is flushed
pub record Store : Type 0 where
  pub sectors : ℕ
  pub tells : Bool
  pub shown : Content
  pub flushed : Content

-- at most these sectors differ
pub record SameOutside (first count : ℕ) (old new : Content) : Type 0 where
  pub size : length new ≡ length old
  pub before : take first new ≡ take first old
  pub behind : drop (first + count) new ≡ drop (first + count) old

-- what reads give where a run was gathered over what the place holds
abbrev pub over : Run → Content → Content
over gathered held = put_sectors held gathered.first gathered.values

-- The gathered run lies in the place, and what was read ahead is what reads give.
pub record AreFresh (held : Content) (gathered ahead : Run) : Type 0 where
  pub within : gathered.first + length gathered.values ≤ length held
  pub fresh : (k : ℕ) → k < length ahead.values → sector ahead.values k ≡ sector (over gathered held) (ahead.first + k)

-- a sector was written, into the place or the gathered run: reads give its value, and all else as before
pub record IsWritten (old : Content) (gathered : Run) (at : ℕ) (value : List ℕ) (new : Content) (after : Run) : Type 0 where
  pub size : length new ≡ length old
  pub within : after.first + length after.values ≤ length new
  pub shown : over after new ≡ slice_set (over gathered old) at value
