-- The commits of a batch, by the barriers that the disk passes: four at most in each.
use Rattle.std.specs.Prelude.{◌≡◌, ◌⊎◌, ◌<◌, ◌≤◌, ◌+◌, ◌*◌, ◌++◌, ◌∷◌, [], ℕ, List, Contains, Option, Some, length, take}
use Rattle.sector_disk.specs.Disk.{State}
use Rattle.sector_disk.specs.Space.{Space}
use Rattle.jnl_store.specs.Spaces.{over}
use Rattle.jnl_store.specs.declared.store.Store.{Store}
use Rattle.hfs_volume.specs.declared.asked.Asked.{Asked}
use Rattle.hfs_serving.specs.declared.volume.Step.{Step}
use Rattle.hfs_serving.specs.declared.volume.Step.TheVariants as step

-- which volumes want a commit over a space before their next step: before one of this command, or of housekeeping where there is none
abbrev pub Wanting : Type 0 → Type 1
Wanting V = V → Space → Option Asked → Type 0

-- ---- what a commit is made for

-- Once the disk had passed so many barriers, a volume wanted a commit before its next step: before one of this command, or of housekeeping where
-- there is none.
pub record WantsAt {V G : Type 0} (wants : Wanting V) (space_of : G → Space) (asked : Option Asked) (passed : ℕ) : Type 0 where
  pub volume : V
  pub base : G
  pub behind : (space_of base).barriers ≡ passed
  pub wanted : wants volume (space_of base) asked

-- the same of housekeeping or of any command
abbrev pub SomeWantsAt : {V G : Type 0} → Wanting V → (G → Space) → ℕ → Type 0
SomeWantsAt wants space_of passed = (asked : Option Asked) × WantsAt wants space_of asked passed

-- The same over a journal's store and its rig.
pub record WantsOver {V R : Type 0} (wants : Wanting V) (state_of : R → State) (passed : ℕ) : Type 0 where
  pub asked : Option Asked
  pub volume : V
  pub store : Store
  pub rig : R
  pub store_name : ℕ
  pub rig_name : ℕ
  pub behind : (state_of rig).barriers ≡ passed
  pub wanted : wants volume (over store_name rig_name store (state_of rig)) asked

-- The barrier with this number, from 0, is one of a commit that began as this says, once the disk had passed so many.
pub record IsOfCommit (began : ℕ → Type 0) (barrier : ℕ) : Type 0 where
  pub passed : ℕ
  pub begun : began passed
  pub least : passed ≤ barrier
  pub most : barrier < passed + 4

-- Between two moments, at which the disk had passed so many barriers, each commit has its cause: a step wanted it, or memory was missing for a step, which
-- was so at most so often.
pub record HaveCauses (wanted : ℕ → Type 0) (often : ℕ) (old new : ℕ) : Type 0 where
  -- the barriers that the disk had passed each time that memory was missing
  pub short : List ℕ
  pub few : length short ≤ often
  pub each : (barrier : ℕ) → old ≤ barrier → barrier < new → IsOfCommit wanted barrier ⊎ IsOfCommit (Contains short) barrier

-- how many barriers a try of a command passes, at most: those of one commit where memory was missing for it
abbrev pub barriers_of : Step → ℕ
barriers_of step.Answered = 0
barriers_of step.Again = 0
barriers_of step.CommitFirst = 0
barriers_of step.Forgone = 4

-- ---- the commits of a batch

-- A batch that served so many lines made one commit, at its end, and before that only commits with a cause. Memory is missing at most so often for each
-- line that it tried and for its begin, and eight times for housekeeping at its end.
pub record CommitsOnce (wanted : ℕ → Type 0) (often count : ℕ) (old new : ℕ) : Type 0 where
  -- the barriers that the disk had passed when its last commit began
  pub ending : ℕ
  pub before : HaveCauses wanted (often * (count + 2) + 8) old ending
  pub last : new ≤ ending + 4

-- A fault cut a batch short behind some of so many lines: it made the commits of one that served these, at most.
abbrev pub IsCutShort : (ℕ → Type 0) → ℕ → ℕ → ℕ → ℕ → Type 0
IsCutShort wanted often most old new = (count : ℕ) × (count ≤ most) × CommitsOnce wanted often count old new

-- Lines, so many, were served in batches: so many at most of no line, and others of at least one. Each commit is that at a batch's end, or has its cause.
pub record CommitsABatch (wanted : ℕ → Type 0) (often empty lines : ℕ) (old new : ℕ) : Type 0 where
  -- the barriers that the disk had passed when the last commit of each batch began
  pub ends : List ℕ
  pub few_ends : length ends ≤ lines + empty
  -- and each time that memory was missing
  pub short : List ℕ
  pub few_short : length short ≤ often * (lines + 2 * length ends) + 8 * length ends
  pub each : (barrier : ℕ) → old ≤ barrier → barrier < new → IsOfCommit wanted barrier ⊎ IsOfCommit (Contains short) barrier ⊎ IsOfCommit (Contains ends) barrier

-- A run of so many lines, and so many batches at most of no line: ahead of its batches the disk passed so many barriers at most, and behind them six, where the mark of its end is committed and
-- the journal emptied.
pub record CommitsRun (wanted : ℕ → Type 0) (often ahead empty lines : ℕ) (old new : ℕ) : Type 0 where
  pub begun : ℕ
  pub first : begun ≤ old + ahead
  pub ended : ℕ
  pub batches : CommitsABatch wanted often empty lines begun ended
  pub last : new ≤ ended + 6

-- ---- why a batch has no more lines

-- The last of so many first lines asks that all be made durable.
pub record EndsInSync (ends : List ℕ → Type 0) (count : ℕ) (lines : List (List ℕ)) : Type 0 where
  pub front : ℕ
  pub count_is : count ≡ front + 1
  pub line : List ℕ
  pub last : take count lines ≡ take front lines ++ line ∷ []
  pub asked : ends line

-- what a line asks for
abbrev pub Asking : Type 1
Asking = List ℕ → Asked → Type 0

-- A line was left: a volume wanted a commit before its command, for which nothing was done yet.
pub record IsLeft {V G : Type 0} (asks : Asking) (wants : Wanting V) (space_of : G → Space) (line : List ℕ) : Type 0 where
  pub asked : Asked
  pub is_of : asks line asked
  pub passed : ℕ
  pub wanted : WantsAt wants space_of (Some asked) passed

-- Behind so many first lines, of which there is one at least, comes one that was left.
pub record LeavesNext {V G : Type 0} (asks : Asking) (wants : Wanting V) (space_of : G → Space) (count : ℕ) (lines : List (List ℕ)) : Type 0 where
  pub some : 0 < count
  pub line : List ℕ
  pub next : take (count + 1) lines ≡ take count lines ++ line ∷ []
  pub left : IsLeft asks wants space_of line

-- why a batch serves no more of these lines than so many first ones: there are no more, it has its most, its last asks that all be made durable, or the
-- next one wants a commit first
abbrev pub HasEnded : {V G : Type 0} → (List ℕ → Type 0) → Asking → Wanting V → (G → Space) → ℕ → List (List ℕ) → Type 0
HasEnded ends asks wants space_of count lines = (count ≡ length lines) ⊎ (count ≡ 32) ⊎ EndsInSync ends count lines ⊎ LeavesNext asks wants space_of count lines
