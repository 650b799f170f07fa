-- What watchers heard of a run.
use Rattle.std.specs.Prelude.{◌≡◌, ◌++◌, ℕ, List, take}
use Rattle.sector_disk.specs.Disk.{State}
use Rattle.sector_disk.specs.Source.{Stream}
use Rattle.jnl_format.specs.Recovery.{Content}
use Rattle.hfs_language.specs.declared.reply.Change.{Change}
use Rattle.volume_runs.specs.Run.{Entry, replies_of}
use Rattle.volume_runs.specs.Told.{changes_in}
use Rattle.hfs_serving.specs.Ending.{AnswersRig, AnswersRun, AnswersToTheLast, FinishesRun}
use Rattle.hfs_serving.specs.Runs.{IsPrefix}
use Rattle.hfs_serving.specs.Steps.{KeepsRun}

-- Of a run whose first line has this number these are the changes of the first `known` entries, in order, each once. What was told since `before`
-- are replies of these entries, the last maybe in part: no reply is told before its changes.
pub record HeardOf (number : ℕ) (heard : List Change) (run : List Entry) (known : ℕ) (before told : List ℕ) : Type 0 where
  pub changes : changes_in number (take known run) ≡ heard
  pub behind : (w : List ℕ) × IsPrefix w (replies_of (take known run)) × (told ≡ before ++ w)

-- A run keeps its promises, and of the same run watchers heard these changes, those of its first `known` entries, and no reply was told before
-- its changes. These entries are on each image that a crash leaves at the end.
abbrev pub KeepsHeard : List Change → ℕ → Content → State → Stream → State → Stream → Type 0
KeepsHeard heard capacity start old source new source_new = (kept : KeepsRun capacity start old source new source_new) × HeardOf 0 heard kept.run kept.known old.told new.told

-- each line that was taken was answered, and these are the changes of all of them
abbrev pub AnswersRigHeard : List Change → ℕ → Content → State → Stream → List (List ℕ) → State → Stream → Type 0
AnswersRigHeard heard capacity start old source texts new source_new = (rig : AnswersRig capacity start old source texts new source_new) × (changes_in 0 rig.run ≡ heard)

-- A run that came to its end: watchers heard the changes of all lines of the source.
abbrev pub FinishesHeard : List Change → ℕ → Content → State → Stream → State → Stream → Type 0
FinishesHeard heard capacity start old source new source_new = (finishes : FinishesRun capacity start old source new source_new) × (changes_in 0 finishes.run ≡ heard)

-- A run that its source ended by a fault: watchers heard the changes of each whole line that was taken.
abbrev pub StopsHeard : List Change → ℕ → Content → State → Stream → State → Stream → Type 0
StopsHeard heard capacity start old source new source_new = (answers : AnswersRun capacity start old source new source_new) × (changes_in 0 answers.run ≡ heard)

-- A run that ended at line number 4,294,967,295: watchers heard the changes of each line before that one.
abbrev pub LastHeard : List Change → ℕ → Content → State → Stream → State → Stream → Type 0
LastHeard heard capacity start old source new source_new = (answers : AnswersToTheLast capacity start old source new source_new) × (changes_in 0 answers.run ≡ heard)
