-- What a command on a volume in service came to, that stands by itself or that a line spells.
use Rattle.std.specs.Prelude.{◌≡◌, ◌⊎◌, ℕ, Bool, true, false, List, [], Option, if◌then◌else◌, None, Some}
use Rattle.jnl_format.specs.Recovery.{Content}
use Rattle.hfs_language.specs.declared.refusal.Refusal.{Refusal}
use Rattle.hfs_language.specs.declared.refusal.Refusal.TheVariants as refusal
use Rattle.hfs_language.specs.declared.reply.Reply.TheVariants as reply
use Rattle.hfs_volume.specs.declared.asked.Asked.{Asked}
use Rattle.hfs_volume.specs.declared.asked.Asked.TheVariants.{Kind, Plain}
use Rattle.volume_runs.specs.Kinds.{GoesFirst}
use Rattle.volume_runs.specs.Run.{IsAnswered, LacksResource, asked_in, is_ok, or_before, shrunk_by, wanted_in}
use Rattle.hfs_volume.specs.TreeOf.{tree_of}
use Rattle.hfs_serving.specs.declared.volume.Performed.{Performed}
use Rattle.hfs_serving.specs.declared.volume.Performed.TheVariants as performed
use Rattle.volume_step.specs.Steps.{CutsFirst, FillsFirst, GrowsFirst, IsServedAs}
use Rattle.volume_step.specs.declared.outcome.Outcome.{Outcome}
use Rattle.volume_step.specs.declared.outcome.Outcome.TheVariants as outcome

-- what went ahead of a command: blocks past the size of the fork that it puts data into were cut, the first of the trees that have to grow has grown, or
-- blocks that it will take were filled
abbrev pub GoesAhead : ℕ → Asked → Content → Content → Type 0
GoesAhead capacity (Plain asked) before after = CutsFirst capacity asked before after ⊎ (GrowsFirst capacity asked before after ⊎ FillsFirst capacity asked before after)
GoesAhead capacity (Kind asked) before after = GoesFirst capacity asked before after

-- This went ahead of a command that stands by itself, or that the line spells.
pub record GoesForLine (capacity : ℕ) (own : Option Asked) (line : List ℕ) (before after : Content) : Type 0 where
  pub asked : Asked
  pub wanted : wanted_in own line ≡ Some asked
  pub goes : GoesAhead capacity asked before after

-- its entry is one of a run, and this is what it tells watchers; or nothing was changed; or a cut, the growth of a tree or zero blocks went ahead of its command
abbrev pub AnswersAs : Outcome → ℕ → ℕ → Option Asked → List ℕ → Content → Content → Type 0
AnswersAs (outcome.Answered said changes) capacity number own line before after = IsServedAs capacity number changes (record { line = line; own = own; reply = said; before = before; after = after })
AnswersAs outcome.CommitFirst capacity number own line before after = after ≡ before
AnswersAs outcome.Again capacity number own line before after = GoesForLine capacity own line before after

-- A line is answered as its command's step, or a resource is missing for it: a commit isn't wanted, and memory isn't missing. Or it is tried again.
abbrev pub IsDecidedAs : Outcome → ℕ → List ℕ → Content → Content → Type 0
IsDecidedAs (outcome.Answered said changes) capacity line before after =
    IsAnswered capacity (record { line = line; own = None; reply = said; before = before; after = after }) ⊎ LacksResource capacity (record { line = line; own = None; reply = said; before = before; after = after })
IsDecidedAs outcome.CommitFirst capacity line before after = ⊥
IsDecidedAs outcome.Again capacity line before after = Unit {0}

-- the line is decided, or a commit is wanted before it
abbrev pub IsDecidedOrWaits : Outcome → ℕ → List ℕ → Content → Content → Type 0
IsDecidedOrWaits outcome.CommitFirst capacity line before after = Unit {0}
IsDecidedOrWaits it capacity line before after = IsDecidedAs it capacity line before after

-- the file that was shrunk last, behind a command: the one that it shrank, where it was done and shrank one
abbrev pub ShrinksBy : Outcome → Option Asked → List ℕ → Content → Option ℕ → Option ℕ → Type 0
ShrinksBy (outcome.Answered said changes) own line before old new = new ≡ (if is_ok said then or_before (shrunk_by (tree_of before) (asked_in own line)) old else old)
ShrinksBy outcome.CommitFirst own line before old new = new ≡ old
ShrinksBy outcome.Again own line before old new = new ≡ old

-- a refusal
abbrev pub refused : Refusal → Outcome
refused why = outcome.Answered (reply.No why) []

-- what a step came to; where it wants a commit, though nothing was put since the last one, memory is missing
abbrev pub unless_short : Bool → Outcome → Outcome
unless_short true outcome.CommitFirst = refused refusal.OutOfMemory
unless_short false outcome.CommitFirst = outcome.CommitFirst
unless_short fresh (outcome.Answered said changes) = outcome.Answered said changes
unless_short fresh outcome.Again = outcome.Again

-- what a step came to, as a server sees it
abbrev pub performed_of : Outcome → Performed
performed_of (outcome.Answered said changes) = performed.Done said changes
performed_of outcome.CommitFirst = performed.CommitFirst
performed_of outcome.Again = performed.Again
