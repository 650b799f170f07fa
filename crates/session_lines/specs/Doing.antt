-- Commands of which nothing is told: what one of them does, and what the stages of a line do one after the other.
use Rattle.std.specs.Prelude.{◌≡◌, ◌⊎◌, ℕ, Bool, true, false, List, [], ◌∷◌, Option, Some, None, Ok}
use Rattle.sector_disk.specs.Space.{Space}
use Rattle.jnl_format.specs.Recovery.{Content}
use Rattle.hfs_language.specs.declared.command.Command.{Command}
use Rattle.hfs_language.specs.declared.refusal.Refusal.{Refusal}
use Rattle.hfs_language.specs.declared.reply.Reply.{Reply}
use Rattle.hfs_language.specs.declared.reply.Reply.TheVariants as reply
use Rattle.hfs_volume.specs.TreeOf.{tree_of}
use Rattle.hfs_volume.specs.declared.asked.Asked.{Asked}
use Rattle.hfs_volume.specs.declared.asked.Asked.TheVariants.{Plain}
use Rattle.volume_runs.specs.Run.{Entry, shrunk_in, wanted_by}
use Rattle.hfs_language.specs.Text.{reply_text}
use Rattle.hfs_language.specs.declared.reply.Change.{Change}
use Rattle.hfs_serving.specs.Going.{GoesTidy, Knowing}
use Rattle.hfs_serving.specs.Grounds.{KeepsHeading}
use Rattle.hfs_serving.specs.Outside.{Outside}
use Rattle.hfs_serving.specs.Said.{joined}
use Rattle.hfs_serving.specs.Serving.{Goes, Stops}
use Rattle.hfs_serving.specs.declared.volume.ToTell.{ToTell}
use Rattle.open_files.specs.declared.act.OpenFile.{OpenFile}
use Rattle.session_lines.specs.declared.stages.Stage.{Stage}
use Rattle.session_lines.specs.Following.{Follows}
use Rattle.session_lines.specs.Skipping.{IsSkipped}
use Rattle.session_lines.specs.Stages.{command_at, heard_at}

-- A stretch within a batch, in which what was asked for was done as an entry of a run, and got this reply.
pub record DidOn (capacity : ℕ) (knows : Knowing) (committed now : Content) (shrunk : Option ℕ) (old : Outside) (asked : Asked) (said : Reply) (space : Space) (new : Outside) : Type 0 where
  pub entry : Entry
  pub last : Content
  pub goes : Goes capacity shrunk None committed now old (entry ∷ []) last entry.after space new
  pub heads : KeepsHeading space
  pub known : knows last entry.after (shrunk_in shrunk (entry ∷ []))
  pub wanted_is : wanted_by entry ≡ Some asked
  pub reply_is : entry.reply ≡ said

-- What a line asks for at a stage was done; or nothing was, since it asks for nothing or its command isn't done at all, and all is as it was.
abbrev pub WentOnce : ℕ → Knowing → Content → Content → Option ℕ → Outside → List OpenFile → Stage → Stage → Type 0 → Space → Outside → Type 0
WentOnce capacity knows committed now shrunk old handles from to same space new =
    ((asked : Command) × (said : Reply) × (command_at from ≡ Some asked) × (to ≡ heard_at handles from said) × DidOn capacity knows committed now shrunk old (Plain asked) said space new)
    ⊎ (((to ≡ from) ⊎ ((asked : Command) × (why : Refusal) × (command_at from ≡ Some asked) × IsSkipped why × (to ≡ heard_at handles from (reply.No why)))) × same)

-- A stretch within a batch that leads a line from one stage to another.
pub record WentOn (capacity : ℕ) (knows : Knowing) (committed now : Content) (shrunk : Option ℕ) (old : Outside) (handles : List OpenFile) (from to : Stage) (space : Space) (new : Outside) : Type 0 where
  pub run : List Entry
  pub last : Content
  pub next : Content
  pub goes : Goes capacity shrunk None committed now old run last next space new
  pub heads : KeepsHeading space
  pub known : knows last next (shrunk_in shrunk run)
  pub follows : Follows handles (tree_of now) from run to

-- A fault ended it at some stage.
pub record StopsGoing (capacity : ℕ) (committed now : Content) (shrunk : Option ℕ) (old : Outside) (handles : List OpenFile) (from : Stage) (new : Outside) : Type 0 where
  pub run : List Entry
  pub to : Stage
  pub follows : Follows handles (tree_of now) from run to
  pub stops : Stops capacity shrunk committed now old run new

-- A line's own command was done, and its reply and what it changed are to be told; or it was left, with nothing done for it.
abbrev pub OwnDone : Bool → ℕ → Knowing → Content → Content → Option ℕ → Outside → Asked → ToTell → ToTell → Space → Outside → Type 0
OwnDone true capacity knows committed now shrunk old asked before after space new =
    (said : Reply) × (changes : List Change) × (after ≡ joined before (record { replies = reply_text said; changes = changes })) × DidOn capacity knows committed now shrunk old asked said space new
OwnDone false capacity knows committed now shrunk old asked before after space new = (after ≡ before) × GoesTidy capacity None knows committed now shrunk old space new
