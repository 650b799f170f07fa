-- How entries of a run lead a line from one stage to another.
use Rattle.std.specs.Prelude.{◌≡◌, ℕ, List, [], ◌∷◌, Some, Ok}
use Rattle.hfs_language.specs.declared.command.Command.{Command}
use Rattle.hfs_language.specs.declared.refusal.Refusal.{Refusal}
use Rattle.hfs_language.specs.declared.reply.Reply.TheVariants as reply
use Rattle.hfs_model.specs.declared.plain.PlainTree.{PlainTree}
use Rattle.hfs_volume.specs.TreeOf.{tree_of}
use Rattle.volume_runs.specs.Run.{Entry, IsServed, asked_by}
use Rattle.open_files.specs.declared.act.OpenFile.{OpenFile}
use Rattle.session_lines.specs.declared.stages.Stage.{Stage}
use Rattle.session_lines.specs.Skipping.{IsSkipped}
use Rattle.session_lines.specs.Stages.{command_at, heard_at}

-- From this tree and stage, where these handles are open, entries lead to that stage: each is the command that its stage asks for. Where memory is
-- missing for such a command, there is no entry for it.
pub data Follows (handles : List OpenFile) : PlainTree → Stage → List Entry → Stage → Type 0 where
  stays : (tree : PlainTree) (stage : Stage) → Follows handles tree stage [] stage
  does : (tree : PlainTree) (stage : Stage) (entry : Entry) (run : List Entry) (to : Stage) (capacity : ℕ) (asked : Command) → command_at stage ≡ Some asked → asked_by entry ≡ Ok asked → tree_of entry.before ≡ tree → IsServed capacity entry
      → Follows handles (tree_of entry.after) (heard_at handles stage entry.reply) run to → Follows handles tree stage (entry ∷ run) to
  skips : (tree : PlainTree) (stage : Stage) (run : List Entry) (to : Stage) (asked : Command) (why : Refusal) → command_at stage ≡ Some asked → IsSkipped why → Follows handles tree (heard_at handles stage (reply.No why)) run to → Follows handles tree stage run to
