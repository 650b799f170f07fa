-- The entries of a line, and what users see of a tree behind some of them.
use Rattle.std.specs.Prelude.{◌≡◌, List, [], ◌∷◌, Ok, IsTrue}
use Rattle.jnl_format.specs.Recovery.{Content}
use Rattle.hfs_language.specs.declared.command.Command.{Command}
use Rattle.hfs_language.specs.declared.refusal.Refusal.{Refusal}
use Rattle.hfs_language.specs.declared.reply.Reply.{Reply}
use Rattle.hfs_language.specs.declared.reply.Reply.TheVariants as reply
use Rattle.hfs_model.specs.Step.{only_reads}
use Rattle.hfs_model.specs.declared.plain.PlainTree.{PlainTree}
use Rattle.volume_runs.specs.Run.{Entry, asked_by, tree_after}
use Rattle.open_files.specs.Keeping.{seen}
use Rattle.session_lines.specs.Skipping.{IsSkipped}

-- Entries of a line: these commands were asked for, and got these replies. Between them are looks, which read and of which nothing is told. For a
-- command that isn't done at all there is no entry.
pub data AreMade : List Entry → List Command → List Reply → Type 0 where
  none_made : AreMade [] [] []
  look_made : (entry : Entry) (asked : Command) (own : List Entry) (did : List Command) (replies : List Reply) → asked_by entry ≡ Ok asked → IsTrue (only_reads asked) → AreMade own did replies → AreMade (entry ∷ own) did replies
  one_made : (entry : Entry) (asked : Command) (own : List Entry) (did : List Command) (replies : List Reply) → asked_by entry ≡ Ok asked → AreMade own did replies → AreMade (entry ∷ own) (asked ∷ did) (entry.reply ∷ replies)
  none_skipped : (why : Refusal) (asked : Command) (own : List Entry) (did : List Command) (replies : List Reply) → IsSkipped why → AreMade own did replies → AreMade own (asked ∷ did) (reply.No why ∷ replies)

-- what users see of the tree of a content after a run
abbrev pub SeesAs : Content → List Entry → PlainTree → Type 0
SeesAs start run tree = seen (tree_after start run) ≡ seen tree
