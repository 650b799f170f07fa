-- The commands that a line does ahead of its own.
use Rattle.std.specs.Prelude.{◌≡◌, ◌≤◌, ◌++◌, ℕ, false, List, [], ◌∷◌, length, take}
use Rattle.std.specs.List.{AllByRecursion}
use Rattle.jnl_format.specs.Recovery.{Content}
use Rattle.hfs_language.specs.declared.command.Command.{Command}
use Rattle.hfs_language.specs.declared.refusal.Refusal.{Refusal}
use Rattle.hfs_language.specs.declared.reply.Reply.{Reply}
use Rattle.hfs_language.specs.declared.reply.Reply.TheVariants as reply
use Rattle.hfs_model.specs.Step.{is_refusal}
use Rattle.hfs_model.specs.declared.plain.PlainTree.{PlainTree}
use Rattle.hfs_volume.specs.TreeOf.{tree_of}
use Rattle.volume_runs.specs.Run.{Entry, tree_after}
use Rattle.open_files.specs.Machine.{tree_by}
use Rattle.session_lines.specs.declared.stages.Stage.{Stage}
use Rattle.session_lines.specs.declared.stages.Stage.TheVariants as stage
use Rattle.session_lines.specs.Skipping.{IsSkipped}
use Rattle.session_lines.specs.Made.{AreMade, SeesAs}

-- the tree after these commands, which got these replies
abbrev pub trees_by : PlainTree → List Command → List Reply → PlainTree
trees_by tree [] replies = tree
trees_by tree (asked ∷ more) [] = tree
trees_by tree (asked ∷ more) (got ∷ replies) = trees_by (tree_by tree asked got) more replies

-- none of them is refused
abbrev pub AreDone : List Reply → Type 0
AreDone replies = AllByRecursion (λ got. is_refusal got ≡ false) replies

-- Entries made from a tree on: these commands were asked for, and got these replies. Whatever content has the tree, the last one has this tree, and at
-- none of the entries users see anything else.
pub record IsQuiet (tree : PlainTree) (run : List Entry) (did : List Command) (replies : List Reply) (to : PlainTree) : Type 0 where
  pub made : AreMade run did replies
  pub leads : (start : Content) → tree_of start ≡ tree → tree_after start run ≡ to
  pub unseen : (start : Content) → tree_of start ≡ tree → (count : ℕ) → count ≤ length run → SeesAs start (take count run) tree

-- What the commands ahead come to, of which these are asked for: all of them are done, and the line's own comes next; or one of them is refused, and
-- that is what the line is told.
pub data Ahead (tree : PlainTree) (run : List Entry) : List Command → Stage → Type 0 where
  all_done : (asked : List Command) (replies : List Reply) → AreDone replies → IsQuiet tree run asked replies (trees_by tree asked replies) → Ahead tree run asked stage.Does
  one_refused : (asked rest : List Command) (replies : List Reply) (last : Command) (why : Refusal) → AreDone replies → IsQuiet tree run (asked ++ last ∷ []) (replies ++ reply.No why ∷ []) (trees_by tree asked replies)
      → Ahead tree run (asked ++ last ∷ rest) (stage.Says (reply.No why))

-- A look isn't done: the line is told why, and nothing else is done for it.
pub record NotLooked (tree : PlainTree) (run : List Entry) (to : Stage) : Type 0 where
  pub why : Refusal
  pub skipped : IsSkipped why
  pub says : to ≡ stage.Says (reply.No why)
  pub quiet : IsQuiet tree run [] [] tree
