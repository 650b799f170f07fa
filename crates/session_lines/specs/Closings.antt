-- Handles of a session are closed, one after the other.
use Rattle.std.specs.Prelude.{◌≡◌, ℕ, List, [], ◌++◌, Option, Some, None, true}
use Rattle.sector_disk.specs.Space.{Space}
use Rattle.jnl_format.specs.Recovery.{Content}
use Rattle.hfs_model.specs.declared.plain.PlainTree.{PlainTree}
use Rattle.hfs_volume.specs.TreeOf.{tree_of}
use Rattle.volume_runs.specs.Run.{Entry, shrunk_in, tree_after}
use Rattle.hfs_serving.specs.Going.{Knowing}
use Rattle.hfs_serving.specs.Grounds.{KeepsHeading}
use Rattle.hfs_serving.specs.Outside.{Outside}
use Rattle.hfs_serving.specs.Serving.{Goes, Stops}
use Rattle.open_files.specs.declared.act.OpenFile.{OpenFile}
use Rattle.open_files.specs.declared.table.Closed.TheVariants as closed
use Rattle.open_files.specs.Handles.{close_of, first_handle, without_handle}
use Rattle.open_files.specs.Order.{are_in_order}
use Rattle.session_lines.specs.declared.stages.Stage.{Stage}
use Rattle.session_lines.specs.declared.stages.Stage.TheVariants as stage
use Rattle.session_lines.specs.Following.{Follows}
use Rattle.session_lines.specs.Stages.{command_at}

-- A handle is closed on this tree: entries release its file where no other handle names it. The last stage may be any one, or only one that asks for
-- nothing.
pub data IsClosing (session handle : ℕ) (handles : List OpenFile) (tree : PlainTree) : List Entry → Type 0 where
  others_name : ((id : ℕ) → close_of handles session handle ≡ closed.Gone id → ⊥) → IsClosing session handle handles tree []
  none_names : (id : ℕ) (run : List Entry) (to : Stage) → close_of handles session handle ≡ closed.Gone id → command_at to ≡ None → Follows (without_handle session handle handles) tree (stage.Closing id) run to → IsClosing session handle handles tree run

-- Handles of the session are closed, the least one first, on this tree: by these entries, up to that tree and these handles.
pub data AreClosings (session : ℕ) (handles : List OpenFile) (tree : PlainTree) : List Entry → PlainTree → List OpenFile → Type 0 where
  none_closed : AreClosings session handles tree [] tree handles
  one_closed : (run own : List Entry) (mid last : PlainTree) (left : List OpenFile) (handle : ℕ) → AreClosings session handles tree run mid left → are_in_order left ≡ true → first_handle left session ≡ Some handle → IsClosing session handle left mid own
      → ((start : Content) → tree_of start ≡ mid → tree_after start own ≡ last) → AreClosings session handles tree (run ++ own) last (without_handle session handle left)

-- ---- stretches

-- A stretch within a batch in which a handle was closed.
pub record ClosedOne (session handle : ℕ) (handles : List OpenFile) (capacity : ℕ) (knows : Knowing) (committed now : Content) (shrunk : Option ℕ) (old : Outside) (space : Space) (new : Outside) : Type 0 where
  pub run : List Entry
  pub last : Content
  pub next : Content
  pub goes : Goes capacity shrunk None committed now old run last next space new
  pub heads : KeepsHeading space
  pub known : knows last next (shrunk_in shrunk run)
  pub closing : IsClosing session handle handles (tree_of now) run

-- A fault ended it.
pub record StopsOne (session handle : ℕ) (handles : List OpenFile) (capacity : ℕ) (committed now : Content) (shrunk : Option ℕ) (old new : Outside) : Type 0 where
  pub run : List Entry
  pub closing : IsClosing session handle handles (tree_of now) run
  pub stops : Stops capacity shrunk committed now old run new

-- A stretch within a batch in which handles of a session were closed.
pub record ClosedSome (session : ℕ) (handles : List OpenFile) (capacity : ℕ) (knows : Knowing) (committed now : Content) (shrunk : Option ℕ) (old : Outside) (left : List OpenFile) (space : Space) (new : Outside) : Type 0 where
  pub run : List Entry
  pub last : Content
  pub next : Content
  pub goes : Goes capacity shrunk None committed now old run last next space new
  pub heads : KeepsHeading space
  pub known : knows last next (shrunk_in shrunk run)
  pub closings : AreClosings session handles (tree_of now) run (tree_of next) left

-- A fault ended it.
pub record StopsClosings (session : ℕ) (handles : List OpenFile) (capacity : ℕ) (committed now : Content) (shrunk : Option ℕ) (old new : Outside) : Type 0 where
  pub run : List Entry
  pub tree : PlainTree
  pub left : List OpenFile
  pub closings : AreClosings session handles (tree_of now) run tree left
  pub stops : Stops capacity shrunk committed now old run new
