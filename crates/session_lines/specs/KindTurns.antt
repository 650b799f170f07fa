-- Lines on symbolic links and resource forks: what each comes to on the machine of sessions.
use Rattle.std.specs.Prelude.{◌≡◌, ◌⊎◌, ◌≤◌, ℕ, List, [], ◌∷◌, length, take, Option, Some, None, Result, Ok, Err, if◌then◌else◌}
use Rattle.jnl_format.specs.Recovery.{Content}
use Rattle.hfs_language.specs.declared.refusal.Refusal.{Refusal}
use Rattle.hfs_language.specs.declared.refusal.Refusal.TheVariants as refusal
use Rattle.hfs_language.specs.declared.reply.Reply.{Reply}
use Rattle.hfs_language.specs.declared.reply.Reply.TheVariants as reply
use Rattle.hfs_model.specs.declared.kinds.KindEdit.{KindEdit}
use Rattle.hfs_model.specs.declared.plain.PlainTree.{PlainTree}
use Rattle.hfs_model.specs.Kinds.{kind_told, path_of_edit}
use Rattle.hfs_model.specs.Step.{is_refusal}
use Rattle.hfs_volume.specs.declared.asked.Asked.TheVariants.{Kind}
use Rattle.volume_runs.specs.Run.{Entry, tree_after, wanted_by}
use Rattle.hfs_serving.specs.Looks.{link_read}
use Rattle.link_kinds.specs.declared.kinds.KindCommand.{KindCommand}
use Rattle.link_kinds.specs.declared.kinds.KindCommand.TheVariants as command
use Rattle.link_kinds.specs.declared.kinds.KindLine.{KindLine}
use Rattle.link_kinds.specs.declared.kinds.KindRefusal.{KindRefusal}
use Rattle.link_kinds.specs.declared.kinds.KindRefusal.TheVariants as unfollowed
use Rattle.link_kinds.specs.Lines.{kind_line_of}
use Rattle.link_kinds.specs.Resolves.{resolves}
use Rattle.open_files.specs.declared.act.SessionReply.{SessionReply}
use Rattle.open_files.specs.declared.act.SessionReply.TheVariants as told
use Rattle.open_files.specs.Keeping.{is_keeping_path}
use Rattle.open_files.specs.Machine.{Machine, Turn, short_turn}
use Rattle.session_lines.specs.Made.{SeesAs}
use Rattle.session_lines.specs.declared.errands.Look.{Look}
use Rattle.session_lines.specs.declared.errands.Look.TheVariants as look

-- ---- links that are read and followed

-- why a path isn't followed to its end
abbrev pub unfollowed_says : KindRefusal → SessionReply
unfollowed_says unfollowed.NotFound = told.Plain (reply.No refusal.NotFound)
unfollowed_says unfollowed.NotFolder = told.Plain (reply.No refusal.NotFolder)
unfollowed_says (unfollowed.TooManySteps most) = told.TooManySteps most
unfollowed_says unfollowed.BadTarget = told.Plain (reply.No refusal.BadTarget)
unfollowed_says unfollowed.NotLink = told.NotLink

-- where a path leads that follows links
abbrev pub followed_says : Result (List (List ℕ)) KindRefusal → SessionReply
followed_says (Ok path) = told.Followed path
followed_says (Err why) = unfollowed_says why

-- the target of a link, or why there is none
abbrev pub target_says : Result (Option (List ℕ)) Refusal → SessionReply
target_says (Ok (Some target)) = told.Plain (reply.Content target)
target_says (Ok None) = told.NotLink
target_says (Err why) = told.Plain (reply.No why)

-- what looks at links and paths tell on a tree
abbrev pub look_says : PlainTree → Look → SessionReply
look_says tree (look.Target path) = target_says (link_read tree path)
look_says tree (look.Follow path) = followed_says (resolves tree path)

-- What `readlink` tells of a path on a tree. What the keeping folder holds counts as absent, as the volume's own names do.
abbrev pub readlink_says : PlainTree → List (List ℕ) → SessionReply
readlink_says tree path = if is_keeping_path path then told.Plain (reply.No refusal.NotFound) else look_says tree (look.Target path)

-- ---- what lines come to

-- What a line comes to on a tree: a command that makes a link, or writes or reads a resource fork; or it is only told something.
pub data KindPlan : Type 0 where
  edits : KindEdit → KindPlan
  says : SessionReply → KindPlan

-- no such command speaks of the keeping folder
abbrev pub plan_kind : PlainTree → KindCommand → KindPlan
plan_kind tree (command.Edit asked) = if is_keeping_path (path_of_edit asked) then says (told.Plain (reply.No refusal.Private)) else edits asked
plan_kind tree (command.Readlink path) = says (readlink_says tree path)
plan_kind tree (command.Follow path) = says (look_says tree (look.Follow path))

-- the same, by what a line asks for
abbrev pub plan_of_kind : PlainTree → Result KindLine Refusal → KindPlan
plan_of_kind tree (Ok asks) = plan_kind tree asks.command
plan_of_kind tree (Err why) = says (told.Plain (reply.No why))

-- the line is told this, and nothing else comes of it
abbrev pub told_turn : Machine → SessionReply → Turn
told_turn machine said = record { did = []; says = said; next = machine }

-- the tree after a command that got this reply; one that is refused, by its step or for want of a resource, keeps the tree
abbrev pub kind_tree_by : PlainTree → KindEdit → Reply → PlainTree
kind_tree_by tree asked got = if is_refusal got then tree else (kind_told tree asked).1

-- the line is told its command's reply
abbrev pub edit_turn : Machine → KindEdit → Reply → Turn
edit_turn machine asked got = record { did = []; says = told.Plain got; next = record { tree = kind_tree_by machine.tree asked got; handles = machine.handles } }

-- a plan was carried out by these entries: by one of its command, or by none
abbrev pub DoesKind : Machine → KindPlan → List Entry → Turn → Type 0
DoesKind machine (edits asked) own turn = (entry : Entry) × (own ≡ entry ∷ []) × (wanted_by entry ≡ Some (Kind asked)) × (turn ≡ edit_turn machine asked entry.reply)
DoesKind machine (says said) own turn = (own ≡ []) × (turn ≡ told_turn machine said)

-- it was, or memory was missing for it and nothing was done
abbrev pub IsKindTurnOf : Machine → List ℕ → List Entry → Turn → Type 0
IsKindTurnOf machine line own turn = DoesKind machine (plan_of_kind machine.tree (kind_line_of line)) own turn ⊎ ((own ≡ []) × (turn ≡ short_turn machine))

-- A line on a link or a resource fork was served from a content: these entries were made for it, one at most, and lead to its next tree.
pub record IsKindTurn (start : Content) (machine : Machine) (line : List ℕ) (own : List Entry) (turn : Turn) : Type 0 where
  pub is : IsKindTurnOf machine line own turn
  pub tree : tree_after start own ≡ turn.next.tree
  pub between : (count : ℕ) → count ≤ length own → SeesAs start (take count own) machine.tree ⊎ SeesAs start (take count own) turn.next.tree
