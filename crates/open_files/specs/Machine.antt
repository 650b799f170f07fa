-- The machine of sessions: a plain tree, the files that are open, and what each line does to them.
use Rattle.std.specs.Prelude.{ℕ, ◌==◌, ◌&&◌, ◌||◌, nat_lt, Bool, not, List, [], ◌∷◌, take, drop, Option, Some, None, Result, Ok, Err, if◌then◌else◌}
use Rattle.std.specs.List.{list_any}
use Rattle.hfs_language.specs.declared.command.Command.{Command}
use Rattle.hfs_language.specs.declared.command.Command.TheVariants as command
use Rattle.hfs_language.specs.declared.refusal.Refusal.{Refusal}
use Rattle.hfs_language.specs.declared.refusal.Refusal.TheVariants as refusal
use Rattle.hfs_language.specs.declared.reply.Reply.{Reply}
use Rattle.hfs_language.specs.declared.reply.Reply.TheVariants as reply
use Rattle.hfs_model.specs.declared.plain.PlainEntry.{PlainEntry}
use Rattle.hfs_model.specs.declared.plain.PlainNode.{PlainNode}
use Rattle.hfs_model.specs.declared.plain.PlainTree.{PlainTree}
use Rattle.hfs_model.specs.Plain.{names_of, node_at}
use Rattle.hfs_model.specs.Step.{is_private_path, is_refusal, most_bytes, reached, refuses, step_line, then_, to_mv, to_node, unless}
use Rattle.open_files.specs.declared.act.Act.{Act}
use Rattle.open_files.specs.declared.act.Act.TheVariants as act
use Rattle.open_files.specs.declared.act.OpenFile.{OpenFile}
use Rattle.open_files.specs.declared.act.SessionReply.{SessionReply}
use Rattle.open_files.specs.declared.act.SessionReply.TheVariants as told
use Rattle.open_files.specs.Handles.{file_of, files_of, free_handle, is_held, with_handle, without_handle, without_session}
use Rattle.open_files.specs.Keeping.{is_keeping_path, is_kept, names_keeping, release, saves, seen_names, shown_tree}
use Rattle.open_files.specs.declared.act.SessionLine.{SessionLine}

-- A tree, and which files are open.
pub record Machine : Type 0 where
  pub tree : PlainTree
  pub handles : List OpenFile

-- What a line does: commands of which none is told are done ahead of its own, then its own, if it has one, and others behind it. It is told the
-- reply to its own command, or else this. These are the handles after it.
pub record Plan : Type 0 where
  pub ahead : List Command
  pub own : Option Command
  pub says : SessionReply
  pub handles : List OpenFile
  pub behind : List Command

-- it does nothing on the volume, and is told this
abbrev pub only_says : List OpenFile → SessionReply → Plan
only_says handles says = record { ahead = []; own = None; says = says; handles = handles; behind = [] }

-- a line that does nothing and is told why
abbrev pub refused : List OpenFile → Refusal → Plan
refused handles why = only_says handles (told.Plain (reply.No why))

-- ---- a plain command

-- A name that a command takes away from a file: its path, and the file's id.
pub record Taken : Type 0 where
  pub path : List (List ℕ)
  pub id : ℕ

-- the name of what a path reaches, if that is a file
abbrev pub taken_entry : List (List ℕ) → Result PlainEntry Refusal → Option Taken
taken_entry path (Ok entry) = if entry.folder then None else Some (record { path = path; id = entry.id })
taken_entry path (Err why) = None

-- what stands at the goal of a move, unless it is what is moved
abbrev pub replaced : ℕ → Option PlainEntry → Result PlainEntry Refusal
replaced moved None = Err refusal.NotFound
replaced moved (Some entry) = if entry.id == moved then Err refusal.NotFound else Ok entry

-- The name that a command takes away from a file, if it takes one: that of `rm`, or the one that `mv` gives to another.
abbrev pub taken_by : PlainTree → Command → Option Taken
taken_by tree (command.Rm path) = taken_entry path (reached tree path)
taken_by tree (command.Mv from to) = taken_entry to (then_ (to_mv tree from to) (λ pair. replaced pair.0.id pair.1.found))
taken_by tree _ = None

-- the last seen name of a file that is open
abbrev pub is_last_of_open : Machine → Taken → Bool
is_last_of_open machine taken = (seen_names machine.tree taken.id == 1) && is_held machine.handles taken.id

-- what saves the file whose name is taken, where it is the last seen one of a file that is open
abbrev pub saves_taken : Machine → Option Taken → List Command
saves_taken machine None = []
saves_taken machine (Some taken) = if is_last_of_open machine taken then saves machine.tree taken.path taken.id else []

-- what a command wants to be done ahead of it
abbrev pub saves_for : Machine → Command → List Command
saves_for machine asked = if refuses machine.tree (Ok asked) then [] else saves_taken machine (taken_by machine.tree asked)

-- what a command of the plain language does: the saves ahead of it and the command, unless it names the keeping folder
abbrev pub plan_plain : Machine → Command → Plan
plan_plain machine asked = if names_keeping asked then refused machine.handles refusal.Private
    else record { ahead = saves_for machine asked; own = Some asked; says = told.Plain reply.Ok; handles = machine.handles; behind = [] }

-- ---- handles

-- the file that a path names, or why it can't be opened
abbrev pub to_open : PlainTree → List (List ℕ) → Result PlainNode Refusal
to_open tree path = if is_private_path path then Err refusal.Private
    else if is_keeping_path path then Err refusal.Private
    else then_ (to_node tree path) (λ node. unless node.folder refusal.IsFolder node)

-- the file is open under this handle, unless the session has as many as it may have
abbrev pub open_at : Machine → ℕ → ℕ → Option ℕ → Plan
open_at machine session id None = only_says machine.handles told.TooManyOpen
open_at machine session id (Some handle) = only_says (with_handle (record { session = session; handle = handle; file = id }) machine.handles) (told.Opened handle)

-- what `open` does, by the file that its path names
abbrev pub plan_open : Machine → ℕ → Result PlainNode Refusal → Plan
plan_open machine session (Err why) = refused machine.handles why
plan_open machine session (Ok file) = open_at machine session file.id (free_handle machine.handles session)

-- the bytes of a file
abbrev pub bytes_of : Option PlainNode → List ℕ
bytes_of None = []
bytes_of (Some file) = file.bytes

-- what `hread` does, by the file of its handle
abbrev pub plan_read : Machine → ℕ → ℕ → ℕ → Option ℕ → Plan
plan_read machine handle from long None = only_says machine.handles (told.NoHandle handle)
plan_read machine handle from long (Some id) = if nat_lt most_bytes long then refused machine.handles refusal.TooLarge
    else only_says machine.handles (told.Plain (reply.Content (take long (drop from (bytes_of (node_at machine.tree id))))))

-- What releases these files: of each that no handle names any more, and that is kept and has no other entry. One that comes again is released with
-- its last handle.
abbrev pub releases_of : PlainTree → List OpenFile → List ℕ → List Command
releases_of tree handles [] = []
releases_of tree handles (id ∷ ids) = if not (is_held handles id || list_any (λ later. later == id) ids) && (is_kept tree id && (names_of tree id == 1))
    then release id ∷ releases_of tree handles ids
    else releases_of tree handles ids

-- handles are closed: these are left, and these were the files of the others
abbrev pub closes : Machine → List OpenFile → List ℕ → Plan
closes machine left files = record { ahead = []; own = None; says = told.Plain reply.Ok; handles = left; behind = releases_of machine.tree left files }

-- what `close` does, by the file of its handle
abbrev pub plan_close : Machine → ℕ → ℕ → Option ℕ → Plan
plan_close machine session handle None = only_says machine.handles (told.NoHandle handle)
plan_close machine session handle (Some id) = closes machine (without_handle session handle machine.handles) (id ∷ [])

-- ---- a line

-- what a session's line does
abbrev pub plan_act : Machine → ℕ → Act → Plan
plan_act machine session (act.Plain asked) = plan_plain machine asked
plan_act machine session (act.Open path) = plan_open machine session (to_open machine.tree path)
plan_act machine session (act.HandleRead handle from long) = plan_read machine handle from long (file_of machine.handles session handle)
plan_act machine session (act.Close handle) = plan_close machine session handle (file_of machine.handles session handle)
plan_act machine session act.End = closes machine (without_session session machine.handles) (files_of session machine.handles)

-- what a line does, by what it asks for
abbrev pub plan_of : Machine → Result SessionLine Refusal → Plan
plan_of machine (Ok asks) = plan_act machine asks.session asks.act
plan_of machine (Err why) = refused machine.handles why

-- ---- done

-- What came of a line: the commands that were done for it, in order, what it is told, and the machine after it.
pub record Turn : Type 0 where
  pub did : List Command
  pub says : SessionReply
  pub next : Machine

-- the tree after a command that got this reply; one that is refused, by its step or for want of a resource, keeps the tree
abbrev pub tree_by : PlainTree → Command → Reply → PlainTree
tree_by tree asked got = if is_refusal got then tree else (step_line tree (Ok asked)).1

-- listings and counts leave out the keeping folder and its entries
abbrev pub shows : PlainTree → Command → Reply → Reply
shows tree (command.Ls path) got = if is_refusal got then got else (step_line (shown_tree tree) (Ok (command.Ls path))).0
shows tree (command.Stat path) got = if is_refusal got then got else (step_line (shown_tree tree) (Ok (command.Stat path))).0
shows tree asked got = got

-- with one command more in front
abbrev pub did_first : Command → Turn → Turn
did_first asked turn = record turn { did = asked ∷ turn.did }

-- The commands behind a line are done one after the other, whatever their replies.
abbrev pub do_behind : SessionReply → List OpenFile → List Command → PlainTree → List Reply → Turn
do_behind says handles [] tree replies = record { did = []; says = says; next = record { tree = tree; handles = handles } }
do_behind says handles (asked ∷ rest) tree [] = record { did = asked ∷ rest; says = says; next = record { tree = tree; handles = handles } }
do_behind says handles (asked ∷ rest) tree (got ∷ replies) = did_first asked (do_behind says handles rest (tree_by tree asked got) replies)

-- its own command, if it has one, and those behind it
abbrev pub do_own : Plan → Option Command → PlainTree → List Reply → Turn
do_own plan None tree replies = do_behind plan.says plan.handles plan.behind tree replies
do_own plan (Some asked) tree [] = record { did = asked ∷ []; says = plan.says; next = record { tree = tree; handles = plan.handles } }
do_own plan (Some asked) tree (got ∷ replies) = did_first asked (do_behind (told.Plain (shows tree asked got)) plan.handles plan.behind (tree_by tree asked got) replies)

-- The commands ahead of it; where one of them is refused, that is what the line is told, and no more is done for it.
abbrev pub do_ahead : List OpenFile → Plan → List Command → PlainTree → List Reply → Turn
do_ahead handles plan [] tree replies = do_own plan plan.own tree replies
do_ahead handles plan (asked ∷ rest) tree [] = record { did = asked ∷ rest; says = plan.says; next = record { tree = tree; handles = handles } }
do_ahead handles plan (asked ∷ rest) tree (got ∷ replies) = if is_refusal got
    then record { did = asked ∷ []; says = told.Plain got; next = record { tree = tree; handles = handles } }
    else did_first asked (do_ahead handles plan rest (tree_by tree asked got) replies)

-- What a line does on a machine, of whose commands these were the replies.
abbrev pub turn_of : Machine → Result SessionLine Refusal → List Reply → Turn
turn_of machine asks replies = do_ahead machine.handles (plan_of machine asks) (plan_of machine asks).ahead machine.tree replies

-- memory is missing for a line that asks for a handle: nothing is done
abbrev pub short_turn : Machine → Turn
short_turn machine = record { did = []; says = told.Plain (reply.No refusal.OutOfMemory); next = machine }
