-- What a line of a session comes to, by what it asks for and by the files that are open.
use Rattle.std.specs.Prelude.{◌≡◌, ◌⊎◌, ℕ, true, false, nat_lt, List, Option, Some, None, Result, Ok, Err, if◌then◌else◌}
use Rattle.hfs_language.specs.declared.command.Command.{Command}
use Rattle.hfs_language.specs.declared.command.Command.TheVariants as command
use Rattle.hfs_language.specs.declared.refusal.Refusal.{Refusal}
use Rattle.hfs_language.specs.declared.refusal.Refusal.TheVariants as refusal
use Rattle.hfs_language.specs.declared.reply.Reply.TheVariants as reply
use Rattle.hfs_language.specs.Written.{FitsCommand, FitsPath}
use Rattle.hfs_model.specs.declared.kinds.KindEdit.{KindEdit}
use Rattle.hfs_model.specs.Kinds.{path_of_edit}
use Rattle.hfs_model.specs.Step.{most_bytes}
use Rattle.volume_runs.specs.Fits.{FitsEdit}
use Rattle.link_kinds.specs.Lines.{is_kind_line, kind_line_of}
use Rattle.link_kinds.specs.declared.kinds.KindCommand.{KindCommand}
use Rattle.link_kinds.specs.declared.kinds.KindCommand.TheVariants as kind
use Rattle.link_kinds.specs.declared.kinds.KindLine.{KindLine}
use Rattle.hfs_serving.specs.Parts.{HasNames, HasParts}
use Rattle.open_files.specs.declared.act.Act.{Act}
use Rattle.open_files.specs.declared.act.Act.TheVariants as act
use Rattle.open_files.specs.declared.act.OpenFile.{OpenFile}
use Rattle.open_files.specs.declared.act.SessionLine.{SessionLine}
use Rattle.open_files.specs.declared.act.SessionReply.TheVariants as told
use Rattle.open_files.specs.Handles.{file_of}
use Rattle.open_files.specs.Keeping.{is_keeping_path, names_keeping}
use Rattle.open_files.specs.Lines.{asks_of}
use Rattle.session_lines.specs.declared.errands.Errand.{Errand}
use Rattle.session_lines.specs.declared.errands.Errand.TheVariants as errand
use Rattle.session_lines.specs.declared.errands.Look.{Look}
use Rattle.session_lines.specs.declared.errands.Look.TheVariants as look
use Rattle.session_lines.specs.declared.stages.Stage.{Stage}
use Rattle.session_lines.specs.declared.stages.Stage.TheVariants as stage
use Rattle.session_lines.specs.Stages.{FitsStage}

abbrev pub refused : Refusal → Errand
refused why = errand.Says (told.Plain (reply.No why))

-- the stages ahead of a command's own
abbrev pub ahead_of : Command → Stage
ahead_of (command.Rm path) = stage.Taking path
ahead_of (command.Mv from to) = stage.Moving from to
ahead_of _ = stage.Does

-- a command of the plain language that doesn't name the keeping folder
abbrev pub own_errand : ℕ → Command → Errand
own_errand session (command.Ls path) = errand.Asks session (stage.Listing path)
own_errand session (command.Stat path) = errand.Asks session (stage.Stating path)
own_errand session asked = errand.Does asked (ahead_of asked)

abbrev pub plain_errand : ℕ → Command → Errand
plain_errand session asked = if names_keeping asked then refused refusal.Private else own_errand session asked

abbrev pub open_errand : ℕ → List (List ℕ) → Errand
open_errand session path = if is_keeping_path path then refused refusal.Private else errand.Asks session (stage.Opening path)

abbrev pub read_errand : ℕ → ℕ → ℕ → Option ℕ → Errand
read_errand handle from long None = errand.Says (told.NoHandle handle)
read_errand handle from long (Some id) = if nat_lt most_bytes long then refused refusal.TooLarge else errand.Reads id from long

abbrev pub close_errand : ℕ → ℕ → Option ℕ → Errand
close_errand session handle None = errand.Says (told.NoHandle handle)
close_errand session handle (Some id) = errand.Closes session handle

abbrev pub act_errand : List OpenFile → ℕ → Act → Errand
act_errand handles session (act.Plain asked) = plain_errand session asked
act_errand handles session (act.Open path) = open_errand session path
act_errand handles session (act.HandleRead handle from long) = read_errand handle from long (file_of handles session handle)
act_errand handles session (act.Close handle) = close_errand session handle (file_of handles session handle)
act_errand handles session act.End = errand.Ends session

-- what is to be done for a line that asks for this, where these handles are open
abbrev pub errand_for : List OpenFile → Result SessionLine Refusal → Errand
errand_for handles (Ok asks) = act_errand handles asks.session asks.act
errand_for handles (Err why) = refused why

-- a command that makes a link, or writes or reads a resource fork
abbrev pub edit_errand : KindEdit → Errand
edit_errand asked = if is_keeping_path (path_of_edit asked) then refused refusal.Private else errand.Edits asked

abbrev pub readlink_errand : List (List ℕ) → Errand
readlink_errand path = if is_keeping_path path then refused refusal.NotFound else errand.Looks (look.Target path)

abbrev pub kind_errand : KindCommand → Errand
kind_errand (kind.Edit asked) = edit_errand asked
kind_errand (kind.Readlink path) = readlink_errand path
kind_errand (kind.Follow path) = errand.Looks (look.Follow path)

-- what is to be done for a line on a link or a resource fork
abbrev pub kind_errand_for : Result KindLine Refusal → Errand
kind_errand_for (Ok asks) = kind_errand asks.command
kind_errand_for (Err why) = refused why

-- this is to be done for a line of sessions, where these handles are open: what it asks for, or it is told that memory is missing to read it
abbrev pub IsErrandOf : List OpenFile → List ℕ → Errand → Type 0
IsErrandOf handles line result = (is_kind_line line ≡ false) × ((result ≡ errand_for handles (asks_of line)) ⊎ (result ≡ refused refusal.OutOfMemory))

-- the same of a line on a link or a resource fork
abbrev pub IsKindErrandOf : List ℕ → Errand → Type 0
IsKindErrandOf line result = (is_kind_line line ≡ true) × ((result ≡ kind_errand_for (kind_line_of line)) ⊎ (result ≡ refused refusal.OutOfMemory))

-- ---- its parts

-- names and numbers of what a line asks for are within their limits
abbrev pub HasActParts : Act → Type 0
HasActParts (act.Plain asked) = HasParts asked
HasActParts (act.Open path) = HasNames path
HasActParts (act.HandleRead handle from long) = Unit {0}
HasActParts (act.Close handle) = Unit {0}
HasActParts act.End = Unit {0}

-- the same of a line on a link or a resource fork
abbrev pub HasKindParts : KindCommand → Type 0
HasKindParts (kind.Edit asked) = HasNames (path_of_edit asked)
HasKindParts (kind.Readlink path) = HasNames path
HasKindParts (kind.Follow path) = HasNames path

-- its path is such as lines have
abbrev pub FitsLook : Look → Type 0
FitsLook (look.Target path) = FitsPath path
FitsLook (look.Follow path) = FitsPath path

-- what is to be done has parts such as lines have
abbrev pub FitsErrand : Errand → Type 0
FitsErrand (errand.Says said) = Unit {0}
FitsErrand (errand.Asks session stage) = FitsStage stage
FitsErrand (errand.Does asked stage) = FitsCommand asked × FitsStage stage
FitsErrand (errand.Reads id from long) = Unit {0}
FitsErrand (errand.Closes session handle) = Unit {0}
FitsErrand (errand.Ends session) = Unit {0}
FitsErrand (errand.Edits asked) = FitsEdit asked
FitsErrand (errand.Looks what) = FitsLook what
