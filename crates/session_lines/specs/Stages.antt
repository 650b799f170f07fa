-- How far a line of a session is: what it asks of the volume next, and what that says.
use Rattle.std.specs.Prelude.{ℕ, ◌-◌, ◌==◌, ◌&&◌, Bool, true, false, not, List, [], ◌∷◌, Option, Some, None, if◌then◌else◌}
use Rattle.std.specs.Str.{bytes_eq}
use Rattle.hfs_language.specs.declared.command.Command.{Command}
use Rattle.hfs_language.specs.declared.command.Command.TheVariants as command
use Rattle.hfs_language.specs.declared.refusal.Refusal.{Refusal}
use Rattle.hfs_language.specs.declared.refusal.Refusal.TheVariants as refusal
use Rattle.hfs_language.specs.declared.reply.Facts.{Facts}
use Rattle.hfs_language.specs.declared.reply.ListedName.{ListedName}
use Rattle.hfs_language.specs.declared.reply.Reply.{Reply}
use Rattle.hfs_language.specs.declared.reply.Reply.TheVariants as reply
use Rattle.hfs_language.specs.Written.{FitsPath}
use Rattle.hfs_model.specs.Sorted.{kept}
use Rattle.open_files.specs.declared.act.OpenFile.{OpenFile}
use Rattle.open_files.specs.Handles.{is_held}
use Rattle.open_files.specs.Keeping.{keeping_name, keeping_path, kept_path, release}
use Rattle.session_lines.specs.declared.stages.Stage.{Stage}
use Rattle.session_lines.specs.declared.stages.Stage.TheVariants as stage

-- the command of which nothing is told that is done next
abbrev pub command_at : Stage → Option Command
command_at (stage.Opening path) = Some (command.Stat path)
command_at (stage.Listing path) = Some (command.Ls path)
command_at (stage.Stating path) = Some (command.Stat path)
command_at (stage.StatingRoot facts) = Some (command.Stat keeping_path)
command_at (stage.StatingFile facts) = Some (command.Stat (kept_path facts.id))
command_at (stage.Taking path) = Some (command.Stat path)
command_at (stage.Moving from to) = Some (command.Stat from)
command_at (stage.Replacing moved to) = Some (command.Stat to)
command_at (stage.Losing path facts) = Some (command.Stat (kept_path facts.id))
command_at (stage.Saving path id) = Some (command.Stat keeping_path)
command_at (stage.Making path id) = Some (command.Mkdir keeping_path)
command_at (stage.Linking path id) = Some (command.Ln path (kept_path id))
command_at (stage.Closing id) = Some (command.Stat (kept_path id))
command_at (stage.Releasing id) = Some (release id)
command_at stage.Does = None
command_at (stage.Says said) = None
command_at (stage.Opens id) = None
command_at stage.Rests = None

-- its paths are such as lines have
abbrev pub FitsStage : Stage → Type 0
FitsStage (stage.Opening path) = FitsPath path
FitsStage (stage.Listing path) = FitsPath path
FitsStage (stage.Stating path) = FitsPath path
FitsStage (stage.StatingRoot facts) = Unit {0}
FitsStage (stage.StatingFile facts) = Unit {0}
FitsStage (stage.Taking path) = FitsPath path
FitsStage (stage.Moving from to) = FitsPath from × FitsPath to
FitsStage (stage.Replacing moved to) = FitsPath to
FitsStage (stage.Losing path facts) = FitsPath path
FitsStage (stage.Saving path id) = FitsPath path
FitsStage (stage.Making path id) = FitsPath path
FitsStage (stage.Linking path id) = FitsPath path
FitsStage (stage.Closing id) = Unit {0}
FitsStage (stage.Releasing id) = Unit {0}
FitsStage stage.Does = Unit {0}
FitsStage (stage.Says said) = Unit {0}
FitsStage (stage.Opens id) = Unit {0}
FitsStage stage.Rests = Unit {0}

-- ---- what a reply says

abbrev pub found_to_open : Reply → Stage
found_to_open (reply.Facts facts) = if facts.folder then stage.Says (reply.No refusal.IsFolder) else stage.Opens facts.id
found_to_open said = stage.Says said

-- a listing without the keeping folder
abbrev pub without_keeping : List ListedName → List ListedName
without_keeping names = kept (λ listed. not (bytes_eq listed.name keeping_name)) names

abbrev pub is_root : List (List ℕ) → Bool
is_root [] = true
is_root (name ∷ path) = false

abbrev pub listed : List (List ℕ) → Reply → Reply
listed path (reply.Listing names) = if is_root path then reply.Listing (without_keeping names) else reply.Listing names
listed path said = said

abbrev pub found_to_tell : List (List ℕ) → Reply → Stage
found_to_tell path (reply.Facts facts) = if not facts.folder then stage.StatingFile facts else if is_root path then stage.StatingRoot facts else stage.Says (reply.Facts facts)
found_to_tell path said = stage.Says said

-- one entry fewer of a folder, and one name fewer of a file
abbrev pub one_less : Facts → Facts
one_less facts = if facts.folder then record facts { size = facts.size - 1 } else record facts { links = facts.links - 1 }

-- whether this says that memory was missing, so that a command may not have been done at all
abbrev pub is_skip : Refusal → Bool
is_skip refusal.OutOfMemory = true
is_skip _ = false

-- a line of which a look wasn't done is told why
abbrev pub unless_skipped : Refusal → Stage → Stage
unless_skipped why next = if is_skip why then stage.Says (reply.No why) else next

-- facts without what the keeping folder adds, where that was found
abbrev pub told_without : Facts → Reply → Reply
told_without facts (reply.Facts found) = reply.Facts (one_less facts)
told_without facts (reply.No why) = if is_skip why then reply.No why else reply.Facts facts
told_without facts said = reply.Facts facts

-- a name is taken of what has these facts
abbrev pub takes : List OpenFile → List (List ℕ) → Facts → Stage
takes handles path facts = if not facts.folder && is_held handles facts.id then stage.Losing path facts else stage.Does

abbrev pub found_to_take : List OpenFile → List (List ℕ) → Reply → Stage
found_to_take handles path (reply.Facts facts) = takes handles path facts
found_to_take handles path (reply.No why) = unless_skipped why stage.Does
found_to_take handles path said = stage.Does

abbrev pub found_to_move : List (List ℕ) → Reply → Stage
found_to_move to (reply.Facts facts) = if facts.folder then stage.Does else stage.Replacing facts.id to
found_to_move to (reply.No why) = unless_skipped why stage.Does
found_to_move to said = stage.Does

abbrev pub found_to_replace : List OpenFile → ℕ → List (List ℕ) → Reply → Stage
found_to_replace handles moved to (reply.Facts facts) = if facts.id == moved then stage.Does else takes handles to facts
found_to_replace handles moved to (reply.No why) = unless_skipped why stage.Does
found_to_replace handles moved to said = stage.Does

abbrev pub not_kept : List (List ℕ) → Facts → Stage
not_kept path facts = if facts.links == 1 then stage.Saving path facts.id else stage.Does

-- a file that is kept loses no last name, and neither does one with other names
abbrev pub looked_for_kept : List (List ℕ) → Facts → Reply → Stage
looked_for_kept path facts (reply.No why) = unless_skipped why (not_kept path facts)
looked_for_kept path facts said = stage.Does

abbrev pub looked_for_folder : List (List ℕ) → ℕ → Reply → Stage
looked_for_folder path id (reply.No why) = unless_skipped why (stage.Making path id)
looked_for_folder path id said = stage.Linking path id

-- where a command of Save is refused, that is what the line is told
abbrev pub unless_refused : Stage → Reply → Stage
unless_refused next (reply.No why) = stage.Says (reply.No why)
unless_refused next said = next

-- a file whose only name is in the keeping folder is released
abbrev pub closed : ℕ → Reply → Stage
closed id (reply.Facts facts) = if facts.links == 1 then stage.Releasing id else stage.Rests
closed id said = stage.Rests

-- where a line stands once its command has this reply, where these handles are open
abbrev pub heard_at : List OpenFile → Stage → Reply → Stage
heard_at handles (stage.Opening path) said = found_to_open said
heard_at handles (stage.Listing path) said = stage.Says (listed path said)
heard_at handles (stage.Stating path) said = found_to_tell path said
heard_at handles (stage.StatingRoot facts) said = stage.Says (told_without facts said)
heard_at handles (stage.StatingFile facts) said = stage.Says (told_without facts said)
heard_at handles (stage.Taking path) said = found_to_take handles path said
heard_at handles (stage.Moving from to) said = found_to_move to said
heard_at handles (stage.Replacing moved to) said = found_to_replace handles moved to said
heard_at handles (stage.Losing path facts) said = looked_for_kept path facts said
heard_at handles (stage.Saving path id) said = looked_for_folder path id said
heard_at handles (stage.Making path id) said = unless_refused (stage.Linking path id) said
heard_at handles (stage.Linking path id) said = unless_refused stage.Does said
heard_at handles (stage.Closing id) said = closed id said
heard_at handles (stage.Releasing id) said = stage.Rests
heard_at handles stage.Does said = stage.Does
heard_at handles (stage.Says other) said = stage.Says other
heard_at handles (stage.Opens id) said = stage.Opens id
heard_at handles stage.Rests said = stage.Rests
