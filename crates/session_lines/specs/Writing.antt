-- Lines that would change bytes of a file, and what those are told that macOS keeps compressed.
use Rattle.std.specs.Prelude.{◌≡◌, ◌⊎◌, ℕ, true, false, List, [], Option, Some, None, Ok}
use Rattle.sector_disk.specs.Space.{Space}
use Rattle.jnl_format.specs.Recovery.{Content}
use Rattle.hfs_language.specs.declared.command.Command.{Command}
use Rattle.hfs_language.specs.declared.command.Command.TheVariants as command
use Rattle.hfs_language.specs.declared.refusal.Refusal.TheVariants as refusal
use Rattle.hfs_language.specs.declared.reply.Change.{Change}
use Rattle.hfs_language.specs.declared.reply.Reply.{Reply}
use Rattle.hfs_language.specs.declared.reply.Reply.TheVariants as reply
use Rattle.hfs_model.specs.declared.kinds.KindEdit.{KindEdit}
use Rattle.hfs_model.specs.declared.kinds.KindEdit.TheVariants as edit
use Rattle.hfs_serving.specs.Flags.{IsCompressedAs}
use Rattle.hfs_serving.specs.Going.{Knowing}
use Rattle.hfs_serving.specs.Outside.{Outside}
use Rattle.hfs_serving.specs.Said.{joined}
use Rattle.hfs_serving.specs.declared.volume.ToTell.{ToTell}
use Rattle.link_kinds.specs.declared.kinds.KindCommand.TheVariants as kind
use Rattle.link_kinds.specs.Lines.{is_kind_line, kind_line_of}
use Rattle.open_files.specs.declared.act.Act.TheVariants as act
use Rattle.open_files.specs.declared.act.SessionReply.{SessionReply}
use Rattle.open_files.specs.declared.act.SessionReply.TheVariants as told
use Rattle.open_files.specs.Lines.{asks_of, session_text}
use Rattle.session_lines.specs.Lookings.{HasLooked}

-- the path of the file whose data a command changes
abbrev pub written_by : Command → Option (List (List ℕ))
written_by (command.Write path from value) = Some path
written_by (command.Trunc path size) = Some path
written_by _ = None

-- the path of the file whose resource fork a command changes
abbrev pub written_by_edit : KindEdit → Option (List (List ℕ))
written_by_edit (edit.ResourceWrite path from value) = Some path
written_by_edit (edit.Symlink path value) = None
written_by_edit (edit.ResourceRead path from long) = None

-- a line of sessions would change data of the file of this path
abbrev pub WritesData : List ℕ → List (List ℕ) → Type 0
WritesData line path = (is_kind_line line ≡ false) × (session : ℕ) × (asked : Command) × (asks_of line ≡ Ok (record { session = session; act = act.Plain asked })) × (written_by asked ≡ Some path)

-- a line would change the resource fork of the file of this path
abbrev pub WritesResource : List ℕ → List (List ℕ) → Type 0
WritesResource line path = (is_kind_line line ≡ true) × (session : ℕ) × (asked : KindEdit) × (kind_line_of line ≡ Ok (record { session = session; command = kind.Edit asked })) × (written_by_edit asked ≡ Some path)

-- a line would change bytes of the file of this path
abbrev pub WritesTo : List ℕ → List (List ℕ) → Type 0
WritesTo line path = WritesData line path ⊎ WritesResource line path

-- ---- what such a line is told

-- Of a file that a line would write to it is found out whether macOS keeps it compressed, by its record: then the line is told so. Where it isn't found out,
-- the line is told that memory was missing.
abbrev pub IsJudged : Content → Option (List (List ℕ)) → Option SessionReply → Type 0
IsJudged now None said = said ≡ None
IsJudged now (Some path) None = IsCompressedAs now path false
IsJudged now (Some path) (Some said) = (said ≡ told.Plain (reply.No refusal.OutOfMemory)) ⊎ ((said ≡ told.Compressed) × IsCompressedAs now path true)

-- A stretch without entries in which that was found out.
pub record HasJudged (written : Option (List (List ℕ))) (capacity : ℕ) (knows : Knowing) (committed now : Content) (old : Outside) (shrunk : Option ℕ) (space : Space) (new : Outside) (said : Option SessionReply) : Type 0 where
  pub looked : HasLooked capacity knows committed now shrunk old space new
  pub judged : IsJudged now written said

-- A line that would write to the file of this path is told that it is compressed just where its record says so, and else the reply of a command. Or memory
-- was missing.
abbrev pub IsToldOf : Content → List (List ℕ) → SessionReply → Type 0
IsToldOf now path said = (said ≡ told.Plain (reply.No refusal.OutOfMemory)) ⊎ ((said ≡ told.Compressed) × IsCompressedAs now path true) ⊎ (((own : Reply) × (said ≡ told.Plain own)) × IsCompressedAs now path false)

-- this was told of it, and what it changed
abbrev pub TellsOf : Content → List (List ℕ) → ToTell → ToTell → Type 0
TellsOf now path before after = (said : SessionReply) × (changes : List Change) × (after ≡ joined before (record { replies = session_text said; changes = changes })) × IsToldOf now path said

-- the reply of a command was told, and what it changed
abbrev pub TellsPlain : ToTell → ToTell → Type 0
TellsPlain before after = (own : Reply) × (changes : List Change) × (after ≡ joined before (record { replies = session_text (told.Plain own); changes = changes }))
