-- How a command is written: its line.
use Rattle.std.specs.Prelude.{◌≡◌, ◌<◌, ◌≤◌, ◌^◌, ℕ, List, [], ◌∷◌, length, map, Ok, codes, decimal}
use Rattle.std.specs.List.{join_with_byte}
use Rattle.hx_bytes.specs.Field.{AreBytes}
use Rattle.name_text.specs.Laws.{AreUnits}
use Rattle.hfs_language.specs.declared.command.Command.{Command}
use Rattle.hfs_language.specs.declared.command.Command.TheVariants.{Mkdir, Create, Rm, Rmdir, Mv, Ln, Write, Read, Trunc, Ls, Stat, Chmod, SetAttr, GetAttr, DelAttr, LsAttr, At, Df, Sync}
use Rattle.hfs_language.specs.Language.{command_of, most_bytes}
use Rattle.hfs_language.specs.Text.{name_text, mode_text, value_text}

-- a slash before each name, and a slash alone for the root
abbrev pub path_text : List (List ℕ) → List ℕ
path_text path = 47 ∷ join_with_byte 47 (map name_text path)

-- the words of a command: its verb and its arguments
abbrev pub command_words : Command → List (List ℕ)
command_words (Mkdir p) = codes "mkdir" ∷ path_text p ∷ []
command_words (Create p) = codes "create" ∷ path_text p ∷ []
command_words (Rm p) = codes "rm" ∷ path_text p ∷ []
command_words (Rmdir p) = codes "rmdir" ∷ path_text p ∷ []
command_words (Mv p q) = codes "mv" ∷ path_text p ∷ path_text q ∷ []
command_words (Ln p q) = codes "ln" ∷ path_text p ∷ path_text q ∷ []
command_words (Write p from value) = codes "write" ∷ path_text p ∷ decimal from ∷ value_text value ∷ []
command_words (Read p from count) = codes "read" ∷ path_text p ∷ decimal from ∷ decimal count ∷ []
command_words (Trunc p size) = codes "trunc" ∷ path_text p ∷ decimal size ∷ []
command_words (Ls p) = codes "ls" ∷ path_text p ∷ []
command_words (Stat p) = codes "stat" ∷ path_text p ∷ []
command_words (Chmod p mode) = codes "chmod" ∷ path_text p ∷ mode_text mode ∷ []
command_words (SetAttr p name value) = codes "setattr" ∷ path_text p ∷ name_text name ∷ value_text value ∷ []
command_words (GetAttr p name) = codes "getattr" ∷ path_text p ∷ name_text name ∷ []
command_words (DelAttr p name) = codes "delattr" ∷ path_text p ∷ name_text name ∷ []
command_words (LsAttr p) = codes "lsattr" ∷ path_text p ∷ []
command_words (At moment) = codes "at" ∷ decimal moment ∷ []
command_words Df = codes "df" ∷ []
command_words Sync = codes "sync" ∷ []

-- the line of a command: its words with a space between two of them
abbrev pub command_text : Command → List ℕ
command_text command = join_with_byte 32 (command_words command)

-- a name of at most so many code units
pub record IsName (most : ℕ) (name : List ℕ) : Type 0 where
  pub some : 0 < length name
  pub short : length name ≤ most
  pub units : AreUnits name

-- each name of a path has at most 255 code units
abbrev pub FitsPath : List (List ℕ) → Type 0
FitsPath [] = Unit {0}
FitsPath (name ∷ path) = IsName 255 name × FitsPath path

-- each part of a command is such as a line can have: names within their lengths, numbers within their types, modes of twelve bits
abbrev pub FitsCommand : Command → Type 0
FitsCommand (Mkdir p) = FitsPath p
FitsCommand (Create p) = FitsPath p
FitsCommand (Rm p) = FitsPath p
FitsCommand (Rmdir p) = FitsPath p
FitsCommand (Mv p q) = FitsPath p × FitsPath q
FitsCommand (Ln p q) = FitsPath p × FitsPath q
FitsCommand (Write p from value) = FitsPath p × (from < 2 ^ 64) × AreBytes value
FitsCommand (Read p from count) = FitsPath p × (from < 2 ^ 64) × (count < 2 ^ 64)
FitsCommand (Trunc p size) = FitsPath p × (size < 2 ^ 64)
FitsCommand (Ls p) = FitsPath p
FitsCommand (Stat p) = FitsPath p
FitsCommand (Chmod p mode) = FitsPath p × (mode < 2 ^ 12)
FitsCommand (SetAttr p name value) = FitsPath p × IsName 127 name × AreBytes value
FitsCommand (GetAttr p name) = FitsPath p × IsName 127 name
FitsCommand (DelAttr p name) = FitsPath p × IsName 127 name
FitsCommand (LsAttr p) = FitsPath p
FitsCommand (At moment) = moment < 2 ^ 32
FitsCommand Df = Unit {0}
FitsCommand Sync = Unit {0}

-- the line of a command is read to it, unless it is longer than lines may be
abbrev pub IsReadBack : Command → Type 0
IsReadBack command = FitsCommand command → length (command_text command) ≤ most_bytes → command_of (command_text command) ≡ Ok command
