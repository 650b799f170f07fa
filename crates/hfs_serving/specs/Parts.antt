-- The parts of a command that a line spells: names within their lengths, and numbers within their limits.
use Rattle.std.specs.Prelude.{◌<◌, ◌≤◌, ◌^◌, ℕ, List, [], ◌∷◌, length}
use Rattle.hfs_language.specs.declared.command.Command.{Command}
use Rattle.hfs_language.specs.declared.command.Command.TheVariants.{Mkdir, Create, Rm, Rmdir, Mv, Ln, Write, Read, Trunc, Ls, Stat, Chmod, SetAttr, GetAttr, DelAttr, LsAttr, At, Df, Sync}

-- a name has a unit, and at most so many
abbrev pub HasLength : ℕ → List ℕ → Type 0
HasLength most name = (0 < length name) × (length name ≤ most)

-- each name of a path has 1 to 255
abbrev pub HasNames : List (List ℕ) → Type 0
HasNames [] = Unit {0}
HasNames (name ∷ path) = HasLength 255 name × HasNames path

-- each name of a command has its length, and each number is below its limit
abbrev pub HasParts : Command → Type 0
HasParts (Mkdir p) = HasNames p
HasParts (Create p) = HasNames p
HasParts (Rm p) = HasNames p
HasParts (Rmdir p) = HasNames p
HasParts (Mv p q) = HasNames p × HasNames q
HasParts (Ln p q) = HasNames p × HasNames q
HasParts (Write p from value) = HasNames p × (from < 2 ^ 64)
HasParts (Read p from count) = HasNames p × (from < 2 ^ 64) × (count < 2 ^ 64)
HasParts (Trunc p size) = HasNames p × (size < 2 ^ 64)
HasParts (Ls p) = HasNames p
HasParts (Stat p) = HasNames p
HasParts (Chmod p mode) = HasNames p × (mode < 2 ^ 12)
HasParts (SetAttr p name value) = HasNames p × HasLength 127 name
HasParts (GetAttr p name) = HasNames p × HasLength 127 name
HasParts (DelAttr p name) = HasNames p × HasLength 127 name
HasParts (LsAttr p) = HasNames p
HasParts (At moment) = moment < 2 ^ 32
HasParts Df = Unit {0}
HasParts Sync = Unit {0}
