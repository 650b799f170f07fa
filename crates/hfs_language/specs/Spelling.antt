-- Which lines spell a command: the words of each, with one space between them.
use Rattle.std.specs.Prelude.{◌≡◌, ◌≢◌, ◌↔◌, ◌<◌, ◌≤◌, ◌+◌, ◌*◌, ◌^◌, ◌==◌, ℕ, true, false, List, [], ◌∷◌, length, Ok, codes, decimal}
use Rattle.std.specs.List.{list_any, join_with_byte}
use Rattle.std.specs.Str.{is_utf8}
use Rattle.hfs_language.specs.declared.command.Command.{Command}
use Rattle.hfs_language.specs.declared.command.Command.TheVariants.{Mkdir, Create, Rm, Rmdir, Mv, Ln, Write, Read, Trunc, Ls, Stat, Chmod, SetAttr, GetAttr, DelAttr, LsAttr, At, Df, Sync}
use Rattle.hfs_language.specs.Language.{mode_of, value_of, attribute_of, path_of, command_of, most_bytes, name_of}
use Rattle.hfs_language.specs.Text.{value_text}

-- ---- words

-- the word spells a path
abbrev pub IsPath : List ℕ → List (List ℕ) → Type 0
IsPath word path = path_of word ≡ Ok path

-- the word spells the name of an attribute
abbrev pub IsAttribute : List ℕ → List ℕ → Type 0
IsAttribute word name = attribute_of word ≡ Ok name

-- the word is a number's decimal digits
abbrev pub IsNumber : List ℕ → ℕ → Type 0
IsNumber word number = (word ≡ decimal number) × (number < 2 ^ 64)

-- the word spells a mode
abbrev pub IsMode : List ℕ → ℕ → Type 0
IsMode word mode = mode_of word ≡ Ok mode

-- the word spells a value
abbrev pub IsValue : List ℕ → List ℕ → Type 0
IsValue word value = value_of word ≡ Ok value

-- ---- lines

-- the words spell this command
abbrev pub SpellsCommand : Command → List (List ℕ) → Type 0
SpellsCommand (Mkdir p) words = (a : List ℕ) × IsPath a p × (words ≡ codes "mkdir" ∷ a ∷ [])
SpellsCommand (Create p) words = (a : List ℕ) × IsPath a p × (words ≡ codes "create" ∷ a ∷ [])
SpellsCommand (Rm p) words = (a : List ℕ) × IsPath a p × (words ≡ codes "rm" ∷ a ∷ [])
SpellsCommand (Rmdir p) words = (a : List ℕ) × IsPath a p × (words ≡ codes "rmdir" ∷ a ∷ [])
SpellsCommand (Mv p q) words = (a b : List ℕ) × IsPath a p × IsPath b q × (words ≡ codes "mv" ∷ a ∷ b ∷ [])
SpellsCommand (Ln p q) words = (a b : List ℕ) × IsPath a p × IsPath b q × (words ≡ codes "ln" ∷ a ∷ b ∷ [])
SpellsCommand (Write p n v) words = (a b c : List ℕ) × IsPath a p × IsNumber b n × IsValue c v × (words ≡ codes "write" ∷ a ∷ b ∷ c ∷ [])
SpellsCommand (Read p n m) words = (a b c : List ℕ) × IsPath a p × IsNumber b n × IsNumber c m × (words ≡ codes "read" ∷ a ∷ b ∷ c ∷ [])
SpellsCommand (Trunc p n) words = (a b : List ℕ) × IsPath a p × IsNumber b n × (words ≡ codes "trunc" ∷ a ∷ b ∷ [])
SpellsCommand (Ls p) words = (a : List ℕ) × IsPath a p × (words ≡ codes "ls" ∷ a ∷ [])
SpellsCommand (Stat p) words = (a : List ℕ) × IsPath a p × (words ≡ codes "stat" ∷ a ∷ [])
SpellsCommand (Chmod p m) words = (a b : List ℕ) × IsPath a p × IsMode b m × (words ≡ codes "chmod" ∷ a ∷ b ∷ [])
SpellsCommand (SetAttr p n v) words = (a b c : List ℕ) × IsPath a p × IsAttribute b n × IsValue c v × (words ≡ codes "setattr" ∷ a ∷ b ∷ c ∷ [])
SpellsCommand (GetAttr p n) words = (a b : List ℕ) × IsPath a p × IsAttribute b n × (words ≡ codes "getattr" ∷ a ∷ b ∷ [])
SpellsCommand (DelAttr p n) words = (a b : List ℕ) × IsPath a p × IsAttribute b n × (words ≡ codes "delattr" ∷ a ∷ b ∷ [])
SpellsCommand (LsAttr p) words = (a : List ℕ) × IsPath a p × (words ≡ codes "lsattr" ∷ a ∷ [])
SpellsCommand (At n) words = (a : List ℕ) × IsNumber a n × (n < 2 ^ 32) × (words ≡ codes "at" ∷ a ∷ [])
SpellsCommand Df words = words ≡ codes "df" ∷ []
SpellsCommand Sync words = words ≡ codes "sync" ∷ []

-- none of the words has a space in it
abbrev pub AreWords : List (List ℕ) → Type 0
AreWords [] = Unit {0}
AreWords (word ∷ words) = (list_any (λ b. b == 32) word ≡ false) × AreWords words

-- The line spells the command: it is short enough, it is UTF-8, and its words do so.
pub record Spells (line : List ℕ) (command : Command) : Type 0 where
  pub short : length line ≤ most_bytes
  pub text : is_utf8 line ≡ true
  pub words : (words : List (List ℕ)) × AreWords words × (line ≡ join_with_byte 32 words) × SpellsCommand command words

-- a line is read to a command exactly where it spells it
abbrev pub IsReadAsSpelled : List ℕ → Command → Type 0
IsReadAsSpelled line command = (command_of line ≡ Ok command) ↔ Spells line command

-- ---- paths

-- The text of a component spells a name: it isn't empty, and it has no slash.
pub record IsComponent (text name : List ℕ) : Type 0 where
  pub some : 0 < length text
  pub no_slash : list_any (λ b. b == 47) text ≡ false
  pub reads : name_of text ≡ Ok name

-- the texts spell the names, one each
abbrev pub SpellNames : List (List ℕ) → List (List ℕ) → Type 0
SpellNames [] [] = Unit {0}
SpellNames [] (name ∷ names) = ⊥
SpellNames (text ∷ texts) [] = ⊥
SpellNames (text ∷ texts) (name ∷ names) = IsComponent text name × SpellNames texts names

-- the word is a slash, and behind it the texts of the names with a slash between them
abbrev pub SpellsPath : List ℕ → List (List ℕ) → Type 0
SpellsPath word path = (texts : List (List ℕ)) × SpellNames texts path × (word ≡ 47 ∷ join_with_byte 47 texts)

-- a word is read to a path exactly where it spells it
abbrev pub IsReadAsPath : List ℕ → List (List ℕ) → Type 0
IsReadAsPath word path = (path_of word ≡ Ok path) ↔ SpellsPath word path

-- a word that is read to a value is its text
abbrev pub IsReadAsValue : List ℕ → List ℕ → Type 0
IsReadAsValue word value = value_of word ≡ Ok value → word ≡ value_text value

-- ---- modes, and names of attributes

-- the byte is the octal digit of this value
abbrev pub IsOctalDigit : ℕ → ℕ → Type 0
IsOctalDigit byte value = (value < 8) × (byte ≡ 48 + value)

-- The word is one to four octal digits, and the mode is the number that they write.
abbrev pub SpellsMode : List ℕ → ℕ → Type 0
SpellsMode [] mode = ⊥
SpellsMode (a ∷ []) mode = IsOctalDigit a mode
SpellsMode (a ∷ b ∷ []) mode = (p q : ℕ) × IsOctalDigit a p × IsOctalDigit b q × (mode ≡ 8 * p + q)
SpellsMode (a ∷ b ∷ c ∷ []) mode = (p q r : ℕ) × IsOctalDigit a p × IsOctalDigit b q × IsOctalDigit c r × (mode ≡ 64 * p + 8 * q + r)
SpellsMode (a ∷ b ∷ c ∷ d ∷ []) mode = (p q r s : ℕ) × IsOctalDigit a p × IsOctalDigit b q × IsOctalDigit c r × IsOctalDigit d s × (mode ≡ 512 * p + 64 * q + 8 * r + s)
SpellsMode (a ∷ b ∷ c ∷ d ∷ e ∷ rest) mode = ⊥

-- a word is read to a mode exactly where it spells it
abbrev pub IsReadAsMode : List ℕ → ℕ → Type 0
IsReadAsMode word mode = (mode_of word ≡ Ok mode) ↔ SpellsMode word mode

-- a word is read to the name of an attribute exactly where it isn't empty and spells a name of at most 127 units
abbrev pub IsReadAsAttribute : List ℕ → List ℕ → Type 0
IsReadAsAttribute word name = (attribute_of word ≡ Ok name) ↔ ((word ≢ []) × (name_of word ≡ Ok name) × (length name ≤ 127))
