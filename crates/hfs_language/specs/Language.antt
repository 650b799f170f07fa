-- The language of lines: which command a line spells, or the first reason why it spells none.
use Rattle.std.specs.Prelude.{ℕ, ◌^◌, ◌==◌, ◌&&◌, nat_lt, nat_le, Bool, List, [], ◌∷◌, length, drop, Result, Ok, Err, bytes_eq, chars, codes, decimal, if◌then◌else◌}
use Rattle.std.specs.List.{list_all, slice_split}
use Rattle.std.specs.Str.{is_utf8}
use Rattle.std.specs.Str.Parse.{digits_value}
use Rattle.name_text.specs.Reading.{component}
use Rattle.name_text.specs.declared.piece.NameFault.{NameFault}
use Rattle.name_text.specs.declared.piece.NameFault.TheVariants as fault
use Rattle.hfs_language.specs.declared.command.Command.{Command}
use Rattle.hfs_language.specs.declared.command.Command.TheVariants.{Mkdir, Create, Rm, Rmdir, Mv, Ln, Write, Read, Trunc, Ls, Stat, Chmod, SetAttr, GetAttr, DelAttr, LsAttr, At, Df, Sync}
use Rattle.hfs_language.specs.declared.refusal.Refusal.{Refusal}
use Rattle.hfs_language.specs.declared.refusal.Refusal.TheVariants.{TooLong, BadCommand, BadName, NameTooLong}
use Rattle.percent_encoding.specs.Percent.{percent_decode}
use Rattle.hfs_language.specs.Text.{value_text}

-- ---- the order of refusals

-- the place of a refusal among those of words: BadCommand, then BadName, then NameTooLong
abbrev pub rank : Refusal → ℕ
rank BadCommand = 0
rank BadName = 1
rank _ = 2

-- the first of two refusals
abbrev pub earlier : Refusal → Refusal → Refusal
earlier one other = if nat_le (rank one) (rank other) then one else other

-- both values, or the first refusal of the two
abbrev pub both : {X Y : Type 0} → Result X Refusal → Result Y Refusal → Result (X × Y) Refusal
both (Ok x) (Ok y) = Ok (x, y)
both (Ok x) (Err why) = Err why
both (Err why) (Ok y) = Err why
both (Err one) (Err other) = Err (earlier one other)

-- the value changed so, or the refusal
abbrev pub after : {X Y : Type 0} → (X → Y) → Result X Refusal → Result Y Refusal
after make (Ok x) = Ok (make x)
after make (Err why) = Err why

-- ---- words

-- a number is spelled by its decimal digits, and is below 2 ^ 64
unfoldable pub number_of : List ℕ → Result ℕ Refusal
number_of text = if bytes_eq text (decimal (digits_value 10 text)) && nat_lt (digits_value 10 text) (2 ^ 64) then Ok (digits_value 10 text) else Err BadCommand

-- a moment is a number below 2 ^ 32
abbrev pub within_moment : Result ℕ Refusal → Result ℕ Refusal
within_moment (Ok number) = if nat_lt number (2 ^ 32) then Ok number else Err BadCommand
within_moment (Err why) = Err why

-- whether a byte is a digit from 0 to 7
abbrev pub is_octal : ℕ → Bool
is_octal c = nat_le 48 c && nat_le c 55

-- a mode is spelled by one to four octal digits
unfoldable pub mode_of : List ℕ → Result ℕ Refusal
mode_of text = if nat_le 1 (length text) && nat_le (length text) 4 && list_all is_octal text then Ok (digits_value 8 text) else Err BadCommand

-- a value is spelled as it is printed
unfoldable pub value_of : List ℕ → Result (List ℕ) Refusal
value_of text = if bytes_eq text (value_text (percent_decode (drop 1 text))) then Ok (percent_decode (drop 1 text)) else Err BadCommand

-- the refusal of a line for a name that can't be read
abbrev pub refusal_of : NameFault → Refusal
refusal_of fault.BadName = BadName
refusal_of fault.NameTooLong = NameTooLong
refusal_of fault.Memory = BadName

-- a name, or the refusal for what is wrong with it
abbrev pub named : Result (List ℕ) NameFault → Result (List ℕ) Refusal
named (Ok name) = Ok name
named (Err why) = Err (refusal_of why)

-- a name, as a component of a path spells it
unfoldable pub name_of : List ℕ → Result (List ℕ) Refusal
name_of text = named (component (chars text))

-- an attribute's name has at most 127 units
abbrev pub within_attribute : List ℕ → Result (List ℕ) Refusal
within_attribute name = if nat_lt 127 (length name) then Err NameTooLong else Ok name

-- a name that isn't longer than an attribute's name may be
abbrev pub limited : Result (List ℕ) Refusal → Result (List ℕ) Refusal
limited (Ok name) = within_attribute name
limited (Err why) = Err why

-- the name of an attribute, which is a word, and so not empty
unfoldable pub attribute_of : List ℕ → Result (List ℕ) Refusal
attribute_of text = if bytes_eq text [] then Err BadCommand else limited (name_of text)

-- a name before others
abbrev pub in_front : List ℕ × List (List ℕ) → List (List ℕ)
in_front pair = pair.0 ∷ pair.1

-- the names that components spell
abbrev pub names_of : List (List ℕ) → Result (List (List ℕ)) Refusal
names_of [] = Ok []
names_of (text ∷ rest) = after in_front (both (name_of text) (names_of rest))

-- the components of a path, behind its first slash
abbrev pub components : List ℕ → List (List ℕ)
components text = if bytes_eq text [] then [] else slice_split (λ b. b == 47) text

-- a path begins with a slash; `/` alone is the root
unfoldable pub path_of : List ℕ → Result (List (List ℕ)) Refusal
path_of [] = Err BadCommand
path_of (c ∷ text) = if c == 47 then names_of (components text) else Err BadCommand

-- ---- commands

-- the command of a line of one word
abbrev pub one_word : List ℕ → Result Command Refusal
one_word verb = if bytes_eq verb (codes "df") then Ok Df
    else if bytes_eq verb (codes "sync") then Ok Sync
    else Err BadCommand

-- the command of a line of two words
abbrev pub two_words : List ℕ → List ℕ → Result Command Refusal
two_words verb word = if bytes_eq verb (codes "mkdir") then after Mkdir (path_of word)
    else if bytes_eq verb (codes "create") then after Create (path_of word)
    else if bytes_eq verb (codes "rm") then after Rm (path_of word)
    else if bytes_eq verb (codes "rmdir") then after Rmdir (path_of word)
    else if bytes_eq verb (codes "ls") then after Ls (path_of word)
    else if bytes_eq verb (codes "stat") then after Stat (path_of word)
    else if bytes_eq verb (codes "lsattr") then after LsAttr (path_of word)
    else if bytes_eq verb (codes "at") then after At (within_moment (number_of word))
    else Err BadCommand

-- the command of a line of three words
abbrev pub three_words : List ℕ → List ℕ → List ℕ → Result Command Refusal
three_words verb one two = if bytes_eq verb (codes "mv") then after (λ p. Mv p.0 p.1) (both (path_of one) (path_of two))
    else if bytes_eq verb (codes "ln") then after (λ p. Ln p.0 p.1) (both (path_of one) (path_of two))
    else if bytes_eq verb (codes "trunc") then after (λ p. Trunc p.0 p.1) (both (path_of one) (number_of two))
    else if bytes_eq verb (codes "chmod") then after (λ p. Chmod p.0 p.1) (both (path_of one) (mode_of two))
    else if bytes_eq verb (codes "getattr") then after (λ p. GetAttr p.0 p.1) (both (path_of one) (attribute_of two))
    else if bytes_eq verb (codes "delattr") then after (λ p. DelAttr p.0 p.1) (both (path_of one) (attribute_of two))
    else Err BadCommand

-- the command of a line of four words
abbrev pub four_words : List ℕ → List ℕ → List ℕ → List ℕ → Result Command Refusal
four_words verb one two three = if bytes_eq verb (codes "write") then after (λ p. Write p.0 p.1.0 p.1.1) (both (path_of one) (both (number_of two) (value_of three)))
    else if bytes_eq verb (codes "read") then after (λ p. Read p.0 p.1.0 p.1.1) (both (path_of one) (both (number_of two) (number_of three)))
    else if bytes_eq verb (codes "setattr") then after (λ p. SetAttr p.0 p.1.0 p.1.1) (both (path_of one) (both (attribute_of two) (value_of three)))
    else Err BadCommand

-- the command that words spell
abbrev pub words_command : List (List ℕ) → Result Command Refusal
words_command (verb ∷ []) = one_word verb
words_command (verb ∷ one ∷ []) = two_words verb one
words_command (verb ∷ one ∷ two ∷ []) = three_words verb one two
words_command (verb ∷ one ∷ two ∷ three ∷ []) = four_words verb one two three
words_command _ = Err BadCommand

-- a line has at most so many bytes, without its newline
abbrev pub most_bytes : ℕ
most_bytes = 140000

-- The command that a line spells, or the first reason why it spells none. Words are separated by one space.
unfoldable pub command_of : List ℕ → Result Command Refusal
command_of line = if nat_lt most_bytes (length line) then Err TooLong
    else if is_utf8 line then words_command (slice_split (λ b. b == 32) line)
    else Err BadCommand
