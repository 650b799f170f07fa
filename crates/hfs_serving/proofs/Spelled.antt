-- A command that a line spells has names within their lengths, and numbers within their limits.
use Rattle.std.proofs.Common.{◌≡◌, ◌<◌, ◌^◌, ℕ, List, [], ◌∷◌, Result, Ok, Err, chars, refl, ap, arith}
use Rattle.name_text.specs.Reading.{component}
use Rattle.name_text.specs.declared.piece.NameFault.{NameFault}
use Rattle.name_text.proofs.Lengths.{name_lengths}
use Rattle.hfs_language.specs.declared.command.Command.{Command}
use Rattle.hfs_language.specs.declared.command.Command.TheVariants.{Mkdir, Create, Rm, Rmdir, Mv, Ln, Write, Read, Trunc, Ls, Stat, Chmod, SetAttr, GetAttr, DelAttr, LsAttr, At, Df, Sync}
use Rattle.hfs_language.specs.Language.{attribute_of, command_of, mode_of, name_of, named, path_of, refusal_of}
use Rattle.hfs_language.specs.Spelling.{SpellNames, SpellsCommand, SpellsMode}
use Rattle.hfs_language.proofs.Modes.{attribute_as_spelled, mode_as_spelled}
use Rattle.hfs_language.proofs.Paths.{path_as_spelled}
use Rattle.hfs_language.proofs.Results.{err_never, ok_same}
use Rattle.hfs_language.proofs.Spelled.{read_as_spelled}
use Rattle.hfs_serving.specs.Parts.{HasLength, HasNames, HasParts}

named_ok : (r : Result (List ℕ) NameFault) (name : List ℕ) → named r ≡ Ok name → r ≡ Ok name
named_ok (Ok it) name is = ap Ok (ok_same it name (named (Ok it)) refl is)
named_ok (Err why) name is = absurd (err_never (refusal_of why) name (named (Err why)) refl is)

name_length : (text name : List ℕ) → name_of text ≡ Ok name → HasLength 255 name
unfolding name_of
name_length text name is = name_lengths (chars text) name (named_ok (component (chars text)) name is)

all_named : (texts names : List (List ℕ)) → SpellNames texts names → HasNames names
all_named [] [] spell = tt
all_named [] (name ∷ names) spell = absurd spell
all_named (text ∷ texts) [] spell = absurd spell
all_named (text ∷ texts) (name ∷ names) spell = (name_length text name spell.0.reads, all_named texts names spell.1)

pub path : (word : List ℕ) (p : List (List ℕ)) → path_of word ≡ Ok p → HasNames p
path word p is =
    let spells = (path_as_spelled word p).0 is in
    all_named spells.0 p spells.1

attribute : (word name : List ℕ) → attribute_of word ≡ Ok name → HasLength 127 name
attribute word name is =
    let spells = (attribute_as_spelled word name).0 is in
    ((name_length word name spells.1).0, spells.2)

octal : (word : List ℕ) (mode : ℕ) → SpellsMode word mode → mode < 2 ^ 12
octal [] mode spells = absurd spells
octal (a ∷ []) mode spells = omega (arith, spells.0)
octal (a ∷ b ∷ []) mode spells = omega (arith, spells.2.0, spells.3.0, spells.4)
octal (a ∷ b ∷ c ∷ []) mode spells = omega (arith, spells.3.0, spells.4.0, spells.5.0, spells.6)
octal (a ∷ b ∷ c ∷ d ∷ []) mode spells = omega (arith, spells.4.0, spells.5.0, spells.6.0, spells.7.0, spells.8)
octal (a ∷ b ∷ c ∷ d ∷ e ∷ rest) mode spells = absurd spells

mode_below : (word : List ℕ) (mode : ℕ) → mode_of word ≡ Ok mode → mode < 2 ^ 12
mode_below word mode is = octal word mode ((mode_as_spelled word mode).0 is)

parts : (command : Command) (words : List (List ℕ)) → SpellsCommand command words → HasParts command
parts (Mkdir p) words s = path s.0 p s.1
parts (Create p) words s = path s.0 p s.1
parts (Rm p) words s = path s.0 p s.1
parts (Rmdir p) words s = path s.0 p s.1
parts (Mv p q) words s = (path s.0 p s.2, path s.1 q s.3)
parts (Ln p q) words s = (path s.0 p s.2, path s.1 q s.3)
parts (Write p from value) words s = (path s.0 p s.3, s.4.1)
parts (Read p from count) words s = (path s.0 p s.3, s.4.1, s.5.1)
parts (Trunc p size) words s = (path s.0 p s.2, s.3.1)
parts (Ls p) words s = path s.0 p s.1
parts (Stat p) words s = path s.0 p s.1
parts (Chmod p mode) words s = (path s.0 p s.2, mode_below s.1 mode s.3)
parts (SetAttr p name value) words s = (path s.0 p s.3, attribute s.1 name s.4)
parts (GetAttr p name) words s = (path s.0 p s.2, attribute s.1 name s.3)
parts (DelAttr p name) words s = (path s.0 p s.2, attribute s.1 name s.3)
parts (LsAttr p) words s = path s.0 p s.1
parts (At moment) words s = s.2
parts Df words s = tt
parts Sync words s = tt

pub spelled_parts : (line : List ℕ) (command : Command) → command_of line ≡ Ok command → HasParts command
spelled_parts line command is =
    let spells = (read_as_spelled line command).0 is in
    parts command spells.words.0 spells.words.3
