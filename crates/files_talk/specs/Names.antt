-- Names that have no word.
use Rattle.std.specs.Prelude.{◌≡◌, ◌⊎◌, ℕ, List, Err}
use Rattle.name_text.specs.declared.piece.NameFault.TheVariants as fault
use Rattle.name_text.specs.Reading.{component}
use Rattle.files_talk.specs.declared.names.NameLack.{NameLack}
use Rattle.files_talk.specs.declared.names.NameLack.TheVariants as lack

-- the characters spell no name, for this reason: what they spell has more than 255 units, or they spell nothing at all
abbrev pub SpellsNone : List ℕ → NameLack → Type 0
SpellsNone text why = ((component text ≡ Err fault.NameTooLong) × (why ≡ lack.TooLong)) ⊎ ((component text ≡ Err fault.BadName) × (why ≡ lack.Unspelled))
