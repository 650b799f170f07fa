-- The numbers that words spell by their decimal digits.
use Rattle.std.specs.Prelude.{ℕ, List, Result}
use Rattle.hfs_language.specs.Language.{number_of, within_moment}
use Rattle.hfs_language.specs.declared.refusal.Refusal.{Refusal}

-- a number below 2 ^ 32; any other word is no command
abbrev pub small_number_of : List ℕ → Result ℕ Refusal
small_number_of word = within_moment (number_of word)
