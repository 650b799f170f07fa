-- What a reader answers, where it may find no memory.
use Rattle.std.specs.Prelude.{◌≡◌, ℕ, List, [], ◌∷◌, ◌++◌, Option, Some, None, Result, Ok, Err}
pub use Rattle.hfs_language.specs.Language.{rank, earlier, both, after}
use Rattle.hfs_language.specs.declared.refusal.Refusal.{Refusal}
use Rattle.cmd_lang.specs.declared.fault.LineFault.{LineFault}
use Rattle.cmd_lang.specs.declared.fault.LineFault.TheVariants.{No, Memory}

-- the answer is this value or refusal, or there was no memory
abbrev pub Reads : {X : Type 0} → Result X Refusal → Result X LineFault → Type 0
Reads wanted (Ok x) = wanted ≡ Ok x
Reads wanted (Err (No why)) = wanted ≡ Err why
Reads wanted (Err Memory) = Unit {0}

-- both values, or the first refusal of the two, or no memory
abbrev pub both_read : {X Y : Type 0} → Result X LineFault → Result Y LineFault → Result (X × Y) LineFault
both_read (Ok x) (Ok y) = Ok (x, y)
both_read (Ok x) (Err fault) = Err fault
both_read (Err Memory) other = Err Memory
both_read (Err (No why)) (Ok y) = Err (No why)
both_read (Err (No why)) (Err Memory) = Err Memory
both_read (Err (No one)) (Err (No other)) = Err (No (earlier one other))

-- the first of the refusals so far and another
abbrev pub first_refusal : Option Refusal → Refusal → Refusal
first_refusal None why = why
first_refusal (Some before) why = earlier before why

-- the names read so far, or the first refusal of one of them
abbrev pub read_so_far : Option Refusal → List (List ℕ) → Result (List (List ℕ)) Refusal
read_so_far None names = Ok names
read_so_far (Some why) names = Err why

-- names behind others
abbrev pub behind : List (List ℕ) × List (List ℕ) → List (List ℕ)
behind pair = pair.0 ++ pair.1

-- what comes of a path, where so much is read and so much is still to come
abbrev pub with_rest : Result (List (List ℕ)) Refusal → Result (List (List ℕ)) Refusal → Result (List (List ℕ)) Refusal
with_rest front rest = after behind (both front rest)

-- one name behind the others
abbrev pub pushed : List (List ℕ) × List ℕ → List (List ℕ)
pushed pair = pair.0 ++ pair.1 ∷ []

-- what comes of the names read so far and the next
abbrev pub with_next : Result (List (List ℕ)) Refusal → Result (List ℕ) Refusal → Result (List (List ℕ)) Refusal
with_next front name = after pushed (both front name)
