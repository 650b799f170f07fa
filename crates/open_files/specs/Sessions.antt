-- The session of a line: its number, which stands in front.
use Rattle.std.specs.Prelude.{ℕ, zero, suc, ◌+◌, ◌==◌, ◌&&◌, nat_lt, Bool, List, length, take, drop, get_or, decimal, Option, Some, None, if◌then◌else◌}
use Rattle.std.specs.Str.{bytes_eq}

-- a session's number, and the rest of its line
pub record Part : Type 0 where
  pub session : ℕ
  pub rest : List ℕ

-- the line begins with these digits and one space
abbrev pub begins_with : List ℕ → List ℕ → Bool
begins_with digits line = nat_lt (length digits) (length line) && ((get_or line (length digits) 0 == 32) && bytes_eq (take (length digits) line) digits)

-- what stands behind digits and one space, where the line begins with them
abbrev pub behind_digits : List ℕ → List ℕ → Option (List ℕ)
behind_digits digits line = if begins_with digits line then Some (drop (length digits + 1) line) else None

-- what stands behind a number's decimal digits and one space, where the line begins with them
abbrev pub behind_number : ℕ → List ℕ → Option (List ℕ)
behind_number number line = behind_digits (decimal number) line

-- the part behind this number, or else the other one
abbrev pub part_behind : ℕ → Option (List ℕ) → Option Part → Option Part
part_behind number (Some rest) other = Some (record { session = number; rest = rest })
part_behind number None other = other

-- the part behind the first of so many numbers, from this one on, with which the line begins
unfoldable pub session_from : List ℕ → ℕ → ℕ → Option Part
session_from line zero number = None
session_from line (suc more) number = part_behind number (behind_number number line) (session_from line more (number + 1))

-- sessions are numbered from 1 to this number
abbrev pub most_sessions : ℕ
most_sessions = 64

-- The session of a line, and the part behind its number and one space; none where the line doesn't begin with a session's number and one space.
abbrev pub session_of : List ℕ → Option Part
session_of line = session_from line most_sessions 1
