-- Where the last of several blocks of a sector stands in a journal's text.
use Rattle.std.specs.Prelude.{ℕ, Bool, true, false, ◌==◌, if◌then◌else◌, List, [], ◌∷◌, Option, None, Some}
use Rattle.jnl_format.specs.declared.blocks.Home.{Home}

-- this place, where there is one, or else the one before it
abbrev pub or_later : Option ℕ → Option ℕ → Option ℕ
or_later None before = before
or_later (Some place) before = Some place

-- the place of the last of these homes that is of this sector
abbrev pub newest : List Home → ℕ → Option ℕ
newest [] at = None
newest (home ∷ homes) at = or_later (newest homes at) (if at == home.sector then Some home.place else None)

-- no place both times, or the same
abbrev pub is_same_place : Option ℕ → Option ℕ → Bool
is_same_place None None = true
is_same_place None (Some b) = false
is_same_place (Some a) None = false
is_same_place (Some a) (Some b) = a == b
