-- The order of a table's handles.
use Rattle.std.specs.Prelude.{◌≡◌, ℕ, ◌≤◌, ◌==◌, ◌&&◌, ◌||◌, nat_lt, Bool, true, List, [], ◌∷◌}
use Rattle.std.specs.List.{AllByRecursion, list_all}
use Rattle.open_files.specs.declared.act.OpenFile.{OpenFile}

-- by the session's number, then by the handle
abbrev pub handle_before : OpenFile → OpenFile → Bool
handle_before one other = nat_lt one.session other.session || ((one.session == other.session) && nat_lt one.handle other.handle)

-- Each handle stands before all behind it, so that none stands twice.
abbrev pub are_in_order : List OpenFile → Bool
are_in_order [] = true
are_in_order (next ∷ rest) = list_all (handle_before next) rest && are_in_order rest

-- no handle of the session is less
abbrev pub IsLeast : List OpenFile → ℕ → ℕ → Type 0
IsLeast handles session handle = AllByRecursion (λ opened. opened.session ≡ session → handle ≤ opened.handle) handles
