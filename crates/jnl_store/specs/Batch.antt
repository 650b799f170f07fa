-- The puts of a batch.
use Rattle.std.specs.Prelude.{◌≡◌, ◌⊎◌, ◌≤◌, ◌+◌, ◌==◌, ◌||◌, ℕ, zero, suc, Bool, true, false, not, bytes_eq, if◌then◌else◌, List, [], ◌∷◌, ◌++◌, length, slice_set, take, Option, None, Some}
use Rattle.jnl_format.specs.declared.blocks.Home.{Home}
use Rattle.jnl_store.specs.declared.puts.Put.{Put}

-- what was put since the last commit, the same at the last keep, each sector that a live list names with the place of
-- its newest bytes, how many sectors may be put, and how many may be live beside them
pub record Staged : Type 0 where
  pub all : List Put
  pub kept : List Put
  pub live : List Home
  pub room : ℕ
  pub most : ℕ

-- one of these puts is of this sector
abbrev pub names : List Put → ℕ → Bool
names [] at = false
names (put ∷ puts) at = at == put.at || names puts at

-- the put with this number is of this sector
abbrev pub has : List Put → ℕ → ℕ → Type 0
has [] k at = ⊥
has (put ∷ puts) zero at = put.at ≡ at
has (put ∷ puts) (suc k) at = has puts k at

-- each sector is put once
abbrev pub AreOnce : List Put → Type 0
AreOnce [] = Unit {0}
AreOnce (put ∷ puts) = (names puts put.at ≡ false) × AreOnce puts

-- the bytes that these puts have for a sector
abbrev pub bytes_of : List Put → ℕ → Option (List ℕ)
bytes_of [] at = None
bytes_of (put ∷ puts) at = if at == put.at then Some put.bytes else bytes_of puts at

-- the put of a sector, where there is one
abbrev pub put_in : List Put → ℕ → Option Put
put_in [] at = None
put_in (put ∷ puts) at = if at == put.at then Some put else put_in puts at

abbrev pub or_put : Option Put → Put → Put
or_put None put = put
or_put (Some old) put = old

-- a put as it was, where that was saved
abbrev pub saved_or : List Put → Put → Put
saved_or saved put = or_put (put_in saved put.at) put

-- the first so many puts, each as it was where that was saved
abbrev pub restored : List Put → List Put → ℕ → List Put
restored [] saved count = []
restored (put ∷ puts) saved zero = []
restored (put ∷ puts) saved (suc count) = saved_or saved put ∷ restored puts saved count

-- these puts, of which the first so many are as they were where that was saved
abbrev pub restored_front : List Put → List Put → ℕ → List Put
restored_front [] saved count = []
restored_front (put ∷ puts) saved zero = put ∷ puts
restored_front (put ∷ puts) saved (suc count) = saved_or saved put ∷ restored_front puts saved count

-- a put joined the others at their end, or stands in the place of its sector's
abbrev pub IsPlaced : List Put → Put → List Put → Type 0
IsPlaced old put new = ((names old put.at ≡ false) × (new ≡ old ++ put ∷ [])) ⊎ ((k : ℕ) × has old k put.at × (new ≡ slice_set old k put))

-- with a put more, where its sector has none
abbrev pub with_put : List Put → Put → List Put
with_put puts put = if names puts put.at then puts else puts ++ put ∷ []

-- no bytes both times, or the same
abbrev pub is_same : Option (List ℕ) → Option (List ℕ) → Bool
is_same None None = true
is_same None (Some b) = false
is_same (Some a) None = false
is_same (Some a) (Some b) = bytes_eq a b

-- what was put into this sector isn't what was kept of it
abbrev pub is_dropped : List Put → List Put → ℕ → Bool
is_dropped all kept at = not (is_same (bytes_of all at) (bytes_of kept at))

-- So many of the puts were there at the last keep, and what these had then is saved of those that were put again since. There is memory for the
-- room, in each list, and for what may be live beside it.
pub record IsBatch (all saved : List Put) (count room most memory more of_live : ℕ) : Type 0 where
  pub some : length all ≤ room
  pub kept_some : count ≤ length all
  pub of_kept : (s : ℕ) → names saved s ≡ true → names (take count all) s ≡ true
  pub enough : room ≤ memory
  pub enough_saved : room ≤ more
  pub enough_live : most + room ≤ of_live
