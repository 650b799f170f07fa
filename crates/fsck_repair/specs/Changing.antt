-- Changes of a content to what its repair has.
use Rattle.std.specs.Prelude.{◌≡◌, ◌⊎◌, ◌<◌, ◌==◌, ◌||◌, ◌-◌, nat_lt, ℕ, Bool, List, [], ◌∷◌, ◌++◌, length, slice_index_or, Contains, if◌then◌else◌}
use Rattle.std.specs.Str.{bytes_eq}
use Rattle.hx_bytes.specs.Field.{AreBytes}
use Rattle.sector_disk.specs.Lists.{Content, sector}
use Rattle.volume_repair.specs.Repair.{sector_mended}
use Rattle.fsck_repair.specs.Overlay.{places_of}
use Rattle.fsck_repair.specs.declared.mend.Change.{Change}

-- a sector of the content is to have the bytes that it has in the repair, which are others than its own
pub record IsRightChange (content : Content) (change : Change) : Type 0 where
  pub inside : change.at < length content
  pub bytes : change.bytes ≡ sector_mended content change.at
  pub differs : ¬ (change.bytes ≡ sector content change.at)
  pub are : AreBytes change.bytes

-- past the end of a list of changes
abbrev pub no_change : Change
no_change = record { at = 0; bytes = [] }

-- each change is one
abbrev pub AreRight : Content → List Change → Type 0
AreRight content changes = (change : Change) → Contains changes change → IsRightChange content change

-- a sector of the content is as it is in the repair, or changes
abbrev pub IsSettled : Content → List Change → ℕ → Type 0
IsSettled content changes at = at < length content → (sector_mended content at ≡ sector content at) ⊎ Contains (places_of changes) at

-- changes with that of one sector more, where its bytes differ
abbrev pub noted : List Change → ℕ → List ℕ → List ℕ → List Change
noted changes at old new = if bytes_eq old new then changes else changes ++ record { at = at; bytes = new } ∷ []

-- the change is of a sector behind that of the last one
abbrev pub is_behind : List Change → ℕ → Bool
is_behind changes at = (length changes == 0) || nat_lt (slice_index_or changes (length changes - 1) no_change).at at

-- changes with one more, where that is so
abbrev pub behind_added : List Change → Change → List Change
behind_added changes change = if is_behind changes change.at then changes ++ change ∷ [] else changes

-- Changes of these sectors were noted, behind others.
pub record Notes (content : Content) (places : ℕ → Type 0) (old new : List Change) : Type 0 where
  pub right : AreRight content old → AreRight content new
  pub stays : (at : ℕ) → Contains (places_of old) at → Contains (places_of new) at
  pub settled : (at : ℕ) → places at → IsSettled content new at

-- changes with one more, where that is so and it is of one of so many sectors
abbrev pub fitting_added : ℕ → List Change → Change → List Change
fitting_added sectors changes change = if nat_lt change.at sectors then behind_added changes change else changes

-- Changes of so many sectors in the order of these: those of another list, each sector once.
pub record IsInOrder (sectors : ℕ) (old new : List Change) : Type 0 where
  pub sound : (change : Change) → Contains new change → Contains old change
  pub inside : (change : Change) → Contains new change → change.at < sectors
  pub whole : (at : ℕ) → at < sectors → Contains (places_of old) at → Contains (places_of new) at
