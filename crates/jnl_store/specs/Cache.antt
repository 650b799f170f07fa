-- Slots that keep sectors of a content. A sector's slot is the one with its number modulo their count.
use Rattle.std.specs.Prelude.{◌≡◌, ◌<◌, ◌≢◌, ◌⊎◌, [], ◌∷◌, ◌%◌, ◌==◌, ℕ, Bool, true, false, if◌then◌else◌, List, length, slice_index_or, slice_set, Option, None, Some}
use Rattle.std.proofs.Common.{inl, inr}
use Rattle.std.proofs.lemmas.Bool.{cases_eq}
use Rattle.sector_disk.specs.Lists.{Content, run_of, sector}
use Rattle.jnl_replay.specs.declared.plan.Plan.{Plan}
use Rattle.jnl_store.specs.Batch.{is_dropped}
use Rattle.jnl_store.specs.Journal.{is_closed}
use Rattle.jnl_store.specs.Own.{NamesNone}
use Rattle.jnl_store.specs.declared.own.Own.{Own}
use Rattle.jnl_store.specs.declared.puts.Put.{Put}

-- each is empty, or keeps the bytes of one sector
abbrev pub Slots : Type 0
Slots = List (Option Put)

-- what the slot of this sector is that keeps these bytes, which are 512
abbrev pub sized_slot : (at : ℕ) (bytes : List ℕ) → (length bytes ≡ 512) ⊎ (length bytes ≢ 512) → Option Put
sized_slot at bytes (inl whole) = Some (record { at = at; bytes = bytes; whole = whole })
sized_slot at bytes (inr other) = None

-- a slot, by the sector that it names and by its bytes
abbrev pub slot_with : Option ℕ → List ℕ → Option Put
slot_with None bytes = None
slot_with (Some at) bytes = sized_slot at bytes (cases_eq (length bytes) 512)

-- slots, by the sectors that they name and by their bytes
abbrev pub slots_with : List (Option ℕ) → List (List ℕ) → Slots
slots_with [] bytes = []
slots_with (name ∷ names) [] = None ∷ slots_with names []
slots_with (name ∷ names) (first ∷ bytes) = slot_with name first ∷ slots_with names bytes

-- there is a sector of 512 bytes for each slot
abbrev pub AreSlots : List (Option ℕ) → List (List ℕ) → Type 0
AreSlots names bytes = (length bytes ≡ length names) × ((k : ℕ) → k < length bytes → length (sector bytes k) ≡ 512)

-- the same, and where no slot may name a sector of the journal, none does
pub record IsCache (names : List (Option ℕ)) (bytes : List (List ℕ)) (own : Own) (may_own : Bool) : Type 0 where
  pub slots : AreSlots names bytes
  pub none : may_own ≡ false → NamesNone own names

-- the slot of a sector
abbrev pub slot_of : Slots → ℕ → Option Put
slot_of slots at = slice_index_or slots (at % length slots) None

-- a slot names this sector
abbrev pub is_of : Option Put → ℕ → Bool
is_of None at = false
is_of (Some put) at = put.at == at

-- the slot of this sector names it
abbrev pub holds : Slots → ℕ → Bool
holds slots at = is_of (slot_of slots at) at

-- the slots, with this in the slot of a sector
abbrev pub with_slot : Slots → ℕ → Option Put → Slots
with_slot slots at slot = slice_set slots (at % length slots) slot

-- the slot of this sector, where there is one, names it and keeps these bytes, and the others are as they were
abbrev pub IsKept : Slots → ℕ → List ℕ → Slots → Type 0
IsKept old at bytes new = (put : Put) × (put.at ≡ at) × (put.bytes ≡ bytes) × (new ≡ with_slot old at (Some put))

-- each slot that isn't empty names a sector of its own, and keeps the bytes that this content has there
abbrev pub AreCached : Slots → Content → Type 0
AreCached slots content =
    (k : ℕ) (put : Put) → k < length slots → slice_index_or slots k None ≡ Some put → (put.at % length slots ≡ k) × (sector content put.at ≡ put.bytes)

-- these are the bytes that any content has in so many sectors from this one on, if the slots keep what it has
abbrev pub KeepsRun : Slots → ℕ → ℕ → List ℕ → Type 0
KeepsRun slots at many bytes = (content : Content) → AreCached slots content → bytes ≡ run_of content at many

-- each slot but that of this sector is as it was
abbrev pub OthersStand : ℕ → Slots → Slots → Type 0
OthersStand at old new = (length new ≡ length old) × ((k : ℕ) → k ≢ at % length old → slice_index_or new k None ≡ slice_index_or old k None)

-- a slot names what it named, and is as it was where that isn't a sector of the journal
abbrev pub IsReread : Plan → Option Put → Option Put → Type 0
IsReread plan None new = new ≡ None
IsReread plan (Some put) new = (now : Put) × (new ≡ Some now) × (now.at ≡ put.at) × (is_closed plan put.at ≡ false → now ≡ put)

-- a slot of a sector of the journal keeps what this content has there
abbrev pub IsRead : Plan → Content → Option Put → Type 0
IsRead plan content None = Unit {0}
IsRead plan content (Some put) = is_closed plan put.at ≡ true → put.bytes ≡ sector content put.at

-- the same of each slot: what it names stays, and what it keeps too where that is no sector of the journal
abbrev pub EachReread : Plan → Slots → Slots → Type 0
EachReread plan old new = (length new ≡ length old) × ((k : ℕ) → k < length old → IsReread plan (slice_index_or old k None) (slice_index_or new k None))

-- each slot of a sector of the journal keeps what this content has there
abbrev pub AreRead : Plan → Content → Slots → Type 0
AreRead plan content slots = (k : ℕ) → k < length slots → IsRead plan content (slice_index_or slots k None)

-- a slot without a sector that an undo changes
abbrev pub undone_slot : List Put → List Put → Option Put → Option Put
undone_slot all kept None = None
undone_slot all kept (Some put) = if is_dropped all kept put.at then None else Some put

-- what a slot without a sector that an undo changes names
abbrev pub undone_name : List Put → List Put → Option ℕ → Option ℕ
undone_name all kept None = None
undone_name all kept (Some at) = if is_dropped all kept at then None else Some at

-- each slot becomes this of what it was
abbrev pub EachBecomes : (Option Put → Option Put) → Slots → Slots → Type 0
EachBecomes become old new = (length new ≡ length old) × ((k : ℕ) → k < length old → slice_index_or new k None ≡ become (slice_index_or old k None))
