-- The journal info block: its fields, its bytes, and its first fault.
use Rattle.std.specs.Prelude.{◌≡◌, ◌≤◌, true, false, ℕ, ◌+◌, ◌*◌, ◌%◌, Bool, not, ◌&&◌, ◌||◌, ◌==◌, nat_le, nat_lt, if◌then◌else◌, List, bit_and, Option, None, Some, Result, Ok, Err}
use Rattle.hx_bytes.specs.Field.{big_at, big, put_at}
use Rattle.jnl_format.specs.declared.structures.Info.{Info}
use Rattle.jnl_format.specs.declared.structures.JnlRefusal.{JnlRefusal}
use Rattle.jnl_format.specs.declared.structures.JnlRefusal.TheVariants.{OtherDevice, BadInfo}

-- the fields that stand in a sector
abbrev pub info_of : List ℕ → Info
info_of sector = record { flags = big_at 4 sector 0; offset = big_at 8 sector 36; size = big_at 8 sector 44 }

-- the sector with these fields in their places, and the rest of it as it was
abbrev pub with_info : Info → List ℕ → List ℕ
with_info info old = put_at (put_at (put_at old 0 (big 4 info.flags)) 36 (big 8 info.offset)) 44 (big 8 info.size)

-- the journal lies on another device
abbrev pub is_elsewhere : Info → Bool
is_elsewhere info = not (bit_and info.flags 2 == 0)

-- the journal lies on this volume
abbrev pub is_here : Info → Bool
is_here info = not (bit_and info.flags 1 == 0)

-- the journal still has to be initialised, and counts as empty
abbrev pub is_fresh : Info → Bool
is_fresh info = not (bit_and info.flags 4 == 0)

-- whole sectors, three at least, that end inside a volume of so many bytes
abbrev pub is_sized : ℕ → Info → Bool
is_sized volume info = info.size % 512 == 0 && nat_le 1536 info.size && nat_le (info.offset + info.size) volume

-- The first fault of the info block on a volume of so many bytes: another device, and else the field with
-- the least offset. `taken` says that the journal would hold a sector that it must not hold.
abbrev pub info_fault : ℕ → Bool → Info → Option JnlRefusal
info_fault volume taken info =
    if is_elsewhere info then Some OtherDevice else
    (if not (is_here info) then Some (BadInfo 0) else
    (if not (info.offset % 512 == 0) || taken then Some (BadInfo 36) else
    (if not (is_sized volume info) then Some (BadInfo 44) else None)))

-- a byte of this sector lies in the journal
abbrev pub holds : Info → ℕ → Bool
holds info sector = nat_lt info.offset ((sector + 1) * 512) && nat_lt (sector * 512) (info.offset + info.size)

-- what stands, unless there is a fault
abbrev pub unless_fault : {T : Type 0} → Option JnlRefusal → T → Result T JnlRefusal
unless_fault None value = Ok value
unless_fault (Some fault) value = Err fault

-- an info block without a fault, on a volume of so many bytes
pub record IsInfo (volume at : ℕ) (info : Info) : Type 0 where
  pub here : is_here info ≡ true
  pub not_elsewhere : is_elsewhere info ≡ false
  pub offset_whole : info.offset % 512 ≡ 0
  pub size_whole : info.size % 512 ≡ 0
  pub least : 1536 ≤ info.size
  pub inside : info.offset + info.size ≤ volume
  pub no_header : holds info 2 ≡ false
  pub no_info : holds info at ≡ false
