-- Block lists: their heads and entries, and the bytes of both.
use Rattle.std.specs.Prelude.{ℕ, ◌+◌, ◌-◌, ◌*◌, ◌/◌, Bool, ◌&&◌, ◌==◌, nat_le, if◌then◌else◌, List, ◌++◌, Option, None, Some, min}
use Rattle.hx_bytes.specs.Field.{number_at, number_bytes, big, put_at}
use Rattle.hx_bytes.specs.declared.fields.Order.{Order}
use Rattle.jnl_format.specs.Checksum.{checksum_of}
use Rattle.jnl_format.specs.declared.structures.ListHead.{ListHead}
use Rattle.jnl_format.specs.declared.structures.Entry.{Entry}

-- the head that stands in the first 32 bytes of a list, entry 0 among them
abbrev pub list_head_of : Order → List ℕ → ListHead
list_head_of order bytes = record { entries = number_at order 2 bytes 2; used = number_at order 4 bytes 4; last = number_at order 4 bytes 28 == 0 }

-- the checksum of these 32 bytes, with its own field zero
abbrev pub list_sum : List ℕ → ℕ
list_sum bytes = checksum_of (put_at bytes 8 (big 4 0))

-- the checksum holds, there is an entry, and the entries have room in the list's header
abbrev pub is_list_head : Order → ℕ → List ℕ → Bool
is_list_head order blhdr bytes =
    number_at order 4 bytes 8 == list_sum bytes && nat_le 1 (number_at order 2 bytes 2) && nat_le (16 + 16 * number_at order 2 bytes 2) blhdr

-- the head that 32 bytes are read as
abbrev pub list_read : Order → ℕ → List ℕ → Option ListHead
list_read order blhdr bytes = if is_list_head order blhdr bytes then Some (list_head_of order bytes) else None

-- the entry that stands in 16 bytes from a place on
abbrev pub entry_at : Order → List ℕ → ℕ → Entry
entry_at order bytes at = record { bnum = number_at order 8 bytes at; bsize = number_at order 4 bytes (at + 8); next = number_at order 4 bytes (at + 12) }

-- the 16 bytes of an entry
abbrev pub entry_bytes : Order → Entry → List ℕ
entry_bytes order entry = number_bytes order 8 entry.bnum ++ number_bytes order 4 entry.bsize ++ number_bytes order 4 entry.next

-- how many blocks a list header of so many bytes has room for
abbrev pub max_blocks : ℕ → ℕ
max_blocks blhdr = min (blhdr / 16 - 1) 65535

-- the first 32 bytes of a list, with this checksum
abbrev pub list_spelled : ℕ → ListHead → Entry → Order → ℕ → List ℕ
list_spelled sum head first order blhdr =
    number_bytes order 2 (max_blocks blhdr) ++ number_bytes order 2 head.entries ++ number_bytes order 4 head.used ++ number_bytes order 4 sum
    ++ number_bytes order 4 0 ++ number_bytes order 8 first.bnum ++ number_bytes order 4 first.bsize ++ number_bytes order 4 first.next

-- the same, with its own checksum
abbrev pub list_bytes : ListHead → Entry → Order → ℕ → List ℕ
list_bytes head first order blhdr = list_spelled (checksum_of (list_spelled 0 head first order blhdr)) head first order blhdr
