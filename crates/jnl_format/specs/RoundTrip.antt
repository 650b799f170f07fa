-- Structures that are written and read again, and the other way round.
use Rattle.std.specs.Prelude.{◌≡◌, ◌<◌, ◌≤◌, ◌+◌, ◌*◌, ◌^◌, ◌↔◌, ℕ, IsTrue, List}
use Rattle.hx_bytes.specs.Field.{number_bytes, put_at}
use Rattle.hx_bytes.specs.declared.fields.Order.{Order}
use Rattle.jnl_format.specs.Header.{header_sum}
use Rattle.jnl_format.specs.List.{list_sum, max_blocks}
use Rattle.jnl_format.specs.declared.structures.Header.{Header}
use Rattle.jnl_format.specs.declared.structures.ListHead.{ListHead}
use Rattle.jnl_format.specs.declared.structures.Entry.{Entry}

-- each field fits its bytes
pub record FitsEntry (entry : Entry) : Type 0 where
  pub bnum : entry.bnum < 2 ^ 64
  pub bsize : entry.bsize < 2 ^ 32
  pub next : entry.next < 2 ^ 32

-- Each field fits its bytes, there is an entry, the entries have room in a list header of so many bytes, and
-- entry 0 says whether the list is the last.
pub record FitsListHead (blhdr : ℕ) (head : ListHead) (first : Entry) : Type 0 where
  pub entries : head.entries < 2 ^ 16
  pub used : head.used < 2 ^ 32
  pub some : 1 ≤ head.entries
  pub room : 16 + 16 * head.entries ≤ blhdr
  pub last : IsTrue head.last ↔ (first.next ≡ 0)

-- a journal header's bytes with these offsets in their fields
abbrev pub with_offsets : Header → List ℕ → List ℕ
with_offsets head sector = put_at (put_at sector 8 (number_bytes head.order 8 head.start)) 16 (number_bytes head.order 8 head.end)

-- the same, with the checksum that follows
abbrev pub header_again : Header → List ℕ → List ℕ
header_again head sector = put_at (with_offsets head sector) 36 (number_bytes head.order 4 (header_sum (with_offsets head sector)))

-- the first 32 bytes of a list, with the number of blocks for which its header has room, and a pad of zero
abbrev pub with_open_fields : Order → ℕ → List ℕ → List ℕ
with_open_fields order blhdr bytes = put_at (put_at bytes 0 (number_bytes order 2 (max_blocks blhdr))) 12 (number_bytes order 4 0)

-- the same, with the checksum that follows
abbrev pub list_again : Order → ℕ → List ℕ → List ℕ
list_again order blhdr bytes = put_at (with_open_fields order blhdr bytes) 8 (number_bytes order 4 (list_sum (with_open_fields order blhdr bytes)))
