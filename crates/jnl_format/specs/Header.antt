-- The journal header: its fields, its bytes, and its first fault.
use Rattle.std.specs.Prelude.{◌≡◌, ◌<◌, ◌≤◌, ℕ, ◌%◌, Bool, not, ◌&&◌, ◌==◌, nat_le, if◌then◌else◌, List, ◌++◌, take, Option, None, Some, Result, Err}
use Rattle.hx_bytes.specs.Field.{number_at, number_bytes, big, put_at}
use Rattle.hx_bytes.specs.declared.fields.Order.{Order}
use Rattle.hx_bytes.specs.declared.fields.Order.TheVariants.{Little, Big}
use Rattle.jnl_format.specs.Checksum.{checksum_of}
use Rattle.jnl_format.specs.Dialect.{most_blhdr}
use Rattle.jnl_format.specs.Info.{unless_fault}
use Rattle.jnl_format.specs.declared.dialect.Dialect.{Dialect}
use Rattle.jnl_format.specs.declared.dialect.Dialect.TheVariants.{Plain}
use Rattle.jnl_format.specs.declared.structures.Header.{Header}
use Rattle.jnl_format.specs.declared.structures.JnlRefusal.{JnlRefusal}
use Rattle.jnl_format.specs.declared.structures.JnlRefusal.TheVariants.{BadHeader}

-- the order of the machine that wrote the header, by its magic number
abbrev pub order_of : List ℕ → Option Order
order_of sector =
    if number_at Little 4 sector 0 == 0x4A4E4C78 then Some Little else
    (if number_at Big 4 sector 0 == 0x4A4E4C78 then Some Big else None)

-- an offset, of which the journal's end is its buffer's first byte
abbrev pub wrapped : ℕ → ℕ → ℕ
wrapped size at = if at == size then 512 else at

-- the fields that stand in a sector
abbrev pub header_of : Order → ℕ → List ℕ → Header
header_of order size sector = record {
  order = order;
  start = wrapped size (number_at order 8 sector 8);
  end = wrapped size (number_at order 8 sector 16);
  size = number_at order 8 sector 24;
  blhdr = number_at order 4 sector 32;
}

-- the checksum of the 44 bytes of a header, with its own field zero
abbrev pub header_sum : List ℕ → ℕ
header_sum sector = checksum_of (take 44 (put_at sector 36 (big 4 0)))

-- a sector's first byte in the buffer, or the journal's end
abbrev pub is_offset : ℕ → ℕ → Bool
is_offset size at = at % 512 == 0 && nat_le 512 at && nat_le at size

-- whole sectors, from one to as many as the dialect has
abbrev pub is_blhdr_as : Dialect → ℕ → Bool
is_blhdr_as dialect blhdr = blhdr % 512 == 0 && nat_le 512 blhdr && nat_le blhdr (most_blhdr dialect)

-- whole sectors, from one to 128
abbrev pub is_blhdr : ℕ → Bool
is_blhdr = is_blhdr_as Plain

-- the first fault behind the magic number, in a journal of so many bytes, in a dialect
abbrev pub header_fault_as : Dialect → Order → ℕ → List ℕ → Option JnlRefusal
header_fault_as dialect order size sector =
    if not (number_at order 4 sector 4 == 0x12345678) then Some (BadHeader 4) else
    (if not (is_offset size (number_at order 8 sector 8)) then Some (BadHeader 8) else
    (if not (is_offset size (number_at order 8 sector 16)) then Some (BadHeader 16) else
    (if not (number_at order 8 sector 24 == size) then Some (BadHeader 24) else
    (if not (is_blhdr_as dialect (number_at order 4 sector 32)) then Some (BadHeader 32) else
    (if not (number_at order 4 sector 36 == header_sum sector) then Some (BadHeader 36) else
    (if not (number_at order 4 sector 40 == 512) then Some (BadHeader 40) else None))))))

-- the same in the plain dialect
abbrev pub header_fault : Order → ℕ → List ℕ → Option JnlRefusal
header_fault = header_fault_as Plain

-- the header of a sector, read in a dialect and an order, if any
abbrev pub header_in_as : Dialect → Option Order → ℕ → List ℕ → Result Header JnlRefusal
header_in_as dialect None size sector = Err (BadHeader 0)
header_in_as dialect (Some order) size sector = unless_fault (header_fault_as dialect order size sector) (header_of order size sector)

-- the same in the plain dialect
abbrev pub header_in : Option Order → ℕ → List ℕ → Result Header JnlRefusal
header_in = header_in_as Plain

-- what a sector is read as in a dialect, in a journal of so many bytes: a header, or its first fault
abbrev pub header_read_as : Dialect → ℕ → List ℕ → Result Header JnlRefusal
header_read_as dialect size sector = header_in_as dialect (order_of sector) size sector

-- the same in the plain dialect
abbrev pub header_read : ℕ → List ℕ → Result Header JnlRefusal
header_read = header_read_as Plain

-- the 44 bytes of a header, with this checksum
abbrev pub header_spelled : ℕ → Header → List ℕ
header_spelled sum head =
    number_bytes head.order 4 0x4A4E4C78 ++ number_bytes head.order 4 0x12345678 ++ number_bytes head.order 8 head.start ++ number_bytes head.order 8 head.end
    ++ number_bytes head.order 8 head.size ++ number_bytes head.order 4 head.blhdr ++ number_bytes head.order 4 sum ++ number_bytes head.order 4 512

-- the same, with its own checksum
abbrev pub header_bytes : Header → List ℕ
header_bytes head = header_spelled (checksum_of (header_spelled 0 head)) head

-- a header as it is read in a dialect: both offsets in the buffer, and the journal's size
pub record IsHeaderAs (dialect : Dialect) (bytes : ℕ) (head : Header) : Type 0 where
  pub start_whole : head.start % 512 ≡ 0
  pub start_low : 512 ≤ head.start
  pub start_high : head.start < bytes
  pub end_whole : head.end % 512 ≡ 0
  pub end_low : 512 ≤ head.end
  pub end_high : head.end < bytes
  pub size : head.size ≡ bytes
  pub blhdr_whole : head.blhdr % 512 ≡ 0
  pub blhdr_low : 512 ≤ head.blhdr
  pub blhdr_high : head.blhdr ≤ most_blhdr dialect

-- the same in the plain dialect
abbrev pub IsHeader : ℕ → Header → Type 0
IsHeader = IsHeaderAs Plain
