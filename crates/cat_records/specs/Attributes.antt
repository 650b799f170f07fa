-- Attribute records as they stand in bytes, all numbers big-endian (TN1150, "Attributes File").
use Rattle.std.specs.Prelude.{ℕ, ◌+◌, ◌%◌, Bool, ◌&&◌, nat_lt, nat_le, ◌==◌, if◌then◌else◌, false, List, ◌++◌, length, take, drop, replicate, Option, Some, None}
use Rattle.hx_bytes.specs.Field.{big, big_at, put_at}
use Rattle.hx_bytes.specs.Fork.{fork_at, fork_bytes, extents_at, extents_bytes}
use Rattle.cat_records.specs.declared.attribute.AttrRecord.{AttrRecord}
use Rattle.cat_records.specs.declared.attribute.AttrRecord.TheVariants.{Inline, Fork, More}
use Rattle.cat_records.specs.declared.fault.RecordFault.{RecordFault}
use Rattle.cat_records.specs.Records.{bad_record}

-- the bytes of a record: 0x10 is a value with its size and one zero where the size is odd, 0x20 a fork, 0x30 more of its
-- extents. Reserved words are zero.
abbrev pub attr_bytes : AttrRecord → List ℕ
attr_bytes (Inline value) = big 4 0x10 ++ replicate 8 0 ++ big 4 (length value) ++ value ++ replicate (length value % 2) 0
attr_bytes (Fork fork) = big 4 0x20 ++ replicate 4 0 ++ fork_bytes fork
attr_bytes (More extents) = big 4 0x30 ++ replicate 4 0 ++ extents_bytes extents

-- the low sixteen bits of the type of a record, or 0 where there are no four bytes for it
abbrev pub attr_kind : List ℕ → ℕ
attr_kind bytes = if nat_lt (length bytes) 4 then 0 else big_at 4 bytes 0 % 65536

-- an inline record has its sixteen bytes, the value, and one byte more where the value's size is odd
abbrev pub has_inline_length : List ℕ → Bool
has_inline_length bytes = nat_le 16 (length bytes) && (length bytes == 16 + big_at 4 bytes 12 + big_at 4 bytes 12 % 2)

-- the type is one of the three, and the length is that of the type
abbrev pub is_attr : List ℕ → Bool
is_attr bytes =
    if nat_lt (length bytes) 4 then false
    else if big_at 4 bytes 0 == 0x10 then has_inline_length bytes
    else if big_at 4 bytes 0 == 0x20 then length bytes == 88
    else if big_at 4 bytes 0 == 0x30 then length bytes == 72
    else false

-- the record in bytes that are one
abbrev pub attr_of : List ℕ → AttrRecord
attr_of bytes =
    if big_at 4 bytes 0 == 0x10 then Inline (take (big_at 4 bytes 12) (drop 16 bytes))
    else if big_at 4 bytes 0 == 0x20 then Fork (fork_at bytes 8)
    else More (extents_at bytes 8)

-- why bytes are no attribute record, or none where they are one
abbrev pub attr_fault : List ℕ → Option RecordFault
attr_fault bytes = if is_attr bytes then None else Some (bad_record (attr_kind bytes) (length bytes))

-- a record with its reserved words and its pad zero
abbrev pub without_reserved : List ℕ → List ℕ
without_reserved bytes =
    if big_at 4 bytes 0 == 0x10 then put_at (put_at bytes 4 (replicate 8 0)) (16 + big_at 4 bytes 12) (replicate (big_at 4 bytes 12 % 2) 0)
    else put_at bytes 4 (replicate 4 0)
