-- The text of a journal: the bytes of its buffer from one offset to another, as one list.
-- A journal fills whole sectors of a content. Its first 512 bytes are its header. The rest is the buffer,
-- in which offset 512 follows the last byte. Offsets are below the journal's size.
use Rattle.std.specs.Prelude.{ℕ, ◌+◌, ◌-◌, ◌/◌, List, ◌++◌, take, drop, nat_lt, nat_le, if◌then◌else◌}
use Rattle.std.specs.List.{concat}

-- the bytes of the journal: those of its sectors, from sector `base` on, `size` bytes in all
unfoldable pub journal_bytes : List (List ℕ) → ℕ → ℕ → List ℕ
journal_bytes content base size = concat (take (size / 512) (drop base content))

-- the buffer's bytes once round, from an offset on
abbrev pub bytes_from : List ℕ → ℕ → List ℕ
bytes_from journal at = drop at journal ++ take (at - 512) (drop 512 journal)

-- how many bytes there are from `start` to `end`
abbrev pub distance : ℕ → ℕ → ℕ → ℕ
distance size start end = if nat_le start end then end - start else (size - 512) - (start - end)

-- the offset so many bytes further on
abbrev pub offset_after : ℕ → ℕ → ℕ → ℕ
offset_after size at by = if nat_lt (at + by) size then at + by else at + by - size + 512

-- the text from `start` to `end`
abbrev pub ring_text : List (List ℕ) → ℕ → ℕ → ℕ → ℕ → List ℕ
ring_text content base size start end = take (distance size start end) (bytes_from (journal_bytes content base size) start)
