-- Sectors that are kept in memory.
use Rattle.std.specs.Prelude.{◌≡◌, ℕ, Bool, false, ◌==◌, IsTrue, List, length, slice_index_or, slice_set, Option, Some, None}
use Rattle.std.proofs.Common.{◌∙◌}
use Rattle.std.proofs.lemmas.List.{length-set}
use Rattle.sector_disk.specs.Lists.{Content, sector}
use Rattle.sector_disk.specs.Space.{Space}
use Rattle.volume_look.specs.declared.slots.Copied.{Copied}

-- nothing, or a sector as this content has it
abbrev pub IsCopy : Content → Option Copied → Type 0
IsCopy content copied = (one : Copied) → copied ≡ Some one → one.bytes ≡ sector content one.at

-- each slot is empty, or keeps a sector as this content has it
abbrev pub AreCopies : Content → List (Option Copied) → Type 0
AreCopies content slots = (place : ℕ) → IsCopy content (slice_index_or slots place None)

-- a content in which a sector was put, or none
abbrev pub put_over : Option Copied → Content → Content
put_over None content = content
put_over (Some one) content = slice_set content one.at one.bytes

-- this is the sector that was put
abbrev pub is_put : Option Copied → ℕ → Bool
is_put None at = false
is_put (Some one) at = at == one.at

-- there is room for one put
abbrev pub room_beside : Option Copied → ℕ
room_beside None = 1
room_beside (Some one) = 0

-- What is seen of a space that is only read, in which a sector was put, or none.
abbrev pub with_put : Option Copied → Space → Space
with_put put space = record space { content = put_over put space.content; live = λ s. IsTrue (is_put put s); put = is_put put; spare = room_beside put }

pub put_size : (put : Option Copied) (space : Space) → length space.content ≡ space.sectors → length (with_put put space).content ≡ space.sectors
put_size None space size = size
put_size (Some one) space size = length-set space.content one.at one.bytes ∙ size
