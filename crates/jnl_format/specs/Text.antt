-- The block lists of a journal's text: what each must be, and where its blocks belong.
-- Places are counted in bytes from the text's first.
use Rattle.std.specs.Prelude.{ℕ, zero, suc, ◌+◌, ◌-◌, ◌*◌, ◌/◌, ◌%◌, ◌^◌, Bool, true, not, ◌&&◌, ◌||◌, ◌==◌, nat_le, nat_lt, if◌then◌else◌, List, [], ◌∷◌, ◌++◌, length, take, drop, Option, None, Some, is_none}
use Rattle.std.specs.Int.{bit_at}
use Rattle.hx_bytes.specs.declared.fields.Order.{Order}
use Rattle.volume_header.specs.Header.{header_of}
use Rattle.volume_header.specs.Refusal.{header_refusal}
use Rattle.volume_header.specs.declared.header.VolumeHeader.{VolumeHeader}
use Rattle.jnl_format.specs.Dialect.{may_end}
use Rattle.jnl_format.specs.List.{list_head_of, is_list_head, entry_at}
use Rattle.jnl_format.specs.declared.blocks.Home.{Home}
use Rattle.jnl_format.specs.declared.blocks.Volume.{Volume}
use Rattle.jnl_format.specs.declared.dialect.Dialect.{Dialect}
use Rattle.jnl_format.specs.declared.dialect.Dialect.TheVariants.{Plain}
use Rattle.jnl_format.specs.declared.structures.ListHead.{ListHead}
use Rattle.jnl_format.specs.declared.structures.Entry.{Entry}

-- so many bytes from a place on
abbrev pub bytes_at : List ℕ → ℕ → ℕ → List ℕ
bytes_at text at count = take count (drop at text)

-- a number of all ones: the block's bytes are skipped
abbrev pub is_skipped : Entry → Bool
is_skipped entry = entry.bnum == 2 ^ 64 - 1

-- this sector is one of the block's
abbrev pub covers : Entry → ℕ → Bool
covers entry sector = nat_le entry.bnum sector && nat_lt sector (entry.bnum + entry.bsize / 512)

-- whole sectors, one at least, all on the volume
abbrev pub is_inside : Volume → Entry → Bool
is_inside volume entry = nat_lt 0 entry.bsize && entry.bsize % 512 == 0 && nat_le (entry.bnum + entry.bsize / 512) volume.sectors

-- none of the block's sectors is the journal's or the info block's
abbrev pub is_apart : Volume → Entry → Bool
is_apart volume entry = (nat_le (entry.bnum + entry.bsize / 512) volume.first || nat_le (volume.first + volume.count) entry.bnum) && not (covers entry volume.info_sector)

-- the same signature, version and last mounted version
abbrev pub is_same_kind : VolumeHeader → VolumeHeader → Bool
is_same_kind old new = new.signature == old.signature && new.version == old.version && new.last_mounted_version == old.last_mounted_version

-- the same info block, and the same allocation blocks
abbrev pub is_same_layout : VolumeHeader → VolumeHeader → Bool
is_same_layout old new = new.journal_info_block == old.journal_info_block && new.block_size == old.block_size && new.total_blocks == old.total_blocks

-- the same attribute bits 12, 13 and 15
abbrev pub has_same_bits : ℕ → ℕ → Bool
has_same_bits old new = bit_at new 12 == bit_at old 12 && bit_at new 13 == bit_at old 13 && bit_at new 15 == bit_at old 15

-- a header of the same volume
unfoldable pub is_same_volume : VolumeHeader → VolumeHeader → Bool
is_same_volume old new = is_same_kind old new && is_same_layout old new && has_same_bits old.attributes new.attributes

-- this sector holds an accepted header of the same volume
abbrev pub keeps_volume : Volume → List ℕ → Bool
keeps_volume volume sector = is_none (header_refusal (header_of sector) volume.sectors) && is_same_volume volume.header (header_of sector)

-- where the block, which stands at `body`, covers the volume header, it holds one of the same volume there
abbrev pub keeps_header : Volume → List ℕ → ℕ → Entry → Bool
keeps_header volume text body entry = not (covers entry 2) || keeps_volume volume (bytes_at text (body + (2 - entry.bnum) * 512) 512)

-- what a block must be
abbrev pub is_block : Volume → List ℕ → ℕ → Entry → Bool
is_block volume text body entry = is_skipped entry || (is_inside volume entry && is_apart volume entry && keeps_header volume text body entry)

-- what the blocks of so many entries must be; the entries stand at `at`, and their blocks at `body`
abbrev pub are_blocks : Volume → Order → List ℕ → ℕ → ℕ → ℕ → Bool
are_blocks volume order text at body zero = true
are_blocks volume order text at body (suc count) =
    is_block volume text body (entry_at order text at) && are_blocks volume order text (at + 16) (body + (entry_at order text at).bsize) count

-- how many bytes these blocks have
abbrev pub block_bytes : Order → List ℕ → ℕ → ℕ → ℕ
block_bytes order text at zero = 0
block_bytes order text at (suc count) = (entry_at order text at).bsize + block_bytes order text (at + 16) count

-- the head of the list at a place
abbrev pub head_at : Order → List ℕ → ℕ → ListHead
head_at order text at = list_head_of order (bytes_at text at 32)

-- The list at a place: its header lies in the text and is one, its blocks fill what it says it uses, that
-- lies in the text too, each block is as it must be, and the text's last list is one behind which it may end.
unfoldable pub is_list_as : Dialect → Volume → Order → ℕ → List ℕ → ℕ → Bool
is_list_as dialect volume order blhdr text at =
    nat_le (at + blhdr) (length text)
    && is_list_head order blhdr (bytes_at text at 32)
    && (head_at order text at).used == blhdr + block_bytes order text (at + 32) ((head_at order text at).entries - 1)
    && nat_le (at + (head_at order text at).used) (length text)
    && are_blocks volume order text (at + 32) (at + blhdr) ((head_at order text at).entries - 1)
    && (may_end dialect (head_at order text at).last || nat_lt (at + (head_at order text at).used) (length text))

-- the same in the plain dialect: the text's last list is the last of its transaction
abbrev pub is_list : Volume → Order → ℕ → List ℕ → ℕ → Bool
is_list = is_list_as Plain

-- The place of the first of the lists from `at` on that isn't as it must be in a dialect. There are at most `count` of
-- them, since each has a byte.
abbrev pub bad_list_as : Dialect → Volume → Order → ℕ → List ℕ → ℕ → ℕ → Option ℕ
bad_list_as dialect volume order blhdr text zero at = None
bad_list_as dialect volume order blhdr text (suc count) at =
    if nat_le (length text) at then None else
    (if not (is_list_as dialect volume order blhdr text at) then Some at else bad_list_as dialect volume order blhdr text count (at + (head_at order text at).used))

-- the same in the plain dialect
abbrev pub bad_list : Volume → Order → ℕ → List ℕ → ℕ → ℕ → Option ℕ
bad_list = bad_list_as Plain

-- so many sectors, with the bytes from a place on
abbrev pub sector_homes : ℕ → ℕ → ℕ → List Home
sector_homes sector place zero = []
sector_homes sector place (suc count) = record { sector = sector; place = place } ∷ sector_homes (sector + 1) (place + 512) count

-- the sectors of a block
abbrev pub block_homes : Entry → ℕ → List Home
block_homes entry body = if is_skipped entry then [] else sector_homes entry.bnum body (entry.bsize / 512)

-- the sectors of the blocks of so many entries, in order
abbrev pub entry_homes : Order → List ℕ → ℕ → ℕ → ℕ → List Home
entry_homes order text at body zero = []
entry_homes order text at body (suc count) =
    block_homes (entry_at order text at) body ++ entry_homes order text (at + 16) (body + (entry_at order text at).bsize) count

-- the sectors of the lists from `at` on, in order
abbrev pub text_homes : Order → ℕ → List ℕ → ℕ → ℕ → List Home
text_homes order blhdr text zero at = []
text_homes order blhdr text (suc count) at =
    if nat_le (length text) at then [] else
    (entry_homes order text (at + 32) (at + blhdr) ((head_at order text at).entries - 1) ++ text_homes order blhdr text count (at + (head_at order text at).used))
