-- Which headers are accepted on a volume of so many sectors, and the first reason against one that isn't.
use Rattle.std.specs.Prelude.{ℕ, ◌*◌, ◌/◌, Bool, ◌&&◌, ◌||◌, not, nat_lt, nat_le, ◌==◌, if◌then◌else◌, Option, Some, None}
use Rattle.std.specs.Int.{is_power_of_two, bit_at}
use Rattle.volume_header.specs.declared.header.VolumeHeader.{VolumeHeader}
use Rattle.volume_header.specs.declared.refusal.HeaderRefusal.{HeaderRefusal}
use Rattle.volume_header.specs.declared.refusal.HeaderRefusal.TheVariants.{LimitSectors, NotHfsx, BadGeometry, NotJournaled, IdsReused}

-- a bit of the attributes is set
abbrev pub has_bit : ℕ → ℕ → Bool
has_bit attributes bit = bit_at attributes bit == 1

-- the volume was unmounted cleanly
abbrev pub is_unmounted : ℕ → Bool
is_unmounted attributes = has_bit attributes 8

-- catalog ids were used again
abbrev pub has_ids_reused : ℕ → Bool
has_ids_reused attributes = has_bit attributes 12

-- the volume has a journal
abbrev pub is_journaled : ℕ → Bool
is_journaled attributes = has_bit attributes 13

-- the volume is locked by software
abbrev pub is_locked : ℕ → Bool
is_locked attributes = has_bit attributes 15

-- from 2,048 to 2,147,483,648 sectors
abbrev pub is_volume_size : ℕ → Bool
is_volume_size sectors = nat_le 2048 sectors && nat_le sectors 2147483648

-- `HX` and 5
abbrev pub is_hfsx : VolumeHeader → Bool
is_hfsx head = (head.signature == 0x4858) && (head.version == 5)

-- a power of two from 512 to 65,536
abbrev pub is_block_size : ℕ → Bool
is_block_size size = is_power_of_two size && nat_le 512 size && nat_le size 65536

-- as many blocks as the volume's bytes fill, and at most 268,435,456
abbrev pub fits_blocks : VolumeHeader → ℕ → Bool
fits_blocks head sectors = (head.total_blocks == sectors * 512 / head.block_size) && nat_le head.total_blocks 268435456

-- the journal, where there is one, has its info block on the volume
abbrev pub fits_journal : VolumeHeader → Bool
fits_journal head = not (is_journaled head.attributes) || nat_lt head.journal_info_block head.total_blocks

-- the first reason against a header on a volume of so many sectors, or none where it is accepted; a field that
-- doesn't fit the volume is named by its offset
abbrev pub header_refusal : VolumeHeader → ℕ → Option HeaderRefusal
header_refusal head sectors =
    if not (is_volume_size sectors) then Some (LimitSectors sectors)
    else if not (is_hfsx head) then Some (NotHfsx head.signature head.version)
    else if not (is_block_size head.block_size) then Some (BadGeometry 40)
    else if not (fits_blocks head sectors) then Some (BadGeometry 44)
    else if not (fits_journal head) then Some (BadGeometry 12)
    else if not (is_journaled head.attributes) then Some NotJournaled
    else if has_ids_reused head.attributes then Some IdsReused
    else None
