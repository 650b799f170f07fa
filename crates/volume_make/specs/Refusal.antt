-- Which volumes can be made, and the first reason against one that can't.
use Rattle.std.specs.Prelude.{ℕ, ◌*◌, ◌/◌, ◌%◌, Bool, ◌&&◌, ◌||◌, not, nat_lt, nat_le, ◌==◌, if◌then◌else◌, List, length, Option, Some, None, Result, Ok, Err}
use Rattle.volume_make.specs.declared.fault.FormatFault.{FormatFault}
use Rattle.volume_make.specs.declared.fault.FormatFault.TheVariants.{TooSmall, TooLarge, BadBlockSize, BadJournalSize, BadName, Disk, Memory}

-- a power of two from 512 to 65,536
abbrev pub is_block_size : ℕ → Bool
is_block_size block =
    block == 512 || block == 1024 || block == 2048 || block == 4096 || block == 8192 || block == 16384 || block == 32768 || block == 65536

-- so many sectors have at most 268,435,456 blocks of this size
abbrev pub fits_blocks : ℕ → ℕ → Bool
fits_blocks sectors block = nat_le (sectors * 512 / block) 268435456

-- a journal of so many sectors: from 512 to 65,536, at most a quarter of the volume, and whole blocks
abbrev pub fits_journal : ℕ → ℕ → ℕ → Bool
fits_journal sectors block journal = nat_le 512 journal && nat_le journal 65536 && nat_le journal (sectors / 4) && journal % (block / 512) == 0

-- a name of 1 to 255 units
abbrev pub is_name : List ℕ → Bool
is_name name = nat_le 1 (length name) && nat_le (length name) 255

-- The first reason against a volume of so many sectors with blocks of so many bytes, a journal of so many sectors and this
-- name, or none where it can be made.
abbrev pub format_refusal : ℕ → ℕ → ℕ → List ℕ → Option FormatFault
format_refusal sectors block journal name =
    if nat_lt sectors 16384 then Some (TooSmall sectors)
    else if nat_lt 2147483648 sectors then Some (TooLarge sectors)
    else if not (is_block_size block) then Some (BadBlockSize block)
    else if not (fits_blocks sectors block) then Some (BadBlockSize block)
    else if not (fits_journal sectors block journal) then Some (BadJournalSize journal)
    else if not (is_name name) then Some BadName
    else None

-- a fault that is a refusal; want of memory and a fault of the disk are none
abbrev pub as_refusal : FormatFault → Option FormatFault
as_refusal (TooSmall sectors) = Some (TooSmall sectors)
as_refusal (TooLarge sectors) = Some (TooLarge sectors)
as_refusal (BadBlockSize block) = Some (BadBlockSize block)
as_refusal (BadJournalSize journal) = Some (BadJournalSize journal)
as_refusal BadName = Some BadName
as_refusal Disk = None
as_refusal Memory = None

-- the refusal that an answer is, if it is one
abbrev pub refusal_in : {T : Type 0} → Result T FormatFault → Option FormatFault
refusal_in (Ok x) = None
refusal_in (Err fault) = as_refusal fault
