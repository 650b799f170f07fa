-- What was read of a symbolic link.
use Rattle.std.specs.Prelude.{List, ℕ, Option, Some, None, Result, Ok, Err}
use Rattle.hfs_language.specs.declared.refusal.Refusal.{Refusal}
use Rattle.hx_bytes.specs.declared.faults.Trouble.{Trouble}
use Rattle.volume_base.specs.declared.sighting.LinkRead.{LinkRead}
use Rattle.volume_base.specs.declared.sighting.LinkRead.TheVariants as link

-- the bytes of a link, none of a file that isn't one, or the reason against it
abbrev pub read_of : LinkRead → Result (Option (List ℕ)) Refusal
read_of (link.Target bytes) = Ok (Some bytes)
read_of link.NotLink = Ok None
read_of (link.No why) = Err why

-- or why nothing was read
abbrev pub result_of : Result LinkRead Trouble → Result (Result (Option (List ℕ)) Refusal) Trouble
result_of (Ok read) = Ok (read_of read)
result_of (Err trouble) = Err trouble
