-- Why `ln`, `write` and `trunc` are refused, by what `stat` tells and by the place of a new name.
use Rattle.std.specs.Prelude.{ℕ, ◌+◌, ◌||◌, nat_lt, nat_le, Bool, true, false, Option, None, Some, Result, Ok, Err, if◌then◌else◌}
use Rattle.hfs_language.specs.declared.refusal.Refusal.{Refusal}
use Rattle.hfs_language.specs.declared.refusal.Refusal.TheVariants as refusal
use Rattle.hfs_language.specs.declared.reply.Facts.{Facts}
use Rattle.hfs_language.specs.declared.reply.Reply.{Reply}
use Rattle.hfs_language.specs.declared.reply.Reply.TheVariants as reply
use Rattle.hfs_model.specs.Step.{most_bytes, most_links, most_size}

-- the refusal that a reply tells, if it is one
abbrev pub refusal_in : Reply → Option Refusal
refusal_in (reply.No why) = Some why
refusal_in reply.Ok = None
refusal_in (reply.Listing list) = None
refusal_in (reply.Facts told) = None
refusal_in (reply.Content bytes) = None
refusal_in (reply.Gauge gauge) = None

-- what `stat` tells of a folder or file, or why it tells nothing
abbrev pub facts_or : Reply → Result Facts Refusal
facts_or (reply.Facts told) = Ok told
facts_or (reply.No why) = Err why
facts_or reply.Ok = Err refusal.NotFound
facts_or (reply.Listing list) = Err refusal.NotFound
facts_or (reply.Content bytes) = Err refusal.NotFound
facts_or (reply.Gauge gauge) = Err refusal.NotFound

-- what stands against a command on a file of which this is told
abbrev pub against : Result Facts Refusal → (Facts → Option Refusal) → Option Refusal
against (Ok told) next = next told
against (Err why) next = Some why

-- so many bytes from a place on
abbrev pub against_write : ℕ → ℕ → Facts → Option Refusal
against_write from long told =
    if told.folder then Some refusal.IsFolder
    else if nat_lt most_size (from + long) || nat_lt most_bytes long then Some refusal.TooLarge
    else None

-- what speaks against giving a file another size, by what `stat` told of it
abbrev pub against_trunc : ℕ → Facts → Option Refusal
against_trunc size told =
    if told.folder then Some refusal.IsFolder
    else if nat_lt most_size size then Some refusal.TooLarge
    else None

abbrev pub is_exists : Refusal → Bool
is_exists refusal.Exists = true
is_exists _ = false

-- another name of it, for which this was found to be the place
abbrev pub against_link : Result ℕ Refusal → Facts → Option Refusal
against_link (Err why) told = if is_exists why then (if told.folder then Some refusal.IsFolder else Some refusal.Exists) else Some why
against_link (Ok folder) told = if told.folder then Some refusal.IsFolder else if nat_le most_links told.links then Some refusal.TooManyLinks else None
