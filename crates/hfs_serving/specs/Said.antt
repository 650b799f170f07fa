-- What a run tells: the replies of its entries, and what they changed.
use Rattle.std.specs.Prelude.{◌++◌, [], ℕ, List}
use Rattle.volume_runs.specs.Run.{Entry, replies_of}
use Rattle.volume_runs.specs.Told.{changes_in}
use Rattle.hfs_serving.specs.declared.volume.ToTell.{ToTell}

-- nothing
abbrev pub untold : ToTell
untold = record { replies = []; changes = [] }

-- one behind the other
abbrev pub joined : ToTell → ToTell → ToTell
joined before after = record { replies = before.replies ++ after.replies; changes = before.changes ++ after.changes }

-- what a run tells whose first line has this number
abbrev pub said_of : ℕ → List Entry → ToTell
said_of number run = record { replies = replies_of run; changes = changes_in number run }
