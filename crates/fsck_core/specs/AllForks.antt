-- The forks of a volume, record by record.
use Rattle.std.specs.Prelude.{List, [], if◌then◌else◌}
use Rattle.hfs_volume.specs.Records.{Placed, is_empty}
use Rattle.hfs_volume.specs.Forks.{Owned, forks_in}

-- the forks of a record that has a name
abbrev pub forks_at : Placed → List Owned
forks_at placed = if is_empty placed.name then [] else forks_in placed.value
