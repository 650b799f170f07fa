-- A journal that its run has emptied.
use Rattle.std.specs.Prelude.{◌≡◌}
use Rattle.sector_disk.specs.Disk.{State, HasNothingPending, content}
use Rattle.sector_disk.specs.Space.{Space}
use Rattle.jnl_format.specs.Recovery.{Journal}
use Rattle.hfs_volume.specs.Mount.{HasJournal}

-- Nothing is pending, what is durable is the disk's own content, and its journal is empty.
pub record IsRested (space : Space) (disk : State) : Type 0 where
  pub settled : HasNothingPending disk
  pub durable : space.durable ≡ content disk
  pub empty : (journal : Journal) × HasJournal (content disk) journal × (journal.header.start ≡ journal.header.end)
