-- What a volume stands over, and has what it keeps, is sound.
use Rattle.sector_disk.specs.Space.{Space}
use Rattle.hfs_volume.specs.Sound.{IsSound}
use Rattle.volume_base.specs.Standing.{IsSettled, IsStanding}
use Rattle.volume_base.specs.declared.volume.Volume.{Volume}
use Rattle.volume_base.proofs.Resettling.{trees_here}
use Rattle.volume_base.proofs.Settling.{header_settled}

pub sound_here : (v : Volume) (space : Space) → IsStanding v space → IsSettled v space.content → IsSound space.content
sound_here v space stands settled = record { trees = trees_here v space stands (header_settled v space.content settled); volume = settled.sound }
