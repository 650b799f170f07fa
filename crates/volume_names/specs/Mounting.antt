-- The header's mark of whether a volume is in use.
use Rattle.std.specs.Prelude.{bit_or, Bool, true, false}
use Rattle.volume_header.specs.declared.header.VolumeHeader.{VolumeHeader}
use Rattle.hfs_volume.specs.Reclaim.{mounted_header}

-- the header as the end of a run writes it: unmounted
abbrev pub unmounted_header : VolumeHeader → VolumeHeader
unmounted_header head = record head { attributes = bit_or head.attributes 256 }

-- the header as a mount writes it (true), or the end of a run
abbrev pub marked_header : Bool → VolumeHeader → VolumeHeader
marked_header true head = mounted_header head
marked_header false head = unmounted_header head
