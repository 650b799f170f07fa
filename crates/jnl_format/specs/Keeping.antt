-- What two headers of one volume have in common, and contents that keep a volume's header.
use Rattle.std.specs.Prelude.{◌≡◌, None, length}
use Rattle.std.specs.Int.{bit_at}
use Rattle.volume_header.specs.Refusal.{header_refusal}
use Rattle.volume_header.specs.declared.header.VolumeHeader.{VolumeHeader}
use Rattle.jnl_format.specs.Recovery.{Content, header_of_volume}

-- what two headers of one volume have in common
pub record IsSame (old new : VolumeHeader) : Type 0 where
  pub signature : new.signature ≡ old.signature
  pub version : new.version ≡ old.version
  pub last_mounted : new.last_mounted_version ≡ old.last_mounted_version
  pub info_block : new.journal_info_block ≡ old.journal_info_block
  pub block_size : new.block_size ≡ old.block_size
  pub total_blocks : new.total_blocks ≡ old.total_blocks
  pub bit_12 : bit_at new.attributes 12 ≡ bit_at old.attributes 12
  pub bit_13 : bit_at new.attributes 13 ≡ bit_at old.attributes 13
  pub bit_15 : bit_at new.attributes 15 ≡ bit_at old.attributes 15

-- the volume header of a content stays accepted, and one of the same volume
pub record KeepsHeader (old new : Content) : Type 0 where
  pub same : IsSame (header_of_volume old) (header_of_volume new)
  pub accepted : header_refusal (header_of_volume new) (length old) ≡ None
