use Rattle.volume_repair.proofs.Bytes.{byte_back}
use Rattle.volume_repair.proofs.laws_repair.bytes_are_bits.Goals as goal

pub returns : goal.returns
returns c = byte_back
