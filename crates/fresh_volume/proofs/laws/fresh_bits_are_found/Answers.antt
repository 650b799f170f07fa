use Rattle.fresh_volume.proofs.Bits.{has_fresh_bits}
use Rattle.fresh_volume.proofs.laws.fresh_bits_are_found.Goals as goal

pub returns : goal.returns
returns c sectors block journal name old new can named made k inside = has_fresh_bits sectors block journal name old new can named made k inside
