use Rattle.fresh_volume.proofs.SoundBlocks.{has_blocks_sound}
use Rattle.fresh_volume.proofs.laws.fresh_blocks_are_sound.Goals as goal

pub returns : goal.returns
returns c sectors block journal name old new size can named units made = has_blocks_sound sectors block journal name old new size can named units made
