use Rattle.fresh_volume.proofs.SoundAttributes.{has_sound_attributes}
use Rattle.fresh_volume.proofs.laws.fresh_attributes_are_sound.Goals as goal

pub returns : goal.returns
returns c sectors block journal name old new size can named units made = has_sound_attributes sectors block journal name old new size can named units made
