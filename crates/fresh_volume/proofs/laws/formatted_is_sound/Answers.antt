use Rattle.fresh_volume.proofs.Mounting.{is_fresh_volume}
use Rattle.fresh_volume.proofs.laws.formatted_is_sound.Goals as goal

pub returns : goal.returns
returns c sectors block journal name old new size can named units made = is_fresh_volume sectors block journal name old new size can named units made
