use Rattle.fresh_volume.proofs.SoundEntries.{has_sound_entries}
use Rattle.fresh_volume.proofs.laws.fresh_entries_are_sound.Goals as goal

pub returns : goal.returns
returns c sectors block journal name old new can named units made = has_sound_entries sectors block journal name old new can named units made
