use Rattle.hfs_language.proofs.Modes.{mode_as_spelled}
use Rattle.hfs_language.proofs.laws.mode_is_read_as_spelled.Goals as goal

pub returns : goal.returns
returns c = mode_as_spelled c.args.word.now c.args.mode
