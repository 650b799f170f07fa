use Rattle.hfs_language.proofs.Modes.{attribute_as_spelled}
use Rattle.hfs_language.proofs.laws.attribute_is_read_as_spelled.Goals as goal

pub returns : goal.returns
returns c = attribute_as_spelled c.args.word.now c.args.name.now
