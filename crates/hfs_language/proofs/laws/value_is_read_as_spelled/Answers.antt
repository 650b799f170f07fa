use Rattle.hfs_language.proofs.Values.{value_spelled}
use Rattle.hfs_language.proofs.laws.value_is_read_as_spelled.Goals as goal

pub returns : goal.returns
returns c = value_spelled c.args.word.now c.args.value.now
