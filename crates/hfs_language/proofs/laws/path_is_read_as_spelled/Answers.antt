use Rattle.hfs_language.proofs.Paths.{path_as_spelled}
use Rattle.hfs_language.proofs.laws.path_is_read_as_spelled.Goals as goal

pub returns : goal.returns
returns c = path_as_spelled c.args.word.now c.args.path.now
