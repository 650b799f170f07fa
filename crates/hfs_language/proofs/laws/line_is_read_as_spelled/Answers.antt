use Rattle.hfs_language.proofs.Spelled.{read_as_spelled}
use Rattle.hfs_language.proofs.laws.line_is_read_as_spelled.Goals as goal

pub returns : goal.returns
returns c = read_as_spelled c.args.line.now c.args.command.now
