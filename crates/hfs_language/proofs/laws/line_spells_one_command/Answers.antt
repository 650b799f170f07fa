use Rattle.hfs_language.proofs.Spelled.{one_command}
use Rattle.hfs_language.proofs.laws.line_spells_one_command.Goals as goal

pub returns : goal.returns
returns c = one_command c.args.line.now c.args.one.now c.args.other.now
