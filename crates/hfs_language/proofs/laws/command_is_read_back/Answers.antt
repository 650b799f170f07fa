use Rattle.hfs_language.proofs.Written.{command_back}
use Rattle.hfs_language.proofs.laws.command_is_read_back.Goals as goal

pub returns : goal.returns
returns c = command_back c.args.command.now
