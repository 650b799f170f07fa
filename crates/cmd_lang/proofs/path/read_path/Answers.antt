use Rattle.cmd_lang.proofs.Paths.{no_path}
use Rattle.cmd_lang.proofs.path.read_path.Goals as goal

pub returns-in-None : goal.returns-in-None
returns-in-None c = no_path c.args.word.now c.in-None.ensures.cases
