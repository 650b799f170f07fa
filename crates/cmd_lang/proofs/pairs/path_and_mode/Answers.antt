use Rattle.hfs_language.specs.Language as spec
use Rattle.cmd_lang.proofs.Both.{reads_both}
use Rattle.cmd_lang.proofs.pairs.path_and_mode.Goals as goal

pub returns : goal.returns
returns c = reads_both (spec.path_of c.args.one.now) (spec.mode_of c.args.two.now) c.read_path-first.result c.read_mode-second.result c.both.result c.read_path-first.ensures c.read_mode-second.ensures c.both.ensures
