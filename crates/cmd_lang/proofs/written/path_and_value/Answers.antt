use Rattle.std.proofs.Common.{Ok}
use Rattle.hfs_language.specs.Language as spec
use Rattle.cmd_lang.proofs.Both.{reads_both}
use Rattle.cmd_lang.proofs.written.path_and_value.Goals as goal

pub returns : goal.returns
returns c = reads_both (spec.path_of c.args.path.now) (spec.both (spec.number_of c.args.from.now) (Ok c.args.value)) c.read_path-first.result c.number_and_value-second.result c.both.result c.read_path-first.ensures c.number_and_value-second.ensures c.both.ensures
