use Rattle.hfs_language.specs.Language as spec
use Rattle.cmd_lang.proofs.Both.{reads_both}
use Rattle.cmd_lang.proofs.pairs.number_and_value.Goals as goal

pub returns : goal.returns
returns c = reads_both (spec.number_of c.args.one.now) (spec.value_of c.args.two.now) c.read_number-first.result c.read_value-second.result c.both.result c.read_number-first.ensures c.read_value-second.ensures c.both.ensures
