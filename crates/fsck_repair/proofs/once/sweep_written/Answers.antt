use Rattle.fsck_repair.proofs.OnceLaws.{written_twice, written_apart}
use Rattle.fsck_repair.proofs.once.sweep_written.Goals as goal

pub returns-then-start-sweep : goal.returns-then-start-sweep
returns-then-start-sweep c Used Written last swept behind = written_twice Used Written c.args.sweep last c.args.extent swept behind c.requires.some c.if-start-sweep.true

pub returns : goal.returns
returns c Used Written last swept behind = written_apart Used Written c.args.sweep last c.args.extent swept behind c.requires.some c.max-written.result c.max-written.ensures c.if-start-sweep.false
