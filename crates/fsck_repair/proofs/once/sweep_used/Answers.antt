use Rattle.fsck_repair.proofs.OnceLaws.{used_apart, used_twice, used_again}
use Rattle.fsck_repair.proofs.once.sweep_used.Goals as goal

pub returns-then-start-sweep : goal.returns-then-start-sweep
returns-then-start-sweep c Used Written last swept behind = used_apart Used Written c.args.sweep last c.args.extent swept behind c.requires.some c.max-used.result c.max-used.ensures c.if-start-sweep.true

pub returns-then-start-sweep-2 : goal.returns-then-start-sweep-2
returns-then-start-sweep-2 c Used Written last swept behind = used_twice Used Written c.args.sweep last c.args.extent swept behind c.requires.some c.if-start-sweep.false c.if-start-sweep-2.true

pub returns : goal.returns
returns c Used Written last swept behind =
    used_again Used Written c.args.sweep last c.args.extent swept behind c.requires.some c.max-used.result c.max-twice.result c.max-used.ensures (cc) c.if-start-sweep.false c.if-start-sweep-2.false
