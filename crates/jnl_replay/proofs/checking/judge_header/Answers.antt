use Rattle.std.proofs.Common.{sym}
use Rattle.jnl_format.proofs.Recovering.{header_parts_as}
use Rattle.jnl_replay.proofs.checking.judge_header.Goals as goal

pub returns-in-Ok-clause-fits : goal.returns-in-Ok-clause-fits
returns-in-Ok-clause-fits c = header_parts_as c.args.dialect c.args.size c.args.block.now c.in-Ok.header c.requires (sym c.in-Ok.ensures)
