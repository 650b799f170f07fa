use Rattle.std.proofs.Common.{arith}
use Rattle.jnl_replay.proofs.RunLaws.{last_put}
use Rattle.jnl_replay.proofs.runs.put_last.Goals as goal

pub returns : goal.returns
returns c = last_put c.args.runs.now.items c.len-last.result c.args.run (omega (arith, c.len-last.ensures)) c.requires
