use Rattle.std.proofs.Common.{ap}
use Rattle.volume_runs.specs.Run.{spelled}
use Rattle.hfs_serving.proofs.Spelled.{spelled_parts}
use Rattle.hfs_serving.proofs.lines.read_asked.Goals as goal

pub returns-in-Ok-clause-asked : goal.returns-in-Ok-clause-asked
returns-in-Ok-clause-asked c = ap spelled c.in-Ok.ensures.command

pub returns-in-Ok-clause-fits : goal.returns-in-Ok-clause-fits
returns-in-Ok-clause-fits c = c.look_at_command.ensures (spelled_parts c.args.line.now c.in-Ok.command c.in-Ok.ensures.command)
