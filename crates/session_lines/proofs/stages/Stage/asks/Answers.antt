use Rattle.std.proofs.Common.{ap}
use Rattle.session_lines.specs.Stages.{command_at}
use Rattle.session_lines.proofs.stages.Stage.asks.Goals as goal

pub returns-in-Opening-clause-some : goal.returns-in-Opening-clause-some
returns-in-Opening-clause-some c fails = (_, ap command_at c.in-Opening.is)

pub returns-in-Stating-clause-some : goal.returns-in-Stating-clause-some
returns-in-Stating-clause-some c fails = (_, ap command_at c.in-Stating.is)

pub returns-in-Taking-clause-some : goal.returns-in-Taking-clause-some
returns-in-Taking-clause-some c fails = (_, ap command_at c.in-Taking.is)

pub returns-in-Moving-clause-some : goal.returns-in-Moving-clause-some
returns-in-Moving-clause-some c fails = (_, ap command_at c.in-Moving.is)

pub returns-in-Replacing-clause-some : goal.returns-in-Replacing-clause-some
returns-in-Replacing-clause-some c fails = (_, ap command_at c.in-Replacing.is)

pub returns-in-Listing-clause-some : goal.returns-in-Listing-clause-some
returns-in-Listing-clause-some c fails = (_, ap command_at c.in-Listing.is)

pub returns-in-StatingRoot-clause-some : goal.returns-in-StatingRoot-clause-some
returns-in-StatingRoot-clause-some c fails = (_, ap command_at c.in-StatingRoot.is)

pub returns-in-Saving-clause-some : goal.returns-in-Saving-clause-some
returns-in-Saving-clause-some c fails = (_, ap command_at c.in-Saving.is)

pub returns-in-StatingFile-clause-some : goal.returns-in-StatingFile-clause-some
returns-in-StatingFile-clause-some c fails = (_, ap command_at c.in-StatingFile.is)

pub returns-in-Losing-clause-some : goal.returns-in-Losing-clause-some
returns-in-Losing-clause-some c fails = (_, ap command_at c.in-Losing.is)

pub returns-in-Closing-clause-some : goal.returns-in-Closing-clause-some
returns-in-Closing-clause-some c fails = (_, ap command_at c.in-Closing.is)

pub returns-in-Making-clause-some : goal.returns-in-Making-clause-some
returns-in-Making-clause-some c fails = (_, ap command_at c.in-Making.is)

pub returns-in-Linking-clause-some : goal.returns-in-Linking-clause-some
returns-in-Linking-clause-some c fails = (_, ap command_at c.in-Linking.is)

pub returns-in-Releasing-clause-some : goal.returns-in-Releasing-clause-some
returns-in-Releasing-clause-some c fails = (_, ap command_at c.in-Releasing.is)
