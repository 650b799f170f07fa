use Rattle.fsck_core.specs.Overflows.{overflows_in}
use Rattle.fsck_core.specs.Owners.{owned_in}
use Rattle.fsck_core.proofs.StretchLaws.{goes_alike}
use Rattle.fsck_core.proofs.stretch.follow_own.Goals as goal

pub returns : goal.returns
returns c = goes_alike (overflows_in c.rows_of_file.result.now) (overflows_in c.args.rows.now) (owned_in c.args.owned.now) c.follow_fork.result (c.rows_of_file.ensures c.args.owned.now.kind) c.follow_fork.ensures
