use Rattle.fsck_core.proofs.TestedLaws.{bad_told}
use Rattle.fsck_core.proofs.owners.bad_goes_on.Goals as goal

pub returns : goal.returns
returns c = bad_told c.args.kind c.args.rows.now c.follow.result c.is_some.result c.follow.ensures c.is_some.ensures
