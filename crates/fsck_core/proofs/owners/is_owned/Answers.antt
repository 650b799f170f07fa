use Rattle.std.proofs.Common.{◌∙◌}
use Rattle.fsck_core.proofs.TestedLaws.{owned_by_id}
use Rattle.fsck_core.proofs.owners.is_owned.Goals as goal

pub returns-then-row-eq-DATA : goal.returns-then-row-eq-DATA
returns-then-row-eq-DATA c =
    owned_by_id c.args.forks.now c.args.row.now 0 c.count_number.result c.if-row-eq-DATA.true (c.count_number.ensures c.requires.data_order ∙ c.requires.data_same c.args.row.now.id)

pub returns-then-row : goal.returns-then-row
returns-then-row c =
    owned_by_id c.args.forks.now c.args.row.now 255 c.count_number-then-row.result c.if-row.true (c.count_number-then-row.ensures c.requires.resource_order ∙ c.requires.resource_same c.args.row.now.id)
