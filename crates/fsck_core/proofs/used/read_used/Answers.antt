use Rattle.fsck_core.proofs.UsedLists.{used_all}
use Rattle.fsck_core.proofs.used.read_used.Goals as goal

pub returns : goal.returns
returns c volume sectors head overflow forks attributes =
    used_all volume c.args.sectors c.args.head.now c.args.rows.now c.args.forks.now c.args.attributes.now c.in_ok-list.list c.add_owned.new.list c.add_bad.new.list c.add_values.new.list sectors head overflow forks attributes
    c.in_ok-list.ensures c.in_ok-add_owned.ensures c.in_ok-add_bad.ensures c.in_ok-add_values.ensures
