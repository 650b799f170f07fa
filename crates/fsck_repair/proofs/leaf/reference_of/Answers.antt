use Rattle.fsck_repair.proofs.LeafLaws.{shared_none, shared_not, shared_yes}
use Rattle.fsck_repair.proofs.leaf.reference_of.Goals as goal

pub returns-in_default : goal.returns-in_default
returns-in_default c records private long = shared_none records c.args.private (c.args.key.now) (c.args.value.now) private c.in_default.is

pub returns-in_default-2 : goal.returns-in_default-2
returns-in_default-2 c records private long = shared_not records c.args.private c.in-Some.folder c.args.key.now c.args.value.now c.in_ok-file.field-0 private c.in-Some.is c.in_default-2.is (c.in_ok-file.ensures.whole long)

pub returns : goal.returns
returns c records private long = shared_yes records c.args.private c.in-Some.folder c.args.key.now c.args.value.now c.in_ok-file.field-0 c.in-Some-2.file private c.in-Some.is c.in-Some-2.is (c.in_ok-file.ensures.is long)
