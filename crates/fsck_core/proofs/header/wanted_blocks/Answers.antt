use Rattle.fsck_core.proofs.HeaderLaws.{none_of_none}
use Rattle.fsck_core.proofs.header.wanted_blocks.Goals as goal

pub returns-then-size-eq0 : goal.returns-then-size-eq0
returns-then-size-eq0 c = none_of_none c.args.sectors c.args.size c.if-size-eq0.true
