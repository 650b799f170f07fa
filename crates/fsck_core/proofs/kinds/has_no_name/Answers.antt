use Rattle.fsck_core.proofs.KindLaws.{no_name}
use Rattle.fsck_core.proofs.kinds.has_no_name.Goals as goal

pub returns : goal.returns
returns c = no_name c.args.key.now
