use Rattle.fsck_repair.proofs.SizeTelling.{compare_decided}
use Rattle.fsck_repair.proofs.sizes.is_binary.Goals as goal

pub returns : goal.returns
returns c file is = compare_decided file c.judge_compare.result _ _ (c.judge_compare.ensures.judged file is)
