use Rattle.hfs_volume.specs.Content.{facts_of}
use Rattle.fsck_repair.proofs.SizeTelling.{size_decided}
use Rattle.fsck_repair.proofs.sizes.is_size.Goals as goal

pub returns : goal.returns
returns c file is = size_decided c.args.id c.args.head.now c.args.fork.now (facts_of file) c.judge_size.result _ _ (c.judge_size.ensures.judged file is)
