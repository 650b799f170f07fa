use Rattle.std.proofs.Common.{◌+◌, ◌*◌, ◌/◌, arith}
use Rattle.fork_map.specs.Blocks.{blocks_of}
use Rattle.volume_space.proofs.Filled.{zeros_more}
use Rattle.volume_space.proofs.zeroing.fill_next.Goals as goal

pub zero_step-requires-clause-may_spill : goal.zero_step-requires-clause-may_spill
zero_step-requires-clause-may_spill g c n sector low high is = c.requires.may_spill n sector is

pub returns-clause-zeros : goal.returns-clause-zeros
returns-clause-zeros g c tells =
    zeros_more (g.P.SectorView.space c.args.space.now).content (g.P.SectorView.space c.zero_step.new.space).content (c.args.block / 512) c.args.it.place c.args.it.done 1024 (blocks_of c.args.it.blocks) c.requires.within
    (c.requires.zeros tells) (c.in_ok-zero_step.ensures.others tells) (c.in_ok-zero_step.ensures.zeros tells)
