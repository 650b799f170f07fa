use Rattle.std.proofs.Common.{arith}
use Rattle.attributes.proofs.forks.fork_fits.Goals as goal

pub returns : goal.returns
returns c = record { logical_size = omega arith; clump_size = omega arith; total_blocks = omega arith; extents = c.extents_fit.ensures }
