use Rattle.std.proofs.Common.{arith}
use Rattle.hfs_serving.proofs.Fits.{path_from}
use Rattle.hfs_serving.proofs.fitting.look_at_path.Goals as goal

pub returns : goal.returns
returns c names = path_from c.args.path.now names (λ k low. c.loop-at.invariant.1 k (omega (arith, c.loop-at-test.false)) low)
