use Rattle.std.proofs.Common.{arith}
use Rattle.alloc_bitmap.specs.Map.{free_of}
use Rattle.volume_space.proofs.GrownCan.{has_run, run_counted}
use Rattle.volume_space.proofs.growable.has_free_run.Goals as goal

pub returns-clause-enough : goal.returns-clause-enough
returns-clause-enough c is = omega (arith, c.if-from-blocks.false, c.from.ensures, c.longest.ensures, run_counted (free_of c.args.volume.now.map))

pub returns-clause-run : goal.returns-clause-run
returns-clause-run c is = has_run c.args.blocks (free_of c.args.volume.now.map) (omega (arith, c.if-blocks-eq0.false)) (omega (arith, c.if-from-blocks.false, c.from.ensures, c.longest.ensures))
