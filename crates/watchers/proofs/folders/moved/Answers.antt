use Rattle.std.proofs.Common.{◌<◌, length, arith}
use Rattle.watchers.specs.Under.{moved_one}
use Rattle.watchers.proofs.Moves.{changed_next}
use Rattle.watchers.proofs.folders.moved.Goals as goal

pub loop-at-preserved : goal.loop-at-preserved
loop-at-preserved c =
    let inside : c.loop-at.at-index < length c.loop-at.known = omega (arith, c.loop-at-test.true, c.loop-at.invariant.long) in
    changed_next (moved_one c.args.id c.args.parent) c.args.known.now c.loop-at.known c.loop-at.at-index _ c.moved_one.result c.loop-at.invariant inside c.moved_one.ensures
