use Rattle.std.proofs.Common.{arith}
use Rattle.file_rig.proofs.Runs.{fresh_fill}
use Rattle.file_rig.proofs.store.read_on.Goals as goal

pub returns-then-is_apart-clause-fresh : goal.returns-then-is_apart-clause-fresh
returns-then-is_apart-clause-fresh g c tells =
    fresh_fill c.fill.result (g.P.Place.state c.args.place.now).held c.args.gathered.now c.fill.new.self c.stretch_for-stretch.result.first c.stretch_for-stretch.result.count (c.requires.fresh tells).within (omega (arith, c.requires.size tells, c.fits.ensures c.if-fits.true)) (c.is_apart.ensures c.if-is_apart.true) (c.fill.ensures.read tells) c.fill.ensures.failed
