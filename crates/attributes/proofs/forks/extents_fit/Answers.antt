use Rattle.std.proofs.Common.{arith}
use Rattle.attributes.proofs.Parts.{one_more_fits, they_fit}
use Rattle.attributes.proofs.forks.extents_fit.Goals as goal

pub loop-extent-init : goal.loop-extent-init
loop-extent-init c = record { eight = omega arith; each = λ k low. absurd (omega (arith, low)) }

pub loop-extent-preserved : goal.loop-extent-preserved
loop-extent-preserved c = record {
  eight = c.loop-extent.invariant.eight;
  each = one_more_fits c.args.extents.now.extents c.loop-extent.extent-index c.loop-extent.invariant.each c.extent_fits.ensures;
}

pub returns : goal.returns
returns c = record {
  eight = c.loop-extent.invariant.eight;
  each = they_fit c.args.extents.now.extents (λ k inside. c.loop-extent.invariant.each k (omega (arith, inside, c.loop-extent.invariant.eight, c.loop-extent-test.false)));
}
