use Rattle.std.proofs.Common.{sym, subst}
use Rattle.jnl_replay.specs.Plan.{FitsPlan}
use Rattle.tree_store_tests.proofs.grove.Grove.mount.Goals as goal

pub replay-requires-clause-fits : goal.replay-requires-clause-fits
replay-requires-clause-fits c = subst (λ n. FitsPlan n c.in_ok-plan.plan) (sym c.find_plan.ensures.sectors) c.in_ok-plan.ensures.fits
