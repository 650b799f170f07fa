use Rattle.std.proofs.Common.{arith}
use Rattle.link_kinds.proofs.Ways.{way_up}
use Rattle.link_kinds.proofs.way.go_up.Goals as goal

pub returns : goal.returns
returns c = way_up _ _ c.pop.result _ c.pop.ensures.items c.pop.ensures.variant (omega (arith, c.args.way.now.ok.0))
