use Rattle.std.proofs.Common.{refl, arith}
use Rattle.link_kinds.proofs.steps.advance.Goals as goal

pub loop-name-init : goal.loop-name-init
loop-name-init c = record { same = λ look. refl; fewer = omega arith }
