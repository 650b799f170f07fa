use Rattle.std.specs.Prelude.{false}
use Rattle.volume_weights.proofs.weights.weigh_create.Goals as goal

pub returns-clause-answer : goal.returns-clause-answer
returns-clause-answer g c tells = c.weigh_make.ensures.answer tells false
