use Rattle.attributes.proofs.ValueMaps.{deleted}
use Rattle.attributes.proofs.laws.values_are_deleted.Goals as goal

pub returns : goal.returns
returns c = λ id name old new drops. deleted id name old new drops
