use Rattle.attributes.proofs.ValueMaps.{inserted}
use Rattle.attributes.proofs.laws.values_are_inserted.Goals as goal

pub returns : goal.returns
returns c = λ id name value old new sets. inserted id name old new value sets
