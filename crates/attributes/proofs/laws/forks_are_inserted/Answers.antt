use Rattle.attributes.proofs.ValueMaps.{forked}
use Rattle.attributes.proofs.laws.forks_are_inserted.Goals as goal

pub returns : goal.returns
returns c id name size extents old new sets = forked id name old new size extents sets
