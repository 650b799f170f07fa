use Rattle.catalog.proofs.Keys.{key_reads}
use Rattle.catalog.proofs.laws.keys_tell_places.Goals as goal

pub returns : goal.returns
returns c = key_reads
