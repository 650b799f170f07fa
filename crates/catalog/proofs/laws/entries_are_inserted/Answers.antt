use Rattle.catalog.proofs.EntryMaps.{inserted}
use Rattle.catalog.proofs.laws.entries_are_inserted.Goals as goal

pub returns : goal.returns
returns c = λ entry old new named order adds. inserted entry old new named order adds
