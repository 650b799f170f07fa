use Rattle.catalog.proofs.EntryMaps.{inserted}
use Rattle.catalog.proofs.laws.entries_are_deleted.Goals as goal

pub returns : goal.returns
returns c = λ entry old new named order drops. inserted entry new old named order drops
