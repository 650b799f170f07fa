use Rattle.catalog.proofs.EntryMaps.{changes_value}
use Rattle.catalog.proofs.laws.updates_change_values.Goals as goal

pub returns : goal.returns
returns c = changes_value
