use Rattle.fresh_volume.proofs.EmptyJournal.{stands_for_itself}
use Rattle.fresh_volume.proofs.laws.fresh_journal_is_empty.Goals as goal

pub returns : goal.returns
returns c sectors block journal name old new size can made = stands_for_itself sectors block journal name old new size can made
