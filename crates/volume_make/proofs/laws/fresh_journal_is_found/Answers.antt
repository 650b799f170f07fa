use Rattle.volume_make.proofs.Finding.{journal_found}
use Rattle.volume_make.proofs.laws.fresh_journal_is_found.Goals as goal

pub returns : goal.returns
returns c = journal_found
