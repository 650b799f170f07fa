use Rattle.session_lines.proofs.Remains.{entry_by}
use Rattle.session_lines.proofs.laws.files_keep_entries.Goals as goal

pub returns : goal.returns
returns c tree plain id asked got has spares = entry_by tree plain id asked got has spares
