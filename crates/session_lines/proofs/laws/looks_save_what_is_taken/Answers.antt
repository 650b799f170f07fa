use Rattle.session_lines.proofs.Moving.{moving}
use Rattle.session_lines.proofs.Saves.{taking}
use Rattle.session_lines.proofs.laws.looks_save_what_is_taken.Goals as goal

pub returns-clause-rm : goal.returns-clause-rm
returns-clause-rm c machine is path run to ends follows = taking machine is path run to ends follows

pub returns-clause-mv : goal.returns-clause-mv
returns-clause-mv c machine is from target run to ends follows = moving machine is from target run to ends follows
