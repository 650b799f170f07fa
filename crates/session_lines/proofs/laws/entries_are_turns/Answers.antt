use Rattle.session_lines.proofs.Turning.{does_line, own_turn, skips_line}
use Rattle.session_lines.proofs.laws.entries_are_turns.Goals as goal

pub returns-clause-own : goal.returns-clause-own
returns-clause-own c start machine line session asked run replies capacity entry fits asks other are quiet its before served =
    (own_turn start machine line fits session asked asks other replies entry.reply, does_line start machine line fits session asked asks other run replies are quiet capacity entry its before served)

pub returns-clause-skipped : goal.returns-clause-skipped
returns-clause-skipped c start machine line run why fits skipped quiet = skips_line start machine line fits run why skipped quiet
