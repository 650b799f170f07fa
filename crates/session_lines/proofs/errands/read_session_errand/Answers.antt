use Rattle.session_lines.proofs.Parts.{line_parts}
use Rattle.session_lines.proofs.errands.read_session_errand.Goals as goal

pub errand_for-requires : goal.errand_for-requires
errand_for-requires c = record { parts = line_parts c.args.text.now c.in-Ok.asks c.in-Ok.ensures.asks }
