use Rattle.session_lines.proofs.Parts.{kind_parts}
use Rattle.session_lines.proofs.errands.read_kind_errand.Goals as goal

pub kind_errand-requires : goal.kind_errand-requires
kind_errand-requires c = record { parts = kind_parts c.args.text.now c.in-Ok.asks c.in-Ok.ensures.asks }
