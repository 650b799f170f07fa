use Rattle.line_source.proofs.Pieces.{none_among, no_newline_any, some_newline}
use Rattle.line_source.proofs.taken.has_newline.Goals as goal

pub returns-in-None : goal.returns-in-None
returns-in-None c = no_newline_any c.args.bytes.now (none_among c.args.bytes.now c.in-None.ensures)

pub returns-in-Some : goal.returns-in-Some
returns-in-Some c = some_newline c.args.bytes.now c.in-Some.at c.in-Some.ensures.0 c.in-Some.ensures.1
