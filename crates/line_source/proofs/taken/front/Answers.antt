use Rattle.line_source.proofs.Pieces.{none_held, some_held, all_held}
use Rattle.line_source.proofs.taken.front.Goals as goal

pub returns : goal.returns
returns c = all_held c.args.limit c.args.held c.args.piece.now c.if-room-piece.false

pub returns-then-limit-held : goal.returns-then-limit-held
returns-then-limit-held c = none_held c.args.limit c.args.held c.args.piece.now c.if-limit-held.true

pub returns-then-room-piece : goal.returns-then-room-piece
returns-then-room-piece c = some_held c.args.limit c.args.held c.args.piece.now c.if-limit-held.false
