use Rattle.name_text.proofs.Spelled.{read_as_spelled}
use Rattle.name_text.proofs.laws.text_is_read_as_spelled.Goals as goal

pub returns : goal.returns
returns c = read_as_spelled c.args.text.now c.args.pieces.now
