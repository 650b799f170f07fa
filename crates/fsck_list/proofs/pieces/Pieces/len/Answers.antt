use Rattle.std.proofs.Common.{List, Bool, length, sym, ◌∙◌, ap}
use Rattle.fsck_list.proofs.PieceLaws.{length-flags}
use Rattle.fsck_list.proofs.pieces.Pieces.len.Goals as goal

pub returns-clause-size : goal.returns-clause-size
returns-clause-size c = sym (length-flags c.self.inside.count c.self.inside.pieces.items) ∙ ap (λ (l : List Bool). length l) c.self.view_is
