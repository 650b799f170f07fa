use Rattle.std.proofs.Common.{◌≡◌, List, Bool, [], length, get_or, ◌∙◌, ap, arith}
use Rattle.fsck_list.proofs.PieceLaws.{piece_is, piece_taken}
use Rattle.fsck_list.proofs.pieces.take_piece.Goals as goal

pub returns-in_ok-pieces-clause-same : goal.returns-in_ok-pieces-clause-same
returns-in_ok-pieces-clause-same c k =
    let is : get_or c.args.pieces.now.items c.args.at [] ≡ c.index.result.now = piece_is c.args.pieces.now.items c.args.at c.index.result.now c.index.result.now c.requires.inside c.index.ensures in
    let none : length (get_or c.args.pieces.now.items c.args.at []) ≡ 0 = omega (arith, ap (λ (l : List Bool). length l) is, c.len.ensures.size, c.if-len-eq0.true) in
    piece_taken c.args.pieces.now.items c.args.at 8192 c.in_ok-pieces.field-0 c.requires.inside none c.in_ok-pieces.ensures k
