use Rattle.std.proofs.Common.{◌≡◌, ◌/◌, ◌%◌, Bool, true, List, [], get_or, sym, ◌∙◌, ap}
use Rattle.flag_rows.specs.Bits.{mark}
use Rattle.fsck_list.proofs.PieceLaws.{piece_is, piece_marked}
use Rattle.fsck_list.proofs.pieces.set_flags.Goals as goal

pub returns-clause-sets : goal.returns-clause-sets
returns-clause-sets c k =
    let piece : List Bool = c.index_mut.result.now in
    let is : get_or c.args.pieces.now.items (c.args.from / 8192) [] ≡ piece = piece_is c.args.pieces.now.items (c.args.from / 8192) piece piece c.requires.inside c.index_mut.ensures.value in
    piece_marked c.args.pieces.now.items c.args.from c.args.count c.fill.new.self c.requires.inside c.requires.one c.requires.there
    (c.fill.ensures ∙ ap (λ (l : List Bool). mark l (record { start = c.args.from % 8192; count = c.args.count }) true) (sym is)) k
