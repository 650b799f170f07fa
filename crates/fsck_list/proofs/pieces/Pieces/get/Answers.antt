use Rattle.std.proofs.Common.{◌≡◌, ◌<◌, ℕ, ◌/◌, ◌%◌, Bool, false, List, [], length, get_or, refl, sym, ◌∙◌, ap, arith}
use Rattle.std.proofs.lemmas.List.{get_or_default, get_or_past}
use Rattle.fsck_list.proofs.PieceLaws.{length-flags, get_or-flags, piece_is, flag_in}
use Rattle.fsck_list.proofs.pieces.Pieces.get.Goals as goal

pub index-piece-requires : goal.index-piece-requires
index-piece-requires c = omega (arith, c.requires, c.self.invariant.room, length-flags c.self.inside.count c.self.inside.pieces.items, ap (λ (l : List Bool). length l) c.self.view_is)

pub returns-then-into-len : goal.returns-then-into-len
returns-then-into-len c =
    let pieces : List (List Bool) = c.self.inside.pieces.items in
    let low : c.args.at < c.self.inside.count = omega (arith, c.requires, length-flags c.self.inside.count pieces, ap (λ (l : List Bool). length l) c.self.view_is) in
    let inside : c.args.at / 8192 < length pieces = omega (arith, low, c.self.invariant.room) in
    let is : get_or pieces (c.args.at / 8192) [] ≡ c.index-piece.result.now = piece_is pieces (c.args.at / 8192) c.index-piece.result.now c.index-piece.result.now inside c.index-piece.ensures in
    sym
    (ap (λ (l : List Bool). get_or l c.args.at false) (sym c.self.view_is) ∙ get_or-flags c.self.inside.count pieces c.args.at false low ∙ flag_in pieces (c.args.at / 8192) (c.args.at % 8192) c.args.at c.index-piece.result.now is refl refl
    ∙ get_or_past c.index-piece.result.now (c.args.at % 8192) false (omega (arith, c.if-into-len.true, c.len.ensures.size)))

pub returns : goal.returns
returns c =
    let pieces : List (List Bool) = c.self.inside.pieces.items in
    let low : c.args.at < c.self.inside.count = omega (arith, c.requires, length-flags c.self.inside.count pieces, ap (λ (l : List Bool). length l) c.self.view_is) in
    let inside : c.args.at / 8192 < length pieces = omega (arith, low, c.self.invariant.room) in
    let is : get_or pieces (c.args.at / 8192) [] ≡ c.index-piece.result.now = piece_is pieces (c.args.at / 8192) c.index-piece.result.now c.index-piece.result.now inside c.index-piece.ensures in
    let there : c.args.at % 8192 < length c.index-piece.result.now = omega (arith, c.if-into-len.false, c.len.ensures.size) in
    c.get.ensures
    ∙ sym
    (ap (λ (l : List Bool). get_or l c.args.at false) (sym c.self.view_is) ∙ get_or-flags c.self.inside.count pieces c.args.at false low ∙ flag_in pieces (c.args.at / 8192) (c.args.at % 8192) c.args.at c.index-piece.result.now is refl refl
    ∙ get_or_default c.index-piece.result.now (c.args.at % 8192) false c.get.result there)
