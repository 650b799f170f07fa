use Rattle.std.proofs.Common.{◌≡◌, ◌<◌, ◌≤◌, ℕ, ◌-◌, ◌/◌, ◌*◌, ◌+◌, Bool, false, true, List, [], get_or, length, sym, ◌∙◌, ap, arith}
use Rattle.std.proofs.lemmas.List.{get_or_default}
use Rattle.fsck_list.proofs.PieceLaws.{piece_is, flag_in}
use Rattle.fsck_list.proofs.pieces.first_set.Goals as goal

pub returns-clause-before : goal.returns-clause-before
returns-clause-before c k low high =
    let piece : List Bool = c.index.result.now in
    let is : get_or c.args.pieces.now.items (c.args.from / 8192) [] ≡ piece = piece_is c.args.pieces.now.items (c.args.from / 8192) piece piece c.requires.inside c.index.ensures in
    let at : ℕ = k - c.args.from / 8192 * 8192 in
    let inside : at < length piece = omega (arith, high, c.first_before.ensures.to, c.requires.one, c.requires.there, ap (λ (l : List Bool). length l) is) in
    flag_in c.args.pieces.now.items (c.args.from / 8192) at k piece is (omega (arith, low, high, c.first_before.ensures.to, c.requires.one)) (omega (arith, low, high, c.first_before.ensures.to, c.requires.one))
    ∙ get_or_default piece at false true inside ∙ c.first_before.ensures.before at (omega (arith, low)) (omega (arith, high, low))

pub returns-clause-found : goal.returns-clause-found
returns-clause-found c less =
    let piece : List Bool = c.index.result.now in
    let is : get_or c.args.pieces.now.items (c.args.from / 8192) [] ≡ piece = piece_is c.args.pieces.now.items (c.args.from / 8192) piece piece c.requires.inside c.index.ensures in
    flag_in c.args.pieces.now.items (c.args.from / 8192) c.first_before.result (c.args.from / 8192 * 8192 + c.first_before.result) piece is (omega (arith, less, c.requires.one)) (omega (arith, less, c.requires.one))
    ∙ c.first_before.ensures.found (omega (arith, less))
