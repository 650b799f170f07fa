use Rattle.std.proofs.Common.{◌≡◌, ◌<◌, ◌≤◌, ℕ, ◌+◌, ◌-◌, ◌/◌, ◌*◌, Bool, false, true, List, length, get_or, if◌then◌else◌, sym, ◌∙◌, ap, arith}
use Rattle.flag_rows.specs.Bits.{has, mark}
use Rattle.fsck_list.specs.Pieces.{flag_at}
use Rattle.fsck_list.proofs.PieceLaws.{length-flags, get_or-flags, marked_flags}
use Rattle.fsck_list.proofs.pieces.Pieces.set_clear.Goals as goal

pub take_piece-requires-clause-inside : goal.take_piece-requires-clause-inside
take_piece-requires-clause-inside c = omega (arith, c.requires.order, c.requires.inside, c.self.invariant.room, length-flags c.self.inside.count c.self.inside.pieces.items, ap (λ (l : List Bool). length l) c.self.view_is)

pub set_flags-requires-clause-few : goal.set_flags-requires-clause-few
set_flags-requires-clause-few c = omega (arith, c.requires.order, c.requires.inside, c.self.invariant.few, length-flags c.self.inside.count c.self.inside.pieces.items, ap (λ (l : List Bool). length l) c.self.view_is)

pub returns-clause-clear : goal.returns-clause-clear
returns-clause-clear c k low high =
    let pieces : List (List Bool) = c.self.inside.pieces.items in
    let inside : k < c.self.inside.count = omega (arith, high, c.first_set-stop.ensures.to, c.min-end.ensures, c.requires.inside, length-flags c.self.inside.count pieces, ap (λ (l : List Bool). length l) c.self.view_is) in
    ap (λ (l : List Bool). get_or l k false) (sym c.self.view_is) ∙ get_or-flags c.self.inside.count pieces k false inside ∙ sym (c.in_ok-take_piece.ensures.same k) ∙ c.first_set-stop.ensures.before k low high

pub returns-clause-found : goal.returns-clause-found
returns-clause-found c is =
    let pieces : List (List Bool) = c.self.inside.pieces.items in
    let inside : c.args.from < c.self.inside.count = omega (arith, c.requires.order, c.requires.inside, length-flags c.self.inside.count pieces, ap (λ (l : List Bool). length l) c.self.view_is) in
    ap (λ (l : List Bool). get_or l c.args.from false) (sym c.self.view_is) ∙ get_or-flags c.self.inside.count pieces c.args.from false inside ∙ sym (c.in_ok-take_piece.ensures.same c.args.from)
    ∙ ap (λ k. flag_at c.take_piece.new.pieces.items k) (sym is) ∙ c.first_set-stop.ensures.found (omega (arith, is, c.min-end.ensures, c.requires.order))

pub returns-clause-sets : goal.returns-clause-sets
returns-clause-sets c =
    let pieces : List (List Bool) = c.self.inside.pieces.items in
    let count : ℕ = c.first_set-stop.result - c.args.from in
    let inside : c.args.from + count ≤ c.self.inside.count =
    omega (arith, c.first_set-stop.ensures.from, c.first_set-stop.ensures.to, c.min-end.ensures, c.requires.inside, length-flags c.self.inside.count pieces, ap (λ (l : List Bool). length l) c.self.view_is) in
    marked_flags c.self.inside.count pieces c.set_flags.new.pieces.items (record { start = c.args.from; count = count }) inside
    (λ k. c.set_flags.ensures.sets k ∙ ap (λ b. if has (record { start = c.args.from; count = count }) k then true else b) (c.in_ok-take_piece.ensures.same k))
    ∙ ap (λ (l : List Bool). mark l (record { start = c.args.from; count = count }) true) c.self.view_is
