use Rattle.std.proofs.Common.{◌≡◌, ◌∙◌, ◌≤◌, ◌+◌, IsTrue, length, refl, sym, ap, subst}
use Rattle.file_rig.specs.Place as specs
use Rattle.file_rig.proofs.Zeros.{skipped, left_hold}
use Rattle.file_rig.proofs.sparse.SparsePlace.write_run.Goals as goal

pub returns-then-are_zeros-clause-written : goal.returns-then-are_zeros-clause-written
returns-then-are_zeros-clause-written g c tells =
    let place = g.P.Place.state c.self.inside.place in
    let view : place ≡ c.ask.new.self = c.self.view_is in
    ap (λ (s : specs.Place). s.held) (sym view)
    ∙ skipped c.args.self.now place c.self.inside.blank c.args.run.now c.args.first (view ∙ c.in_ok-ask.ensures) c.self.invariant tells (c.if-holds_zeros.ensures refl) (c.requires tells) (c.if-are_zeros.ensures refl)

pub invariant_of-self : goal.invariant_of-self
invariant_of-self g c tells =
    let place = g.P.Place.state c.self.inside.place in
    let same : place ≡ c.args.self.now = c.self.view_is ∙ c.in_ok-ask.ensures in
    let fits : IsTrue place.tells → c.args.first + length c.args.run.now ≤ length place.held
    = λ was. subst (λ (s : specs.Place). c.args.first + length c.args.run.now ≤ length s.held) (sym same) (c.requires (subst (λ (s : specs.Place). IsTrue s.tells) same was)) in
    left_hold place (g.P.Place.state c.write_run.new.self) c.self.inside.blank c.zeros_left-self-inside.result c.args.run.now c.args.first c.write_run.result c.self.invariant c.zeros_left-self-inside.ensures
    c.write_run.ensures.written c.write_run.ensures.unsure c.write_run.ensures.tells fits tells
