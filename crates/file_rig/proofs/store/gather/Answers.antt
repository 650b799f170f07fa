use Rattle.std.proofs.Common.{◌≡◌, ◌+◌, ◌≤◌, length, refl, sym, subst}
use Rattle.file_rig.specs.Runs.{Run}
use Rattle.file_rig.specs.Place.{IsWritten}
use Rattle.file_rig.proofs.Runs.{written_takes, written_handed}
use Rattle.file_rig.proofs.store.gather.Goals as goal

pub returns-then-put-clause-written : goal.returns-then-put-clause-written
returns-then-put-clause-written g c tells =
    written_takes (g.P.Place.state c.args.place.now).held c.args.gathered.now c.put.new.self c.args.at c.args.value.now (c.requires.within tells) (c.requires.inside tells) (c.if-put.ensures.taken refl)

pub returns-clause-written : goal.returns-clause-written
returns-clause-written g c tells =
    let held = (g.P.Place.state c.args.place.now).held in
    let after = (g.P.Place.state c.hand_over.new.place).held in
    let kept : c.put.new.self ≡ c.args.gathered.now = c.if-put.ensures.refused refl in
    let within : c.put.new.self.first + length c.put.new.self.values ≤ length held = subst (λ (r : Run). r.first + length r.values ≤ length held) (sym kept) (c.requires.within tells) in
    let empty = c.in_ok-hand_over.ensures.empty in
    subst (λ (r : Run). IsWritten held r c.args.at c.args.value.now after c.put-2.new.self) kept
    (written_handed held after c.put.new.self c.hand_over.new.gathered c.put-2.new.self c.args.at c.args.value.now within (c.requires.inside tells) (c.in_ok-hand_over.ensures.written tells) empty.0 empty.1
    (c.put-2.ensures.taken (c.put-2.ensures.begins empty.1)))
