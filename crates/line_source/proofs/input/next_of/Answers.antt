use Rattle.std.proofs.Common.{◌≡◌, ◌++◌, ◌∙◌, [], ℕ, List, Option, Result, sym, ap, subst}
use Rattle.line_source.specs.Handed.{AreLines, bytes_of}
use Rattle.line_source.specs.Next.{GivesNext}
use Rattle.line_source.specs.declared.input.InputFault.{InputFault}
use Rattle.line_source.proofs.Cuts.{none_left}
use Rattle.line_source.proofs.Ready.{next_cut, next_ready, ready_is}
use Rattle.line_source.proofs.input.next_of.Goals as goal

pub returns-in-Some-clause-next : goal.returns-in-Some-clause-next
returns-in-Some-clause-next g c =
    let taken = c.args.taken.now in
    let none = (subst AreLines c.in-Some.ensures.some c.refill.ensures.lines).0 in
    next_ready c.args.limit (bytes_of c.args.ready.now.items ++ taken) (g.S.Source.stream c.args.source.now) (bytes_of c.refill.new.ready.items ++ taken) (g.S.Source.stream c.refill.new.source) c.in-Ok.ensures.refills c.refill.ensures.same
    c.refill.ensures.cause.later c.in-Some.line (bytes_of c.first_of.new.ready.items ++ taken) (ready_is c.refill.new.ready.items c.in-Some.line c.first_of.new.ready.items taken c.in-Some.ensures.some) none c.held_line.result
    c.held_line.ensures.held c.held_line.ensures.some c.held_line.ensures.memory

pub returns-in-None-clause-next : goal.returns-in-None-clause-next
returns-in-None-clause-next g c =
    let limit = c.args.limit in
    let taken = c.args.taken.now in
    let was = bytes_of c.args.ready.now.items ++ taken in
    let mid = bytes_of c.refill.new.ready.items ++ taken in
    let new = c.next_line.new.self in
    let s0 = g.S.Source.stream c.args.source.now in
    let s1 = g.S.Source.stream c.refill.new.source in
    let s2 = g.S.Source.stream c.next_line.new.source in
    let mid_is : mid ≡ taken = ap (λ (l : List (List ℕ)). bytes_of l ++ taken) c.in-None.ensures.none.0 in
    let cut : GivesNext limit taken s1 c.next_line.result new s2 = record {
      line = c.next_line.ensures.line;
      end = c.next_line.ensures.end;
      gone = c.next_line.ensures.gone;
      no_more = c.next_line.ensures.no_more;
      begun = c.next_line.ensures.begun;
      had_none = c.next_line.ensures.had_none;
      nearer = c.next_line.ensures.nearer;
      no_heavier = c.next_line.ensures.no_heavier;
      same = c.next_line.ensures.same;
      cause = c.next_line.ensures.cause;
    } in
    let from_mid = subst (λ (l : List ℕ). GivesNext limit l s1 c.next_line.result new s2) (sym mid_is) cut in
    let on = next_cut limit was s0 mid s1 c.in-Ok.ensures.refills c.refill.ensures.same c.refill.ensures.cause.later (λ empty. mid_is ∙ (none_left (bytes_of c.args.ready.now.items) taken empty).1) c.next_line.result new s2 from_mid in
    let as_line = subst (λ (r : Result (Option (List ℕ)) InputFault). GivesNext limit was s0 r new s2) (sym c.as_line.ensures) on in
    subst (λ (l : List ℕ). GivesNext limit was s0 c.as_line.result l s2) (sym (ap (λ (l : List (List ℕ)). bytes_of l ++ new) c.in-None.ensures.none.1)) as_line
