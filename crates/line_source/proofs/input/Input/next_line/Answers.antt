use Rattle.std.proofs.Common.{◌++◌, ℕ, List, subst}
use Rattle.line_source.specs.Handed.{bytes_of}
use Rattle.line_source.specs.Next.{GivesNext}
use Rattle.line_source.proofs.input.Input.next_line.Goals as goal

pub returns-clause-line : goal.returns-clause-line
returns-clause-line g c =
    let next = subst (λ (l : List ℕ). GivesNext c.args.limit l (g.S.Source.stream c.args.source.now) c.next_of.result (bytes_of c.next_of.new.ready.items ++ c.next_of.new.taken) (g.S.Source.stream c.next_of.new.source)) c.self.view_is c.next_of.ensures.next in
    next.line

pub returns-clause-end : goal.returns-clause-end
returns-clause-end g c =
    let next = subst (λ (l : List ℕ). GivesNext c.args.limit l (g.S.Source.stream c.args.source.now) c.next_of.result (bytes_of c.next_of.new.ready.items ++ c.next_of.new.taken) (g.S.Source.stream c.next_of.new.source)) c.self.view_is c.next_of.ensures.next in
    next.end

pub returns-clause-gone : goal.returns-clause-gone
returns-clause-gone g c =
    let next = subst (λ (l : List ℕ). GivesNext c.args.limit l (g.S.Source.stream c.args.source.now) c.next_of.result (bytes_of c.next_of.new.ready.items ++ c.next_of.new.taken) (g.S.Source.stream c.next_of.new.source)) c.self.view_is c.next_of.ensures.next in
    next.gone

pub returns-clause-no_more : goal.returns-clause-no_more
returns-clause-no_more g c =
    let next = subst (λ (l : List ℕ). GivesNext c.args.limit l (g.S.Source.stream c.args.source.now) c.next_of.result (bytes_of c.next_of.new.ready.items ++ c.next_of.new.taken) (g.S.Source.stream c.next_of.new.source)) c.self.view_is c.next_of.ensures.next in
    next.no_more

pub returns-clause-begun : goal.returns-clause-begun
returns-clause-begun g c =
    let next = subst (λ (l : List ℕ). GivesNext c.args.limit l (g.S.Source.stream c.args.source.now) c.next_of.result (bytes_of c.next_of.new.ready.items ++ c.next_of.new.taken) (g.S.Source.stream c.next_of.new.source)) c.self.view_is c.next_of.ensures.next in
    next.begun

pub returns-clause-had_none : goal.returns-clause-had_none
returns-clause-had_none g c =
    let next = subst (λ (l : List ℕ). GivesNext c.args.limit l (g.S.Source.stream c.args.source.now) c.next_of.result (bytes_of c.next_of.new.ready.items ++ c.next_of.new.taken) (g.S.Source.stream c.next_of.new.source)) c.self.view_is c.next_of.ensures.next in
    next.had_none

pub returns-clause-nearer : goal.returns-clause-nearer
returns-clause-nearer g c =
    let next = subst (λ (l : List ℕ). GivesNext c.args.limit l (g.S.Source.stream c.args.source.now) c.next_of.result (bytes_of c.next_of.new.ready.items ++ c.next_of.new.taken) (g.S.Source.stream c.next_of.new.source)) c.self.view_is c.next_of.ensures.next in
    next.nearer

pub returns-clause-no_heavier : goal.returns-clause-no_heavier
returns-clause-no_heavier g c =
    let next = subst (λ (l : List ℕ). GivesNext c.args.limit l (g.S.Source.stream c.args.source.now) c.next_of.result (bytes_of c.next_of.new.ready.items ++ c.next_of.new.taken) (g.S.Source.stream c.next_of.new.source)) c.self.view_is c.next_of.ensures.next in
    next.no_heavier

pub returns-clause-same : goal.returns-clause-same
returns-clause-same g c = c.next_of.ensures.next.same

pub returns-clause-cause : goal.returns-clause-cause
returns-clause-cause g c = c.next_of.ensures.next.cause
