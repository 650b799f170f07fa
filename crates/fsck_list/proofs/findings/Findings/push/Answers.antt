use Rattle.std.proofs.Common.{◌≡◌, List, take, sym, ◌∙◌, ap, subst}
use Rattle.std.specs.List.{insert}
use Rattle.fsck_list.specs.declared.finding.Finding.{Finding}
use Rattle.fsck_list.specs.Order.{IsPlace}
use Rattle.fsck_list.specs.Kept.{IsKept, Keeps}
use Rattle.fsck_list.proofs.KeptLaws.{is_kept, keeps_more}
use Rattle.fsck_list.proofs.findings.Findings.push.Goals as goal

pub invariant_of-self-2 : goal.invariant_of-self-2
invariant_of-self-2 c =
    let place : IsPlace c.args.finding c.self.inside.list.items c.in-Some.at = subst (λ (l : List Finding). IsPlace c.args.finding l c.in-Some.at) c.deref.ensures.value c.in-Some.ensures in
    let new : c.truncate.new.self.items ≡ take 100 (insert c.self.inside.list.items c.in-Some.at c.args.finding) = c.truncate.ensures.items ∙ ap (λ (l : List Finding). take 100 l) c.in_ok-insert.ensures.items in
    subst (λ (l : List Finding). IsKept l) (sym new) (is_kept c.args.finding c.self.inside.list.items c.in-Some.at c.self.invariant place c.if-at-ge-MOST.false)

pub returns-clause-kept : goal.returns-clause-kept
returns-clause-kept c =
    let place : IsPlace c.args.finding c.self.inside.list.items c.in-Some.at = subst (λ (l : List Finding). IsPlace c.args.finding l c.in-Some.at) c.deref.ensures.value c.in-Some.ensures in
    let new : c.truncate.new.self.items ≡ take 100 (insert c.self.inside.list.items c.in-Some.at c.args.finding) = c.truncate.ensures.items ∙ ap (λ (l : List Finding). take 100 l) c.in_ok-insert.ensures.items in
    subst (λ (l : List Finding). Keeps c.args.finding l c.truncate.new.self.items) c.self.view_is
    (subst (λ (l : List Finding). Keeps c.args.finding c.self.inside.list.items l) (sym new) (keeps_more c.args.finding c.self.inside.list.items c.in-Some.at c.self.invariant place c.if-at-ge-MOST.false))
