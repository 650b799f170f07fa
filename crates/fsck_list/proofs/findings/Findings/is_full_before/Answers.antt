use Rattle.std.proofs.Common.{List, subst, arith}
use Rattle.fsck_list.specs.declared.finding.Finding.{Finding}
use Rattle.fsck_list.specs.Kept.{IsListed}
use Rattle.fsck_list.specs.Order.{IsBefore}
use Rattle.fsck_list.proofs.KeptLaws.{full_before}
use Rattle.fsck_list.proofs.findings.Findings.is_full_before.Goals as goal

pub returns : goal.returns
returns c is other same behind =
    let xs : List Finding = c.self.inside.list.items in
    let first : Finding = record { rule = c.args.rule; place = c.args.place; found = 0; wanted = 0 } in
    let last : IsBefore c.index.result.now first = c.is_before.ensures.0 is in
    subst (λ (l : List Finding). IsListed l other) c.self.view_is
    (full_before xs c.args.rule c.args.place c.index.result.now other c.self.invariant (omega (arith, c.if-len-lt-MOST.false)) (subst (λ (x : Finding). IsBefore x first) c.index.ensures last) same behind)
