use Rattle.std.proofs.Common.{sym, subst}
use Rattle.sector_disk.specs.Space.{Space}
use Rattle.fsck_core.specs.declared.checking.Verdict.{Verdict}
use Rattle.fsck_core.proofs.CheckLaws.{Tells, verdict_tells}
use Rattle.fsck_core.proofs.checking.check.Goals as goal

pub returns-clause-sound : goal.returns-clause-sound
returns-clause-sound g c tells bytes =
    let old : Space = g.V.SectorView.space c.args.view.now in
    let told = subst (λ (v : Verdict). Tells old.content v) (sym c.verdict_of.ensures) (verdict_tells old.content c.in_ok-head.head c.judge_all.new.out (c.in_ok-head.ensures.checked tells bytes)) in
    told.sound

pub returns-clause-counted : goal.returns-clause-counted
returns-clause-counted g c tells bytes =
    let old : Space = g.V.SectorView.space c.args.view.now in
    let told = subst (λ (v : Verdict). Tells old.content v) (sym c.verdict_of.ensures) (verdict_tells old.content c.in_ok-head.head c.judge_all.new.out (c.in_ok-head.ensures.checked tells bytes)) in
    told.counted

pub returns-clause-some : goal.returns-clause-some
returns-clause-some g c tells bytes =
    let old : Space = g.V.SectorView.space c.args.view.now in
    let told = subst (λ (v : Verdict). Tells old.content v) (sym c.verdict_of.ensures) (verdict_tells old.content c.in_ok-head.head c.judge_all.new.out (c.in_ok-head.ensures.checked tells bytes)) in
    told.some

pub returns-clause-broken : goal.returns-clause-broken
returns-clause-broken g c tells bytes =
    let old : Space = g.V.SectorView.space c.args.view.now in
    let told = subst (λ (v : Verdict). Tells old.content v) (sym c.verdict_of.ensures) (verdict_tells old.content c.in_ok-head.head c.judge_all.new.out (c.in_ok-head.ensures.checked tells bytes)) in
    told.broken

pub returns-clause-listed : goal.returns-clause-listed
returns-clause-listed g c tells bytes keeps =
    let old : Space = g.V.SectorView.space c.args.view.now in
    let told = subst (λ (v : Verdict). Tells old.content v) (sym c.verdict_of.ensures) (verdict_tells old.content c.in_ok-head.head c.judge_all.new.out (c.in_ok-head.ensures.checked tells bytes)) in
    told.listed keeps

pub returns-clause-each_rule : goal.returns-clause-each_rule
returns-clause-each_rule g c tells bytes =
    let old : Space = g.V.SectorView.space c.args.view.now in
    let told = subst (λ (v : Verdict). Tells old.content v) (sym c.verdict_of.ensures) (verdict_tells old.content c.in_ok-head.head c.judge_all.new.out (c.in_ok-head.ensures.checked tells bytes)) in
    told.each_rule
