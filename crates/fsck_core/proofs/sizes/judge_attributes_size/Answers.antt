use Rattle.std.proofs.Common.{◌≡◌, true, not, List, [], sym, ap, subst, if◌then◌else◌}
use Rattle.std.specs.Prelude.{IfOk}
use Rattle.std.proofs.lemmas.Bool.{eq-eqb, ne_eqb}
use Rattle.hfs_volume.specs.Broken.{Want, size_wants}
use Rattle.hfs_volume.specs.Content.{facts_of}
use Rattle.hfs_volume.specs.Forks.{attributes_id}
use Rattle.fsck_core.specs.Files.{attributes_wants}
use Rattle.fsck_core.specs.Judged.{Judged, AddsUnmet}
use Rattle.fsck_core.proofs.JudgedLaws.{judged_none}
use Rattle.fsck_core.proofs.sizes.judge_attributes_size.Goals as goal

pub returns-then-head-eq0-clause-judged : goal.returns-then-head-eq0-clause-judged
returns-then-head-eq0-clause-judged c file is =
    let none : attributes_wants c.args.head.now file ≡ [] = ap (λ b. if not b then size_wants attributes_id c.args.head.now c.args.head.now.attributes_fork (facts_of file) else []) (eq-eqb c.args.head.now.attributes_fork.logical_size 0 c.if-head-eq0.true) in
    subst (λ (l : List Want). Judged 3 l c.args.out.now c.args.out.now true) (sym none) (judged_none 3 c.args.out.now)

pub returns-clause-judged : goal.returns-clause-judged
returns-clause-judged c file is =
    let all : attributes_wants c.args.head.now file ≡ size_wants attributes_id c.args.head.now c.args.head.now.attributes_fork (facts_of file) = ap (λ b. if not b then size_wants attributes_id c.args.head.now c.args.head.now.attributes_fork (facts_of file) else []) (ne_eqb c.args.head.now.attributes_fork.logical_size 0 c.if-head-eq0.false) in
    subst (λ (l : List Want). IfOk c.judge_size.result (λ met. Judged 3 l c.args.out.now c.judge_size.new.out met)) (sym all) (c.judge_size.ensures.judged file is)

pub returns-clause-each : goal.returns-clause-each
returns-clause-each c file is =
    let all : attributes_wants c.args.head.now file ≡ size_wants attributes_id c.args.head.now c.args.head.now.attributes_fork (facts_of file) = ap (λ b. if not b then size_wants attributes_id c.args.head.now c.args.head.now.attributes_fork (facts_of file) else []) (ne_eqb c.args.head.now.attributes_fork.logical_size 0 c.if-head-eq0.false) in
    subst (λ (l : List Want). AddsUnmet 3 l c.args.out.now c.judge_size.new.out) (sym all) (c.judge_size.ensures.each file is)
