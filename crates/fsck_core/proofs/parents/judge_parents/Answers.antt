use Rattle.std.proofs.Common.{subst, sym}
use Rattle.fsck_core.specs.Parents.{Leads}
use Rattle.hfs_volume.specs.Broken.{IsFailed, FailsParent}
use Rattle.fsck_core.proofs.ToldLaws.{told_two, stays_both}
use Rattle.fsck_core.proofs.ParentLaws.{root_adds, rows_add, root_told, rows_told, parents_tell}
use Rattle.fsck_core.proofs.parents.judge_parents.Goals as goal

pub returns-in_err-root-clause-each : goal.returns-in_err-root-clause-each
returns-in_err-root-clause-each c entries are rises = root_adds c.args.rows.now entries c.args.out.now c.judge_root.new.out are c.judge_root.ensures.each

pub returns-in_err-reached-clause-still : goal.returns-in_err-reached-clause-still
returns-in_err-reached-clause-still c = stays_both c.args.out.now c.judge_root.new.out c.judge_rows.new.out c.judge_root.ensures.still c.judge_rows.ensures.still

pub returns-in_err-reached-clause-each : goal.returns-in_err-reached-clause-each
returns-in_err-reached-clause-each c entries are rises =
    rows_add c.args.rows.now entries c.deref.result.now c.args.out.now c.judge_root.new.out c.judge_rows.new.out are (subst (Leads 2 c.args.rows.now) (sym c.deref.ensures.value) (c.in_ok-marks.ensures.leads rises))
    (root_adds c.args.rows.now entries c.args.out.now c.judge_root.new.out are c.judge_root.ensures.each) c.judge_rows.ensures.each

pub returns-clause-met : goal.returns-clause-met
returns-clause-met c entries are rises =
    parents_tell c.args.rows.now entries c.deref.result.now c.in_ok-reached.reached c.in_ok-root.root c.both.result are (subst (Leads 2 c.args.rows.now) (sym c.deref.ensures.value) (c.in_ok-marks.ensures.leads rises)) c.both.ensures c.in_ok-root.ensures.met c.in_ok-reached.ensures.met

pub returns-clause-found : goal.returns-clause-found
returns-clause-found c entries are rises =
    told_two (λ f. IsFailed 10 f (FailsParent entries)) c.in_ok-root.root c.in_ok-reached.reached c.both.result c.judge_root.new.out c.judge_rows.new.out c.both.ensures
    (λ no. rows_told c.args.rows.now entries c.deref.result.now c.judge_rows.new.out are (subst (Leads 2 c.args.rows.now) (sym c.deref.ensures.value) (c.in_ok-marks.ensures.leads rises)) (c.in_ok-reached.ensures.found no))
    (λ no. root_told c.args.rows.now entries c.judge_root.new.out are (c.in_ok-root.ensures.found no)) c.judge_rows.ensures.still

pub returns-clause-still : goal.returns-clause-still
returns-clause-still c = stays_both c.args.out.now c.judge_root.new.out c.judge_rows.new.out c.judge_root.ensures.still c.judge_rows.ensures.still

pub returns-clause-each : goal.returns-clause-each
returns-clause-each c entries are rises =
    rows_add c.args.rows.now entries c.deref.result.now c.args.out.now c.judge_root.new.out c.judge_rows.new.out are (subst (Leads 2 c.args.rows.now) (sym c.deref.ensures.value) (c.in_ok-marks.ensures.leads rises))
    (root_adds c.args.rows.now entries c.args.out.now c.judge_root.new.out are c.judge_root.ensures.each) c.judge_rows.ensures.each
