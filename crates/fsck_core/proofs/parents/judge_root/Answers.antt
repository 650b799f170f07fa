use Rattle.std.proofs.Common.{◌≡◌, false, refl, sym, ◌∙◌}
use Rattle.std.specs.List.{list_any}
use Rattle.hfs_volume.specs.Broken.{IsFailed}
use Rattle.hfs_volume.specs.Broken as broken
use Rattle.fsck_core.specs.Parents.{is_root_row}
use Rattle.fsck_scan.proofs.TreeLaws.{one_more}
use Rattle.fsck_core.proofs.ToldLaws.{told_unless, stays_same}
use Rattle.fsck_core.proofs.parents.judge_root.Goals as goal

pub returns-clause-found : goal.returns-clause-found
returns-clause-found c fails =
    told_unless 10 (λ place. (place ≡ 2) × (list_any is_root_row c.args.rows.now ≡ false)) 2 c.push.new.self (refl, sym c.has_root.ensures ∙ c.if-has_root.false) c.in_ok-push.ensures.kept.listed

pub returns-in_err-push-clause-still : goal.returns-in_err-push-clause-still
returns-in_err-push-clause-still c = stays_same c.args.out.now c.push.new.self c.in_err-push.ensures.same

pub returns-clause-still : goal.returns-clause-still
returns-clause-still c = c.in_ok-push.ensures.kept.still

pub returns-clause-each : goal.returns-clause-each
returns-clause-each c finding stands =
    one_more (λ (f : broken.Finding). IsFailed 10 f (λ place. (place ≡ 2) × (list_any is_root_row c.args.rows.now ≡ false))) c.args.out.now c.push.new.self _ finding c.in_ok-push.ensures.kept
    (refl, refl, refl, (refl, sym c.has_root.ensures ∙ c.if-has_root.false)) stands
