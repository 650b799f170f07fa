use Rattle.std.proofs.Common.{◌≡◌, false, refl, sym, ◌∙◌}
use Rattle.hfs_volume.specs.Broken.{IsFailed}
use Rattle.hfs_volume.specs.Broken as broken
use Rattle.fsck_core.specs.Parents.{is_reached}
use Rattle.fsck_scan.proofs.TreeLaws.{one_more}
use Rattle.fsck_core.proofs.ToldLaws.{stays_same}
use Rattle.fsck_core.proofs.parents.judge_row.Goals as goal

pub returns-clause-found : goal.returns-clause-found
returns-clause-found c fails = c.in_ok-push.ensures.kept.listed

pub returns-in_err-push-clause-still : goal.returns-in_err-push-clause-still
returns-in_err-push-clause-still c = stays_same c.args.out.now c.push.new.self c.in_err-push.ensures.same

pub returns-clause-still : goal.returns-clause-still
returns-clause-still c = c.in_ok-push.ensures.kept.still

pub returns-clause-each : goal.returns-clause-each
returns-clause-each c finding stands =
    one_more (λ (f : broken.Finding). IsFailed 10 f (λ place. (c.args.row.id ≡ place) × (is_reached c.args.row c.args.mark ≡ false))) c.args.out.now c.push.new.self _ finding c.in_ok-push.ensures.kept
    (refl, refl, refl, (refl, sym c.is_reached.ensures ∙ c.if-is_reached.false)) stands
