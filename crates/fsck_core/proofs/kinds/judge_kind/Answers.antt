use Rattle.std.proofs.Common.{[], ◌∷◌, refl, sym, ◌∙◌, subst, T}
use Rattle.hfs_volume.specs.Broken.{IsFailed, FailsKind}
use Rattle.hfs_volume.specs.Broken as broken
use Rattle.fsck_scan.proofs.TreeLaws.{one_more}
use Rattle.fsck_core.proofs.KindLaws.{kind_fails, still_some}
use Rattle.fsck_core.proofs.kinds.judge_kind.Goals as goal

pub returns-clause-found : goal.returns-clause-found
returns-clause-found c fails = still_some _ c.args.out.now c.push.new.self c.in_ok-push.ensures.kept

pub returns-clause-still : goal.returns-clause-still
returns-clause-still c some = still_some _ c.args.out.now c.push.new.self c.in_ok-push.ensures.kept

pub returns-clause-each : goal.returns-clause-each
returns-clause-each c long finding stands =
    one_more (λ (f : broken.Finding). IsFailed 8 f (FailsKind ((c.args.key.now, c.args.value.now) ∷ []))) c.args.out.now c.push.new.self _ finding c.in_ok-push.ensures.kept
    (refl, refl, refl, subst (λ n. FailsKind ((c.args.key.now, c.args.value.now) ∷ []) n) (sym (c.parent_of.ensures long)) (kind_fails c.args.key.now c.args.value.now (λ is. subst T (sym (c.is_of_kind.ensures.1 is) ∙ c.if-is_of_kind.false) tt))) stands
