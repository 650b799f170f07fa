use Rattle.std.proofs.Common.{◌≡◌, true, false, sym, subst}
use Rattle.std.specs.Prelude.{IfNone, IfSome}
use Rattle.std.proofs.lemmas.Bool.{true≢false}
use Rattle.hfs_model.specs.Targets.{components_of, is_target}
use Rattle.volume_links.proofs.Symlinked.{target_short}
use Rattle.volume_links.proofs.judging.is_target.Goals as goal

pub returns-in-Some-clause-exact : goal.returns-in-Some-clause-exact
returns-in-Some-clause-exact c = sym (subst (λ found. IfSome found (λ components. (is_target c.args.value.now ≡ true) × (components.items ≡ components_of c.args.value.now))) c.in-Some.is c.in_ok-components.ensures.components).0

pub returns-in-Some-clause-few : goal.returns-in-Some-clause-few
returns-in-Some-clause-few c = λ so. target_short c.args.value.now (subst (λ found. IfSome found (λ components. (is_target c.args.value.now ≡ true) × (components.items ≡ components_of c.args.value.now))) c.in-Some.is c.in_ok-components.ensures.components).0

pub returns-clause-exact : goal.returns-clause-exact
returns-clause-exact c = sym (subst (λ found. IfNone found (is_target c.args.value.now ≡ false)) c.in_default.is c.in_ok-components.ensures.other)

pub returns-clause-few : goal.returns-clause-few
returns-clause-few c = λ so. absurd (true≢false (sym so))
