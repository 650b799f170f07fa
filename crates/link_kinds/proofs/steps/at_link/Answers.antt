use Rattle.std.proofs.Common.{◌≡◌, ◌≤◌, ◌+◌, ◌-◌, ◌++◌, true, false, length, ap, arith, subst, sym, ◌∙◌}
use Rattle.std.specs.Prelude.{IfNone, IfSome, reverse}
use Rattle.std.proofs.lemmas.List.{length-append, length-reverse}
use Rattle.hfs_model.specs.Targets.{components_of, is_target}
use Rattle.link_kinds.specs.Resolves.{resolve}
use Rattle.link_kinds.specs.Walks.{leads_to}
use Rattle.link_kinds.proofs.Ways.{link_bad, link_good, link_last}
use Rattle.link_kinds.proofs.steps.at_link.Goals as goal

pub returns-then-more-eq0-clause-leads : goal.returns-then-more-eq0-clause-leads
returns-then-more-eq0-clause-leads c = λ look. ap (leads_to look) c.at_end.ensures ∙ sym (link_last look c.args.more _ c.args.target.now _ c.if-more-eq0.true)

pub returns-in-None-clause-leads : goal.returns-in-None-clause-leads
returns-in-None-clause-leads c = λ look.
    let bad : is_target c.args.target.now ≡ false = subst (λ found. IfNone found (is_target c.args.target.now ≡ false)) c.in-None.is c.in_ok-components.ensures.other in
    ap (leads_to look) c.at_end-in-None.ensures ∙ sym (link_bad look c.args.more _ c.args.target.now _ c.if-more-eq0.false bad)

pub returns-in_ok-walk-in-Some-clause-leads : goal.returns-in_ok-walk-in-Some-clause-leads
returns-in_ok-walk-in-Some-clause-leads c = λ look.
    let one : c.args.more ≡ c.args.more - 1 + 1 = omega (arith, c.if-more-eq0.false) in
    let good : (is_target c.args.target.now ≡ true) × (c.in-Some.components.items ≡ components_of c.args.target.now) =
    subst (λ found. IfSome found (λ components. (is_target c.args.target.now ≡ true) × (components.items ≡ components_of c.args.target.now))) c.in-Some.is c.in_ok-components.ensures.components in
    c.in_ok-walk-in-Some.ensures.leads look ∙ ap (λ way. resolve look (c.args.more - 1) way (reverse c.in_ok-left-in-Some.left.items)) c.begin-way.ensures
    ∙ ap (resolve look (c.args.more - 1) _) (c.in_ok-left-in-Some.ensures ∙ ap (λ l. l ++ reverse c.args.left.items) good.1) ∙ sym (link_good look c.args.more (c.args.more - 1) _ c.args.target.now _ one good.0)

pub returns-in_ok-walk-in-Some-clause-fewer : goal.returns-in_ok-walk-in-Some-clause-fewer
returns-in_ok-walk-in-Some-clause-fewer c =
    let few : length c.in-Some.components.items ≤ 1024 = subst (λ found. IfSome found (λ components. length components.items ≤ 1024)) c.in-Some.is c.in_ok-components.ensures.few in
    omega (
      arith,
      few,
      c.in_ok-walk-in-Some.ensures.fewer,
      ap length c.in_ok-left-in-Some.ensures,
      length-reverse c.in_ok-left-in-Some.left.items,
      length-append c.in-Some.components.items (reverse c.args.left.items),
      length-reverse c.args.left.items,
      c.if-more-eq0.false,
    )
