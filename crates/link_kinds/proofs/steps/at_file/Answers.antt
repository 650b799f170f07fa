use Rattle.std.proofs.Common.{◌++◌, ◌∷◌, [], List, ap, sym, ◌∙◌}
use Rattle.std.specs.Prelude.{Ok, reverse}
use Rattle.link_kinds.specs.declared.kinds.Folder.{Folder}
use Rattle.link_kinds.specs.Resolves.{go_on, names_to}
use Rattle.link_kinds.specs.Walks.{leads_to}
use Rattle.link_kinds.proofs.Ways.{ends_last, ends_more, go_on_result, names_with}
use Rattle.link_kinds.proofs.steps.at_file.Goals as goal

pub returns-then-is_some-clause-leads : goal.returns-then-is_some-clause-leads
returns-then-is_some-clause-leads c = λ look.
    ap (leads_to look) c.at_end.ensures
    ∙ sym (ap (go_on look c.args.more) (ends_more (reverse c.args.way.items) c.args.name c.args.left.items (c.is_some.ensures.some c.if-is_some.true)) ∙ go_on_result look c.args.more _)

pub returns-clause-leads : goal.returns-clause-leads
returns-clause-leads c = λ look.
    let names = c.in_ok-path.ensures ∙ ap (λ (w : List Folder). names_to (reverse w) []) c.deref.ensures.value in
    ap (leads_to look) c.at_end-2.ensures ∙ ap Ok (c.in_ok-push.ensures.added ∙ ap (λ l. l ++ c.args.name ∷ []) names ∙ names_with c.args.way.items c.args.name)
    ∙ sym (ap (go_on look c.args.more) (ends_last (reverse c.args.way.items) c.args.name c.args.left.items (c.is_some.ensures.none c.if-is_some.false)) ∙ go_on_result look c.args.more _)
