use Rattle.std.proofs.Common.{ap, sym, ◌∙◌}
use Rattle.std.specs.Prelude.{Err, reverse}
use Rattle.link_kinds.specs.declared.kinds.KindRefusal.TheVariants as refusal
use Rattle.link_kinds.specs.Resolves.{at_link, go_on, resolve}
use Rattle.link_kinds.specs.Walks.{leads_to}
use Rattle.link_kinds.proofs.Ways.{go_on_result, goes, reverse_push}
use Rattle.link_kinds.proofs.steps.seen.Goals as goal

pub returns-in-Absent-clause-leads : goal.returns-in-Absent-clause-leads
returns-in-Absent-clause-leads c = λ look.
    ap (leads_to look) c.at_end.ensures
    ∙ sym (ap (goes look c.args.more (reverse c.args.way.items) c.args.name (reverse c.args.left.items)) c.in-Absent.is ∙ go_on_result look c.args.more (Err refusal.NotFound))

pub returns-in_ok-walk-in-Folder-clause-leads : goal.returns-in_ok-walk-in-Folder-clause-leads
returns-in_ok-walk-in-Folder-clause-leads c = λ look.
    c.in_ok-walk-in-Folder.ensures.leads look
    ∙ ap (λ way. resolve look c.args.more way (reverse c.args.left.items)) (ap reverse c.in_ok-push-in-Folder.ensures.items ∙ reverse_push c.args.way.items _)
    ∙ sym (ap (goes look c.args.more (reverse c.args.way.items) c.args.name (reverse c.args.left.items)) c.in-Folder.is)

pub returns-in_ok-walk-in-File-clause-leads : goal.returns-in_ok-walk-in-File-clause-leads
returns-in_ok-walk-in-File-clause-leads c = λ look.
    c.in_ok-walk-in-File.ensures.leads look ∙ sym (ap (goes look c.args.more (reverse c.args.way.items) c.args.name (reverse c.args.left.items)) c.in-File.is)

pub returns-in_ok-walk-in-Link-clause-leads : goal.returns-in_ok-walk-in-Link-clause-leads
returns-in_ok-walk-in-Link-clause-leads c = λ look.
    c.in_ok-walk-in-Link.ensures.leads look ∙ ap (λ bytes. go_on look c.args.more (at_link (reverse c.args.way.items) bytes (reverse c.args.left.items))) c.as_slice.ensures
    ∙ sym (ap (goes look c.args.more (reverse c.args.way.items) c.args.name (reverse c.args.left.items)) c.in-Link.is)
