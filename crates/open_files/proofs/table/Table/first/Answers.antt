use Rattle.std.proofs.Common.{◌≡◌, true, ap, subst, ◌∙◌}
use Rattle.std.specs.Prelude.{IfSome}
use Rattle.open_files.specs.Handles.{first_handle}
use Rattle.open_files.specs.Order.{IsLeast, are_in_order}
use Rattle.open_files.proofs.Ordered.{least_in}
use Rattle.open_files.proofs.table.Table.first.Goals as goal

pub returns-clause-least : goal.returns-clause-least
returns-clause-least c =
    subst (λ l. IfSome c.first_of.result (IsLeast l c.args.session)) c.self.view_is
    (least_in c.args.session c.self.inside.files.items c.first_of.result c.self.inside.in_order (c.first_of.ensures ∙ ap (λ l. first_handle l c.args.session) c.as_slice.ensures.value))

pub returns-clause-order : goal.returns-clause-order
returns-clause-order c = subst (λ l. are_in_order l ≡ true) c.self.view_is c.self.inside.in_order
