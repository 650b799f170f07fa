use Rattle.std.proofs.Common.{◌≡◌, true, not, sym, subst}
use Rattle.open_files.specs.declared.act.OpenFile.{OpenFile}
use Rattle.open_files.specs.Handles.{is_handle}
use Rattle.open_files.specs.Order.{are_in_order}
use Rattle.open_files.proofs.Ordered.{kept_in_order}
use Rattle.open_files.proofs.table.Table.close.Goals as goal

pub invariant_of-self-inside : goal.invariant_of-self-inside
invariant_of-self-inside c = (
  subst (λ l. are_in_order l ≡ true) (sym c.drop_handle.ensures) (kept_in_order (λ (opened : OpenFile). not (is_handle c.args.session c.args.handle opened)) c.self.inside.files.items c.self.inside.in_order),
  tt,
)
