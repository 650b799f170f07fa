use Rattle.std.proofs.Common.{◌∙◌, sym, arith, rules}
use Rattle.cat_records.specs.declared.attribute.AttrRecord.TheVariants.{Inline, Fork, More}
use Rattle.cat_records.proofs.AttrSpelled.{found_spelled}
use Rattle.cat_records.proofs.attribute.read_attr.Goals as goal

pub returns-in_ok-read_inline-in-16-clause-spelled : goal.returns-in_ok-read_inline-in-16-clause-spelled
returns-in_ok-read_inline-in-16-clause-spelled c =
    found_spelled c.args.value.now (Inline c.in_ok-read_inline-in-16.field-0) (λ k. omega (arith, c.type_inv.value k)) (sym c.has_length.ensures ∙ c.if-not-has_length.false) (search rules)

pub returns-in-32-clause-spelled : goal.returns-in-32-clause-spelled
returns-in-32-clause-spelled c =
    found_spelled c.args.value.now (Fork c.read_fork.result) (λ k. omega (arith, c.type_inv.value k)) (sym c.has_length.ensures ∙ c.if-not-has_length.false) (search rules)

pub returns-in_default-clause-spelled : goal.returns-in_default-clause-spelled
returns-in_default-clause-spelled c =
    found_spelled c.args.value.now (More c.read_extents.result) (λ k. omega (arith, c.type_inv.value k)) (sym c.has_length.ensures ∙ c.if-not-has_length.false) (search rules)
