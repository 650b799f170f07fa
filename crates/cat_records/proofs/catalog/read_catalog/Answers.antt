use Rattle.std.proofs.Common.{◌∙◌, sym, arith, rules}
use Rattle.cat_records.specs.declared.record.CatRecord.TheVariants.{Folder, File, Thread}
use Rattle.cat_records.proofs.CatalogSpelled.{found_spelled}
use Rattle.cat_records.proofs.catalog.read_catalog.Goals as goal

pub returns-in-1-clause-spelled : goal.returns-in-1-clause-spelled
returns-in-1-clause-spelled c =
    found_spelled c.args.value.now (Folder (record { fields = c.read_entry.result })) (λ k. omega (arith, c.type_inv.value k)) (sym c.has_length.ensures ∙ c.if-not-has_length.false) (search rules)

pub returns-in-2-clause-spelled : goal.returns-in-2-clause-spelled
returns-in-2-clause-spelled c =
    found_spelled c.args.value.now (File (record { fields = c.read_entry-in-2.result; data_fork = c.read_fork.result; resource_fork = c.read_fork-in-2.result })) (λ k. omega (arith, c.type_inv.value k)) (sym c.has_length.ensures ∙ c.if-not-has_length.false) (search rules)

pub returns-in_ok-read_thread-in_default-clause-spelled : goal.returns-in_ok-read_thread-in_default-clause-spelled
returns-in_ok-read_thread-in_default-clause-spelled c =
    found_spelled c.args.value.now (Thread c.in_ok-read_thread-in_default.field-0) (λ k. omega (arith, c.type_inv.value k)) (sym c.has_length.ensures ∙ c.if-not-has_length.false) (search rules)
