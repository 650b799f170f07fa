use Rattle.std.proofs.Common.{arith, sym, ◌∙◌}
use Rattle.jnl_store.proofs.ListsSectors.{length-lists_sectors, lists_sector}
use Rattle.jnl_store.proofs.lists.ListsSectorList.sector.Goals as goal

pub text_sector-requires-clause-inside : goal.text_sector-requires-clause-inside
text_sector-requires-clause-inside c = omega (arith, c.requires, length-lists_sectors c.args.self.now.form.now c.args.self.now.in_form c.args.self.now.puts.now)

pub returns-clause-value : goal.returns-clause-value
returns-clause-value c =
    let lists = c.args.self.now in
    c.text_sector.ensures.value ∙ sym (lists_sector lists.form.now lists.in_form lists.puts.now c.args.k (omega (arith, c.requires, length-lists_sectors lists.form.now lists.in_form lists.puts.now)))
