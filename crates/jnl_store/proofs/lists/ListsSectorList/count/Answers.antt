use Rattle.std.proofs.Common.{sym, ◌∙◌}
use Rattle.jnl_store.proofs.ListsSectors.{length-lists_sectors}
use Rattle.jnl_store.proofs.lists.ListsSectorList.count.Goals as goal

pub returns : goal.returns
returns c = let form = c.args.self.now.form.now in c.sectors_of.ensures ∙ sym (length-lists_sectors form c.args.self.now.in_form c.args.self.now.puts.now)
