use Rattle.std.proofs.Common.{◌∙◌, ap, arith, length, subst}
use Rattle.std.proofs.lemmas.List.{take_all}
use Rattle.jnl_store.specs.Batch.{AreOnce}
use Rattle.jnl_store.proofs.put_table.PutTable.copy.Goals as goal

pub returns-clause-items : goal.returns-clause-items
returns-clause-items c = c.copy_front.ensures.items ∙ take_all c.len-count.result c.args.from.now.items (omega (arith, c.len-count.ensures.count))

pub returns-clause-once : goal.returns-clause-once
returns-clause-once c = (subst AreOnce c.as_slice-once.ensures.items c.as_slice-once.ensures.once, subst AreOnce c.as_slice-from_once.ensures.items c.as_slice-from_once.ensures.once)
