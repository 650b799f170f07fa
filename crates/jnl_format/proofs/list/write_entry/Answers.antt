use Rattle.jnl_format.proofs.Fields.{spells_none, spells_more, spells_all}
use Rattle.jnl_format.proofs.list.write_entry.Goals as goal

pub returns : goal.returns
returns c =
    let e = c.args.entry.now in
    let a = spells_more c.args.order 8 e.bnum 0 _ c.args.into.now _ _ (spells_none c.args.into.now) c.write_o64.ensures in
    let b = spells_more c.args.order 4 e.bsize 8 _ c.args.into.now _ _ a c.write_o32.ensures in
    spells_all _ _ _ _ (spells_more c.args.order 4 e.next 12 _ c.args.into.now _ _ b c.write_o32-2.ensures) c.told-into
