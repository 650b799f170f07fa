use Rattle.std.proofs.Common.{◌∙◌, ap}
use Rattle.hx_bytes.specs.Field.{number_bytes, put_at}
use Rattle.jnl_format.specs.List.{max_blocks}
use Rattle.jnl_format.proofs.Fields.{spells_none, spells_more, spells_all}
use Rattle.jnl_format.proofs.list.write_head.Goals as goal

pub returns : goal.returns
returns c =
    let o = c.args.order in
    let h = c.args.head.now in
    let first = c.args.first.now in
    let a = spells_more o 2 (max_blocks c.args.blhdr) 0 _ c.args.into.now _ _ (spells_none c.args.into.now) (c.write_o16.ensures ∙ ap (λ m. put_at c.args.into.now 0 (number_bytes o 2 m)) c.blocks_at_most.ensures) in
    let b = spells_more o 2 h.entries 2 _ c.args.into.now _ _ a c.write_o16-2.ensures in
    let d = spells_more o 4 h.used 4 _ c.args.into.now _ _ b c.write_o32.ensures in
    let e = spells_more o 4 c.args.sum 8 _ c.args.into.now _ _ d c.write_o32-2.ensures in
    let f = spells_more o 4 0 12 _ c.args.into.now _ _ e c.write_o32-3.ensures in
    let g = spells_more o 8 first.bnum 16 _ c.args.into.now _ _ f c.write_o64.ensures in
    let i = spells_more o 4 first.bsize 24 _ c.args.into.now _ _ g c.write_o32-4.ensures in
    spells_all _ _ _ _ (spells_more o 4 first.next 28 _ c.args.into.now _ _ i c.write_o32-5.ensures) c.told-into
