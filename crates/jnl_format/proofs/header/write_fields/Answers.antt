use Rattle.jnl_format.proofs.Fields.{spells_none, spells_more}
use Rattle.jnl_format.proofs.header.write_fields.Goals as goal

pub returns : goal.returns
returns c =
    let h = c.args.head.now in
    let a = spells_more h.order 4 0x4A4E4C78 0 _ c.args.into.now _ _ (spells_none c.args.into.now) c.write_o32.ensures in
    let b = spells_more h.order 4 0x12345678 4 _ c.args.into.now _ _ a c.write_o32-2.ensures in
    let d = spells_more h.order 8 h.start 8 _ c.args.into.now _ _ b c.write_o64.ensures in
    let e = spells_more h.order 8 h.end 16 _ c.args.into.now _ _ d c.write_o64-2.ensures in
    let f = spells_more h.order 8 h.size 24 _ c.args.into.now _ _ e c.write_o64-3.ensures in
    let g = spells_more h.order 4 h.blhdr 32 _ c.args.into.now _ _ f c.write_o32-3.ensures in
    let i = spells_more h.order 4 c.args.sum 36 _ c.args.into.now _ _ g c.write_o32-4.ensures in
    (spells_more h.order 4 512 40 _ c.args.into.now _ _ i c.write_o32-5.ensures).is
