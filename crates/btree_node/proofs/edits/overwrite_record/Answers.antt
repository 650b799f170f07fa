use Rattle.std.proofs.Common.{◌+◌, ◌++◌, length, arith, ◌∙◌, ap}
use Rattle.std.proofs.lemmas.List.{length-append}
use Rattle.hx_bytes.specs.Field.{put_at}
use Rattle.btree_node.proofs.Items.{length-items}
use Rattle.btree_node.proofs.Overwriting.{ends_at, ends_within, overwrites_record}
use Rattle.btree_node.proofs.edits.overwrite_record.Goals as goal

pub get_offset-at-requires : goal.get_offset-at-requires
get_offset-at-requires c = omega (arith, c.requires.well_formed.inside, c.requires.inside, length-items c.args.node.now)

pub put_record-requires : goal.put_record-requires
put_record-requires c =
    omega (arith, c.get_offset-at.ensures.value, ends_within c.args.node.now c.args.i (length c.args.key.now + length c.args.value.now) c.requires.well_formed c.requires.inside c.requires.length)

pub returns : goal.returns
returns c =
    let node = c.args.node.now in
    let bytes = c.args.key.now ++ c.args.value.now in
    overwrites_record c.args.i bytes node c.put_record.new.node c.requires.well_formed (omega (arith, c.requires.inside, length-items node))
    (ends_at node c.args.i (length bytes) c.requires.well_formed c.requires.inside (length-append c.args.key.now c.args.value.now ∙ c.requires.length))
    (c.put_record.ensures ∙ ap (λ at. put_at node at bytes) c.get_offset-at.ensures.value)
