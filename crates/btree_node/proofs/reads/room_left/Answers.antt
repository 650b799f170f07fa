use Rattle.std.proofs.Common.{◌≡◌, arith, ap, ◌∙◌}
use Rattle.btree_node.specs.Node.{offset, record_count}
use Rattle.btree_node.proofs.Items.{records_take}
use Rattle.btree_node.proofs.reads.room_left.Goals as goal

pub returns : goal.returns
returns c =
    let node = c.args.node.now in
    let count = c.count_records-n.ensures.count in
    let end : c.get_offset-end.result ≡ offset node (record_count node) = c.get_offset-end.ensures.value ∙ ap (λ n. offset node n) count in
    omega (arith, end, records_take node c.requires.well_formed, c.requires.well_formed.inside, c.requires.well_formed.first)
