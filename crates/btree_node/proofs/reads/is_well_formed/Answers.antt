use Rattle.std.proofs.Common.{arith}
use Rattle.btree_node.proofs.Descending.{cut_where_it_descends}
use Rattle.btree_node.proofs.reads.is_well_formed.Goals as goal

pub returns : goal.returns
returns c =
    cut_where_it_descends c.args.node.now c.count_records-n.result (omega (arith, c.if-n-size.false)) c.get_offset.result c.get_offset-2.result c.descends.result c.count_records-n.ensures.count
    c.get_offset.ensures.value c.if-get_offset-lt14.false c.get_offset-2.ensures.value c.if-get_offset-n.false c.descends.ensures
