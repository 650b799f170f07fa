use Rattle.std.proofs.Common.{arith}
use Rattle.hx_bytes.proofs.Writing.{written_first, written_number, written_gap}
use Rattle.btree_node.proofs.Heads.{sets_shape}
use Rattle.btree_node.proofs.header.write_shape.Goals as goal

pub returns : goal.returns
returns c =
    let shape = c.args.shape.now in
    let w1 = written_first c.args.node.now c.write_be16.new.bytes 14 2 shape.depth (omega arith) c.write_be16.ensures in
    let w2 = written_number c.write_be32.new.bytes 4 shape.root w1 c.write_be32.ensures in
    let w3 = written_number c.write_be32-2.new.bytes 4 shape.leaf_records w2 c.write_be32-2.ensures in
    let w4 = written_number c.write_be32-3.new.bytes 4 shape.first w3 c.write_be32-3.ensures in
    let w5 = written_number c.write_be32-4.new.bytes 4 shape.last w4 c.write_be32-4.ensures in
    let w6 = written_number c.write_be16-2.new.bytes 2 shape.node_size w5 c.write_be16-2.ensures in
    let w7 = written_gap 2 w6 (omega arith) in
    let w8 = written_number c.write_be32-5.new.bytes 4 shape.total w7 c.write_be32-5.ensures in
    let w9 = written_number c.write_be32-6.new.bytes 4 shape.free w8 c.write_be32-6.ensures in
    sets_shape c.args.node.now c.write_be32-6.new.bytes shape
    (record { depth = omega arith; root = omega arith; leaf_records = omega arith; first = omega arith; last = omega arith; node_size = omega arith; total = omega arith; free = omega arith }) (omega arith) w9
