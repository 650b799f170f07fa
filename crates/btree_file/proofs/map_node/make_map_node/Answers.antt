use Rattle.std.proofs.Common.{ℕ, ◌≤◌, List, length, ◌∙◌, ap, arith}
use Rattle.btree_node.specs.Node.{offset}
use Rattle.btree_file.proofs.NewNodes.{start_low, ordered, made}
use Rattle.btree_file.proofs.Sizes.{size_least}
use Rattle.btree_file.proofs.map_node.make_map_node.Goals as goal

pub overflow_mul-from : goal.overflow_mul-from
overflow_mul-from c =
    let page = c.fill_map_node.new.page in
    let size = length c.args.page.now in
    let large : 512 ≤ size = omega (arith, size_least (length page) c.bytes.ensures.size, c.fill_map_node.ensures.length) in
    let from_is = c.first_record-from.ensures.from ∙ ap (λ (l : List ℕ). offset l 0) c.bytes.ensures.value in
    omega (arith, from_is, start_low page c.args.zeros.now size large c.fill_map_node.ensures.length c.requires.long c.fill_map_node.ensures.items c.fill_map_node.ensures.grammar)

pub set_bit-requires : goal.set_bit-requires
set_bit-requires c =
    let page = c.fill_map_node.new.page in
    let size = length c.args.page.now in
    let large : 512 ≤ size = omega (arith, size_least (length page) c.bytes.ensures.size, c.fill_map_node.ensures.length) in
    let from_is = c.first_record-from.ensures.from ∙ ap (λ (l : List ℕ). offset l 0) c.bytes.ensures.value in
    omega (arith, from_is, start_low page c.args.zeros.now size large c.fill_map_node.ensures.length c.requires.long c.fill_map_node.ensures.items c.fill_map_node.ensures.grammar, large, c.fill_map_node.ensures.length)

pub overflow_sub-result : goal.overflow_sub-result
overflow_sub-result c =
    let page = c.fill_map_node.new.page in
    let size = length c.args.page.now in
    let large : 512 ≤ size = omega (arith, size_least (length page) c.bytes.ensures.size, c.fill_map_node.ensures.length) in
    let from_is = c.first_record-from.ensures.from ∙ ap (λ (l : List ℕ). offset l 0) c.bytes.ensures.value in
    let to_is = c.first_record-from.ensures.to ∙ ap (λ (l : List ℕ). offset l 1) c.bytes.ensures.value in
    omega (arith, from_is, to_is, ordered page c.args.zeros.now size large c.fill_map_node.ensures.length c.requires.long c.fill_map_node.ensures.items c.fill_map_node.ensures.grammar)

pub returns-clause-made : goal.returns-clause-made
returns-clause-made c =
    let page = c.fill_map_node.new.page in
    let size = length c.args.page.now in
    let large : 512 ≤ size = omega (arith, size_least (length page) c.bytes.ensures.size, c.fill_map_node.ensures.length) in
    let from_is = c.first_record-from.ensures.from ∙ ap (λ (l : List ℕ). offset l 0) c.bytes.ensures.value in
    let to_is = c.first_record-from.ensures.to ∙ ap (λ (l : List ℕ). offset l 1) c.bytes.ensures.value in
    made page c.args.zeros.now size large c.fill_map_node.ensures.length c.requires.long c.fill_map_node.ensures.items c.fill_map_node.ensures.grammar c.requires.zeros c.set_bit.new.self c.args.node
    c.first_record-from.result.0 c.first_record-from.result.1 from_is to_is c.fill_map_node.ensures.next c.set_bit.ensures
