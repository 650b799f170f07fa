use Rattle.std.proofs.Common.{◌+◌, [], length, ap, arith}
use Rattle.std.proofs.lemmas.List.Sums.{get_or-le-sum_by}
use Rattle.btree_node.specs.Node.{items}
use Rattle.btree_edit.proofs.Pairs.{key_short}
use Rattle.btree_edit.proofs.Cuts.{node_holds}
use Rattle.btree_edit.proofs.levels.first_key.Goals as goal

pub returns-clause-size : goal.returns-clause-size
returns-clause-size c =
    let all = items c.args.node.now in
    let one = get_or-le-sum_by (λ bytes. length bytes + 2) all 0 [] (omega (arith, c.if-count-eq0.false, c.count.ensures)) in
    let short = key_short c.item.result.now c.key_part.result.now c.key_part.ensures in
    omega (arith, one, short, ap (λ l. length l) c.item.ensures.value, node_holds c.args.node.now c.requires)
