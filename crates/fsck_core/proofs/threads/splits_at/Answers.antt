use Rattle.std.proofs.Common.{◌<◌, ◌-◌, ℕ, List, length, arith}
use Rattle.btree_node.specs.Levels.{Pair}
use Rattle.fsck_core.proofs.ThreadLaws.{split_more, split_less, parent_at, key_long}
use Rattle.fsck_core.proofs.threads.splits_at.Goals as goal

pub returns-clause-split : goal.returns-clause-split
returns-clause-split c catalog is =
    let pairs : List Pair = c.args.pairs.now in
    let before : ℕ = c.args.at - 1 in
    let inside : c.args.at < length pairs = omega (arith, c.if-at-len.false, c.len.ensures) in
    let low : before < length pairs = omega (arith, inside) in
    let first = parent_at pairs before c.parent_of.result c.key.result.now c.key.ensures (c.parent_of.ensures (key_long pairs before c.key.result.now catalog low c.key.ensures)) in
    let here = parent_at pairs c.args.at c.parent_of-2.result c.key-2.result.now c.key-2.ensures (c.parent_of-2.ensures (key_long pairs c.args.at c.key-2.result.now catalog inside c.key-2.ensures)) in
    record {
      below = λ k less within. split_more pairs c.args.parent 0 before catalog.order low (omega (arith, first, c.if-parent_of-parent.false)) k (omega (arith, less, c.if-at-eq0.false)) within;
      rest = λ k above within. split_less pairs c.args.parent c.args.at catalog.order (omega (arith, here, c.if-parent_of-parent-2.false)) k above within;
    }
