use Rattle.std.proofs.Common.{◌≡◌, ℕ, ◌+◌, ◌-◌, ◌≤◌, arith, subst}
use Rattle.btree_node.specs.Bytes.{MovesUp}
use Rattle.btree_node.proofs.Moving.{moved_up_more}
use Rattle.btree_node.proofs.moves.move_up.Goals as goal

pub loop-from-preserved : goal.loop-from-preserved
loop-from-preserved c =
    let inv = c.loop-from.invariant in
    let by = c.args.by in
    let len = c.min-len.result in
    let from : ℕ = c.loop-from.from - len in
    let short : len ≤ c.loop-from.from - c.args.at = omega (arith, c.min-len.ensures) in
    let is : c.loop-from.from ≡ from + len = omega (arith, c.loop-from-test.true) in
    record {
      low = omega (arith, c.loop-from-test.true);
      high = omega (arith, inv.high);
      moved = moved_up_more from c.args.end by len c.args.bytes.now c.loop-from.bytes c.move_block.new.bytes c.requires.within (omega (arith, inv.high)) (subst (λ n. MovesUp n c.args.end by c.args.bytes.now c.loop-from.bytes) is inv.moved) c.move_block.ensures;
    }
