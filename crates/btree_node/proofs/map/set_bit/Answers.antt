use Rattle.std.proofs.Common.{ℕ, arith, true, false}
use Rattle.flag_rows.proofs.ByteLaws.{bit_set, bit_cleared}
use Rattle.btree_node.proofs.OneBit.{sets_bit}
use Rattle.btree_node.proofs.map.set_bit.Goals as goal

pub returns-then-value : goal.returns-then-value
returns-then-value c = rw c.if-value.true (sets_bit c.args.node.now c.args.at _ true (omega arith) (λ (k : ℕ). bit_set c.args.node.now c.args.at k (omega arith)))

pub returns-else-value : goal.returns-else-value
returns-else-value c = rw c.if-value.false (sets_bit c.args.node.now c.args.at _ false (omega arith) (λ (k : ℕ). bit_cleared c.args.node.now c.args.at k (omega arith)))
