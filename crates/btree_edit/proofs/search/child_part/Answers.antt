use Rattle.std.proofs.Common.{◌∙◌, arith, inl, inr}
use Rattle.btree_edit.proofs.Pairs.{child_read, value_long}
use Rattle.btree_edit.proofs.search.child_part.Goals as goal

pub returns-then-at-item : goal.returns-then-at-item
returns-then-at-item c = λ long. c.read_be32.ensures ∙ child_read c.args.item.now c.key_part-at.result.now c.key_part-at.ensures

pub returns-else-at-item : goal.returns-else-at-item
returns-else-at-item c = λ long. elim (value_long c.args.item.now c.key_part-at.result.now c.key_part-at.ensures) [
  | inl fits ↦ absurd (omega arith)
  | inr short ↦ absurd (omega arith)
]
