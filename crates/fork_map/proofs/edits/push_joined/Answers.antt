use Rattle.std.proofs.Common.{◌-◌, arith, sym, ◌∙◌}
use Rattle.fork_map.proofs.Laws.{joins_touching, joins_apart, joins_none}
use Rattle.fork_map.proofs.edits.push_joined.Goals as goal
use Rattle.fork_map.proofs.edits.push_joined.Goals.{then-len-gt0+else-touches, else-len-gt0}

pub returns-then-touches : goal.returns-then-touches
returns-then-touches c = joins_touching c.args.list.now.items (c.len-len.result - 1) c.index-last.result.now c.args.extent (omega arith) c.index-last.ensures (sym c.touches.ensures ∙ c.if-touches.true)

pub returns : goal.returns
returns c = elim c.if-len-gt0.branch [
  | then-len-gt0+else-touches w ↦ c.in_ok-push.ensures.items ∙ joins_apart c.args.list.now.items (c.len-len.result - 1) w.index-last.result.now c.args.extent (omega arith) w.index-last.ensures (sym w.touches.ensures ∙ w.if-touches.false)
  | else-len-gt0 w ↦ c.in_ok-push.ensures.items ∙ joins_none c.args.list.now.items c.args.extent (omega arith)
]
