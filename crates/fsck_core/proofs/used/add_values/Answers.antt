use Rattle.std.proofs.Common.{◌++◌, List, ◌∙◌, ap, arith}
use Rattle.std.specs.List.{flat_map}
use Rattle.std.proofs.lemmas.List.{take_all}
use Rattle.btree_node.specs.Levels.{Pair}
use Rattle.fork_map.specs.Blocks.{blocks_of}
use Rattle.fsck_core.proofs.UsedLists.{value_blocks, values_more, values_all}
use Rattle.fsck_core.proofs.used.add_values.Goals as goal

pub loop-at-preserved : goal.loop-at-preserved
loop-at-preserved c = record {
  blocks = values_more c.args.attributes.now c.loop-at.at c.value.result.now c.args.list.now c.loop-at.list c.add_value.new.list (omega (arith, c.loop-at-test.true, c.len-at-end.ensures)) c.loop-at.invariant.blocks c.value.ensures
      c.in_ok-add_value.ensures;
}

pub returns : goal.returns
returns c = c.loop-at.invariant.blocks
    ∙ ap (λ (l : List Pair). blocks_of c.args.list.now ++ flat_map value_blocks l) (take_all c.loop-at.at c.args.attributes.now (omega (arith, c.loop-at-test.false, c.len-at-end.ensures)))
    ∙ ap (λ l. blocks_of c.args.list.now ++ l) (values_all c.args.attributes.now)
