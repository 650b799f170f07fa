use Rattle.std.proofs.Common.{◌<◌, ℕ, List, fold, sym, ◌∙◌, ap, subst, arith}
use Rattle.std.specs.List.{range_with_len}
use Rattle.btree_node.specs.Node.{record_count}
use Rattle.volume_repair.specs.Repair.{leaf_mended, record_mended}
use Rattle.fsck_repair.specs.Leaf.{IsGoodItem, SameFrom}
use Rattle.fsck_repair.proofs.LeafLaws.{fold_more, same_both, same_later}
use Rattle.fsck_repair.proofs.LeafParts.{in_order, ends_inside, next_is, item_same}
use Rattle.fsck_repair.proofs.leaf.mend_leaf.Goals as goal

pub mend_nth-requires-clause-order : goal.mend_nth-requires-clause-order
mend_nth-requires-clause-order c = in_order c.args.node.now c.loop-i.node c.loop-i.i c.requires.well_formed (omega (arith, c.loop-i-test.true, c.count_records-i-end.ensures.count)) c.loop-i.invariant.same

pub mend_nth-requires-clause-inside : goal.mend_nth-requires-clause-inside
mend_nth-requires-clause-inside c = ends_inside c.args.node.now c.loop-i.node c.loop-i.i c.requires.well_formed (omega (arith, c.loop-i-test.true, c.count_records-i-end.ensures.count)) c.loop-i.invariant.same

pub loop-i-preserved : goal.loop-i-preserved
loop-i-preserved c =
    let old = c.args.node.now in
    let now = c.loop-i.node in
    let i = c.loop-i.i in
    let cut = c.requires.well_formed in
    let inside : i < record_count old = omega (arith, c.loop-i-test.true, c.count_records-i-end.ensures.count) in
    let same = c.loop-i.invariant.same in
    record {
      same = same_both _ old now c.mend_nth.new.node (same_later _ _ old now same (cut.rising i inside)) (subst (λ n. SameFrom n now c.mend_nth.new.node) (next_is old now i cut inside same) c.mend_nth.ensures.same);
      counted = λ records are good.
          let mends = c.in_ok-mend_nth.ensures.counted records are (subst IsGoodItem (sym (item_same old now i cut inside same)) (good i inside)) in
          mends ∙ ap (λ (l : List ℕ). record_mended records l i) (c.loop-i.invariant.counted records are good) ∙ sym (fold_more records old i);
    }

pub returns-clause-counted : goal.returns-clause-counted
unfolding leaf_mended
returns-clause-counted c records are good =
    c.loop-i.invariant.counted records are good
    ∙ ap (λ n. fold (record_mended records) c.args.node.now (range_with_len 0 n)) {x = c.loop-i.i} {y = record_count c.args.node.now} (omega (arith, c.loop-i-test.false, c.loop-i.auto.i-end, c.count_records-i-end.ensures.count))
