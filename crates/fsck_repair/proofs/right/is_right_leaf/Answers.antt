use Rattle.std.proofs.Common.{◌≡◌, ◌<◌, ℕ, ◌+◌, List, length, sym, ◌∙◌, subst, arith}
use Rattle.std.specs.Prelude.{slice_range}
use Rattle.btree_node.specs.Node.{items, offset, record_count}
use Rattle.btree_node.proofs.Items.{item-is, length-items}
use Rattle.volume_repair.proofs.Leaves.{leaf_law}
use Rattle.fsck_repair.specs.Leaf.{IsGoodItem}
use Rattle.fsck_repair.proofs.RightLaws.{right_more}
use Rattle.fsck_repair.proofs.right.is_right_leaf.Goals as goal

pub loop-i-init : goal.loop-i-init
loop-i-init c records are good k none = absurd (omega (arith, none))

pub loop-i-preserved : goal.loop-i-preserved
loop-i-preserved c records are good =
    let node = c.args.node.now in
    let i = c.loop-i.i in
    let inside : i < record_count node = omega (arith, c.loop-i-test.true, c.count-i-end.ensures, length-items node) in
    let is : c.item.result.now ≡ slice_range node (offset node i) (offset node (i + 1)) = c.item.ensures.value ∙ item-is node i inside in
    right_more records node c.item.result.now i (c.loop-i.invariant records are good) is (c.in_ok-right.ensures records are (subst IsGoodItem (sym is) (good i inside)) c.if-not-right.false)

pub returns : goal.returns
returns c records are good right =
    let node = c.args.node.now in
    leaf_law records node c.requires (λ i inside. c.loop-i.invariant records are good i (omega (arith, inside, c.loop-i-test.false, c.count-i-end.ensures, length-items node)))
