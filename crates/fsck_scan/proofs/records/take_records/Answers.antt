use Rattle.std.proofs.Common.{◌≡◌, ◌<◌, ◌+◌, ◌++◌, ◌∷◌, [], ℕ, List, length, take, get_or, sym, ◌∙◌, ap, subst, arith}
use Rattle.btree_node.specs.Node.{items}
use Rattle.fsck_scan.specs.Good.{IsGoodRecord, GoesOn, Takes}
use Rattle.fsck_scan.proofs.RecordLaws.{takes_more}
use Rattle.fsck_scan.proofs.records.take_records.Goals as goal

pub loop-i-preserved : goal.loop-i-preserved
loop-i-preserved g c =
    let fresh : List (List ℕ) = items c.args.node.now in
    let k : ℕ = c.loop-i.i in
    let is : c.item-item.result.now ≡ get_or fresh k [] = c.item-item.ensures.value in
    let inside : k < length fresh = omega (arith, c.loop-i-test.true, c.count-i-end.ensures) in
    let new : c.push.new.self ≡ c.loop-i.records ++ get_or fresh k [] ∷ [] = c.in_ok-push.ensures.added ∙ ap (λ (b : List ℕ). c.loop-i.records ++ b ∷ []) is in
    subst (λ (l : List (List ℕ)). Takes g.K.KeyOrder.is_key g.K.KeyOrder.is_value g.K.KeyOrder.cmp c.args.most c.args.height (take (k + 1) fresh) c.args.records.now l) (sym new)
    (takes_more g.K.KeyOrder.is_key g.K.KeyOrder.is_value g.K.KeyOrder.cmp c.args.most c.args.height g.met.K.KeyOrder.total fresh c.args.records.now c.loop-i.records k inside c.loop-i.invariant
    (subst (λ b. IsGoodRecord g.K.KeyOrder.is_key g.K.KeyOrder.is_value c.args.most c.args.height b) is (c.is_good_record.ensures.0 c.if-not-is_good_record.false))
    (subst (λ b. GoesOn g.K.KeyOrder.cmp c.loop-i.records b) is (c.goes_on.ensures.0 c.if-not-goes_on.false)))
