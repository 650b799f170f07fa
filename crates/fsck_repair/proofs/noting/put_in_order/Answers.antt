use Rattle.std.proofs.Common.{List, rules, sym, subst, ℕ, ◌+◌, arith}
use Rattle.std.specs.List.Sorted.{IsNonDecreasingBy, IsPermutation}
use Rattle.std.proofs.lemmas.List.Sorted.{IsNonDecreasingBy-from_sort_by_key}
use Rattle.fsck_repair.specs.declared.mend.Change.{Change}
use Rattle.fsck_repair.proofs.OrderLaws.{Tidied, tidied_more, rising_order, rising_once, in_order}
use Rattle.fsck_repair.proofs.noting.put_in_order.Goals as goal

-- src/noting.rt:65:5
pub loop-change-preserved : goal.loop-change-preserved
loop-change-preserved c =
    let items = c.deref-change-items in
    let order : IsNonDecreasingBy (λ (h : Change). h.at) items.result.now =
    subst (IsNonDecreasingBy (λ (h : Change). h.at)) (sym items.ensures.value) (IsNonDecreasingBy-from_sort_by_key (λ (h : Change). h.at) _ c.sort_unstable_by_key.ensures.sorted (λ a r q k. search rules)) in
    subst (λ (l : List Change). Tidied c.args.sectors items.result.now (c.loop-change.change-index + 1) l) (sym c.in_ok-add_behind.ensures)
    (tidied_more c.args.sectors items.result.now c.loop-change.change-index c.loop-change.sorted.items order c.loop-change-test.true c.loop-change.invariant)

-- src/noting.rt:54:1
pub returns-clause-order : goal.returns-clause-order
returns-clause-order c = rising_order c.loop-change.sorted.items c.loop-change.invariant.rising

-- src/noting.rt:54:1
pub returns-clause-once : goal.returns-clause-once
returns-clause-once c = rising_once c.loop-change.sorted.items c.loop-change.invariant.rising

-- src/noting.rt:54:1
pub returns-clause-same : goal.returns-clause-same
returns-clause-same c =
    let items = c.deref-change-items in
    in_order c.args.sectors c.args.changes.items items.result.now c.loop-change.sorted.items
    (subst (λ (l : List Change). IsPermutation c.args.changes.items l) (sym items.ensures.value) c.sort_unstable_by_key.ensures.permutation)
    (subst (λ (k : ℕ). Tidied c.args.sectors items.result.now k c.loop-change.sorted.items) {x = c.loop-change.change-index} (omega (arith, c.loop-change-test.false, c.loop-change.auto.change-index-end)) c.loop-change.invariant)
