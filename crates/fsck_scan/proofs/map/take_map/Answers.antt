use Rattle.std.proofs.Common.{◌≡◌, ◌<◌, ◌≤◌, ℕ, List, inl, inr, refl, ap, arith, length, length-append}
use Rattle.btree_node.specs.Node.{IsNodeSize}
use Rattle.fsck_scan.proofs.Counts.{count_is}
use Rattle.fsck_scan.proofs.map.take_map.Goals as goal

pub returns-then-count-eq0-clause-is : goal.returns-then-count-eq0-clause-is
returns-then-count-eq0-clause-is c = ((λ never. cc), λ is. absurd (omega (arith, is.1, c.count.ensures, count_is c.args.node.now, c.if-count-eq0.true)))

pub returns-clause-is : goal.returns-clause-is
returns-clause-is c = ((λ always. (c.check.ensures.0 c.if-not-check.false, omega (arith, c.count.ensures, count_is c.args.node.now, c.if-count-eq0.false))), λ is. refl)

most : (n : ℕ) → IsNodeSize n → n ≤ 32768
most n (inl is) = omega (arith, is)
most n (inr (inl is)) = omega (arith, is)
most n (inr (inr (inl is))) = omega (arith, is)
most n (inr (inr (inr (inl is)))) = omega (arith, is)
most n (inr (inr (inr (inr (inl is))))) = omega (arith, is)
most n (inr (inr (inr (inr (inr (inl is)))))) = omega (arith, is)
most n (inr (inr (inr (inr (inr (inr is)))))) = omega (arith, is)

pub returns-clause-few : goal.returns-clause-few
returns-clause-few c = omega (arith, ap (λ (l : List ℕ). length l) c.in_ok-push_bytes.ensures, length-append c.args.bits.now.items c.item.result.now, c.item.ensures.size, most (length c.args.node.now) c.bytes-bytes.ensures.size)
