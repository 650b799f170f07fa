-- What calls write and take, one after another.
use Rattle.std.proofs.Common.{◌≤◌, ◌+◌, ℕ, ap, arith}
use Rattle.btree_node.specs.Store.{Store, SameStore, Writes}
use Rattle.btree_edit.specs.Editing.{CostsAtMost}
use Rattle.btree_edit.specs.Reading.{ReadsNodes}
use Rattle.btree_edit.proofs.Repeated.{same_store_both}

pub does_both : {a b c : Store} (m t n u k v : ℕ) → CostsAtMost m t a b → CostsAtMost n u b c → m + n ≤ k → t + u ≤ v → CostsAtMost k v a c
does_both m t n u k v p q fits takes = record {
  fewer = omega (arith, p.fewer, q.fewer);
  some = omega (arith, p.some, q.some);
  left = omega (arith, p.left, q.left);
  sectors = omega (arith, p.sectors, q.sectors);
  free = omega (arith, p.free, q.free);
  later = omega (arith, p.later, q.later);
  same = same_store_both p.same q.same;
}

pub does_read : {a b : Store} (m : ℕ) → ReadsNodes m a b → a.faults ≤ b.faults → CostsAtMost 0 0 a b
does_read m p later = record {
  fewer = omega (arith, p.room.unwritten);
  some = omega (arith, p.room.unwritten);
  left = omega (arith, p.room.unwritten, p.room.writes_left);
  sectors = omega (arith, p.room.sectors, p.room.sectors_left);
  free = omega (arith, ap (λ h. h.free) p.shape);
  later = later;
  same = p.same;
}

pub does_write : {a b : Store} (k t : ℕ) → Writes k a b → SameStore a b → a.shape.free ≤ b.shape.free + t → a.faults ≤ b.faults → CostsAtMost k t a b
does_write k t p same free later = record {
  fewer = p.fewer;
  some = p.some;
  left = p.left;
  sectors = p.sectors;
  free = free;
  later = later;
  same = same;
}
