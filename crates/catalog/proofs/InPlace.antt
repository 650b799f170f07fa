-- A value given in place: what it takes.
use Rattle.std.proofs.Common.{◌≡◌, ◌+◌, ◌*◌, ap, arith}
use Rattle.std.specs.Prelude.{IsTrue}
use Rattle.btree_node.specs.Store.{Store}
use Rattle.btree_edit.specs.Editing.{CostsAtMost, edit_writes}
use Rattle.btree_edit.specs.Edits.{top_of, IsNoHigher}
use Rattle.btree_edit.proofs.EditLaws.{costs_more}
use Rattle.catalog.specs.Rooms.{UpdatesAtMost, TakesUpdates}

-- one write is an update
pub swapped_most : (old new : Store) → CostsAtMost 1 0 old new → UpdatesAtMost 0 1 516 old new
swapped_most old new costs tells deepest deep = costs_more 1 0 (0 * edit_writes deepest + 1) (0 * (deepest + 1)) costs (omega arith) (omega arith)

-- and takes nothing else where the shape and the root's records stay
pub swapped_takes : (old new : Store) → CostsAtMost 1 0 old new → new.shape ≡ old.shape → (IsTrue old.tells → IsNoHigher (top_of new) (top_of old)) → TakesUpdates 0 1 516 old new
swapped_takes old new costs shape top = record {
  takes = swapped_most old new costs;
  top = top;
  records = λ tells. omega (arith, ap (λ h. h.leaf_records) shape);
}
