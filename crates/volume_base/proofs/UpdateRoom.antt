-- The room for several records that are updated one after another.
use Rattle.std.proofs.Common.{◌≡◌, ◌≤◌, ℕ, ◌+◌, ◌*◌, ◌/◌, [], sym, ◌∙◌, ap, subst, arith}
use Rattle.std.specs.Prelude.{IsTrue}
use Rattle.sector_disk.specs.Space.{Space}
use Rattle.btree_edit.specs.Editing.{CostsAtMost}
use Rattle.btree_file.specs.State.{state_of}
use Rattle.volume_base.specs.Changing.{HasRoomToUpdates, catalog_node}
use Rattle.volume_base.specs.Looking.{ReadsVolume}
use Rattle.volume_base.specs.declared.volume.Volume.{Volume}
use Rattle.volume_base.proofs.FoundEntry.{node_still}
use Rattle.volume_base.proofs.Replaced.{spent_node}

-- ---- rooms

-- what is left behind an update
pub room_after : (many : ℕ) (v w : Volume) (a b : Space) → b.tells ≡ a.tells → (IsTrue a.tells → CostsAtMost 1 0 (state_of [] v.catalog.file a) (state_of [] w.catalog.file b))
    → HasRoomToUpdates (many + 1) v a → HasRoomToUpdates many w b
room_after many v w a b same costs room = record {
  told = λ tells.
      let before = sym same ∙ tells in
      let whole : (many + 1) * catalog_node v ≡ many * catalog_node v + catalog_node v = omega arith in
      let here : many * catalog_node w ≡ many * catalog_node v = ap (λ n. many * (n / 512)) (costs (sym same ∙ tells)).same.node_size in
      omega (arith, whole, here, room.told (sym same ∙ tells), spent_node v w a b (costs (sym same ∙ tells)));
}

pub room_less : (many : ℕ) (v : Volume) (a : Space) → HasRoomToUpdates (many + 1) v a → HasRoomToUpdates many v a
room_less many v a room = record {
  told = λ tells. let whole : (many + 1) * catalog_node v ≡ many * catalog_node v + catalog_node v = omega arith in omega (arith, whole, room.told tells);
}

-- reads leave it
pub updates_still : (many : ℕ) (v w : Volume) (a b : Space) → ReadsVolume v w a b → HasRoomToUpdates many v a → HasRoomToUpdates many w b
updates_still many v w a b reads was = record {
  told = λ tells. subst (λ (k : ℕ × ℕ). many * k.0 ≤ k.1) {x = (catalog_node v, a.spare)} {y = (catalog_node w, b.spare)} (λ i. (sym (node_still v w a b reads) i, sym reads.looks.spare i)) (was.told (sym reads.looks.same.tells ∙ tells));
}
