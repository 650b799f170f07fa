-- The overflow records of a tree's fork are stored: the volume stands whole again.
use Rattle.std.proofs.Common.{◌≡◌, ◌≢◌, ℕ, List, get_or, sym, ◌∙◌, subst, arith}
use Rattle.std.specs.Prelude.{IsTrue}
use Rattle.hx_bytes.specs.declared.extents.Extent.{Extent}
use Rattle.btree_edit.specs.Desk.{IsDeskOf}
use Rattle.btree_file.specs.Frame.{FollowsOn}
use Rattle.btree_file.specs.Standing.{HoldsTree, LiesOpen, pairs_in}
use Rattle.btree_file.specs.State.{sectors_of_tree}
use Rattle.btree_node.specs.Keys.{IsExtentKey, extent_cmp, is_eight_extents}
use Rattle.btree_node.specs.Levels.{Pair}
use Rattle.btree_node.specs.TreeFile.{extents_form}
use Rattle.sector_disk.specs.Space.{Space}
use Rattle.hfs_volume.specs.Forks.{allocation_id, attributes_id, catalog_id, data_kind, extents_id, in_use}
use Rattle.hfs_volume.specs.Records.{Overflow}
use Rattle.overflow.proofs.Cutting.{AreUsed}
use Rattle.overflow.specs.Reading.{HasExtents}
use Rattle.overflow.specs.Records.{eight_at}
use Rattle.volume_base.specs.Service.{IsInService}
use Rattle.volume_base.specs.Spreading.{StoresFork}
use Rattle.volume_base.specs.Standing.{StandsOver}
use Rattle.volume_base.specs.declared.volume.Tree.{Tree}
use Rattle.volume_base.specs.declared.volume.Volume.{Volume}
use Rattle.volume_base.proofs.CutLists.{extents_used}
use Rattle.volume_base.proofs.Placing.{default_is}
use Rattle.volume_space.specs.SpreadGrowth.{GoesOnInRun, StandsButOver}
use Rattle.volume_space.proofs.ExtentsEdited.{extents_own, serves_edited}
use Rattle.volume_space.proofs.GrownForks.{join_used}
use Rattle.volume_space.proofs.SpreadFile.{all_in_use}
use Rattle.volume_space.proofs.SpreadStands.{stands_whole}

-- none of the sectors of its extents overflow file is closed
pub open_but : (id : ℕ) (v : Volume) (a : Space) → StandsButOver id v a → LiesOpen v.extents.file a
open_but id v a but told k low shut =
    (but told).closed (get_or (sectors_of_tree v.extents.file) k 0) shut (extents_own v (get_or (sectors_of_tree v.extents.file) k 0) (k, low, default_is (sectors_of_tree v.extents.file) k (get_or (sectors_of_tree v.extents.file) k 0) low))

-- extents that go on in a run have blocks
pub used_in_run : (overflow : List Overflow) (id : ℕ) (before list : List Extent) → HasExtents overflow id data_kind before → GoesOnInRun before list → AreUsed list
used_in_run overflow id before list has goes =
    subst AreUsed (sym goes.is) (join_used before goes.run (subst AreUsed has.is (extents_used overflow id data_kind has.fork)) (λ none. absurd (omega (arith, goes.some, none))))

-- what is said of extents in use is said of all
pub stores_used : (id : ℕ) (list : List Extent) (old new : List Pair) → AreUsed list → StoresFork id data_kind (in_use list) old new → StoresFork id data_kind list old new
stores_used id list old new used stores = subst (λ (l : List Extent). StoresFork id data_kind l old new) (all_in_use list used) stores

pub stands_stored : (id : ℕ) (v : Volume) (a b : Space) (later : Tree) (list : List Extent) → id ≢ extents_id → id ≢ allocation_id → IsInService v a → StandsButOver id v a
    → FollowsOn v.extents.file later.file a b → IsDeskOf later.file.shape.node_size later.desk → (IsTrue a.tells → AreUsed list)
    → (IsTrue a.tells → HoldsTree extents_form IsExtentKey is_eight_extents extent_cmp later.file b.content)
    → (IsTrue a.tells → StoresFork id data_kind list (pairs_in (sectors_of_tree v.extents.file) a.content) (pairs_in (sectors_of_tree v.extents.file) b.content))
    → (IsTrue a.tells → id ≡ catalog_id → (v.catalog.file.fork ≡ list) × (v.header.catalog_fork.extents ≡ eight_at list 0)) → (IsTrue a.tells → id ≡ attributes_id → (v.attributes.file.fork ≡ list) × (v.header.attributes_fork.extents ≡ eight_at list 0))
    → StandsOver (record v { extents = later }) b
stands_stored id v a b later list other not_map service but follows desk used holds stores catalog attributes = record {
  service = serves_edited v a b later follows service desk;
  stands = λ tells.
      let told : IsTrue a.tells = sym follows.space.same.tells ∙ tells in
      stands_whole id v a b later (but told) told follows list (used told) other not_map (holds told) (stores told) (catalog told) (attributes told);
}
