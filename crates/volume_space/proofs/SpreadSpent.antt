-- What the growth of a file takes of the room for puts, whose fork has any number of extents.
use Rattle.std.proofs.Common.{◌≡◌, ◌≢◌, ◌≤◌, ℕ, ◌+◌, List, map, refl, sym, ◌∙◌, subst, arith}
use Rattle.hx_bytes.specs.declared.extents.Extent.{Extent}
use Rattle.sector_disk.specs.Space.{Space}
use Rattle.btree_node.specs.Keys.{IsExtentKey, extent_cmp, is_eight_extents}
use Rattle.btree_node.specs.Levels.{Pair}
use Rattle.btree_node.specs.TreeFile.{extents_form}
use Rattle.btree_file.specs.Standing.{HoldsTree}
use Rattle.btree_file.specs.State.{state_of}
use Rattle.btree_file.proofs.StandingLaws.{pairs_held}
use Rattle.hfs_volume.specs.Content.{overflow_in_volume}
use Rattle.hfs_volume.specs.Forks.{data_kind, extents_id}
use Rattle.hfs_volume.specs.Records.{overflow_of}
use Rattle.overflow.specs.Reading.{HasExtents, overflow_in_store}
use Rattle.overflow.specs.Room.{edits_for}
use Rattle.volume_base.specs.Lists.{lists_of}
use Rattle.volume_base.specs.declared.volume.Volume.{Volume}
use Rattle.volume_space.specs.Growing.{growth_room}
use Rattle.volume_space.specs.SpreadGrowth.{GoesOnInRun, growth_room_spread}
use Rattle.volume_space.specs.Spreading.{edits_load}
use Rattle.volume_space.specs.declared.ahead.WhichTree.{WhichTree}
use Rattle.volume_space.proofs.SpreadRoom.{run_edit}

-- ---- one edit stores a fork that goes on in a run

module _ (v : Volume) (a : Space) (id : ℕ) (other : id ≢ extents_id) (before now : List Extent) (held : HoldsTree extents_form IsExtentKey is_eight_extents extent_cmp v.extents.file a.content) (has : HasExtents (overflow_in_volume (lists_of v a.content)) id data_kind before)
    (goes : GoesOnInRun before now) (list : List Extent) (same : list ≡ now)
  where
    in_store : (names : List ℕ) → HasExtents (overflow_in_store (state_of names v.extents.file a)) id data_kind before
    in_store names = subst (λ (l : List Pair). HasExtents (map overflow_of l) id data_kind before) (sym (pairs_held extents_form IsExtentKey is_eight_extents extent_cmp names v.extents.file a held)) has

    pub one_stored : (names : List ℕ) → edits_for (state_of names v.extents.file a) id data_kind list ≤ 1
    one_stored names = subst (λ (l : List Extent). edits_for (state_of names v.extents.file a) id data_kind l ≤ 1) (sym (same ∙ goes.is))
        (run_edit (state_of names v.extents.file a) id data_kind other before (in_store names) goes.run (λ none. absurd (omega (arith, goes.some, none))))

-- ---- what that takes

-- a growth without such an edit takes no more
pub spent_more : (tree : WhichTree) (more : ℕ) (v : Volume) (a b : Space) → a.spare ≤ b.spare + growth_room tree more v → a.spare ≤ b.spare + growth_room_spread tree more v
spent_more tree more v a b less = add_more (growth_room tree more v) (edits_load v.extents.file.shape 1) less
  where
    add_more : (room load : ℕ) → a.spare ≤ b.spare + room → a.spare ≤ b.spare + (room + load)
    add_more room load low = omega (arith, low)
