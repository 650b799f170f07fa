-- A tree's fork whose record has the first eight of its extents, with the overflow records for the others, is stored in the lists of a volume.
use Rattle.std.proofs.Common.{◌≡◌, ◌≢◌, ◌≤◌, ℕ, ◌+◌, ◌*◌, List, length, take, drop, sym, ◌∙◌, ap, subst, arith}
use Rattle.std.specs.Prelude.{All, Contains}
use Rattle.std.proofs.lemmas.List.{take-append-drop}
use Rattle.std.proofs.lemmas.List.Elements.{Contains-append_left}
use Rattle.hx_bytes.specs.declared.extents.Extent.{Extent}
use Rattle.hx_bytes.specs.declared.extents.ForkRecord.{ForkRecord}
use Rattle.btree_node.specs.Levels.{Pair}
use Rattle.fork_map.specs.Blocks.{blocks_of}
use Rattle.hfs_volume.specs.Blocks.{LieInside}
use Rattle.hfs_volume.specs.Changes.{IsStored}
use Rattle.hfs_volume.specs.Content.{VolumeState}
use Rattle.hfs_volume.specs.Forks.{data_kind, extents_id}
use Rattle.hfs_volume.proofs.Members.{all_of}
use Rattle.overflow.proofs.Cutting.{AreUsed, eight_used}
use Rattle.overflow.specs.Records.{eight_at}
use Rattle.volume_base.specs.Spreading.{StoresFork}
use Rattle.volume_space.proofs.SpreadStands.{goes_on_stored, stored_is}

module _ (id : ℕ) (fork : ForkRecord) (list : List Extent) (old : List Pair) (lists : VolumeState) (other : id ≢ extents_id) (gets : fork.extents ≡ eight_at list 0) (used : AreUsed list) (stores : StoresFork id data_kind list old lists.overflow_pairs)
    (ends : (e : Extent) → Contains list e → e.start + e.count ≤ lists.head.total_blocks) (blocks : length (blocks_of list) ≡ fork.total_blocks) (bytes : fork.logical_size ≡ fork.total_blocks * lists.head.block_size)
  where
    lies_inside : LieInside lists.head.total_blocks fork.extents.extents
    lies_inside = subst (λ e. LieInside lists.head.total_blocks e.extents) (sym gets)
        (subst (λ (l : List Extent). All (λ (e : Extent). e.start + e.count ≤ lists.head.total_blocks) l) (sym (eight_used list 0 used))
        (all_of (λ (e : Extent). e.start + e.count ≤ lists.head.total_blocks) (take 8 list) (λ e has. ends e (subst (λ (l : List Extent). Contains l e) (take-append-drop 8 list) (Contains-append_left (take 8 list) (drop 8 list) e has)))))

    pub is_stored : IsStored id data_kind fork lists
    is_stored = (
      record {
        inside = lies_inside;
        blocks = ap (λ (l : List Extent). length (blocks_of l)) (stored_is id fork list old lists.overflow_pairs other gets used stores) ∙ blocks;
        bytes = omega (arith, bytes);
      },
      goes_on_stored id fork list old lists.overflow_pairs other gets used stores,
    )
