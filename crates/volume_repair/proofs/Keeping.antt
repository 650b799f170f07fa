-- What a repair keeps: the trees but for counted words, and the bytes of every other fork.
use Rattle.std.proofs.Common.{◌≡◌, ◌≢◌, ◌*◌, ℕ, List, [], length, get_or, inl, inr, refl, sym, ◌∙◌, ap, subst}
use Rattle.std.specs.Prelude.{Contains}
use Rattle.std.proofs.lemmas.List.{get_or-map, get_or_default}
use Rattle.jnl_format.specs.Recovery.{Content, sector, header_of_volume}
use Rattle.fork_map.specs.Blocks.{blocks_of, sectors_of}
use Rattle.volume_header.specs.declared.header.VolumeHeader.{VolumeHeader}
use Rattle.hfs_volume.specs.Forks.{Owned, per_block_of, extents_of, allocation_id, catalog_id}
use Rattle.hfs_volume.specs.Content.{VolumeState, volume_of, records_of, overflow_in_volume, fork_bytes, block_bytes}
use Rattle.hfs_volume.specs.Entries.{AreSpelled}
use Rattle.hfs_volume.specs.Blocks.{forks_of}
use Rattle.hfs_volume.specs.Sound.{IsSound}
use Rattle.volume_repair.specs.Recount.{recounted, pair_recounted}
use Rattle.volume_repair.specs.Repair.{IsMendable, IsRepair, mended}
use Rattle.volume_repair.specs.Whole.{IsSameButCount, KeepsTrees, RepairKeepsForks, RepairKeepsTrees}
use Rattle.volume_repair.proofs.Counting.{keys_law, values_law}
use Rattle.volume_repair.proofs.Mending.{fork_stays, head_mended}
use Rattle.volume_repair.proofs.Recounting.{counts_law}
use Rattle.volume_repair.proofs.Repairing.{mendable}
use Rattle.volume_repair.proofs.Rereads.{same_bytes}

-- ---- the trees

recounted_keeps : (volume : VolumeState) → AreSpelled volume.catalog_pairs → KeepsTrees volume (recounted volume)
unfolding recounted
recounted_keeps volume spelled = record {
  overflow = refl;
  attributes = refl;
  keys = keys_law volume;
  values = λ k low.
      let pair = get_or volume.catalog_pairs k ([], []) in
      let stands : Contains volume.catalog_pairs pair = (k, low, get_or_default volume.catalog_pairs k pair ([], []) low) in
      subst (IsSameButCount pair) (sym (get_or-map (pair_recounted (records_of volume)) volume.catalog_pairs k ([], []) ([], []) low)) (values_law volume spelled pair stands);
}

pub trees_law : RepairKeepsTrees
trees_law content other bytes whole repair sound = subst (KeepsTrees (volume_of content)) (sym (counts_law content other bytes whole repair sound)) (recounted_keeps (volume_of content) (spelled repair))
  where
    spelled : IsRepair content other → AreSpelled (volume_of content).catalog_pairs
    spelled (inl (may, is)) = may.spelled
    spelled (inr (cannot, is)) = absurd (cannot (mendable content (subst IsSound is sound)))

-- ---- the forks

forks_stay : (content : Content) → IsMendable content → length (sector content 2) ≡ 512 → (owned : Owned) → Contains (forks_of (volume_of content)) owned → owned.id ≢ allocation_id → owned.id ≢ catalog_id
    → let extents = extents_of (overflow_in_volume (volume_of content)) owned.id owned.kind owned.fork in fork_bytes (mended content) extents ≡ fork_bytes content extents
forks_stay content may long owned stands no_map no_catalog =
    (λ i. let h = head_mended content may long i in block_bytes (mended content) (h.total_blocks * per_block_of h) (sectors_of (per_block_of h) blocks))
    ∙ same_bytes content (mended content) (head.total_blocks * per_block_of head) (sectors_of (per_block_of head) blocks) (λ at has below. fork_stays content may owned stands no_map no_catalog at has below)
  where
    head : VolumeHeader
    head = header_of_volume content

    blocks : List ℕ
    blocks = blocks_of (extents_of (overflow_in_volume (volume_of content)) owned.id owned.kind owned.fork)

pub forks_law : RepairKeepsForks
forks_law content other long (inl (may, is)) owned stands no_map no_catalog =
    ap (λ c. fork_bytes c (extents_of (overflow_in_volume (volume_of content)) owned.id owned.kind owned.fork)) is ∙ forks_stay content may long owned stands no_map no_catalog
forks_law content other long (inr (cannot, is)) owned stands no_map no_catalog =
    ap (λ c. fork_bytes c (extents_of (overflow_in_volume (volume_of content)) owned.id owned.kind owned.fork)) is
