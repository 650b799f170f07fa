-- What a growth leaves of a volume's own sectors and of its free blocks.
use Rattle.std.proofs.Common.{◌≡◌, ◌⊎◌, inl, inr, ℕ, ◌/◌, false, true, sym, ◌∙◌, ap, subst, ⊎_elim}
use Rattle.std.specs.Prelude.{Contains, slice_index_or}
use Rattle.hx_bytes.specs.declared.extents.Extent.{Extent}
use Rattle.alloc_bitmap.specs.Map.{free_of}
use Rattle.hfs_volume.specs.Forks.{per_block_of}
use Rattle.volume_space.specs.Growing.{IsFreeAt, IsOwnOrFree, TakesRun}
use Rattle.volume_base.specs.Standing.{own_sectors}
use Rattle.volume_base.specs.declared.volume.Volume.{Volume}
use Rattle.volume_space.proofs.GrownRun.{free_before}

module _ (count : ℕ) (run : Extent) (v w : Volume) (takes : TakesRun count run v.map w.map) (per_same : per_block_of w.header ≡ per_block_of v.header) where
  free_at_before : (s : ℕ) → IsFreeAt w s → IsFreeAt v s
  free_at_before s is = free_before count run v.map w.map takes (s / per_block_of v.header) (subst (λ n. slice_index_or (free_of w.map) (s / n) false ≡ true) per_same is)

  pub gained_before : ((s : ℕ) → Contains (own_sectors w) s → IsOwnOrFree v s) → (s : ℕ) → IsOwnOrFree w s → IsOwnOrFree v s
  gained_before gained s is = ⊎_elim (λ own. gained s own) (λ free. inr (free_at_before s free)) is
