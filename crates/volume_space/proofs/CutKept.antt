-- A keep ahead of a cut: the volume has the lists, the sectors of its own, the blocks and the loads that it had.
use Rattle.volume_base.proofs.KeptMarks.{holds_kept}
use Rattle.std.proofs.Common.{◌≡◌, ◌+◌, ◌<◌, ◌^◌, Bool, List, [], ◌∷◌, ◌++◌, refl, sym, ◌∙◌, subst}
use Rattle.std.specs.Prelude.{true, IsTrue, if◌then◌else◌}
use Rattle.alloc_bitmap.specs.Map.{Have}
use Rattle.btree_file.specs.State.{sectors_of_tree}
use Rattle.fork_map.specs.Blocks.{fork_sectors}
use Rattle.hx_bytes.specs.declared.extents.Extent.{Extent}
use Rattle.hfs_volume.specs.Content.{has_attributes}
use Rattle.volume_header.specs.declared.header.VolumeHeader.{VolumeHeader}
use Rattle.volume_space.specs.Cutting.{MayGive, trim_load}
use Rattle.volume_base.specs.Holding.{KeepsUsed}
use Rattle.volume_base.specs.Keeping.{Keeps}
use Rattle.volume_base.specs.Standing.{own_sectors}
use Rattle.volume_base.specs.declared.volume.Volume.{Volume}

module _ (v w : Volume) (keeps : Keeps v w) where
  pub may_kept : (run : Extent) → MayGive run v → MayGive run w
  may_kept run may = record {
    used = subst (λ (l : List Bool). Have l run true) (sym keeps.same.used) may.used;
    counted = subst (λ (h : VolumeHeader). h.free_blocks + run.count < 2 ^ 32) (sym keeps.same.header) may.counted;
    most = may.most;
  }

  pub load_kept : trim_load w ≡ trim_load v
  load_kept = λ i. trim_load (record v { map = record v.map { used = keeps.same.used i }; extents = keeps.same.extents i; catalog = keeps.same.catalog i })

  pub used_kept : KeepsUsed v w
  used_kept = record { holds = λ committed was. holds_kept v w keeps committed was; shrunk = keeps.same.shrunk; capacity = keeps.same.capacity }
