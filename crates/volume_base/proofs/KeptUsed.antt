-- No block that a content has in use is lost, behind reads, behind calls that leave the bitmap, and one after another.
use Rattle.std.proofs.Common.{◌≡◌, ◌⊎◌, ℕ, false, true, length, refl, sym, ◌∙◌, subst}
use Rattle.std.specs.Prelude.{slice_index_or}
use Rattle.alloc_bitmap.specs.Map.{BlockMap}
use Rattle.sector_disk.specs.Lists.{Content}
use Rattle.sector_disk.specs.Space.{Space}
use Rattle.hfs_volume.specs.Content.{is_set, volume_of}
use Rattle.volume_base.specs.Changing.{KeepsBlocks}
use Rattle.volume_base.specs.Holding.{KeepsUsed, HoldsOn}
use Rattle.volume_base.specs.Looking.{ReadsVolume}
use Rattle.volume_base.specs.declared.volume.Volume.{Volume}

pub used_none : (v : Volume) → KeepsUsed v v
used_none v = record { holds = λ committed was. was; shrunk = refl; capacity = refl }

pub used_both : (u v w : Volume) → KeepsUsed u v → KeepsUsed v w → KeepsUsed u w
used_both u v w one two = record { holds = λ committed was. two.holds committed (one.holds committed was); shrunk = two.shrunk ∙ one.shrunk; capacity = two.capacity ∙ one.capacity }

abbrev HoldsIn : Content → BlockMap → Type 0
HoldsIn committed m = (length m.held ≡ length m.used) × ((block : ℕ) → is_set (volume_of committed) block ≡ true → (slice_index_or m.used block false ≡ true) ⊎ (slice_index_or m.held block false ≡ true))

holds_same : (committed : Content) (v w : Volume) → w.map ≡ v.map → HoldsOn committed v → HoldsOn committed w
holds_same committed v w same was = subst (λ (m : BlockMap). HoldsIn committed m) (sym same) was

pub used_blocks : (v w : Volume) → KeepsBlocks v w → KeepsUsed v w
used_blocks v w keeps = record { holds = λ committed was. holds_same committed v w keeps.map was; shrunk = keeps.shrunk; capacity = keeps.capacity }

pub used_read : (v w : Volume) (a b : Space) → ReadsVolume v w a b → KeepsUsed v w
used_read v w a b reads = record { holds = λ committed was. holds_same committed v w reads.keeps.map was; shrunk = reads.keeps.shrunk; capacity = reads.keeps.capacity }
