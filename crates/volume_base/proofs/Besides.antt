-- The blocks in use, the file shrunk last and the capacity are as they were behind reads, and behind changes of the catalog and of the header's numbers.
use Rattle.std.proofs.Common.{◌≡◌, refl, ◌∙◌, ap}
use Rattle.sector_disk.specs.Space.{Space}
use Rattle.hfs_volume.specs.Changes.{with_numbers}
use Rattle.volume_base.specs.Changing.{KeepsBlocks}
use Rattle.volume_base.specs.Looking.{ReadsVolume}
use Rattle.volume_base.specs.declared.volume.Volume.{Volume}

pub blocks_none : (v : Volume) → KeepsBlocks v v
blocks_none v = record { map = refl; shrunk = refl; capacity = refl }

pub blocks_both : (u v w : Volume) → KeepsBlocks u v → KeepsBlocks v w → KeepsBlocks u w
blocks_both u v w first second = record { map = second.map ∙ first.map; shrunk = second.shrunk ∙ first.shrunk; capacity = second.capacity ∙ first.capacity }

pub blocks_edit : (v w : Volume) → w ≡ record v { catalog = w.catalog } → KeepsBlocks v w
blocks_edit v w rest = record { map = ap (λ (x : Volume). x.map) rest; shrunk = ap (λ (x : Volume). x.shrunk) rest; capacity = ap (λ (x : Volume). x.capacity) rest }

pub blocks_owned : (v w : Volume) → w ≡ record v { attributes = w.attributes } → KeepsBlocks v w
blocks_owned v w rest = record { map = ap (λ (x : Volume). x.map) rest; shrunk = ap (λ (x : Volume). x.shrunk) rest; capacity = ap (λ (x : Volume). x.capacity) rest }

pub blocks_header : (v w : Volume) → w ≡ record v { header = with_numbers v.header w.header } → KeepsBlocks v w
blocks_header v w rest = record { map = ap (λ (x : Volume). x.map) rest; shrunk = ap (λ (x : Volume). x.shrunk) rest; capacity = ap (λ (x : Volume). x.capacity) rest }

pub blocks_read : (v w : Volume) (a b : Space) → ReadsVolume v w a b → KeepsBlocks v w
blocks_read v w a b reads = record { map = reads.keeps.map; shrunk = reads.keeps.shrunk; capacity = reads.keeps.capacity }
