-- A volume in service over another space with as many sectors.
use Rattle.std.proofs.Common.{◌≡◌, ◌<◌, ℕ, length, sym, subst}
use Rattle.std.specs.Prelude.{All, slice_index}
use Rattle.fork_map.specs.Blocks.{fork_sectors}
use Rattle.sector_disk.specs.Space.{Space}
use Rattle.volume_base.specs.Service.{IsInService, IsTreeInService}
use Rattle.volume_base.specs.declared.volume.Tree.{Tree}
use Rattle.volume_base.specs.declared.volume.Volume.{Volume}

tree_on : (tree : Tree) (a b : Space) → b.sectors ≡ a.sectors → IsTreeInService tree a → IsTreeInService tree b
tree_on tree a b same was = record {
  desk = was.desk;
  inside = subst (λ n. (k : ℕ) → k < length (fork_sectors tree.file.fork tree.file.per_block) → slice_index (fork_sectors tree.file.fork tree.file.per_block) k < n) (sym same) was.inside;
}

pub service_on : (v : Volume) (a b : Space) → b.sectors ≡ a.sectors → IsInService v a → IsInService v b
service_on v a b same was = record {
  extents = tree_on v.extents a b same was.extents;
  catalog = tree_on v.catalog a b same was.catalog;
  attributes = tree_on v.attributes a b same was.attributes;
  fits = was.fits;
  least = was.least;
  most = was.most;
  map_inside = subst (λ n. All (λ at. at < n) (fork_sectors v.map.fork v.map.per_block)) (sym same) was.map_inside;
  map_long = was.map_long;
  marks = was.marks;
}
