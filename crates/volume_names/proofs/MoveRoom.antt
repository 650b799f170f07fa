-- Reads leave what a move puts at most.
use Rattle.std.proofs.Common.{◌≡◌, ℕ, ◌+◌, ◌*◌, ◌/◌, ap}
use Rattle.std.specs.Prelude.{IsTrue}
use Rattle.sector_disk.specs.Space.{Space}
use Rattle.hfs_volume.specs.Content.{TreeFacts, VolumeState}
use Rattle.hfs_volume.specs.Weight.{cost_of_tree}
use Rattle.hfs_volume.specs.Cost.{catalog_key, tree_load}
use Rattle.volume_base.specs.Lists.{facts_on}
use Rattle.volume_base.specs.Looking.{ReadsVolume}
use Rattle.volume_base.specs.Moving.{move_load}
use Rattle.volume_base.specs.declared.volume.Volume.{Volume}
use Rattle.volume_base.proofs.Still.{lists_still}

module _ (v w : Volume) (a b : Space) (reads : ReadsVolume v w a b) where
  facts_read : IsTrue a.tells → facts_on w.catalog.file ≡ facts_on v.catalog.file
  facts_read tells = ap (λ (l : VolumeState). l.catalog_tree) (lists_still v w a b reads tells)

  pub move_load_still : IsTrue a.tells → move_load w ≡ move_load v
  move_load_still tells = ap (λ (f : TreeFacts). tree_load catalog_key (cost_of_tree f 0) 3 0 + f.shape.node_size / 512 + 2 * (f.shape.node_size / 512)) (facts_read tells)
