use Rattle.btree_node.specs.Keys.{IsCatalogKey}
use Rattle.hfs_volume.proofs.Ascending.{tree_sorted}
use Rattle.catalog.proofs.laws.trees_are_sorted.Goals as goal

pub returns : goal.returns
returns c = λ store tree. tree_sorted IsCatalogKey store tree
