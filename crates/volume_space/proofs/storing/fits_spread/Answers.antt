use Rattle.std.proofs.Common.{◌≡◌, ◌≤◌, ℕ, ◌*◌, ◌/◌, min, subst}
use Rattle.btree_node.specs.declared.store.TreeShape.{TreeShape}
use Rattle.btree_edit.specs.Editing.{edit_writes}
use Rattle.volume_space.proofs.SpreadFile.{room_by_nodes}
use Rattle.volume_space.proofs.storing.fits_spread.Goals as goal

pub returns : goal.returns
returns g c is names = room_by_nodes (edit_writes c.args.volume.now.extents.file.shape.depth) c.args.volume.now.extents.file (g.P.SectorView.space c.args.space.now) names
    (subst (λ (k : TreeShape × ℕ). min (edit_writes k.0.depth) k.0.total ≤ k.1 / (k.0.node_size / 512)) {x = (c.shape-shape.result, c.spare.result)} {y = (c.args.volume.now.extents.file.shape, (g.P.SectorView.space c.args.space.now).spare)} (λ i. (c.shape-shape.ensures i, c.spare.ensures i))
    (subst (λ (k : ℕ × ℕ). k.0 ≤ c.spare.result / k.1) {x = (c.count_nodes.result, c.from.result)} {y = (min (edit_writes c.shape-shape.result.depth) c.shape-shape.result.total, c.shape-shape.result.node_size / 512)} (λ i. (c.count_nodes.ensures i, c.from.ensures i)) (c.fit_nodes.ensures is)))
