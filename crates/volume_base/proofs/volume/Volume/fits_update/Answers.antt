use Rattle.std.proofs.Common.{◌≤◌, ◌/◌, ℕ, sym, subst}
use Rattle.btree_node.specs.declared.store.TreeShape.{TreeShape}
use Rattle.volume_base.proofs.volume.Volume.fits_update.Goals as goal

pub returns-clause-room : goal.returns-clause-room
returns-clause-room g c fits = record {
  told = λ tells. subst (λ (k : TreeShape × ℕ). k.0.node_size / 512 ≤ k.1) {x = (c.shape.result, c.spare.result)} {y = (c.args.self.now.catalog.file.shape, (g.P.SectorView.space c.args.space.now).spare)} (λ i. (c.shape.ensures i, c.spare.ensures i)) (c.node_fits.ensures.fits fits);
}

pub returns-clause-met : goal.returns-clause-met
returns-clause-met g c met = c.node_fits.ensures.sure (subst (λ (k : TreeShape × ℕ). k.0.node_size / 512 ≤ k.1) {x = (c.args.self.now.catalog.file.shape, (g.P.SectorView.space c.args.space.now).spare)} {y = (c.shape.result, c.spare.result)} (λ i. (sym c.shape.ensures i, sym c.spare.ensures i)) met)
