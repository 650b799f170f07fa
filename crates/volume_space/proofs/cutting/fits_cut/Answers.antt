use Rattle.std.proofs.Common.{◌/◌, ap, arith}
use Rattle.btree_node.specs.declared.store.TreeShape.{TreeShape}
use Rattle.volume_space.proofs.cutting.fits_cut.Goals as goal

pub returns-clause-fits : goal.returns-clause-fits
returns-clause-fits g c is = omega (arith, c.fit_load.ensures.fits is, c.count_given_sectors.ensures, c.count_spread_sectors.ensures.same, ap (λ (s : TreeShape). s.node_size / 512) c.shape.ensures, c.spare.ensures)

pub returns-clause-short : goal.returns-clause-short
returns-clause-short g c is = omega (arith, c.fit_load.ensures.short is, c.count_given_sectors.ensures, c.count_spread_sectors.ensures.same, ap (λ (s : TreeShape). s.node_size / 512) c.shape.ensures, c.spare.ensures)
