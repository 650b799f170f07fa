use Rattle.volume_space.proofs.GrownCan.{blocks_inside}
use Rattle.volume_space.proofs.growable.can_grow_attributes.Goals as goal

pub returns-clause-fits : goal.returns-clause-fits
returns-clause-fits g c tells fits =
    let was = c.requires.stands.stands tells in
    c.can_grow.ensures.fits fits.1 (blocks_inside c.args.volume.now (g.P.SectorView.space c.args.space.now) c.args.volume.now.attributes.file.per_block was (g.met.P.SectorView.well_formed c.args.space.now tells) (was.forks.attributes_per fits.0))
