use Rattle.jnl_format.specs.declared.dialect.Dialect.TheVariants.{Plain}
use Rattle.jnl_replay.proofs.Fits.{fits_any}
use Rattle.jnl_replay.proofs.index.Peek.new.Goals as goal

pub new_as-requires : goal.new_as-requires
new_as-requires g c = record { fits = fits_any (g.D.SectorDisk.state c.args.disk.now).sectors c.args.plan.now c.requires.fits }

pub returns-clause-shows : goal.returns-clause-shows
returns-clause-shows g c tells = c.new_as.ensures.shows tells Plain (c.requires.plan tells)
