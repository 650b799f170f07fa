use Rattle.jnl_format.specs.declared.dialect.Dialect.TheVariants.{Plain}
use Rattle.jnl_replay.proofs.Fits.{fits_any}
use Rattle.jnl_replay.proofs.replaying.replay.Goals as goal

pub replay_as-requires : goal.replay_as-requires
replay_as-requires g c = record { fits = fits_any (g.D.SectorDisk.state c.args.disk.now).sectors c.args.plan.now c.requires.fits }

pub returns-clause-replayed : goal.returns-clause-replayed
returns-clause-replayed g c tells = c.replay_as.ensures.replayed tells Plain (c.requires.plan tells)

pub returns-clause-crash : goal.returns-clause-crash
returns-clause-crash g c tells settled = c.replay_as.ensures.crash tells settled Plain (c.requires.plan tells)
