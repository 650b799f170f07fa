use Rattle.std.proofs.Common.{arith, ap, subst}
use Rattle.cat_records.specs.Fits.{FitsRecord}
use Rattle.hfs_volume.specs.Records.{is_thread}
use Rattle.volume_base.proofs.Freed.{frees_wanting}
use Rattle.volume_space.proofs.trimming.tidy_cut.Goals as goal

pub tidy_fork-requires-clause-fits : goal.tidy_fork-requires-clause-fits
tidy_fork-requires-clause-fits g c = subst FitsRecord c.in-File.is (c.requires.fits (ap is_thread c.in-File.is))

-- ---- what it puts

pub returns-in-Folder-clause-spent : goal.returns-in-Folder-clause-spent
returns-in-Folder-clause-spent g c tells = omega arith

pub returns-in-Thread-clause-spent : goal.returns-in-Thread-clause-spent
returns-in-Thread-clause-spent g c tells = omega arith

pub returns-in-Folder-clause-frees : goal.returns-in-Folder-clause-frees
returns-in-Folder-clause-frees g c = frees_wanting g.met.P.SectorView.follows_refl c.requires.serves.stands

pub returns-in-Thread-clause-frees : goal.returns-in-Thread-clause-frees
returns-in-Thread-clause-frees g c = frees_wanting g.met.P.SectorView.follows_refl c.requires.serves.stands
