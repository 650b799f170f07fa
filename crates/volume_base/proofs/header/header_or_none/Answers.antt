use Rattle.std.proofs.Common.{sym, subst}
use Rattle.volume_header.specs.Header.{FitsHeader}
use Rattle.volume_base.proofs.HeaderFits.{header_fits}
use Rattle.volume_base.proofs.header.header_or_none.Goals as goal

pub returns-in-Ok-clause-fits : goal.returns-in-Ok-clause-fits
returns-in-Ok-clause-fits c = subst FitsHeader (sym c.in-Ok.ensures.read.0) (header_fits c.args.sector.now c.fits-sector c.told-sector)
