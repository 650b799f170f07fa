use Rattle.std.proofs.Common.{refl, arith}
use Rattle.volume_base.proofs.HeaderFits.{zeros_are}
use Rattle.volume_names.proofs.new_entries.new_fields.Goals as goal

pub returns-clause-fits : goal.returns-clause-fits
returns-clause-fits c = record {
  flags = c.ranges.flags.fits;
  count = omega arith;
  id = c.ranges.id.fits;
  created = c.ranges.moment.fits;
  changed = c.ranges.moment.fits;
  attribute = c.ranges.moment.fits;
  accessed = c.ranges.moment.fits;
  backup = omega arith;
  owner = omega arith;
  group = omega arith;
  admin_flags = omega arith;
  owner_flags = omega arith;
  mode = c.ranges.mode.fits;
  special = omega arith;
  finder_length = refl;
  finder = zeros_are 32;
  encoding = omega arith;
  rest = omega arith;
}
