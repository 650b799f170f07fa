-- A plan fits a disk as the wide dialect has it, in whichever it was read.
use Rattle.std.proofs.Common.{ℕ}
use Rattle.jnl_format.specs.declared.dialect.Dialect.{Dialect}
use Rattle.jnl_format.proofs.Widening.{head_wide}
use Rattle.jnl_replay.specs.Plan.{FitsPlanAs, FitsAny}
use Rattle.jnl_replay.specs.declared.plan.Plan.{Plan}

pub fits_any : {dialect : Dialect} (total : ℕ) (plan : Plan) → FitsPlanAs dialect total plan → FitsAny total plan
fits_any {dialect = dialect} total plan f = record {
  sectors = f.sectors;
  info_sector = f.info_sector;
  offset = f.offset;
  whole = f.whole;
  least = f.least;
  inside = f.inside;
  start_low = f.start_low;
  start_high = f.start_high;
  end_low = f.end_low;
  end_high = f.end_high;
  blhdr = f.blhdr;
  header = head_wide dialect plan.info.size plan.header f.header;
}
