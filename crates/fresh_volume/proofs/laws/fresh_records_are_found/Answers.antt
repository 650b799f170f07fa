use Rattle.fresh_volume.proofs.SixRecords.{has_fresh_records}
use Rattle.fresh_volume.proofs.laws.fresh_records_are_found.Goals as goal

pub returns : goal.returns
returns c sectors block journal name old new can named units made = has_fresh_records sectors block journal name old new can named units made
