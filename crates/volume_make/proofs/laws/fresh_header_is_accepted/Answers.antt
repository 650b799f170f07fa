use Rattle.volume_make.proofs.Accepting.{header_accepted}
use Rattle.volume_make.proofs.Fields.{header_back}
use Rattle.volume_make.proofs.laws.fresh_header_is_accepted.Goals as goal

pub returns-clause-accepted : goal.returns-clause-accepted
returns-clause-accepted c = header_accepted

pub returns-clause-read_back : goal.returns-clause-read_back
returns-clause-read_back c = header_back
