use Rattle.jnl_format.proofs.HeaderBack.{info_again}
use Rattle.jnl_format.proofs.laws.info_written_back.Goals as goal

pub returns : goal.returns
returns c = info_again
