use Rattle.jnl_format.proofs.ListBack.{entry_back, entry_again}
use Rattle.jnl_format.proofs.laws.entry_round_trip.Goals as goal

pub returns : goal.returns
returns c = record {
  read_back = λ order entry f. entry_back order entry f;
  written_back = λ order bytes long are. entry_again order bytes long are;
}
