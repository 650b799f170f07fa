use Rattle.jnl_format.proofs.ListBack.{list_back, first_back, list_same, list_whole}
use Rattle.jnl_format.proofs.laws.list_round_trip.Goals as goal

pub returns : goal.returns
returns c = record {
  read_back = λ order blhdr head first h f. list_back order blhdr head first h f;
  first_back = λ order blhdr head first f. first_back order blhdr head first f;
  same = λ order blhdr bytes head long are read most pad. list_same order blhdr bytes head long are read most pad;
  all = λ order blhdr bytes head long are read. list_whole order blhdr bytes head long are read;
}
