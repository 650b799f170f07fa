use Rattle.jnl_format.proofs.HeaderBack.{header_same, header_whole}
use Rattle.jnl_format.proofs.laws.header_written_back.Goals as goal

pub returns : goal.returns
returns c = record {
  same = λ size sector head long are read start end. header_same size sector head long are read start end;
  all = λ size sector head long are read. header_whole size sector head long are read;
}
