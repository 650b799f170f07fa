use Rattle.hx_bytes.proofs.Laws.{number_at-put_at}
use Rattle.hx_bytes.proofs.field_laws.numbers_are_read_back.Goals as goal

pub returns : goal.returns
returns c = number_at-put_at
