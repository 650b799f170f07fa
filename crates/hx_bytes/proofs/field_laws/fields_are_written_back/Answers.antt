use Rattle.hx_bytes.proofs.Laws.{number_bytes-number_at_2, number_bytes-number_at_4, number_bytes-number_at_8}
use Rattle.hx_bytes.proofs.field_laws.fields_are_written_back.Goals as goal

pub returns : goal.returns
returns c = record {
  two = λ order at bytes fits are. number_bytes-number_at_2 order bytes at fits are;
  four = λ order at bytes fits are. number_bytes-number_at_4 order bytes at fits are;
  eight = λ order at bytes fits are. number_bytes-number_at_8 order bytes at fits are;
}
