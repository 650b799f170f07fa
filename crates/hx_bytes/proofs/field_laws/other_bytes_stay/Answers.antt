use Rattle.hx_bytes.proofs.Laws.{get_or-put_at}
use Rattle.hx_bytes.proofs.field_laws.other_bytes_stay.Goals as goal

pub returns : goal.returns
returns c = get_or-put_at
