use Rattle.flag_rows.proofs.Bitmaps.{bit_of-bits_bytes, bit_of-bits_bytes_behind}
use Rattle.flag_rows.proofs.bitmap.bits_are_read_back.Goals as goal

pub returns-clause-within : goal.returns-clause-within
returns-clause-within c is_set first count k within = bit_of-bits_bytes is_set first count k within

pub returns-clause-behind : goal.returns-clause-behind
returns-clause-behind c is_set first count k behind = bit_of-bits_bytes_behind is_set first count k behind
