use Rattle.std.proofs.Common.{◌≡◌, ◌++◌}
use Rattle.flag_rows.specs.Bitmap.{is_marked, bits_bytes}
use Rattle.flag_rows.proofs.bitmap.put_bits.Given as goal

abbrev pub invariant-loop-at : goal.invariant-loop-at
invariant-loop-at l = l.out.items ≡ l.fn.out.items ++ bits_bytes (is_marked l.marks.below l.marks.also) l.first l.at
