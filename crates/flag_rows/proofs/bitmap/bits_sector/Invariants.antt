use Rattle.std.proofs.Common.{◌≡◌, length, take}
use Rattle.flag_rows.specs.Bitmap.{is_marked, bits_bytes}
use Rattle.flag_rows.proofs.bitmap.bits_sector.Given as goal

abbrev pub invariant-loop-at : goal.invariant-loop-at
invariant-loop-at l = record {
  size : length l.sector ≡ 512;
  bits : take l.at l.sector ≡ bits_bytes (is_marked l.marks.below l.marks.also) l.first l.at;
}
