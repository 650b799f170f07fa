use Rattle.std.proofs.Common.{◌≡◌, ◌++◌, drop, string_bytes, encode_utf8_all}
use Rattle.name_text.specs.Spelling.{text_of}
use Rattle.name_text.proofs.print.print_pieces.Given as goal

abbrev pub invariant-loop-piece : goal.invariant-loop-piece
invariant-loop-piece l = string_bytes l.text ++ encode_utf8_all (text_of (drop l.piece-index l.pieces)) ≡ encode_utf8_all (text_of l.pieces)
