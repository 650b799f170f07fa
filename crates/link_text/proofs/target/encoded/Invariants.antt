use Rattle.std.proofs.Common.{◌≡◌, ◌++◌, flat_map, drop}
use Rattle.std.specs.Char.Escape.{encode_utf16}
use Rattle.link_text.proofs.target.encoded.Given as goal

abbrev pub invariant-loop-c : goal.invariant-loop-c
invariant-loop-c l = l.units.items ++ flat_map encode_utf16 (drop l.c-index l.text) ≡ flat_map encode_utf16 l.text
