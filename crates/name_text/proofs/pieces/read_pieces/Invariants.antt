use Rattle.std.proofs.Common.{◌≡◌, ◌++◌, drop}
use Rattle.std.specs.Option.{option_map}
use Rattle.name_text.specs.Reading as spec
use Rattle.name_text.proofs.pieces.read_pieces.Given as goal

abbrev pub invariant-loop-c : goal.invariant-loop-c
invariant-loop-c l =
    option_map (λ rest. l.pieces.items ++ rest) (spec.pieces_from l.place (drop l.c-index l.chars)) ≡ spec.pieces l.chars
