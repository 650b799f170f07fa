use Rattle.std.proofs.Common.{◌≡◌, ◌++◌, flat_map, drop}
use Rattle.name_text.specs.Reading.{piece_units}
use Rattle.name_text.proofs.units.each_unit.Given as goal

abbrev pub invariant-loop-piece : goal.invariant-loop-piece
invariant-loop-piece l = l.units.items ++ flat_map piece_units (drop l.piece-index l.pieces) ≡ flat_map piece_units l.pieces
