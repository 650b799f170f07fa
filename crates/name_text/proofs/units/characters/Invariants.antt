use Rattle.std.proofs.Common.{◌≡◌, ◌++◌, map, drop, false}
use Rattle.std.specs.List.{list_any}
use Rattle.name_text.specs.Reading.{is_escaped, code}
use Rattle.name_text.proofs.units.characters.Given as goal

abbrev pub invariant-loop-piece : goal.invariant-loop-piece
invariant-loop-piece l = record {
  read : l.text.items ++ map code (drop l.piece-index l.pieces) ≡ map code l.pieces;
  plain : list_any is_escaped (drop l.piece-index l.pieces) ≡ false;
}
