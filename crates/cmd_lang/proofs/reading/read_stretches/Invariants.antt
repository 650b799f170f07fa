use Rattle.std.proofs.Common.{◌≡◌, ◌++◌, true, take}
use Rattle.std.specs.List.{flat_map}
use Rattle.hfs_language.specs.Text as spec
use Rattle.cmd_lang.proofs.reading.read_stretches.Given as goal

abbrev pub invariant-loop-turn : goal.invariant-loop-turn
invariant-loop-turn l = record {
  counted : l.count ≡ l.turn;
  first : l.right ≡ true → take l.one l.text ≡ take l.first l.text ++ flat_map spec.byte_text (take l.count l.rooms.first);
  second : l.right ≡ true → take l.two l.text ≡ take l.second l.text ++ flat_map spec.byte_text (take l.count l.rooms.second);
  third : l.right ≡ true → take l.three l.text ≡ take l.third l.text ++ flat_map spec.byte_text (take l.count l.rooms.third);
  fourth : l.right ≡ true → take l.four l.text ≡ take l.fourth l.text ++ flat_map spec.byte_text (take l.count l.rooms.fourth);
}
