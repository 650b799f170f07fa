use Rattle.std.proofs.Common.{◌≡◌, ◌++◌, ℕ, List, true, take}
use Rattle.std.specs.List.{flat_map}
use Rattle.hfs_language.specs.Text as spec
use Rattle.cmd_lang.proofs.reading.finish.Given as goal

abbrev pub invariant-loop-turn : goal.invariant-loop-turn
invariant-loop-turn l = record {
  counted : l.all ≡ l.turn;
  read : l.right ≡ true → (front : List ℕ) → take l.at l.text ≡ front ++ flat_map spec.byte_text (take l.count l.fn.room) → take l.place l.text ≡ front ++ flat_map spec.byte_text (take l.all l.room);
}
