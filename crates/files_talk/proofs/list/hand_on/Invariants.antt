use Rattle.std.proofs.Common.{◌≡◌, ◌+◌, length}
use Rattle.files_talk.specs.Handing.{HandsOn}
use Rattle.files_talk.proofs.list.hand_on.Given as goal

abbrev pub invariant-loop-at : goal.invariant-loop-at
invariant-loop-at l = record {
  hands : HandsOn 4194304 l.initial.lines.items l.given.items l.room l.lines.items;
  left : l.at + length l.lines.items ≡ length l.initial.lines.items;
}
