use Rattle.std.proofs.Common.{◌<◌, ◌≤◌, ◌-◌, ◌↔◌, length, IsTrue}
use Rattle.hfs_volume.specs.Content.{VolumeState}
use Rattle.fsck_core.specs.Attributes.{AreKeyed, AreAttributesOf, AreGood, AreOwnersOf, HasFirstFork, Judges, AreNamed, IsToldOr, attribute_at}
use Rattle.fsck_core.proofs.attributes.judge_records.Given as goal

abbrev pub invariant-loop-at : goal.invariant-loop-at
invariant-loop-at l = record {
  most : l.at ≤ length l.attributes;
  forked : AreKeyed l.attributes → 0 < l.at → IsTrue l.forked ↔ HasFirstFork l.attributes (attribute_at l.attributes (l.at - 1));
  judged : (volume : VolumeState) → AreAttributesOf volume l.head l.attributes → AreOwnersOf volume l.owners → Judges volume (AreGood volume l.at) l.fn.out l.out l.met;
  named : (volume : VolumeState) → AreAttributesOf volume l.head l.attributes → AreOwnersOf volume l.owners → IsToldOr volume (AreNamed volume l.at) l.out;
}
