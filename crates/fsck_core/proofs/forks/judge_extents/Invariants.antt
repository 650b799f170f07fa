use Rattle.std.proofs.Common.{take}
use Rattle.std.specs.List.{flat_map}
use Rattle.fsck_core.specs.Judged.{Judged}
use Rattle.fsck_core.specs.Owners.{extent_want}
use Rattle.fsck_core.proofs.forks.judge_extents.Given as goal

abbrev pub invariant-loop-extent : goal.invariant-loop-extent
invariant-loop-extent l = record {
  judged : Judged 16 (flat_map (extent_want l.id l.total) (take l.extent-index l.extents)) l.fn.out l.out l.met;
}
