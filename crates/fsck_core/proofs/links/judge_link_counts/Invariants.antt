use Rattle.std.proofs.Common.{take}
use Rattle.std.specs.List.{flat_map}
use Rattle.std.specs.List.Sorted.{IsNonDecreasing}
use Rattle.fsck_core.specs.Judged.{Judged}
use Rattle.fsck_core.specs.Links.{link_want}
use Rattle.fsck_core.proofs.links.judge_link_counts.Given as goal

abbrev pub invariant-loop-file : goal.invariant-loop-file
invariant-loop-file l = record {
  judged : IsNonDecreasing l.links → Judged 19 (flat_map (link_want l.links) (take l.file-index l.files)) l.fn.out l.out l.met;
}
