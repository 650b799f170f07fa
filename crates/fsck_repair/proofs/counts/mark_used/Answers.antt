use Rattle.std.proofs.Common.{List, ap, ◌∙◌}
use Rattle.std.specs.Prelude.{Result, Ok, Err, IfOk, OnOk}
use Rattle.hx_bytes.specs.declared.extents.Extent.{Extent}
use Rattle.fork_map.specs.Blocks.{blocks_of}
use Rattle.fsck_repair.proofs.counts.mark_used.Goals as goal

told : {T E : Type 0} (result : Result T E) (P : Type 0) → IfOk result (λ _. P) → OnOk result P
told (Ok x) P holds = holds
told (Err e) P holds = tt

pub returns-clause-marks : goal.returns-clause-marks
returns-clause-marks c volume used none = told c.judge_uses.result _ (c.judge_uses.ensures.marks volume (ap (λ (l : List Extent). blocks_of l) c.as_slice.ensures ∙ used) none)

pub returns-clause-apart : goal.returns-clause-apart
returns-clause-apart c volume used none = c.judge_uses.ensures.met volume (ap (λ (l : List Extent). blocks_of l) c.as_slice.ensures ∙ used) none
