use Rattle.std.proofs.Common.{◌≡◌, ◌≤◌, ◌^◌, Bool, false, List, length, replicate, arith}
use Rattle.fsck_core.proofs.WantLaws.{ok_map}
use Rattle.fsck_core.proofs.UsedLaws.{marks_fit}
use Rattle.fsck_core.proofs.blocks.no_marks.Goals as goal

pub returns-clause-few : goal.returns-clause-few
returns-clause-few c = ok_map c.new.result (λ (marks : List Bool). marks ≡ replicate c.args.total false) (λ (marks : List Bool). length marks ≤ 2 ^ 32) (λ marks none. marks_fit marks c.args.total (omega (arith, c.ranges.total.fits)) none) c.new.ensures
