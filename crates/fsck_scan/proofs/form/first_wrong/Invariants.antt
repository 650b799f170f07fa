use Rattle.std.proofs.Common.{◌≡◌, ◌<◌, ℕ, get_or}
use Rattle.fsck_scan.specs.declared.form.Number.{Number}
use Rattle.fsck_scan.proofs.form.first_wrong.Given as goal

abbrev pub invariant-loop-number : goal.invariant-loop-number
invariant-loop-number l = (k : ℕ) (d : Number) → k < l.number-index → (get_or l.numbers k d).found ≡ (get_or l.numbers k d).wanted
