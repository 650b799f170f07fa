use Rattle.std.proofs.Common.{◌≡◌, take}
use Rattle.std.specs.Prelude.{Some}
use Rattle.session_lines.specs.Keepers.{all_own}
use Rattle.session_lines.proofs.taken.own_files.Given as goal

-- the entries so far each are one
abbrev pub invariant-loop-told : goal.invariant-loop-told
invariant-loop-told l = all_own (take l.told-index l.each) ≡ Some l.files.items
