use Rattle.std.proofs.Common.{◌≡◌, ◌++◌, drop}
use Rattle.overflow.specs.Reading.{used_in}
use Rattle.overflow.proofs.loading.push_records.Given as goal

abbrev pub invariant-loop-one : goal.invariant-loop-one
invariant-loop-one l = l.list ++ used_in (drop l.one-index l.records) ≡ l.initial.list ++ used_in l.records
