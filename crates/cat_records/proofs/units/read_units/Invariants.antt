use Rattle.std.proofs.Common.{◌≡◌, ◌+◌, ◌-◌, ◌*◌, ◌++◌}
use Rattle.cat_records.specs.Records.{units_at}
use Rattle.cat_records.proofs.units.read_units.Given as goal

-- the units so far, and those behind them
abbrev pub invariant-loop-place : goal.invariant-loop-place
invariant-loop-place l = l.units.items ++ units_at l.bytes (l.at + 2 * l.place) (l.count - l.place) ≡ units_at l.bytes l.at l.count
