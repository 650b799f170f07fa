use Rattle.std.proofs.Common.{◌≡◌, ◌++◌, take}
use Rattle.cat_records.specs.Records.{units_bytes}
use Rattle.cat_records.proofs.units.append_units.Given as goal

-- the units so far are written
abbrev pub invariant-loop-unit : goal.invariant-loop-unit
invariant-loop-unit l = l.bytes.items ≡ l.fn.bytes.items ++ units_bytes (take l.unit-index l.unit-items)
