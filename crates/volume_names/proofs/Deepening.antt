-- How deep edits may make a tree at most.
use Rattle.std.proofs.Common.{◌≤◌, ℕ, zero, suc, ◌+◌, ◌*◌, Bool, true, false, arith}
use Rattle.std.specs.Prelude.{nat_lt, if◌then◌else◌}
use Rattle.btree_edit.specs.Edits.{TreeTop, tops, top_after}

abbrev depth_in : TreeTop → ℕ
depth_in top = top.depth

-- no edit makes a tree deeper by more than one
after_rise : (room wide depth records : ℕ) → (top_after room wide depth records).depth ≤ depth + 1
after_rise room wide zero records = omega arith
after_rise room wide (suc zero) records = omega arith
after_rise room wide (suc (suc above)) records = by (nat_lt room (wide * (records + 1)))
  where
    by : (b : Bool) → depth_in (if b then record { depth = suc (suc (suc above)); records = 2 } else record { depth = suc (suc above); records = records + 1 }) ≤ suc (suc above) + 1
    by true = omega arith
    by false = omega arith

pub tops_rise : (room wide edits : ℕ) (top : TreeTop) → (tops room wide edits top).depth ≤ top.depth + edits
tops_rise room wide zero top = omega arith
tops_rise room wide (suc edits) top = omega (arith, tops_rise room wide edits (top_after room wide top.depth top.records), after_rise room wide top.depth top.records)
