use Rattle.std.proofs.Common.{◌<◌, ℕ, get_or}
use Rattle.hx_bytes.specs.declared.extents.Extent.{Extent}
use Rattle.btree_file.specs.Apart.{Meet}
use Rattle.btree_file.proofs.apart.are_apart.Given as goal

-- no two of those so far
abbrev pub invariant-loop-i : goal.invariant-loop-i
invariant-loop-i l = (i j : ℕ) (d : Extent) → i < j → j < l.i → Meet (get_or l.extents i d) (get_or l.extents j d) → ⊥
