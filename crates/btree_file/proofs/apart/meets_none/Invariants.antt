use Rattle.std.proofs.Common.{◌<◌, ℕ, get_or}
use Rattle.hx_bytes.specs.declared.extents.Extent.{Extent}
use Rattle.btree_file.specs.Apart.{Meet}
use Rattle.btree_file.proofs.apart.meets_none.Given as goal

-- none so far
abbrev pub invariant-loop-extent : goal.invariant-loop-extent
invariant-loop-extent l = (k : ℕ) (d : Extent) → k < l.extent-index → Meet (get_or l.extents k d) l.one → ⊥
