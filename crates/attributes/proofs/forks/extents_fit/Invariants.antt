use Rattle.std.proofs.Common.{◌≡◌, ◌<◌, ℕ, length}
use Rattle.std.specs.Prelude.{slice_index_or}
use Rattle.hx_bytes.specs.Fork.{FitsExtent}
use Rattle.attributes.proofs.forks.extents_fit.Given as goal

abbrev pub invariant-loop-extent : goal.invariant-loop-extent
invariant-loop-extent l = record {
  eight : length l.extents.extents ≡ 8;
  each : (k : ℕ) → k < l.extent-index → FitsExtent (slice_index_or l.extents.extents k (record { start = 0; count = 0 }));
}
