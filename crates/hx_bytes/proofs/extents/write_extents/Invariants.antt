use Rattle.std.proofs.Common.{◌≡◌, take}
use Rattle.std.specs.List.{flat_map}
use Rattle.hx_bytes.specs.Field.{put_at}
use Rattle.hx_bytes.specs.Fork.{extent_bytes}
use Rattle.hx_bytes.proofs.extents.write_extents.Given as goal

-- the extents so far are written
abbrev pub invariant-loop-place : goal.invariant-loop-place
invariant-loop-place l = l.bytes ≡ put_at l.fn.bytes l.at (flat_map extent_bytes (take l.place l.extents.extents))
