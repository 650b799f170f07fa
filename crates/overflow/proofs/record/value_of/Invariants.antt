use Rattle.std.proofs.Common.{◌≡◌, length, take, replicate}
use Rattle.std.specs.List.{flat_map, AllByRecursion}
use Rattle.hx_bytes.specs.Field.{put_at}
use Rattle.hx_bytes.specs.Fork.{extent_bytes, FitsExtent}
use Rattle.overflow.proofs.record.value_of.Given as goal

abbrev pub invariant-loop-place : goal.invariant-loop-place
invariant-loop-place l = record {
  eight : length l.fn.extents.extents ≡ 8;
  written : l.value ≡ put_at (replicate 64 0) 0 (flat_map extent_bytes (take l.place l.fn.extents.extents));
  fits : AllByRecursion FitsExtent (take l.place l.fn.extents.extents);
}
