use Rattle.std.proofs.Common.{◌≡◌, ◌-◌, List, length, ◌∙◌, ap, arith}
use Rattle.std.specs.Prelude.{slice_index_or}
use Rattle.hx_bytes.specs.declared.extents.Extent.{Extent}
use Rattle.overflow.specs.Records.{no_extent}
use Rattle.volume_space.proofs.SpreadFile.{last_counts}
use Rattle.volume_space.proofs.cutting.count_last.Goals as goal

pub returns-clause-near : goal.returns-clause-near
returns-clause-near c = omega (arith, last_counts c.args.list.now, c.min-2.ensures, c.min.ensures, c.from.ensures, ap (λ (e : Extent). e.count) (c.last_extent-last.ensures ∙ ap (λ (l : List Extent). slice_index_or l (length l - 1) no_extent) c.as_slice-extents.ensures))
