use Rattle.std.proofs.Common.{List, Bool, ap, ◌∙◌}
use Rattle.flag_rows.specs.Runs.{runs_of, longest_of}
use Rattle.flag_rows.specs.Sums.{clear_of}
use Rattle.alloc_bitmap.specs.Map.{BlockMap, free_of}
use Rattle.alloc_bitmap.proofs.MapLaws.{clear_taken}
use Rattle.alloc_bitmap.proofs.bitmap.Bitmap.longest.Goals as goal

pub returns : goal.returns
returns c = c.longest.ensures ∙ ap (λ (l : List Bool). longest_of (runs_of (clear_of l))) c.self.invariant.taken_is ∙ ap (λ (l : List Bool). longest_of (runs_of l)) (clear_taken c.self.inside.used.flags c.self.inside.holds.flags) ∙ ap (λ (m : BlockMap). longest_of (runs_of (free_of m))) c.self.view_is
