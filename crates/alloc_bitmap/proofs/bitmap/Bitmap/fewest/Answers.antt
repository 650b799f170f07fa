use Rattle.std.proofs.Common.{List, Bool, ap, ◌∙◌}
use Rattle.flag_rows.specs.Runs.{runs_of, longest_first, fewest_of}
use Rattle.flag_rows.specs.Sums.{clear_of}
use Rattle.alloc_bitmap.specs.Map.{BlockMap, free_of}
use Rattle.alloc_bitmap.proofs.MapLaws.{clear_taken}
use Rattle.alloc_bitmap.proofs.bitmap.Bitmap.fewest.Goals as goal

pub returns : goal.returns
returns c = c.fewest.ensures ∙ ap (λ (l : List Bool). fewest_of c.args.n (longest_first (runs_of (clear_of l)))) c.self.invariant.taken_is ∙ ap (λ (l : List Bool). fewest_of c.args.n (longest_first (runs_of l))) (clear_taken c.self.inside.used.flags c.self.inside.holds.flags) ∙ ap (λ (m : BlockMap). fewest_of c.args.n (longest_first (runs_of (free_of m)))) c.self.view_is
