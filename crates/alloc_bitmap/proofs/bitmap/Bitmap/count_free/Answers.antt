use Rattle.std.proofs.Common.{List, Bool, ap, ◌∙◌}
use Rattle.flag_rows.specs.Bits.{count_set}
use Rattle.flag_rows.specs.Sums.{clear_of}
use Rattle.alloc_bitmap.specs.Map.{BlockMap, free_of}
use Rattle.alloc_bitmap.proofs.MapLaws.{clear_taken}
use Rattle.alloc_bitmap.proofs.bitmap.Bitmap.count_free.Goals as goal

pub returns : goal.returns
returns c = c.count_clear.ensures ∙ ap (λ (l : List Bool). count_set (clear_of l)) c.self.invariant.taken_is ∙ ap (λ (l : List Bool). count_set l) (clear_taken c.self.inside.used.flags c.self.inside.holds.flags) ∙ ap (λ (m : BlockMap). count_set (free_of m)) c.self.view_is
