use Rattle.std.proofs.Common.{◌∙◌}
use Rattle.alloc_bitmap.proofs.TakenLaws.{map_fresh}
use Rattle.alloc_bitmap.proofs.bitmap.Bitmap.of_bits.Goals as goal

pub invariant_of-result : goal.invariant_of-result
invariant_of-result c = map_fresh c.new.result c.new-2.result c.in_ok-changed.changed c.in_ok-taken.taken c.args.bits c.len-total.result c.len-total.ensures.size
    (c.new.ensures.flags ∙ c.in_ok-row.ensures) (c.new.ensures.kept ∙ c.in_ok-row.ensures) c.new-2.ensures.flags c.new-2.ensures.kept c.in_ok-changed.ensures (c.in_ok-taken.ensures ∙ c.in_ok-row.ensures)
