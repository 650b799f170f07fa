use Rattle.std.proofs.Common.{sym, ◌∙◌}
use Rattle.alloc_bitmap.proofs.TakenLaws.{map_settled, taken_long}
use Rattle.alloc_bitmap.proofs.bitmap.Bitmap.settle.Goals as goal

pub settle-requires : goal.settle-requires
settle-requires c = taken_long c.self.inside.used.flags c.self.inside.holds.flags c.self.inside.taken c.self.invariant.taken_is ∙ sym c.self.invariant.size

pub invariant_of-self : goal.invariant_of-self
invariant_of-self c = map_settled c.self.inside.used c.self.inside.holds c.settle.new.self c.self.inside.changed c.self.inside.taken c.settle.new.taken c.self.invariant c.settle.ensures.flags c.settle.ensures.kept c.settle.ensures.size c.settle.ensures.cleared
