use Rattle.std.proofs.Common.{false, true, List, Bool, length, arith, ap, subst, sym, ◌∙◌}
use Rattle.flag_rows.specs.Bits.{mark}
use Rattle.alloc_bitmap.specs.Map.{BlockMap, Have}
use Rattle.alloc_bitmap.proofs.TakenLaws.{map_held, taken_long}
use Rattle.alloc_bitmap.proofs.bitmap.Bitmap.hold.Goals as goal

pub set-requires : goal.set-requires
set-requires c =
    let used = ap (λ (m : BlockMap). length m.used) c.self.view_is in
    omega (arith, c.requires.inside, used, taken_long c.self.inside.used.flags c.self.inside.holds.flags c.self.inside.taken c.self.invariant.taken_is)

pub invariant_of-self-2 : goal.invariant_of-self-2
invariant_of-self-2 c =
    map_held c.self.inside.used c.self.inside.holds c.add.new.self c.self.inside.changed c.self.inside.taken c.set.new.self c.args.e c.self.invariant
    (subst (λ (l : List Bool). Have l c.args.e false) (sym (ap (λ (m : BlockMap). m.used) c.self.view_is)) c.requires)
    (c.add.ensures.added ∙ ap (λ (l : List Bool). mark l c.args.e true) c.reserve.ensures.flags) (c.add.ensures.kept ∙ c.reserve.ensures.kept) c.set.ensures
