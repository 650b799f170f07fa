use Rattle.std.proofs.Common.{◌≤◌, ◌+◌, ◌*◌, [], ◌∷◌, true, List, Bool, length, arith, ap, subst, sym, ◌∙◌}
use Rattle.flag_rows.specs.Bits.{mark}
use Rattle.alloc_bitmap.specs.Map.{BlockMap, Have}
use Rattle.alloc_bitmap.proofs.TakeLaws.{touched_size}
use Rattle.alloc_bitmap.proofs.TakenLaws.{map_given}
use Rattle.alloc_bitmap.proofs.bitmap.Bitmap.give.Goals as goal

pub invariant_of-self-2 : goal.invariant_of-self-2
invariant_of-self-2 c =
    let have : Have c.self.inside.used.flags c.args.e true = subst (λ (l : List Bool). Have l c.args.e true) (sym (ap (λ (m : BlockMap). m.used) c.self.view_is)) c.requires in
    let size : c.args.e.start + c.args.e.count ≤ length c.self.inside.changed * 4096 = omega (arith, have.inside, c.self.invariant.changed_size) in
    map_given c.self.inside.used c.change_all.new.self c.self.inside.holds c.add.new.self c.self.inside.changed c.touch_all.new.changed c.self.inside.taken c.args.e c.self.invariant have
    c.in_ok-change_all.ensures.changed c.change_all.ensures.kept (c.add.ensures.added ∙ ap (λ (l : List Bool). mark l c.args.e true) c.reserve.ensures.flags) (c.add.ensures.kept ∙ c.reserve.ensures.kept)
    (ap (λ (l : List Bool). length l) c.touch_all.ensures ∙ touched_size c.self.inside.changed (c.args.e ∷ []) (size, tt))
