use Rattle.std.proofs.Common.{◌||◌, get_or, List, Bool, false, length, ap, sym, ◌∙◌}
use Rattle.std.proofs.lemmas.List.{length-replicate}
use Rattle.alloc_bitmap.proofs.TakenLaws.{map_undone, taken_long}
use Rattle.alloc_bitmap.proofs.bitmap.Bitmap.undo.Goals as goal

pub undo-requires : goal.undo-requires
undo-requires c = taken_long c.self.inside.used.flags c.self.inside.holds.flags c.self.inside.taken c.self.invariant.taken_is ∙ sym c.self.invariant.size

pub undo-requires-2 : goal.undo-requires-2
undo-requires-2 c = c.undo.ensures.size ∙ taken_long c.self.inside.used.flags c.self.inside.holds.flags c.self.inside.taken c.self.invariant.taken_is

pub mark_in-requires : goal.mark_in-requires
mark_in-requires c = c.undo-2.ensures.size ∙ c.undo.ensures.size ∙ taken_long c.self.inside.used.flags c.self.inside.holds.flags c.self.inside.taken c.self.invariant.taken_is ∙ sym c.self.invariant.kept_held_size ∙ sym (ap (λ (l : List Bool). length l) c.undo.ensures.flags)

pub invariant_of-self : goal.invariant_of-self
invariant_of-self c =
    let was = c.self.inside in
    map_undone was.used c.undo-2.new.self was.holds c.undo.new.self was.changed c.clear_all.new.self was.taken c.undo.new.taken c.undo-2.new.taken c.mark_in.new.taken c.self.invariant
    c.undo-2.ensures.flags c.undo-2.ensures.kept c.undo.ensures.flags c.undo.ensures.kept (ap (λ (l : List Bool). length l) c.clear_all.ensures ∙ length-replicate (length was.changed) false)
    (record {
      first_size = c.undo.ensures.size;
      cleared = c.undo.ensures.cleared;
      others = c.undo.ensures.others;
      second_size = c.undo-2.ensures.size;
      changed = c.undo-2.ensures.taken;
      last_size = c.mark_in.ensures.size;
      marked = λ k lt. c.mark_in.ensures.marked k lt ∙ ap (λ (l : List Bool). get_or l k false || get_or c.undo-2.new.taken k false) c.undo.ensures.flags;
    })
