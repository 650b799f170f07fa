use Rattle.std.proofs.Common.{List, true, length, ap, subst, sym, ◌∙◌}
use Rattle.hx_bytes.specs.declared.extents.Extent.{Extent}
use Rattle.flag_rows.specs.Marks.{Fit, mark_all}
use Rattle.alloc_bitmap.specs.Kept.{Held}
use Rattle.alloc_bitmap.proofs.HoldLaws.{fit_seen, marked_in, marked_size}
use Rattle.alloc_bitmap.proofs.holds.Holds.mark_in.Goals as goal

pub set_all-requires : goal.set_all-requires
set_all-requires c = subst (λ (l : List Extent). Fit (length c.args.taken.now) l) (sym c.as_slice.ensures.value)
    (fit_seen c.self.inside.blocks c.self.inside.list.items c.args.self.now.flags c.args.taken.now (ap (λ (v : Held). v.flags) c.self.view_is) c.requires c.self.invariant.fit)

pub returns-clause-size : goal.returns-clause-size
returns-clause-size c = marked_size c.self.inside.blocks c.self.inside.list.items c.args.self.now.flags c.args.taken.now c.set_all.new.self true (ap (λ (v : Held). v.flags) c.self.view_is) c.requires c.self.invariant.fit
    (c.set_all.ensures ∙ ap (λ (l : List Extent). mark_all c.args.taken.now l true) c.as_slice.ensures.value)

pub returns-clause-marked : goal.returns-clause-marked
returns-clause-marked c = λ k lt. marked_in c.self.inside.blocks c.self.inside.list.items c.args.self.now.flags c.args.taken.now c.set_all.new.self k (ap (λ (v : Held). v.flags) c.self.view_is) c.requires c.self.invariant.fit
    (c.set_all.ensures ∙ ap (λ (l : List Extent). mark_all c.args.taken.now l true) c.as_slice.ensures.value) lt
