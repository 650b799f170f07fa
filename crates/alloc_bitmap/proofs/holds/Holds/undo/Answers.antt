use Rattle.std.proofs.Common.{List, false, length, ap, subst, sym, ◌∙◌}
use Rattle.hx_bytes.specs.declared.extents.Extent.{Extent}
use Rattle.flag_rows.specs.Marks.{Fit, mark_all}
use Rattle.alloc_bitmap.specs.Kept.{Held}
use Rattle.alloc_bitmap.proofs.HoldLaws.{fit_seen, fit_part, slice_rest, dropped_clear, dropped_others, dropped_size}
use Rattle.alloc_bitmap.proofs.holds.Holds.undo.Goals as goal

pub set_all-requires : goal.set_all-requires
set_all-requires c = subst (λ (l : List Extent). Fit (length c.args.taken.now) l) (sym (slice_rest c.self.inside.kept c.deref.result.now c.self.inside.list.items c.deref.ensures.value))
    (fit_part (length c.args.taken.now) c.self.inside.kept c.self.inside.list.items (fit_seen c.self.inside.blocks c.self.inside.list.items c.args.self.now.flags c.args.taken.now (ap (λ (v : Held). v.flags) c.self.view_is) c.requires c.self.invariant.fit))

pub returns-clause-size : goal.returns-clause-size
returns-clause-size c = dropped_size c.self.inside.blocks c.self.inside.kept c.self.inside.list.items c.args.self.now.flags c.args.taken.now c.set_all.new.self (ap (λ (v : Held). v.flags) c.self.view_is) c.requires c.self.invariant.fit
    (c.set_all.ensures ∙ ap (λ (l : List Extent). mark_all c.args.taken.now l false) (slice_rest c.self.inside.kept c.deref.result.now c.self.inside.list.items c.deref.ensures.value))

pub returns-clause-cleared : goal.returns-clause-cleared
returns-clause-cleared c = λ k held out. dropped_clear c.self.inside.blocks c.self.inside.kept c.self.inside.list.items c.args.self.now.flags c.args.self.now.kept c.args.taken.now c.set_all.new.self k (ap (λ (v : Held). v.flags) c.self.view_is) (ap (λ (v : Held). v.kept) c.self.view_is) c.requires c.self.invariant.fit
    (c.set_all.ensures ∙ ap (λ (l : List Extent). mark_all c.args.taken.now l false) (slice_rest c.self.inside.kept c.deref.result.now c.self.inside.list.items c.deref.ensures.value)) held out

pub returns-clause-others : goal.returns-clause-others
returns-clause-others c = λ k out. dropped_others c.self.inside.blocks c.self.inside.kept c.self.inside.list.items c.args.self.now.flags c.args.taken.now c.set_all.new.self k (ap (λ (v : Held). v.flags) c.self.view_is) c.requires c.self.invariant.fit
    (c.set_all.ensures ∙ ap (λ (l : List Extent). mark_all c.args.taken.now l false) (slice_rest c.self.inside.kept c.deref.result.now c.self.inside.list.items c.deref.ensures.value)) out
