use Rattle.std.proofs.Common.{◌≡◌, ℕ, List, Bool, true, not, length, get_or, ap, subst, ◌∙◌, sym}
use Rattle.flag_rows.specs.Marks.{Fit, is_held}
use Rattle.alloc_bitmap.specs.Kept.{Kept}
use Rattle.alloc_bitmap.proofs.KeptLaws.{changes_fit_more, kept_same}
use Rattle.alloc_bitmap.proofs.log.Used.change_all.Goals as goal

pub invariant_of-self-2 : goal.invariant_of-self-2
invariant_of-self-2 c =
    let seen = ap (λ (v : Kept). v.flags) c.self.view_is in
    let fit : Fit (length c.self.inside.row) c.args.list.now = subst (λ (xs : List Bool). Fit (length xs) c.args.list.now) (sym seen) c.requires.fit in
    changes_fit_more c.self.inside.row c.set_all.new.self c.args.list.now c.args.used c.self.inside.log.items c.log_all.new.log.items c.set_all.ensures c.in_ok-log_all.ensures.noted fit c.self.invariant

pub returns-clause-kept : goal.returns-clause-kept
returns-clause-kept c =
    let seen = ap (λ (v : Kept). v.flags) c.self.view_is in
    let fit : Fit (length c.self.inside.row) c.args.list.now = subst (λ (xs : List Bool). Fit (length xs) c.args.list.now) (sym seen) c.requires.fit in
    let was : (k : ℕ) → is_held c.args.list.now k ≡ true → get_or c.self.inside.row k c.args.used ≡ not c.args.used = subst (λ (xs : List Bool). (k : ℕ) → is_held c.args.list.now k ≡ true → get_or xs k c.args.used ≡ not c.args.used) (sym seen) c.requires.change in
    kept_same c.self.inside.row c.set_all.new.self c.args.list.now c.args.used c.self.inside.log.items c.log_all.new.log.items c.set_all.ensures c.in_ok-log_all.ensures.noted fit was ∙ ap (λ (v : Kept). v.kept) c.self.view_is
