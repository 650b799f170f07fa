use Rattle.std.proofs.Common.{◌≡◌, ◌+◌, ◌≤◌, [], ◌∷◌, List, Bool, false, not, arith, length, get_or, ⊎_elim, inl, inr, ap, subst, ◌∙◌, sym, rules}
use Rattle.alloc_bitmap.specs.declared.log.BitChange.{BitChange}
use Rattle.alloc_bitmap.specs.Kept.{Kept, rewind, ChangesFit}
use Rattle.flag_rows.proofs.RowLaws.{length-mark}
use Rattle.alloc_bitmap.proofs.KeptLaws.{changes_fit_last, rewind-append, rewind_both}
use Rattle.alloc_bitmap.proofs.log.Used.undo.Goals as goal

pub loop-change-preserved : goal.loop-change-preserved
loop-change-preserved c =
    let old = c.loop-change.self-inside in
    let change : BitChange = c.in-Some.change in
    let both = changes_fit_last (length old.row) c.pop.new.self.items change (subst (λ (l : List BitChange). ChangesFit (length old.row) l) c.in-Some.ensures.items c.loop-change.invariant.fit) in
    let size : length c.set.new.self ≡ length old.row = ap (λ (l : List Bool). length l) c.set.ensures ∙ length-mark old.row change.extent (not change.used) both.1 in
    let inv = c.loop-change.invariant in
    let taken_fits : change.extent.start + change.extent.count ≤ length c.loop-change.taken = omega (arith, both.1, inv.taken_size, inv.size) in
    let taken_long : length c.set-in-Some.new.self ≡ length c.loop-change.taken = ap (λ (l : List Bool). length l) c.set-in-Some.ensures ∙ length-mark c.loop-change.taken change.extent (not change.used) taken_fits in
    record {
      fit = subst (λ n. ChangesFit n c.pop.new.self.items) (sym size) both.0;
      size = size ∙ inv.size;
      rest = ap (λ (l : List Bool). rewind c.pop.new.self.items l) c.set.ensures ∙ sym (rewind-append c.pop.new.self.items (change ∷ []) old.row) ∙ ap (λ (l : List BitChange). rewind l old.row) (sym c.in-Some.ensures.items) ∙ inv.rest;
      taken_size = taken_long ∙ inv.taken_size;
      taken = ap (λ (l : List Bool). rewind c.pop.new.self.items l) c.set-in-Some.ensures ∙ sym (rewind-append c.pop.new.self.items (change ∷ []) c.loop-change.taken) ∙ ap (λ (l : List BitChange). rewind l c.loop-change.taken) (sym c.in-Some.ensures.items) ∙ inv.taken;
    }

pub returns-clause-taken : goal.returns-clause-taken
returns-clause-taken c = λ k.
    let none : c.loop-change.taken ≡ rewind c.self.inside.log.items c.args.taken.now = search rules in
    let view = c.self.view_is in
    let kept = ap (λ (v : Kept). v.kept) view in
    let size : length c.args.taken.now ≡ length c.self.inside.row = c.requires ∙ sym (ap (λ (v : Kept). length v.flags) view) in
    let each = rewind_both c.self.inside.log.items c.args.taken.now c.self.inside.row k false (subst (λ n. ChangesFit n c.self.inside.log.items) (sym size) c.self.invariant) c.self.invariant in
    let at : get_or c.loop-change.taken k false ≡ get_or (rewind c.self.inside.log.items c.args.taken.now) k false = ap (λ (l : List Bool). get_or l k false) none in
    let was : get_or (rewind c.self.inside.log.items c.self.inside.row) k false ≡ get_or c.args.self.now.kept k false = ap (λ (l : List Bool). get_or l k false) kept in
    ⊎_elim (λ same. inl (at ∙ same ∙ was)) (λ still. inr (at ∙ still.0, sym was ∙ still.1 ∙ ap (λ (v : Kept). get_or v.flags k false) view)) each
