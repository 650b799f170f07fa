use Rattle.std.proofs.Common.{◌≡◌, ◌≤◌, ◌+◌, ◌++◌, [], ◌∷◌, ℕ, Bool, true, List, length, is_ok, if◌then◌else◌, arith, ap, refl, ◌∙◌}
use Rattle.hx_bytes.specs.declared.extents.Extent.{Extent}
use Rattle.flag_rows.specs.Bits.{mark}
use Rattle.alloc_bitmap.specs.Kept.{Held, held_by}
use Rattle.alloc_bitmap.proofs.HoldLaws.{length-held, held_add, holds_add}
use Rattle.alloc_bitmap.proofs.holds.Holds.add.Goals as goal

fits_in : (n : ℕ) (items : List Extent) (flags : List Bool) (e : Extent) → held_by n items ≡ flags → e.start + e.count ≤ length flags → e.start + e.count ≤ n
fits_in n items flags e seen le = omega (arith, le, ap (λ (l : List Bool). length l) seen, length-held n items)

pushed : (old new : List Extent) (e : Extent) (b : Bool) → new ≡ (if b then old ++ e ∷ [] else old) → b ≡ true → new ≡ old ++ e ∷ []
pushed old new e b is ok = is ∙ rw ok refl

pub invariant_of-self : goal.invariant_of-self
invariant_of-self c =
    let h = c.self.inside in
    let fits = fits_in h.blocks h.list.items c.args.self.now.flags c.args.extent (ap (λ (v : Held). v.flags) c.self.view_is) c.requires.inside in
    let room = ap (λ (v : Held). v.room) c.self.view_is in
    holds_add h.blocks h.list.items c.push-pushed.new.self.items c.args.extent h.kept c.self.invariant fits (pushed h.list.items c.push-pushed.new.self.items c.args.extent (is_ok c.push-pushed.result) c.push-pushed.ensures.items (c.push-pushed.ensures.succeeds (omega arith)))

pub returns-clause-added : goal.returns-clause-added
returns-clause-added c =
    let h = c.self.inside in
    let seen = ap (λ (v : Held). v.flags) c.self.view_is in
    let room = ap (λ (v : Held). v.room) c.self.view_is in
    let fits = fits_in h.blocks h.list.items c.args.self.now.flags c.args.extent seen c.requires.inside in
    ap (λ (l : List Extent). held_by h.blocks l) (pushed h.list.items c.push-pushed.new.self.items c.args.extent (is_ok c.push-pushed.result) c.push-pushed.ensures.items (c.push-pushed.ensures.succeeds (omega arith)))
    ∙ held_add h.blocks h.list.items c.args.extent fits ∙ ap (λ (l : List Bool). mark l c.args.extent true) seen
