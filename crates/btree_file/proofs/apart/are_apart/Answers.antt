use Rattle.std.proofs.Common.{◌≡◌, ◌<◌, get_or, take, inl, inr, sym, ◌∙◌, ap, subst, arith}
use Rattle.std.proofs.lemmas.Bool.{cases_lt, true≢false}
use Rattle.std.proofs.lemmas.List.{get_or-take, length-take, get_or_default}
use Rattle.hx_bytes.specs.declared.extents.Extent.{Extent}
use Rattle.btree_file.specs.Apart.{Meet}
use Rattle.btree_file.proofs.apart.are_apart.Goals as goal

pub returns-then-not-meets_none : goal.returns-then-not-meets_none
returns-then-not-meets_none c = (
  λ t. absurd (true≢false (sym t)),
  λ apart. sym c.if-not-meets_none.true ∙ c.meets_none.ensures.1 (λ k d low meet.
      let early : k < c.loop-i.i = omega (arith, low, length-take c.loop-i.i c.args.extents.now) in
      apart k c.loop-i.i d early (omega arith)
      (subst (λ (e : Extent). Meet e (get_or c.args.extents.now c.loop-i.i d)) (get_or-take c.loop-i.i c.args.extents.now k d early)
      (subst (λ (e : Extent). Meet (get_or (take c.loop-i.i c.args.extents.now) k d) e) (get_or_default c.args.extents.now c.loop-i.i (record { start = 0; count = 0 }) d (omega arith)) meet))),
)

pub loop-i-preserved : goal.loop-i-preserved
loop-i-preserved c = λ i j d less low meet. elim (cases_lt j c.loop-i.i) [
  | inl early ↦ c.loop-i.invariant i j d less early meet
  | inr late ↦
      let at : j ≡ c.loop-i.i = omega (arith, low, late) in
      let before : i < c.loop-i.i = omega (arith, less, at) in
      c.meets_none.ensures.0 c.if-not-meets_none.false i d (omega (arith, before, length-take c.loop-i.i c.args.extents.now))
      (subst (λ (e : Extent). Meet e (get_or c.args.extents.now c.loop-i.i (record { start = 0; count = 0 }))) (sym (get_or-take c.loop-i.i c.args.extents.now i d before))
      (subst (λ (e : Extent). Meet (get_or c.args.extents.now i d) e) (ap (λ k. get_or c.args.extents.now k d) at ∙ sym (get_or_default c.args.extents.now c.loop-i.i (record { start = 0; count = 0 }) d (omega arith))) meet))
]
