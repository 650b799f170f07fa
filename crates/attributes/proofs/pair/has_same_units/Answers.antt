use Rattle.std.proofs.Common.{◌≡◌, ◌∷◌, drop, refl, sym, ◌∙◌, arith, length-drop}
use Rattle.hx_bytes.specs.Field.{big_at}
use Rattle.attributes.proofs.Lists.{not_so}
use Rattle.attributes.proofs.Units.{same_head, same_tail, units_short, units_step}
use Rattle.attributes.proofs.pair.has_same_units.Goals as goal

pub loop-at-preserved : goal.loop-at-preserved
loop-at-preserved c =
    let at = c.loop-at.at in
    let one = units_step c.args.key.now at (omega (arith, c.loop-at-test.true)) in
    let other = units_step c.args.other.now at (omega (arith, c.loop-at-test.true, c.requires)) in
    let heads : big_at 2 c.args.key.now at ≡ big_at 2 c.args.other.now at = omega arith in
    record {
      small = omega (arith, c.loop-at.invariant.small, c.loop-at-test.true);
      on = λ same. same_tail _ _ _ _ (sym one ∙ c.loop-at.invariant.on same ∙ other);
      back = λ same. c.loop-at.invariant.back (one ∙ (λ i. heads i ∷ same i) ∙ sym other);
    }

pub returns-then-read_be16 : goal.returns-then-read_be16
returns-then-read_be16 c = (
  (λ yes. absurd (not_so yes)),
  (λ same.
      let at = c.loop-at.at in
      let one = units_step c.args.key.now at (omega (arith, c.loop-at-test.true)) in
      let other = units_step c.args.other.now at (omega (arith, c.loop-at-test.true, c.requires)) in
      let heads = same_head _ _ _ _ (sym one ∙ c.loop-at.invariant.on same ∙ other) in
      absurd (c.if-read_be16.true (c.read_be16.ensures ∙ heads ∙ sym c.read_be16-in-loop-at.ensures))),
)

pub returns : goal.returns
returns c = (
  (λ yes. c.loop-at.invariant.back (units_short (drop c.loop-at.at c.args.key.now) (omega (arith, c.loop-at-test.false, length-drop c.loop-at.at c.args.key.now))
      ∙ sym (units_short (drop c.loop-at.at c.args.other.now) (omega (arith, c.loop-at-test.false, c.requires, length-drop c.loop-at.at c.args.other.now))))),
  (λ same. refl),
)
