use Rattle.std.proofs.Common.{List, ℕ, drop, refl, sym, ◌∙◌, ap, arith}
use Rattle.std.specs.Str.{bytes_eq}
use Rattle.std.proofs.lemmas.Slice.Eq.{bytes_eq-Decides}
use Rattle.btree_node.specs.Keys.{units}
use Rattle.fsck_core.proofs.ThreadUnits.{other_ends, same_first, another_first, both_end}
use Rattle.fsck_core.proofs.threads.same_units.Goals as goal

pub returns-then-same_bytes : goal.returns-then-same_bytes
returns-then-same_bytes c =
    let theirs : List ℕ = units (drop c.args.there c.args.other.now) in
    sym (ap (λ (bytes : List ℕ). bytes_eq (units bytes) theirs) (c.same_bytes.ensures c.if-same_bytes.true) ∙ (bytes_eq-Decides theirs theirs).1 refl)

pub returns-then-place-other : goal.returns-then-place-other
returns-then-place-other c = sym (other_ends c.args.one.now c.args.other.now c.loop-at.at c.loop-at.place (omega (arith, c.loop-at-test.true)) (omega (arith, c.if-place-other.true))) ∙ c.loop-at.invariant.rest

pub returns-then-read_be16 : goal.returns-then-read_be16
returns-then-read_be16 c =
    sym (another_first c.args.one.now c.args.other.now c.loop-at.at c.loop-at.place (omega (arith, c.loop-at-test.true)) (omega (arith, c.if-place-other.false))
    (λ same. c.if-read_be16.true (c.read_be16.ensures ∙ same ∙ sym c.read_be16-in-loop-at.ensures))) ∙ c.loop-at.invariant.rest

pub loop-at-preserved : goal.loop-at-preserved
loop-at-preserved c = record {
  within = omega (arith, c.loop-at-test.true);
  inside = omega (arith, c.if-place-other.false);
  rest = same_first c.args.one.now c.args.other.now c.loop-at.at c.loop-at.place (omega (arith, c.loop-at-test.true)) (omega (arith, c.if-place-other.false))
      (sym c.read_be16.ensures ∙ c.if-read_be16.false ∙ c.read_be16-in-loop-at.ensures) ∙ c.loop-at.invariant.rest;
}

pub returns : goal.returns
returns c = both_end c.args.one.now c.args.other.now c.loop-at.at c.loop-at.place _ refl (omega (arith, c.loop-at-test.false)) ∙ c.loop-at.invariant.rest
