use Rattle.std.proofs.Common.{◌≡◌, ◌<◌, ℕ, List, ◌+◌, ◌-◌, ◌*◌, ◌/◌, true, false, sym, ◌∙◌, ap, arith}
use Rattle.std.specs.List.{count_by, range_with_len}
use Rattle.flag_rows.specs.Bits.{bit_of}
use Rattle.fsck_core.proofs.BehindLaws.{bit_more, none_on, no_bit}
use Rattle.fsck_core.proofs.behind.count_bits.Goals.{then-bit, else-bit}
use Rattle.fsck_core.proofs.behind.count_bits.Goals as goal

pub loop-k-preserved : goal.loop-k-preserved
loop-k-preserved c = elim c.if-bit.branch [
  | then-bit w ↦ record {
    count = bit_more (bit_of c.args.sector.now) c.args.from c.loop-k.k c.loop-k.count c.if-bit.count true c.loop-k.invariant.least c.loop-k.invariant.count (sym c.bit.ensures ∙ w.if-bit.true) w.count-is;
    few = omega (arith, w.count-is, c.loop-k.invariant.few, c.loop-k.invariant.least);
    least = omega (arith, c.loop-k.invariant.least);
    most = omega (arith, c.loop-k-test.true, c.loop-k.invariant.least);
  }
  | else-bit w ↦ record {
    count = bit_more (bit_of c.args.sector.now) c.args.from c.loop-k.k c.loop-k.count c.if-bit.count false c.loop-k.invariant.least c.loop-k.invariant.count (sym c.bit.ensures ∙ w.if-bit.false) (w.count-is ∙ add_none c.loop-k.count);
    few = omega (arith, w.count-is, c.loop-k.invariant.few, c.loop-k.invariant.least);
    least = omega (arith, c.loop-k.invariant.least);
    most = omega (arith, c.loop-k-test.true, c.loop-k.invariant.least);
  }
]
  where
    add_none : (n : ℕ) → n ≡ n + 0
    add_none n = omega arith

pub returns-then-is_blank-clause-value : goal.returns-then-is_blank-clause-value
returns-then-is_blank-clause-value c =
    sym (none_on (bit_of c.args.sector.now) c.args.from (c.args.to - c.args.from) (λ i less.
    let low : c.args.from + i < 4096 = omega (arith, less, c.requires) in
    ap (λ (l : List ℕ). bit_of l (c.args.from + i)) (c.is_blank.ensures c.if-is_blank.true) ∙ no_bit (c.args.from + i) low))

pub returns-then-rest-eq0-clause-value : goal.returns-then-rest-eq0-clause-value
returns-then-rest-eq0-clause-value c =
    let from_is : 0 ≡ c.args.from = omega (arith, c.if-from-eq0.true) in
    let long : 8 * (c.args.to / 8) ≡ c.args.to - c.args.from = omega (arith, c.if-from-eq0.true, c.if-rest-eq0.true) in
    c.count_bytes.ensures.value ∙ (λ i. count_by (bit_of c.args.sector.now) (range_with_len (from_is i) (long i)))
