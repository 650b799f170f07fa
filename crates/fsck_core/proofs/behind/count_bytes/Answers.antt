use Rattle.std.proofs.Common.{◌≡◌, ◌<◌, ℕ, ◌+◌, ◌*◌, get_or, refl, ◌∙◌, ap, arith}
use Rattle.std.specs.Int.RustNames.{count_ones}
use Rattle.std.specs.List.{count_by, range_with_len}
use Rattle.std.proofs.lemmas.Nat.{ones-le}
use Rattle.flag_rows.specs.Bits.{bit_of}
use Rattle.fsck_core.proofs.OnesLaws.{byte_more}
use Rattle.fsck_core.proofs.behind.count_bytes.Goals as goal

pub loop-k-preserved : goal.loop-k-preserved
loop-k-preserved c =
    let b : ℕ = get_or c.args.bytes.now c.loop-k.k 0 in
    let small : b < 256 = omega (arith, c.type_inv.bytes c.loop-k.k) in
    record {
      set = byte_more c.args.bytes.now c.loop-k.k b c.loop-k.set (c.loop-k.set + count_ones b) refl small c.loop-k.invariant.set refl;
      few = omega (arith, ones-le 8 b small, c.loop-k.invariant.few);
    }

pub returns-clause-value : goal.returns-clause-value
returns-clause-value c =
    let end : c.loop-k.k ≡ c.args.count = omega (arith, c.loop-k-test.false, c.loop-k.auto.k-end) in
    c.loop-k.invariant.set ∙ ap (λ n. count_by (bit_of c.args.bytes.now) (range_with_len 0 (8 * n))) end
