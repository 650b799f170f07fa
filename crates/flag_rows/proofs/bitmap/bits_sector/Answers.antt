use Rattle.std.proofs.Common.{◌≡◌, ℕ, List, [], ◌∷◌, ◌++◌, refl, sym, ◌∙◌, ap, arith}
use Rattle.std.proofs.lemmas.List.{take_more_set, take_all, length-set}
use Rattle.flag_rows.specs.Bitmap.{is_marked, bits_bytes}
use Rattle.flag_rows.proofs.Bitmaps.{bits_bytes_none, bits_bytes_more}
use Rattle.flag_rows.proofs.bitmap.bits_sector.Goals as goal

pub loop-at-init : goal.loop-at-init
loop-at-init c = record { size = refl; bits = sym (bits_bytes_none (is_marked c.args.marks.below c.args.marks.also) c.args.first) }

pub loop-at-preserved : goal.loop-at-preserved
loop-at-preserved c =
    let is_set = is_marked c.args.marks.below c.args.marks.also in
    let first = c.args.first in
    record {
      size = length-set c.loop-at.sector c.loop-at.at c.bits_byte.result ∙ c.loop-at.invariant.size;
      bits =
          take_more_set c.loop-at.sector c.loop-at.at c.bits_byte.result (omega (arith, c.loop-at.invariant.size, c.loop-at-test.true))
          ∙ ap (λ (l : List ℕ). l ++ c.bits_byte.result ∷ []) c.loop-at.invariant.bits
          ∙ ap (λ (n : ℕ). bits_bytes is_set first c.loop-at.at ++ n ∷ []) c.bits_byte.ensures
          ∙ sym (bits_bytes_more is_set first c.loop-at.at);
    }

pub returns : goal.returns
returns c =
    let all : c.loop-at.at ≡ 512 = omega (arith, c.loop-at-test.false, c.loop-at.auto.at-end) in
    sym (take_all c.loop-at.at c.loop-at.sector (omega (arith, all, c.loop-at.invariant.size)))
    ∙ c.loop-at.invariant.bits
    ∙ ap (bits_bytes (is_marked c.args.marks.below c.args.marks.also) c.args.first) all
