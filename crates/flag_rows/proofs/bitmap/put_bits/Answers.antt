use Rattle.std.proofs.Common.{◌≡◌, ℕ, ◌+◌, ◌*◌, List, [], ◌∷◌, ◌++◌, sym, ◌∙◌, ap, rules}
use Rattle.std.proofs.lemmas.List.{append-nil, append_assoc}
use Rattle.flag_rows.specs.Bitmap.{is_marked, bits_byte, bits_bytes}
use Rattle.flag_rows.proofs.Bitmaps.{bits_bytes_none, bits_bytes_more}
use Rattle.flag_rows.proofs.bitmap.put_bits.Goals as goal

pub loop-at-init : goal.loop-at-init
loop-at-init c =
    sym (append-nil c.args.out.now.items)
    ∙ ap (λ (l : List ℕ). c.args.out.now.items ++ l) (sym (bits_bytes_none (is_marked c.args.marks.below c.args.marks.also) c.args.first))

pub loop-at-preserved : goal.loop-at-preserved
loop-at-preserved c =
    let is_set = is_marked c.args.marks.below c.args.marks.also in
    let place : c.from.result ≡ c.loop-at.at = c.from.ensures in
    let more : bits_bytes is_set c.args.first (c.loop-at.at + 1) ≡ bits_bytes is_set c.args.first c.loop-at.at ++ bits_byte is_set (c.args.first + 8 * c.loop-at.at) ∷ [] =
    bits_bytes_more is_set c.args.first c.loop-at.at in
    let pushed : c.push.new.self.items ≡ c.loop-at.out.items ++ c.bits_byte.result ∷ [] = search rules in
    pushed
    ∙ ap (λ (l : List ℕ). l ++ c.bits_byte.result ∷ []) c.loop-at.invariant
    ∙ ap (λ (n : ℕ). c.args.out.now.items ++ bits_bytes is_set c.args.first c.loop-at.at ++ n ∷ []) (c.bits_byte.ensures ∙ ap (λ (n : ℕ). bits_byte is_set (c.args.first + 8 * n)) place)
    ∙ append_assoc c.args.out.now.items (bits_bytes is_set c.args.first c.loop-at.at) (bits_byte is_set (c.args.first + 8 * c.loop-at.at) ∷ [])
    ∙ ap (λ (l : List ℕ). c.args.out.now.items ++ l) (sym more)
