use Rattle.std.proofs.Common.{◌≡◌, ◌<◌, ◌≤◌, ◌+◌, ℕ, ⊎_elim, List, length, replicate, refl, sym, ap, subst, ◌∙◌, arith, bit_or, slice_index_or}
use Rattle.std.proofs.lemmas.Bool.{cases_lt, eqb-true}
use Rattle.std.proofs.lemmas.Nat.{le_or_l, le_or_r}
use Rattle.std.proofs.lemmas.Grind.{same_number_lists}
use Rattle.std.proofs.lemmas.List.{get_or-replicate, length-replicate}
use Rattle.fsck_core.proofs.behind.is_blank.Goals as goal

pub loop-byte-preserved : goal.loop-byte-preserved
loop-byte-preserved c none k inside =
    let bits = c.loop-byte.bits in
    let byte = slice_index_or c.args.sector.now c.loop-byte.byte-index 0 in
    let before : bits ≡ 0 = omega (arith, none, le_or_l bits byte) in
    let now : byte ≡ 0 = omega (arith, none, le_or_r bits byte) in
    ⊎_elim (λ earlier. c.loop-byte.invariant before k earlier) (λ last. let is : k ≡ c.loop-byte.byte-index = omega (arith, inside, last) in ap (λ n. slice_index_or c.args.sector.now n 0) is ∙ now) (cases_lt k c.loop-byte.byte-index)

pub returns : goal.returns
returns c is =
    let none : c.loop-byte.bits ≡ 0 = eqb-true c.loop-byte.bits 0 is in
    let long : length c.args.sector.now ≡ 512 = c.told-sector in
    same_number_lists c.args.sector.now (zeros 512) (long ∙ sym (length-replicate {A = ℕ} 512 0)) (λ k inside.
    let within : k < 512 = omega (arith, inside, long) in
    c.loop-byte.invariant none k (omega (arith, within, c.loop-byte-test.false)) ∙ sym (get_or-replicate 512 k 0 0 within))
  where
    zeros : ℕ → List ℕ
    zeros n = replicate n 0
