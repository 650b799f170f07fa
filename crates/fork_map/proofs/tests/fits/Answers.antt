use Rattle.std.proofs.Common.{◌≡◌, ◌≤◌, ◌<◌, ◌+◌, ◌-◌, ◌^◌, ◌⊎◌, ◌++◌, ℕ, suc, List, [], ◌∷◌, length, get_or, arith, subst, sym, ◌∙◌, ap, ⊎_elim, length-append}
use Rattle.std.specs.List.{All, range_with_len}
use Rattle.std.proofs.lemmas.Bool.{cases_lt}
use Rattle.std.proofs.lemmas.List.{get_or_append_left, get_or-append_right}
use Rattle.std.proofs.lemmas.List.FromFn.{length-range_with_len, get_or-range_with_len}
use Rattle.hx_bytes.specs.declared.extents.Extent.{Extent}
use Rattle.fork_map.specs.Blocks.{blocks_of, AreNumbers}
use Rattle.fork_map.proofs.tests.fits.Goals as goal

numbers_from_ends : (es : List Extent) → All (λ (e : Extent). e.start + e.count ≤ 2 ^ 32) es → AreNumbers (blocks_of es)
numbers_from_ends [] ends = λ k d lt. absurd (omega arith)
numbers_from_ends (e ∷ es) ends = λ k d lt.
    let long = length-range_with_len e.start e.count in
    let here : e.start + e.count ≤ 2 ^ 32 = ends 0 e (omega arith) in
    ⊎_elim
    (λ inside. subst (λ b. b < 2 ^ 32) (sym (get_or_append_left (range_with_len e.start e.count) (blocks_of es) d k (omega (arith, inside, long)) ∙ get_or-range_with_len e.start e.count k d inside)) (omega (arith, inside, here)))
    (λ past. subst (λ b. b < 2 ^ 32) (sym (get_or-append_right (range_with_len e.start e.count) (blocks_of es) e.count k d long past))
    (numbers_from_ends es (λ j f below. ends (suc j) f (omega (arith, below))) (k - e.count) d (omega (arith, lt, past, long, length-append (range_with_len e.start e.count) (blocks_of es)))))
    (cases_lt k e.count)

pub returns : goal.returns
returns c = λ truth. subst (λ (l : List Extent). AreNumbers (blocks_of l)) c.as_slice.ensures (numbers_from_ends c.as_slice.result.now (c.ends_fit.ensures truth))
