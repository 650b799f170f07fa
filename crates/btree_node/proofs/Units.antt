-- Numbers of two bytes each, from a place on.
use Rattle.std.proofs.Common.{◌≡◌, ◌≢◌, ℕ, suc, ◌+◌, ◌*◌, ◌/◌, ◌<◌, ◌≤◌, List, [], ◌∷◌, length, drop, get_or, refl, sym, ◌∙◌, ap, arith, length-drop, true, false}
use Rattle.std.proofs.Math.Seq.{drop-cons}
use Rattle.std.specs.Cmp.Lexicographic.{slice_cmp}
use Rattle.std.specs.Ordering.{MatchOrdering, nat_cmp, ordering_then, is_ne}
use Rattle.std.specs.Prelude.{min}
use Rattle.std.specs.declared.cmp.Ordering.{Ordering}
use Rattle.std.specs.declared.cmp.Ordering.TheVariants.{Less, Equal, Greater}
use Rattle.hx_bytes.specs.Field.{big_at}
use Rattle.btree_node.specs.Keys.{units}
use Rattle.btree_node.proofs.Places.{two_bytes}

pub units_at : (bytes : List ℕ) (at : ℕ) → at + 2 ≤ length bytes → units (drop at bytes) ≡ big_at 2 bytes at ∷ units (drop (at + 2) bytes)
units_at bytes at within =
    let first : drop at bytes ≡ get_or bytes at 0 ∷ drop (suc at) bytes = drop-cons bytes at 0 (omega arith) in
    let second : drop (suc at) bytes ≡ get_or bytes (suc at) 0 ∷ drop (suc (suc at)) bytes = drop-cons bytes (suc at) 0 (omega arith) in
    let next : suc at ≡ at + 1 = omega arith in
    let after : suc (suc at) ≡ at + 2 = omega arith in
    let low : get_or bytes (suc at) 0 ≡ get_or bytes (at + 1) 0 = ap (λ k. get_or bytes k 0) next in
    let rest : drop (suc (suc at)) bytes ≡ drop (at + 2) bytes = ap (λ k. drop k bytes) after in
    let number : get_or bytes at 0 * 256 + get_or bytes (suc at) 0 ≡ big_at 2 bytes at = omega (arith, low, two_bytes bytes at) in
    ap units first
    ∙ ap (λ l. units (get_or bytes at 0 ∷ l)) second
    ∙ ap (λ x. x ∷ units (drop (suc (suc at)) bytes)) number
    ∙ ap (λ l. big_at 2 bytes at ∷ units l) rest

units_few : (xs : List ℕ) → length xs < 2 → units xs ≡ []
units_few [] short = refl
units_few (x ∷ []) short = refl
units_few (x ∷ y ∷ rest) short = absurd (omega arith)

pub units_end : (bytes : List ℕ) (at : ℕ) → length bytes < at + 2 → units (drop at bytes) ≡ []
units_end bytes at past = units_few (drop at bytes) (omega (arith, length-drop at bytes))

decided : (order rest : Ordering) → order ≢ Equal → order ≡ ordering_then order rest
decided Less rest differ = refl
decided Equal rest differ = absurd (differ refl)
decided Greater rest differ = refl

-- unlike units decide
pub units_differ : (a b : List ℕ) (at : ℕ) (order : Ordering) → at + 2 ≤ length a → at + 2 ≤ length b → order ≡ nat_cmp (big_at 2 a at) (big_at 2 b at) → order ≢ Equal
    → order ≡ slice_cmp nat_cmp (units (drop at a)) (units (drop at b))
units_differ a b at order first second is differ =
    decided order (slice_cmp nat_cmp (units (drop (at + 2) a)) (units (drop (at + 2) b))) differ
    ∙ ap (λ o. ordering_then o (slice_cmp nat_cmp (units (drop (at + 2) a)) (units (drop (at + 2) b)))) is
    ∙ sym (ap (λ l. slice_cmp nat_cmp l (units (drop at b))) (units_at a at first) ∙ ap (λ l. slice_cmp nat_cmp (big_at 2 a at ∷ units (drop (at + 2) a)) l) (units_at b at second))

-- equal units leave it to the rest
pub units_agree : (a b : List ℕ) (at : ℕ) (order : Ordering) → at + 2 ≤ length a → at + 2 ≤ length b → order ≡ nat_cmp (big_at 2 a at) (big_at 2 b at) → order ≡ Equal
    → slice_cmp nat_cmp (units (drop (at + 2) a)) (units (drop (at + 2) b)) ≡ slice_cmp nat_cmp (units (drop at a)) (units (drop at b))
units_agree a b at order first second is equal =
    ap (λ o. ordering_then o (slice_cmp nat_cmp (units (drop (at + 2) a)) (units (drop (at + 2) b)))) (sym equal ∙ is)
    ∙ sym (ap (λ l. slice_cmp nat_cmp l (units (drop at b))) (units_at a at first) ∙ ap (λ l. slice_cmp nat_cmp (big_at 2 a at ∷ units (drop (at + 2) a)) l) (units_at b at second))

-- where the second list ends first
pub units_longer : (a b : List ℕ) (at : ℕ) → at + 2 ≤ length a → length b < at + 2 → Greater ≡ slice_cmp nat_cmp (units (drop at a)) (units (drop at b))
units_longer a b at first second = sym (ap (λ l. slice_cmp nat_cmp l (units (drop at b))) (units_at a at first) ∙ ap (λ l. slice_cmp nat_cmp (big_at 2 a at ∷ units (drop (at + 2) a)) l) (units_end b at second))

pub units_shorter : (a b : List ℕ) (at : ℕ) → length a < at + 2 → at + 2 ≤ length b → Less ≡ slice_cmp nat_cmp (units (drop at a)) (units (drop at b))
units_shorter a b at first second = sym (ap (λ l. slice_cmp nat_cmp l (units (drop at b))) (units_end a at first) ∙ ap (λ l. slice_cmp nat_cmp [] l) (units_at b at second))

pub units_both : (a b : List ℕ) (at : ℕ) → length a < at + 2 → length b < at + 2 → Equal ≡ slice_cmp nat_cmp (units (drop at a)) (units (drop at b))
units_both a b at first second = sym (ap (λ l. slice_cmp nat_cmp l (units (drop at b))) (units_end a at first) ∙ ap (λ l. slice_cmp nat_cmp [] l) (units_end b at second))

-- behind the last units of the shorter list their numbers decide
pub units_last : (a b : List ℕ) (i : ℕ) (r : Ordering) → i ≤ length a / 2 → i ≤ length b / 2 → min (length a / 2) (length b / 2) ≤ i → MatchOrdering r (length a / 2 < length b / 2) (length a / 2 ≡ length b / 2) (length b / 2 < length a / 2)
    → r ≡ slice_cmp nat_cmp (units (drop (2 * i) a)) (units (drop (2 * i) b))
units_last a b i Less first second past h = let less : length a / 2 < length b / 2 = h in units_shorter a b (2 * i) (omega arith) (omega arith)
units_last a b i Equal first second past h = let same : length a / 2 ≡ length b / 2 = h in units_both a b (2 * i) (omega arith) (omega arith)
units_last a b i Greater first second past h = let more : length b / 2 < length a / 2 = h in units_longer a b (2 * i) (omega arith) (omega arith)

pub unlike : (order : Ordering) → is_ne order ≡ true → order ≢ Equal
unlike Less ne e = cc
unlike Equal ne e = cc
unlike Greater ne e = cc

pub alike : (order : Ordering) → is_ne order ≡ false → order ≡ Equal
alike Less ne = cc
alike Equal ne = refl
alike Greater ne = cc
