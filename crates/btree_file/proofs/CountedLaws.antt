-- The sectors of a fork that lie in one block, from one of them on.
use Rattle.std.proofs.Common.{◌≡◌, ◌+◌, ◌*◌, ◌/◌, ◌%◌, ◌<◌, ◌≤◌, ℕ, List, Some, slice_get, sym, ◌∙◌, ap, arith}
use Rattle.std.proofs.lemmas.Nat.{div-mul-add, div-add-mod'}
use Rattle.std.specs.Option.{option_map}
use Rattle.fork_map.specs.Blocks.{sectors_of}
use Rattle.fork_map.proofs.Laws.{sector_at_place}

-- two places with so few between them have one block
in_block : (p n k : ℕ) → n % p + k < p → (n + k) / p ≡ n / p
in_block p n k low =
    let split : n / p * p + n % p ≡ n = div-add-mod' n p in
    let is : n + k ≡ n / p * p + (n % p + k) = omega (arith, split) in
    ap (λ m. m / p) is ∙ div-mul-add (n / p) p (n % p + k) low

past_first : (p n k : ℕ) → n % p + k < p → (n + k) % p ≡ n % p + k
past_first p n k low =
    let one : n / p * p + n % p ≡ n = div-add-mod' n p in
    let two : (n + k) / p * p + (n + k) % p ≡ n + k = div-add-mod' (n + k) p in
    let same : (n + k) / p * p ≡ n / p * p = ap (λ q. q * p) (in_block p n k low) in
    omega (arith, one, two, same)

-- places of one block have sectors that stand one behind the other
pub follow_first : (p : ℕ) (bs : List ℕ) (n many block : ℕ) → 0 < p → n % p + many ≤ p → Some block ≡ slice_get bs (n / p)
    → (k : ℕ) → k < many → slice_get (sectors_of p bs) (n + k) ≡ Some ((block * p + n % p) + k)
follow_first p bs n many block some within there k low =
    let same : (n + k) / p ≡ n / p = in_block p n k (omega (arith, within, low)) in
    let rest : (n + k) % p ≡ n % p + k = past_first p n k (omega (arith, within, low)) in
    sector_at_place p bs (n + k) some
    ∙ ap (λ q. option_map (λ b. b * p + (n + k) % p) (slice_get bs q)) same
    ∙ ap (λ o. option_map (λ b. b * p + (n + k) % p) o) (sym there)
    ∙ ap (λ s. Some s) (omega (arith, rest))
