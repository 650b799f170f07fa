-- Bytes cut in parts of two.
use Rattle.std.proofs.Common.{◌≡◌, ℕ, zero, suc, add-zero, ◌+◌, ◌*◌, ◌<◌, List, get_or, take, drop, ◌∙◌, ap, arith}
use Rattle.std.proofs.lemmas.List.{drop-drop, get_or-take, get_or-drop}
use Rattle.std.specs.Simd.{first_chunks}
use Rattle.hx_bytes.specs.Field.{big_at}
use Rattle.btree_node.proofs.Places.{same_two}

-- the k-th of the parts of two bytes
part_at : (many : ℕ) (bytes : List ℕ) (k : ℕ) (d : List ℕ) → k < many → get_or (first_chunks 2 many bytes) k d ≡ take 2 (drop (k * 2) bytes)
part_at zero bytes k d low = absurd (omega (arith, low))
part_at (suc many) bytes zero d low = ap (λ m. take 2 (drop m bytes)) {x = 0} {y = 0 * 2} (omega arith)
part_at (suc many) bytes (suc k) d low =
    let place : 2 + k * 2 ≡ suc k * 2 = omega arith in
    part_at many (drop 2 bytes) k d (omega (arith, low)) ∙ ap (λ (l : List ℕ). take 2 l) (drop-drop (k * 2) 2 bytes ∙ ap (λ m. drop m bytes) place)

-- and its number
pub number_in : (many : ℕ) (bytes : List ℕ) (k : ℕ) (d : List ℕ) → k < many → big_at 2 (get_or (first_chunks 2 many bytes) k d) 0 ≡ big_at 2 bytes (2 * k)
number_in many bytes k d low =
    let each : (m : ℕ) → m < 2 → get_or (get_or (first_chunks 2 many bytes) k d) m 0 ≡ get_or bytes (2 * k + m) 0 =
    λ m small. ap (λ (l : List ℕ). get_or l m 0) (part_at many bytes k d low) ∙ get_or-take 2 (drop (k * 2) bytes) m 0 small ∙ get_or-drop (k * 2) bytes m 0 ∙ ap (λ n. get_or bytes n 0) (omega arith) in
    same_two bytes (get_or (first_chunks 2 many bytes) k d) (2 * k) 0 (each 0 (omega arith) ∙ ap (λ n. get_or bytes n 0) (add-zero (2 * k))) (each 1 (omega arith))
