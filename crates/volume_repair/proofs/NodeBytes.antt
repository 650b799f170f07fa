-- The nodes of a content of bytes are bytes.
use Rattle.std.proofs.Common.{◌<◌, ℕ, zero, suc, ◌-◌, ◌*◌, ◌/◌, nat_lt, Bool, true, false, List, [], ◌∷◌, ◌++◌, length, take, drop, replicate, sym, subst, arith, ⊎_elim, if◌then◌else◌}
use Rattle.std.proofs.lemmas.Bool.{cases_lt}
use Rattle.std.proofs.lemmas.List.{get_or-take, get_or_past, length-take}
use Rattle.hx_bytes.specs.Field.{AreBytes}
use Rattle.jnl_format.specs.Recovery.{Content, sector}
use Rattle.hfs_model.specs.Step.{padded}
use Rattle.hfs_volume.specs.Content.{block_sector, block_bytes, node_of_fork}
use Rattle.hfs_volume.specs.Findings.{HasBytes}

are_take : (n : ℕ) (bytes : List ℕ) → AreBytes bytes → AreBytes (take n bytes)
are_take n bytes are k = ⊎_elim
    (λ (inside : k < n). subst (λ b. b < 256) (sym (get_or-take n bytes k 0 inside)) (are k))
    (λ past. subst (λ b. b < 256) (sym (get_or_past (take n bytes) k 0 (omega (arith, past, length-take n bytes)))) (omega arith))
    (cases_lt k n)

are_append : (front rest : List ℕ) → AreBytes front → AreBytes rest → AreBytes (front ++ rest)
are_append [] rest are_front are_rest k = are_rest k
are_append (byte ∷ front) rest are_front are_rest zero = are_front 0
are_append (byte ∷ front) rest are_front are_rest (suc k) = are_append front rest (λ i. are_front (suc i)) are_rest k

are_zeros : (n : ℕ) → AreBytes (replicate n 0)
are_zeros zero k = omega arith
are_zeros (suc n) zero = omega arith
are_zeros (suc n) (suc k) = are_zeros n k

block_are : (content : Content) (limit : ℕ) (at : ℕ) → HasBytes content → AreBytes (block_sector content limit at)
unfolding block_sector
block_are content limit at bytes = by (nat_lt at limit)
  where
    by : (b : Bool) → AreBytes (if b then take 512 (padded 512 (sector content at)) else replicate 512 0)
    by true = are_take 512 (padded 512 (sector content at)) (are_append (sector content at) (replicate (512 - length (sector content at)) 0) (bytes at) (are_zeros (512 - length (sector content at))))
    by false = are_zeros 512

blocks_are : (content : Content) (limit : ℕ) (sectors : List ℕ) → HasBytes content → AreBytes (block_bytes content limit sectors)
unfolding block_bytes
blocks_are content limit [] bytes k = omega arith
blocks_are content limit (at ∷ rest) bytes k = are_append (block_sector content limit at) (block_bytes content limit rest) (block_are content limit at bytes) (blocks_are content limit rest bytes) k

pub node_are : (content : Content) (limit : ℕ) (sectors : List ℕ) (size n : ℕ) → HasBytes content → AreBytes (node_of_fork content limit sectors size n)
unfolding node_of_fork
node_are content limit sectors size n bytes =
    let part = take (size / 512) (drop (n * (size / 512)) sectors) in
    are_append (block_bytes content limit part) (replicate (size - length (block_bytes content limit part)) 0) (blocks_are content limit part bytes) (are_zeros (size - length (block_bytes content limit part)))
