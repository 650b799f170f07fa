-- The sectors of a file in a node of its tree: the j-th is the j-th slice of its bytes. And where a sector stands in a list.
use Rattle.std.proofs.Common.{◌≡◌, ◌≢◌, ◌<◌, ◌≤◌, ℕ, zero, suc, ◌+◌, ◌-◌, ◌*◌, ◌/◌, ◌%◌, ◌==◌, nat_lt, Bool, true, false, List, [], ◌∷◌, ◌++◌, length, take, drop, replicate, refl, sym, ◌∙◌, ap, subst, arith, ⊎_elim, if◌then◌else◌}
use Rattle.std.specs.Prelude.{Option, Some, None, slice_get, Contains}
use Rattle.std.proofs.lemmas.Bool.Decides.{eqb_tells, leb_tells}
use Rattle.std.proofs.lemmas.List.{append_assoc, append-nil, drop-drop, length-append, length-drop, length-take, length-replicate, take-append-drop, take_all}
use Rattle.std.proofs.lemmas.Option.{slice_get_within, get_or_from_slice_get}
use Rattle.std.proofs.Math.Nat.{div-add-mod, mod-lt, mul_comm}
use Rattle.std.proofs.Math.Seq.{take-append_seam, drop-append-add}
use Rattle.jnl_format.specs.Recovery.{Content, sector}
use Rattle.hfs_model.specs.Step.{padded}
use Rattle.hfs_volume.specs.Content.{block_sector, block_bytes, node_of_fork}
use Rattle.volume_repair.specs.Repair.{place_from}

-- ---- places

some_is : (x y : ℕ) → Some x ≡ Some y → x ≡ y
some_is x y same = ap from same
  where
    from : Option ℕ → ℕ
    from None = 0
    from (Some z) = z

none_or_some : {X : Type 0} (x : ℕ) → None ≡ Some x → X
none_or_some x same = absurd (cc)

-- the place that was found has the sector
pub place_found : (k : ℕ) (xs : List ℕ) (at n : ℕ) → place_from k xs at ≡ Some n → (k ≤ n) × (slice_get xs (n - k) ≡ Some at)
place_found k [] at n is = none_or_some n is
place_found k (s ∷ rest) at n is = ⊎_elim
    (λ (same : (s == at ≡ true) × (s ≡ at)).
    let here : k ≡ n = some_is k n (ap (λ b. if b then Some k else place_from (k + 1) rest at) (sym same.0) ∙ is) in
    (omega (arith, here), ap (slice_get (s ∷ rest)) (let none : n - k ≡ 0 = omega (arith, here) in none) ∙ ap Some same.1))
    (λ (other : (s == at ≡ false) × (s ≢ at)).
    let later = place_found (k + 1) rest at n (ap (λ b. if b then Some k else place_from (k + 1) rest at) (sym other.0) ∙ is) in
    (omega (arith, later.0), ap (slice_get (s ∷ rest)) (let next : n - k ≡ suc (n - (k + 1)) = omega (arith, later.0) in next) ∙ later.1))
    (eqb_tells s at)

pub stands_there : (xs : List ℕ) (k at : ℕ) → slice_get xs k ≡ Some at → Contains xs at
stands_there xs k at found = (k, slice_get_within xs k at found, get_or_from_slice_get xs k at at found)

pub dropped_get : (m k : ℕ) (xs : List ℕ) → slice_get (drop m xs) k ≡ slice_get xs (m + k)
dropped_get zero k xs = ap (λ n. slice_get xs n) (let none : k ≡ zero + k = omega arith in none)
dropped_get (suc m) k [] = refl
dropped_get (suc m) k (x ∷ xs) = dropped_get m k xs ∙ ap (λ n. slice_get (x ∷ xs) n) (let next : suc (m + k) ≡ suc m + k = omega arith in next)

pub taken_get : (m k : ℕ) (xs : List ℕ) → k < m → slice_get (take m xs) k ≡ slice_get xs k
taken_get zero k xs below = absurd (omega (arith, below))
taken_get (suc m) k [] below = refl
taken_get (suc m) zero (x ∷ xs) below = refl
taken_get (suc m) (suc k) (x ∷ xs) below = taken_get m k xs (omega (arith, below))

-- ---- bytes of sectors

long_padded : (n : ℕ) (bytes : List ℕ) → n ≤ length (padded n bytes)
long_padded n bytes = omega (arith, length-append bytes (replicate (n - length bytes) 0), length-replicate {A = ℕ} (n - length bytes) 0)

-- a sector has 512 bytes, whatever the content
pub long_sector : (content : Content) (limit at : ℕ) → length (block_sector content limit at) ≡ 512
unfolding block_sector
long_sector content limit at = cases (nat_lt at limit)
  where
    cases : (b : Bool) → length (if b then take 512 (padded 512 (sector content at)) else replicate 512 0) ≡ 512
    cases true = omega (arith, length-take 512 (padded 512 (sector content at)), long_padded 512 (sector content at))
    cases false = length-replicate {A = ℕ} 512 0

-- a sector of 512 bytes in a block
pub whole_sector : (content : Content) (limit at : ℕ) → at < limit → length (sector content at) ≡ 512 → block_sector content limit at ≡ sector content at
unfolding block_sector
whole_sector content limit at below long = ⊎_elim
    (λ (inside : (nat_lt at limit ≡ true) × (suc at ≤ limit)). ap (λ b. if b then take 512 (padded 512 (sector content at)) else replicate 512 0) inside.0 ∙ whole (sector content at) long)
    (λ (past : (nat_lt at limit ≡ false) × (limit < suc at)). absurd (omega (arith, past.1, below)))
    (leb_tells (suc at) limit)
  where
    whole : (bytes : List ℕ) → length bytes ≡ 512 → take 512 (padded 512 bytes) ≡ bytes
    whole bytes size = ap (λ n. take 512 (bytes ++ replicate n 0)) (let none : 512 - length bytes ≡ 0 = omega (arith, size) in none) ∙ ap (take 512) (append-nil bytes) ∙ take_all 512 bytes (omega (arith, size))

front_piece : (first rest : List ℕ) → length first ≡ 512 → take 512 (first ++ rest) ≡ first
front_piece first rest long = subst (λ n. take n (first ++ rest) ≡ first) long (take-append_seam first rest)

past_piece : (first rest : List ℕ) (n : ℕ) → length first ≡ 512 → drop (512 + n) (first ++ rest) ≡ drop n rest
past_piece first rest n long = subst (λ m. drop (m + n) (first ++ rest) ≡ drop n rest) long (drop-append-add first rest n)

-- the bytes of sectors, cut at one of them
pub piece : (content : Content) (limit : ℕ) (sectors tail : List ℕ) (j at : ℕ) → slice_get sectors j ≡ Some at → take 512 (drop (512 * j) (block_bytes content limit sectors ++ tail)) ≡ block_sector content limit at
unfolding block_bytes
piece content limit [] tail j at found = none_or_some at found
piece content limit (s ∷ rest) tail zero at found =
    ap (take 512) (append_assoc (block_sector content limit s) (block_bytes content limit rest) tail)
    ∙ front_piece (block_sector content limit s) (block_bytes content limit rest ++ tail) (long_sector content limit s)
    ∙ ap (block_sector content limit) (some_is s at found)
piece content limit (s ∷ rest) tail (suc j) at found =
    ap (λ n. take 512 (drop n (block_bytes content limit (s ∷ rest) ++ tail))) (let next : 512 * suc j ≡ 512 + 512 * j = omega arith in next)
    ∙ ap (λ l. take 512 (drop (512 + 512 * j) l)) (append_assoc (block_sector content limit s) (block_bytes content limit rest) tail)
    ∙ ap (take 512) (past_piece (block_sector content limit s) (block_bytes content limit rest ++ tail) (512 * j) (long_sector content limit s))
    ∙ piece content limit rest tail j at found

-- sector k of a file is its slice of the node that it belongs to
pub slice_of_node : (content : Content) (limit : ℕ) (sectors : List ℕ) (size k at : ℕ) → 0 < size / 512 → slice_get sectors k ≡ Some at
    → take 512 (drop (512 * (k % (size / 512))) (node_of_fork content limit sectors size (k / (size / 512)))) ≡ block_sector content limit at
unfolding node_of_fork
slice_of_node content limit sectors size k at some found =
    let per : ℕ = size / 512 in
    let part : List ℕ = take per (drop (k / per * per) sectors) in
    piece content limit part (replicate (size - length (block_bytes content limit part)) 0) (k % per) at
    (taken_get per (k % per) (drop (k / per * per) sectors) (mod-lt k some) ∙ dropped_get (k / per * per) (k % per) sectors
    ∙ ap (slice_get sectors) (let whole : k / per * per + k % per ≡ k = omega (arith, div-add-mod k per, mul_comm (k / per) per) in whole) ∙ found)

pub length_bytes : (content : Content) (limit : ℕ) (sectors : List ℕ) → length (block_bytes content limit sectors) ≡ 512 * length sectors
unfolding block_bytes
length_bytes content limit [] = refl
length_bytes content limit (at ∷ rest) = omega (arith, length-append (block_sector content limit at) (block_bytes content limit rest), long_sector content limit at, length_bytes content limit rest)

-- a node has its size
pub length_node : (content : Content) (limit : ℕ) (sectors : List ℕ) (size n : ℕ) → size ≡ 512 * (size / 512) → length (node_of_fork content limit sectors size n) ≡ size
unfolding node_of_fork
length_node content limit sectors size n whole =
    let part : List ℕ = take (size / 512) (drop (n * (size / 512)) sectors) in
    omega (arith, whole, length-append (block_bytes content limit part) (replicate (size - length (block_bytes content limit part)) 0), length-replicate {A = ℕ} (size - length (block_bytes content limit part)) 0, length_bytes content limit part, length-take (size / 512) (drop (n * (size / 512)) sectors))

-- bytes whose slices are sectors are those sectors, one after the other
pub joined : (content : Content) (limit : ℕ) (sectors bytes : List ℕ) → length bytes ≡ 512 * length sectors
    → ((r at : ℕ) → slice_get sectors r ≡ Some at → block_sector content limit at ≡ take 512 (drop (512 * r) bytes)) → block_bytes content limit sectors ≡ bytes
unfolding block_bytes
joined content limit [] bytes long same = sym (none_left bytes long)
  where
    none_left : (l : List ℕ) → length l ≡ 512 * 0 → l ≡ []
    none_left [] is = refl
    none_left (x ∷ l) is = absurd (omega (arith, is))
joined content limit (at ∷ rest) bytes long same =
    (λ i. same 0 at refl i ++ joined content limit rest (drop 512 bytes) (omega (arith, long, length-drop 512 bytes)) later i) ∙ take-append-drop 512 bytes
  where
    later : (r s : ℕ) → slice_get rest r ≡ Some s → block_sector content limit s ≡ take 512 (drop (512 * r) (drop 512 bytes))
    later r s found =
        same (suc r) s found
        ∙ ap (λ n. take 512 (drop n bytes)) (let next : 512 * suc r ≡ 512 + 512 * r = omega arith in next)
        ∙ ap (take 512) (sym (drop-drop (512 * r) 512 bytes))
