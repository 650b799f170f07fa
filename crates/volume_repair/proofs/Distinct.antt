-- The sectors of a file of which no block has another use: each stands there once, so its place is found.
use Rattle.std.proofs.Common.{inl, inr, ◌≡◌, ◌≢◌, ◌<◌, ◌≤◌, ℕ, zero, suc, ◌+◌, ◌*◌, ◌/◌, ◌==◌, cond, Bool, true, false, List, [], ◌∷◌, sym, ◌∙◌, ap, subst, arith, ⊎_elim, if◌then◌else◌}
use Rattle.std.specs.Prelude.{Contains, Option, Some, None, slice_get}
use Rattle.std.specs.List.{flat_map, range_with_len}
use Rattle.std.proofs.lemmas.Bool.{eq-eqb, ne_eqb}
use Rattle.std.proofs.lemmas.Bool.Decides.{eqb_tells}
use Rattle.fork_map.specs.Blocks.{sectors_of}
use Rattle.flag_rows.specs.Bits.{has}
use Rattle.alloc_bitmap.specs.Apart.{times}
use Rattle.alloc_bitmap.proofs.ApartLaws.{times-append, times-cons, times_range}
use Rattle.btree_node.specs.MemLaws.{count_none}
use Rattle.hfs_volume.proofs.Members.{first_or_later}
use Rattle.hfs_volume.proofs.Sectors.{block_is}
use Rattle.hfs_volume.proofs.Apart.{stands_once}
use Rattle.volume_repair.specs.Repair.{place_from}
use Rattle.volume_repair.proofs.Slices.{stands_there}

-- ---- the place of a sector that stands once

pub place_there : (j : ℕ) (xs : List ℕ) (k at : ℕ) → slice_get xs k ≡ Some at → times at xs ≤ 1 → place_from j xs at ≡ Some (j + k)
place_there j [] k at found once = absurd (cc)
place_there j (s ∷ rest) zero at found once =
    ap (λ b. if b then Some j else place_from (j + 1) rest at) (eq-eqb s at (some_is s at found)) ∙ ap Some (let same : j ≡ j + zero = omega arith in same)
  where
    from : Option ℕ → ℕ
    from None = 0
    from (Some z) = z

    some_is : (x y : ℕ) → Some x ≡ Some y → x ≡ y
    some_is x y same = ap from same
place_there j (s ∷ rest) (suc k) at found once =
    ap (λ b. if b then Some j else place_from (j + 1) rest at) (ne_eqb s at differs)
    ∙ place_there (j + 1) rest k at found (omega (arith, once, split))
    ∙ ap Some (let next : j + 1 + k ≡ j + suc k = omega arith in next)
  where
    split : times at (s ∷ rest) ≡ cond (s == at) 1 0 + times at rest
    split = times-cons at s rest

    differs : s ≢ at
    differs same = omega (arith, once, split, ap {B = ℕ} (λ b. cond b 1 0) (eq-eqb s at same), stands_once at rest (stands_there rest k at found))

-- ---- how many times a sector stands in a file

at_most_one : (b : Bool) → (if b then 1 else 0) ≤ 1
at_most_one true = omega arith
at_most_one false = omega arith

pub sectors_once : (per : ℕ) (blocks : List ℕ) (at : ℕ) → 0 < per → times at (sectors_of per blocks) ≤ times (at / per) blocks
sectors_once per [] at some = omega arith
sectors_once per (block ∷ blocks) at some = omega (arith, times-append at (range_with_len (block * per) per) (sectors_of per blocks), times-cons (at / per) block blocks, sectors_once per blocks at some, here)
  where
    here : times at (range_with_len (block * per) per) ≤ cond (block == at / per) 1 0
    here = ⊎_elim
        (λ (same : (block == at / per ≡ true) × (block ≡ at / per)).
        subst (λ b. times at (range_with_len (block * per) per) ≤ cond b 1 0) (sym same.0)
        (omega (arith, times_range (record { start = block * per; count = per }) at, at_most_one (has (record { start = block * per; count = per }) at))))
        (λ (other : (block == at / per ≡ false) × (block ≢ at / per)).
        subst (λ b. times at (range_with_len (block * per) per) ≤ cond b 1 0) (sym other.0)
        (omega (arith, count_none (λ k. k == at) (block * per) per (λ k low high. ne_eqb k at (λ is. other.1 (sym (block_is per block at some (omega (arith, low, is)) (omega (arith, high, is)))))))))
        (eqb_tells block (at / per))

-- the pieces of one item among all pieces
pub piece_times : {X : Type 0} (f : X → List ℕ) (xs : List X) (x : X) (block : ℕ) → Contains xs x → times block (f x) ≤ times block (flat_map f xs)
piece_times f [] x block none = absurd (omega (arith, none.1))
piece_times f (y ∷ ys) x block stands = elim (first_or_later y x ys stands) [
  | inl first ↦ omega (arith, times-append block (f y) (flat_map f ys), ap (λ z. times block (f z)) first)
  | inr later ↦ omega (arith, times-append block (f y) (flat_map f ys), piece_times f ys x block later)
]
