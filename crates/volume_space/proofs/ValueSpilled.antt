-- A value in fresh blocks alone: what a spill into no file comes to.
use Rattle.std.proofs.Common.{◌≡◌, ◌<◌, ℕ, ◌+◌, max, zero, suc, List, [], ◌∷◌, ◌++◌, length, take, drop, refl, ◌∙◌, ap, arith}
use Rattle.std.proofs.Math.Nat.{div-le_self}
use Rattle.std.proofs.lemmas.List.{append-nil}
use Rattle.alloc_bitmap.specs.Map.{BlockMap}
use Rattle.file_io.specs.Bytes.{padded, written}
use Rattle.file_io.specs.Places.{first_block, given, middle, new_blocks}
use Rattle.fork_map.specs.Blocks.{blocks_of}
use Rattle.fork_map.specs.Cut.{back, front, join}
use Rattle.fork_map.proofs.Laws.{join-none}
use Rattle.hfs_volume.specs.Forks.{parts_for}
use Rattle.hx_bytes.specs.declared.extents.Extent.{Extent}
use Rattle.volume_space.proofs.PutNumbers.{parts_are}

-- no block stands before it, nor behind it
pub none_first : (block : ℕ) → first_block block 0 0 ≡ 0
none_first block = omega (arith, div-le_self 0 block)

-- a value takes as many blocks as it has parts
pub new_alone : (block n : ℕ) → 0 < block → new_blocks block 0 0 (0 + n) ≡ parts_for n block
new_alone block n some =
    let whole : new_blocks block 0 0 n ≡ parts_for n block = omega (arith, none_first block, parts_are n block some) in
    ap (λ k. new_blocks block 0 0 k) (from_start n) ∙ whole
  where
    from_start : (k : ℕ) → 0 + k ≡ k
    from_start k = omega arith

-- it reaches as far as it is long
pub long_alone : (n : ℕ) → n ≡ max 0 (0 + n)
long_alone n = omega arith

-- ---- blocks and bytes beside none

abbrev nothing : List ℕ
nothing = []

take_nothing : (k : ℕ) → take k nothing ≡ nothing
take_nothing zero = refl
take_nothing (suc k) = refl

drop_nothing : (k : ℕ) → drop k nothing ≡ nothing
drop_nothing zero = refl
drop_nothing (suc k) = refl

pub blocks_alone : (first last : ℕ) (none : List Extent) (middle : List ℕ) → none ≡ [] → take first (blocks_of none) ++ middle ++ drop last (blocks_of none) ≡ middle
blocks_alone first last none middle is =
    (λ i. take first (blocks_of (is i)) ++ middle ++ drop last (blocks_of (is i)))
    ∙ (λ i. take_nothing first i ++ middle ++ drop_nothing last i)
    ∙ append-nil middle

-- what is put into no file is its fresh extents alone
pub extents_alone : (first last : ℕ) (none middle : List Extent) → none ≡ [] → join (join (front first none) middle) (back last none) ≡ middle
extents_alone first last none middle is = (λ i. join (join (front first (is i)) middle) (back last (is i))) ∙ join-none middle

pub bytes_alone : (old value : List ℕ) → written (take 0 old) 0 value ≡ value
bytes_alone old value =
    ap (λ (l : List ℕ). take 0 (padded 0 l) ++ value ++ drop (0 + length value) l) (take_zero old)
    ∙ ap (λ (l : List ℕ). l ++ value ++ drop (0 + length value) nothing) (take_zero (padded 0 nothing))
    ∙ ap (λ (l : List ℕ). value ++ l) (drop_nothing (0 + length value))
    ∙ append-nil value
  where
    take_zero : (l : List ℕ) → take 0 l ≡ nothing
    take_zero [] = refl
    take_zero (x ∷ xs) = refl

pub map_alone : (first last : ℕ) (none : List Extent) (m : BlockMap) → none ≡ [] → given (middle first last none) m ≡ m
map_alone first last none m is = ap (λ (l : List Extent). given (middle first last l) m) is
