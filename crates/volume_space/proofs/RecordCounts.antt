-- How many overflow records a fork has: one for each eight extents behind the first eight.
use Rattle.std.proofs.Common.{◌≡◌, ◌≢◌, ℕ, suc, ◌+◌, ◌-◌, ◌/◌, Bool, true, false, List, [], ◌∷◌, ◌++◌, length, map, refl, sym, ◌∙◌, ap, arith, length-append}
use Rattle.std.specs.Prelude.{◌≤◌, ◌==◌, not, if◌then◌else◌}
use Rattle.std.proofs.lemmas.Bool.{both_ways}
use Rattle.hx_bytes.specs.declared.extents.Extent.{Extent}
use Rattle.btree_node.specs.Levels.{Pair}
use Rattle.fork_map.specs.Blocks.{blocks_of}
use Rattle.hfs_volume.specs.Blocks.{GoOn}
use Rattle.hfs_volume.specs.Forks.{extents_id, in_use, is_full, parts_for}
use Rattle.hfs_volume.specs.Records.{Overflow, overflow_of}
use Rattle.hfs_volume.proofs.Members.{at_front}
use Rattle.hfs_volume.proofs.RecordExtents.{each_has}
use Rattle.overflow.specs.Reading.{HasExtents}
use Rattle.overflow.proofs.Pairs.{of_fork_in}
use Rattle.overflow.proofs.Whole.{HaveEight, goes_on_in, pairs_eight, used_by, whole_is}
use Rattle.volume_base.proofs.CutForks.{full_all}

-- ---- the records of a fork

few_in_use : (xs : List Extent) → length (in_use xs) ≤ length xs
few_in_use [] = omega arith
few_in_use (x ∷ xs) = by (x.count == 0) (few_in_use xs)
  where
    by : (b : Bool) → length (in_use xs) ≤ length xs → length ((if not b then x ∷ [] else []) ++ in_use xs) ≤ length (x ∷ xs)
    by true less = omega (arith, less)
    by false less = omega (arith, less)

counted_on : (place : ℕ) (full : Bool) (records : List Overflow) → HaveEight records → GoOn place full records → length records ≡ parts_for (length (used_by records)) 8
counted_on place full [] eight go = refl
counted_on place full (one ∷ []) eight go =
    let parts : parts_for (length (in_use one.extents ++ [])) 8 ≡ 1 =
    omega (arith, length-append (in_use one.extents) [], each_has place full (one ∷ []) go one (at_front one []), eight.0, few_in_use one.extents) in
    sym parts
counted_on place full (one ∷ next ∷ more) eight go =
    let rest = counted_on (place + length (blocks_of one.extents)) (is_full one.extents) (next ∷ more) eight.1 go.2 in
    let others : List Extent = used_by (next ∷ more) in
    let parts : parts_for (length (in_use one.extents ++ others)) 8 ≡ suc (parts_for (length others) 8) =
    omega (arith, length-append (in_use one.extents) others, ap (λ (l : List Extent). length l) (full_all one.extents go.2.1), eight.0) in
    ap suc rest ∙ sym parts

-- ---- those of a tree

-- they are counted by the extents
pub records_counted : (id kind : ℕ) (pairs : List Pair) (extents : List Extent) → id ≢ extents_id → HasExtents (map overflow_of pairs) id kind extents → length (of_fork_in id kind pairs) ≡ parts_for (length extents - 8) 8
records_counted id kind pairs extents other has = by_full (is_full has.fork.extents.extents) refl (goes_on_in (map overflow_of pairs) id kind has.fork other has.goes_on)
  where
    all_are : in_use has.fork.extents.extents ++ used_by (of_fork_in id kind pairs) ≡ extents
    all_are = sym (whole_is (map overflow_of pairs) id kind has.fork other) ∙ has.is

    none_there : (place : ℕ) (records : List Overflow) → GoOn place false records → records ≡ []
    none_there place [] go = refl
    none_there place (one ∷ more) go = absurd (both_ways false refl go.1)

    by_full : (b : Bool) → is_full has.fork.extents.extents ≡ b → GoOn (length (blocks_of has.fork.extents.extents)) b (of_fork_in id kind pairs) → length (of_fork_in id kind pairs) ≡ parts_for (length extents - 8) 8
    by_full true is on =
        let front : in_use has.fork.extents.extents ≡ has.fork.extents.extents = full_all has.fork.extents.extents is in
        let behind : List Extent = used_by (of_fork_in id kind pairs) in
        let many : length behind ≡ length extents - 8 =
        omega (arith, ap (λ (l : List Extent). length l) all_are, length-append (in_use has.fork.extents.extents) behind, ap (λ (l : List Extent). length l) front, has.eight) in
        counted_on (length (blocks_of has.fork.extents.extents)) true (of_fork_in id kind pairs) (pairs_eight id kind pairs) on ∙ ap (λ n. parts_for n 8) many
    by_full false is on =
        let none : of_fork_in id kind pairs ≡ [] = none_there (length (blocks_of has.fork.extents.extents)) (of_fork_in id kind pairs) on in
        let few : parts_for (length extents - 8) 8 ≡ 0 =
        omega (arith, ap (λ (l : List Extent). length l) all_are, length-append (in_use has.fork.extents.extents) (used_by (of_fork_in id kind pairs)), ap (λ (l : List Overflow). length (used_by l)) none, has.eight, few_in_use has.fork.extents.extents) in
        ap (λ (l : List Overflow). length l) none ∙ sym few
