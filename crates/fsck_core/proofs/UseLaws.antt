-- Blocks that are marked, and those that stand twice.
use Rattle.std.proofs.Common.{◌≡◌, ◌↔◌, ◌<◌, ◌≤◌, ℕ, ◌+◌, Bool, true, false, ◌==◌, List, [], ◌++◌, length, replicate, take, drop, get_or, inl, refl, sym, ◌∙◌, ap, subst, arith, ⊎_elim, T}
use Rattle.std.specs.Prelude.{Contains, IsTrue}
use Rattle.std.specs.List.{range_with_len}
use Rattle.std.proofs.lemmas.Bool.{eqb-true}
use Rattle.std.proofs.lemmas.List.{length-replicate, get_or-replicate, take-append-drop}
use Rattle.std.proofs.lemmas.List.FromFn.{fill_by_all}
use Rattle.std.proofs.lemmas.List.Concat.{flat_map-append}
use Rattle.std.proofs.lemmas.List.Folds.{list_any_at}
use Rattle.flag_rows.specs.Bits.{has}
use Rattle.hx_bytes.specs.declared.extents.Extent.{Extent}
use Rattle.fork_map.specs.Blocks.{blocks_of}
use Rattle.alloc_bitmap.specs.Apart.{times, AreApart}
use Rattle.alloc_bitmap.proofs.ApartLaws.{times-append, times_range}
use Rattle.fsck_list.specs.declared.finding.Finding.{Finding}
use Rattle.hfs_volume.specs.Content.{VolumeState}
use Rattle.hfs_volume.specs.Blocks.{is_among, used_in}
use Rattle.hfs_volume.specs.Broken.{bit}
use Rattle.hfs_volume.proofs.EntryWants.{none_or_one}
use Rattle.fsck_core.specs.Flags.{AreUsed}
use Rattle.fsck_core.specs.Uses.{HasMarked}
use Rattle.fsck_core.proofs.JudgedLaws.{flat_more}

-- ---- counts

pub not_seen : (block : ℕ) (front : List ℕ) → is_among front block ≡ false → times block front ≡ 0
not_seen block front absent = ⊎_elim
    (λ (none : times block front ≡ 0). none)
    (λ (one : (x : ℕ) × Contains front x × (x == block ≡ true)).
    absurd (subst T (sym (list_any_at (λ other. other == block) front one.1.0 one.0 one.1.1 (ap (λ x. x == block) one.1.2 ∙ one.2)) ∙ absent) tt))
    (none_or_one (λ other. other == block) front)

pub stands_once : (block : ℕ) (all : List ℕ) → 1 ≤ times block all → Contains all block
stands_once block all some = ⊎_elim
    (λ (none : times block all ≡ 0). absurd (omega (arith, none, some)))
    (λ (one : (x : ℕ) × Contains all x × (x == block ≡ true)). subst (λ n. Contains all n) (eqb-true one.0 block one.2) one.1)
    (none_or_one (λ other. other == block) all)

-- ---- all extents

pub none_marked_yet : (total : ℕ) (all : List ℕ) (first : List Finding) → HasMarked total all [] first (replicate total false) first true
none_marked_yet total all first = record {
  long = length-replicate {A = Bool} total false;
  marks = λ k inside. get_or-replicate total k false false inside;
  once = λ is k. omega arith;
  twice = λ is. absurd (subst T is tt);
  found = λ is. absurd (subst T is tt);
  each = λ f stands. inl stands;
}

blocks_in : Extent → List ℕ
blocks_in extent = range_with_len extent.start extent.count

pub front_fits : (extents : List Extent) (i : ℕ) (none : Extent) → i < length extents → (x : ℕ)
    → times x (blocks_of (take i extents)) + times x (range_with_len (get_or extents i none).start (get_or extents i none).count) ≤ times x (blocks_of extents)
front_fits extents i none inside x =
    let e : Extent = get_or extents i none in
    let split : blocks_of extents ≡ blocks_of (take (i + 1) extents) ++ blocks_of (drop (i + 1) extents) =
    ap blocks_of (sym (take-append-drop (i + 1) extents)) ∙ flat_map-append (λ (extent : Extent). range_with_len extent.start extent.count) (take (i + 1) extents) (drop (i + 1) extents) in
    let more : blocks_of (take (i + 1) extents) ≡ blocks_of (take i extents) ++ range_with_len e.start e.count = flat_more (λ (extent : Extent). range_with_len extent.start extent.count) extents i none inside in
    omega (
      arith,
      ap (times x) split,
      times-append x (blocks_of (take (i + 1) extents)) (blocks_of (drop (i + 1) extents)),
      ap (times x) more,
      times-append x (blocks_of (take i extents)) (range_with_len e.start e.count),
    )

pub extents_more : (extents : List Extent) (i : ℕ) (none : Extent) → i < length extents
    → blocks_of (take i extents) ++ range_with_len (get_or extents i none).start (get_or extents i none).count ≡ blocks_of (take (i + 1) extents)
extents_more extents i none inside = sym (flat_more (λ (extent : Extent). range_with_len extent.start extent.count) extents i none inside)

pub uses_tell : (total : ℕ) (all : List ℕ) (first : List Finding) (used : List Bool) (out : List Finding) (met : Bool) → HasMarked total all all first used out met → IsTrue met ↔ AreApart all
uses_tell total all first used out true marked = (λ is. marked.once refl, λ apart. refl)
uses_tell total all first used out false marked = (λ is. absurd (subst T (sym is) tt), λ apart. let many = marked.twice refl in absurd (omega (arith, many.1, apart many.0)))

pub uses_marked : (volume : VolumeState) (first : List Finding) (used : List Bool) (out : List Finding) (met : Bool) → HasMarked volume.head.total_blocks (used_in volume) (used_in volume) first used out met → AreUsed volume used
uses_marked volume first used out met marked = fill_by_all (is_among (used_in volume)) used volume.head.total_blocks false marked.long marked.marks

-- ---- counting

pub bit_few : (b : Bool) → bit b ≤ 1
bit_few true = omega arith
bit_few false = omega arith

pub count_one : (extents : List Extent) (i : ℕ) (none : Extent) (block : ℕ) → i < length extents → times block (blocks_of (take (i + 1) extents)) ≡ times block (blocks_of (take i extents)) + bit (has (get_or extents i none) block)
count_one extents i none block inside =
    let e : Extent = get_or extents i none in
    ap (times block) (sym (extents_more extents i none inside)) ∙ times-append block (blocks_of (take i extents)) (range_with_len e.start e.count) ∙ ap (λ n. times block (blocks_of (take i extents)) + n) (times_range e block)
