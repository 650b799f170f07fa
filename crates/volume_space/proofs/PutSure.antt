-- Extents whose blocks are used, and those that are apart.
use Rattle.std.proofs.Common.{◌≡◌, ◌⊎◌, inl, inr, ◌<◌, ◌≤◌, ℕ, zero, suc, ◌+◌, ◌-◌, ◌||◌, ◌&&◌, nat_le, Bool, true, false, List, [], ◌∷◌, ◌++◌, length, get_or, drop, refl, sym, ◌∙◌, ap, subst, arith, ⊎_elim}
use Rattle.std.specs.Prelude.{Contains, slice_index_or}
use Rattle.std.specs.List.{list_all, range_with_len}
use Rattle.std.proofs.lemmas.Bool.{and_parts, cases_lt, leb-true, true≢false}
use Rattle.std.proofs.lemmas.List.Elements.{Contains-append_cases}
use Rattle.hx_bytes.specs.declared.extents.Extent.{Extent}
use Rattle.flag_rows.specs.Marks.{Fit}
use Rattle.fork_map.specs.Blocks.{blocks_of}
use Rattle.alloc_bitmap.specs.Apart.{AreApart, times}
use Rattle.alloc_bitmap.specs.Map.{BlockMap, Have}
use Rattle.alloc_bitmap.proofs.ApartLaws.{times-append}
use Rattle.file_io.specs.Places.{AreUsed}
use Rattle.hfs_volume.proofs.BlockWants.{range_bounds}
use Rattle.hfs_volume.proofs.Members.{all_of}
use Rattle.volume_space.specs.Writing.{AreHad, are_apart, ends_before, is_apart_from}
use Rattle.volume_space.proofs.GrownRun.{blocks_one, run_apart}
use Rattle.volume_space.proofs.GrownStands.{there_or_none}

-- the list from one place on begins with what stands there
pub drop_here : (es : List Extent) (k : ℕ) (d : Extent) → k < length es → drop k es ≡ get_or es k d ∷ drop (k + 1) es
drop_here [] k d low = absurd (omega (arith, low))
drop_here (e ∷ es) zero d low = refl
drop_here (e ∷ es) (suc k) d low = drop_here es k d (omega (arith, low)) ∙ (let next : suc (k + 1) ≡ suc k + 1 = omega arith in ap (λ n. get_or es k d ∷ drop n (e ∷ es)) next)

pub none_left : (es : List Extent) (k : ℕ) → length es ≤ k → drop k es ≡ []
none_left [] zero past = refl
none_left [] (suc k) past = refl
none_left (e ∷ es) zero past = absurd (omega (arith, past))
none_left (e ∷ es) (suc k) past = none_left es k (omega (arith, past))

-- one more that is had
pub had_more : (blocks : BlockMap) (es : List Extent) (k : ℕ) (d : Extent) → k < length es → Have blocks.used (get_or es k d) true → (AreHad blocks (drop k es) → AreHad blocks es) → AreHad blocks (drop (k + 1) es) → AreHad blocks es
had_more blocks es k d low have so later = so (subst (λ (l : List Extent). AreHad blocks l) (sym (drop_here es k d low)) (have, later))

pub had_fit : (blocks : BlockMap) (es : List Extent) → AreHad blocks es → Fit (length blocks.used) es
had_fit blocks [] had = tt
had_fit blocks (e ∷ es) had = (had.0.inside, had_fit blocks es had.1)

in_had : (blocks : BlockMap) (es : List Extent) → AreHad blocks es → (k : ℕ) → Contains (blocks_of es) k → slice_index_or blocks.used k false ≡ true
in_had blocks [] had k has = absurd (omega (arith, has.1))
in_had blocks (e ∷ es) had k has = ⊎_elim
    (λ (here : Contains (range_with_len e.start e.count) k). let range = range_bounds e.start e.count k here in had.0.each k range.0 range.1)
    (λ (later : Contains (blocks_of es) k). in_had blocks es had.1 k later)
    (Contains-append_cases (range_with_len e.start e.count) (blocks_of es) k has)

pub had_used : (blocks : BlockMap) (es : List Extent) → AreHad blocks es → AreUsed blocks (blocks_of es)
had_used blocks es had = all_of (λ (k : ℕ). slice_index_or blocks.used k false ≡ true) (blocks_of es) (λ k has. in_had blocks es had k has)

-- one more that is apart
pub apart_more : (es : List Extent) (k : ℕ) (d : Extent) → k < length es → is_apart_from (get_or es k d) (drop (k + 1) es) ≡ true → are_apart (drop k es) ≡ are_apart es → are_apart (drop (k + 1) es) ≡ are_apart es
apart_more es k d low first so = sym (ap (λ b. b && are_apart (drop (k + 1) es)) first) ∙ sym (ap (λ (l : List Extent). are_apart l) (drop_here es k d low)) ∙ so

off_others : (e : Extent) (es : List Extent) → is_apart_from e es ≡ true → (k : ℕ) → Contains (range_with_len e.start e.count) k → Contains (blocks_of es) k → ⊥
off_others e [] apart k here there = omega (arith, there.1)
off_others e (o ∷ es) apart k here there =
    let parts = and_parts (ends_before o e || ends_before e o) (is_apart_from e es) apart in
    ⊎_elim
    (λ (in_it : Contains (range_with_len o.start o.count) k).
    let mine = range_bounds e.start e.count k here in
    let its = range_bounds o.start o.count k in_it in
    by mine its (ends_before o e) refl parts.0)
    (λ (later : Contains (blocks_of es) k). off_others e es parts.1 k here later)
    (Contains-append_cases (range_with_len o.start o.count) (blocks_of es) k there)
  where
    by : (e.start ≤ k) × (k < e.start + e.count) → (o.start ≤ k) × (k < o.start + o.count) → (b : Bool) → ends_before o e ≡ b → (ends_before o e || ends_before e o) ≡ true → ⊥
    by mine its true before either = omega (arith, mine, its, leb-true (o.start + o.count) e.start before)
    by mine its false before either = omega (arith, mine, its, leb-true (e.start + e.count) o.start (sym (ap (λ b. b || ends_before e o) before) ∙ either))

pub blocks_apart : (es : List Extent) → are_apart es ≡ true → AreApart (blocks_of es)
blocks_apart [] apart block = omega arith
blocks_apart (e ∷ es) apart block =
    let parts = and_parts (is_apart_from e es) (are_apart es) apart in
    let own : times block (range_with_len e.start e.count) ≤ 1 = subst (λ (l : List ℕ). times block l ≤ 1) (blocks_one e) (run_apart e block) in
    ⊎_elim
    (λ (here : Contains (range_with_len e.start e.count) block). ⊎_elim
    (λ (there : Contains (blocks_of es) block). absurd (off_others e es parts.0 block here there))
    (λ none. omega (arith, none, own, times-append block (range_with_len e.start e.count) (blocks_of es)))
    (there_or_none block (blocks_of es)))
    (λ none. omega (arith, none, blocks_apart es parts.1 block, times-append block (range_with_len e.start e.count) (blocks_of es)))
    (there_or_none block (range_with_len e.start e.count))
