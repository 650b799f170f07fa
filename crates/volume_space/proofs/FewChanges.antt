-- A cut of a fork's last extent changes at most two of its overflow records and adds none: the last one that has extents, and one without any behind it.
use Rattle.std.proofs.Common.{◌≡◌, inl, inr, ◌<◌, ◌≤◌, ℕ, suc, ◌+◌, ◌-◌, ◌*◌, ◌==◌, ◌&&◌, Bool, true, false, List, [], ◌∷◌, ◌++◌, length, map, take, drop, refl, sym, ◌∙◌, ap, subst, arith, length-append}
use Rattle.std.specs.Prelude.{not, if◌then◌else◌}
use Rattle.std.specs.List.{range_with_len}
use Rattle.std.proofs.lemmas.Grind.{flat_map-append}
use Rattle.std.proofs.lemmas.Bool.{cases_lt, eq-eqb, le-ltb}
use Rattle.std.proofs.lemmas.List.{drop-drop, drop-take, length-drop, take_all, take-append-drop, take-append-le, take-take}
use Rattle.hx_bytes.specs.declared.extents.Extent.{Extent}
use Rattle.fork_map.specs.Blocks.{blocks_of}
use Rattle.hfs_volume.specs.Blocks.{GoOn}
use Rattle.hfs_volume.specs.Forks.{in_use, is_full, parts_for}
use Rattle.hfs_volume.specs.Records.{Overflow}
use Rattle.hfs_volume.proofs.Seeing.{same_number}
use Rattle.overflow.specs.Changes.{are_light, behind_front, change_at, changes_to, front_before, past, same_extents, same_list}
use Rattle.overflow.specs.Records.{eight_at, record_of, records_from}
use Rattle.overflow.specs.declared.changes.Change.{Change}
use Rattle.overflow.specs.declared.changes.Change.TheVariants.{Remove, Insert, Replace}
use Rattle.overflow.specs.declared.record.OverflowRecord.{OverflowRecord}
use Rattle.overflow.proofs.Cutting.{AreUsed, eight_full, eight_used}
use Rattle.overflow.proofs.Whole.{HaveEight, used_by}
use Rattle.volume_base.proofs.CutForks.{full_all as full_used}

-- changes that put no record where none was, so many at most
abbrev pub AreFew : ℕ → List Change → Type 0
AreFew most changes = (are_light changes ≡ true) × (length changes ≤ most)

pub same_self : (xs : List Extent) → same_list xs xs ≡ true
same_self [] = refl
same_self (x ∷ xs) = (λ i. (same_number x.start i && (x.count == x.count)) && same_list xs xs) ∙ (λ i. same_number x.count i && same_list xs xs) ∙ same_self xs

-- ---- changes of single records

-- a record in whose place one is wanted
abbrev pub replaced : Bool → OverflowRecord → List Change
replaced same first = if same then [] else Replace first ∷ []

pub at_same : (one first : OverflowRecord) (more wanted : List OverflowRecord) → first.start ≡ one.start
    → changes_to (one ∷ more) (first ∷ wanted) ≡ replaced (same_extents one.extents first.extents) first ++ changes_to more wanted
at_same one first more wanted same =
    ap (λ b. map Insert (if b then first ∷ front_before one.start wanted else []) ++ (change_at one (if b then behind_front one.start wanted else first ∷ wanted) ++ changes_to more (past one.start (if b then behind_front one.start wanted else first ∷ wanted))))
    (le-ltb first.start one.start (omega (arith, same)))
    ∙ ap (λ b. (if b then replaced (same_extents one.extents first.extents) first else Remove one.start ∷ []) ++ changes_to more (if b then wanted else first ∷ wanted)) (eq-eqb first.start one.start same)

all_removed : (records : List Overflow) → AreFew (length records) (changes_to (map record_of records) [])
all_removed [] = (refl, omega arith)
all_removed (one ∷ more) = let later = all_removed more in (later.0, omega (arith, later.1))

-- one change more at most
one_more : (most : ℕ) (same : Bool) (first : OverflowRecord) (later : List Change) → AreFew most later → AreFew (suc most) (replaced same first ++ later)
one_more most true first later few = (few.0, omega (arith, few.1))
one_more most false first later few = (few.0, omega (arith, few.1))

none_more : (most : ℕ) (same : Bool) (first : OverflowRecord) (later : List Change) → same ≡ true → AreFew most later → AreFew most (replaced same first ++ later)
none_more most same first later is few = subst (λ b. AreFew most (replaced b first ++ later)) (sym is) few

-- ---- records that go on

pub in_use_few : (xs : List Extent) → length (in_use xs) ≤ length xs
in_use_few [] = omega arith
in_use_few (x ∷ xs) = by (x.count == 0) (in_use_few xs)
  where
    by : (b : Bool) → length (in_use xs) ≤ length xs → length ((if not b then x ∷ [] else []) ++ in_use xs) ≤ length (x ∷ xs)
    by true less = omega (arith, less)
    by false less = omega (arith, less)

-- all but the last are full
records_long : (place : ℕ) (full : Bool) (records : List Overflow) → HaveEight records → GoOn place full records → 8 * length records ≤ 8 + length (used_by records)
records_long place full [] eight go = omega arith
records_long place full (one ∷ []) eight go = omega arith
records_long place full (one ∷ next ∷ more) eight go =
    let rest = records_long (place + length (blocks_of one.extents)) (is_full one.extents) (next ∷ more) eight.1 go.2 in
    let here = full_used one.extents go.2.1 in
    omega (arith, rest, eight.0, ap (λ (l : List Extent). length l) here, length-append (in_use one.extents) (used_by (next ∷ more)))

no_parts : (n : ℕ) → n ≡ 0 → parts_for n 8 ≡ 0
no_parts n none = omega (arith, none)

pub one_part : (n : ℕ) → 0 < n → n ≤ 8 → parts_for n 8 ≡ suc 0
one_part n some most = omega (arith, some, most)

pub a_part_more : (n at : ℕ) → at < n → parts_for (n - at) 8 ≡ suc (parts_for (n - (at + 8)) 8)
a_part_more n at less = omega (arith, less)

drop_front : (xs ys : List Extent) → drop (length xs) (xs ++ ys) ≡ ys
drop_front [] ys = refl
drop_front (x ∷ xs) ys = drop_front xs ys

pub past_eight : (xs ys : List Extent) → length xs ≡ 8 → drop 8 (xs ++ ys) ≡ ys
past_eight xs ys eight = ap (λ n. drop n (xs ++ ys)) (sym eight) ∙ drop_front xs ys

pub blocks_both : (xs ys : List Extent) → length (blocks_of (xs ++ ys)) ≡ length (blocks_of xs) + length (blocks_of ys)
blocks_both xs ys = ap (λ (l : List ℕ). length l) (flat_map-append (λ (extent : Extent). range_with_len extent.start extent.count) xs ys) ∙ length-append (blocks_of xs) (blocks_of ys)

-- so many blocks lie before the record behind one
pub counted : (list eight rest : List Extent) (at place : ℕ) → length eight ≡ 8 → place ≡ length (blocks_of (take at list)) → drop at list ≡ eight ++ rest → place + length (blocks_of eight) ≡ length (blocks_of (take (at + 8) list))
counted list eight rest at place long is behind_it =
    (λ i. is i + length (blocks_of eight)) ∙ sym (blocks_both (take at list) eight) ∙ ap (λ (l : List Extent). length (blocks_of l)) (sym split)
  where
    split : take (at + 8) list ≡ take at list ++ eight
    split =
        sym (take-append-drop at (take (at + 8) list))
        ∙ (λ i. take-take at (at + 8) list (omega arith) i ++ drop-take at 8 list i)
        ∙ ap (λ (l : List Extent). take at list ++ take 8 l) behind_it
        ∙ ap (λ (l : List Extent). take at list ++ l) (take-append-le 8 eight rest (omega (arith, long)) ∙ take_all 8 eight (omega (arith, long)))

module _ (list new : List Extent) (used : AreUsed new) (same : take (length list - 1) new ≡ take (length list - 1) list) (least : length list ≤ length new + 1) (most : length new ≤ length list) where
  same_front : (n : ℕ) → n + 1 ≤ length list → take n new ≡ take n list
  same_front n less =
      sym (take-take n (length list - 1) new (omega (arith, less)))
      ∙ ap (take n) same
      ∙ take-take n (length list - 1) list (omega (arith, less))

  abbrev wanted_at : ℕ → List OverflowRecord
  wanted_at at = records_from (parts_for (length new - at) 8) at new

  -- nothing is wanted behind the end
  none_wanted : (at : ℕ) → length new ≤ at → records_from (parts_for (length new - at) 8) at new ≡ []
  none_wanted at past_it = ap (λ n. records_from n at new) (no_parts (length new - at) (omega (arith, past_it)))

  starts_alike : (at place : ℕ) → at + 1 ≤ length list → place ≡ length (blocks_of (take at list)) → length (blocks_of (take at new)) ≡ place
  starts_alike at place less is = ap (λ (l : List Extent). length (blocks_of l)) (same_front at less) ∙ sym is

  -- eight that are full and stay
  eight_stay : (at : ℕ) (one : Overflow) (rest : List Extent) → at + 9 ≤ length list → length one.extents ≡ 8 → in_use one.extents ≡ one.extents → drop at list ≡ in_use one.extents ++ rest → same_list one.extents (eight_at new at).extents ≡ true
  eight_stay at one rest less eight full is = ap (same_list one.extents) (sym eights) ∙ same_self one.extents
    where
      long : at + 8 ≤ length new
      long = omega (arith, less, least)

      eights : one.extents ≡ (eight_at new at).extents
      eights =
          sym full
          ∙ sym (take_all 8 (in_use one.extents) (omega (arith, eight, ap (λ (l : List Extent). length l) full)))
          ∙ sym (take-append-le 8 (in_use one.extents) rest (omega (arith, eight, ap (λ (l : List Extent). length l) full)))
          ∙ ap (take 8) (sym is)
          ∙ sym (drop-take at 8 list)
          ∙ ap (drop at) (sym (same_front (at + 8) (omega (arith, less))))
          ∙ drop-take at 8 new
          ∙ sym (eight_used new at used)
          ∙ full_used (eight_at new at).extents (eight_full new at used long)

  -- one at most where each record has an extent in use: the last one is changed, or goes
  pub few_kept : (records : List Overflow) (at place : ℕ) → HaveEight records → GoOn place true records → place ≡ length (blocks_of (take at list)) → drop at list ≡ used_by records → at ≤ length list → length records ≡ parts_for (length list - at) 8
      → AreFew 1 (changes_to (map record_of records) (records_from (parts_for (length new - at) 8) at new))
  few_kept [] at place eight go is behind_it within filled =
      let ends : length list - at ≡ 0 = sym (length-drop at list) ∙ ap (λ (l : List Extent). length l) behind_it in
      subst (λ (l : List OverflowRecord). AreFew 1 (changes_to [] l)) (sym (none_wanted at (omega (arith, most, ends, within)))) (refl, omega arith)
  few_kept (one ∷ []) at place eight go is behind_it within filled = elim (cases_lt at (length new)) [
    | inl inside ↦
        let short : length list - at ≤ 8 = omega (arith, length-drop at list, ap (λ (l : List Extent). length l) behind_it, length-append (in_use one.extents) [], in_use_few one.extents, eight.0) in
        let parts : parts_for (length new - at) 8 ≡ suc 0 = one_part (length new - at) (omega (arith, inside)) (omega (arith, short, most)) in
        let first : OverflowRecord = record { start = length (blocks_of (take at new)); extents = eight_at new at } in
        subst (λ n. AreFew 1 (changes_to (map record_of (one ∷ [])) (records_from n at new))) (sym parts)
        (subst (AreFew 1) (sym (at_same (record_of one) first [] [] (starts_alike at place (omega (arith, inside, most)) is ∙ sym go.0)))
        (one_more 0 (same_extents (record_of one).extents first.extents) first [] (refl, omega arith)))
    | inr beyond ↦
        let removed = all_removed (one ∷ []) in
        subst (λ (l : List OverflowRecord). AreFew 1 (changes_to (map record_of (one ∷ [])) l)) (sym (none_wanted at beyond)) (removed.0, omega (arith, removed.1))
  ]
  few_kept (one ∷ next ∷ more) at place eight go is behind_it within filled =
      let full : in_use one.extents ≡ one.extents = full_used one.extents go.2.1 in
      let long : length (drop at list) ≡ 8 + length (used_by (next ∷ more)) = ap (λ (l : List Extent). length l) behind_it ∙ length-append (in_use one.extents) (used_by (next ∷ more)) ∙ (λ i. length (full i) + length (used_by (next ∷ more))) ∙ (λ i. eight.0 i + length (used_by (next ∷ more))) in
      let enough : at + 8 ≤ length list = omega (arith, long, length-drop at list) in
      let first : OverflowRecord = record { start = length (blocks_of (take at new)); extents = eight_at new at } in
      let inside : at < length new = omega (arith, enough, least) in
      let parts : parts_for (length list - at) 8 ≡ suc (parts_for (length list - (at + 8)) 8) = a_part_more (length list) at (omega (arith, enough)) in
      let later_list : drop (at + 8) list ≡ used_by (next ∷ more) = sym (drop-drop 8 at list) ∙ ap (drop 8) (behind_it ∙ ap (λ (l : List Extent). l ++ used_by (next ∷ more)) full) ∙ past_eight one.extents (used_by (next ∷ more)) eight.0 in
      subst (λ n. AreFew 1 (changes_to (map record_of (one ∷ next ∷ more)) (records_from n at new))) (sym (a_part_more (length new) at inside))
      (subst (AreFew 1) (sym (at_same (record_of one) first (map record_of (next ∷ more)) (records_from (parts_for (length new - (at + 8)) 8) (at + 8) new) (starts_alike at place (omega (arith, enough)) is ∙ sym go.0)))
      (elim (cases_lt (at + 8) (length list)) [
        | inl stays ↦ none_more 1 (same_extents (record_of one).extents first.extents) first (changes_to (map record_of (next ∷ more)) (records_from (parts_for (length new - (at + 8)) 8) (at + 8) new))
            (eight_stay at one (used_by (next ∷ more)) (omega (arith, stays)) eight.0 full behind_it)
            (few_kept (next ∷ more) (at + 8) (place + length (blocks_of one.extents)) eight.1 (subst (λ b. GoOn (place + length (blocks_of one.extents)) b (next ∷ more)) go.2.1 go.2) (counted list one.extents (used_by (next ∷ more)) at place eight.0 is (behind_it ∙ ap (λ (l : List Extent). l ++ used_by (next ∷ more)) full)) later_list enough (omega (arith, filled, parts)))
        | inr ends ↦ absurd (omega (arith, filled, parts, no_parts (length list - (at + 8)) (omega (arith, ends))))
      ]))

  -- one at most where each record has an extent in use: the last one that has extents
  pub few_filled : (records : List Overflow) (at place : ℕ) → HaveEight records → GoOn place true records → place ≡ length (blocks_of (take at list)) → drop at list ≡ used_by records → at ≤ length list → length new ≡ length list → length records ≡ parts_for (length list - at) 8
      → AreFew 1 (changes_to (map record_of records) (records_from (parts_for (length new - at) 8) at new))
  few_filled [] at place eight go is behind_it within long filled =
      let ends : length list - at ≡ 0 = sym (length-drop at list) ∙ ap (λ (l : List Extent). length l) behind_it in
      subst (λ (l : List OverflowRecord). AreFew 1 (changes_to [] l)) (sym (none_wanted at (omega (arith, most, ends, within)))) (refl, omega arith)
  few_filled (one ∷ []) at place eight go is behind_it within long filled =
      let parts : parts_for (length new - at) 8 ≡ suc 0 = ap (λ n. parts_for (n - at) 8) long ∙ sym filled in
      let inside : at < length new = elim (cases_lt at (length new)) [
        | inl less ↦ less
        | inr past_it ↦ absurd (omega (arith, parts, no_parts (length new - at) (omega (arith, past_it))))
      ] in
      let first : OverflowRecord = record { start = length (blocks_of (take at new)); extents = eight_at new at } in
      subst (λ n. AreFew 1 (changes_to (map record_of (one ∷ [])) (records_from n at new))) (sym parts)
      (subst (AreFew 1) (sym (at_same (record_of one) first [] [] (starts_alike at place (omega (arith, inside, most)) is ∙ sym go.0)))
      (one_more 0 (same_extents (record_of one).extents first.extents) first [] (refl, omega arith)))
  few_filled (one ∷ next ∷ more) at place eight go is behind_it within long filled =
      let full : in_use one.extents ≡ one.extents = full_used one.extents go.2.1 in
      let sum : length (drop at list) ≡ 8 + length (used_by (next ∷ more)) = ap (λ (l : List Extent). length l) behind_it ∙ length-append (in_use one.extents) (used_by (next ∷ more)) ∙ (λ i. length (full i) + length (used_by (next ∷ more))) ∙ (λ i. eight.0 i + length (used_by (next ∷ more))) in
      let enough : at + 8 ≤ length list = omega (arith, sum, length-drop at list) in
      let first : OverflowRecord = record { start = length (blocks_of (take at new)); extents = eight_at new at } in
      let inside : at < length new = omega (arith, enough, least) in
      let parts : parts_for (length list - at) 8 ≡ suc (parts_for (length list - (at + 8)) 8) = a_part_more (length list) at (omega (arith, enough)) in
      let later_list : drop (at + 8) list ≡ used_by (next ∷ more) = sym (drop-drop 8 at list) ∙ ap (drop 8) (behind_it ∙ ap (λ (l : List Extent). l ++ used_by (next ∷ more)) full) ∙ past_eight one.extents (used_by (next ∷ more)) eight.0 in
      subst (λ n. AreFew 1 (changes_to (map record_of (one ∷ next ∷ more)) (records_from n at new))) (sym (a_part_more (length new) at inside))
      (subst (AreFew 1) (sym (at_same (record_of one) first (map record_of (next ∷ more)) (records_from (parts_for (length new - (at + 8)) 8) (at + 8) new) (starts_alike at place (omega (arith, enough)) is ∙ sym go.0)))
      (elim (cases_lt (at + 8) (length list)) [
        | inl stays ↦ none_more 1 (same_extents (record_of one).extents first.extents) first (changes_to (map record_of (next ∷ more)) (records_from (parts_for (length new - (at + 8)) 8) (at + 8) new))
            (eight_stay at one (used_by (next ∷ more)) (omega (arith, stays)) eight.0 full behind_it)
            (few_filled (next ∷ more) (at + 8) (place + length (blocks_of one.extents)) eight.1 (subst (λ b. GoOn (place + length (blocks_of one.extents)) b (next ∷ more)) go.2.1 go.2) (counted list one.extents (used_by (next ∷ more)) at place eight.0 is (behind_it ∙ ap (λ (l : List Extent). l ++ used_by (next ∷ more)) full)) later_list enough long
            (omega (arith, filled, parts)))
        | inr ends ↦ absurd (omega (arith, filled, parts, no_parts (length list - (at + 8)) (omega (arith, ends))))
      ]))
