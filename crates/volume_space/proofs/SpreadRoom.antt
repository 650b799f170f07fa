-- A run behind a fork changes one of its overflow records or adds one: the room that storing it needs.
use Rattle.std.proofs.Common.{◌≡◌, ◌≢◌, ◌⊎◌, inl, inr, ◌≤◌, ℕ, zero, suc, ◌+◌, ◌-◌, ◌*◌, Bool, true, false, List, [], ◌∷◌, ◌++◌, length, map, take, drop, refl, sym, ◌∙◌, ap, subst, arith, ⊎_elim, length-append}
use Rattle.std.specs.Prelude.{◌==◌, IsTrue, not, if◌then◌else◌}
use Rattle.std.proofs.lemmas.Bool.{both_ways, cases_lt}
use Rattle.std.proofs.lemmas.List.{drop-drop, drop-take, length-drop, take_all, take-append-le}
use Rattle.hx_bytes.specs.declared.extents.Extent.{Extent}
use Rattle.btree_node.specs.Store.{Store}
use Rattle.btree_node.specs.Tree.{pairs_of}
use Rattle.btree_edit.specs.Edits.{EditRoom}
use Rattle.btree_edit.proofs.EditLaws.{room_first}
use Rattle.fork_map.specs.Blocks.{blocks_of}
use Rattle.fork_map.specs.Cut.{join, touch}
use Rattle.hfs_model.specs.Sorted.{kept}
use Rattle.hfs_volume.specs.Blocks.{GoOn}
use Rattle.hfs_volume.specs.Forks.{extents_id, in_use, is_full, is_of, parts_for}
use Rattle.hfs_volume.specs.Records.{Overflow, overflow_of}
use Rattle.overflow.specs.Changes.{changes_to, same_extents, same_list}
use Rattle.overflow.specs.Reading.{HasExtents, overflow_in_store}
use Rattle.overflow.specs.Records.{eight_at, record_of, records_for, records_from}
use Rattle.overflow.specs.Room.{HasStoreRoom, changes_for, edits_for}
use Rattle.overflow.specs.declared.changes.Change.{Change}
use Rattle.overflow.specs.declared.record.OverflowRecord.{OverflowRecord}
use Rattle.overflow.proofs.Cutting.{AreUsed, eight_full, eight_used}
use Rattle.overflow.proofs.Whole.{HaveEight, goes_on_in, pairs_eight, used_by, whole_is}
use Rattle.volume_base.proofs.CutForks.{full_all as full_used}
use Rattle.volume_base.proofs.CutLists.{extents_used}
use Rattle.volume_space.proofs.FewChanges.{a_part_more, at_same, counted, few_filled, in_use_few, one_part, past_eight, replaced, same_self}
use Rattle.volume_space.proofs.RecordCounts.{records_counted}
use Rattle.volume_space.proofs.GrownForks.{join_used}
use Rattle.volume_space.proofs.SpreadFile.{all_in_use}

-- ---- a run behind a list of extents

-- it is one extent more, or the last one goes on
abbrev pub IsJoined : List Extent → List Extent → Extent → Type 0
IsJoined list new run = (new ≡ list ++ run ∷ []) ⊎ ((take (length list - 1) new ≡ take (length list - 1) list) × (length new ≡ length list))

pub joined_so : (list : List Extent) (run : Extent) → IsJoined list (join list (run ∷ [])) run
joined_so [] run = inl refl
joined_so (e ∷ []) run = by (touch e run)
  where
    by : (b : Bool) → IsJoined (e ∷ []) (if b then record { start = e.start; count = e.count + run.count } ∷ [] else e ∷ run ∷ []) run
    by true = inr (refl, refl)
    by false = inl refl
joined_so (e ∷ next ∷ rest) run = ⊎_elim
    (λ more. inl (ap (λ l. e ∷ l) more))
    (λ goes. inr (
      subst (λ n. take n (e ∷ join (next ∷ rest) (run ∷ [])) ≡ take n (e ∷ next ∷ rest)) {x = suc (length (next ∷ rest) - 1)} {y = length (e ∷ next ∷ rest) - 1} (omega arith) (ap (λ l. e ∷ l) goes.0),
      omega (arith, goes.1),
    ))
    (joined_so (next ∷ rest) run)

-- ---- one extent more

module _ (list : List Extent) (last : Extent) (new : List Extent) (is : new ≡ list ++ last ∷ []) (used : AreUsed new) where
  long : length new ≡ length list + 1
  long = ap (λ (l : List Extent). length l) is ∙ length-append list (last ∷ [])

  same_front : (n : ℕ) → n ≤ length list → take n new ≡ take n list
  same_front n less = ap (take n) is ∙ take-append-le n list (last ∷ []) less

  starts_alike : (at place : ℕ) → at ≤ length list → place ≡ length (blocks_of (take at list)) → length (blocks_of (take at new)) ≡ place
  starts_alike at place less place_is = ap (λ (l : List Extent). length (blocks_of l)) (same_front at less) ∙ sym place_is

  -- eight that are full stay
  eight_stay : (at : ℕ) (one : Overflow) (rest : List Extent) → at + 8 ≤ length list → length one.extents ≡ 8 → in_use one.extents ≡ one.extents → drop at list ≡ in_use one.extents ++ rest → same_list one.extents (eight_at new at).extents ≡ true
  eight_stay at one rest less eight full behind_it = ap (same_list one.extents) (sym eights) ∙ same_self one.extents
    where
      eights : one.extents ≡ (eight_at new at).extents
      eights =
          sym full
          ∙ sym (take_all 8 (in_use one.extents) (omega (arith, eight, ap (λ (l : List Extent). length l) full)))
          ∙ sym (take-append-le 8 (in_use one.extents) rest (omega (arith, eight, ap (λ (l : List Extent). length l) full)))
          ∙ ap (take 8) (sym behind_it)
          ∙ sym (drop-take at 8 list)
          ∙ ap (drop at) (sym (same_front (at + 8) less))
          ∙ drop-take at 8 new
          ∙ sym (eight_used new at used)
          ∙ full_used (eight_at new at).extents (eight_full new at used (omega (arith, less, long)))

  one_wanted : (at : ℕ) → at + 1 ≡ length new → length (changes_to [] (records_from (parts_for (length new - at) 8) at new)) ≤ 1
  one_wanted at last_is = subst (λ n. length (changes_to [] (records_from n at new)) ≤ 1) (sym (one_part (length new - at) (omega (arith, last_is)) (omega (arith, last_is)))) (omega arith)

  one_replaced : (same : Bool) (first : OverflowRecord) → length (replaced same first ++ []) ≤ 1
  one_replaced true first = omega arith
  one_replaced false first = omega arith

  none_replaced : (same : Bool) (first : OverflowRecord) (later : List Change) → same ≡ true → length later ≤ 1 → length (replaced same first ++ later) ≤ 1
  none_replaced same first later same_is less = subst (λ b. length (replaced b first ++ later) ≤ 1) (sym same_is) less

  pub one_change : (records : List Overflow) (at place : ℕ) → HaveEight records → GoOn place true records → place ≡ length (blocks_of (take at list)) → drop at list ≡ used_by records → at ≤ length list
      → length (changes_to (map record_of records) (records_from (parts_for (length new - at) 8) at new)) ≤ 1
  one_change [] at place eight go place_is behind_it within =
      let ends : length list - at ≡ 0 = sym (length-drop at list) ∙ ap (λ (l : List Extent). length l) behind_it in
      one_wanted at (omega (arith, ends, within, long))
  one_change (one ∷ []) at place eight go place_is behind_it within =
      let first : OverflowRecord = record { start = length (blocks_of (take at new)); extents = eight_at new at } in
      let many : length list - at ≡ length (in_use one.extents) = omega (arith, length-drop at list, ap (λ (l : List Extent). length l) behind_it, length-append (in_use one.extents) []) in
      elim (cases_lt (length list) (at + 8)) [
        | inl room ↦
            subst (λ n. length (changes_to (map record_of (one ∷ [])) (records_from n at new)) ≤ 1) (sym (one_part (length new - at) (omega (arith, within, long)) (omega (arith, room, long))))
            (subst (λ (l : List Change). length l ≤ 1) (sym (at_same (record_of one) first [] [] (starts_alike at place within place_is ∙ sym go.0)))
            (one_replaced (same_extents (record_of one).extents first.extents) first))
        | inr filled ↦
            let all : length (in_use one.extents) ≡ 8 = omega (arith, many, filled, in_use_few one.extents, eight.0) in
            let full : in_use one.extents ≡ one.extents = all_used one.extents (omega (arith, all, eight.0)) in
            let ends : at + 8 ≡ length list = omega (arith, many, all, within) in
            subst (λ n. length (changes_to (map record_of (one ∷ [])) (records_from n at new)) ≤ 1) (sym (a_part_more (length new) at (omega (arith, within, long))))
            (subst (λ (l : List Change). length l ≤ 1) (sym (at_same (record_of one) first [] (records_from (parts_for (length new - (at + 8)) 8) (at + 8) new) (starts_alike at place within place_is ∙ sym go.0)))
            (none_replaced (same_extents (record_of one).extents first.extents) first (changes_to [] (records_from (parts_for (length new - (at + 8)) 8) (at + 8) new))
            (eight_stay at one [] (omega (arith, ends)) eight.0 full behind_it) (one_wanted (at + 8) (omega (arith, ends, long)))))
      ]
    where
      all_used : (xs : List Extent) → length xs ≤ length (in_use xs) → in_use xs ≡ xs
      all_used [] enough = refl
      all_used (x ∷ xs) enough = by (x.count == 0) (all_used xs) (in_use_few xs) enough
        where
          by : (b : Bool) → (length xs ≤ length (in_use xs) → in_use xs ≡ xs) → length (in_use xs) ≤ length xs → length (x ∷ xs) ≤ length ((if not b then x ∷ [] else []) ++ in_use xs) → (if not b then x ∷ [] else []) ++ in_use xs ≡ x ∷ xs
          by true rest less enough_here = absurd (omega (arith, less, enough_here))
          by false rest less enough_here = ap (λ l. x ∷ l) (rest (omega (arith, enough_here)))
  one_change (one ∷ next ∷ more) at place eight go place_is behind_it within =
      let full : in_use one.extents ≡ one.extents = full_used one.extents go.2.1 in
      let sum : length (drop at list) ≡ 8 + length (used_by (next ∷ more)) = ap (λ (l : List Extent). length l) behind_it ∙ length-append (in_use one.extents) (used_by (next ∷ more)) ∙ (λ i. length (full i) + length (used_by (next ∷ more))) ∙ (λ i. eight.0 i + length (used_by (next ∷ more))) in
      let enough : at + 8 ≤ length list = omega (arith, sum, length-drop at list) in
      let first : OverflowRecord = record { start = length (blocks_of (take at new)); extents = eight_at new at } in
      let later_list : drop (at + 8) list ≡ used_by (next ∷ more) = sym (drop-drop 8 at list) ∙ ap (drop 8) (behind_it ∙ ap (λ (l : List Extent). l ++ used_by (next ∷ more)) full) ∙ past_eight one.extents (used_by (next ∷ more)) eight.0 in
      subst (λ n. length (changes_to (map record_of (one ∷ next ∷ more)) (records_from n at new)) ≤ 1) (sym (a_part_more (length new) at (omega (arith, within, long))))
      (subst (λ (l : List Change). length l ≤ 1) (sym (at_same (record_of one) first (map record_of (next ∷ more)) (records_from (parts_for (length new - (at + 8)) 8) (at + 8) new) (starts_alike at place within place_is ∙ sym go.0)))
      (none_replaced (same_extents (record_of one).extents first.extents) first (changes_to (map record_of (next ∷ more)) (records_from (parts_for (length new - (at + 8)) 8) (at + 8) new))
      (eight_stay at one (used_by (next ∷ more)) enough eight.0 full behind_it)
      (one_change (next ∷ more) (at + 8) (place + length (blocks_of one.extents)) eight.1 (subst (λ b. GoOn (place + length (blocks_of one.extents)) b (next ∷ more)) go.2.1 go.2)
      (counted list one.extents (used_by (next ∷ more)) at place eight.0 place_is (behind_it ∙ ap (λ (l : List Extent). l ++ used_by (next ∷ more)) full)) later_list enough)))

-- ---- the room

module _ (store : Store) (id kind : ℕ) (other : id ≢ extents_id) (list : List Extent) (has : HasExtents (overflow_in_store store) id kind list) (run : Extent) (some : run.count ≢ 0) where
  used : AreUsed list
  used = subst AreUsed has.is (extents_used (overflow_in_store store) id kind has.fork)

  abbrev new : List Extent
  new = join list (run ∷ [])

  now_used : AreUsed (join list (run ∷ []))
  now_used = join_used list run used some

  abbrev records : List Overflow
  records = kept (is_of id kind) (map overflow_of (pairs_of store))

  abbrev front : List Extent
  front = has.fork.extents.extents

  whole : list ≡ in_use has.fork.extents.extents ++ used_by (kept (is_of id kind) (map overflow_of (pairs_of store)))
  whole = sym has.is ∙ whole_is (overflow_in_store store) id kind has.fork other

  go : GoOn (length (blocks_of has.fork.extents.extents)) (is_full has.fork.extents.extents) (kept (is_of id kind) (map overflow_of (pairs_of store)))
  go = goes_on_in (overflow_in_store store) id kind has.fork other has.goes_on

  -- what is said of the changes behind a full record, and behind one that isn't
  by_front : (P : List OverflowRecord → Type 0) → (is_full has.fork.extents.extents ≡ true → (at place : ℕ) → at ≡ 8 → place ≡ length (blocks_of has.fork.extents.extents) → place ≡ length (blocks_of (take 8 list)) → drop 8 list ≡ used_by records → 8 ≤ length list → P (map record_of records))
      → (records ≡ [] → length list ≤ 8 → P []) → P (map record_of records)
  by_front P filled room = by (is_full has.fork.extents.extents) refl
    where
      by : (b : Bool) → is_full has.fork.extents.extents ≡ b → P (map record_of records)
      by true full =
          let front_is : in_use front ≡ front = full_used front full in
          let whole_now : list ≡ front ++ used_by records = whole ∙ ap (λ (l : List Extent). l ++ used_by records) front_is in
          filled full 8 (length (blocks_of front)) refl refl
          (ap (λ (l : List Extent). length (blocks_of l)) (sym (ap (take 8) whole_now ∙ take-append-le 8 front (used_by records) (omega (arith, has.eight)) ∙ take_all 8 front (omega (arith, has.eight)))))
          (ap (drop 8) whole_now ∙ past_eight front (used_by records) has.eight)
          (omega (arith, ap (λ (l : List Extent). length l) whole_now, length-append front (used_by records), has.eight))
      by false full =
          let none : records ≡ [] = no_records (length (blocks_of front)) records (subst (λ b. GoOn (length (blocks_of front)) b records) full go) in
          subst (λ (l : List Overflow). P (map record_of l)) (sym none)
          (room none (omega (arith, ap (λ (l : List Extent). length l) (whole ∙ ap (λ (l : List Overflow). in_use front ++ used_by l) none), length-append (in_use front) [], in_use_few front, has.eight)))
        where
          no_records : (place : ℕ) (more : List Overflow) → GoOn place false more → more ≡ []
          no_records place [] on = refl
          no_records place (one ∷ more) on = absurd (both_ways false refl on.1)

  -- one extent more is one change
  one_edit : join list (run ∷ []) ≡ list ++ run ∷ [] → length (changes_to (map record_of records) (records_for new)) ≤ 1
  one_edit is = by_front (λ (l : List OverflowRecord). length (changes_to l (records_for new)) ≤ 1)
      (λ full at place at_is place_is before behind_it least.
      one_change list run new is now_used records 8 (length (blocks_of front)) (pairs_eight id kind (pairs_of store)) (subst (λ b. GoOn (length (blocks_of front)) b records) full go) (sym place_is ∙ before) behind_it least)
      (λ none short. few_inserted (parts_for (length new - 8) 8) (let more = ap (λ (l : List Extent). length l) is ∙ length-append list (run ∷ []) in omega (arith, short, more)))
    where
      few_inserted : (n : ℕ) → n ≤ 1 → length (changes_to [] (records_from n 8 new)) ≤ 1
      few_inserted zero less = omega arith
      few_inserted (suc zero) less = omega arith
      few_inserted (suc (suc n)) less = absurd (omega (arith, less))

  -- they are counted by the extents
  filled : length records ≡ parts_for (length list - 8) 8
  filled = records_counted id kind (pairs_of store) list other has

  -- and so is a longer last one
  longer_edit : take (length list - 1) new ≡ take (length list - 1) list → length new ≡ length list → length (changes_to (map record_of records) (records_for new)) ≤ 1
  longer_edit same long_is = by_front (λ (l : List OverflowRecord). length (changes_to l (records_for new)) ≤ 1)
      (λ full at place at_is place_is before behind_it least.
      (few_filled list new now_used same (omega (arith, long_is)) (omega (arith, long_is)) records 8 (length (blocks_of front)) (pairs_eight id kind (pairs_of store)) (subst (λ b. GoOn (length (blocks_of front)) b records) full go) (sym place_is ∙ before) behind_it least long_is filled).1)
      (λ none short. let no_part : parts_for (length new - 8) 8 ≡ 0 = omega (arith, short, long_is) in subst (λ n. length (changes_to [] (records_from n 8 new)) ≤ 1) (sym no_part) (omega arith))

  -- of the list itself, each of whose extents has blocks
  abbrev changes_on : List Extent → List Change
  changes_on l = changes_to (map record_of records) (records_for l)

  used_on : (P : List Change → Type 0) → P (changes_on new) → P (changes_for store id kind (join list (run ∷ [])))
  used_on P here = subst (λ (l : List Extent). P (changes_on l)) (sym (all_in_use new now_used)) here

  -- a run behind the list is one edit
  pub run_edit : edits_for store id kind (join list (run ∷ [])) ≤ 1
  run_edit = used_on (λ cs. length cs ≤ 1) (⊎_elim (λ more. one_edit more) (λ goes. longer_edit goes.0 goes.1) (joined_so list run))

  pub room_for_run : IsTrue store.tells → EditRoom 1 10 store → HasStoreRoom store id kind (join list (run ∷ []))
  room_for_run tells one =
      let sum : 1 ≡ edits_for store id kind (join list (run ∷ [])) + (1 - edits_for store id kind (join list (run ∷ []))) = omega (arith, run_edit) in
      inl (room_first (edits_for store id kind (join list (run ∷ []))) (1 - edits_for store id kind (join list (run ∷ []))) 10 store (λ told. subst (λ n. EditRoom n 10 store) sum one) tells)
