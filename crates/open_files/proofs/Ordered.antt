-- A table's handles stay in order, and the first of a session is its least.
use Rattle.std.proofs.Common.{◌≡◌, ◌≤◌, ℕ, Bool, true, false, List, [], ◌∷◌, ◌++◌, refl, sym, subst, arith}
use Rattle.std.proofs.lemmas.Option.{same_Some}
use Rattle.std.specs.Prelude.{◌==◌, find, Option, Some, None, IfSome, if◌then◌else◌}
use Rattle.std.specs.List.{AllByRecursion, list_all}
use Rattle.std.proofs.lemmas.Bool.{and_from, and_parts, or_parts}
use Rattle.hfs_model.specs.Sorted.{IsInOrder, kept, put_before}
use Rattle.open_files.specs.declared.act.OpenFile.{OpenFile}
use Rattle.open_files.specs.Handles.{first_handle, handle_in, is_handle, is_open}
use Rattle.open_files.specs.Order.{IsLeast, are_in_order, handle_before}

-- ---- the order, as a test and as facts

abbrev AreInOrder : List OpenFile → Type 0
AreInOrder handles = IsInOrder handle_before handles

each_passes : (test : OpenFile → Bool) (handles : List OpenFile) → list_all test handles ≡ true → AllByRecursion (λ x. test x ≡ true) handles
each_passes test [] all = tt
each_passes test (next ∷ rest) all = let parts = and_parts (test next) (list_all test rest) all in (parts.0, each_passes test rest parts.1)

all_pass : (test : OpenFile → Bool) (handles : List OpenFile) → AllByRecursion (λ x. test x ≡ true) handles → list_all test handles ≡ true
all_pass test [] each = refl
all_pass test (next ∷ rest) each = and_from (test next) (list_all test rest) each.0 (all_pass test rest each.1)

facts_of : (handles : List OpenFile) → are_in_order handles ≡ true → AreInOrder handles
facts_of [] is = tt
facts_of (next ∷ rest) is = let parts = and_parts (list_all (handle_before next) rest) (are_in_order rest) is in (each_passes (handle_before next) rest parts.0, facts_of rest parts.1)

tested : (handles : List OpenFile) → AreInOrder handles → are_in_order handles ≡ true
tested [] order = refl
tested (next ∷ rest) order = and_from (list_all (handle_before next) rest) (are_in_order rest) (all_pass (handle_before next) rest order.0) (tested rest order.1)

before_trans : (a b c : OpenFile) → handle_before a b ≡ true → handle_before b c ≡ true → handle_before a c ≡ true
before_trans a b c first second = grind (arith, first, second)

-- another handle stands before or behind
before_other : (opened other : OpenFile) → is_handle opened.session opened.handle other ≡ false → handle_before opened other ≡ false → handle_before other opened ≡ true
before_other opened other differs later = grind (arith, differs, later)

-- one of the same session that stands behind is greater
behind_greater : (a b : OpenFile) (session : ℕ) → (a.session == session) ≡ true → handle_before a b ≡ true → b.session ≡ session → a.handle ≤ b.handle
behind_greater a b session is before same = grind (arith, is, before, same)

-- ---- one more, and one less

all_before : (opened next : OpenFile) (rest : List OpenFile) → handle_before opened next ≡ true → AllByRecursion (λ later. handle_before next later ≡ true) rest → AllByRecursion (λ later. handle_before opened later ≡ true) rest
all_before opened next [] first each = tt
all_before opened next (later ∷ rest) first each = (before_trans opened next later first each.0, all_before opened next rest first each.1)

all_put : (P : OpenFile → Type 0) (opened : OpenFile) (rest : List OpenFile) → P opened → AllByRecursion P rest → AllByRecursion P (put_before handle_before opened rest)
all_put P opened [] new each = (new, tt)
all_put P opened (next ∷ rest) new each = put_cases (handle_before opened next) (all_put P opened rest new each.1)
  where
    put_cases : (b : Bool) → AllByRecursion P (put_before handle_before opened rest) → AllByRecursion P (if b then opened ∷ next ∷ rest else next ∷ put_before handle_before opened rest)
    put_cases true later = (new, each)
    put_cases false later = (each.0, later)

put_facts : (opened : OpenFile) (handles : List OpenFile) → is_open handles opened.session opened.handle ≡ false → AreInOrder handles → AreInOrder (put_before handle_before opened handles)
put_facts opened [] free order = (tt, tt)
put_facts opened (next ∷ rest) free order = put_cases (handle_before opened next) refl (put_facts opened rest (or_parts (is_handle opened.session opened.handle next) (is_open rest opened.session opened.handle) free).1 order.1)
  where
    put_cases : (b : Bool) → handle_before opened next ≡ b → AreInOrder (put_before handle_before opened rest) → AreInOrder (if b then opened ∷ next ∷ rest else next ∷ put_before handle_before opened rest)
    put_cases true first later = ((first, all_before opened next rest first order.0), order)
    put_cases false first later = (all_put (λ x. handle_before next x ≡ true) opened rest (before_other opened next (or_parts (is_handle opened.session opened.handle next) (is_open rest opened.session opened.handle) free).0 first) order.0, later)

-- a handle that isn't open is put in
pub put_in_order : (opened : OpenFile) (handles : List OpenFile) → is_open handles opened.session opened.handle ≡ false → are_in_order handles ≡ true → are_in_order (put_before handle_before opened handles) ≡ true
put_in_order opened handles free is = tested (put_before handle_before opened handles) (put_facts opened handles free (facts_of handles is))

all_kept : (P : OpenFile → Type 0) (test : OpenFile → Bool) (handles : List OpenFile) → AllByRecursion P handles → AllByRecursion P (kept test handles)
all_kept P test [] each = tt
all_kept P test (next ∷ rest) each = kept_cases (test next) (all_kept P test rest each.1)
  where
    kept_cases : (b : Bool) → AllByRecursion P (kept test rest) → AllByRecursion P ((if b then next ∷ [] else []) ++ kept test rest)
    kept_cases true later = (each.0, later)
    kept_cases false later = later

kept_facts : (test : OpenFile → Bool) (handles : List OpenFile) → AreInOrder handles → AreInOrder (kept test handles)
kept_facts test [] order = tt
kept_facts test (next ∷ rest) order = kept_cases (test next) (kept_facts test rest order.1)
  where
    kept_cases : (b : Bool) → AreInOrder (kept test rest) → AreInOrder ((if b then next ∷ [] else []) ++ kept test rest)
    kept_cases true later = (all_kept (λ x. handle_before next x ≡ true) test rest order.0, later)
    kept_cases false later = later

-- some are left out
pub kept_in_order : (test : OpenFile → Bool) (handles : List OpenFile) → are_in_order handles ≡ true → are_in_order (kept test handles) ≡ true
kept_in_order test handles is = tested (kept test handles) (kept_facts test handles (facts_of handles is))

-- ---- the least

least_behind : (first : OpenFile) (session : ℕ) (rest : List OpenFile) → (first.session == session) ≡ true → AllByRecursion (λ later. handle_before first later ≡ true) rest → IsLeast rest session first.handle
least_behind first session [] is each = tt
least_behind first session (next ∷ rest) is each = (behind_greater first next session is each.0, least_behind first session rest is each.1)

other_session : (next : OpenFile) (session : ℕ) (handle : ℕ) → (next.session == session) ≡ false → next.session ≡ session → handle ≤ next.handle
other_session next session handle differs same = grind (arith, differs, same)

least_facts : (session handle : ℕ) (handles : List OpenFile) → AreInOrder handles → handle_in (find (λ opened. opened.session == session) handles) ≡ Some handle → IsLeast handles session handle
least_facts session handle [] order found = tt
least_facts session handle (next ∷ rest) order found = least_cases (next.session == session) refl found (least_facts session handle rest order.1)
  where
    least_cases : (b : Bool) → (next.session == session) ≡ b → handle_in (if b then Some next else find (λ opened. opened.session == session) rest) ≡ Some handle
        → (handle_in (find (λ opened. opened.session == session) rest) ≡ Some handle → IsLeast rest session handle) → IsLeast (next ∷ rest) session handle
    least_cases true is found later = subst (λ h. IsLeast (next ∷ rest) session h) (same_Some next.handle handle found) ((λ same. omega arith), least_behind next session rest is order.0)
    least_cases false is found later = ((λ same. other_session next session handle is same), later found)

-- the first of a session is its least
first_least : (session handle : ℕ) (handles : List OpenFile) → are_in_order handles ≡ true → handle_in (find (λ opened. opened.session == session) handles) ≡ Some handle → IsLeast handles session handle
first_least session handle handles is found = least_facts session handle handles (facts_of handles is) found

-- and where it has none there is nothing to say
pub least_in : (session : ℕ) (handles : List OpenFile) (first : Option ℕ) → are_in_order handles ≡ true → first ≡ first_handle handles session → IfSome first (IsLeast handles session)
least_in session handles (Some handle) order is = first_least session handle handles order (sym is)
least_in session handles None order is = tt
