-- Entries in the order of their keys: their rows don't fall by parent, and where threads match them, no two have one id.
use Rattle.std.proofs.Common.{◌≡◌, ◌≢◌, ◌⊎◌, ◌<◌, ◌≤◌, ℕ, zero, suc, Bool, true, false, not, cond, ◌==◌, nat_lt, if◌then◌else◌, T, List, [], ◌∷◌, ◌++◌, length, get_or, inl, inr, refl, sym, ◌∙◌, ap, subst, arith, ⊎_elim}
use Rattle.std.specs.Prelude.{Contains}
use Rattle.std.specs.List.{AllByRecursion, count_by}
use Rattle.std.specs.List.Sorted.{IsNonDecreasingBy}
use Rattle.std.specs.Ordering.{is_lt, nat_cmp, ordering_then}
use Rattle.std.specs.declared.cmp.Ordering.TheVariants.{Less, Equal, Greater}
use Rattle.std.specs.Cmp.Lexicographic.{slice_cmp}
use Rattle.std.proofs.lemmas.Bool.{eqb-true}
use Rattle.std.proofs.lemmas.Bool.Decides.{eqb_tells}
use Rattle.std.proofs.lemmas.List.{get_or-map, length-map}
use Rattle.std.proofs.lemmas.List.Elements.{All-contains_itself}
use Rattle.std.proofs.lemmas.List.Sums.{sum_by-cons}
use Rattle.btree_node.specs.Levels.{Pair}
use Rattle.cat_records.specs.declared.record.CatRecord.{CatRecord}
use Rattle.cat_records.specs.declared.record.CatRecord.TheVariants.{Folder, File, Thread}
use Rattle.cat_records.specs.declared.record.ThreadRecord.{ThreadRecord}
use Rattle.hfs_model.specs.Sorted.{kept, IsInOrder}
use Rattle.hfs_volume.specs.Changes.{AreSorted}
use Rattle.hfs_volume.specs.Entries.{AreThreaded, HasThread}
use Rattle.hfs_volume.specs.Records.{Placed, placed_in, placed_before, entries_of, id_of, is_empty}
use Rattle.hfs_volume.specs.Broken.{Want, AllMet}
use Rattle.hfs_volume.proofs.Members.{at_front, behind, first_or_later, kept_cases}
use Rattle.hfs_volume.proofs.BlockWants.{none_met, cons_met}
use Rattle.hfs_volume.proofs.EntryWants.{none_or_one}
use Rattle.hfs_volume.proofs.Sides.{entry_is_record, not_before_itself, one_key}
use Rattle.fsck_list.specs.declared.finding.Finding.{Finding}
use Rattle.fsck_list.specs.Kept.{IsListed}
use Rattle.fsck_core.specs.Judged.{Judged}
use Rattle.fsck_core.specs.Rows.{row_of, rows_of}
use Rattle.fsck_core.specs.declared.rows.Row.{Row}
use Rattle.fsck_core.proofs.RowLaws.{below_true}

by_each : {X : Type 0} (P : X → Type 0) (xs : List X) → AllByRecursion P xs → (x : X) → Contains xs x → P x
by_each P [] all x stands = absurd (omega (arith, stands.1))
by_each P (y ∷ ys) all x stands = elim (first_or_later y x ys stands) [
  | inl same ↦ subst P (sym same) all.0
  | inr later ↦ by_each P ys all.1 x later
]

all_by : {X : Type 0} (P : X → Type 0) (xs : List X) → ((x : X) → Contains xs x → P x) → AllByRecursion P xs
all_by P [] each = tt
all_by P (x ∷ xs) each = (each x (at_front x xs), all_by P xs (λ y stands. each y (behind x y xs stands)))

-- what is kept of a list in order is in order
kept_order : {X : Type 0} (before : X → X → Bool) (test : X → Bool) (xs : List X) → IsInOrder before xs → IsInOrder before (kept test xs)
kept_order before test [] order = tt
kept_order {X} before test (x ∷ xs) order = at (kept_order before test xs order.1) (test x)
  where
    at : IsInOrder before (kept test xs) → (b : Bool) → IsInOrder before ((if b then x ∷ [] else []) ++ kept test xs)
    at rest true = (all_by (λ later. before x later ≡ true) (kept test xs) (λ y stands. by_each (λ later. before x later ≡ true) xs order.0 y (kept_cases test xs y stands).0), rest)
    at rest false = rest

-- a key before another has no greater parent
pub parents_before : (p q : Placed) → placed_before p q ≡ true → p.parent ≤ q.parent
parents_before p q before = by (nat_lt p.parent q.parent) (p.parent == q.parent) refl refl before
  where
    by : (lt eq : Bool) → nat_lt p.parent q.parent ≡ lt → p.parent == q.parent ≡ eq → is_lt (ordering_then (cond lt Less (cond eq Equal Greater)) (slice_cmp nat_cmp p.name q.name)) ≡ true → p.parent ≤ q.parent
    by true eq less same is = let below = below_true p.parent q.parent less in omega (arith, below)
    by false true less same is = let equal = eqb-true p.parent q.parent same in omega (arith, equal)
    by false false less same is = absurd (subst T (sym is) tt)

-- the rows of entries in order don't fall by parent
pub rows_rise : (entries : List Placed) → IsInOrder placed_before entries → IsNonDecreasingBy (λ (r : Row). r.parent) (rows_of entries)
rows_rise [] order i j d most inside = absurd (omega (arith, inside))
rows_rise (x ∷ xs) order zero zero d most inside = omega arith
rows_rise (x ∷ xs) order (suc i) zero d most inside = absurd (omega (arith, most))
rows_rise (x ∷ xs) order (suc i) (suc j) d most inside = rows_rise xs order.1 i j d (omega (arith, most)) (omega (arith, inside))
rows_rise (x ∷ xs) order zero (suc j) d most inside =
    let within : j < length xs = omega (arith, inside, length-map xs row_of) in
    subst (λ (r : Row). x.parent ≤ r.parent) (sym (get_or-map row_of xs j x d within))
    (parents_before x (get_or xs j x) (by_each (λ later. placed_before x later ≡ true) xs order.0 (get_or xs j x) (All-contains_itself xs j x within)))

pub entries_rise : (pairs : List Pair) → AreSorted pairs → IsNonDecreasingBy (λ (r : Row). r.parent) (rows_of (entries_of (placed_in pairs)))
entries_rise pairs sorted = rows_rise (entries_of (placed_in pairs)) (kept_order placed_before (λ (p : Placed). not (is_empty p.name)) (placed_in pairs) sorted)

-- one at most passes where no two in order do
once : {X : Type 0} (before : X → X → Bool) (test : X → Bool) (xs : List X) → IsInOrder before xs → ((x y : X) → Contains xs x → Contains xs y → before x y ≡ true → test x ≡ true → test y ≡ true → ⊥) → count_by test xs ≤ 1
once before test [] order apart = omega arith
once {X} before test (x ∷ xs) order apart = at (once before test xs order.1 (λ a b one other. apart a b (behind x a xs one) (behind x b xs other))) (test x) refl
  where
    one_of : Bool → ℕ
    one_of b = cond b 1 0

    at : count_by test xs ≤ 1 → (b : Bool) → test x ≡ b → count_by test (x ∷ xs) ≤ 1
    at rest false is = let none : one_of (test x) ≡ 0 = ap one_of is in omega (arith, none, rest, sum_by-cons (λ y. cond (test y) 1 0) x xs)
    at rest true is = elim (none_or_one test xs) [
      | inl none ↦ let one : one_of (test x) ≡ 1 = ap one_of is in omega (arith, one, none, sum_by-cons (λ y. cond (test y) 1 0) x xs)
      | inr some ↦ absurd (apart x some.0 (at_front x xs) (behind x some.0 xs some.1) (by_each (λ later. before x later ≡ true) xs order.0 some.0 some.1) is some.2)
    ]

abbrev thread_in : ThreadRecord → CatRecord → ThreadRecord
thread_in other (Folder folder) = other
thread_in other (File file) = other
thread_in other (Thread thread) = thread

-- entries with one id have one thread, and so are one
same_entry : (pairs : List Pair) → AreSorted pairs → (x y : Placed) → Contains (entries_of (placed_in pairs)) x → Contains (entries_of (placed_in pairs)) y → HasThread (placed_in pairs) x → HasThread (placed_in pairs) y → id_of x ≡ id_of y → x ≡ y
same_entry pairs sorted x y one other (p, there_p, parent_p, name_p, thread_p, value_p, of_p) (q, there_q, parent_q, name_q, thread_q, value_q, of_q) same =
    let records : List Placed = placed_in pairs in
    let threads : p ≡ q = one_key records sorted p q there_p there_q (parent_p ∙ same ∙ sym parent_q) (name_p ∙ sym name_q) in
    let thread : thread_p ≡ thread_q = ap (thread_in thread_p) (sym value_p ∙ ap (λ (r : Placed). r.value) threads ∙ value_q) in
    one_key records sorted x y (entry_is_record records x one) (entry_is_record records y other)
    (sym of_p.parent ∙ ap (λ (t : ThreadRecord). t.parent) thread ∙ of_q.parent) (sym of_p.name ∙ ap (λ (t : ThreadRecord). t.name) thread ∙ of_q.name)

-- where threads match the entries, no two have one id
pub ids_apart : (pairs : List Pair) → AreSorted pairs → AreThreaded pairs → (id : ℕ) → count_by (λ (p : Placed). id_of p == id) (entries_of (placed_in pairs)) ≤ 1
ids_apart pairs sorted threads id =
    let entries : List Placed = entries_of (placed_in pairs) in
    once placed_before (λ (p : Placed). id_of p == id) entries (kept_order placed_before (λ (p : Placed). not (is_empty p.name)) (placed_in pairs) sorted) (λ x y one other before is also.
    let same : x ≡ y = same_entry pairs sorted x y one other (thread_of_entry x one) (thread_of_entry y other) (eqb-true (id_of x) id is ∙ sym (eqb-true (id_of y) id also)) in
    not_before_itself y (subst (λ (p : Placed). placed_before p y ≡ true) same before))
  where
    thread_of_entry : (x : Placed) → Contains (entries_of (placed_in pairs)) x → HasThread (placed_in pairs) x
    thread_of_entry x stands = subst (HasThread (placed_in pairs)) stands.2 (threads.threaded stands.0 x stands.1)

-- a number that isn't the one wanted, if there is one
pub some_unmet : (ws : List Want) → AllMet ws ⊎ ((w : Want) × Contains ws w × (w.found ≢ w.wanted))
some_unmet [] = inl none_met
some_unmet (w ∷ ws) = ⊎_elim
    (λ (same : (w.found == w.wanted ≡ true) × (w.found ≡ w.wanted)). elim (some_unmet ws) [
      | inl met ↦ inl (cons_met w ws same.1 met)
      | inr one ↦ inr (one.0, behind w one.0 ws one.1, one.2)
    ])
    (λ (differ : (w.found == w.wanted ≡ false) × (w.found ≢ w.wanted)). inr (w, at_front w ws, differ.1))
    (eqb_tells w.found w.wanted)

-- where not all numbers are met, something is listed
pub judged_found : (rule : ℕ) (ws : List Want) (old new : List Finding) (met : Bool) → Judged rule ws old new met → met ≡ false → 0 < length new
judged_found rule ws old new met judged fails = ⊎_elim
    (λ (all : AllMet ws). absurd (subst T (sym (judged.tells.1 all) ∙ fails) tt))
    (λ (one : (w : Want) × Contains ws w × (w.found ≢ w.wanted)). listed_some (record { rule = rule; place = one.0.place; found = one.0.found; wanted = one.0.wanted }) (judged.listed _ (refl, one.2, one.1)))
    (some_unmet ws)
  where
    listed_some : (f : Finding) → IsListed new f → 0 < length new
    listed_some f (inl stands) = omega (arith, stands.1)
    listed_some f (inr full) = omega (arith, full.0)

-- where something stood, something still does
pub stays : (old new : List Finding) → ((f : Finding) → IsListed old f → IsListed new f) → 0 < length old → 0 < length new
stays [] new still some = absurd (omega (arith, some))
stays (f ∷ rest) new still some = by (still f (inl (at_front f rest)))
  where
    by : IsListed new f → 0 < length new
    by (inl stands) = omega (arith, stands.1)
    by (inr full) = omega (arith, full.0)
