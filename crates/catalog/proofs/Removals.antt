-- An entry and its thread removed, or moved.
use Rattle.std.proofs.Common.{◌≡◌, ◌≢◌, inl, inr, ℕ, zero, suc, ◌+◌, ◌<◌, ◌≤◌, Bool, true, false, List, [], ◌∷◌, length, set, refl, sym, ◌∙◌, ap, subst, arith}
use Rattle.std.specs.Prelude.{slice_index_or, Contains, Option, None, Some, not, ◌==◌, ℤ, cond, if◌then◌else◌}
use Rattle.std.specs.Str.{bytes_eq}
use Rattle.std.specs.Ordering.{ordering_reverse}
use Rattle.std.proofs.lemmas.Bool.{cases_lt, eq-eqb, eqb-true, and_from}
use Rattle.std.proofs.lemmas.List.{get_or-map, length-map, length-set}
use Rattle.std.proofs.lemmas.List.Edits.{length-insert, get_or-insert_below, get_or-insert_above}
use Rattle.std.proofs.lemmas.List.{get_or-set_same, get_or-set_other}
use Rattle.std.proofs.lemmas.List.Elements.{All-contains, Contains-append_left, Contains-append_right, Contains-append_cases}
use Rattle.std.proofs.lemmas.Slice.Eq.{bytes_eq-Decides}
use Rattle.btree_node.specs.KeyLaws.{catalog_total}
use Rattle.std.specs.declared.cmp.Ordering.TheVariants.{Equal}
use Rattle.std.specs.List.{find, remove}
use Rattle.std.specs.Option.{option_map}
use Rattle.btree_node.specs.Keys.{catalog_cmp, catalog_parent, catalog_units}
use Rattle.btree_node.specs.Levels.{Pair}
use Rattle.btree_edit.specs.Desk.{HasKey}
use Rattle.cat_records.specs.declared.record.CatRecord.{CatRecord}
use Rattle.cat_records.specs.declared.record.CatRecord.TheVariants.{Thread}
use Rattle.hfs_volume.specs.Changes.{Adds, Spells, thread_with}
use Rattle.hfs_volume.specs.Entries.{AreThreaded, HasThread}
use Rattle.cat_records.specs.declared.record.ThreadRecord.{ThreadRecord}
use Rattle.hfs_volume.specs.Records.{Placed, placed_of, placed_in, record_at, entries_of, id_of, id_in, is_file, is_thread, is_empty, is_placed_at}
use Rattle.catalog.specs.Pairs.{IsKeyOf, DropsBoth, ShiftsPair, value_at, thread_at as thread_under, thread_in, spare_in}
use Rattle.catalog.specs.Entries.{RemovesEntry, RelocatesEntry}
use Rattle.catalog.proofs.EntryEdits.{adds_of}
use Rattle.catalog.proofs.RecordLengths.{value_in}
use Rattle.catalog.proofs.TwoInserts.{AddsEither, HaveLess, insert_remove, length_remove, set_insert, less_than_both, swap_adds}
use Rattle.catalog.proofs.Updates.{own_key}
use Rattle.catalog.proofs.Keys.{keys_apart}
use Rattle.catalog.proofs.Places.{AscendByKey, tied_is_found, under_is_tied, first_true, second_true}
use Rattle.catalog.proofs.Standing.{record_at-key, tied_stands, dropped_back, dropped_place, changed_is}

abbrev is_there : {X : Type 0} → Option X → Type 0
is_there None = ⊥
is_there (Some x) = Unit {0}

abbrev value_or : {X : Type 0} → X → Option X → X
value_or x None = x
value_or x (Some y) = y

-- the record that was found, and where it stands
pub value_found : (found : Option Placed) (rec : CatRecord) → option_map (λ (placed : Placed). placed.value) found ≡ Some rec → (entry : Placed) × (found ≡ Some entry) × (entry.value ≡ rec)
value_found None rec is = absurd (subst is_there (sym is) tt)
value_found (Some entry) rec is = (entry, refl, ap (value_or rec) is)

-- the thread in a value that was found, where it is one
abbrev thread_or_none : Option CatRecord → Option ThreadRecord
thread_or_none None = None
thread_or_none (Some rec) = thread_in rec

pub no_value_no_record : (found : Option Placed) → None ≡ option_map (λ (placed : Placed). placed.value) found → found ≡ None
no_value_no_record None is = refl
no_value_no_record (Some entry) is = absurd (subst is_there (sym is) tt)

found_stands : (test : Placed → Bool) (xs : List Placed) (x : Placed) → find test xs ≡ Some x → Contains xs x × (test x ≡ true)
found_stands test [] x found = absurd (subst is_there (sym found) tt)
found_stands test (y ∷ ys) x found = by_test (test y) refl (found_stands test ys x)
  where
    by_test : (b : Bool) → test y ≡ b → (find test ys ≡ Some x → Contains ys x × (test x ≡ true)) → Contains (y ∷ ys) x × (test x ≡ true)
    by_test true is rest_too =
        let same : y ≡ x = ap (value_or y) (sym (ap (λ b. cond b (Some y) (find test ys)) is) ∙ found) in
        (subst (λ z. Contains (y ∷ ys) z) same (0, omega arith, refl), ap test (sym same) ∙ is)
    by_test false is rest_too = let rest = rest_too (sym (ap (λ b. cond b (Some y) (find test ys)) is) ∙ found) in (Contains-append_right (y ∷ []) ys x rest.0, rest.1)

named_stands : (xs : List Placed) (x : Placed) → Contains xs x → is_empty x.name ≡ false → Contains (entries_of xs) x
named_stands [] x stands named = absurd (omega (arith, stands.1))
named_stands (y ∷ ys) x stands named = elim (Contains-append_cases (y ∷ []) ys x stands) [
  | inl first ↦ Contains-append_left (piece y) (entries_of ys) x (subst (λ z. Contains (piece z) x) (in_one first) (subst (λ (b : Bool). Contains (if not b then x ∷ [] else []) x) (sym named) (0, omega arith, refl)))
  | inr later ↦ Contains-append_right (piece y) (entries_of ys) x (named_stands ys x later named)
]
  where
    piece : Placed → List Placed
    piece z = if not (is_empty z.name) then z ∷ [] else []

    in_one : Contains (y ∷ []) x → x ≡ y
    in_one (zero, inside, is) = sym is
    in_one (suc k, inside, is) = absurd (omega (arith, inside))

empty_name : (name : List ℕ) → 1 ≤ length name → is_empty name ≡ false
empty_name [] some = absurd (omega (arith, some))
empty_name (unit ∷ units) some = refl

-- a record that stands under a key's place has a pair with that key
standing_key : (parent : ℕ) (name key : List ℕ) (pairs : List Pair) (placed : Placed) → IsKeyOf parent name key → Contains (placed_in pairs) placed → placed.parent ≡ parent → placed.name ≡ name
    → (k : ℕ) × (k < length pairs) × (placed_of (slice_index_or pairs k ([], [])) ≡ placed) × (catalog_cmp (slice_index_or pairs k ([], [])).0 key ≡ Equal)
standing_key parent name key pairs placed is stands same_parent same_name =
    let k = stands.0 in
    let inside : k < length pairs = omega (arith, stands.1, length-map pairs placed_of) in
    let pair = slice_index_or pairs k ([], []) in
    let at : placed_of pair ≡ placed = sym (get_or-map placed_of pairs k ([], []) placed inside) ∙ stands.2 in
    let parents : (placed_of pair).parent ≡ catalog_parent key = ap (λ (p : Placed). p.parent) at ∙ same_parent ∙ sym is.parent_is in
    let names : (placed_of pair).name ≡ catalog_units key = ap (λ (p : Placed). p.name) at ∙ same_name ∙ sym is.name_is in
    (k, inside, at, under_is_tied pair key (and_from _ _ (eq-eqb (placed_of pair).parent (catalog_parent key) parents) ((bytes_eq-Decides (placed_of pair).name (catalog_units key)).1 names)))

-- a name has a folder or a file
pub found_is_no_thread : (parent : ℕ) (name : List ℕ) (old : List Pair) (rec : CatRecord) → AreThreaded old → 1 ≤ length name → value_at old parent name ≡ Some rec → is_thread rec ≡ false
found_is_no_thread parent name old rec threads some value_is =
    let found = value_found (record_at (placed_in old) parent name) rec value_is in
    let stands = found_stands (is_placed_at parent name) (placed_in old) found.0 found.1 in
    let name_is : found.0.name ≡ name = (bytes_eq-Decides found.0.name name).0 (second_true (found.0.parent == parent) (bytes_eq found.0.name name) stands.1) in
    ap is_thread (sym found.2) ∙ All-contains (λ placed. is_thread placed.value ≡ is_empty placed.name) (placed_in old) found.0 threads.kinds stands.0 ∙ ap is_empty name_is ∙ empty_name name some

-- ---- what removing an entry and its thread needs, and does

module _ (parent : ℕ) (name : List ℕ) (old : List Pair) (rec : CatRecord) (entry_key thread_key : List ℕ) (rises : AscendByKey old) (threads : AreThreaded old)
    (is_entry_key : IsKeyOf parent name entry_key) (is_thread_key : IsKeyOf (id_in rec) [] thread_key) (some : 1 ≤ length name) (value_is : value_at old parent name ≡ Some rec) where
  abbrev entry : Placed
  entry = (value_found (record_at (placed_in old) parent name) rec value_is).0

  found : record_at (placed_in old) parent name ≡ Some entry
  found = (value_found (record_at (placed_in old) parent name) rec value_is).1

  id_is : id_in rec ≡ id_of entry
  id_is = ap id_in (sym (value_found (record_at (placed_in old) parent name) rec value_is).2)

  stands : Contains (placed_in old) entry × (is_placed_at parent name entry ≡ true)
  stands = found_stands (is_placed_at parent name) (placed_in old) entry found

  name_is : entry.name ≡ name
  name_is = (bytes_eq-Decides entry.name name).0 (second_true (entry.parent == parent) (bytes_eq entry.name name) stands.1)

  parent_is : entry.parent ≡ parent
  parent_is = eqb-true entry.parent parent (first_true (entry.parent == parent) (bytes_eq entry.name name) stands.1)

  pub thread : HasThread (placed_in old) entry
  thread = All-contains (HasThread (placed_in old)) (entries_of (placed_in old)) entry threads.threaded (named_stands (placed_in old) entry stands.0 (ap is_empty name_is ∙ empty_name name some))

  entry_at : (k : ℕ) × (k < length old) × (placed_of (slice_index_or old k ([], [])) ≡ entry) × (catalog_cmp (slice_index_or old k ([], [])).0 entry_key ≡ Equal)
  entry_at = standing_key parent name entry_key old entry is_entry_key stands.0 parent_is name_is

  thread_at : (k : ℕ) × (k < length old) × (placed_of (slice_index_or old k ([], [])) ≡ thread.0) × (catalog_cmp (slice_index_or old k ([], [])).0 thread_key ≡ Equal)
  thread_at = standing_key (id_in rec) [] thread_key old thread.0 is_thread_key thread.1 (thread.2 ∙ sym id_is) thread.3

  pub has_entry : HasKey catalog_cmp entry_key old
  has_entry = (entry_at.0, entry_at.1, entry_at.3)

  pub has_thread : HasKey catalog_cmp thread_key old
  has_thread = (thread_at.0, thread_at.1, thread_at.3)

  pub apart : catalog_cmp thread_key entry_key ≢ Equal
  apart ties = keys_apart parent (id_in rec) name entry_key thread_key is_entry_key is_thread_key some (catalog_total.antisymm entry_key thread_key ∙ ap ordering_reverse ties)

  thread_found : record_at (placed_in old) (id_in rec) [] ≡ Some thread.0
  thread_found =
      record_at-key (id_in rec) [] thread_key old is_thread_key ∙ ap (λ o. option_map placed_of o) (tied_is_found thread_key old thread_at.0 rises thread_at.1 thread_at.3) ∙ ap (λ p. Some p) thread_at.2

  abbrev spare : ℤ
  spare = thread.4.spare

  thread_is : thread.0 ≡ thread_with spare entry
  thread_is = λ i. record { parent = thread.2 i; name = thread.3 i; value = (thread.5 ∙ ap (λ t. Thread t) same) i }
    where
      same : thread.4 ≡ record { of_file = is_file entry.value; spare = spare; parent = entry.parent; name = entry.name }
      same = λ i. record { of_file = thread.6.kind i; spare = spare; parent = thread.6.parent i; name = thread.6.name i }

  module _ (new : List Pair) (drops : DropsBoth thread_key entry_key old new) where
    abbrev first_pair : Pair
    first_pair = slice_index_or old drops.one.place ([], [])

    abbrev second_pair : Pair
    second_pair = slice_index_or drops.between drops.both.place ([], [])

    back : Adds first_pair drops.between old
    back = dropped_back thread_key old drops.between drops.one

    -- the pair of the entry stood in the old list too
    stood : (k : ℕ) × (k < length old) × (slice_index_or old k ([], []) ≡ second_pair)
    stood = elim (cases_lt drops.both.place back.place) [
      | inl below ↦ (drops.both.place, omega (arith, drops.both.inside, long), ap (λ l. slice_index_or l drops.both.place ([], [])) back.is ∙ get_or-insert_below drops.between back.place first_pair ([], []) drops.both.place below back.within)
      | inr from ↦ (drops.both.place + 1, omega (arith, drops.both.inside, long), ap (λ l. slice_index_or l (drops.both.place + 1) ([], [])) back.is ∙ get_or-insert_above drops.between back.place first_pair ([], []) drops.both.place from back.within)
    ]
      where
        long : length old ≡ length drops.between + 1
        long = ap (λ (l : List Pair). length l) back.is ∙ length-insert drops.between back.place first_pair back.within

    pub removes_entry : RemovesEntry parent name old new
    removes_entry = record {
      entry = entry;
      found = found;
      drops = record {
        between = drops.between;
        pair = second_pair;
        is_entry = subst (λ p. Spells entry p) stood.2 (tied_stands parent name entry_key old entry stood.0 rises threads.spelled is_entry_key found stood.1 (ap (λ (p : Pair). catalog_cmp p.0 entry_key) stood.2 ∙ drops.both.equal));
        entry_added = dropped_back entry_key drops.between new drops.both;
        thread = first_pair;
        spare = spare;
        is_thread = subst (λ placed. Spells placed first_pair) thread_is (tied_stands (id_in rec) [] thread_key old thread.0 drops.one.place rises threads.spelled is_thread_key thread_found drops.one.inside drops.one.equal);
        thread_added = back;
      };
    }

  -- the thread tells its reserved word
  pub spare_is : spare_in (thread_under old (id_in rec)) ≡ spare
  spare_is = ap (λ o. spare_in (thread_or_none (option_map (λ (placed : Placed). placed.value) o))) thread_found ∙ ap (λ v. spare_in (thread_or_none (Some v))) thread.5

  module _ (to : ℕ) (new_name new_key new_value thread_value : List ℕ) (new : List Pair) (told_spare : ℤ) (same_spare : told_spare ≡ spare)
      (shifts : ShiftsPair thread_key thread_value entry_key new_key new_value old new)
      (spells_entry : Spells (record { parent = to; name = new_name; value = rec }) (new_key, new_value))
      (spells_thread : Spells (thread_with told_spare (record { parent = to; name = new_name; value = rec })) (thread_key, thread_value)) where
    abbrev moved : Placed
    moved = record entry { parent = to; name = new_name }

    rec_is : entry.value ≡ rec
    rec_is = (value_found (record_at (placed_in old) parent name) rec value_is).2

    -- the thread's place, and the thread before and after
    abbrev p : ℕ
    p = shifts.tells.place

    abbrev old_thread : Pair
    old_thread = slice_index_or old p ([], [])

    abbrev new_thread : Pair
    new_thread = (old_thread.0, thread_value)

    told_is : shifts.told ≡ set old p new_thread
    told_is = changed_is thread_key thread_value old shifts.told shifts.tells

    told_long : length shifts.told ≡ length old
    told_long = ap (λ (l : List Pair). length l) told_is ∙ length-set old p new_thread

    was : Adds old_thread (remove old p) old
    was = record { place = p; within = omega (arith, length_remove old p shifts.tells.inside, shifts.tells.inside); is = sym (insert_remove old p ([], []) shifts.tells.inside) }

    is : Adds new_thread (remove old p) shifts.told
    is = record { place = p; within = omega (arith, length_remove old p shifts.tells.inside, shifts.tells.inside); is = told_is ∙ set_insert old p new_thread shifts.tells.inside }

    -- the entry's place, and its pair before
    abbrev q : ℕ
    q = shifts.out.place

    abbrev old_entry : Pair
    old_entry = slice_index_or shifts.told q ([], [])

    apart_places : p ≡ q → ⊥
    apart_places same =
        let here : (slice_index_or shifts.told p ([], [])).0 ≡ old_thread.0 = ap (λ (l : List Pair). (slice_index_or l p ([], [])).0) told_is ∙ ap (λ (pair : Pair). pair.0) (get_or-set_same old p new_thread ([], []) shifts.tells.inside) in
        let ties : catalog_cmp old_thread.0 entry_key ≡ Equal = ap (λ l. catalog_cmp l entry_key) (sym here) ∙ ap (λ n. catalog_cmp (slice_index_or shifts.told n ([], [])).0 entry_key) same ∙ shifts.out.equal in
        apart (sym (catalog_total.congr old_thread.0 thread_key entry_key shifts.tells.equal) ∙ ties)

    entry_stood : slice_index_or old q ([], []) ≡ old_entry
    entry_stood = sym (ap (λ (l : List Pair). slice_index_or l q ([], [])) told_is ∙ get_or-set_other old p q new_thread ([], []) (λ e. apart_places (sym e)))

    left : Adds old_entry shifts.between shifts.told
    left = dropped_back entry_key shifts.told shifts.between shifts.out

    less : HaveLess new_thread old_entry (remove old p) shifts.between
    unfolding left is
    less = less_than_both new_thread old_entry (remove old p) shifts.between shifts.told is left (λ same. apart_places (same ∙ dropped_place entry_key shifts.told shifts.between shifts.out))

    put_back : Adds (new_key, new_value) shifts.between new
    put_back = adds_of new_key new_value shifts.between new shifts.back

    turned : AddsEither new_thread (new_key, new_value) less.less new
    turned = swap_adds new_thread (new_key, new_value) less.less shifts.between new less.one put_back

    thread_stands : Spells (thread_with spare entry) old_thread
    thread_stands = subst (λ placed. Spells placed old_thread) thread_is (tied_stands (id_in rec) [] thread_key old thread.0 p rises threads.spelled is_thread_key thread_found shifts.tells.inside shifts.tells.equal)

    thread_tells : Spells (thread_with spare moved) new_thread
    thread_tells = record {
      stands = own_key old_thread thread_value (thread_with told_spare (record { parent = to; name = new_name; value = rec })).value (value_in (thread_with told_spare (record { parent = to; name = new_name; value = rec })) (thread_key, thread_value) spells_thread.stands)
          ∙ (λ i. record (thread_stands.stands i) { value = Thread (record { of_file = is_file (sym rec_is i); spare = same_spare i; parent = to; name = new_name }) });
      spelled = spells_thread.spelled;
    }

    pub relocates : RelocatesEntry parent name to new_name old new
    relocates = record {
      entry = entry;
      found = found;
      moves = record {
        between = less.less;
        out = record {
          between = remove old p;
          pair = old_entry;
          is_entry = subst (λ pair. Spells entry pair) entry_stood (tied_stands parent name entry_key old entry q rises threads.spelled is_entry_key found (omega (arith, shifts.out.inside, told_long))
              (ap (λ (pair : Pair). catalog_cmp pair.0 entry_key) entry_stood ∙ shifts.out.equal));
          entry_added = less.other;
          thread = old_thread;
          spare = spare;
          is_thread = thread_stands;
          thread_added = was;
        };
        back = record {
          between = turned.between;
          pair = (new_key, new_value);
          is_entry = subst (λ v. Spells (record { parent = to; name = new_name; value = v }) (new_key, new_value)) (sym rec_is) spells_entry;
          entry_added = turned.first;
          thread = new_thread;
          spare = spare;
          is_thread = thread_tells;
          thread_added = turned.second;
        };
      };
      same_spare = refl;
    }
