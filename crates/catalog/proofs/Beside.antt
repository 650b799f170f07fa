-- Records of a catalog beside an entry that is added or dropped with its thread.
use Rattle.std.proofs.Common.{◌≡◌, ◌<◌, ◌≤◌, ◌+◌, ℕ, Bool, true, false, cond, List, [], ◌∷◌, length, inl, inr, refl, sym, ◌∙◌, ap, subst, arith}
use Rattle.std.specs.Prelude.{Contains, IsTrue, Option, None, Some, find, ◌==◌, ◌&&◌}
use Rattle.std.specs.Option.{option_map}
use Rattle.std.specs.Str.{bytes_eq}
use Rattle.std.proofs.lemmas.Bool.{and_parts, eqb-true, true≢false}
use Rattle.std.proofs.lemmas.Slice.Eq.{bytes_eq-Decides}
use Rattle.btree_node.specs.Levels.{Pair}
use Rattle.cat_records.specs.Records.{is_catalog}
use Rattle.hfs_volume.specs.Changes.{AreSorted, AddsEntry, thread_with}
use Rattle.hfs_volume.specs.Entries.{AreSpelled}
use Rattle.hfs_volume.specs.Records.{Placed, placed_of, placed_in, record_at, is_placed_at, is_empty, id_of}
use Rattle.hfs_volume.proofs.Members.{first_or_later, at_front, behind, all_of, each_of, map_stands, still_stands, inserted_cases, inserted_stands}
use Rattle.hfs_volume.proofs.Sides.{OneMore, one_more, one_key, found_same, the_entry, entry_is_record, no_other_at}

abbrev pub placed_or : Placed → Option Placed → Placed
placed_or other None = other
placed_or other (Some placed) = placed

pub none_is_some : (x : Placed) → None ≡ Some x → ⊥
none_is_some x same = cc

-- what is found stands in the list and passes
pub found_stands : (test : Placed → Bool) (xs : List Placed) (x : Placed) → find test xs ≡ Some x → Contains xs x × (test x ≡ true)
found_stands test [] x found = absurd (none_is_some x found)
found_stands test (y ∷ ys) x found = by_test (test y) refl (found_stands test ys x)
  where
    by_test : (b : Bool) → test y ≡ b → (find test ys ≡ Some x → Contains ys x × (test x ≡ true)) → Contains (y ∷ ys) x × (test x ≡ true)
    by_test true is later =
        let same : y ≡ x = ap (placed_or y) (ap (λ b. cond b (Some y) (find test ys)) (sym is) ∙ found) in
        (subst (λ z. Contains (y ∷ ys) z) same (at_front y ys), subst (λ z. test z ≡ true) same is)
    by_test false is later =
        let rest = later (ap (λ b. cond b (Some y) (find test ys)) (sym is) ∙ found) in
        (behind y x ys rest.0, rest.1)

-- where none is found, none that stands there passes
pub none_passes : (test : Placed → Bool) (xs : List Placed) (x : Placed) → find test xs ≡ None → Contains xs x → test x ≡ true → ⊥
none_passes test [] x none stands passes = absurd (omega (arith, stands.1))
none_passes test (y ∷ ys) x none stands passes = by_test (test y) refl (none_passes test ys x)
  where
    by_test : (b : Bool) → test y ≡ b → (find test ys ≡ None → Contains ys x → test x ≡ true → ⊥) → ⊥
    by_test true is later = none_is_some y (sym none ∙ ap (λ b. cond b (Some y) (find test ys)) is)
    by_test false is later = elim (first_or_later y x ys stands) [
      | inl same ↦ true≢false (sym (ap test (sym same) ∙ passes) ∙ is)
      | inr there ↦ later (sym (ap (λ b. cond b (Some y) (find test ys)) is) ∙ none) there passes
    ]

-- a record that stands in a sorted list is found under its key
pub found_at : (pairs : List Pair) (placed : Placed) (parent : ℕ) (name : List ℕ) → AreSorted pairs → Contains (placed_in pairs) placed → is_placed_at parent name placed ≡ true → record_at (placed_in pairs) parent name ≡ Some placed
found_at pairs placed parent name order stands passes = by_found (record_at (placed_in pairs) parent name) refl
  where
    by_found : (found : Option Placed) → record_at (placed_in pairs) parent name ≡ found → found ≡ Some placed
    by_found None is = absurd (none_passes (is_placed_at parent name) (placed_in pairs) placed is stands passes)
    by_found (Some other) is =
        let its = found_stands (is_placed_at parent name) (placed_in pairs) other is in
        let own = and_parts (placed.parent == parent) (bytes_eq placed.name name) passes in
        let also = and_parts (other.parent == parent) (bytes_eq other.name name) its.1 in
        ap Some (one_key (placed_in pairs) order other placed its.0 stands (eqb-true other.parent parent also.0 ∙ sym (eqb-true placed.parent parent own.0))
        ((bytes_eq-Decides other.name name).0 also.1 ∙ sym ((bytes_eq-Decides placed.name name).0 own.1)))

-- ---- tests of places

pub same_number : (n : ℕ) → (n == n) ≡ true
same_number n = grind arith

-- a test of two is false where one is
pub first_false : (a b : Bool) → (a ≡ true → ⊥) → (a && b) ≡ false
first_false true b not_so = absurd (not_so refl)
first_false false b not_so = refl

pub second_false : (a b : Bool) → (b ≡ true → ⊥) → (a && b) ≡ false
second_false true true not_so = absurd (not_so refl)
second_false true false not_so = refl
second_false false b not_so = refl

pub empty_of : (name : List ℕ) → [] ≡ name → is_empty name ≡ true
empty_of name same = ap is_empty (sym same)

pub empty_name : (name : List ℕ) → 1 ≤ length name → is_empty name ≡ false
empty_name [] some = absurd (omega (arith, some))
empty_name (unit ∷ units) some = refl

-- a name with a unit isn't the empty one
pub not_empty : (name : List ℕ) → is_empty name ≡ false → bytes_eq [] name ≡ true → ⊥
not_empty name some same = true≢false (sym (empty_of name ((bytes_eq-Decides [] name).0 same)) ∙ some)

pub empty_not : (name : List ℕ) → is_empty name ≡ false → bytes_eq name [] ≡ true → ⊥
empty_not name some same = true≢false (sym (ap is_empty ((bytes_eq-Decides name []).0 same)) ∙ some)

-- a record at a place has its parent and its name
pub its_place : (placed : Placed) (parent : ℕ) (name : List ℕ) → is_placed_at parent name placed ≡ true → (placed.parent ≡ parent) × (placed.name ≡ name)
its_place placed parent name is =
    let both = and_parts (placed.parent == parent) (bytes_eq placed.name name) is in
    (eqb-true placed.parent parent both.0, (bytes_eq-Decides placed.name name).0 both.1)

pub false_so : (b : Bool) → (b ≡ true → ⊥) → b ≡ false
false_so true never = absurd (never refl)
false_so false never = refl

-- a record isn't at a place where none is found
pub not_at : (pairs : List Pair) (placed : Placed) (parent : ℕ) (name : List ℕ) → Contains (placed_in pairs) placed → record_at (placed_in pairs) parent name ≡ None → is_placed_at parent name placed ≡ false
not_at pairs placed parent name stands vacant = false_so (is_placed_at parent name placed) (none_passes (is_placed_at parent name) (placed_in pairs) placed vacant stands)

-- nor at one with another parent
pub other_parent : (placed : Placed) (parent : ℕ) (name : List ℕ) → (placed.parent ≡ parent → ⊥) → is_placed_at parent name placed ≡ false
other_parent placed parent name apart = first_false (placed.parent == parent) (bytes_eq placed.name name) (λ same. apart (eqb-true placed.parent parent same))

itself_at : (parent : ℕ) (name : List ℕ) (placed : Placed) → placed.parent ≡ parent → placed.name ≡ name → is_placed_at parent name placed ≡ true
itself_at parent name placed own_parent own_name = (λ i. (own_parent i == parent) && bytes_eq (own_name i) name) ∙ (λ i. same_number parent i && (bytes_eq-Decides name name).1 refl i)

module _ (entry : Placed) (small big : List Pair) (adds : AddsEntry entry small big) (named : is_empty entry.name ≡ false) where
  side : OneMore entry (placed_in small) (placed_in big)
  side = one_more adds named

  -- other places have what they had
  pub named_beside : (folder : ℕ) (name : List ℕ) → is_empty name ≡ false → is_placed_at folder name entry ≡ false → record_at (placed_in big) folder name ≡ record_at (placed_in small) folder name
  named_beside folder name some other = found_same side (is_placed_at folder name) other (second_false (id_of entry == folder) (bytes_eq [] name) (not_empty name some))

  -- and so have other threads
  pub thread_beside : (id : ℕ) → (id_of entry ≡ id → ⊥) → record_at (placed_in big) id [] ≡ record_at (placed_in small) id []
  thread_beside id other =
      found_same side (is_placed_at id []) (second_false (entry.parent == id) (bytes_eq entry.name []) (empty_not entry.name named)) (first_false (id_of entry == id) (bytes_eq [] []) (λ same. other (eqb-true (id_of entry) id same)))

  pub thread_stands : Contains (placed_in big) (thread_with adds.spare entry)
  thread_stands = subst (Contains (placed_in big)) adds.is_thread.stands
      (map_stands placed_of big adds.thread (subst (λ l. Contains l adds.thread) (sym adds.thread_added.is) (inserted_stands adds.between adds.thread_added.place adds.thread)))

  -- the CNID has a thread
  pub id_is_used : (id : ℕ) → record_at (placed_in big) id [] ≡ None → id_of entry ≡ id → ⊥
  id_is_used id unused same =
      none_passes (is_placed_at id []) (placed_in big) (thread_with adds.spare entry) unused thread_stands
      (itself_at id [] (thread_with adds.spare entry) same refl)

  pub stands_there : Contains (placed_in big) entry
  stands_there = entry_is_record (placed_in big) entry (the_entry side)

  -- the entry is found at its place, and without it none is
  pub is_found : AreSorted big → record_at (placed_in big) entry.parent entry.name ≡ Some entry
  is_found order = found_at big entry entry.parent entry.name order stands_there (itself_at entry.parent entry.name entry refl refl)

  pub left_vacant : AreSorted big → record_at (placed_in small) entry.parent entry.name ≡ None
  left_vacant order = by_found (record_at (placed_in small) entry.parent entry.name) refl
    where
      by_found : (found : Option Placed) → record_at (placed_in small) entry.parent entry.name ≡ found → found ≡ None
      by_found None is = refl
      by_found (Some other) is =
          let its = found_stands (is_placed_at entry.parent entry.name) (placed_in small) other is in
          absurd (true≢false (sym its.1 ∙ no_other_at side order other its.0))

  -- all values go on spelling records
  still : (pair : Pair) → Contains small pair → Contains big pair
  still pair stands =
      subst (λ l. Contains l pair) (sym adds.thread_added.is) (still_stands adds.between adds.thread_added.place adds.thread pair
      (subst (λ l. Contains l pair) (sym adds.entry_added.is) (still_stands small adds.entry_added.place adds.pair pair stands)))

  pub spelled_less : AreSpelled big → AreSpelled small
  spelled_less spelled = all_of (λ (pair : Pair). IsTrue (is_catalog pair.1)) small (λ pair stands. each_of (λ (p : Pair). IsTrue (is_catalog p.1)) big spelled pair (still pair stands))

  pub spelled_more : AreSpelled small → AreSpelled big
  spelled_more spelled = all_of (λ (pair : Pair). IsTrue (is_catalog pair.1)) big of_each
    where
      of_each : (pair : Pair) → Contains big pair → IsTrue (is_catalog pair.1)
      of_each pair stands = elim (inserted_cases adds.between adds.thread_added.place adds.thread pair (subst (λ l. Contains l pair) adds.thread_added.is stands)) [
        | inl is ↦ subst (λ (p : Pair). IsTrue (is_catalog p.1)) (sym is) adds.is_thread.spelled
        | inr there ↦ elim (inserted_cases small adds.entry_added.place adds.pair pair (subst (λ l. Contains l pair) adds.entry_added.is there)) [
          | inl is ↦ subst (λ (p : Pair). IsTrue (is_catalog p.1)) (sym is) adds.is_entry.spelled
          | inr before ↦ each_of (λ (p : Pair). IsTrue (is_catalog p.1)) small spelled pair before
        ]
      ]
