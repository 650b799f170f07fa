-- The least CNID found among the entries of the private folder is that of the files that lost their last name.
use Rattle.std.proofs.Common.{◌≡◌, ◌≤◌, ℕ, ◌+◌, Bool, true, false, List, [], ◌∷◌, ◌++◌, length, map, drop, refl, sym, ◌∙◌, ap, arith}
use Rattle.std.specs.Prelude.{◌==◌, ◌&&◌, not, nat_lt, slice_index, codes, decimal, Option, None, Some, if◌then◌else◌}
use Rattle.std.specs.List.{flat_map}
use Rattle.std.specs.Str.Parse.{digits_value}
use Rattle.std.proofs.lemmas.Bool.{and_parts, eqb-true, le-ltb, ltb-false, true≢false}
use Rattle.std.proofs.lemmas.Slice.Eq.{bytes_eq-Decides}
use Rattle.cat_records.specs.declared.record.CatRecord.{CatRecord}
use Rattle.cat_records.specs.declared.record.CatRecord.TheVariants.{Folder, File, Thread}
use Rattle.catalog.specs.Children.{as_child, children_in}
use Rattle.btree_node.specs.Levels.{Pair}
use Rattle.hfs_model.specs.Sorted.{kept}
use Rattle.hfs_volume.proofs.Flat.{flat_agree}
use Rattle.hfs_volume.specs.Links.{is_in, is_orphan, orphans_of, private_id}
use Rattle.hfs_volume.specs.Reclaim.{least, least_from}
use Rattle.hfs_volume.specs.Records.{Placed, entries_of, id_of, is_file, is_link, is_numbered, numbered, placed_in}
use Rattle.volume_space.specs.Orphans.{begins_temp, found_among, is_number, is_own_record, is_temp, is_waiting, lesser}
use Rattle.volume_space.proofs.Numerals.{number_spelled, spelled_number}

-- ---- names

-- an `if` that isn't false
if_not : (b rest : Bool) → (if b then false else rest) ≡ true → (b ≡ false) × (rest ≡ true)
if_not true rest is = absurd (true≢false (sym is))
if_not false rest is = (refl, is)

abbrev temp_test : List ℕ → Bool
temp_test name = (slice_index name 0 == 116) && ((slice_index name 1 == 101) && ((slice_index name 2 == 109) && (slice_index name 3 == 112)))

pub four_long : (name : List ℕ) → begins_temp name ≡ true → name ≡ codes "temp" ++ drop 4 name
four_long name is = let parts = if_not (nat_lt (length name) 4) (temp_test name) is in spelled name (ltb-false (length name) 4 parts.0) parts.1
  where
    spelled : (xs : List ℕ) → 4 ≤ length xs → temp_test xs ≡ true → xs ≡ codes "temp" ++ drop 4 xs
    spelled [] long test = absurd (omega (arith, long))
    spelled (a ∷ []) long test = absurd (omega (arith, long))
    spelled (a ∷ b ∷ []) long test = absurd (omega (arith, long))
    spelled (a ∷ b ∷ c ∷ []) long test = absurd (omega (arith, long))
    spelled (a ∷ b ∷ c ∷ d ∷ rest) long test =
        let first = and_parts (a == 116) ((b == 101) && ((c == 109) && (d == 112))) test in
        let second = and_parts (b == 101) ((c == 109) && (d == 112)) first.1 in
        let third = and_parts (c == 109) (d == 112) second.1 in
        λ i. eqb-true a 116 first.0 i ∷ eqb-true b 101 second.0 i ∷ eqb-true c 109 third.0 i ∷ eqb-true d 112 third.1 i ∷ rest

temp_begins : (rest : List ℕ) → begins_temp (codes "temp" ++ rest) ≡ true
temp_begins rest = ap (λ b. if b then false else true) (le-ltb (length (codes "temp" ++ rest)) 4 (omega arith))

-- a name is numbered where it has just such a number behind the word
numbered_so : (name : List ℕ) → is_numbered (codes "temp") name ≡ is_temp name
numbered_so name = by (begins_temp name) refl
  where
    spelled : is_numbered (codes "temp") name ≡ true → name ≡ numbered (codes "temp") (digits_value 10 (drop 4 name))
    spelled is = (bytes_eq-Decides name (numbered (codes "temp") (digits_value 10 (drop 4 name)))).0 is

    none : (b : Bool) → is_numbered (codes "temp") name ≡ b → begins_temp name ≡ false → b ≡ false
    none false is other = refl
    none true is other = absurd (true≢false (sym (temp_begins (decimal (digits_value 10 (drop 4 name)))) ∙ sym (ap begins_temp (spelled is)) ∙ other))

    no_number : (b : Bool) → is_numbered (codes "temp") name ≡ b → is_number (drop 4 name) ≡ false → b ≡ false
    no_number false is other = refl
    no_number true is other = absurd (true≢false (sym (spelled_number (drop 4 name) (ap (drop 4) (spelled is))) ∙ other))

    number : begins_temp name ≡ true → (b : Bool) → is_number (drop 4 name) ≡ b → is_numbered (codes "temp") name ≡ b
    number begins true same =
        (bytes_eq-Decides name (numbered (codes "temp") (digits_value 10 (drop 4 name)))).1 (four_long name begins ∙ ap (λ (l : List ℕ). codes "temp" ++ l) (sym (number_spelled (drop 4 name) same)))
    number begins false same = no_number (is_numbered (codes "temp") name) refl same

    by : (b : Bool) → begins_temp name ≡ b → is_numbered (codes "temp") name ≡ is_temp name
    by false begins = none (is_numbered (codes "temp") name) refl begins ∙ sym (ap (λ b. if not b then false else is_number (drop 4 name)) begins)
    by true begins = number begins (is_number (drop 4 name)) refl ∙ sym (ap (λ b. if not b then false else is_number (drop 4 name)) begins)

-- ---- the entries

-- what is told of an entry is what makes it one that waits
waits_so : (p : Placed) → (is_file p.value && (not (is_link p) && is_numbered (codes "temp") p.name)) ≡ is_waiting (as_child p)
waits_so p = ap (λ b. is_file p.value && (not (is_link p) && b)) (numbered_so p.name) ∙ by p.value
  where
    by : (value : CatRecord) → (is_file value && (not (is_link (record p { value = value })) && is_temp p.name)) ≡ (is_own_record value && is_temp p.name)
    by (Folder folder) = refl
    by (File file) = refl
    by (Thread thread) = refl

-- the least of a CNID that was found and of these
abbrev least_behind : Option ℕ → List Placed → Option ℕ
least_behind None xs = least xs
least_behind (Some id) xs = Some (least_from id xs)

module _ (private : ℕ) where
  abbrev waits : Placed → Bool
  waits p = (p.parent == private) && (is_file p.value && (not (is_link p) && is_numbered (codes "temp") p.name))

  abbrev inside : List Placed → List Placed
  inside entries = kept (λ (p : Placed). p.parent == private) entries

  one : (found : Option ℕ) (p : Placed) (here wait : Bool) → (here ≡ true → wait ≡ is_waiting (as_child p)) → (rest : List Placed) (others : List Placed)
      → ((m : Option ℕ) → least_behind m rest ≡ found_among m (map as_child others))
      → least_behind found ((if here && wait then p ∷ [] else []) ++ rest) ≡ found_among found (map as_child ((if here then p ∷ [] else []) ++ others))
  one found p false wait is rest others goes = goes found
  one None p true true is rest others goes = goes (Some (id_of p)) ∙ ap (λ b. found_among (if b then Some (id_of p) else None) (map as_child others)) (is refl)
  one (Some id) p true true is rest others goes = goes (Some (lesser (Some id) (id_of p))) ∙ ap (λ b. found_among (if b then Some (lesser (Some id) (id_of p)) else Some id) (map as_child others)) (is refl)
  one found p true false is rest others goes = goes found ∙ ap (λ b. found_among (if b then Some (lesser found (id_of p)) else found) (map as_child others)) (is refl)

  all_of_them : (entries : List Placed) (found : Option ℕ) → least_behind found (kept waits entries) ≡ found_among found (map as_child (inside entries))
  all_of_them [] None = refl
  all_of_them [] (Some id) = refl
  all_of_them (p ∷ entries) found = one found p (p.parent == private) (is_file p.value && (not (is_link p) && is_numbered (codes "temp") p.name)) (λ here. waits_so p) (kept waits entries) (inside entries) (all_of_them entries)

and_four : (a b c d : Bool) → (a && b && c && d) ≡ (a && (b && (c && d)))
and_four true true true d = refl
and_four true true false d = refl
and_four true false c d = refl
and_four false b c d = refl

orphan_is : (records : List Placed) (private : ℕ) → private_id records ≡ Some private → orphans_of records ≡ kept (waits private) (entries_of records)
orphan_is records private is =
    flat_agree (λ (p : Placed). if is_orphan records p then p ∷ [] else []) (λ (p : Placed). if waits private p then p ∷ [] else []) (entries_of records)
    (λ p stands. ap (λ b. if b then p ∷ [] else []) (and_four (is_in (private_id records) p) (is_file p.value) (not (is_link p)) (is_numbered (codes "temp") p.name)
    ∙ ap (λ (o : Option ℕ). is_in o p && (is_file p.value && (not (is_link p) && is_numbered (codes "temp") p.name))) is))

-- what was found is the least CNID of the files that wait
pub least_found : (pairs : List Pair) (private : ℕ) → private_id (placed_in pairs) ≡ Some private → found_among None (children_in private pairs) ≡ least (orphans_of (placed_in pairs))
least_found pairs private is = sym (all_of_them private (entries_of (placed_in pairs)) None) ∙ ap least (sym (orphan_is (placed_in pairs) private is))

abbrev nothing_of : Placed → List Placed
nothing_of p = []

-- without a private folder there is none
pub none_waits : (records : List Placed) → private_id records ≡ None → least (orphans_of records) ≡ None
none_waits records is =
    ap least (flat_agree (λ (p : Placed). if is_orphan records p then p ∷ [] else []) nothing_of (entries_of records)
    (λ p stands. ap (λ (o : Option ℕ). if (is_in o p && is_file p.value && not (is_link p) && is_numbered (codes "temp") p.name) then p ∷ [] else []) is)
    ∙ nothing (entries_of records))
  where
    nothing : (xs : List Placed) → flat_map nothing_of xs ≡ []
    nothing [] = refl
    nothing (x ∷ xs) = nothing xs
