-- `mv` over a file is `rm` of that file, and then `mv` to the place that is free: what paths reach after a file lost a name.
use Rattle.std.proofs.Common.{◌≡◌, ℕ, ◌==◌, Bool, true, false, not, List, [], ◌∷◌, ◌++◌, refl, sym, ◌∙◌, ap, eq-eqb}
use Rattle.std.specs.Prelude.{◌&&◌, ◌||◌, find, Option, Some, None, ok_or, Result, Ok, Err, if◌then◌else◌}
use Rattle.std.specs.Str.{bytes_eq}
use Rattle.std.proofs.lemmas.Bool.{eqb-true, true≢false}
use Rattle.std.proofs.lemmas.Slice.Eq.{bytes_eq-Decides}
use Rattle.hfs_language.specs.declared.refusal.Refusal.{Refusal}
use Rattle.hfs_language.specs.declared.refusal.Refusal.TheVariants as refusal
use Rattle.hfs_model.specs.declared.plain.PlainEntry.{PlainEntry}
use Rattle.hfs_model.specs.declared.plain.PlainTree.{PlainTree}
use Rattle.hfs_model.specs.Sorted.{kept}
use Rattle.hfs_model.specs.Plain.{is_at, entry_at, names_of, without_entry, without_node}
use Rattle.hfs_model.specs.Step.{Place, child, walk, root_entry, reached, place, place_in, front, last_name, is_root, is_below, then_, unless, to_pair, to_mv, to_rm, stands_in_way, is_same_file, removed, marked, with_private}
use Rattle.hfs_volume.proofs.Booking.{find_kept}
use Rattle.hfs_volume.proofs.Flat.{found_some, some_same}
use Rattle.hfs_volume.proofs.Reaching.{ok_same, then_ok, unless_ok, if_ok, found_ok}

both_true : (a b : Bool) → (a && b) ≡ true → (a ≡ true) × (b ≡ true)
both_true true b is = (refl, is)
both_true false b is = absurd (true≢false (sym is))

right_false : (a b : Bool) → (a || b) ≡ false → b ≡ false
right_false true b is = absurd (true≢false is)
right_false false b is = is

-- an entry is at its own place alone
own_place : (parent : ℕ) (name : List ℕ) (entry : PlainEntry) → is_at parent name entry ≡ true → (entry.parent ≡ parent) × (entry.name ≡ name)
own_place parent name entry is =
    let key = both_true (entry.parent == parent) (bytes_eq entry.name name) is in
    (eqb-true entry.parent parent key.0, (bytes_eq-Decides entry.name name).0 key.1)

at_own_place : (parent : ℕ) (name : List ℕ) (entry : PlainEntry) → entry.parent ≡ parent → entry.name ≡ name → is_at parent name entry ≡ true
at_own_place parent name entry above same = (λ i. eq-eqb entry.parent parent above i && bytes_eq entry.name name) ∙ (bytes_eq-Decides entry.name name).1 same

-- a place of a name, and what is found at one in a folder
abbrev at_place : ℕ → List ℕ → Option PlainEntry → Place
at_place folder name found = record { folder = folder; name = name; found = found }

abbrev place_or : Bool → Place → Result Place Refusal
place_or folder goal = if folder then Ok goal else Err refusal.NotFolder

abbrev named_or : Bool → Option PlainEntry → Result PlainEntry Refusal
named_or folder found = if folder then ok_or found refusal.NotFound else Err refusal.NotFolder

-- what passes a test isn't found among the others
find_out : {X : Type 0} (test : X → Bool) (xs : List X) → find test (kept (λ x. not (test x)) xs) ≡ None
find_out test [] = refl
find_out {X} test (x ∷ xs) = by (find_out test xs) (test x) refl
  where
    by : find test (kept (λ y. not (test y)) xs) ≡ None → (b : Bool) → test x ≡ b → find test ((if not b then x ∷ [] else []) ++ kept (λ y. not (test y)) xs) ≡ None
    by rest true passes = rest
    by rest false fails = (λ i. if fails i then Some x else find test (kept (λ y. not (test y)) xs)) ∙ rest

-- the last step of a walk
walk_last : (tree : PlainTree) (path : List (List ℕ)) (from : PlainEntry) → is_root path ≡ false → walk tree from path ≡ then_ (walk tree from (front path)) (λ at. child tree at (last_name path))
walk_last tree [] from no_root = absurd (true≢false no_root)
walk_last tree (name ∷ []) from no_root = done (child tree from name)
  where
    done : (r : Result PlainEntry Refusal) → then_ r (λ next. Ok next) ≡ r
    done (Ok at) = refl
    done (Err why) = refl
walk_last tree (name ∷ next ∷ path) from no_root = by (λ at. walk_last tree (next ∷ path) at refl) (child tree from name)
  where
    by : ((at : PlainEntry) → walk tree at (next ∷ path) ≡ then_ (walk tree at (front (next ∷ path))) (λ e. child tree e (last_name (next ∷ path)))) → (r : Result PlainEntry Refusal)
        → then_ r (λ at. walk tree at (next ∷ path)) ≡ then_ (then_ r (λ at. walk tree at (front (next ∷ path)))) (λ at. child tree at (last_name (next ∷ path)))
    by rest (Ok at) = rest at
    by rest (Err why) = refl

-- ---- after a file lost a name

module _ (tree : PlainTree) (other : PlainEntry) (file : other.folder ≡ false) (there : entry_at tree other.parent other.name ≡ Some other) where
  abbrev less : PlainTree
  less = without_entry other.parent other.name tree

  abbrev after : PlainTree
  after = removed other tree

  entries_after : after.entries ≡ less.entries
  entries_after = by (names_of less other.id == 0)
    where
      by : (b : Bool) → (let t : PlainTree = if b then with_private (without_node other.id less) else marked other.id less in t.entries ≡ less.entries)
      by true = refl
      by false = refl

  found_elsewhere : (parent : ℕ) (name : List ℕ) → is_at parent name other ≡ false → entry_at after parent name ≡ entry_at tree parent name
  found_elsewhere parent name elsewhere = ap (find (is_at parent name)) entries_after ∙ find_kept (is_at parent name) (λ (e : PlainEntry). not (is_at other.parent other.name e)) stays tree.entries
    where
      stays : (e : PlainEntry) → is_at parent name e ≡ true → not (is_at other.parent other.name e) ≡ true
      stays e here = by (is_at other.parent other.name e) refl
        where
          by : (b : Bool) → is_at other.parent other.name e ≡ b → not b ≡ true
          by true it =
              let one = own_place parent name e here in
              let two = own_place other.parent other.name e it in
              absurd (true≢false (sym (at_own_place parent name other (sym two.0 ∙ one.0) (sym two.1 ∙ one.1)) ∙ elsewhere))
          by false it = refl

  pub gone_there : entry_at after other.parent other.name ≡ None
  gone_there = ap (find (is_at other.parent other.name)) entries_after ∙ find_out (is_at other.parent other.name) tree.entries

  child_still : (from : PlainEntry) (name : List ℕ) → is_at from.id name other ≡ false → child after from name ≡ child tree from name
  child_still from name elsewhere = ap (named_or from.folder) (found_elsewhere from.id name elsewhere)

  -- a path that leads to another entry leads there still: it doesn't go through a file
  pub walk_still : (path : List (List ℕ)) (from at : PlainEntry) → walk tree from path ≡ Ok at → (at ≡ other → ⊥) → walk after from path ≡ Ok at
  walk_still [] from at is not_it = is
  walk_still (name ∷ path) from at is not_it = let first = then_ok (child tree from name) (λ next. walk tree next path) at is in by (λ next rest. walk_still path next at rest not_it) first.0 first.1 first.2 (is_at from.id name other) refl
    where
      past : (rest : List (List ℕ)) → walk tree other rest ≡ Ok at → ⊥
      past [] reached_it = not_it (sym (ok_same other at reached_it))
      past (more ∷ rest) reached_it =
          let next = then_ok (child tree other more) (λ x. walk tree x rest) at reached_it in
          let kind = if_ok other.folder (ok_or (entry_at tree other.id more) refusal.NotFound) refusal.NotFolder next.0 next.1 in
          true≢false (sym kind.0 ∙ file)

      by : ((e : PlainEntry) → walk tree e path ≡ Ok at → walk after e path ≡ Ok at) → (next : PlainEntry) → child tree from name ≡ Ok next → walk tree next path ≡ Ok at → (b : Bool) → is_at from.id name other ≡ b → then_ (child after from name) (λ x. walk after x path) ≡ Ok at
      by still next step rest false elsewhere = ap (λ r. then_ r (λ x. walk after x path)) (child_still from name elsewhere ∙ step) ∙ still next rest
      by still next step rest true here =
          let kind = if_ok from.folder (ok_or (entry_at tree from.id name) refusal.NotFound) refusal.NotFolder next step in
          let found : entry_at tree from.id name ≡ Some next = found_ok (entry_at tree from.id name) refusal.NotFound next kind.1 in
          let key = own_place from.id name other here in
          let same : other ≡ next = some_same other next (sym there ∙ (λ i. entry_at tree (key.0 i) (key.1 i)) ∙ found) in
          absurd (past path ((λ i. walk tree (same i) path) ∙ rest))

-- ---- both commands

-- what `mv` is about: an entry and a place, where nothing stands in the way
pub record IsMoving (tree : PlainTree) (from to : List (List ℕ)) (pair : PlainEntry × Place) : Type 0 where
  pub is_pair : to_pair tree from to ≡ Ok pair
  pub free : stands_in_way pair.0 pair.1.found ≡ false
  pub outside : is_below to from ≡ false

pub moving_is : (tree : PlainTree) (from to : List (List ℕ)) (pair : PlainEntry × Place) → to_mv tree from to ≡ Ok pair → IsMoving tree from to pair
moving_is tree from to pair allowed =
    let first = then_ok (to_pair tree from to) (λ p. then_ (unless (stands_in_way p.0 p.1.found) refusal.Exists p) (unless (is_below to from) refusal.Inside)) pair allowed in
    let second = then_ok (unless (stands_in_way first.0.0 first.0.1.found) refusal.Exists first.0) (unless (is_below to from) refusal.Inside) pair first.2 in
    let free = unless_ok (stands_in_way first.0.0 first.0.1.found) refusal.Exists first.0 second.0 second.1 in
    let outside = unless_ok (is_below to from) refusal.Inside second.0 pair second.2 in
    let same : first.0 ≡ pair = free.1 ∙ outside.1 in
    record { is_pair = first.1 ∙ ap Ok same; free = ap (λ (p : PlainEntry × Place). stands_in_way p.0 p.1.found) (sym same) ∙ free.0; outside = outside.0 }

module _ (tree : PlainTree) (from to : List (List ℕ)) (pair : PlainEntry × Place) (allowed : to_mv tree from to ≡ Ok pair) (other : PlainEntry) (stood : pair.1.found ≡ Some other) where
  abbrev at : PlainEntry
  at = pair.0

  abbrev goal : Place
  goal = pair.1

  moving : IsMoving tree from to pair
  moving = moving_is tree from to pair allowed

  other_file : other.folder ≡ false
  other_file = right_false at.folder other.folder (ap (stands_in_way at) (sym stood) ∙ moving.free)

  rooted : (named : List (List ℕ)) × (unless (is_root from || is_root to) refusal.Root from ≡ Ok named) × (then_ (reached tree named) (λ x. then_ (place tree to) (λ g. Ok (x, g))) ≡ Ok pair)
  rooted = then_ok (unless (is_root from || is_root to) refusal.Root from) (λ named. then_ (reached tree named) (λ x. then_ (place tree to) (λ g. Ok (x, g)))) pair moving.is_pair

  no_roots : ((is_root from || is_root to) ≡ false) × (from ≡ rooted.0)
  no_roots = unless_ok (is_root from || is_root to) refusal.Root from rooted.0 rooted.1

  walked : (x : PlainEntry) × (reached tree rooted.0 ≡ Ok x) × (then_ (place tree to) (λ g. Ok (x, g)) ≡ Ok pair)
  walked = then_ok (reached tree rooted.0) (λ x. then_ (place tree to) (λ g. Ok (x, g))) pair rooted.2

  placed : (g : Place) × (place tree to ≡ Ok g) × (let r : Result (PlainEntry × Place) Refusal = Ok (walked.0, g) in r ≡ Ok pair)
  placed = then_ok (place tree to) (λ g. Ok (walked.0, g)) pair walked.2

  parts : (let p : PlainEntry × Place = (walked.0, placed.0) in p ≡ pair)
  parts = ok_same _ pair placed.2

  reached_at : reached tree from ≡ Ok at
  reached_at = ap (reached tree) no_roots.1 ∙ walked.1 ∙ ap Ok (ap (λ (p : PlainEntry × Place). p.0) parts)

  placed_at : place tree to ≡ Ok goal
  placed_at = placed.1 ∙ ap Ok (ap (λ (p : PlainEntry × Place). p.1) parts)

  above : (x : PlainEntry) × (reached tree (front to) ≡ Ok x) × (place_in tree (last_name to) x ≡ Ok goal)
  above = then_ok (reached tree (front to)) (place_in tree (last_name to)) goal placed_at

  abbrev its_place : Place
  its_place = at_place above.0.id (last_name to) (entry_at tree above.0.id (last_name to))

  kind : above.0.folder ≡ true
  kind = (if_ok above.0.folder (Ok its_place) refusal.NotFolder goal above.2).0

  goal_is : its_place ≡ goal
  goal_is = ok_same its_place goal (if_ok above.0.folder (Ok its_place) refusal.NotFolder goal above.2).1

  found : entry_at tree above.0.id (last_name to) ≡ Some other
  found = ap (λ (x : Place). x.found) goal_is ∙ stood

  key : (other.parent ≡ above.0.id) × (other.name ≡ last_name to)
  key = own_place above.0.id (last_name to) other (found_some (is_at above.0.id (last_name to)) tree.entries other found).1

  there_it : entry_at tree other.parent other.name ≡ Some other
  there_it = (λ i. entry_at tree (key.0 i) (key.1 i)) ∙ found

  -- `rm` of the new place is about the file that stands there
  pub vacates : to_rm tree to ≡ Ok other
  vacates =
      ap (λ r. then_ r (λ named. then_ (reached tree named) (λ x. unless x.folder refusal.IsFolder x))) (ap (λ b. unless b refusal.Root to) (right_false (is_root from) (is_root to) no_roots.0))
      ∙ ap (λ r. then_ r (λ x. unless x.folder refusal.IsFolder x)) reached_other
      ∙ ap (λ b. unless b refusal.IsFolder other) other_file
    where
      reached_other : reached tree to ≡ Ok other
      reached_other =
          walk_last tree to root_entry (right_false (is_root from) (is_root to) no_roots.0)
          ∙ ap (λ r. then_ r (λ x. child tree x (last_name to))) above.1
          ∙ (λ i. named_or (kind i) (found i))

  -- then the same `mv` is about the same entry, and a free place
  module _ (differs : is_same_file at goal.found ≡ false) where
    not_itself : at ≡ other → ⊥
    not_itself same = true≢false (sym (eq-eqb other.id at.id (ap (λ (e : PlainEntry). e.id) (sym same))) ∙ ap (is_same_file at) (sym stood) ∙ differs)

    not_above : above.0 ≡ other → ⊥
    not_above same = true≢false (sym kind ∙ ap (λ (e : PlainEntry). e.folder) same ∙ other_file)

    abbrev later : PlainTree
    later = removed other tree

    none_left : entry_at later above.0.id (last_name to) ≡ None
    none_left = (λ i. entry_at later (sym key.0 i) (sym key.1 i)) ∙ gone_there tree other other_file there_it

    abbrev free_place : Place
    free_place = record goal { found = None }

    placed_later : place later to ≡ Ok free_place
    placed_later =
        ap (λ r. then_ r (place_in later (last_name to))) (walk_still tree other other_file there_it (front to) root_entry above.0 above.1 not_above)
        ∙ (λ i. place_or (kind i) (at_place above.0.id (last_name to) (none_left i)))
        ∙ ap (λ (g : Place). place_or true (at_place g.folder g.name None)) goal_is

    pair_later : to_pair later from to ≡ Ok (at, free_place)
    pair_later =
        ap (λ r. then_ r (λ named. then_ (reached later named) (λ x. then_ (place later to) (λ g. Ok (x, g))))) (ap (λ b. unless b refusal.Root from) no_roots.0)
        ∙ ap (λ r. then_ r (λ x. then_ (place later to) (λ g. Ok (x, g)))) (walk_still tree other other_file there_it from root_entry at reached_at not_itself)
        ∙ ap (λ r. then_ r (λ g. Ok (at, g))) placed_later

    pub moves_later : to_mv later from to ≡ Ok (at, free_place)
    moves_later =
        ap (λ r. then_ r (λ p. then_ (unless (stands_in_way p.0 p.1.found) refusal.Exists p) (unless (is_below to from) refusal.Inside))) pair_later
        ∙ ap (λ b. unless b refusal.Inside (at, free_place)) moving.outside
