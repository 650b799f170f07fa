-- What stays of a file's entries behind a step: only what takes a name of it takes an entry.
use Rattle.std.proofs.Common.{◌≡◌, ◌⊎◌, ◌<◌, ◌≤◌, ◌+◌, ◌++◌, ℕ, Bool, true, false, List, [], ◌∷◌, inl, inr, refl, sym, ◌∙◌, ap, subst, arith, eq-eqb, ⊎_elim}
use Rattle.std.specs.Prelude.{Contains, length, ◌==◌, not, count_by, Option, Some, None, Result, Ok, Err, if◌then◌else◌}
use Rattle.std.proofs.lemmas.Bool.{eqb-true, true≢false}
use Rattle.hfs_language.specs.declared.command.Command.{Command}
use Rattle.hfs_language.specs.declared.command.Command.TheVariants as command
use Rattle.hfs_language.specs.declared.refusal.Refusal.{Refusal}
use Rattle.hfs_language.specs.declared.refusal.Refusal.TheVariants as refusal
use Rattle.hfs_language.specs.declared.reply.Reply.{Reply}
use Rattle.hfs_language.specs.declared.reply.Reply.TheVariants as reply
use Rattle.hfs_model.specs.Plain.{IsPlainTree, entries_in, entry_before, is_at, names_of, node_at}
use Rattle.hfs_model.specs.Sorted.{IsInOrder, kept, put_before}
use Rattle.hfs_model.specs.Step.{Place, Step, is_private, is_refusal, is_root, is_same_file, linked, made, moved, moved_over, on, place, reached, refuses, removed, removed_folder, resized, root_entry, step, step_line, then_, to_attribute, to_file, to_folder, to_link, to_make, to_mv, to_node, to_read, to_rm, to_rmdir, to_set, to_trunc, to_value, to_write, unless, vacated, written}
use Rattle.hfs_model.specs.declared.plain.PlainEntry.{PlainEntry}
use Rattle.hfs_model.specs.declared.plain.PlainNode.{PlainNode}
use Rattle.hfs_model.specs.declared.plain.PlainTree.{PlainTree}
use Rattle.hfs_volume.specs.Laws.{one_if}
use Rattle.hfs_volume.proofs.Counting.{count_cons}
use Rattle.hfs_volume.proofs.Flat.{found_some}
use Rattle.hfs_volume.proofs.Members.{at_front, behind, first_or_later, kept_cases, kept_stands}
use Rattle.hfs_volume.proofs.Reaching.{then_ok, unless_ok, ok_same}
use Rattle.open_files.specs.Machine.{Taken, replaced, taken_by, taken_entry, tree_by}
use Rattle.session_lines.specs.Owning.{HasEntry}
use Rattle.session_lines.proofs.Owned.{mv_pair, pair_place, some_counted, unnamed_entries, written_same}
use Rattle.session_lines.proofs.Places.{IsPlaced, is_placed, one_at_place, one_way, placed, walked_to}
use Rattle.session_lines.proofs.Sorting.{each_by, put_stands, put_still}

-- ---- two names

pub count_parts : {X : Type 0} (p test : X → Bool) (xs : List X) → count_by p xs ≡ count_by p (kept (λ x. not (test x)) xs) + count_by p (kept test xs)
count_parts p test [] = refl
count_parts {X} p test (x ∷ xs) = by (count_parts p test xs) (test x)
  where
    by : count_by p xs ≡ count_by p (kept (λ y. not (test y)) xs) + count_by p (kept test xs) → (b : Bool)
        → count_by p (x ∷ xs) ≡ count_by p ((if not b then x ∷ [] else []) ++ kept (λ y. not (test y)) xs) + count_by p ((if b then x ∷ [] else []) ++ kept test xs)
    by rest true = omega (arith, count_cons p x xs, count_cons p x (kept test xs), rest)
    by rest false = omega (arith, count_cons p x xs, count_cons p x (kept (λ y. not (test y)) xs), rest)

-- of what has one place there is one at most
pub few_at : (p : PlainEntry → Bool) (parent : ℕ) (name : List ℕ) (entries : List PlainEntry) → IsInOrder entry_before entries → count_by p (kept (is_at parent name) entries) ≤ 1
few_at p parent name [] order = omega arith
few_at p parent name (x ∷ xs) order = by (is_at parent name x) refl (few_at p parent name xs order.1)
  where
    none : (ys : List PlainEntry) → ((y : PlainEntry) → Contains ys y → is_at parent name y ≡ false) → kept (is_at parent name) ys ≡ []
    none [] each = refl
    none (y ∷ ys) each = λ i. (if each y (at_front y ys) i then y ∷ [] else []) ++ none ys (λ z stands. each z (behind y z ys stands)) i

    not_again : is_at parent name x ≡ true → (y : PlainEntry) → Contains xs y → is_at parent name y ≡ false
    not_again here y stands = by_test (is_at parent name y) refl
      where
        by_test : (b : Bool) → is_at parent name y ≡ b → b ≡ false
        by_test false is = refl
        by_test true is = absurd (one_way parent name x y here is (each_by (λ later. entry_before x later ≡ true) xs order.0 y stands))

    by : (b : Bool) → is_at parent name x ≡ b → count_by p (kept (is_at parent name) xs) ≤ 1 → count_by p ((if b then x ∷ [] else []) ++ kept (is_at parent name) xs) ≤ 1
    by true is rest = subst (λ (l : List PlainEntry). count_by p (x ∷ l) ≤ 1) (sym (none xs (not_again is))) (at_most (p x))
      where
        at_most : (b : Bool) → count_by p (x ∷ []) ≤ 1
        at_most b = omega (arith, count_cons p x [], some (p x))
          where
            some : (c : Bool) → one_if c ≤ 1
            some true = omega arith
            some false = omega arith
    by false is rest = rest

-- where there are two, one stays that isn't at a place
pub other_stays : (tree : PlainTree) → IsInOrder entry_before tree.entries → (p : PlainEntry → Bool) → 2 ≤ count_by p tree.entries → (parent : ℕ) (name : List ℕ)
    → (entry : PlainEntry) × Contains (kept (λ (e : PlainEntry). not (is_at parent name e)) tree.entries) entry × (p entry ≡ true)
other_stays tree order p two parent name =
    let parts = count_parts p (is_at parent name) tree.entries in
    let few = few_at p parent name tree.entries order in
    some_counted p (kept (λ (e : PlainEntry). not (is_at parent name e)) tree.entries) (omega (arith, parts, few, two))

-- ---- a step

abbrev node_or : PlainNode → Option PlainNode → PlainNode
node_or other None = other
node_or other (Some one) = one

-- entries of one id are of one kind
pub same_kind : (tree : PlainTree) → IsPlainTree tree → (one other : PlainEntry) → Contains tree.entries one → Contains tree.entries other → one.id ≡ other.id → one.folder ≡ other.folder
same_kind tree plain one other has_one has_other same =
    let first = (plain.named one has_one).named in
    let second = (plain.named other has_other).named in
    let node : first.0 ≡ second.0 = ap (node_or first.0) (sym first.1 ∙ ap (λ n. node_at tree n) same ∙ second.1) in
    sym first.2 ∙ ap (λ (n : PlainNode). n.folder) node ∙ second.2

-- what a removal removes is what its path reaches
pub rm_reached : (tree : PlainTree) (path : List (List ℕ)) (at : PlainEntry) → to_rm tree path ≡ Ok at → reached tree path ≡ Ok at
rm_reached tree path at is =
    let first = then_ok (unless (is_root path) refusal.Root path) (λ named. then_ (reached tree named) (λ at. unless at.folder refusal.IsFolder at)) at is in
    let root = unless_ok (is_root path) refusal.Root path first.0 first.1 in
    let second = then_ok (reached tree first.0) (λ at. unless at.folder refusal.IsFolder at) at first.2 in
    let kind = unless_ok second.0.folder refusal.IsFolder second.0 at second.2 in
    ap (reached tree) root.1 ∙ second.1 ∙ ap (λ (e : PlainEntry). Ok e) kind.1

-- a command that isn't refused takes a name of this file only where that has two
abbrev pub SparesOne : PlainTree → Command → ℕ → Type 0
SparesOne tree asked id = refuses tree (Ok asked) ≡ false → (taken : Taken) → taken_by tree asked ≡ Some taken → taken.id ≡ id → 2 ≤ names_of tree id

module _ (tree : PlainTree) (plain : IsPlainTree tree) (id : ℕ) (entry : PlainEntry) (stands : Contains tree.entries entry) (its : entry.id ≡ id) (kind : entry.folder ≡ false) where
  here : HasEntry tree id
  here = (entry, stands, its, kind)

  -- a step that is refused changes nothing
  on_has : {X : Type 0} (r : Result X Refusal) (next : X → Step) → ((x : X) → r ≡ Ok x → HasEntry (next x).1 id) → HasEntry (on tree r next).1 id
  on_has (Ok x) next has = has x refl
  on_has (Err why) next has = here

  -- of two names one is left
  left_one : 2 ≤ names_of tree id → (parent : ℕ) (name : List ℕ) → (x : PlainEntry) × Contains (kept (λ (e : PlainEntry). not (is_at parent name e)) tree.entries) x × Contains tree.entries x × (x.id ≡ id) × (x.folder ≡ false)
  left_one two parent name =
      let other = other_stays tree plain.entries_sorted (λ (e : PlainEntry). e.id == id) two parent name in
      let was = kept_cases (λ (e : PlainEntry). not (is_at parent name e)) tree.entries other.0 other.1 in
      let same : other.0.id ≡ id = eqb-true other.0.id id other.2 in
      (other.0, other.1, was.0, same, same_kind tree plain other.0 entry was.0 stands (same ∙ sym its) ∙ kind)

  -- without what stands at a place, of which there are two names where it is the file's
  without_one : (at : PlainEntry) → Contains tree.entries at → (at.id ≡ id → 2 ≤ names_of tree id)
      → (x : PlainEntry) × Contains (kept (λ (e : PlainEntry). not (is_at at.parent at.name e)) tree.entries) x × Contains tree.entries x × (x.id ≡ id) × (x.folder ≡ false)
  without_one at there two = by (is_at at.parent at.name entry) refl
    where
      by : (b : Bool) → is_at at.parent at.name entry ≡ b → (x : PlainEntry) × Contains (kept (λ (e : PlainEntry). not (is_at at.parent at.name e)) tree.entries) x × Contains tree.entries x × (x.id ≡ id) × (x.folder ≡ false)
      by false off = (entry, kept_stands (λ (e : PlainEntry). not (is_at at.parent at.name e)) tree.entries entry stands (ap not off), stands, its, kind)
      by true on_it =
          let same : entry ≡ at = one_at_place tree.entries plain.entries_sorted at.parent at.name entry at stands there on_it (is_placed at.parent at.name at refl refl) in
          left_one (two (ap (λ (e : PlainEntry). e.id) (sym same) ∙ its)) at.parent at.name

  removed_has : (at : PlainEntry) → Contains tree.entries at → (at.id ≡ id → 2 ≤ names_of tree id) → (x : PlainEntry) × Contains (removed at tree).entries x × Contains tree.entries x × (x.id ≡ id) × (x.folder ≡ false)
  removed_has at there two =
      let left = without_one at there two in
      let same = unnamed_entries tree at.id (record tree { entries = kept (λ (e : PlainEntry). not (is_at at.parent at.name e)) tree.entries }) in
      (left.0, subst (λ (l : List PlainEntry). Contains l left.0) (sym same) left.1, left.2, left.3, left.4)

  -- one of these entries stands behind a move of this one, too
  moved_has : (at : PlainEntry) → Contains tree.entries at → (goal : Place) (entries : List PlainEntry) (x : PlainEntry) → Contains entries x → Contains tree.entries x → x.id ≡ id → x.folder ≡ false
      → (y : PlainEntry) × Contains (put_before entry_before (record at { parent = goal.folder; name = goal.name }) (kept (λ (e : PlainEntry). not (is_at at.parent at.name e)) entries)) y × (y.id ≡ id) × (y.folder ≡ false)
  moved_has at there goal entries x has was same file = by (is_at at.parent at.name x) refl
    where
      by : (b : Bool) → is_at at.parent at.name x ≡ b
          → (y : PlainEntry) × Contains (put_before entry_before (record at { parent = goal.folder; name = goal.name }) (kept (λ (e : PlainEntry). not (is_at at.parent at.name e)) entries)) y × (y.id ≡ id) × (y.folder ≡ false)
      by false off = (
        x,
        put_still entry_before (record at { parent = goal.folder; name = goal.name }) (kept (λ (e : PlainEntry). not (is_at at.parent at.name e)) entries) x (kept_stands (λ (e : PlainEntry). not (is_at at.parent at.name e)) entries x has (ap not off)),
        same,
        file,
      )
      by true on_it =
          let one : x ≡ at = one_at_place tree.entries plain.entries_sorted at.parent at.name x at was there on_it (is_placed at.parent at.name at refl refl) in (
            record at { parent = goal.folder; name = goal.name },
            put_stands entry_before (record at { parent = goal.folder; name = goal.name }) (kept (λ (e : PlainEntry). not (is_at at.parent at.name e)) entries),
            ap (λ (e : PlainEntry). e.id) (sym one) ∙ same,
            ap (λ (e : PlainEntry). e.folder) (sym one) ∙ file,
          )

  put_has : (item : PlainEntry) → Contains (put_before entry_before item tree.entries) entry
  put_has item = put_still entry_before item tree.entries entry stands

  -- what a path reaches that isn't the root stands in the tree
  reached_stands : (path : List (List ℕ)) (at : PlainEntry) → is_root path ≡ false → reached tree path ≡ Ok at → Contains tree.entries at
  reached_stands [] at named is = absurd (true≢false named)
  reached_stands (name ∷ path) at named is = walked_to tree path root_entry at name is

  rm_at : (path : List (List ℕ)) (at : PlainEntry) → to_rm tree path ≡ Ok at → (is_root path ≡ false) × (reached tree path ≡ Ok at) × (at.folder ≡ false)
  rm_at path at is =
      let first = then_ok (unless (is_root path) refusal.Root path) (λ named. then_ (reached tree named) (λ at. unless at.folder refusal.IsFolder at)) at is in
      let root = unless_ok (is_root path) refusal.Root path first.0 first.1 in
      let second = then_ok (reached tree first.0) (λ at. unless at.folder refusal.IsFolder at) at first.2 in
      let kind = unless_ok second.0.folder refusal.IsFolder second.0 at second.2 in
      (root.0, ap (reached tree) root.1 ∙ second.1 ∙ ap (λ (e : PlainEntry). Ok e) kind.1, ap (λ (e : PlainEntry). e.folder) (sym kind.1) ∙ kind.0)

  rmdir_at : (path : List (List ℕ)) (at : PlainEntry) → to_rmdir tree path ≡ Ok at → (is_root path ≡ false) × (reached tree path ≡ Ok at) × (at.folder ≡ true)
  rmdir_at path at is =
      let first = then_ok (unless (is_root path) refusal.Root path) (λ named. then_ (reached tree named) (λ at. then_ (unless (not at.folder) refusal.NotFolder at) (λ folder. unless (not (length (entries_in tree folder.id) == 0)) refusal.NotEmpty folder))) at is in
      let root = unless_ok (is_root path) refusal.Root path first.0 first.1 in
      let second = then_ok (reached tree first.0) (λ at. then_ (unless (not at.folder) refusal.NotFolder at) (λ folder. unless (not (length (entries_in tree folder.id) == 0)) refusal.NotEmpty folder)) at first.2 in
      let third = then_ok (unless (not second.0.folder) refusal.NotFolder second.0) (λ folder. unless (not (length (entries_in tree folder.id) == 0)) refusal.NotEmpty folder) at second.2 in
      let kind = unless_ok (not second.0.folder) refusal.NotFolder second.0 third.0 third.1 in
      let empty = unless_ok (not (length (entries_in tree third.0.id) == 0)) refusal.NotEmpty third.0 at third.2 in
      let same : second.0 ≡ at = kind.1 ∙ empty.1 in
      (root.0, ap (reached tree) root.1 ∙ second.1 ∙ ap (λ (e : PlainEntry). Ok e) same, ap (λ (e : PlainEntry). e.folder) (sym same) ∙ is_so second.0.folder kind.0)
    where
      is_so : (b : Bool) → not b ≡ false → b ≡ true
      is_so true is = refl
      is_so false is = absurd (true≢false is)

  mv_has : (from to : List (List ℕ)) (pair : PlainEntry × Place) → to_mv tree from to ≡ Ok pair → ((taken : Taken) → taken_by tree (command.Mv from to) ≡ Some taken → taken.id ≡ id → 2 ≤ names_of tree id) → HasEntry (moved_over pair.0 pair.1 tree) id
  mv_has from to pair is two = by_same (is_same_file pair.0 pair.1.found) refl
    where
      at_is : (is_root to ≡ false) × IsPlaced tree to pair.1.folder pair.1.name × (reached tree from ≡ Ok pair.0) × (is_root from ≡ false) × (place tree to ≡ Ok pair.1)
      at_is = pair_place tree from to pair (mv_pair tree from to pair is).0

      there : Contains tree.entries pair.0
      there = reached_stands from pair.0 at_is.3 at_is.2

      by_found : (o : Option PlainEntry) → pair.1.found ≡ o → is_same_file pair.0 o ≡ false → HasEntry (moved pair.0 pair.1 (vacated o tree)) id
      by_found None found other = moved_has pair.0 there pair.1 tree.entries entry stands stands its kind
      by_found (Some gone) found other =
          let where_it = found_some (is_at pair.1.folder pair.1.name) tree.entries gone (sym (placed tree to pair.1 at_is.4).1 ∙ found) in
          let spare : gone.id ≡ id → 2 ≤ names_of tree id = λ same. two (record { path = to; id = gone.id })
          (ap (λ (r : Result (PlainEntry × Place) Refusal). taken_entry to (then_ r (λ p. replaced p.0.id p.1.found))) is ∙ ap (λ (o : Option PlainEntry). taken_entry to (replaced pair.0.id o)) found
          ∙ ap (λ b. taken_entry to (if b then Err refusal.NotFound else Ok gone)) other
          ∙ ap (λ b. if b then None else Some (record { path = to; id = gone.id })) (same_kind tree plain gone entry where_it.0 stands (same ∙ sym its) ∙ kind)) same in
          let left = removed_has gone where_it.0 spare in
          moved_has pair.0 there pair.1 (removed gone tree).entries left.0 left.1 left.2 left.3 left.4

      by_same : (b : Bool) → is_same_file pair.0 pair.1.found ≡ b → HasEntry (if b then tree else moved pair.0 pair.1 (vacated pair.1.found tree)) id
      by_same true same = here
      by_same false other = by_found pair.1.found refl other

  written_has : (file : PlainNode) (from : ℕ) (value : List ℕ) → HasEntry (written file from value tree) id
  written_has file from value = (entry, subst (λ (l : List PlainEntry). Contains l entry) (sym (written_same tree file from value)) stands, its, kind)

  -- The file has an entry behind a step, where it spares one.
  step_has : (asked : Command) → is_private asked ≡ false → SparesOne tree asked id → HasEntry (step tree asked).1 id
  step_has (command.Mkdir path) own spares = on_has (to_make tree path) (λ at. (reply.Ok, made true at tree)) (λ goal is. (entry, put_has (record { parent = goal.folder; name = goal.name; folder = true; id = tree.next_id }), its, kind))
  step_has (command.Create path) own spares = on_has (to_make tree path) (λ at. (reply.Ok, made false at tree)) (λ goal is. (entry, put_has (record { parent = goal.folder; name = goal.name; folder = false; id = tree.next_id }), its, kind))
  step_has (command.Rm path) own spares = on_has (to_rm tree path) (λ at. (reply.Ok, removed at tree))
      (λ at is.
      let at_is = rm_at path at is in
      let fine : refuses tree (Ok (command.Rm path)) ≡ false =
      ap (λ b. is_refusal (if b then (reply.No refusal.Private, tree) else step tree (command.Rm path)).0) own ∙ ap (λ (r : Result PlainEntry Refusal). is_refusal (on tree r (λ at. (reply.Ok, removed at tree))).0) is in
      let left = removed_has at (reached_stands path at at_is.0 at_is.1)
      (λ same. spares fine (record { path = path; id = at.id }) (ap (taken_entry path) at_is.1 ∙ ap (λ b. if b then None else Some (record { path = path; id = at.id })) at_is.2) same) in
      (left.0, left.1, left.3, left.4))
  step_has (command.Rmdir path) own spares = on_has (to_rmdir tree path) (λ at. (reply.Ok, removed_folder at tree))
      (λ at is.
      let at_is = rmdir_at path at is in
      let there = reached_stands path at at_is.0 at_is.1 in
      let left = without_one at there (λ same. absurd (true≢false (sym at_is.2 ∙ same_kind tree plain at entry there stands (same ∙ sym its) ∙ kind))) in
      (left.0, left.1, left.3, left.4))
  step_has (command.Mv from to) own spares = on_has (to_mv tree from to) (λ pair. (reply.Ok, moved_over pair.0 pair.1 tree))
      (λ pair is.
      let fine : refuses tree (Ok (command.Mv from to)) ≡ false =
      ap (λ b. is_refusal (if b then (reply.No refusal.Private, tree) else step tree (command.Mv from to)).0) own ∙ ap (λ (r : Result (PlainEntry × Place) Refusal). is_refusal (on tree r (λ pair. (reply.Ok, moved_over pair.0 pair.1 tree))).0) is in
      mv_has from to pair is (spares fine))
  step_has (command.Ln from to) own spares = on_has (to_link tree from to) (λ pair. (reply.Ok, linked pair.0 pair.1 tree)) (λ pair is. (entry, put_has (record { parent = pair.1.folder; name = pair.1.name; folder = false; id = pair.0.id }), its, kind))
  step_has (command.Write path from value) own spares = on_has (to_write tree path from value) (λ file. (reply.Ok, written file from value tree)) (λ file is. written_has file from value)
  step_has (command.Read path from long) own spares = on_has (to_read tree path long) _ (λ file is. here)
  step_has (command.Trunc path size) own spares = on_has (to_trunc tree path size) (λ file. (reply.Ok, resized file size tree)) (λ file is. here)
  step_has (command.Ls path) own spares = on_has (to_folder tree path) _ (λ file is. here)
  step_has (command.Stat path) own spares = on_has (to_node tree path) _ (λ file is. here)
  step_has (command.Chmod path mode) own spares = on_has (to_node tree path) _ (λ file is. here)
  step_has (command.SetAttr path name value) own spares = on_has (to_set tree path value) _ (λ file is. here)
  step_has (command.GetAttr path name) own spares = on_has (to_value tree path name) _ (λ file is. here)
  step_has (command.DelAttr path name) own spares = on_has (to_attribute tree path name) _ (λ file is. here)
  step_has (command.LsAttr path) own spares = on_has (to_node tree path) _ (λ file is. here)
  step_has (command.At moment) own spares = here
  step_has command.Df own spares = here
  step_has command.Sync own spares = here

  pub line_has : (asked : Command) → SparesOne tree asked id → HasEntry (step_line tree (Ok asked)).1 id
  line_has asked spares = by (is_private asked) refl
    where
      by : (b : Bool) → is_private asked ≡ b → HasEntry (if b then (reply.No refusal.Private, tree) else step tree asked).1 id
      by true private = here
      by false own = step_has asked own spares

-- the same by the reply
pub entry_by : (tree : PlainTree) → IsPlainTree tree → (id : ℕ) (asked : Command) (got : Reply) → HasEntry tree id → SparesOne tree asked id → HasEntry (tree_by tree asked got) id
entry_by tree plain id asked got has spares = by (is_refusal got)
  where
    by : (b : Bool) → HasEntry (if b then tree else (step_line tree (Ok asked)).1) id
    by true = has
    by false = line_has tree plain id has.0 has.1 has.2 has.3 asked spares
