-- Where Save is done ahead of a command, each file that is open has two names of which the command may take one.
use Rattle.std.proofs.Common.{◌≡◌, ◌≢◌, ◌⊎◌, ◌<◌, ◌≤◌, ◌+◌, ℕ, Bool, true, false, List, [], ◌∷◌, inl, inr, refl, sym, ◌∙◌, ap, subst, arith, eq-eqb, ⊎_elim}
use Rattle.std.specs.Prelude.{Contains, ◌==◌, ◌&&◌, ◌||◌, ◌^◌, not, find, count_by, decimal, is_some, Option, Some, None, Result, Ok, Err, if◌then◌else◌}
use Rattle.std.specs.List.{list_any}
use Rattle.std.specs.Option.{ok_or}
use Rattle.std.specs.Str.{bytes_eq}
use Rattle.std.proofs.lemmas.Bool.{and_parts, eqb-true, true≢false}
use Rattle.std.proofs.lemmas.Fmt.{decimal_injective}
use Rattle.std.proofs.lemmas.Slice.Eq.{bytes_eq-Decides}
use Rattle.hfs_language.specs.declared.command.Command.{Command}
use Rattle.hfs_language.specs.declared.command.Command.TheVariants as command
use Rattle.hfs_language.specs.declared.refusal.Refusal.{Refusal}
use Rattle.hfs_language.specs.declared.refusal.Refusal.TheVariants as refusal
use Rattle.hfs_language.specs.declared.reply.Reply.{Reply}
use Rattle.hfs_language.specs.declared.reply.Reply.TheVariants as reply
use Rattle.hfs_model.specs.Plain.{entry_at, entry_before, is_at, is_node, names_of, node_at}
use Rattle.hfs_model.specs.Sorted.{kept, put_before}
use Rattle.hfs_model.specs.Step.{Place, Step, is_private, is_refusal, is_root, linked, made, on, place, reached, refuses, root_entry, step, step_line, then_, to_link, to_mv}
use Rattle.hfs_model.specs.declared.plain.PlainEntry.{PlainEntry}
use Rattle.hfs_model.specs.declared.plain.PlainNode.{PlainNode}
use Rattle.hfs_model.specs.declared.plain.PlainTree.{PlainTree}
use Rattle.hfs_volume.specs.Laws.{one_if}
use Rattle.hfs_volume.proofs.Counting.{count_cons}
use Rattle.hfs_volume.proofs.Fitting.{differs}
use Rattle.hfs_volume.proofs.Flat.{found_some}
use Rattle.hfs_volume.proofs.Members.{kept_cases, kept_stands}
use Rattle.hfs_volume.proofs.Reaching.{found_ok, then_ok, ok_same}
use Rattle.open_files.specs.Handles.{is_held}
use Rattle.open_files.specs.Keeping.{is_keeping_path, is_kept, is_own, is_seen, keepers, keeping_entry, keeping_name, keeping_path, kept_path, names_keeping, saves, saves_by, seen_entries, seen_names, stands_in}
use Rattle.open_files.specs.Machine.{Machine, Taken, replaced, saves_for, saves_taken, taken_by, taken_entry, tree_by}
use Rattle.open_files.specs.declared.act.OpenFile.{OpenFile}
use Rattle.session_lines.specs.Owning.{HasEntry, HaveEntries, IsOwnTree}
use Rattle.session_lines.proofs.Alike.{PutsAside, taken_same}
use Rattle.session_lines.proofs.Keeping.{folder_kind, made_keeps, make_done, new_folder}
use Rattle.session_lines.proofs.Moves.{reached_there}
use Rattle.session_lines.proofs.Owned.{ln_pair, mv_pair, pair_place, some_counted}
use Rattle.session_lines.proofs.Places.{IsPlaced, apart_from_folder, apart_from_kept, counted, no_root, one_folder, place_parts, placed, walked_to}
use Rattle.session_lines.proofs.Remains.{SparesOne, count_parts}

-- ---- what a command takes a name of

-- The path of a name that a command takes leads to an entry of a file, which users see.
pub record Reaches (tree : PlainTree) (taken : Taken) : Type 0 where
  pub at : PlainEntry
  pub reaches : reached tree taken.path ≡ Ok at
  pub same : at.id ≡ taken.id
  pub kind : at.folder ≡ false
  pub stands : Contains tree.entries at
  pub seen : is_seen tree at ≡ true

abbrev taken_or : Taken → Option Taken → Taken
taken_or other None = other
taken_or other (Some taken) = taken

neither : (a b : Bool) → (a || b) ≡ false → (a ≡ false) × (b ≡ false)
neither true b is = absurd (true≢false is)
neither false b is = (refl, is)

module _ (tree : PlainTree) (own : IsOwnTree tree) where
  -- what stands at the place of another path is seen
  seen_at : (path : List (List ℕ)) → is_root path ≡ false → is_keeping_path path ≡ false → (at : PlainEntry) → IsPlaced tree path at.parent at.name → is_seen tree at ≡ true
  seen_at path named other at is = both (is_at 2 keeping_name at) (stands_in (keeping_entry tree) at) (apart_from_folder tree own.plain path at.parent at.name named other is at refl refl) (by (keeping_entry tree) refl)
    where
      by : (o : Option PlainEntry) → keeping_entry tree ≡ o → stands_in o at ≡ false
      by None found = refl
      by (Some folder) found = differs at.parent folder.id (apart_from_kept tree own.plain folder found (folder_kind tree own folder found) path at.parent at.name other is)

      both : (a b : Bool) → a ≡ false → b ≡ false → (not a && not b) ≡ true
      both a b first second = (λ i. not (first i) && not (second i))

  found_at : (path : List (List ℕ)) → is_root path ≡ false → is_keeping_path path ≡ false → (goal : Place) → place tree path ≡ Ok goal → (at : PlainEntry) → goal.found ≡ Some at → at.folder ≡ false → Reaches tree (record { path = path; id = at.id })
  found_at [] named other goal is at found kind = absurd (true≢false named)
  found_at (name ∷ path) named other goal is at found kind =
      let it = placed tree (name ∷ path) goal is in
      let there = found_some (is_at goal.folder goal.name) tree.entries at (sym it.1 ∙ found) in
      let parts = place_parts goal.folder goal.name at there.1 in
      record {
        at = at;
        reaches = reached_there tree name path ∙ ap (λ (r : Result Place Refusal). then_ r (λ (p : Place). ok_or p.found refusal.NotFound)) is ∙ ap (λ (o : Option PlainEntry). ok_or o refusal.NotFound) found;
        same = refl;
        kind = kind;
        stands = there.0;
        seen = seen_at (name ∷ path) named other at (record { at = it.0.at; reaches = it.0.reaches; kind = it.0.kind; folder_is = parts.0 ∙ it.0.folder_is; name_is = parts.1 ∙ it.0.name_is });
      }

  entry_taken : (path : List (List ℕ)) (at : PlainEntry) (taken : Taken) → (at.folder ≡ false → Reaches tree (record { path = path; id = at.id })) → (if at.folder then None else Some (record { path = path; id = at.id })) ≡ Some taken → Reaches tree taken
  entry_taken path at taken reaches is = by at.folder refl is
    where
      by : (b : Bool) → at.folder ≡ b → (if b then None else Some (record { path = path; id = at.id })) ≡ Some taken → Reaches tree taken
      by true kind same = absurd (cc same)
      by false kind same = subst (Reaches tree) (ap (taken_or taken) same) (reaches kind)

  rm_reaches : (path : List (List ℕ)) (taken : Taken) → is_keeping_path path ≡ false → taken_by tree (command.Rm path) ≡ Some taken → Reaches tree taken
  rm_reaches [] taken other is = absurd (cc is)
  rm_reaches (name ∷ path) taken other is = by (reached tree (name ∷ path)) refl is
    where
      by : (r : Result PlainEntry Refusal) → reached tree (name ∷ path) ≡ r → taken_entry (name ∷ path) r ≡ Some taken → Reaches tree taken
      by (Err why) found same = absurd (cc same)
      by (Ok at) found same =
          let goal = then_ok (place tree (name ∷ path)) (λ (p : Place). ok_or p.found refusal.NotFound) at (sym (reached_there tree name path) ∙ found) in
          entry_taken (name ∷ path) at taken (λ kind. found_at (name ∷ path) refl other goal.0 goal.1 at (found_ok goal.0.found refusal.NotFound at goal.2) kind) same

  mv_reaches : (from to : List (List ℕ)) (taken : Taken) → is_keeping_path to ≡ false → taken_by tree (command.Mv from to) ≡ Some taken → Reaches tree taken
  mv_reaches from to taken other is = by (then_ (to_mv tree from to) (λ pair. replaced pair.0.id pair.1.found)) refl is
    where
      gone : (moved : ℕ) (o : Option PlainEntry) (at : PlainEntry) → replaced moved o ≡ Ok at → o ≡ Some at
      gone moved None at same = absurd (cc same)
      gone moved (Some entry) at same = test (entry.id == moved) same
        where
          test : (b : Bool) → (if b then Err refusal.NotFound else Ok entry) ≡ Ok at → Some entry ≡ Some at
          test true it = absurd (cc it)
          test false it = ap Some (ok_same entry at it)

      by : (r : Result PlainEntry Refusal) → then_ (to_mv tree from to) (λ pair. replaced pair.0.id pair.1.found) ≡ r → taken_entry to r ≡ Some taken → Reaches tree taken
      by (Err why) found same = absurd (cc same)
      by (Ok at) found same =
          let pair = then_ok (to_mv tree from to) (λ pair. replaced pair.0.id pair.1.found) at found in
          let its = pair_place tree from to pair.0 (mv_pair tree from to pair.0 pair.1).0 in
          entry_taken to at taken (λ kind. found_at to its.0 other pair.0.1 its.4 at (gone pair.0.0.id pair.0.1.found at pair.2) kind) same

  -- What a command takes a name of is there.
  pub taken_reaches : (asked : Command) → names_keeping asked ≡ false → (taken : Taken) → taken_by tree asked ≡ Some taken → Reaches tree taken
  taken_reaches (command.Rm path) other taken is = rm_reaches path taken (neither (is_keeping_path path) false other).0 is
  taken_reaches (command.Mv from to) other taken is = mv_reaches from to taken (neither (is_keeping_path to) false (neither (is_keeping_path from) (is_keeping_path to || false) other).1).0 is
  taken_reaches (command.Mkdir path) other taken is = absurd (cc is)
  taken_reaches (command.Create path) other taken is = absurd (cc is)
  taken_reaches (command.Rmdir path) other taken is = absurd (cc is)
  taken_reaches (command.Ln from to) other taken is = absurd (cc is)
  taken_reaches (command.Write path from value) other taken is = absurd (cc is)
  taken_reaches (command.Read path from long) other taken is = absurd (cc is)
  taken_reaches (command.Trunc path size) other taken is = absurd (cc is)
  taken_reaches (command.Ls path) other taken is = absurd (cc is)
  taken_reaches (command.Stat path) other taken is = absurd (cc is)
  taken_reaches (command.Chmod path mode) other taken is = absurd (cc is)
  taken_reaches (command.SetAttr path name value) other taken is = absurd (cc is)
  taken_reaches (command.GetAttr path name) other taken is = absurd (cc is)
  taken_reaches (command.DelAttr path name) other taken is = absurd (cc is)
  taken_reaches (command.LsAttr path) other taken is = absurd (cc is)
  taken_reaches (command.At moment) other taken is = absurd (cc is)
  taken_reaches command.Df other taken is = absurd (cc is)
  taken_reaches command.Sync other taken is = absurd (cc is)

  -- ---- names that are seen, and others

  abbrev names : ℕ → PlainEntry → Bool
  names id entry = entry.id == id

  all_names : (id : ℕ) → names_of tree id ≡ count_by (names id) (kept (λ (e : PlainEntry). not (is_seen tree e)) tree.entries) + seen_names tree id
  all_names id = count_parts (names id) (is_seen tree) tree.entries

  -- a file has a name that is seen
  some_seen : (taken : Taken) → Reaches tree taken → 0 < seen_names tree taken.id
  some_seen taken it = counted (names taken.id) (seen_entries tree) it.at (kept_stands (is_seen tree) tree.entries it.at it.stands it.seen) (eq-eqb it.at.id taken.id it.same)

  -- one that is kept has one that isn't
  some_kept : (id : ℕ) → id < 2 ^ 64 → is_kept tree id ≡ true → 0 < count_by (names id) (kept (λ (e : PlainEntry). not (is_seen tree e)) tree.entries)
  some_kept id small is =
      let keeper = any_there (λ (e : PlainEntry). bytes_eq e.name (decimal id)) (keepers tree) is in
      let was = kept_cases (stands_in (keeping_entry tree)) tree.entries keeper.0 keeper.1 in
      let its = and_parts (not keeper.0.folder) (bytes_eq keeper.0.name (decimal keeper.0.id)) (own.own keeper.0 keeper.1) in
      let one : keeper.0.name ≡ decimal id = (bytes_eq-Decides keeper.0.name (decimal id)).0 keeper.2 in
      let other : keeper.0.name ≡ decimal keeper.0.id = (bytes_eq-Decides keeper.0.name (decimal keeper.0.id)).0 its.1 in
      let few = own.few in
      let less = (own.drawn keeper.0 was.0).0 in
      let same : keeper.0.id ≡ id = decimal_injective keeper.0.id id (below keeper.0.id tree.next_id less few) small (sym other ∙ one) in
      let hidden : not (is_seen tree keeper.0) ≡ true = ap (λ b. not (not (is_at 2 keeping_name keeper.0) && not b)) was.1 ∙ never (not (is_at 2 keeping_name keeper.0)) in
      counted (names id) (kept (λ (e : PlainEntry). not (is_seen tree e)) tree.entries) keeper.0 (kept_stands (λ (e : PlainEntry). not (is_seen tree e)) tree.entries keeper.0 was.0 hidden) (eq-eqb keeper.0.id id same)
    where
      below : (a b : ℕ) → a < b → b < 2 ^ 64 → a < 2 ^ 64
      below a b less few = omega (arith, less, few)

      never : (b : Bool) → not (b && false) ≡ true
      never true = refl
      never false = refl

      any_there : (p : PlainEntry → Bool) (xs : List PlainEntry) → list_any p xs ≡ true → (x : PlainEntry) × Contains xs x × (p x ≡ true)
      any_there p [] is = absurd (true≢false (sym is))
      any_there p (x ∷ xs) is = first (p x) refl is (λ later. any_there p xs later)
        where
          first : (b : Bool) → p x ≡ b → (b || list_any p xs) ≡ true → (list_any p xs ≡ true → (y : PlainEntry) × Contains xs y × (p y ≡ true)) → (y : PlainEntry) × Contains (x ∷ xs) y × (p y ≡ true)
          first true here any rest = (x, Rattle.hfs_volume.proofs.Members.at_front x xs, here)
          first false here any rest = let it = rest any in (it.0, Rattle.hfs_volume.proofs.Members.behind x it.0 xs it.1, it.2)

-- ---- what is saved ahead of a command

-- nothing, since no open file loses its last seen name; or the file is linked into the folder, which may be made first
pub data SavesAs (machine : Machine) (asked : Command) : List Command → Type 0 where
  nothing : ((id : ℕ) → is_held machine.handles id ≡ true → SparesOne machine.tree asked id) → SavesAs machine asked []
  links : (folder : PlainEntry) (taken : Taken) → keeping_entry machine.tree ≡ Some folder → taken_by machine.tree asked ≡ Some taken → SavesAs machine asked (command.Ln taken.path (kept_path taken.id) ∷ [])
  makes : (taken : Taken) → keeping_entry machine.tree ≡ None → taken_by machine.tree asked ≡ Some taken → SavesAs machine asked (command.Mkdir keeping_path ∷ command.Ln taken.path (kept_path taken.id) ∷ [])

module _ (machine : Machine) (own : IsOwnTree machine.tree) (asked : Command) (other : names_keeping asked ≡ false) where
  abbrev tree : PlainTree
  tree = machine.tree

  small_id : (taken : Taken) → Reaches tree taken → taken.id < 2 ^ 64
  small_id taken it = below taken.id tree.next_id (subst (λ n. n < tree.next_id) it.same (own.drawn it.at it.stands).0) own.few
    where
      below : (a b : ℕ) → a < b → b < 2 ^ 64 → a < 2 ^ 64
      below a b less few = omega (arith, less, few)

  spares_by : (taken : Taken) → taken_by tree asked ≡ Some taken → 2 ≤ names_of tree taken.id → (id : ℕ) → SparesOne tree asked id
  spares_by taken is two id fine it its same =
      let one : taken ≡ it = ap (taken_or taken) (sym is ∙ its) in
      subst (λ n. 2 ≤ names_of tree n) (ap (λ (t : Taken). t.id) one ∙ same) two

  by_kept : (taken : Taken) → taken_by tree asked ≡ Some taken → Reaches tree taken → (there kept_it : Bool) → is_some (keeping_entry tree) ≡ there → is_kept tree taken.id ≡ kept_it → SavesAs machine asked (saves_by there kept_it taken.path taken.id)
  by_kept taken is it true true there kept_is =
      let seen = some_seen tree own taken it in
      let hidden = some_kept tree own taken.id (small_id taken it) kept_is in
      nothing (λ id held. spares_by taken is (omega (arith, all_names tree own taken.id, seen, hidden)) id)
  by_kept taken is it true false there kept_is = by_folder (keeping_entry tree) refl there
    where
      by_folder : (o : Option PlainEntry) → keeping_entry tree ≡ o → is_some o ≡ true → SavesAs machine asked (command.Ln taken.path (kept_path taken.id) ∷ [])
      by_folder None found some = absurd (true≢false (sym some))
      by_folder (Some folder) found some = links folder taken found is
  by_kept taken is it false kept_it there kept_is = by_folder (keeping_entry tree) refl there
    where
      by_folder : (o : Option PlainEntry) → keeping_entry tree ≡ o → is_some o ≡ false → SavesAs machine asked (command.Mkdir keeping_path ∷ command.Ln taken.path (kept_path taken.id) ∷ [])
      by_folder None found none = makes taken found is
      by_folder (Some folder) found none = absurd (true≢false none)

  by_last : (taken : Taken) → taken_by tree asked ≡ Some taken → Reaches tree taken → (one held : Bool) → (seen_names tree taken.id == 1) ≡ one → is_held machine.handles taken.id ≡ held → SavesAs machine asked (if one && held then saves tree taken.path taken.id else [])
  by_last taken is it true true one held = by_kept taken is it (is_some (keeping_entry tree)) (is_kept tree taken.id) refl refl
  by_last taken is it true false one held = nothing (λ id is_it fine found its same.
      let this : taken ≡ found = ap (taken_or taken) (sym is ∙ its) in
      absurd (true≢false (sym is_it ∙ sym (ap (is_held machine.handles) (ap (λ (t : Taken). t.id) this ∙ same)) ∙ held)))
  by_last taken is it false held one held_is = nothing (λ id is_it.
      let some = some_seen tree own taken it in
      spares_by taken is (omega (arith, all_names tree own taken.id, some, not_one (seen_names tree taken.id) one)) id)
    where
      not_one : (n : ℕ) → (n == 1) ≡ false → n ≢ 1
      not_one n isnt same = true≢false (sym (eq-eqb n 1 same) ∙ isnt)

  by_taken : (o : Option Taken) → taken_by tree asked ≡ o → SavesAs machine asked (saves_taken machine o)
  by_taken None none = nothing (λ id held fine taken its same. absurd (cc (sym its ∙ none)))
  by_taken (Some taken) is = by_last taken is (taken_reaches tree own asked other taken is) (seen_names tree taken.id == 1) (is_held machine.handles taken.id) refl refl

  -- What the machine wants to be saved ahead of a command.
  pub saves_as : SavesAs machine asked (saves_for machine asked)
  saves_as = by (refuses tree (Ok asked)) refl
    where
      by : (b : Bool) → refuses tree (Ok asked) ≡ b → SavesAs machine asked (if b then [] else saves_taken machine (taken_by tree asked))
      by true refused = nothing (λ id held fine. absurd (true≢false (sym refused ∙ fine)))
      by false fine = by_taken (taken_by tree asked) refl

-- ---- behind a link of Save

count_put : {X : Type 0} (before : X → X → Bool) (test : X → Bool) (item : X) (xs : List X) → count_by test (put_before before item xs) ≡ count_by test xs + one_if (test item)
count_put before test item [] = omega (arith, count_cons test item [])
count_put {X} before test item (y ∷ ys) = by (count_put before test item ys) (before item y)
  where
    by : count_by test (put_before before item ys) ≡ count_by test ys + one_if (test item) → (b : Bool) → count_by test (if b then item ∷ y ∷ ys else y ∷ put_before before item ys) ≡ count_by test (y ∷ ys) + one_if (test item)
    by rest true = omega (arith, count_cons test item (y ∷ ys))
    by rest false = omega (arith, count_cons test y (put_before before item ys), count_cons test y ys, rest)

-- what is done isn't refused
abbrev pub IsReal : PlainTree → Command → Reply → Type 0
IsReal tree asked got = is_refusal got ≡ false → refuses tree (Ok asked) ≡ false

module _ (tree : PlainTree) (own : IsOwnTree tree) (folder : PlainEntry) (found : keeping_entry tree ≡ Some folder) (taken : Taken) (it : Reaches tree taken) where
  abbrev link : Command
  link = command.Ln taken.path (kept_path taken.id)

  -- the link is made
  pub record IsLinked (new : PlainTree) : Type 0 where
    pub item : PlainEntry
    pub aside : PutsAside tree new item
    pub same : item.id ≡ taken.id

  linked_is : (pair : PlainNode × Place) → to_link tree taken.path (kept_path taken.id) ≡ Ok pair → IsLinked (linked pair.0 pair.1 tree)
  linked_is pair made_it =
      let its = ln_pair tree taken.path (kept_path taken.id) pair made_it in
      let place_is = pair_place tree taken.path (kept_path taken.id) (its.0, pair.1) its.1 in
      let from : its.0 ≡ it.at = ok_same its.0 it.at (sym place_is.2 ∙ it.reaches) in
      let node = found_some (is_node its.0.id) tree.nodes pair.0 its.2 in
      let here = found_some (is_at 2 keeping_name) tree.entries folder found in
      let parts = place_parts 2 keeping_name folder here.1 in
      let below = walked_to tree [] root_entry place_is.1.at keeping_name place_is.1.reaches in
      let at_folder : pair.1.folder ≡ folder.id = place_is.1.folder_is ∙ ap (λ (e : PlainEntry). e.id) (ok_same place_is.1.at folder (sym place_is.1.reaches ∙ kept_front)) in
      record {
        item = record { parent = pair.1.folder; name = pair.1.name; folder = false; id = pair.0.id };
        aside = record {
          entries = refl;
          root = λ name other. ap (λ b. b && bytes_eq pair.1.name name) (differs pair.1.folder 2 (λ two. no_root tree own.plain folder here.0 (sym at_folder ∙ two)));
          first = λ next there up other same.
              let one : folder ≡ next = one_folder tree own.plain folder next here.0 there (folder_kind tree own folder found) (sym at_folder ∙ sym same) in
              true≢false (sym ((bytes_eq-Decides next.name keeping_name).1 (ap (λ (e : PlainEntry). e.name) (sym one) ∙ parts.1)) ∙ other);
          below = λ above next there_above there up same.
              let one : folder ≡ next = one_folder tree own.plain folder next here.0 there (folder_kind tree own folder found) (sym at_folder ∙ sym same) in
              no_root tree own.plain above there_above (sym up ∙ ap (λ (e : PlainEntry). e.parent) (sym one) ∙ parts.0);
        };
        same = eqb-true pair.0.id its.0.id node.1 ∙ ap (λ (e : PlainEntry). e.id) from ∙ it.same;
      }
    where
      kept_front : reached tree (keeping_name ∷ []) ≡ Ok folder
      kept_front = ap (λ (o : Option PlainEntry). then_ (ok_or o refusal.NotFound) (λ next. Ok next)) found

  pub link_done : refuses tree (Ok link) ≡ false → IsLinked (step_line tree (Ok link)).1
  link_done fine = by (is_private link) refl fine
    where
      by_link : (r : Result (PlainNode × Place) Refusal) → to_link tree taken.path (kept_path taken.id) ≡ r → is_refusal (on tree r (λ pair. (reply.Ok, linked pair.0 pair.1 tree))).0 ≡ false → IsLinked (on tree r (λ pair. (reply.Ok, linked pair.0 pair.1 tree))).1
      by_link (Err why) is done = absurd (true≢false done)
      by_link (Ok pair) is done = linked_is pair is

      by : (b : Bool) → is_private link ≡ b → is_refusal (if b then (reply.No refusal.Private, tree) else step tree link).0 ≡ false → IsLinked (if b then (reply.No refusal.Private, tree) else step tree link).1
      by true private done = absurd (true≢false done)
      by false private done = by_link (to_link tree taken.path (kept_path taken.id)) refl done

  -- The file has two names then.
  pub linked_spares : (new : PlainTree) → IsLinked new → (asked : Command) → names_keeping asked ≡ false → taken_by tree asked ≡ Some taken → (id : ℕ) → SparesOne new asked id
  linked_spares new is asked other its id fine found_it now same =
      let one : taken ≡ found_it = ap (taken_or taken) (sym its ∙ sym (taken_same tree new is.item is.aside asked other) ∙ now) in
      let was = counted (λ (e : PlainEntry). e.id == taken.id) tree.entries it.at it.stands (eq-eqb it.at.id taken.id it.same) in
      let more = count_put entry_before (λ (e : PlainEntry). e.id == taken.id) is.item tree.entries in
      let this : one_if (is.item.id == taken.id) ≡ 1 = ap one_if (eq-eqb is.item.id taken.id is.same) in
      let all : names_of new taken.id ≡ count_by (λ (e : PlainEntry). e.id == taken.id) (put_before entry_before is.item tree.entries) = ap (count_by (λ (e : PlainEntry). e.id == taken.id)) is.aside.entries in
      subst (λ n. 2 ≤ names_of new n) (ap (λ (t : Taken). t.id) one ∙ same) (omega (arith, was, more, this, all))

-- ---- behind the making of the folder

pub made_aside : (tree : PlainTree) (own : IsOwnTree tree) (absent : keeping_entry tree ≡ None) (new : PlainTree) → new ≡ (step_line tree (Ok (command.Mkdir keeping_path))).1 → PutsAside tree new (new_folder tree own absent) × (keeping_entry new ≡ Some (new_folder tree own absent))
made_aside tree own absent new is =
    let same : new ≡ made true (record { folder = 2; name = keeping_name; found = None }) tree = is ∙ ap (λ (s : Step). s.1) (make_done tree own absent) in (
      record {
        entries = ap (λ (t : PlainTree). t.entries) same;
        root = other_name;
        first = λ next there up other two. no_root tree own.plain next there two;
        below = λ from next there_from there up two. no_root tree own.plain next there two;
      },
      ap keeping_entry same ∙ (made_keeps tree own absent).is,
    )
  where
    other_name : (name : List ℕ) → bytes_eq name keeping_name ≡ false → bytes_eq keeping_name name ≡ false
    other_name name other = test (bytes_eq keeping_name name) refl
      where
        test : (c : Bool) → bytes_eq keeping_name name ≡ c → c ≡ false
        test false it = refl
        test true it = absurd (true≢false (sym ((bytes_eq-Decides name keeping_name).1 (sym ((bytes_eq-Decides keeping_name name).0 it))) ∙ other))
