-- A command keeps the keeping folder the sessions' own: one whose paths don't lead there changes nothing in it, and Save and Release do so rightly.
use Rattle.std.proofs.Common.{◌≡◌, ◌⊎◌, ◌<◌, ℕ, Bool, true, false, List, [], ◌∷◌, inl, inr, refl, sym, ◌∙◌, ap, subst, arith, eq-eqb, ⊎_elim}
use Rattle.std.specs.Prelude.{Contains, ◌^◌, ◌==◌, ◌&&◌, ◌||◌, not, count_by, decimal, is_some, nat_le, Option, Some, None, Result, Ok, Err, if◌then◌else◌}
use Rattle.std.specs.List.{list_any}
use Rattle.std.specs.Option.{ok_or}
use Rattle.std.specs.Str.{bytes_eq}
use Rattle.std.proofs.lemmas.Bool.{eqb-true, true≢false}
use Rattle.std.proofs.lemmas.Slice.Eq.{bytes_eq-Decides}
use Rattle.hfs_language.specs.declared.command.Command.{Command}
use Rattle.hfs_language.specs.declared.command.Command.TheVariants as command
use Rattle.hfs_language.specs.declared.refusal.Refusal.{Refusal}
use Rattle.hfs_language.specs.declared.refusal.Refusal.TheVariants as refusal
use Rattle.hfs_language.specs.declared.reply.Reply.{Reply}
use Rattle.hfs_language.specs.declared.reply.Reply.TheVariants as reply
use Rattle.hfs_model.specs.Plain.{IsPlainTree, entry_before, is_at, is_node, names_of, node_at, without_node}
use Rattle.hfs_model.specs.Sorted.{kept, put_before}
use Rattle.hfs_model.specs.Step.{Place, Step, is_private, is_refusal, is_root, is_same_file, linked, made, marked, most_links, moved, moved_over, new_place, on, paths_of, place, removed, removed_folder, resized, step, step_line, stands_in_way, then_, to_attribute, to_folder, to_link, to_ln, to_make, to_mv, to_node, to_pair, to_read, to_rm, to_rmdir, to_set, to_trunc, to_value, to_write, unless, unnamed, vacated, with_private, written, reached, is_below, root_entry}
use Rattle.hfs_model.specs.declared.plain.PlainEntry.{PlainEntry}
use Rattle.hfs_model.specs.declared.plain.PlainNode.{PlainNode}
use Rattle.hfs_model.specs.declared.plain.PlainTree.{PlainTree}
use Rattle.hfs_volume.specs.Books.{IsGivenTree, StepKeepsTrees}
use Rattle.hfs_volume.specs.Laws.{one_if}
use Rattle.hfs_volume.proofs.Counting.{count_cons}
use Rattle.hfs_volume.proofs.Fitting.{differs}
use Rattle.hfs_volume.proofs.Flat.{found_some}
use Rattle.hfs_volume.proofs.Members.{at_front, behind, first_or_later, kept_cases, kept_stands}
use Rattle.hfs_volume.proofs.Reaching.{then_ok, unless_ok, ok_same}
use Rattle.open_files.specs.Keeping.{is_keeping_path, is_own, keepers, keeping_entry, keeping_name, keeping_path, kept_path, names_keeping, release, stands_in}
use Rattle.open_files.specs.Machine.{tree_by}
use Rattle.session_lines.specs.Owning.{IsOwnTree}
use Rattle.session_lines.proofs.Sorting.{put_cases}
use Rattle.session_lines.proofs.Keeping.{made_keeps, make_done, new_folder}
use Rattle.session_lines.proofs.Places.{IsPlaced, apart_from_folder, apart_from_kept, no_root, placed, stands_at, walked_to}

-- ---- entries behind a step

-- the entry stood there before, or stands where one of these paths names
abbrev pub Came : PlainTree → List (List (List ℕ)) → PlainEntry → Type 0
Came tree paths entry = Contains tree.entries entry ⊎ ((path : List (List ℕ)) × Contains paths path × (is_root path ≡ false) × IsPlaced tree path entry.parent entry.name)

abbrev pub AllCame : PlainTree → List (List (List ℕ)) → PlainTree → Type 0
AllCame tree paths new = (entry : PlainEntry) → Contains new.entries entry → Came tree paths entry

-- a step that is refused changes nothing
pub on_came : {X : Type 0} (tree : PlainTree) (paths : List (List (List ℕ))) (r : Result X Refusal) (next : X → Step) → ((x : X) → r ≡ Ok x → AllCame tree paths (next x).1) → AllCame tree paths (on tree r next).1
on_came tree paths (Ok x) next came = came x refl
on_came tree paths (Err why) next came = λ entry stands. inl stands

pub same_came : (tree : PlainTree) (paths : List (List (List ℕ))) (new : PlainTree) → new.entries ≡ tree.entries → AllCame tree paths new
same_came tree paths new same entry stands = inl (subst (λ (l : List PlainEntry). Contains l entry) same stands)

module _ (tree : PlainTree) where
  -- one more at the place of a path
  pub put_came : (path : List (List ℕ)) (paths : List (List (List ℕ))) → Contains paths path → is_root path ≡ false → (goal : Place) → IsPlaced tree path goal.folder goal.name → (item : PlainEntry) → item.parent ≡ goal.folder → item.name ≡ goal.name
      → (entries : List PlainEntry) → ((entry : PlainEntry) → Contains entries entry → Contains tree.entries entry) → (entry : PlainEntry) → Contains (put_before entry_before item entries) entry → Came tree paths entry
  put_came path paths has named goal at item there its_name entries old entry stands = ⊎_elim
      (λ (same : entry ≡ item). inr (
        path,
        has,
        named,
        record {
          at = at.at;
          reaches = at.reaches;
          kind = at.kind;
          folder_is = ap (λ (e : PlainEntry). e.parent) same ∙ there ∙ at.folder_is;
          name_is = ap (λ (e : PlainEntry). e.name) same ∙ its_name ∙ at.name_is;
        },
      ))
      (λ later. inl (old entry later)) (put_cases entry_before item entries entry stands)

  kept_came : (test : PlainEntry → Bool) (entries : List PlainEntry) (entry : PlainEntry) → Contains (kept test entries) entry → Contains entries entry
  kept_came test entries entry stands = (kept_cases test entries entry stands).0

  pub unnamed_entries : (id : ℕ) (t : PlainTree) → (unnamed id t).entries ≡ t.entries
  unnamed_entries id t = by (names_of t id == 0)
    where
      by : (b : Bool) → (if b then with_private (without_node id t) else marked id t).entries ≡ t.entries
      by true = refl
      by false = refl

  removed_came : (at : PlainEntry) (entry : PlainEntry) → Contains (removed at tree).entries entry → Contains tree.entries entry
  removed_came at entry stands =
      kept_came (λ (e : PlainEntry). not (is_at at.parent at.name e)) tree.entries entry
      (subst (λ (l : List PlainEntry). Contains l entry) (unnamed_entries at.id (record tree { entries = kept (λ (e : PlainEntry). not (is_at at.parent at.name e)) tree.entries })) stands)

  vacated_came : (found : Option PlainEntry) (entry : PlainEntry) → Contains (vacated found tree).entries entry → Contains tree.entries entry
  vacated_came None entry stands = stands
  vacated_came (Some other) entry stands = removed_came other entry stands

  pub written_same : (file : PlainNode) (from : ℕ) (value : List ℕ) → (written file from value tree).entries ≡ tree.entries
  written_same file from [] = refl
  written_same file from (byte ∷ value) = refl

  pub make_place : (path : List (List ℕ)) (goal : Place) → to_make tree path ≡ Ok goal → (is_root path ≡ false) × IsPlaced tree path goal.folder goal.name
  make_place path goal is =
      let first = then_ok (unless (is_root path) refusal.Root path) (new_place tree) goal is in
      let root = unless_ok (is_root path) refusal.Root path first.0 first.1 in
      let second = then_ok (place tree first.0) (λ at. unless (is_some at.found) refusal.Exists at) goal first.2 in
      let free = unless_ok (is_some second.0.found) refusal.Exists second.0 goal second.2 in
      let there : place tree path ≡ Ok goal = ap (place tree) root.1 ∙ second.1 ∙ ap (λ (p : Place). Ok p) free.1 in
      (root.0, (placed tree path goal there).0)

  pub pair_place : (from to : List (List ℕ)) (pair : PlainEntry × Place) → to_pair tree from to ≡ Ok pair → (is_root to ≡ false) × IsPlaced tree to pair.1.folder pair.1.name × (reached tree from ≡ Ok pair.0) × (is_root from ≡ false) × (place tree to ≡ Ok pair.1)
  pair_place from to pair is =
      let first = then_ok (unless (is_root from || is_root to) refusal.Root from) (λ named. then_ (reached tree named) (λ at. then_ (place tree to) (λ goal. Ok (at, goal)))) pair is in
      let root = unless_ok (is_root from || is_root to) refusal.Root from first.0 first.1 in
      let second = then_ok (reached tree first.0) (λ at. then_ (place tree to) (λ goal. Ok (at, goal))) pair first.2 in
      let third = then_ok (place tree to) (λ goal. Ok (second.0, goal)) pair second.2 in
      let same : (second.0, third.0) ≡ pair = ok_same (second.0, third.0) pair third.2 in
      let there : place tree to ≡ Ok pair.1 = third.1 ∙ ap (λ (p : PlainEntry × Place). Ok p.1) same in
      let either = neither (is_root from) (is_root to) root.0 in
      (either.1, (placed tree to pair.1 there).0, ap (reached tree) root.1 ∙ second.1 ∙ ap (λ (p : PlainEntry × Place). Ok p.0) same, either.0, there)
    where
      neither : (a b : Bool) → (a || b) ≡ false → (a ≡ false) × (b ≡ false)
      neither true b is = absurd (true≢false is)
      neither false b is = (refl, is)

  pub mv_pair : (from to : List (List ℕ)) (pair : PlainEntry × Place) → to_mv tree from to ≡ Ok pair → to_pair tree from to ≡ Ok pair × (stands_in_way pair.0 pair.1.found ≡ false)
  mv_pair from to pair is =
      let first = then_ok (to_pair tree from to) (λ pair. then_ (unless (stands_in_way pair.0 pair.1.found) refusal.Exists pair) (unless (is_below to from) refusal.Inside)) pair is in
      let second = then_ok (unless (stands_in_way first.0.0 first.0.1.found) refusal.Exists first.0) (unless (is_below to from) refusal.Inside) pair first.2 in
      let a = unless_ok (stands_in_way first.0.0 first.0.1.found) refusal.Exists first.0 second.0 second.1 in
      let b = unless_ok (is_below to from) refusal.Inside second.0 pair second.2 in
      let same : first.0 ≡ pair = a.1 ∙ b.1 in
      (first.1 ∙ ap (λ (p : PlainEntry × Place). Ok p) same, ap (λ (p : PlainEntry × Place). stands_in_way p.0 p.1.found) (sym same) ∙ a.0)

  pub ln_pair : (from to : List (List ℕ)) (pair : PlainNode × Place) → to_link tree from to ≡ Ok pair → (at : PlainEntry) × (to_pair tree from to ≡ Ok (at, pair.1)) × (node_at tree at.id ≡ Some pair.0)
  ln_pair from to pair is =
      let one = then_ok (to_ln tree from to) (λ pair. then_ (ok_or (node_at tree pair.0.id) refusal.NotFound) (λ file. Ok (file, pair.1))) pair is in
      let file = then_ok (ok_or (node_at tree one.0.0.id) refusal.NotFound) (λ file. Ok (file, one.0.1)) pair one.2 in
      let two = then_ok (to_pair tree from to) (λ pair. then_ (unless pair.0.folder refusal.IsFolder pair) (λ file. then_ (unless (is_some file.1.found) refusal.Exists file) (unless (nat_le most_links (names_of tree file.0.id)) refusal.TooManyLinks))) one.0 one.1 in
      let three = then_ok (unless two.0.0.folder refusal.IsFolder two.0) (λ file. then_ (unless (is_some file.1.found) refusal.Exists file) (unless (nat_le most_links (names_of tree file.0.id)) refusal.TooManyLinks)) one.0 two.2 in
      let four = then_ok (unless (is_some three.0.1.found) refusal.Exists three.0) (unless (nat_le most_links (names_of tree three.0.0.id)) refusal.TooManyLinks) one.0 three.2 in
      let a = (unless_ok two.0.0.folder refusal.IsFolder two.0 three.0 three.1).1 in
      let b = (unless_ok (is_some three.0.1.found) refusal.Exists three.0 four.0 four.1).1 in
      let c = (unless_ok (nat_le most_links (names_of tree three.0.0.id)) refusal.TooManyLinks four.0 one.0 four.2).1 in
      let whole : two.0 ≡ one.0 = a ∙ b ∙ c in
      let same : (file.0, one.0.1) ≡ pair = ok_same (file.0, one.0.1) pair file.2 in
      let found : node_at tree one.0.0.id ≡ Some file.0 = found_ok_ (node_at tree one.0.0.id) file.0 file.1 in (
        one.0.0,
        two.1 ∙ ap (λ (p : PlainEntry × Place). Ok p) whole ∙ ap (λ (g : Place). Ok (one.0.0, g)) (ap (λ (p : PlainNode × Place). p.1) same),
        found ∙ ap Some (ap (λ (p : PlainNode × Place). p.0) same),
      )
    where
      found_ok_ : (o : Option PlainNode) (n : PlainNode) → ok_or o refusal.NotFound ≡ Ok n → o ≡ Some n
      found_ok_ None n is = absurd (cc is)
      found_ok_ (Some m) n is = ap Some (ok_same m n is)

  moved_came : (paths : List (List (List ℕ))) (to : List (List ℕ)) → Contains paths to → is_root to ≡ false → (at : PlainEntry) (goal : Place) → IsPlaced tree to goal.folder goal.name → AllCame tree paths (moved_over at goal tree)
  moved_came paths to has named at goal is = by (is_same_file at goal.found)
    where
      by : (b : Bool) → AllCame tree paths (if b then tree else moved at goal (vacated goal.found tree))
      by true = λ entry stands. inl stands
      by false = λ entry stands.
          put_came to paths has named goal is (record at { parent = goal.folder; name = goal.name }) refl refl (kept (λ (e : PlainEntry). not (is_at at.parent at.name e)) (vacated goal.found tree).entries)
          (λ old there. vacated_came goal.found old (kept_came (λ (e : PlainEntry). not (is_at at.parent at.name e)) (vacated goal.found tree).entries old there)) entry stands

  -- Each entry behind a step stood there before it, or stands where one of the command's paths names.
  pub step_came : (asked : Command) → AllCame tree (paths_of asked) (step tree asked).1
  step_came (command.Mkdir path) = on_came tree (path ∷ []) (to_make tree path) (λ at. (reply.Ok, made true at tree))
      (λ goal is entry stands. let at = make_place path goal is in put_came path (path ∷ []) (at_front path []) at.0 goal at.1 (record { parent = goal.folder; name = goal.name; folder = true; id = tree.next_id }) refl refl tree.entries (λ old there. there) entry stands)
  step_came (command.Create path) = on_came tree (path ∷ []) (to_make tree path) (λ at. (reply.Ok, made false at tree))
      (λ goal is entry stands. let at = make_place path goal is in put_came path (path ∷ []) (at_front path []) at.0 goal at.1 (record { parent = goal.folder; name = goal.name; folder = false; id = tree.next_id }) refl refl tree.entries (λ old there. there) entry stands)
  step_came (command.Rm path) = on_came tree (path ∷ []) (to_rm tree path) (λ at. (reply.Ok, removed at tree)) (λ at is entry stands. inl (removed_came at entry stands))
  step_came (command.Rmdir path) = on_came tree (path ∷ []) (to_rmdir tree path) (λ at. (reply.Ok, removed_folder at tree))
      (λ at is entry stands. inl (kept_came (λ (e : PlainEntry). not (is_at at.parent at.name e)) tree.entries entry stands))
  step_came (command.Mv from to) = on_came tree (from ∷ to ∷ []) (to_mv tree from to) (λ pair. (reply.Ok, moved_over pair.0 pair.1 tree))
      (λ pair is. let at = pair_place from to pair (mv_pair from to pair is).0 in moved_came (from ∷ to ∷ []) to (behind from to (to ∷ []) (at_front to [])) at.0 pair.0 pair.1 at.1)
  step_came (command.Ln from to) = on_came tree (from ∷ to ∷ []) (to_link tree from to) (λ pair. (reply.Ok, linked pair.0 pair.1 tree))
      (λ pair is entry stands.
      let its = ln_pair from to pair is in
      let at = pair_place from to (its.0, pair.1) its.1 in
      put_came to (from ∷ to ∷ []) (behind from to (to ∷ []) (at_front to [])) at.0 pair.1 at.1 (record { parent = pair.1.folder; name = pair.1.name; folder = false; id = pair.0.id }) refl refl tree.entries (λ old there. there) entry stands)
  step_came (command.Write path from value) = on_came tree (path ∷ []) (to_write tree path from value) (λ file. (reply.Ok, written file from value tree))
      (λ file is. same_came tree (path ∷ []) (written file from value tree) (written_same file from value))
  step_came (command.Read path from long) = on_came tree (path ∷ []) (to_read tree path long) _ (λ file is entry stands. inl stands)
  step_came (command.Trunc path size) = on_came tree (path ∷ []) (to_trunc tree path size) (λ file. (reply.Ok, resized file size tree)) (λ file is entry stands. inl stands)
  step_came (command.Ls path) = on_came tree (path ∷ []) (to_folder tree path) _ (λ file is entry stands. inl stands)
  step_came (command.Stat path) = on_came tree (path ∷ []) (to_node tree path) _ (λ file is entry stands. inl stands)
  step_came (command.Chmod path mode) = on_came tree (path ∷ []) (to_node tree path) _ (λ file is entry stands. inl stands)
  step_came (command.SetAttr path name value) = on_came tree (path ∷ []) (to_set tree path value) _ (λ file is entry stands. inl stands)
  step_came (command.GetAttr path name) = on_came tree (path ∷ []) (to_value tree path name) _ (λ file is entry stands. inl stands)
  step_came (command.DelAttr path name) = on_came tree (path ∷ []) (to_attribute tree path name) _ (λ file is entry stands. inl stands)
  step_came (command.LsAttr path) = on_came tree (path ∷ []) (to_node tree path) _ (λ file is entry stands. inl stands)
  step_came (command.At moment) = λ entry stands. inl stands
  step_came command.Df = λ entry stands. inl stands
  step_came command.Sync = λ entry stands. inl stands

  pub line_came : (asked : Command) → AllCame tree (paths_of asked) (step_line tree (Ok asked)).1
  line_came asked = by (is_private asked)
    where
      by : (b : Bool) → AllCame tree (paths_of asked) (if b then (reply.No refusal.Private, tree) else step tree asked).1
      by true = λ entry stands. inl stands
      by false = step_came asked

-- ---- what stays the sessions' own

-- What stands at the keeping folder's name was there before, or is the folder that Save made; what stands in it was there before, or is its file's.
pub record KeepsOwn (old new : PlainTree) : Type 0 where
  pub plain : IsPlainTree new
  pub drawn : (entry : PlainEntry) → Contains new.entries entry → (entry.id < new.next_id) × (entry.parent < new.next_id)
  pub root_drawn : 2 < new.next_id
  pub few : new.next_id < 2 ^ 64
  pub folder : (entry : PlainEntry) → Contains new.entries entry → is_at 2 keeping_name entry ≡ true → Contains old.entries entry
  pub own : (folder entry : PlainEntry) → Contains old.entries folder → is_at 2 keeping_name folder ≡ true → Contains new.entries entry → entry.parent ≡ folder.id → Contains old.entries entry ⊎ (is_own entry ≡ true)

pub keeps_own : (old new : PlainTree) → IsOwnTree old → KeepsOwn old new → IsOwnTree new
keeps_own old new was keeps = record {
  plain = keeps.plain;
  drawn = keeps.drawn;
  root_drawn = keeps.root_drawn;
  few = keeps.few;
  folder = λ entry stands at. was.folder entry (keeps.folder entry stands at) at;
  own = own_of (keeping_entry new) refl;
}
  where
    own_of : (o : Option PlainEntry) → keeping_entry new ≡ o → (entry : PlainEntry) → Contains (keepers new) entry → is_own entry ≡ true
    own_of None none entry stands =
        let it = kept_cases (stands_in (keeping_entry new)) new.entries entry stands in
        absurd (true≢false (sym it.1 ∙ ap (λ (o : Option PlainEntry). stands_in o entry) none))
    own_of (Some folder) found entry stands =
        let it = kept_cases (stands_in (keeping_entry new)) new.entries entry stands in
        let inside : entry.parent ≡ folder.id = eqb-true entry.parent folder.id (ap (λ (o : Option PlainEntry). stands_in o entry) (sym found) ∙ it.1) in
        let at = found_some (is_at 2 keeping_name) new.entries folder found in
        let before = keeps.folder folder at.0 at.1 in
        let was_found : keeping_entry old ≡ Some folder = stands_at old was.plain.entries_sorted 2 keeping_name folder before at.1 in
        ⊎_elim
        (λ there. was.own entry (kept_stands (stands_in (keeping_entry old)) old.entries entry there (ap (λ (o : Option PlainEntry). stands_in o entry) was_found ∙ eq-eqb entry.parent folder.id inside)))
        (λ own. own) (keeps.own folder entry before at.1 it.0 inside)

-- ---- a command whose paths don't lead to the folder

other_path : (paths : List (List (List ℕ))) → list_any is_keeping_path paths ≡ false → (path : List (List ℕ)) → Contains paths path → is_keeping_path path ≡ false
other_path [] none path has = absurd (omega (arith, has.1))
other_path (one ∷ paths) none path has = by (is_keeping_path one) refl none (λ all later. other_path paths all path later)
  where
    by : (b : Bool) → is_keeping_path one ≡ b → (b || list_any is_keeping_path paths) ≡ false → (list_any is_keeping_path paths ≡ false → Contains paths path → is_keeping_path path ≡ false) → is_keeping_path path ≡ false
    by true is all rest = absurd (true≢false all)
    by false is all rest = ⊎_elim (λ (same : path ≡ one). ap is_keeping_path same ∙ is) (λ later. rest all later) (first_or_later one path paths has)

module _ (old new : PlainTree) (was : IsOwnTree old) (plain : IsPlainTree new) (drawn_now : (entry : PlainEntry) → Contains new.entries entry → (entry.id < new.next_id) × (entry.parent < new.next_id)) (root_now : 2 < new.next_id) (few_now : new.next_id < 2 ^ 64) where
  -- it changes nothing in it
  pub other_keeps : (asked : Command) → names_keeping asked ≡ false → AllCame old (paths_of asked) new → KeepsOwn old new
  other_keeps asked other came = record {
    plain = plain;
    drawn = drawn_now;
    root_drawn = root_now;
    few = few_now;
    folder = λ entry stands at. ⊎_elim (λ there. there)
        (λ placed. absurd (true≢false (sym at ∙ apart_from_folder old was.plain placed.0 entry.parent entry.name placed.2 (other_path (paths_of asked) other placed.0 placed.1) placed.3 entry refl refl))) (came entry stands);
    own = λ folder entry there at stands inside. ⊎_elim (λ before. inl before)
        (λ placed. absurd (apart_from_kept old was.plain folder (stands_at old was.plain.entries_sorted 2 keeping_name folder there at) (was.folder folder there at) placed.0 entry.parent entry.name (other_path (paths_of asked) other placed.0 placed.1) placed.3 inside)) (came entry stands);
  }

-- ---- trees whose ids were all given out

pub given_drawn : (tree : PlainTree) → IsGivenTree tree → (entry : PlainEntry) → Contains tree.entries entry → (entry.id < tree.next_id) × (entry.parent < tree.next_id)
given_drawn tree given entry stands =
    let named = given.plain.named entry stands in
    let own = named.named in
    let its = found_some (is_node entry.id) tree.nodes own.0 own.1 in
    let its_id : own.0.id ≡ entry.id = eqb-true own.0.id entry.id its.1 in
    let above = named.parent in
    let that = found_some (is_node entry.parent) tree.nodes above.0 above.1 in
    let that_id : above.0.id ≡ entry.parent = eqb-true above.0.id entry.parent that.1 in
    (subst (λ n. n < tree.next_id) its_id (given.given own.0 its.0), subst (λ n. n < tree.next_id) that_id (given.given above.0 that.0))

pub given_root : (tree : PlainTree) → IsGivenTree tree → 2 < tree.next_id
given_root tree given =
    let root = given.plain.root in
    let its = found_some (is_node 2) tree.nodes root.0 root.1 in
    let its_id : root.0.id ≡ 2 = eqb-true root.0.id 2 its.1 in
    subst (λ n. n < tree.next_id) its_id (given.given root.0 its.0)

pub other_kept : (old new : PlainTree) (asked : Command) → IsOwnTree old → IsGivenTree new → new.next_id < 2 ^ 64 → names_keeping asked ≡ false → new ≡ (step_line old (Ok asked)).1 → IsOwnTree new
other_kept old new asked was given few other is =
    keeps_own old new was (other_keeps old new was given.plain (given_drawn new given) (given_root new given) few asked other (subst (λ (t : PlainTree). AllCame old (paths_of asked) t) (sym is) (line_came old asked)))

-- what is counted stands there
pub some_counted : {X : Type 0} (p : X → Bool) (xs : List X) → 0 < count_by p xs → (x : X) × Contains xs x × (p x ≡ true)
some_counted p [] more = absurd (omega (arith, more))
some_counted {X} p (x ∷ xs) more = by (p x) refl (λ left. some_counted p xs left)
  where
    by : (b : Bool) → p x ≡ b → (0 < count_by p xs → (y : X) × Contains xs y × (p y ≡ true)) → (y : X) × Contains (x ∷ xs) y × (p y ≡ true)
    by true is later = (x, at_front x xs, is)
    by false is later =
        let none : one_if (p x) ≡ 0 = ap one_if is in
        let it = later (omega (arith, more, count_cons p x xs, none)) in
        (it.0, behind x it.0 xs it.1, it.2)

-- a release takes entries away alone
pub rm_came : (tree : PlainTree) (path : List (List ℕ)) → AllCame tree [] (step_line tree (Ok (command.Rm path))).1
rm_came tree path = by (is_private (command.Rm path))
  where
    by : (b : Bool) → AllCame tree [] (if b then (reply.No refusal.Private, tree) else step tree (command.Rm path)).1
    by true = λ entry stands. inl stands
    by false = on_came tree [] (to_rm tree path) (λ at. (reply.Ok, removed at tree)) (λ at is entry stands. inl (removed_came tree at entry stands))

-- an entry behind a link of Save stood there before, or is that of the file, under its id, in a folder below the root
abbrev pub LinkCame : PlainTree → PlainEntry → Type 0
LinkCame tree entry = Contains tree.entries entry ⊎ ((is_own entry ≡ true) × (is_at 2 keeping_name entry ≡ false))

pub ln_came : (tree : PlainTree) → IsOwnTree tree → (path : List (List ℕ)) (at : PlainEntry) → reached tree path ≡ Ok at → (entry : PlainEntry) → Contains (step_line tree (Ok (command.Ln path (kept_path at.id)))).1.entries entry → LinkCame tree entry
ln_came tree was path at is = by (is_private (command.Ln path (kept_path at.id)))
  where
    linked_came : (pair : PlainNode × Place) → to_link tree path (kept_path at.id) ≡ Ok pair → (entry : PlainEntry) → Contains (linked pair.0 pair.1 tree).entries entry → LinkCame tree entry
    linked_came pair links entry stands =
        let its = ln_pair tree path (kept_path at.id) pair links in
        let place_is = pair_place tree path (kept_path at.id) (its.0, pair.1) its.1 in
        let same : its.0 ≡ at = ok_same its.0 at (sym place_is.2 ∙ is) in
        let node = found_some (is_node its.0.id) tree.nodes pair.0 its.2 in
        let file : pair.0.id ≡ at.id = eqb-true pair.0.id its.0.id node.1 ∙ ap (λ (e : PlainEntry). e.id) same in
        let below = walked_to tree [] root_entry place_is.1.at keeping_name place_is.1.reaches in
        let item : PlainEntry = record { parent = pair.1.folder; name = pair.1.name; folder = false; id = pair.0.id } in
        ⊎_elim
        (λ (it : entry ≡ item). inr (
          ap is_own it ∙ (bytes_eq-Decides pair.1.name (decimal pair.0.id)).1 (place_is.1.name_is ∙ ap decimal (sym file)),
          ap (is_at 2 keeping_name) it ∙ ap (λ b. b && bytes_eq pair.1.name keeping_name) (differs pair.1.folder 2 (λ two. no_root tree was.plain place_is.1.at below (sym place_is.1.folder_is ∙ two))),
        ))
        (λ old. inl old) (put_cases entry_before item tree.entries entry stands)

    by_link : (r : Result (PlainNode × Place) Refusal) → to_link tree path (kept_path at.id) ≡ r → (entry : PlainEntry) → Contains (on tree r (λ pair. (reply.Ok, linked pair.0 pair.1 tree))).1.entries entry → LinkCame tree entry
    by_link (Ok pair) links = linked_came pair links
    by_link (Err why) links = λ entry stands. inl stands

    by : (b : Bool) → (entry : PlainEntry) → Contains (if b then (reply.No refusal.Private, tree) else step tree (command.Ln path (kept_path at.id))).1.entries entry → LinkCame tree entry
    by true = λ entry stands. inl stands
    by false = by_link (to_link tree path (kept_path at.id)) refl

-- ids of an own tree were all given out
pub own_given : (tree : PlainTree) → IsOwnTree tree → IsGivenTree tree
own_given tree own = record { plain = own.plain; given = λ node stands. by node stands node.folder refl }
  where
    some : (id : ℕ) (xs : List PlainEntry) → 0 < count_by (λ (e : PlainEntry). e.id == id) xs → (entry : PlainEntry) × Contains xs entry × (entry.id ≡ id)
    some id xs more = let it = some_counted (λ (e : PlainEntry). e.id == id) xs more in (it.0, it.1, eqb-true it.0.id id it.2)

    named : (node : PlainNode) → 0 < names_of tree node.id → node.id < tree.next_id
    named node more = let it = some node.id tree.entries more in subst (λ n. n < tree.next_id) it.2 (own.drawn it.0 it.1).0

    by : (node : PlainNode) → Contains tree.nodes node → (b : Bool) → node.folder ≡ b → node.id < tree.next_id
    by node stands true is = ⊎_elim (λ (two : node.id ≡ 2). subst (λ n. n < tree.next_id) (sym two) own.root_drawn) (λ (one : names_of tree node.id ≡ 1). named node (omega (arith, one))) (own.plain.folders node stands is)
    by node stands false is = named node (own.plain.files node stands is)

module _ (law : StepKeepsTrees) (tree : PlainTree) where
  given_line : (asked : Command) → IsGivenTree tree → IsGivenTree (step_line tree (Ok asked)).1
  given_line asked given = by (is_private asked)
    where
      by : (b : Bool) → IsGivenTree (if b then (reply.No refusal.Private, tree) else step tree asked).1
      by true = given
      by false = law tree asked given

  pub given_by : (asked : Command) (got : Reply) → IsGivenTree tree → IsGivenTree (tree_by tree asked got)
  given_by asked got given = by (is_refusal got)
    where
      by : (b : Bool) → IsGivenTree (if b then tree else (step_line tree (Ok asked)).1)
      by true = given
      by false = given_line asked given

  by_came : (paths : List (List (List ℕ))) (asked : Command) (got : Reply) → AllCame tree paths (step_line tree (Ok asked)).1 → AllCame tree paths (tree_by tree asked got)
  by_came paths asked got came = by (is_refusal got)
    where
      by : (b : Bool) → AllCame tree paths (if b then tree else (step_line tree (Ok asked)).1)
      by true = λ entry stands. inl stands
      by false = came

  module _ (was : IsOwnTree tree) where
    -- A command whose paths don't lead to the folder.
    pub other_by : (asked : Command) (got : Reply) → (tree_by tree asked got).next_id < 2 ^ 64 → names_keeping asked ≡ false → IsOwnTree (tree_by tree asked got)
    other_by asked got few other =
        let given = given_by asked got (own_given tree was) in
        keeps_own tree (tree_by tree asked got) was (other_keeps tree (tree_by tree asked got) was given.plain (given_drawn (tree_by tree asked got) given) (given_root (tree_by tree asked got) given) few asked other (by_came (paths_of asked) asked got (line_came tree asked)))

    -- A release takes an entry away.
    pub released_by : (id : ℕ) (got : Reply) → (tree_by tree (release id) got).next_id < 2 ^ 64 → IsOwnTree (tree_by tree (release id) got)
    released_by id got few =
        let asked = release id in
        let given = given_by asked got (own_given tree was) in
        keeps_own tree (tree_by tree asked got) was (other_keeps tree (tree_by tree asked got) was given.plain (given_drawn (tree_by tree asked got) given) (given_root (tree_by tree asked got) given) few command.Sync refl (by_came [] asked got (rm_came tree (kept_path id))))

    -- The folder is made.
    pub made_by : (got : Reply) → (tree_by tree (command.Mkdir keeping_path) got).next_id < 2 ^ 64 → keeping_entry tree ≡ None → IsOwnTree (tree_by tree (command.Mkdir keeping_path) got)
    made_by got few absent = by (is_refusal got) few
      where
        given : IsGivenTree (step_line tree (Ok (command.Mkdir keeping_path))).1
        given = given_line (command.Mkdir keeping_path) (own_given tree was)

        cases : (entry : PlainEntry) → Contains (made true (record { folder = 2; name = keeping_name; found = None }) tree).entries entry → (entry ≡ new_folder tree was absent) ⊎ Contains tree.entries entry
        cases entry stands = put_cases entry_before (new_folder tree was absent) tree.entries entry stands

        made_own : IsGivenTree (made true (record { folder = 2; name = keeping_name; found = None }) tree) → (made true (record { folder = 2; name = keeping_name; found = None }) tree).next_id < 2 ^ 64 → IsOwnTree (made true (record { folder = 2; name = keeping_name; found = None }) tree)
        made_own it less = record {
          plain = it.plain;
          drawn = given_drawn (made true (record { folder = 2; name = keeping_name; found = None }) tree) it;
          root_drawn = given_root (made true (record { folder = 2; name = keeping_name; found = None }) tree) it;
          few = less;
          folder = λ entry stands at. ⊎_elim (λ (same : entry ≡ new_folder tree was absent). ap (λ (e : PlainEntry). e.folder) same) (λ old. was.folder entry old at) (cases entry stands);
          own = λ entry stands.
              let it = kept_cases (stands_in (keeping_entry (made true (record { folder = 2; name = keeping_name; found = None }) tree))) (made true (record { folder = 2; name = keeping_name; found = None }) tree).entries entry stands in
              let inside : entry.parent ≡ tree.next_id = eqb-true entry.parent tree.next_id (ap (λ (o : Option PlainEntry). stands_in o entry) (sym (made_keeps tree was absent).is) ∙ it.1) in
              ⊎_elim
              (λ (same : entry ≡ new_folder tree was absent). let two : entry.parent ≡ 2 = ap (λ (e : PlainEntry). e.parent) same in absurd (omega (arith, was.root_drawn, inside, two)))
              (λ old. let less = (was.drawn entry old).1 in absurd (omega (arith, less, inside))) (cases entry it.0);
        }

        by : (b : Bool) → (if b then tree else (step_line tree (Ok (command.Mkdir keeping_path))).1).next_id < 2 ^ 64 → IsOwnTree (if b then tree else (step_line tree (Ok (command.Mkdir keeping_path))).1)
        by true less = was
        by false less =
            let same : (step_line tree (Ok (command.Mkdir keeping_path))).1 ≡ made true (record { folder = 2; name = keeping_name; found = None }) tree = ap (λ s. s.1) (make_done tree was absent) in
            subst IsOwnTree (sym same) (made_own (subst IsGivenTree same given) (subst (λ (t : PlainTree). t.next_id < 2 ^ 64) same less))

    -- A file gets its entry in it.
    pub linked_by : (path : List (List ℕ)) (at : PlainEntry) (got : Reply) → (tree_by tree (command.Ln path (kept_path at.id)) got).next_id < 2 ^ 64 → reached tree path ≡ Ok at → IsOwnTree (tree_by tree (command.Ln path (kept_path at.id)) got)
    linked_by path at got few is =
        let asked = command.Ln path (kept_path at.id) in
        let given = given_by asked got (own_given tree was) in
        let came = kept_by asked got (ln_came tree was path at is) in
        keeps_own tree (tree_by tree asked got) was (record {
          plain = given.plain;
          drawn = given_drawn (tree_by tree asked got) given;
          root_drawn = given_root (tree_by tree asked got) given;
          few = few;
          folder = λ entry stands here. ⊎_elim (λ old. old) (λ new. absurd (true≢false (sym here ∙ new.1))) (came entry stands);
          own = λ folder entry there here stands inside. ⊎_elim (λ old. inl old) (λ new. inr new.0) (came entry stands);
        })
      where
        kept_by : (asked : Command) (got : Reply) → ((entry : PlainEntry) → Contains (step_line tree (Ok asked)).1.entries entry → LinkCame tree entry) → (entry : PlainEntry) → Contains (tree_by tree asked got).entries entry → LinkCame tree entry
        kept_by asked got came = by (is_refusal got)
          where
            by : (b : Bool) → (entry : PlainEntry) → Contains (if b then tree else (step_line tree (Ok asked)).1).entries entry → LinkCame tree entry
            by true = λ entry stands. inl stands
            by false = came
