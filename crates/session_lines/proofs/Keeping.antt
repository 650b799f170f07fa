-- The commands of Save on a tree whose keeping folder is the sessions' own: users see nothing of them.
use Rattle.std.proofs.Common.{◌≡◌, ◌<◌, ℕ, Bool, true, false, List, [], ◌∷◌, length, refl, sym, ◌∙◌, ap, arith, ⊎_elim}
use Rattle.std.specs.Prelude.{Contains, ◌==◌, ◌||◌, decimal, nat_le, find, is_some, Option, Some, None, Result, Ok, Err, if◌then◌else◌}
use Rattle.std.specs.List.{AllByRecursion, filter}
use Rattle.std.specs.Option.{ok_or}
use Rattle.std.proofs.lemmas.Bool.{eqb-true, true≢false}
use Rattle.std.proofs.lemmas.List.Sums.{length-filter}
use Rattle.hfs_language.specs.declared.command.Command.TheVariants as command
use Rattle.hfs_language.specs.declared.refusal.Refusal.{Refusal}
use Rattle.hfs_language.specs.declared.refusal.Refusal.TheVariants as refusal
use Rattle.hfs_language.specs.declared.reply.Reply.TheVariants as reply
use Rattle.hfs_model.specs.Plain.{entry_at, entry_before, is_at, names_of, node_at}
use Rattle.hfs_model.specs.Step.{Place, Step, is_private_path, is_root, linked, made, most_links, on, place, place_in, reached, step, step_line, then_, to_link, to_ln, to_make, to_pair, unless, walk}
use Rattle.hfs_model.specs.declared.plain.PlainEntry.{PlainEntry}
use Rattle.hfs_model.specs.declared.plain.PlainNode.{PlainNode}
use Rattle.hfs_model.specs.declared.plain.PlainTree.{PlainTree}
use Rattle.hfs_volume.proofs.Flat.{found_some}
use Rattle.hfs_volume.proofs.Reaching.{found_ok, if_ok, ok_same, then_ok, unless_ok}
use Rattle.hfs_volume.proofs.Members.{behind, first_or_later}
use Rattle.open_files.specs.Keeping.{keeping_entry, keeping_name, keeping_path, kept_path, seen}
use Rattle.open_files.proofs.Lists.{find_new}
use Rattle.open_files.proofs.Making.{IsUnused, made_unseen}
use Rattle.open_files.proofs.Saving.{Keeps, linked_unseen}
use Rattle.session_lines.specs.Owning.{IsOwnTree}

-- ---- the root has no name

-- what is counted is there
pub filtered : {X : Type 0} (p : X → Bool) (xs : List X) (x : X) → Contains xs x → p x ≡ true → (length (filter p xs) ≡ 0 → ⊥)
filtered p [] x stands passes none = omega (arith, stands.1)
filtered {X} p (y ∷ ys) x stands passes none = by (p y) refl none (λ later left. filtered p ys x later passes left)
  where
    by : (b : Bool) → p y ≡ b → length (if b then y ∷ filter p ys else filter p ys) ≡ 0 → (Contains ys x → length (filter p ys) ≡ 0 → ⊥) → ⊥
    by true is none rest = omega (arith, none)
    by false is none rest = ⊎_elim (λ (same : x ≡ y). true≢false (sym passes ∙ ap p same ∙ is)) (λ later. rest later none) (first_or_later y x ys stands)

module _ (tree : PlainTree) (is : IsOwnTree tree) (folder : PlainEntry) (found : keeping_entry tree ≡ Some folder) where
  stands : Contains tree.entries folder
  stands = (found_some (is_at 2 keeping_name) tree.entries folder found).0

  pub folder_kind : folder.folder ≡ true
  folder_kind = is.folder folder stands (found_some (is_at 2 keeping_name) tree.entries folder found).1

  no_root : (b : Bool) → (folder.id == 2) ≡ b → b ≡ false
  no_root false isnt = refl
  no_root true root =
      absurd (filtered (λ (entry : PlainEntry). entry.id == 2) tree.entries folder stands root (length-filter (λ (entry : PlainEntry). entry.id == 2) tree.entries ∙ is.plain.root.3))

  pub keeps : Keeps tree folder
  keeps = record { is = found; below = no_root (folder.id == 2) refl }

-- ---- a file gets a name in it

module _ (tree : PlainTree) (path : List (List ℕ)) (id : ℕ) (folder : PlainEntry) (keeps_it : Keeps tree folder) where
  -- where the name would stand
  in_folder : (goal : Place) → place tree (kept_path id) ≡ Ok goal → goal.folder ≡ folder.id
  in_folder goal is =
      let first = then_ok (reached tree keeping_path) (place_in tree (decimal id)) goal is in
      let walked = then_ok (ok_or (keeping_entry tree) refusal.NotFound) (λ next. walk tree next []) first.0 first.1 in
      let same : walked.0 ≡ first.0 = ok_same walked.0 first.0 walked.2 in
      let found : keeping_entry tree ≡ Some first.0 = found_ok (keeping_entry tree) refusal.NotFound walked.0 walked.1 ∙ ap Some same in
      let stands = if_ok first.0.folder (Ok (record { folder = first.0.id; name = decimal id; found = entry_at tree first.0.id (decimal id) })) refusal.NotFolder goal first.2 in
      sym (ap (λ (at : Place). at.folder) (ok_same (record { folder = first.0.id; name = decimal id; found = entry_at tree first.0.id (decimal id) }) goal stands.1))
      ∙ ap (λ (e : PlainEntry). e.id) (ap (entry_or first.0) (sym found ∙ keeps_it.is))
    where
      entry_or : PlainEntry → Option PlainEntry → PlainEntry
      entry_or other None = other
      entry_or other (Some entry) = entry

  link_place : (pair : PlainNode × Place) → to_link tree path (kept_path id) ≡ Ok pair → pair.1.folder ≡ folder.id
  link_place pair is =
      let one = then_ok (to_ln tree path (kept_path id)) (λ pair. then_ (ok_or (node_at tree pair.0.id) refusal.NotFound) (λ file. Ok (file, pair.1))) pair is in
      let file = then_ok (ok_or (node_at tree one.0.0.id) refusal.NotFound) (λ file. Ok (file, one.0.1)) pair one.2 in
      let two = then_ok (to_pair tree path (kept_path id)) (λ pair. then_ (unless pair.0.folder refusal.IsFolder pair) (λ file. then_ (unless (is_some file.1.found) refusal.Exists file) (unless (nat_le most_links (names_of tree file.0.id)) refusal.TooManyLinks))) one.0 one.1 in
      let three = then_ok (unless two.0.0.folder refusal.IsFolder two.0) (λ file. then_ (unless (is_some file.1.found) refusal.Exists file) (unless (nat_le most_links (names_of tree file.0.id)) refusal.TooManyLinks)) one.0 two.2 in
      let four = then_ok (unless (is_some three.0.1.found) refusal.Exists three.0) (unless (nat_le most_links (names_of tree three.0.0.id)) refusal.TooManyLinks) one.0 three.2 in
      let a = (unless_ok two.0.0.folder refusal.IsFolder two.0 three.0 three.1).1 in
      let b = (unless_ok (is_some three.0.1.found) refusal.Exists three.0 four.0 four.1).1 in
      let c = (unless_ok (nat_le most_links (names_of tree three.0.0.id)) refusal.TooManyLinks four.0 one.0 four.2).1 in
      let whole : two.0 ≡ one.0 = a ∙ b ∙ c in
      let five = then_ok (unless (is_root path || false) refusal.Root path) (λ named. then_ (reached tree named) (λ at. then_ (place tree (kept_path id)) (λ goal. Ok (at, goal)))) two.0 two.1 in
      let six = then_ok (reached tree five.0) (λ at. then_ (place tree (kept_path id)) (λ goal. Ok (at, goal))) two.0 five.2 in
      let seven = then_ok (place tree (kept_path id)) (λ goal. Ok (six.0, goal)) two.0 six.2 in
      sym (ap (λ (p : PlainNode × Place). p.1.folder) (ok_same (file.0, one.0.1) pair file.2)) ∙ sym (ap (λ (p : PlainEntry × Place). p.1.folder) whole) ∙ sym (ap (λ (p : PlainEntry × Place). p.1.folder) (ok_same (six.0, seven.0) two.0 seven.2))
      ∙ in_folder seven.0 seven.1

  -- users see nothing of it
  pub link_unseen : seen (step_line tree (Ok (command.Ln path (kept_path id)))).1 ≡ seen tree
  link_unseen = by_private (is_private_path path)
    where
      by_link : (r : Result (PlainNode × Place) Refusal) → to_link tree path (kept_path id) ≡ r → seen (on tree r (λ pair. (reply.Ok, linked pair.0 pair.1 tree))).1 ≡ seen tree
      by_link (Err why) is = refl
      by_link (Ok pair) is = linked_unseen tree folder pair.0 pair.1 keeps_it (link_place pair is)

      by_private : (b : Bool) → seen (if b || false then (reply.No refusal.Private, tree) else step tree (command.Ln path (kept_path id))).1 ≡ seen tree
      by_private true = refl
      by_private false = by_link (to_link tree path (kept_path id)) refl

-- ---- the folder is made

all_by : {X : Type 0} (P : X → Type 0) (xs : List X) → ((x : X) → Contains xs x → P x) → AllByRecursion P xs
all_by P [] each = tt
all_by {X} P (x ∷ xs) each = (each x (0, omega arith, refl), all_by P xs (λ y stands. each y (behind x y xs stands)))

not_equal : (a b : ℕ) → a < b → (a == b) ≡ false
not_equal a b less = by (a == b) refl
  where
    by : (e : Bool) → (a == b) ≡ e → e ≡ false
    by false is = refl
    by true is = absurd (omega (arith, less, eqb-true a b is))

-- what isn't found stands nowhere
none_found : (entries : List PlainEntry) (entry : PlainEntry) → Contains entries entry → is_at 2 keeping_name entry ≡ true → find (is_at 2 keeping_name) entries ≡ None → ⊥
none_found [] entry stands at none = omega (arith, stands.1)
none_found (one ∷ entries) entry stands at none = first (is_at 2 keeping_name one) refl none (λ later left. none_found entries entry later at left)
  where
    first : (b : Bool) → is_at 2 keeping_name one ≡ b → (if b then Some one else find (is_at 2 keeping_name) entries) ≡ None → (Contains entries entry → find (is_at 2 keeping_name) entries ≡ None → ⊥) → ⊥
    first true here none rest = cc none
    first false here none rest = ⊎_elim (λ (same : entry ≡ one). true≢false (sym at ∙ ap (is_at 2 keeping_name) same ∙ here)) (λ later. rest later none) (first_or_later one entry entries stands)

module _ (tree : PlainTree) (is : IsOwnTree tree) (absent : keeping_entry tree ≡ None) where
  absent_at : (entry : PlainEntry) → Contains tree.entries entry → is_at 2 keeping_name entry ≡ false
  absent_at entry stands = by (is_at 2 keeping_name entry) refl
    where
      by : (b : Bool) → is_at 2 keeping_name entry ≡ b → b ≡ false
      by false at = refl
      by true at = absurd (none_found tree.entries entry stands at absent)

  pub unused : IsUnused tree tree.next_id
  unused = record {
    absent = all_by (λ (entry : PlainEntry). is_at 2 keeping_name entry ≡ false) tree.entries absent_at;
    missing = absent;
    empty = all_by (λ (entry : PlainEntry). (entry.parent == tree.next_id) ≡ false) tree.entries (λ entry stands. not_equal entry.parent tree.next_id (is.drawn entry stands).1);
    nameless = all_by (λ (entry : PlainEntry). (entry.id == tree.next_id) ≡ false) tree.entries (λ entry stands. not_equal entry.id tree.next_id (is.drawn entry stands).0);
    no_root = not_equal_back tree.next_id 2 is.root_drawn;
  }
    where
      not_equal_back : (a b : ℕ) → b < a → (a == b) ≡ false
      not_equal_back a b less = by (a == b) refl
        where
          by : (e : Bool) → (a == b) ≡ e → e ≡ false
          by false is = refl
          by true is = absurd (omega (arith, less, eqb-true a b is))

  -- the place is free in the root
  place_free : place tree keeping_path ≡ Ok (record { folder = 2; name = keeping_name; found = None })
  place_free = ap (λ (o : Option PlainEntry). Ok (record { folder = 2; name = keeping_name; found = o })) absent

  pub make_is : to_make tree keeping_path ≡ Ok (record { folder = 2; name = keeping_name; found = None })
  make_is = ap (λ (r : Result Place Refusal). then_ r (λ at. unless (is_some at.found) refusal.Exists at)) place_free

  pub make_done : step_line tree (Ok (command.Mkdir keeping_path)) ≡ (reply.Ok, made true (record { folder = 2; name = keeping_name; found = None }) tree)
  make_done = ap (λ (r : Result Place Refusal). on tree r (λ at. (reply.Ok, made true at tree))) make_is

  -- users see nothing of it
  pub make_unseen : seen (step_line tree (Ok (command.Mkdir keeping_path))).1 ≡ seen tree
  make_unseen = ap (λ (s : Step). seen s.1) make_done ∙ made_unseen tree (record { folder = 2; name = keeping_name; found = None }) refl refl unused

  abbrev pub new_folder : PlainEntry
  new_folder = record { parent = 2; name = keeping_name; folder = true; id = tree.next_id }

  -- it is there from then on
  pub made_keeps : Keeps (made true (record { folder = 2; name = keeping_name; found = None }) tree) new_folder
  made_keeps = record {
    is = find_new (is_at 2 keeping_name) entry_before new_folder tree.entries refl unused.absent;
    below = unused.no_root;
  }
