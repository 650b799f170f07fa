-- What looks say: whether the keeping folder is there, whether it keeps a file, and how many names of a file are seen.
use Rattle.std.proofs.Common.{◌≡◌, ◌⊎◌, ℕ, ◌+◌, Bool, true, false, List, [], ◌∷◌, ◌++◌, length, inl, inr, refl, sym, ◌∙◌, ap, subst, arith, ⊎_elim}
use Rattle.std.specs.Prelude.{Contains, ◌==◌, ◌&&◌, ◌||◌, not, count_by, decimal, find, is_some, Option, Some, None, Result, Ok, Err, if◌then◌else◌}
use Rattle.std.specs.List.{filter, list_any}
use Rattle.std.specs.Option.{ok_or}
use Rattle.std.specs.Str.{bytes_eq}
use Rattle.std.proofs.lemmas.Bool.{eqb-true, true≢false}
use Rattle.std.proofs.lemmas.List.Sums.{length-filter}
use Rattle.hfs_language.specs.declared.command.Command.{Command}
use Rattle.hfs_language.specs.declared.command.Command.TheVariants as command
use Rattle.hfs_language.specs.declared.refusal.Refusal.{Refusal}
use Rattle.hfs_language.specs.declared.refusal.Refusal.TheVariants as refusal
use Rattle.hfs_language.specs.declared.reply.Facts.{Facts}
use Rattle.hfs_language.specs.declared.reply.Reply.{Reply}
use Rattle.hfs_language.specs.declared.reply.Reply.TheVariants as reply
use Rattle.hfs_model.specs.Plain.{IsPlainTree, entry_at, is_at, is_node, names_of, node_at}
use Rattle.hfs_model.specs.Sorted.{kept}
use Rattle.hfs_model.specs.Step.{Step, child, facts_of, is_private_path, on, reached, root_entry, step, step_line, then_, to_node, walk}
use Rattle.hfs_model.specs.declared.plain.PlainEntry.{PlainEntry}
use Rattle.hfs_model.specs.declared.plain.PlainNode.{PlainNode}
use Rattle.hfs_model.specs.declared.plain.PlainTree.{PlainTree}
use Rattle.hfs_volume.proofs.Flat.{found_some}
use Rattle.hfs_volume.proofs.Members.{behind, first_or_later, kept_stands}
use Rattle.open_files.specs.Keeping.{is_kept, is_own, is_seen, keepers, keeping_entry, keeping_name, keeping_path, kept_path, seen_names, stands_in}
use Rattle.session_lines.specs.Owning.{IsOwnTree}

-- what a look at a path is told by the tree
abbrev pub look : PlainTree → List (List ℕ) → Reply
look tree path = (step_line tree (Ok (command.Stat path))).0

abbrev facts_step : PlainTree → PlainNode → Step
facts_step tree node = (reply.Facts (facts_of tree node), tree)

pub look_is : (tree : PlainTree) (path : List (List ℕ)) → is_private_path path ≡ false → look tree path ≡ (on tree (to_node tree path) (facts_step tree)).0
look_is tree path own = ap (λ b. (if b || false then (reply.No refusal.Private, tree) else step tree (command.Stat path)).0) own

-- ---- lists

pub any_found : {X : Type 0} (p q : X → Bool) (xs : List X) → is_some (find (λ x. p x && q x) xs) ≡ list_any q (kept p xs)
any_found p q [] = refl
any_found {X} p q (x ∷ xs) = by (p x) (any_found p q xs)
  where
    first : (b : Bool) → is_some (find (λ y. p y && q y) xs) ≡ list_any q (kept p xs) → is_some (if b then Some x else find (λ y. p y && q y) xs) ≡ (b || list_any q (kept p xs))
    first true later = refl
    first false later = later

    by : (a : Bool) → is_some (find (λ y. p y && q y) xs) ≡ list_any q (kept p xs) → is_some (if a && q x then Some x else find (λ y. p y && q y) xs) ≡ list_any q ((if a then x ∷ [] else []) ++ kept p xs)
    by true later = first (q x) later
    by false later = later

any_of : {X : Type 0} (p : X → Bool) (xs : List X) (x : X) → Contains xs x → p x ≡ true → list_any p xs ≡ true
any_of p [] x stands passes = absurd (omega (arith, stands.1))
any_of p (y ∷ ys) x stands passes = ⊎_elim (λ (same : x ≡ y). ap (λ b. b || list_any p ys) (ap p (sym same) ∙ passes)) (λ later. either (p y) (any_of p ys x later passes)) (first_or_later y x ys stands)
  where
    either : (b : Bool) → list_any p ys ≡ true → (b || list_any p ys) ≡ true
    either true is = refl
    either false is = is

none_kept : {X : Type 0} (q : X → Bool) (xs : List X) → list_any q (kept (λ x. false) xs) ≡ false
none_kept q [] = refl
none_kept q (x ∷ xs) = none_kept q xs

-- what passes one test and all of whose items pass another, too, is counted among those as well
pub filter_kept : {X : Type 0} (p q : X → Bool) (xs : List X) → ((x : X) → Contains xs x → p x ≡ true → q x ≡ true) → filter p (kept q xs) ≡ filter p xs
filter_kept p q [] each = refl
filter_kept {X} p q (x ∷ xs) each = by (q x) (each x (0, omega arith, refl)) (filter_kept p q xs (λ y stands. each y (later y stands)))
  where
    later : (y : X) → Contains xs y → Contains (x ∷ xs) y
    later y stands = behind x y xs stands

    head : (a : Bool) → filter p (kept q xs) ≡ filter p xs → (if a then x ∷ filter p (kept q xs) else filter p (kept q xs)) ≡ (if a then x ∷ filter p xs else filter p xs)
    head true rest = ap (λ l. x ∷ l) rest
    head false rest = rest

    out : (a : Bool) → a ≡ false → filter p xs ≡ (if a then x ∷ filter p xs else filter p xs)
    out a isnt = ap (λ c. if c then x ∷ filter p xs else filter p xs) (sym isnt)

    by : (b : Bool) → (p x ≡ true → b ≡ true) → filter p (kept q xs) ≡ filter p xs → filter p ((if b then x ∷ [] else []) ++ kept q xs) ≡ (if p x then x ∷ filter p xs else filter p xs)
    by true so rest = head (p x) rest
    by false so rest = rest ∙ out (p x) (not_so (p x) so)
      where
        not_so : (a : Bool) → (a ≡ true → false ≡ true) → a ≡ false
        not_so true so = absurd (true≢false (sym (so refl)))
        not_so false so = refl

module _ (tree : PlainTree) (is : IsOwnTree tree) where
  -- ---- the keeping folder

  pub there_told : (folder : PlainEntry) → keeping_entry tree ≡ Some folder → (facts : Facts) × (look tree keeping_path ≡ reply.Facts facts)
  there_told folder found =
      let stands = (found_some (is_at 2 keeping_name) tree.entries folder found).0 in
      let node = (is.plain.named folder stands).named in (
        facts_of tree node.0,
        look_is tree keeping_path refl ∙ ap (λ (o : Option PlainEntry). (on tree (then_ (then_ (ok_or o refusal.NotFound) (λ next. Ok next)) (λ at. ok_or (node_at tree at.id) refusal.NotFound)) (facts_step tree)).0) found
            ∙ ap (λ (o : Option PlainNode). (on tree (ok_or o refusal.NotFound) (facts_step tree)).0) node.1,
      )

  pub absent_told : keeping_entry tree ≡ None → look tree keeping_path ≡ reply.No refusal.NotFound
  absent_told none = look_is tree keeping_path refl ∙ ap (λ (o : Option PlainEntry). (on tree (then_ (then_ (ok_or o refusal.NotFound) (λ next. Ok next)) (λ at. ok_or (node_at tree at.id) refusal.NotFound)) (facts_step tree)).0) none

  -- ---- a file that it keeps

  module _ (id : ℕ) where
    abbrev is_here : PlainEntry → Bool
    is_here entry = bytes_eq entry.name (decimal id)

    -- where there is no folder, it keeps nothing
    pub none_there : keeping_entry tree ≡ None → is_kept tree id ≡ false
    none_there none = ap (λ (o : Option PlainEntry). list_any is_here (kept (stands_in o) tree.entries)) none ∙ none_kept is_here tree.entries

    module _ (folder : PlainEntry) (found : keeping_entry tree ≡ Some folder) where
      folder_kind : folder.folder ≡ true
      folder_kind = let it = found_some (is_at 2 keeping_name) tree.entries folder found in is.folder folder it.0 it.1

      pub kept_found : is_some (entry_at tree folder.id (decimal id)) ≡ is_kept tree id
      kept_found = any_found (λ (entry : PlainEntry). entry.parent == folder.id) is_here tree.entries ∙ ap (λ (o : Option PlainEntry). list_any is_here (kept (stands_in o) tree.entries)) (sym found)

      abbrev pub last_step : Bool → Option PlainEntry → Reply
      last_step kind o = (on tree (then_ (then_ (if kind then ok_or o refusal.NotFound else Err refusal.NotFolder) (λ next. Ok next)) (λ at. ok_or (node_at tree at.id) refusal.NotFound)) (facts_step tree)).0

      pub kept_look : look tree (kept_path id) ≡ last_step true (entry_at tree folder.id (decimal id))
      kept_look =
          look_is tree (kept_path id) refl
          ∙ ap (λ (o : Option PlainEntry). (on tree (then_ (then_ (ok_or o refusal.NotFound) (λ next. then_ (child tree next (decimal id)) (λ last. Ok last))) (λ at. ok_or (node_at tree at.id) refusal.NotFound)) (facts_step tree)).0) found
          ∙ ap (λ b. last_step b (entry_at tree folder.id (decimal id))) folder_kind

      by_found : (o : Option PlainEntry) → entry_at tree folder.id (decimal id) ≡ o
          → (is_some o ≡ true → (facts : Facts) × (last_step true o ≡ reply.Facts facts)) × (is_some o ≡ false → last_step true o ≡ reply.No refusal.NotFound)
      by_found None at = (λ some. absurd (true≢false (sym some)), λ none. refl)
      by_found (Some entry) at =
          let node = (is.plain.named entry (found_some (is_at folder.id (decimal id)) tree.entries entry at).0).named in
          (λ some. (facts_of tree node.0, ap (λ (o : Option PlainNode). (on tree (ok_or o refusal.NotFound) (facts_step tree)).0) node.1), λ none. absurd (true≢false none))

    -- a look at its path says whether the file is kept
    pub kept_told : is_kept tree id ≡ true → (facts : Facts) × (look tree (kept_path id) ≡ reply.Facts facts)
    kept_told kept_is = by (keeping_entry tree) refl
      where
        by : (o : Option PlainEntry) → keeping_entry tree ≡ o → (facts : Facts) × (look tree (kept_path id) ≡ reply.Facts facts)
        by None none = absurd (true≢false (sym kept_is ∙ none_there none))
        by (Some folder) found =
            let told = (by_found folder found (entry_at tree folder.id (decimal id)) refl).0 (kept_found folder found ∙ kept_is) in
            (told.0, kept_look folder found ∙ told.1)

    pub not_kept_told : is_kept tree id ≡ false → look tree (kept_path id) ≡ reply.No refusal.NotFound
    not_kept_told kept_not = by (keeping_entry tree) refl
      where
        by : (o : Option PlainEntry) → keeping_entry tree ≡ o → look tree (kept_path id) ≡ reply.No refusal.NotFound
        by None none =
            look_is tree (kept_path id) refl
            ∙ ap (λ (o : Option PlainEntry). (on tree (then_ (then_ (ok_or o refusal.NotFound) (λ next. then_ (child tree next (decimal id)) (λ last. Ok last))) (λ at. ok_or (node_at tree at.id) refusal.NotFound)) (facts_step tree)).0) none
        by (Some folder) found = kept_look folder found ∙ (by_found folder found (entry_at tree folder.id (decimal id)) refl).1 (kept_found folder found ∙ kept_not)

    -- ---- names

    module _ (node : PlainNode) (here : node_at tree id ≡ Some node) (kind : node.folder ≡ false) (not_kept : is_kept tree id ≡ false) where
      abbrev node_or : PlainNode → Option PlainNode → PlainNode
      node_or other None = other
      node_or other (Some one) = one

      -- an entry of the file is a file's
      entry_kind : (entry : PlainEntry) → Contains tree.entries entry → entry.id ≡ id → entry.folder ≡ false
      entry_kind entry stands same =
          let named = (is.plain.named entry stands).named in
          let one : named.0 ≡ node = ap (node_or named.0) (sym named.1 ∙ ap (λ n. node_at tree n) same ∙ here) in
          sym named.2 ∙ ap (λ (n : PlainNode). n.folder) one ∙ kind

      each_seen : (entry : PlainEntry) → Contains tree.entries entry → (entry.id == id) ≡ true → is_seen tree entry ≡ true
      each_seen entry stands is_its =
          let same = eqb-true entry.id id is_its in
          by (is_at 2 keeping_name entry) (stands_in (keeping_entry tree) entry)
          (λ (at : is_at 2 keeping_name entry ≡ true). true≢false (sym (is.folder entry stands at) ∙ entry_kind entry stands same))
          (λ (inside : stands_in (keeping_entry tree) entry ≡ true).
          let keeper = kept_stands (stands_in (keeping_entry tree)) tree.entries entry stands inside in
          true≢false (sym (any_of is_here (keepers tree) entry keeper (ap (λ n. bytes_eq entry.name (decimal n)) (sym same) ∙ named entry (is.own entry keeper))) ∙ not_kept))
        where
          named : (entry : PlainEntry) → is_own entry ≡ true → bytes_eq entry.name (decimal entry.id) ≡ true
          named entry own = second (not entry.folder) (bytes_eq entry.name (decimal entry.id)) own
            where
              second : (a b : Bool) → (a && b) ≡ true → b ≡ true
              second true b is = is
              second false b is = absurd (true≢false (sym is))

          by : (a b : Bool) → (a ≡ true → ⊥) → (b ≡ true → ⊥) → (not a && not b) ≡ true
          by true b not_first not_second = absurd (not_first refl)
          by false true not_first not_second = absurd (not_second refl)
          by false false not_first not_second = refl

      -- all its names are seen
      pub names_seen : seen_names tree id ≡ names_of tree id
      names_seen =
          sym (length-filter (λ (entry : PlainEntry). entry.id == id) (kept (is_seen tree) tree.entries))
          ∙ ap (λ (l : List PlainEntry). length l) (filter_kept (λ (entry : PlainEntry). entry.id == id) (is_seen tree) tree.entries each_seen)
          ∙ length-filter (λ (entry : PlainEntry). entry.id == id) tree.entries
