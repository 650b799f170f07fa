-- The keeping folder is made, and a file goes with its kept name: users see the tree as it was.
use Rattle.std.proofs.Common.{◌≡◌, ℕ, Bool, true, false, List, [], ◌∷◌, ◌++◌, length, refl, sym, ◌∙◌, ap, arith}
use Rattle.std.specs.Prelude.{◌==◌, ◌&&◌, ◌||◌, not, map, count_by, Some, None, if◌then◌else◌}
use Rattle.std.specs.List.{AllByRecursion, filter, list_any}
use Rattle.std.proofs.lemmas.List.Sums.{length-filter}
use Rattle.std.proofs.lemmas.Bool.{eqb-true}
use Rattle.std.specs.Str.{bytes_eq}
use Rattle.hfs_model.specs.declared.plain.PlainEntry.{PlainEntry}
use Rattle.hfs_model.specs.declared.plain.PlainNode.{PlainNode}
use Rattle.hfs_model.specs.declared.plain.PlainTree.{PlainTree}
use Rattle.hfs_model.specs.Plain.{entry_before, is_at, is_node, names_of, new_node, node_before, with_entry, with_node, without_entry, without_node}
use Rattle.hfs_model.specs.Sorted.{kept, put_before}
use Rattle.hfs_model.specs.Step.{Place, drawn, made, marked, removed, unnamed, with_private}
use Rattle.open_files.specs.Keeping.{keeping_entry, keeping_name, seen, seen_entries, seen_node, stands_in}
use Rattle.open_files.proofs.Lists.{find_new, kept_put, kept_same, kept_twice}
use Rattle.open_files.proofs.Saving.{Keeps, marked_unseen, seen_by, node_by, seen_of, touched_unseen}
use Rattle.open_files.proofs.Releasing.{without_unseen}

either_false : (a b : Bool) → a ≡ false → b ≡ false → (a || b) ≡ false
either_false a b first second = ap (λ c. c || b) first ∙ second

-- what none of the items passes none of some of them passes
none_of_kept : {X : Type 0} (test keeps : X → Bool) (items : List X) → AllByRecursion (λ x. test x ≡ false) items → list_any test (kept keeps items) ≡ false
none_of_kept test keeps [] none = refl
none_of_kept {X} test keeps (x ∷ items) none = kept_cases (keeps x) (none_of_kept test keeps items none.1)
  where
    kept_cases : (b : Bool) → list_any test (kept keeps items) ≡ false → list_any test ((if b then x ∷ [] else []) ++ kept keeps items) ≡ false
    kept_cases true later = either_false (test x) (list_any test (kept keeps items)) none.0 later
    kept_cases false later = later

-- ---- the folder is made

-- The id isn't in use: no entry stands in it or has it. The root has no entry of the folder's name.
pub record IsUnused (tree : PlainTree) (id : ℕ) : Type 0 where
  pub absent : AllByRecursion (λ (entry : PlainEntry). is_at 2 keeping_name entry ≡ false) tree.entries
  pub missing : keeping_entry tree ≡ None
  pub empty : AllByRecursion (λ (entry : PlainEntry). (entry.parent == id) ≡ false) tree.entries
  pub nameless : AllByRecursion (λ (entry : PlainEntry). (entry.id == id) ≡ false) tree.entries
  pub no_root : (id == 2) ≡ false

same_seen : (folder : PlainEntry) (entries : List PlainEntry) → AllByRecursion (λ (entry : PlainEntry). (entry.parent == folder.id) ≡ false) entries → AllByRecursion (λ entry. seen_by (Some folder) entry ≡ seen_by None entry) entries
same_seen folder [] none = tt
same_seen folder (entry ∷ rest) none = (ap (λ b. not (is_at 2 keeping_name entry) && not b) none.0, same_seen folder rest none.1)

-- Making the keeping folder, where it is absent: users see the tree as it was.
pub made_unseen : (tree : PlainTree) (at : Place) → at.folder ≡ 2 → at.name ≡ keeping_name → IsUnused tree tree.next_id → seen (made true at tree) ≡ seen tree
made_unseen tree at in_root named unused =
    let entry : PlainEntry = record { parent = at.folder; name = at.name; folder = true; id = tree.next_id } in
    let node = new_node true tree.next_id tree.moment in
    let now = with_entry entry (with_node node (drawn 1 tree)) in
    let own : is_at 2 keeping_name entry ≡ true = ap (λ n. (n == 2) && bytes_eq at.name keeping_name) in_root ∙ ap (λ l. bytes_eq l keeping_name) named in
    let found : keeping_entry now ≡ Some entry = find_new (is_at 2 keeping_name) entry_before entry tree.entries own unused.absent in
    let hidden : seen_by (Some entry) entry ≡ false = ap (λ b. not b && not (stands_in (Some entry) entry)) own in
    let names : seen_entries now ≡ seen_entries tree =
    ap (λ f. kept (seen_by f) (put_before entry_before entry tree.entries)) found ∙ kept_put (seen_by (Some entry)) entry_before entry tree.entries hidden
    ∙ kept_same (seen_by (Some entry)) (seen_by None) tree.entries (same_seen entry tree.entries unused.empty) ∙ ap (λ f. kept (seen_by f) tree.entries) (sym unused.missing) in
    let node_hidden : node_by (seen_entries tree) node ≡ false = either_false (tree.next_id == 2) (list_any (λ e. e.id == tree.next_id) (seen_entries tree)) unused.no_root
    (none_of_kept (λ (e : PlainEntry). e.id == tree.next_id) (seen_by (keeping_entry tree)) tree.entries unused.nameless) in
    touched_unseen at.folder now ∙ ap (λ n. seen_of n (put_before node_before node tree.nodes)) names
    ∙ ap (λ (l : List PlainNode). record { entries = seen_entries tree; nodes = map seen_node l }) (kept_put (node_by (seen_entries tree)) node_before node tree.nodes node_hidden)

-- ---- a file is released

-- a file without a name is not seen
module _ (tree : PlainTree) (id : ℕ) (nameless : AllByRecursion (λ (entry : PlainEntry). (entry.id == id) ≡ false) tree.entries) (no_root : (id == 2) ≡ false) where
  gone_node : (node : PlainNode) → not (is_node id node) ≡ false → node_by (seen_entries tree) node ≡ false
  gone_node node gone = ap (λ n. node_by (seen_entries tree) (record node { id = n })) (is_id node.id (node.id == id) refl gone)
      ∙ either_false (id == 2) (list_any (λ entry. entry.id == id) (seen_entries tree)) no_root (none_of_kept (λ (entry : PlainEntry). entry.id == id) (seen_by (keeping_entry tree)) tree.entries nameless)
    where
      is_id : (n : ℕ) (b : Bool) → (n == id) ≡ b → not b ≡ false → n ≡ id
      is_id n b is not_b = grind (arith, is, not_b)

  each_gone : (nodes : List PlainNode) → AllByRecursion (λ node. not (is_node id node) ≡ false → node_by (seen_entries tree) node ≡ false) nodes
  each_gone [] = tt
  each_gone (node ∷ rest) = (gone_node node, each_gone rest)

  pub without_node_unseen : seen (without_node id tree) ≡ seen tree
  without_node_unseen =
      ap (λ (l : List PlainNode). record { entries = seen_entries tree; nodes = map seen_node l }) (kept_twice (node_by (seen_entries tree)) (λ node. not (is_node id node)) tree.nodes (each_gone tree.nodes))

-- an id that no name has
none_filtered : (id : ℕ) (entries : List PlainEntry) → length (filter (λ (entry : PlainEntry). entry.id == id) entries) ≡ 0 → AllByRecursion (λ (entry : PlainEntry). (entry.id == id) ≡ false) entries
none_filtered id [] none = tt
none_filtered id (entry ∷ rest) none = filtered (entry.id == id) none (none_filtered id rest)
  where
    filtered : (b : Bool) → length (if b then entry ∷ filter (λ (e : PlainEntry). e.id == id) rest else filter (λ (e : PlainEntry). e.id == id) rest) ≡ 0
        → (length (filter (λ (e : PlainEntry). e.id == id) rest) ≡ 0 → AllByRecursion (λ (e : PlainEntry). (e.id == id) ≡ false) rest) → (b ≡ false) × AllByRecursion (λ (e : PlainEntry). (e.id == id) ≡ false) rest
    filtered true is later = absurd (omega (arith, is))
    filtered false is later = (refl, later is)

none_counted : (id : ℕ) (entries : List PlainEntry) → (count_by (λ entry. entry.id == id) entries == 0) ≡ true → AllByRecursion (λ (entry : PlainEntry). (entry.id == id) ≡ false) entries
none_counted id entries none = none_filtered id entries (length-filter (λ (entry : PlainEntry). entry.id == id) entries ∙ eqb-true _ _ none)

-- A file loses a name that isn't seen, and goes where that was its last.
pub unnamed_unseen : (id : ℕ) (tree : PlainTree) → (id == 2) ≡ false → seen (unnamed id tree) ≡ seen tree
unnamed_unseen id tree no_root = unnamed_cases (names_of tree id == 0) refl
  where
    unnamed_cases : (b : Bool) → (names_of tree id == 0) ≡ b → seen (if b then with_private (without_node id tree) else marked id tree) ≡ seen tree
    unnamed_cases true none = without_node_unseen tree id (none_counted id tree.entries none) no_root
    unnamed_cases false some = marked_unseen id tree

-- Releasing: the file's entry in the keeping folder goes, and users see the tree as it was.
pub removed_unseen : (tree : PlainTree) (folder entry : PlainEntry) → Keeps tree folder → entry.parent ≡ folder.id → (entry.id == 2) ≡ false → seen (removed entry tree) ≡ seen tree
removed_unseen tree folder entry keeps inside no_root =
    touched_unseen entry.parent (unnamed entry.id (without_entry entry.parent entry.name tree)) ∙ unnamed_unseen entry.id (without_entry entry.parent entry.name tree) no_root
    ∙ without_unseen tree folder entry.parent entry.name keeps inside
