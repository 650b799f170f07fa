-- Saving a file changes nothing that users see, and neither does releasing it.
use Rattle.std.proofs.Common.{◌≡◌, ℕ, Bool, true, false, List, refl, ◌∙◌, ap, arith}
use Rattle.std.specs.Prelude.{◌==◌, ◌&&◌, ◌||◌, not, map, Option, Some, if◌then◌else◌}
use Rattle.std.specs.List.{list_any}
use Rattle.std.specs.Str.{bytes_eq}
use Rattle.hfs_model.specs.declared.plain.PlainEntry.{PlainEntry}
use Rattle.hfs_model.specs.declared.plain.PlainNode.{PlainNode}
use Rattle.hfs_model.specs.declared.plain.PlainTree.{PlainTree}
use Rattle.hfs_model.specs.Plain.{entry_before, is_at, is_node, with_changed, with_entry}
use Rattle.hfs_model.specs.Sorted.{kept, put_before}
use Rattle.hfs_model.specs.Step.{Place, drawn, linked, link_ids, marked, touched, with_private}
use Rattle.open_files.specs.Keeping.{Seen, SeenNode, keeping_entry, keeping_name, seen, seen_entries, seen_node, stands_in}
use Rattle.open_files.proofs.Lists.{find_put, kept_changed, kept_put}

-- ---- trees that users see alike

-- what is seen is a matter of entries and nodes alone
abbrev pub seen_by : Option PlainEntry → PlainEntry → Bool
seen_by folder entry = not (is_at 2 keeping_name entry) && not (stands_in folder entry)

abbrev pub entries_by : Option PlainEntry → List PlainEntry → List PlainEntry
entries_by folder entries = kept (seen_by folder) entries

abbrev pub node_by : List PlainEntry → PlainNode → Bool
node_by names node = (node.id == 2) || list_any (λ entry. entry.id == node.id) names

abbrev pub seen_of : List PlainEntry → List PlainNode → Seen
seen_of names nodes = record { entries = names; nodes = map seen_node (kept (node_by names) nodes) }

-- a change of a node that keeps its id and all that is seen of it
pub record Hides (change : PlainNode → PlainNode) : Type 0 where
  pub id : (node : PlainNode) → (change node).id ≡ node.id
  pub same : (node : PlainNode) → seen_node (change node) ≡ seen_node node

-- the node at an id changed so
abbrev changed_at : ℕ → (PlainNode → PlainNode) → PlainNode → PlainNode
changed_at id change node = if is_node id node then change node else node

hides_at : (id : ℕ) (change : PlainNode → PlainNode) → Hides change → Hides (changed_at id change)
hides_at id change hides = record { id = λ node. id_cases node (is_node id node); same = λ node. same_cases node (is_node id node) }
  where
    id_cases : (node : PlainNode) (b : Bool) → (if b then change node else node).id ≡ node.id
    id_cases node true = hides.id node
    id_cases node false = refl

    same_cases : (node : PlainNode) (b : Bool) → seen_node (if b then change node else node) ≡ seen_node node
    same_cases node true = hides.same node
    same_cases node false = refl

-- Users see no such change.
pub changed_unseen : (id : ℕ) (change : PlainNode → PlainNode) (tree : PlainTree) → Hides change → seen (with_changed id change tree) ≡ seen tree
changed_unseen id change tree hides =
    let at = hides_at id change hides in
    ap (λ (l : List SeenNode). record { entries = seen_entries tree; nodes = l })
    (kept_changed (node_by (seen_entries tree)) seen_node (changed_at id change) tree.nodes (λ node. ap (λ n. (n == 2) || list_any (λ entry. entry.id == n) (seen_entries tree)) (at.id node)) at.same)

touch_hides : (moment : ℕ) → Hides (λ node. record node { changed = moment; attribute = moment })
touch_hides moment = record { id = λ node. refl; same = λ node. refl }

mark_hides : (moment : ℕ) → Hides (λ node. record node { attribute = moment })
mark_hides moment = record { id = λ node. refl; same = λ node. refl }

link_hides : Hides (λ node. record node { linked = true })
link_hides = record { id = λ node. refl; same = λ node. refl }

pub touched_unseen : (id : ℕ) (tree : PlainTree) → seen (touched id tree) ≡ seen tree
touched_unseen id tree = changed_unseen id (λ node. record node { changed = tree.moment; attribute = tree.moment }) tree (touch_hides tree.moment)

pub marked_unseen : (id : ℕ) (tree : PlainTree) → seen (marked id tree) ≡ seen tree
marked_unseen id tree = changed_unseen id (λ node. record node { attribute = tree.moment }) tree (mark_hides tree.moment)

-- ---- an entry in the keeping folder

-- this folder is the keeping folder, and no entry of it is the root's
pub record Keeps (tree : PlainTree) (folder : PlainEntry) : Type 0 where
  pub is : keeping_entry tree ≡ Some folder
  pub below : (folder.id == 2) ≡ false

both_false : (a b : Bool) → a ≡ false → (a && b) ≡ false
both_false a b is = ap (λ c. c && b) is

-- an entry more in the folder isn't seen
pub kept_unseen : (tree : PlainTree) (folder entry : PlainEntry) → Keeps tree folder → entry.parent ≡ folder.id → seen (with_entry entry tree) ≡ seen tree
kept_unseen tree folder entry keeps inside =
    let elsewhere : is_at 2 keeping_name entry ≡ false = both_false (entry.parent == 2) (bytes_eq entry.name keeping_name) (ap (λ n. n == 2) inside ∙ keeps.below) in
    let folder_is : keeping_entry (with_entry entry tree) ≡ keeping_entry tree = find_put (is_at 2 keeping_name) entry_before entry tree.entries elsewhere in
    let hidden : seen_by (keeping_entry tree) entry ≡ false =
    ap (λ f. not (is_at 2 keeping_name entry) && not (stands_in f entry)) keeps.is ∙ ap (λ n. not (is_at 2 keeping_name entry) && not (n == folder.id)) inside ∙ never (not (is_at 2 keeping_name entry)) folder.id in
    let names : seen_entries (with_entry entry tree) ≡ seen_entries tree =
    ap (λ f. kept (seen_by f) (put_before entry_before entry tree.entries)) folder_is ∙ kept_put (seen_by (keeping_entry tree)) entry_before entry tree.entries hidden in
    ap (λ n. seen_of n tree.nodes) names
  where
    never : (b : Bool) (n : ℕ) → (b && not (n == n)) ≡ false
    never true n = grind arith
    never false n = refl

-- Saving: the file gets an entry in the keeping folder, and users see the tree as it was.
pub linked_unseen : (tree : PlainTree) (folder : PlainEntry) (file : PlainNode) (at : Place) → Keeps tree folder → at.folder ≡ folder.id → seen (linked file at tree) ≡ seen tree
linked_unseen tree folder file at keeps inside =
    let before = drawn (link_ids file) (with_private tree) in
    let entry : PlainEntry = record { parent = at.folder; name = at.name; folder = false; id = file.id } in
    let put = with_entry entry before in
    let linked_now = with_changed file.id (λ node. record node { linked = true }) put in
    touched_unseen at.folder (marked file.id linked_now) ∙ marked_unseen file.id linked_now ∙ changed_unseen file.id (λ node. record node { linked = true }) put link_hides
    ∙ kept_unseen before folder entry (record { is = keeps.is; below = keeps.below }) inside
