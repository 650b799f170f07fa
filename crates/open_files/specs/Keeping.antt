-- The keeping folder, in which a file that is open has an entry once it has no other name, and the tree as users of sessions see it.
use Rattle.std.specs.Prelude.{ℕ, ◌==◌, ◌&&◌, ◌||◌, Bool, false, not, List, [], ◌∷◌, map, count_by, Option, Some, None, is_some, codes, decimal, if◌then◌else◌}
use Rattle.std.specs.List.{list_any}
use Rattle.std.specs.Str.{bytes_eq}
use Rattle.hfs_language.specs.declared.command.Command.{Command}
use Rattle.hfs_language.specs.declared.command.Command.TheVariants as command
use Rattle.hfs_model.specs.declared.plain.PlainAttribute.{PlainAttribute}
use Rattle.hfs_model.specs.declared.plain.PlainEntry.{PlainEntry}
use Rattle.hfs_model.specs.declared.plain.PlainNode.{PlainNode}
use Rattle.hfs_model.specs.declared.plain.PlainTree.{PlainTree}
use Rattle.hfs_model.specs.Plain.{entry_at, is_at}
use Rattle.hfs_model.specs.Sorted.{kept}
use Rattle.hfs_model.specs.Step.{paths_of}

-- ---- the folder

-- its name in the root: a zero, and then these letters
abbrev pub keeping_name : List ℕ
keeping_name = 0 ∷ codes "HFSX Open Files"

-- the path of the folder
abbrev pub keeping_path : List (List ℕ)
keeping_path = keeping_name ∷ []

-- where a file is kept: under its id in decimal digits
abbrev pub kept_path : ℕ → List (List ℕ)
kept_path id = keeping_name ∷ decimal id ∷ []

-- what the root has under this name
abbrev pub keeping_entry : PlainTree → Option PlainEntry
keeping_entry tree = entry_at tree 2 keeping_name

-- the path is the folder's, or one of something in it
abbrev pub is_keeping_path : List (List ℕ) → Bool
is_keeping_path [] = false
is_keeping_path (name ∷ path) = bytes_eq name keeping_name

-- the command names the keeping folder, or something in it
abbrev pub names_keeping : Command → Bool
names_keeping asked = list_any is_keeping_path (paths_of asked)

-- the entry stands in this folder
abbrev pub stands_in : Option PlainEntry → PlainEntry → Bool
stands_in None entry = false
stands_in (Some folder) entry = entry.parent == folder.id

-- the entries that keep files
abbrev pub keepers : PlainTree → List PlainEntry
keepers tree = kept (stands_in (keeping_entry tree)) tree.entries

-- the file has an entry in the keeping folder, under its id
abbrev pub is_kept : PlainTree → ℕ → Bool
is_kept tree id = list_any (λ entry. bytes_eq entry.name (decimal id)) (keepers tree)

-- ---- what is seen

-- the entry is neither the keeping folder's nor one in it
abbrev pub is_seen : PlainTree → PlainEntry → Bool
is_seen tree entry = not (is_at 2 keeping_name entry) && not (stands_in (keeping_entry tree) entry)

-- the entries that are seen
abbrev pub seen_entries : PlainTree → List PlainEntry
seen_entries tree = kept (is_seen tree) tree.entries

-- how many names of a file are seen
abbrev pub seen_names : PlainTree → ℕ → ℕ
seen_names tree id = count_by (λ entry. entry.id == id) (seen_entries tree)

-- the root, and what a seen entry names
abbrev pub is_seen_node : PlainTree → PlainNode → Bool
is_seen_node tree node = (node.id == 2) || list_any (λ entry. entry.id == node.id) (seen_entries tree)

-- Of a folder or file these are seen; when it was changed isn't.
pub record SeenNode : Type 0 where
  pub id : ℕ
  pub folder : Bool
  pub type_bits : ℕ
  pub mode : ℕ
  pub created : ℕ
  pub attributes : List PlainAttribute
  pub bytes : List ℕ
  pub resource : List ℕ

-- what is seen of a folder or file
abbrev pub seen_node : PlainNode → SeenNode
seen_node node = record { id = node.id; folder = node.folder; type_bits = node.type_bits; mode = node.mode; created = node.created; attributes = node.attributes; bytes = node.bytes; resource = node.resource }

-- What users of sessions see of a tree: all but the keeping folder and files that only it names.
pub record Seen : Type 0 where
  pub entries : List PlainEntry
  pub nodes : List SeenNode

-- what is seen of a tree
abbrev pub seen : PlainTree → Seen
seen tree = record { entries = seen_entries tree; nodes = map seen_node (kept (is_seen_node tree) tree.nodes) }

-- the tree without the entries that aren't seen, as listings and counts tell it
abbrev pub shown_tree : PlainTree → PlainTree
shown_tree tree = record tree { entries = seen_entries tree }

-- ---- saving and releasing

-- what saves a file that this path names, by whether the folder is there and whether it keeps the file
abbrev pub saves_by : Bool → Bool → List (List ℕ) → ℕ → List Command
saves_by there kept path id = if there
    then (if kept then [] else command.Ln path (kept_path id) ∷ [])
    else command.Mkdir keeping_path ∷ command.Ln path (kept_path id) ∷ []

-- What saves a file that this path names: the folder is made where it is absent, and the file gets its entry where it has none.
abbrev pub saves : PlainTree → List (List ℕ) → ℕ → List Command
saves tree path id = saves_by (is_some (keeping_entry tree)) (is_kept tree id) path id

-- what releases a file
abbrev pub release : ℕ → Command
release id = command.Rm (kept_path id)

-- what releases each kept entry, in the order of their names
abbrev pub releases : PlainTree → List Command
releases tree = map (λ entry. command.Rm (keeping_name ∷ entry.name ∷ [])) (keepers tree)

-- ---- a folder that isn't the sessions' own

-- an entry that keeps a file, as sessions make it: a file's, under the file's id
abbrev pub is_own_keeper : Bool → List ℕ → ℕ → Bool
is_own_keeper folder name id = not folder && bytes_eq name (decimal id)

-- the entry keeps a file, as sessions make it
abbrev pub is_own : PlainEntry → Bool
is_own entry = is_own_keeper entry.folder entry.name entry.id

-- what the root has under the folder's name isn't the sessions' own: it is a file, or it holds a folder or an entry whose name isn't its file's id
abbrev pub is_taken_by : PlainTree → Option PlainEntry → Bool
is_taken_by tree None = false
is_taken_by tree (Some entry) = not entry.folder || list_any (λ keeper. not (is_own keeper)) (keepers tree)

-- A volume isn't served where the folder's name is a file, or where the folder holds a folder or an entry whose name isn't its file's id.
abbrev pub is_taken : PlainTree → Bool
is_taken tree = is_taken_by tree (keeping_entry tree)
