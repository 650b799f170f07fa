-- The folder or file that a path stands for, by its record.
use Rattle.std.specs.Prelude.{ℕ, ◌==◌, not, false, List, [], ◌∷◌, Option, None, Some, Result, Ok, Err}
use Rattle.btree_node.specs.Levels.{Pair}
use Rattle.cat_records.specs.declared.record.CatRecord.{CatRecord}
use Rattle.cat_records.specs.declared.record.CatRecord.TheVariants.{Folder, File, Thread}
use Rattle.cat_records.specs.declared.record.FileRecord.{FileRecord}
use Rattle.catalog.specs.Children.{children_in}
use Rattle.catalog.specs.declared.folder.Child.{Child}
use Rattle.hard_links.specs.Identity.{identity_of}
use Rattle.hfs_language.specs.declared.refusal.Refusal.{Refusal}
use Rattle.hfs_language.specs.declared.refusal.Refusal.TheVariants as refusal
use Rattle.hfs_model.specs.Step.{then_}
use Rattle.volume_base.specs.Reaching.{walk_in}
use Rattle.volume_base.specs.declared.nodes.Node.{Node}
use Rattle.volume_base.specs.declared.nodes.Node.TheVariants as node
use Rattle.volume_base.specs.declared.reaching.Reached.{Reached}
use Rattle.volume_base.specs.declared.reaching.Reached.TheVariants as reached

-- the folder in a record that is one's
abbrev pub folder_node : CatRecord → Result Node Refusal
folder_node (Folder folder) = Ok (node.Folder folder)
folder_node (File file) = Err refusal.NotFound
folder_node (Thread thread) = Err refusal.NotFound

-- the root, where these are the entries with parent 1, of which it is the only one
abbrev pub root_node : List Child → Result Node Refusal
root_node [] = Err refusal.NotFound
root_node (child ∷ rest) = folder_node child.rec

-- the file that a file's record stands for; it has several names where that is another record. Without a private folder no record is a link
abbrev pub file_node : List Pair → Option ℕ → FileRecord → Node
file_node pairs None file = node.File file false
file_node pairs (Some private) file = let own = identity_of pairs private file in node.File own (not (own.fields.id == file.fields.id))

-- the folder or file that was reached
abbrev pub node_reached : List Pair → Option ℕ → Reached → Result Node Refusal
node_reached pairs private reached.Root = root_node (children_in 1 pairs)
node_reached pairs private (reached.Folder folder) = Ok (node.Folder folder)
node_reached pairs private (reached.File file) = Ok (file_node pairs private file)

-- the folder or file that a path stands for, or the first reason against it
abbrev pub node_in : List Pair → Option ℕ → List (List ℕ) → Result Node Refusal
node_in pairs private path = then_ (walk_in pairs reached.Root path) (node_reached pairs private)
