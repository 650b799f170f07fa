-- The entries of a folder that its users see, and what `ls` answers.
use Rattle.std.specs.Prelude.{ℕ, ◌==◌, ◌&&◌, Bool, not, List, map, Result, Ok, Err}
use Rattle.btree_node.specs.Levels.{Pair}
use Rattle.catalog.specs.Children.{children_in}
use Rattle.catalog.specs.declared.folder.Child.{Child}
use Rattle.hfs_language.specs.declared.refusal.Refusal.{Refusal}
use Rattle.hfs_language.specs.declared.reply.ListedName.{ListedName}
use Rattle.hfs_language.specs.declared.reply.Reply.{Reply}
use Rattle.hfs_language.specs.declared.reply.Reply.TheVariants as reply
use Rattle.hfs_model.specs.Sorted.{kept}
use Rattle.hfs_model.specs.Step.{is_private_name}
use Rattle.hfs_volume.specs.Records.{is_folder}
use Rattle.volume_base.specs.Reaching.{folder_in}

-- users see a child of a folder, unless it is one of the volume's own names in the root
abbrev pub is_shown : ℕ → Child → Bool
is_shown folder child = not ((folder == 2) && is_private_name child.name)

abbrev pub listed_child : Child → ListedName
listed_child child = record { name = child.name; folder = is_folder child.rec }

-- the names that users see of a folder with these children
abbrev pub shown_in : ℕ → List Child → List ListedName
shown_in folder children = map listed_child (kept (is_shown folder) children)

-- the reply about what was found, or the first reason against it
abbrev pub replied : {X : Type 0} → Result X Refusal → (X → Reply) → Reply
replied (Ok found) reply_of = reply_of found
replied (Err why) reply_of = reply.No why

-- the names in the folder that a path reaches, by the pairs of the catalog's tree
abbrev pub names_in : List Pair → List (List ℕ) → Reply
names_in pairs path = replied (folder_in pairs path) (λ folder. reply.Listing (shown_in folder (children_in folder pairs)))
