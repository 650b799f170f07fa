-- Which folder or file a path stands for, and its attributes.
use Rattle.std.specs.Prelude.{ℕ, false, List, map, Option, None, Some, Result, Ok}
use Rattle.attributes.specs.Owned.{names_of}
use Rattle.btree_node.specs.Levels.{Pair}
use Rattle.cat_records.specs.declared.record.FileRecord.{FileRecord}
use Rattle.hard_links.specs.Identity.{identity_of}
use Rattle.hfs_language.specs.declared.refusal.Refusal.{Refusal}
use Rattle.hfs_language.specs.declared.reply.ListedName.{ListedName}
use Rattle.hfs_language.specs.declared.reply.Reply.{Reply}
use Rattle.hfs_language.specs.declared.reply.Reply.TheVariants as reply
use Rattle.hfs_model.specs.Step.{then_}
use Rattle.volume_base.specs.Listing.{replied}
use Rattle.volume_base.specs.Reaching.{walk_in}
use Rattle.volume_base.specs.declared.reaching.Reached.{Reached}
use Rattle.volume_base.specs.declared.reaching.Reached.TheVariants as reached

-- the file that a file's record stands for; without a private folder no record is a link
abbrev pub identity_in : List Pair → Option ℕ → FileRecord → FileRecord
identity_in pairs None file = file
identity_in pairs (Some private) file = identity_of pairs private file

-- the CNID of the folder or file that was reached
abbrev pub id_reached : List Pair → Option ℕ → Reached → ℕ
id_reached pairs private reached.Root = 2
id_reached pairs private (reached.Folder folder) = folder.fields.id
id_reached pairs private (reached.File file) = (identity_in pairs private file).fields.id

-- that of the folder or file that a path stands for, or the first reason against it
abbrev pub owner_in : List Pair → Option ℕ → List (List ℕ) → Result ℕ Refusal
owner_in pairs private path = then_ (walk_in pairs reached.Root path) (λ at. Ok (id_reached pairs private at))

-- the name of an attribute, as it is told
abbrev pub listed_name : List ℕ → ListedName
listed_name name = record { name = name; folder = false }

-- the names of the attributes of a folder or file
abbrev pub attributes_in : List Pair → ℕ → List ListedName
attributes_in attributes id = map listed_name (names_of id attributes)

-- those of what a path stands for, by the pairs of the catalog's tree and of the attributes'
abbrev pub names_owned : List Pair → Option ℕ → List Pair → List (List ℕ) → Reply
names_owned pairs private attributes path = replied (owner_in pairs private path) (λ id. reply.Listing (attributes_in attributes id))
