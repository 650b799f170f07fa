-- What a command is answered, and the tree after it.
use Rattle.std.specs.Prelude.{ℕ, ◌+◌, ◌-◌, ◌^◌, ◌==◌, ◌&&◌, ◌||◌, nat_lt, nat_le, Bool, true, false, not, List, [], ◌∷◌, ◌++◌, length, map, take, drop, replicate, Option, Some, None, is_some, ok_or, Result, Ok, Err, codes, if◌then◌else◌}
use Rattle.std.specs.List.{list_any}
use Rattle.std.specs.Option.{ok_or}
use Rattle.std.specs.Str.{bytes_eq}
use Rattle.hx_bytes.specs.Field.{put_at}
use Rattle.hfs_language.specs.declared.command.Command.{Command}
use Rattle.hfs_language.specs.declared.command.Command.TheVariants as command
use Rattle.hfs_language.specs.declared.refusal.Refusal.{Refusal}
use Rattle.hfs_language.specs.declared.refusal.Refusal.TheVariants as refusal
use Rattle.hfs_language.specs.declared.reply.Reply.{Reply}
use Rattle.hfs_language.specs.declared.reply.Reply.TheVariants as reply
use Rattle.hfs_language.specs.declared.reply.ListedName.{ListedName}
use Rattle.hfs_language.specs.declared.reply.Facts.{Facts}
use Rattle.hfs_model.specs.declared.plain.PlainAttribute.{PlainAttribute}
use Rattle.hfs_model.specs.declared.plain.PlainEntry.{PlainEntry}
use Rattle.hfs_model.specs.declared.plain.PlainNode.{PlainNode}
use Rattle.hfs_model.specs.declared.plain.PlainTree.{PlainTree}
use Rattle.hfs_model.specs.Plain.{entry_at, entries_in, names_of, node_at, attribute_at, with_entry, without_entry, with_node, without_node, with_changed, with_mode, with_attribute, without_attribute, new_node}

-- ---- limits

-- the most bytes of a file
abbrev pub most_size : ℕ
most_size = 2 ^ 40

-- of one `write`, or asked by one `read`
abbrev pub most_bytes : ℕ
most_bytes = 65536

-- the most names of a file
abbrev pub most_links : ℕ
most_links = 32767

-- the most bytes of an attribute's value
abbrev pub most_attribute : ℕ
most_attribute = 131072

-- ---- names that the volume keeps for itself

-- the name of the file that is the journal
abbrev pub journal_name : List ℕ
journal_name = codes ".journal"

-- the name of the file that is the journal's info block
abbrev pub journal_info_name : List ℕ
journal_info_name = codes ".journal_info_block"

-- the private folder: four zeros, and then these letters
abbrev pub private_name : List ℕ
private_name = 0 ∷ 0 ∷ 0 ∷ 0 ∷ codes "HFS+ Private Data"

-- a name of the root that no command may speak of: the two files of the journal and the private folder
abbrev pub is_private_name : List ℕ → Bool
is_private_name name = bytes_eq name journal_name || bytes_eq name journal_info_name || bytes_eq name private_name

-- whether a path leads into what users don't see: the journal's files and the folder of linked files
abbrev pub is_private_path : List (List ℕ) → Bool
is_private_path [] = false
is_private_path (name ∷ path) = is_private_name name

-- the paths of a command
abbrev pub paths_of : Command → List (List (List ℕ))
paths_of (command.Mkdir path) = path ∷ []
paths_of (command.Create path) = path ∷ []
paths_of (command.Rm path) = path ∷ []
paths_of (command.Rmdir path) = path ∷ []
paths_of (command.Mv from to) = from ∷ to ∷ []
paths_of (command.Ln from to) = from ∷ to ∷ []
paths_of (command.Write path from value) = path ∷ []
paths_of (command.Read path from long) = path ∷ []
paths_of (command.Trunc path size) = path ∷ []
paths_of (command.Ls path) = path ∷ []
paths_of (command.Stat path) = path ∷ []
paths_of (command.Chmod path mode) = path ∷ []
paths_of (command.SetAttr path name value) = path ∷ []
paths_of (command.GetAttr path name) = path ∷ []
paths_of (command.DelAttr path name) = path ∷ []
paths_of (command.LsAttr path) = path ∷ []
paths_of (command.At moment) = []
paths_of command.Df = []
paths_of command.Sync = []

-- whether a command names such a path
abbrev pub is_private : Command → Bool
is_private asked = list_any is_private_path (paths_of asked)

-- the command changes nothing on any tree
abbrev pub only_reads : Command → Bool
only_reads (command.Read path from long) = true
only_reads (command.Ls path) = true
only_reads (command.Stat path) = true
only_reads (command.GetAttr path name) = true
only_reads (command.LsAttr path) = true
only_reads command.Df = true
only_reads command.Sync = true
only_reads _ = false

-- ---- refusals

-- go on with a value, unless it was refused
abbrev pub then_ : {X Y : Type 0} → Result X Refusal → (X → Result Y Refusal) → Result Y Refusal
then_ (Ok x) next = next x
then_ (Err why) next = Err why

-- the value, unless a reason against it stands
abbrev pub unless : {X : Type 0} → Bool → Refusal → X → Result X Refusal
unless stands why x = if stands then Err why else Ok x

-- ---- walks

-- the root, as if it were named: its parent is 1, and its name is empty
abbrev pub root_entry : PlainEntry
root_entry = record { parent = 1; name = []; folder = true; id = 2 }

-- the entry of a name in what was reached
abbrev pub child : PlainTree → PlainEntry → List ℕ → Result PlainEntry Refusal
child tree at name = if at.folder then ok_or (entry_at tree at.id name) refusal.NotFound else Err refusal.NotFolder

-- what a path reaches from here
abbrev pub walk : PlainTree → PlainEntry → List (List ℕ) → Result PlainEntry Refusal
walk tree at [] = Ok at
walk tree at (name ∷ path) = then_ (child tree at name) (λ next. walk tree next path)

-- the entry to which a path leads from the root, or why there is none
abbrev pub reached : PlainTree → List (List ℕ) → Result PlainEntry Refusal
reached tree path = walk tree root_entry path

-- A place for a name: its folder, and the entry that stands there, if one does.
pub record Place : Type 0 where
  pub folder : ℕ
  pub name : List ℕ
  pub found : Option PlainEntry

-- the path without its last name, and that name
abbrev pub front : List (List ℕ) → List (List ℕ)
front [] = []
front (name ∷ []) = []
front (name ∷ next ∷ path) = name ∷ front (next ∷ path)

-- the last name of a path
abbrev pub last_name : List (List ℕ) → List ℕ
last_name [] = []
last_name (name ∷ []) = name
last_name (name ∷ next ∷ path) = last_name (next ∷ path)

-- a name in a folder, with the entry that has it; a file holds no names
abbrev pub place_in : PlainTree → List ℕ → PlainEntry → Result Place Refusal
place_in tree name at = if at.folder then Ok (record { folder = at.id; name = name; found = entry_at tree at.id name }) else Err refusal.NotFolder

-- the place that a path names, whether anything stands there or not
abbrev pub place : PlainTree → List (List ℕ) → Result Place Refusal
place tree path = then_ (reached tree (front path)) (place_in tree (last_name path))

-- whether a path is the root
abbrev pub is_root : List (List ℕ) → Bool
is_root [] = true
is_root (name ∷ path) = false

-- a path goes on below another
abbrev pub is_below : List (List ℕ) → List (List ℕ) → Bool
is_below [] top = false
is_below (name ∷ path) [] = true
is_below (name ∷ path) (other ∷ top) = bytes_eq name other && is_below path top

-- ---- what a command is about, or the first reason against it

-- the place of a new name
abbrev pub new_place : PlainTree → List (List ℕ) → Result Place Refusal
new_place tree path = then_ (place tree path) (λ at. unless (is_some at.found) refusal.Exists at)

-- the place that `mkdir` and `create` fill: a new name in a folder that is there
abbrev pub to_make : PlainTree → List (List ℕ) → Result Place Refusal
to_make tree path = then_ (unless (is_root path) refusal.Root path) (new_place tree)

-- the entry that `rm` removes: a file
abbrev pub to_rm : PlainTree → List (List ℕ) → Result PlainEntry Refusal
to_rm tree path = then_ (unless (is_root path) refusal.Root path) (λ named. then_ (reached tree named) (λ at. unless at.folder refusal.IsFolder at))

-- the entry that `rmdir` removes: an empty folder
abbrev pub to_rmdir : PlainTree → List (List ℕ) → Result PlainEntry Refusal
to_rmdir tree path =
    then_ (unless (is_root path) refusal.Root path) (λ named. then_ (reached tree named) (λ at. then_ (unless (not at.folder) refusal.NotFolder at) (λ folder. unless (not (length (entries_in tree folder.id) == 0)) refusal.NotEmpty folder)))

-- what is named by the first path, and the place that the second one names
abbrev pub to_pair : PlainTree → List (List ℕ) → List (List ℕ) → Result (PlainEntry × Place) Refusal
to_pair tree from to =
    then_ (unless (is_root from || is_root to) refusal.Root from) (λ named. then_ (reached tree named) (λ at. then_ (place tree to) (λ goal. Ok (at, goal))))

-- an entry stands at the new place that `mv` doesn't replace: it or the one that is moved is a folder
abbrev pub stands_in_way : PlainEntry → Option PlainEntry → Bool
stands_in_way at None = false
stands_in_way at (Some other) = at.folder || other.folder

-- the entry that `mv` moves and its new place, which is free or that of a file that a file replaces, and isn't inside the entry itself
abbrev pub to_mv : PlainTree → List (List ℕ) → List (List ℕ) → Result (PlainEntry × Place) Refusal
to_mv tree from to = then_ (to_pair tree from to) (λ pair. then_ (unless (stands_in_way pair.0 pair.1.found) refusal.Exists pair) (unless (is_below to from) refusal.Inside))

-- the file that `ln` names again, and the new place, which is free
abbrev pub to_ln : PlainTree → List (List ℕ) → List (List ℕ) → Result (PlainEntry × Place) Refusal
to_ln tree from to =
    then_ (to_pair tree from to) (λ pair. then_ (unless pair.0.folder refusal.IsFolder pair) (λ file. then_ (unless (is_some file.1.found) refusal.Exists file) (unless (nat_le most_links (names_of tree file.0.id)) refusal.TooManyLinks)))

-- the file that gets a name more, and the place of that name
abbrev pub to_link : PlainTree → List (List ℕ) → List (List ℕ) → Result (PlainNode × Place) Refusal
to_link tree from to = then_ (to_ln tree from to) (λ pair. then_ (ok_or (node_at tree pair.0.id) refusal.NotFound) (λ file. Ok (file, pair.1)))

-- the folder or file that a path reaches
abbrev pub to_node : PlainTree → List (List ℕ) → Result PlainNode Refusal
to_node tree path = then_ (reached tree path) (λ at. ok_or (node_at tree at.id) refusal.NotFound)

-- the file to which a path leads
abbrev pub to_file : PlainTree → List (List ℕ) → Result PlainNode Refusal
to_file tree path = then_ (to_node tree path) (λ node. unless node.folder refusal.IsFolder node)

-- the folder to which a path leads
abbrev pub to_folder : PlainTree → List (List ℕ) → Result PlainNode Refusal
to_folder tree path = then_ (to_node tree path) (λ node. unless (not node.folder) refusal.NotFolder node)

-- the size of a file after a value is written; no byte makes no file longer
abbrev pub size_written : ℕ → ℕ → ℕ → ℕ
size_written size from long = if long == 0 then size else if nat_lt size (from + long) then from + long else size

-- the file into which `write` puts a value of this length
abbrev pub to_write : PlainTree → List (List ℕ) → ℕ → List ℕ → Result PlainNode Refusal
to_write tree path from value = then_ (to_file tree path) (unless (nat_lt most_size (from + length value) || nat_lt most_bytes (length value)) refusal.TooLarge)

-- the file of which `read` gives so many bytes
abbrev pub to_read : PlainTree → List (List ℕ) → ℕ → Result PlainNode Refusal
to_read tree path long = then_ (to_file tree path) (λ file. unless (nat_lt most_bytes long) refusal.TooLarge file)

-- the file whose size `trunc` sets
abbrev pub to_trunc : PlainTree → List (List ℕ) → ℕ → Result PlainNode Refusal
to_trunc tree path size = then_ (to_file tree path) (unless (nat_lt most_size size) refusal.TooLarge)

-- the folder or file whose attribute `setattr` sets
abbrev pub to_set : PlainTree → List (List ℕ) → List ℕ → Result PlainNode Refusal
to_set tree path value = then_ (to_node tree path) (λ node. unless (nat_lt most_attribute (length value)) refusal.AttributeTooLarge node)

-- the folder or file, and its attribute of this name
abbrev pub to_attribute : PlainTree → List (List ℕ) → List ℕ → Result (PlainNode × PlainAttribute) Refusal
to_attribute tree path name = then_ (to_node tree path) (λ node. then_ (ok_or (attribute_at node name) refusal.NoAttribute) (λ attribute. Ok (node, attribute)))

-- the same, of a value that a reply holds: another system may have written a longer one
abbrev pub to_value : PlainTree → List (List ℕ) → List ℕ → Result (PlainNode × PlainAttribute) Refusal
to_value tree path name = then_ (to_attribute tree path name) (λ pair. unless (nat_lt most_attribute (length pair.1.value)) refusal.TooLarge pair)

-- ---- changes of the tree

-- entries of the folder changed at this moment
abbrev pub touched : ℕ → PlainTree → PlainTree
touched id tree = with_changed id (λ node. record node { changed = tree.moment; attribute = tree.moment }) tree

-- the folder or file itself did, but not what it holds
abbrev pub marked : ℕ → PlainTree → PlainTree
marked id tree = with_changed id (λ node. record node { attribute = tree.moment }) tree

-- the next ids went to something
abbrev pub drawn : ℕ → PlainTree → PlainTree
drawn ids tree = record tree { next_id = tree.next_id + ids }

-- the private folder is there from now on, and took an id where it wasn't; no date of the root changes
abbrev pub with_private : PlainTree → PlainTree
with_private tree = record (drawn (if tree.has_private then 0 else 1) tree) { has_private = true }

-- a new folder or file
abbrev pub made : Bool → Place → PlainTree → PlainTree
made folder at tree =
    touched at.folder (with_entry (record { parent = at.folder; name = at.name; folder = folder; id = tree.next_id }) (with_node (new_node folder tree.next_id tree.moment) (drawn 1 tree)))

-- a file that has lost a name; it goes with its last one, and then the private folder is there
abbrev pub unnamed : ℕ → PlainTree → PlainTree
unnamed id tree = if names_of tree id == 0 then with_private (without_node id tree) else marked id tree

-- the tree behind an `rm`: the name is gone, and with its last name the file; the folder is dated
abbrev pub removed : PlainEntry → PlainTree → PlainTree
removed entry tree = touched entry.parent (unnamed entry.id (without_entry entry.parent entry.name tree))

-- the tree behind an `rmdir`; the folder above is dated
abbrev pub removed_folder : PlainEntry → PlainTree → PlainTree
removed_folder entry tree = touched entry.parent (without_node entry.id (without_entry entry.parent entry.name tree))

-- the entry stands at its new place: both folders are dated, and what was moved is marked
abbrev pub moved : PlainEntry → Place → PlainTree → PlainTree
moved entry to tree =
    marked entry.id (touched to.folder (touched entry.parent (with_entry (record entry { parent = to.folder; name = to.name }) (without_entry entry.parent entry.name tree))))

-- an entry that stands at the new place names the same file
abbrev pub is_same_file : PlainEntry → Option PlainEntry → Bool
is_same_file at None = false
is_same_file at (Some other) = other.id == at.id

-- a file that stood at the new place has lost that name, as by `rm`
abbrev pub vacated : Option PlainEntry → PlainTree → PlainTree
vacated None tree = tree
vacated (Some other) tree = removed other tree

-- the tree behind a `mv`: the entry stands at its new place, instead of a file that stood there; where both names are those of one file
-- nothing changes
abbrev pub moved_over : PlainEntry → Place → PlainTree → PlainTree
moved_over entry to tree = if is_same_file entry to.found then tree else moved entry to (vacated to.found tree)

-- the ids of the records that a second name makes: two for the first such name, and one for a later one
abbrev pub link_ids : PlainNode → ℕ
link_ids file = if file.linked then 1 else 2

-- the tree behind an `ln`: the file has one name more, and the CNIDs that the links take are drawn
abbrev pub linked : PlainNode → Place → PlainTree → PlainTree
linked file to tree =
    touched to.folder (marked file.id (with_changed file.id (λ node. record node { linked = true }) (with_entry (record { parent = to.folder; name = to.name; folder = false; id = file.id }) (drawn (link_ids file) (with_private tree)))))

-- at least so many bytes, with zeros behind the others
abbrev pub padded : ℕ → List ℕ → List ℕ
padded size bytes = bytes ++ replicate (size - length bytes) 0

-- a file has these bytes from this moment on
abbrev pub with_bytes : ℕ → List ℕ → PlainTree → PlainTree
with_bytes id bytes tree = with_changed id (λ node. record node { bytes = bytes; changed = tree.moment; attribute = tree.moment }) tree

-- the tree behind a `write`: the value stands in the file from a place on, with zeros in a gap before it; no value changes nothing
abbrev pub written : PlainNode → ℕ → List ℕ → PlainTree → PlainTree
written file from [] tree = tree
written file from (byte ∷ value) tree = with_bytes file.id (put_at (padded from file.bytes) from (byte ∷ value)) tree

-- the tree behind a `trunc`: the file's bytes are cut, or zeros are added
abbrev pub resized : PlainNode → ℕ → PlainTree → PlainTree
resized file size tree = with_bytes file.id (take size (padded size file.bytes)) tree

-- ---- replies

-- a reply, and the tree after it
abbrev pub Step : Type 0
Step = Reply × PlainTree

-- the step of what a command is about; a refusal keeps the tree
abbrev pub on : {X : Type 0} → PlainTree → Result X Refusal → (X → Step) → Step
on tree (Ok x) next = next x
on tree (Err why) next = (reply.No why, tree)

-- an entry as `ls` shows it
abbrev pub listed : PlainEntry → ListedName
listed entry = record { name = entry.name; folder = entry.folder }

-- an attribute as `lsattr` shows it
abbrev pub listed_attribute : PlainAttribute → ListedName
listed_attribute attribute = record { name = attribute.name; folder = false }

-- a folder's size is the number of its entries, and it has no links to tell
abbrev pub facts_of : PlainTree → PlainNode → Facts
facts_of tree node = record {
  folder = node.folder;
  id = node.id;
  size = if node.folder then length (entries_in tree node.id) else length node.bytes;
  links = if node.folder then 0 else names_of tree node.id;
  mode = node.mode;
  created = node.created;
  changed = node.changed;
  attribute = node.attribute;
}

-- ---- the step of a command

-- The reply to a command, and the tree after it. `df` is answered by the volume, and not by its tree.
abbrev pub step : PlainTree → Command → Step
step tree (command.Mkdir path) = on tree (to_make tree path) (λ at. (reply.Ok, made true at tree))
step tree (command.Create path) = on tree (to_make tree path) (λ at. (reply.Ok, made false at tree))
step tree (command.Rm path) = on tree (to_rm tree path) (λ at. (reply.Ok, removed at tree))
step tree (command.Rmdir path) = on tree (to_rmdir tree path) (λ at. (reply.Ok, removed_folder at tree))
step tree (command.Mv from to) = on tree (to_mv tree from to) (λ pair. (reply.Ok, moved_over pair.0 pair.1 tree))
step tree (command.Ln from to) = on tree (to_link tree from to) (λ pair. (reply.Ok, linked pair.0 pair.1 tree))
step tree (command.Write path from value) = on tree (to_write tree path from value) (λ file. (reply.Ok, written file from value tree))
step tree (command.Read path from long) = on tree (to_read tree path long) (λ file. (reply.Content (take long (drop from file.bytes)), tree))
step tree (command.Trunc path size) = on tree (to_trunc tree path size) (λ file. (reply.Ok, resized file size tree))
step tree (command.Ls path) = on tree (to_folder tree path) (λ folder. (reply.Listing (map listed (entries_in tree folder.id)), tree))
step tree (command.Stat path) = on tree (to_node tree path) (λ node. (reply.Facts (facts_of tree node), tree))
step tree (command.Chmod path mode) = on tree (to_node tree path) (λ node. (reply.Ok, marked node.id (with_changed node.id (with_mode mode) tree)))
step tree (command.SetAttr path name value) = on tree (to_set tree path value) (λ node. (reply.Ok, marked node.id (with_changed node.id (with_attribute name value) tree)))
step tree (command.GetAttr path name) = on tree (to_value tree path name) (λ pair. (reply.Content pair.1.value, tree))
step tree (command.DelAttr path name) = on tree (to_attribute tree path name) (λ pair. (reply.Ok, marked pair.0.id (with_changed pair.0.id (without_attribute name) tree)))
step tree (command.LsAttr path) = on tree (to_node tree path) (λ node. (reply.Listing (map listed_attribute node.attributes), tree))
step tree (command.At moment) = (reply.Ok, record tree { moment = moment })
step tree command.Df = (reply.Ok, tree)
step tree command.Sync = (reply.Ok, tree)

-- the same for a line that was read: one that spells no command is refused, and so is one that names the volume's own
abbrev pub step_line : PlainTree → Result Command Refusal → Step
step_line tree (Ok asked) = if is_private asked then (reply.No refusal.Private, tree) else step tree asked
step_line tree (Err why) = (reply.No why, tree)

-- ---- what a step says

-- whether a reply is a refusal
abbrev pub is_refusal : Reply → Bool
is_refusal (reply.No why) = true
is_refusal _ = false

-- the step refuses the command
abbrev pub refuses : PlainTree → Result Command Refusal → Bool
refuses tree asked = is_refusal (step_line tree asked).0
