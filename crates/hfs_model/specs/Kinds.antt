-- What a command on a symbolic link or a resource fork is told, and the tree after it.
use Rattle.std.specs.Prelude.{ℕ, ◌+◌, ◌||◌, nat_lt, not, Bool, true, false, List, [], ◌∷◌, length, take, drop, Result, Ok, Err, if◌then◌else◌}
use Rattle.hx_bytes.specs.Field.{put_at}
use Rattle.hfs_language.specs.declared.refusal.Refusal.{Refusal}
use Rattle.hfs_language.specs.declared.refusal.Refusal.TheVariants as refusal
use Rattle.hfs_language.specs.declared.reply.Reply.TheVariants as reply
use Rattle.hfs_model.specs.declared.kinds.KindEdit.{KindEdit}
use Rattle.hfs_model.specs.declared.kinds.KindEdit.TheVariants as edit
use Rattle.hfs_model.specs.declared.plain.PlainNode.{PlainNode}
use Rattle.hfs_model.specs.declared.plain.PlainTree.{PlainTree}
use Rattle.hfs_model.specs.Extras.{is_link}
use Rattle.hfs_model.specs.Plain.{link_bits, new_node, with_changed, with_entry, with_node}
use Rattle.hfs_model.specs.Step.{Place, Step, drawn, is_private_path, is_refusal, most_bytes, most_size, on, padded, then_, to_file, to_make, to_read, to_write, touched, unless}
use Rattle.hfs_model.specs.Targets.{is_target}

-- ---- what a command is about, or the first reason against it

-- the place that `symlink` fills: a new name in a folder that is there, for a value that is a target
abbrev pub to_symlink : PlainTree → List (List ℕ) → List ℕ → Result Place Refusal
to_symlink tree path value = then_ (to_make tree path) (unless (not (is_target value)) refusal.BadTarget)

-- ---- changes of the tree

-- a symbolic link as it is made: with mode 0755, whose bytes are its target
abbrev pub new_link : ℕ → ℕ → List ℕ → PlainNode
new_link id moment value = record (new_node false id moment) { type_bits = link_bits; mode = 493; bytes = value }

-- the tree behind a `symlink`
abbrev pub made_link : Place → List ℕ → PlainTree → PlainTree
made_link at value tree =
    touched at.folder (with_entry (record { parent = at.folder; name = at.name; folder = false; id = tree.next_id }) (with_node (new_link tree.next_id tree.moment value) (drawn 1 tree)))

-- a file has these bytes in its resource fork from this moment on
abbrev pub with_resource : ℕ → List ℕ → PlainTree → PlainTree
with_resource id bytes tree = with_changed id (λ node. record node { resource = bytes; changed = tree.moment; attribute = tree.moment }) tree

-- the tree behind a `rwrite`: the value stands in the resource fork from a place on, with zeros in a gap before it; no value changes nothing
abbrev pub resource_written : PlainNode → ℕ → List ℕ → PlainTree → PlainTree
resource_written file from [] tree = tree
resource_written file from (byte ∷ value) tree = with_resource file.id (put_at (padded from file.resource) from (byte ∷ value)) tree

-- ---- the step of a command

-- What a command is told, and the tree after it; a refusal keeps the tree.
abbrev pub kind_step : PlainTree → KindEdit → Step
kind_step tree (edit.Symlink path value) = on tree (to_symlink tree path value) (λ at. (reply.Ok, made_link at value tree))
kind_step tree (edit.ResourceWrite path from value) = on tree (to_write tree path from value) (λ file. (reply.Ok, resource_written file from value tree))
kind_step tree (edit.ResourceRead path from long) = on tree (to_read tree path long) (λ file. (reply.Content (take long (drop from file.resource)), tree))

-- the path that a command names
abbrev pub path_of_edit : KindEdit → List (List ℕ)
path_of_edit (edit.Symlink path value) = path
path_of_edit (edit.ResourceWrite path from value) = path
path_of_edit (edit.ResourceRead path from long) = path

-- the same, but that no command speaks of the volume's own names
abbrev pub kind_told : PlainTree → KindEdit → Step
kind_told tree asked = if is_private_path (path_of_edit asked) then (reply.No refusal.Private, tree) else kind_step tree asked

-- the step refuses the command
abbrev pub kind_refuses : PlainTree → KindEdit → Bool
kind_refuses tree asked = is_refusal (kind_told tree asked).0

-- ---- what is read of a link

-- the file that a path names, which is a link
abbrev pub to_link_file : PlainTree → List (List ℕ) → Result PlainNode Refusal
to_link_file tree path = to_file tree path

-- the bytes of a link that `readlink` gives: 65,536 at most
abbrev pub target_told : PlainNode → List ℕ
target_told node = take most_bytes node.bytes
