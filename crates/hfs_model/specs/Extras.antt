-- What files have beside names, dates, attributes and bytes: their types, and their resource forks.
use Rattle.std.specs.Prelude.{ℕ, ◌==◌, Bool, false, not, List, map, take, find, Option, None, Some, if◌then◌else◌}
use Rattle.hfs_model.specs.declared.kinds.Sight.{Sight}
use Rattle.hfs_model.specs.declared.kinds.Sight.TheVariants as sight
use Rattle.hfs_model.specs.declared.plain.PlainEntry.{PlainEntry}
use Rattle.hfs_model.specs.declared.plain.PlainNode.{PlainNode}
use Rattle.hfs_model.specs.declared.plain.PlainTree.{PlainTree}
use Rattle.hfs_model.specs.Plain.{entry_at, link_bits, node_at}
use Rattle.hfs_model.specs.Sorted.{kept}

-- What a file has beside: the type bits of its mode, and the bytes of its resource fork.
pub record Extra : Type 0 where
  pub id : ℕ
  pub type_bits : ℕ
  pub resource : List ℕ

abbrev pub extra_of : PlainNode → Extra
extra_of node = record { id = node.id; type_bits = node.type_bits; resource = node.resource }

-- The extras of the files of a tree, in the order of their CNIDs.
abbrev pub extras_in : PlainTree → List Extra
extras_in tree = map extra_of (kept (λ node. not node.folder) tree.nodes)

-- The file is a symbolic link. A reader goes by the type bits alone.
abbrev pub is_link : PlainNode → Bool
is_link node = node.type_bits == link_bits

-- ---- what is seen under a name

-- of a link its first 1,024 bytes: a longer text is no target
abbrev pub file_sight : Option PlainNode → Sight
file_sight None = sight.File
file_sight (Some node) = if is_link node then sight.Link (take 1024 node.bytes) else sight.File

abbrev pub entry_sight : PlainTree → Option PlainEntry → Sight
entry_sight tree None = sight.Absent
entry_sight tree (Some entry) = if entry.folder then sight.Folder entry.id else file_sight (node_at tree entry.id)

-- what stands under a name in a folder of a tree
abbrev pub sight_in : PlainTree → ℕ → List ℕ → Sight
sight_in tree parent name = entry_sight tree (entry_at tree parent name)
