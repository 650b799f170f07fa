-- What the header record of each tree of a volume says, and a finding in the words of the rules.
use Rattle.std.specs.Prelude.{◌≡◌, ◌<◌, ◌≤◌, ℕ, ◌-◌, ◌*◌, ◌/◌, ◌%◌, ◌==◌, min, max, Bool, false, List, length, slice_index, slice_index_or, if◌then◌else◌}
use Rattle.jnl_format.specs.Recovery.{Content}
use Rattle.flag_rows.specs.Bits.{bit_of}
use Rattle.btree_node.specs.Levels.{Nodes}
use Rattle.btree_node.specs.TreeFile.{TreeHead, TreeForm, TreeFile, file_of}
use Rattle.hx_bytes.specs.declared.extents.Extent.{Extent}
use Rattle.fork_map.specs.Blocks.{fork_sectors}
use Rattle.hfs_volume.specs.Content.{node_of_fork, tree_of_fork}
use Rattle.hfs_volume.specs.Broken.{Want, want, bit, node_place, node_size_wanted}
use Rattle.hfs_volume.specs.Broken as broken
use Rattle.fsck_list.specs.declared.finding.Finding as listed
use Rattle.fsck_scan.specs.declared.form.Form.{Form}
use Rattle.fsck_scan.specs.declared.form.Head.{Head}
use Rattle.fsck_scan.specs.declared.form.Number.{Number}
use Rattle.fsck_scan.specs.declared.form.TreeName.{TreeName}
use Rattle.fsck_scan.specs.declared.form.TreeName.TheVariants as name

-- a finding, as the rules speak of it
abbrev pub as_found : listed.Finding → broken.Finding
as_found f = record { rule = f.rule; place = f.place; found = f.found; wanted = f.wanted }

-- the number of a tree's file, and what its header record says
abbrev pub form_named : TreeName → Form
form_named name.Extents = record { id = 3; attributes = 2; max_key = 10; least_node = 512 }
form_named name.Catalog = record { id = 4; attributes = 6; max_key = 516; least_node = 4096 }
form_named name.Attributes = record { id = 8; attributes = 6; max_key = 266; least_node = 4096 }

-- the same, as the rules of a tree take it
abbrev pub form_in : Form → TreeForm
form_in form = record { attributes = form.attributes; max_key = form.max_key; least_node = form.least_node }

-- the fields of a header record that was read
abbrev pub head_in : Head → TreeHead
head_in head = record {
  depth = head.shape.depth;
  root = head.shape.root;
  leaf_records = head.shape.leaf_records;
  first = head.shape.first;
  last = head.shape.last;
  node_size = head.shape.node_size;
  max_key = head.max_key;
  total = head.shape.total;
  free = head.shape.free;
  compare = head.compare;
  attributes = head.attributes;
}

-- a number of a header record, and the one that is wanted there
abbrev pub want_of : ℕ → Number → Want
want_of id number = want (node_place id 0) number.found number.wanted

-- the numbers of a header record that can be judged before a node is read
pub record FitsForm (form : Form) (head : Head) : Type 0 where
  pub size : head.shape.node_size ≡ node_size_wanted (form_in form) head.shape.node_size
  pub attributes : head.attributes ≡ form.attributes
  pub max_key : head.max_key ≡ form.max_key
  pub total : head.shape.total ≡ max head.shape.total 1
  pub depth : head.shape.depth ≡ min head.shape.depth 12

-- the numbers that are judged when the map and the root's height are known
pub record FitsRoot (head : Head) (height bytes : ℕ) : Type 0 where
  pub total : head.shape.total ≡ min head.shape.total (8 * bytes)
  pub depth : head.shape.depth ≡ height
  pub root : head.shape.root ≡ (if height == 0 then 0 else head.shape.root)

-- the numbers that are judged when all nodes were read: the first and the last leaf, how many records the leaves have, and how many nodes are free
pub record FitsLeaves (head : Head) (leaves : List ℕ) (records left : ℕ) : Type 0 where
  pub first : head.shape.first ≡ slice_index leaves 0
  pub last : head.shape.last ≡ slice_index leaves (length leaves - 1)
  pub leaf_records : head.shape.leaf_records ≡ records
  pub free : head.shape.free ≡ left

-- the tree with this header record in a fork
abbrev pub tree_at : Content → ℕ → List ℕ → ℕ → Head → TreeFile
tree_at content limit sectors size head = file_of (head_in head) (λ n. node_of_fork content limit sectors size n)

-- the tree in a fork of a volume with so many sectors, whose blocks have so many bytes; what lies past the last whole block doesn't belong to it
abbrev pub tree_in : Content → ℕ → ℕ → List Extent → TreeFile
tree_in content sectors block extents = tree_of_fork content (sectors - sectors % (block / 512)) (fork_sectors extents (block / 512))

-- a bit of the map that isn't set where its node is marked, or is where it isn't
abbrev pub IsWrongBit : ℕ → List ℕ → List Bool → broken.Finding → Type 0
IsWrongBit id bits marks finding =
    (n : ℕ) × (n < 8 * length bits) × (finding ≡ record { rule = 7; place = node_place id n; found = bit (bit_of bits n); wanted = bit (slice_index_or marks n false) }) × (bit_of bits n ≡ slice_index_or marks n false → ⊥)
