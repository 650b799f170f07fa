-- Leaves of the catalog, and where their sectors stand.
use Rattle.std.specs.Prelude.{◌≡◌, ◌≤◌, ◌<◌, ℕ, ◌+◌, ◌*◌, ◌/◌, List, length, take, drop, slice_index, slice_get, slice_range, Some, IsTrue}
use Rattle.sector_disk.specs.Lists.{Content}
use Rattle.cat_records.specs.Records.{is_catalog}
use Rattle.btree_node.specs.Node.{offset, record_count, next_of}
use Rattle.btree_node.specs.Levels.{Nodes, key_of, value_of}
use Rattle.hfs_volume.specs.Records.{Placed}
use Rattle.hfs_volume.specs.Broken.{leaves_in}
use Rattle.hfs_volume.specs.Content.{catalog_file, node_of_fork}
use Rattle.fsck_scan.specs.Read.{IsWhole}
use Rattle.volume_repair.specs.Repair.{catalog_sectors, sector_mended, leaf_mended}
use Rattle.fsck_repair.specs.Counted.{IsPlain}

-- a record of the catalog has a key that names its parent, and its value is one
pub record IsGoodItem (item : List ℕ) : Type 0 where
  pub key : 8 ≤ length (key_of item)
  pub value : IsTrue (is_catalog (value_of item))

-- each record of a leaf is one
abbrev pub IsGoodLeaf : List ℕ → Type 0
IsGoodLeaf node = (i : ℕ) → i < record_count node → IsGoodItem (slice_range node (offset node i) (offset node (i + 1)))

-- nothing from this place on changed
pub record SameFrom (at : ℕ) (old new : List ℕ) : Type 0 where
  pub size : length new ≡ length old
  pub rest : drop at new ≡ drop at old

-- this is the sector at a place of a file with these sectors, and none of the headers' that are written
abbrev pub IsPlainAt : Content → List ℕ → ℕ → ℕ → Type 0
IsPlainAt content sectors place at = (slice_get sectors place ≡ Some at) × IsPlain content at

-- this is one of the sectors of a node, which has so many
abbrev pub IsOfNode : Content → List ℕ → ℕ → ℕ → ℕ → Type 0
IsOfNode content sectors per_node node at = (k : ℕ) × (k < per_node) × IsPlainAt content sectors (node * per_node + k) at

-- the repair has these bytes in the sectors of a node
abbrev pub MendsNode : Content → List ℕ → ℕ → ℕ → List ℕ → Type 0
MendsNode content sectors per_node node bytes = (k at : ℕ) → k < per_node → IsPlainAt content sectors (node * per_node + k) at → sector_mended content at ≡ take 512 (drop (512 * k) bytes)

-- all sectors of a node lie below a limit
abbrev pub LiesInside : List ℕ → ℕ → ℕ → ℕ → Type 0
LiesInside sectors per_node limit node = (k at : ℕ) → k < per_node → slice_get sectors (node * per_node + k) ≡ Some at → at < limit

-- These bytes were read of a node: the sectors that they were read of have 512.
pub record WasRead (content : Content) (limit : ℕ) (sectors : List ℕ) (node : ℕ) (bytes : List ℕ) : Type 0 where
  pub bytes_are : bytes ≡ node_of_fork content limit sectors (length bytes) node
  pub whole : (k : ℕ) → k < length bytes / 512 → IsWhole content (length content) limit (slice_get sectors (node * (length bytes / 512) + k))

-- These nodes are the leaves of a catalog with these records: each names the next one, and the repair has their records counted anew.
pub record AreLeaves (content : Content) (sectors : List ℕ) (nodes : Nodes) (per_node : ℕ) (records : List Placed) (leaves : List ℕ) : Type 0 where
  pub some : (k : ℕ) → k < length leaves → slice_index leaves k ≡ 0 → ⊥
  pub next : (k : ℕ) → k < length leaves → next_of (nodes (slice_index leaves k)) ≡ slice_index leaves (k + 1)
  pub good : (k : ℕ) → k < length leaves → IsGoodLeaf (nodes (slice_index leaves k))
  pub mends : (k : ℕ) → k < length leaves → MendsNode content sectors per_node (slice_index leaves k) (leaf_mended records (nodes (slice_index leaves k)))

-- this is a sector of one of the first leaves
abbrev pub IsOfLeaves : Content → List ℕ → ℕ → List ℕ → ℕ → ℕ → Type 0
IsOfLeaves content sectors per_node leaves count at = (k : ℕ) × (k < count) × IsOfNode content sectors per_node (slice_index leaves k) at

-- this is a sector of a leaf of the catalog
abbrev pub IsCatalogSector : Content → ℕ → Type 0
IsCatalogSector content at =
    let tree = catalog_file content in
    IsOfLeaves content (catalog_sectors content) (tree.head.node_size / 512) (leaves_in tree) (length (leaves_in tree)) at
