-- What calls of a tree file do to the space beneath: they put sectors of its fork, and change nothing else.
use Rattle.std.specs.Prelude.{◌≡◌, ◌⊎◌, ◌↔◌, ◌≤◌, ℕ, IsTrue, List, length}
use Rattle.std.specs.List.{Contains}
use Rattle.sector_disk.specs.Clock.{TimePasses}
use Rattle.sector_disk.specs.Lists.{sector}
use Rattle.sector_disk.specs.Space.{Space, SameSpace, SameSectors, SameRoom, AgreesOutside, LeavesDurable}
use Rattle.btree_node.specs.TreeFile.{TreeHead, tree_head}
use Rattle.btree_file.specs.State.{sectors_of_tree}
use Rattle.btree_file.specs.declared.tree.TreeFile.{TreeFile}

-- Some of these sectors were put, of 512 bytes each, and nothing else was done.
pub record PutsWithin (these : List ℕ) (old new : Space) : Type 0 where
  pub same : SameSpace old new
  pub content : IsTrue old.tells → AgreesOutside (λ s. Contains these s) old.content new.content
  pub sizes : IsTrue old.tells → (s : ℕ) → (length (sector new.content s) ≡ length (sector old.content s)) ⊎ (length (sector new.content s) ≡ 512)
  pub durable : IsTrue old.tells → new.durable ≡ old.durable
  pub spilled : IsTrue old.tells → (s : ℕ) → new.spilled s ↔ old.spilled s
  pub live : IsTrue old.tells → (s : ℕ) → new.live s → old.live s ⊎ Contains these s
  pub still_live : IsTrue old.tells → (s : ℕ) → old.live s → new.live s
  pub closed : IsTrue old.tells → (s : ℕ) → new.closed s ↔ old.closed s
  pub put : (s : ℕ) → (new.put s ≡ old.put s) ⊎ Contains these s
  pub still_put : (s : ℕ) → IsTrue (old.put s) → IsTrue (new.put s)
  pub spare : new.spare ≤ old.spare
  pub faults : old.faults ≤ new.faults
  pub time : IsTrue old.tells → TimePasses old.clock new.clock (LeavesDurable new)

-- Nothing was done but reads.
pub record ReadsSpace (old new : Space) : Type 0 where
  pub sectors : IsTrue old.tells → SameSectors old new
  pub time : IsTrue old.tells → TimePasses old.clock new.clock (LeavesDurable new)
  pub room : SameRoom old new
  pub same : SameSpace old new
  pub faults : old.faults ≤ new.faults

-- what no edit of a header record changes
pub record SameForm (old new : TreeHead) : Type 0 where
  pub max_key : new.max_key ≡ old.max_key
  pub compare : new.compare ≡ old.compare
  pub attributes : new.attributes ≡ old.attributes

-- the file of a tree is the same: its fork, its map, the size of its nodes and how many there are
pub record SameFile (old new : TreeFile) : Type 0 where
  pub fork : new.fork ≡ old.fork
  pub per_block : new.per_block ≡ old.per_block
  pub map : new.map.items ≡ old.map.items
  pub node_size : new.shape.node_size ≡ old.shape.node_size
  pub total : new.shape.total ≡ old.shape.total

-- what calls of a tree file over a space do to both
pub record FollowsOn (old new : TreeFile) (before after : Space) : Type 0 where
  pub file : SameFile old new
  pub form : IsTrue before.tells → SameForm (tree_head old.header) (tree_head new.header)
  pub space : PutsWithin (sectors_of_tree old) before after
