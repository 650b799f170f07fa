-- Room for several edits of the catalog, which lessens from one call to the next.
use Rattle.std.specs.Prelude.{◌≡◌, ◌<◌, ◌≤◌, ℕ, ◌+◌, ◌-◌, ◌*◌, ◌^◌, false, [], IsTrue, if◌then◌else◌}
use Rattle.sector_disk.specs.Space.{Space}
use Rattle.btree_edit.specs.Edits.{EditRoom}
use Rattle.btree_file.specs.State.{state_of}
use Rattle.btree_file.specs.declared.tree.TreeFile.{TreeFile}
use Rattle.hfs_volume.specs.Cost.{catalog_key, growth, is_too_deep, tree_load}
use Rattle.volume_base.specs.Changing.{catalog_node}
use Rattle.volume_base.specs.Making.{catalog_cost}
use Rattle.volume_base.specs.declared.volume.Volume.{Volume}

-- a space in which so many sectors fewer may be put
abbrev pub less_by : ℕ → Space → Space
less_by sectors space = record space { spare = space.spare - sectors }

-- So many edits of a tree's file have room beside so many sectors for other puts.
abbrev pub Leaves : (edits beside : ℕ) → TreeFile → Space → Type 0
Leaves edits beside file space = (beside ≤ space.spare) × EditRoom edits 516 (state_of [] file (less_by beside space))

-- Where the space tells, so many edits of the catalog have room beside so many sectors for other puts.
pub record HasEditsLeft (edits beside : ℕ) (volume : Volume) (space : Space) : Type 0 where
  pub told : IsTrue space.tells → Leaves edits beside volume.catalog.file space

-- Edits that had room beside a node more than some sectors have room beside these still.
abbrev pub LeavesBeside : Volume → Space → Volume → Space → Type 0
LeavesBeside from before to after = (edits beside : ℕ) → HasEditsLeft edits (catalog_node from + beside) from before → HasEditsLeft edits beside to after

-- The catalog's nodes are as large, and other edits that had room with so many, beside so many nodes and some sectors more, have room beside these still.
abbrev pub LeavesBehind : (edits updates : ℕ) → Volume → Space → Volume → Space → Type 0
LeavesBehind edits updates from before to after =
    (catalog_node to ≡ catalog_node from) × ((others beside : ℕ) → HasEditsLeft (edits + others) (updates * catalog_node from + beside) from before → HasEditsLeft others beside to after)

-- Where the space tells, the load of so many edits of the catalog has room beside so many sectors for other puts; they make the tree neither too deep nor
-- too full of records, and it needn't grow before.
pub record HasLoadFor (edits beside : ℕ) (volume : Volume) (space : Space) : Type 0 where
  pub shallow : IsTrue space.tells → is_too_deep catalog_key (catalog_cost volume) edits ≡ false
  pub records : IsTrue space.tells → volume.catalog.file.shape.leaf_records < 2 ^ 32
  pub grown : IsTrue space.tells → growth volume.header.block_size catalog_key (catalog_cost volume) edits ≡ 0
  pub load : IsTrue space.tells → beside + tree_load catalog_key (catalog_cost volume) edits 0 ≤ space.spare

-- how many sectors a put of the header takes: none where it was put since the last commit
abbrev pub to_put_header : Space → ℕ
to_put_header space = if space.put 2 then 0 else 1

-- The seven edits by which a file gets its first link have room beside a put of the header and three records updated in place.
abbrev pub FirstLinkFits : Volume → Space → Type 0
FirstLinkFits volume space = HasEditsLeft 7 (to_put_header space + 3 * catalog_node volume) volume space

-- There is room to put the header; where the space tells, there are CNIDs for two links, and a file's first link fits.
pub record IsReadyToShare (volume : Volume) (space : Space) : Type 0 where
  pub some : 1 ≤ space.spare
  pub ids : IsTrue space.tells → volume.header.next_catalog_id + 2 < 2 ^ 32
  pub left : FirstLinkFits volume space
