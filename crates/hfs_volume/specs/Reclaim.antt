-- Housekeeping: steps that give blocks, attributes and entries back which no name leads to any more.
use Rattle.hfs_volume.specs.Values.{value_blocks}
use Rattle.std.specs.Prelude.{◌≡◌, ◌≢◌, ◌⊎◌, ◌<◌, ◌≤◌, ℕ, ◌+◌, ◌-◌, ◌*◌, ◌/◌, ◌%◌, ◌^◌, ◌==◌, ◌&&◌, nat_lt, Bool, false, not, List, [], ◌∷◌, length, take, find, slice_index, Option, Some, None, if◌then◌else◌}
use Rattle.std.specs.Str.{bytes_eq}
use Rattle.sector_disk.specs.Space.{AgreesOutside}
use Rattle.jnl_format.specs.Recovery.{Content}
use Rattle.volume_header.specs.declared.header.VolumeHeader.{VolumeHeader}
use Rattle.hx_bytes.specs.declared.extents.ForkRecord.{ForkRecord}
use Rattle.hfs_volume.specs.declared.cost.Cost.{Cost}
use Rattle.hfs_volume.specs.declared.cost.Cost.TheVariants as cost
use Rattle.hfs_model.specs.Sorted.{kept}
use Rattle.hfs_volume.specs.declared.asked.Asked.{Asked}
use Rattle.hfs_volume.specs.Asked.{asked_weight, is_refused}
use Rattle.hfs_volume.specs.Records.{Placed, Overflow, Attribute, entry_of, id_of}
use Rattle.hfs_volume.specs.Forks.{Owned, blocks_owned, parts_for, data_kind, resource_kind, extents_id, catalog_id, attributes_id}
use Rattle.hfs_volume.specs.Content.{facts_at, VolumeState, volume_of, records_of, overflow_in_volume, attributes_of}
use Rattle.hfs_volume.specs.Links.{orphans_of}
use Rattle.hfs_volume.specs.Blocks.{forks_of}
use Rattle.hfs_volume.specs.Sound.{IsSound}
use Rattle.hfs_volume.specs.TreeOf.{tree_of}
use Rattle.hfs_volume.specs.Aside.{IsAside, IsFreeSector}
use Rattle.hfs_volume.specs.Cost.{cost_of}
use Rattle.hfs_volume.specs.Weight.{free_blocks, room_with, needs_for, edits, cut_cost, file_fork, file_blocks, with_values, value_change}

-- ---- forks of a volume, by their file and kind

-- whether a fork is this one
abbrev pub is_fork : ℕ → ℕ → Owned → Bool
is_fork id kind owned = (owned.id == id) && (owned.kind == kind)

-- the blocks of a fork, if there is one
abbrev pub blocks_found : List Overflow → Option Owned → List ℕ
blocks_found overflow None = []
blocks_found overflow (Some owned) = blocks_owned overflow owned

-- the blocks of the fork of this kind of the file with this CNID, or none where there is no such fork
abbrev pub blocks_at : VolumeState → ℕ → ℕ → List ℕ
blocks_at volume id kind = blocks_found (overflow_in_volume volume) (find (is_fork id kind) (forks_of volume))

-- how many blocks the bytes of a fork take
abbrev pub blocks_wanted : VolumeState → ℕ → ℕ → ℕ
blocks_wanted volume id kind = wanted_in (file_fork kind (entry_of (records_of volume) id))
  where
    wanted_in : Option ForkRecord → ℕ
    wanted_in None = 0
    wanted_in (Some fork) = parts_for fork.logical_size volume.head.block_size

-- ---- the next step

-- A step of reclaiming: blocks of the file last shrunk, blocks of an orphan's fork, one of its attributes, or its entry.
pub data Reclaim : Type 0 where
  CutShrunk : (id : ℕ) → Reclaim
  CutOrphan : (id kind : ℕ) → Reclaim
  DropAttribute : (id : ℕ) → (name : List ℕ) → Reclaim
  DropOrphan : (id : ℕ) → Reclaim

-- the least of a CNID and those of these records
abbrev pub least_from : ℕ → List Placed → ℕ
least_from id [] = id
least_from id (next ∷ others) = least_from (if nat_lt (id_of next) id then id_of next else id) others

-- the orphan with the least CNID
abbrev pub least : List Placed → Option ℕ
least [] = None
least (placed ∷ rest) = Some (least_from (id_of placed) rest)

-- the first attribute of a folder or file
abbrev pub first_attribute : List Attribute → ℕ → Option Attribute
first_attribute attributes id = find (λ attribute. attribute.id == id) attributes

-- whether there is a block among these
abbrev pub has_blocks : List ℕ → Bool
has_blocks blocks = not (length blocks == 0)

-- of an orphan without blocks: its first attribute, or its entry
abbrev pub bare_step : ℕ → Option Attribute → Reclaim
bare_step id None = DropOrphan id
bare_step id (Some attribute) = DropAttribute id attribute.name

-- of an orphan: its data fork, its resource fork, its attributes in the order of their names, its entry
abbrev pub orphan_step : VolumeState → ℕ → Reclaim
orphan_step volume id =
    if has_blocks (file_blocks volume id data_kind) then CutOrphan id data_kind
    else if has_blocks (file_blocks volume id resource_kind) then CutOrphan id resource_kind
    else bare_step id (first_attribute (attributes_of volume) id)

-- the file that was shrunk last has blocks past its size
abbrev pub is_surplus : VolumeState → ℕ → Bool
is_surplus volume id = nat_lt (blocks_wanted volume id data_kind) (length (file_blocks volume id data_kind))

-- so has the file that was shrunk last, if one was
abbrev pub has_surplus_left : VolumeState → Option ℕ → Bool
has_surplus_left volume None = false
has_surplus_left volume (Some id) = is_surplus volume id

-- that file's blocks past its size
abbrev pub shrunk_step : Option ℕ → Option Reclaim
shrunk_step None = None
shrunk_step (Some id) = Some (CutShrunk id)

-- the next step for this orphan
abbrev pub orphan_steps : VolumeState → Option ℕ → Option Reclaim
orphan_steps volume None = None
orphan_steps volume (Some id) = Some (orphan_step volume id)

-- the next step of reclaiming, if anything is left to reclaim
unfoldable pub next_reclaim : VolumeState → Option ℕ → Option Reclaim
next_reclaim volume shrunk = if has_surplus_left volume shrunk then shrunk_step shrunk else orphan_steps volume (least (orphans_of (records_of volume)))

-- what a step takes where the blocks that are free are these
unfoldable pub reclaim_cost_with : ℕ → List Bool → VolumeState → Reclaim → Cost
reclaim_cost_with capacity free volume (CutShrunk id) = cut_cost (room_with capacity free volume)
reclaim_cost_with capacity free volume (CutOrphan id kind) = cut_cost (room_with capacity free volume)
reclaim_cost_with capacity free volume (DropAttribute id name) = cost_of (with_values free (Some (value_change volume id name 0)) (needs_for free volume (edits 0 0 1 1) None)) (room_with capacity free volume)
reclaim_cost_with capacity free volume (DropOrphan id) = cost_of (needs_for free volume (edits 0 2 0 1) None) (room_with capacity free volume)

-- what a step of reclaiming costs, of all free blocks
abbrev pub reclaim_cost : ℕ → VolumeState → Reclaim → Cost
reclaim_cost capacity volume step = reclaim_cost_with capacity (free_blocks volume) volume step

-- ---- what a step does

-- the list begins with what it was
pub record GrowsBy (more : ℕ) (old new : List ℕ) : Type 0 where
  pub front : take (length old) new ≡ old
  pub longer : length new ≡ length old + more

-- a tree grew by so many nodes, in blocks behind those that it had
pub record GrowsTree (id more : ℕ) (old new : VolumeState) : Type 0 where
  pub nodes : (facts_at new id).shape.total ≡ (facts_at old id).shape.total + more
  pub blocks : GrowsBy (more * (facts_at old id).shape.node_size / old.head.block_size) (blocks_at old id data_kind) (blocks_at new id data_kind)

-- each tree grew by these nodes
pub record GrowsTrees (grow : List ℕ) (old new : VolumeState) : Type 0 where
  pub extents : GrowsTree extents_id (slice_index grow 0) old new
  pub catalog : GrowsTree catalog_id (slice_index grow 1) old new
  pub attributes : GrowsTree attributes_id (slice_index grow 2) old new

-- a fork is that of one of the three trees
abbrev pub IsTreeFork : ℕ → Type 0
IsTreeFork id = (id ≡ extents_id) ⊎ (id ≡ catalog_id) ⊎ (id ≡ attributes_id)

-- a fork has fewer blocks than before, from its start on, and not fewer than it keeps
pub record CutsFork (keep : ℕ) (old new : List ℕ) : Type 0 where
  pub left : ℕ
  pub least_left : keep ≤ left
  pub fewer : left < length old
  pub is : new ≡ take left old

-- all values of attributes have the blocks that they had
abbrev pub SameValues : VolumeState → VolumeState → Type 0
SameValues old new = (id : ℕ) (name : List ℕ) → value_blocks (attributes_of new) id name ≡ value_blocks (attributes_of old) id name

-- Of all forks this one alone is cut, to no less than this.
pub record CutsAlone (id kind keep : ℕ) (old new : VolumeState) : Type 0 where
  pub cut : CutsFork keep (blocks_at old id kind) (blocks_at new id kind)
  pub others : (other kind_other : ℕ) → (other ≢ id) ⊎ (kind_other ≢ kind) → blocks_at new other kind_other ≡ blocks_at old other kind_other
  pub values : SameValues old new

-- all forks of files but those of the trees have the blocks that they had
abbrev pub SameFiles : VolumeState → VolumeState → Type 0
SameFiles old new = (id kind : ℕ) → ¬ IsTreeFork id → blocks_at new id kind ≡ blocks_at old id kind

-- whether an attribute is the one of this name of this folder or file
abbrev pub is_attribute : ℕ → List ℕ → Attribute → Bool
is_attribute id name attribute = (attribute.id == id) && bytes_eq attribute.name name

-- what a step of reclaiming does to a volume, beside the growth of trees
abbrev pub Does : Reclaim → VolumeState → VolumeState → Type 0
Does (CutShrunk id) old new = CutsAlone id data_kind (blocks_wanted old id data_kind) old new
Does (CutOrphan id kind) old new = CutsAlone id kind 0 old new
Does (DropAttribute id name) old new = (attributes_of new ≡ kept (λ attribute. not (is_attribute id name attribute)) (attributes_of old)) × SameFiles old new
Does (DropOrphan id) old new = (entry_of (records_of new) id ≡ None) × SameFiles old new × SameValues old new

-- the volume is sound as it was, and has the tree that it had
pub record KeepsTree (old new : Content) : Type 0 where
  pub sound : IsSound new
  pub tree : tree_of new ≡ tree_of old

-- The next step of reclaiming was made, and nothing was missing for it.
pub record Reclaims (capacity : ℕ) (shrunk : Option ℕ) (old new : Content) : Type 0 where
  pub step : Reclaim
  pub next : next_reclaim (volume_of old) shrunk ≡ Some step
  pub load : ℕ
  pub grow : List ℕ
  pub affords : reclaim_cost capacity (volume_of old) step ≡ cost.Load load grow
  pub grows : GrowsTrees grow (volume_of old) (volume_of new)
  pub does : Does step (volume_of old) (volume_of new)
  pub keeps : KeepsTree old new

-- A fork of a file lost blocks past its size, before it grows again.
pub record CutsSurplus (capacity : ℕ) (old new : Content) : Type 0 where
  pub id : ℕ
  pub load : ℕ
  pub grow : List ℕ
  pub affords : cut_cost (room_with capacity (free_blocks (volume_of old)) (volume_of old)) ≡ cost.Load load grow
  pub kind : ℕ
  pub cuts : CutsAlone id kind (blocks_wanted (volume_of old) id kind) (volume_of old) (volume_of new)
  pub keeps : KeepsTree old new

-- A command that its step doesn't refuse wants these nodes, and nothing is missing for it.
pub record CommandWants (capacity : ℕ) (content : Content) (grow : List ℕ) : Type 0 where
  pub asked : Asked
  pub no_refusal : is_refused (tree_of content) asked ≡ false
  pub load : ℕ
  pub affords : asked_weight capacity (volume_of content) (tree_of content) asked ≡ cost.Load load grow

-- The next step of reclaiming wants these nodes, and nothing is missing for it.
pub record StepWants (capacity : ℕ) (shrunk : Option ℕ) (content : Content) (grow : List ℕ) : Type 0 where
  pub step : Reclaim
  pub next : next_reclaim (volume_of content) shrunk ≡ Some step
  pub load : ℕ
  pub affords : reclaim_cost capacity (volume_of content) step ≡ cost.Load load grow

-- of the trees that are to grow the first: the extents overflow file, the catalog, the attributes file
abbrev pub first_growth : List ℕ → List ℕ
first_growth grow =
    if nat_lt 0 (slice_index grow 0) then slice_index grow 0 ∷ 0 ∷ 0 ∷ []
    else if nat_lt 0 (slice_index grow 1) then 0 ∷ slice_index grow 1 ∷ 0 ∷ []
    else 0 ∷ 0 ∷ slice_index grow 2 ∷ []

-- One tree got more nodes ahead of the command or the step of reclaiming that wants them, just as many as its cost says.
pub record GrowsTreeFirst (capacity : ℕ) (shrunk : Option ℕ) (old new : Content) : Type 0 where
  pub grow : List ℕ
  pub wanted : CommandWants capacity old grow ⊎ StepWants capacity shrunk old grow
  pub some : 0 < slice_index grow 0 + slice_index grow 1 + slice_index grow 2
  pub grows : GrowsTrees (first_growth grow) (volume_of old) (volume_of new)
  pub files : SameFiles (volume_of old) (volume_of new)
  pub values : SameValues (volume_of old) (volume_of new)
  pub keeps : KeepsTree old new

-- The header as a mount writes it: by a system that keeps the journal, not unmounted, and written once more. It no longer says (bit 31) that
-- free nodes of the catalog are zero, since a node that is given back keeps its bytes.
abbrev pub mounted_header : VolumeHeader → VolumeHeader
mounted_header head = record head {
  last_mounted_version = 0x4846534A;
  attributes = (head.attributes - (head.attributes / 256 % 2) * 256) % 2 ^ 31;
  write_count = (head.write_count + 1) % 2 ^ 32;
}

-- The header was changed as mounts and ends of runs do, and nothing else was.
pub record MarksHeader (old new : Content) : Type 0 where
  pub volume : volume_of new ≡ record (volume_of old) { head = mounted_header (volume_of old).head }
  pub keeps : KeepsTree old new

-- Free blocks were filled ahead of a command that makes a file longer: no list of the volume has changed, and no bytes but those that lie aside.
pub record FillsZeros (old new : Content) : Type 0 where
  pub volume : volume_of new ≡ volume_of old
  pub others : AgreesOutside (IsAside old) old new
  pub keeps : KeepsTree old new

-- What is written in free blocks is no change of the volume: such a step may come between commands.
abbrev pub FreeIsFilled : Type 0
FreeIsFilled = (old new : Content) → IsSound old → AgreesOutside (IsFreeSector old) old new → FillsZeros old new

-- one step of housekeeping
abbrev pub IsTidied : ℕ → Option ℕ → Content → Content → Type 0
IsTidied capacity shrunk old new =
    Reclaims capacity shrunk old new ⊎ (CutsSurplus capacity old new ⊎ (GrowsTreeFirst capacity shrunk old new ⊎ (FillsZeros old new ⊎ MarksHeader old new)))

-- Steps of housekeeping, one after the other.
pub data Tidies (capacity : ℕ) (shrunk : Option ℕ) : Content → Content → Type 0 where
  none : (content : Content) → Tidies capacity shrunk content content
  one_more : (old between new : Content) → IsTidied capacity shrunk old between → Tidies capacity shrunk between new → Tidies capacity shrunk old new
