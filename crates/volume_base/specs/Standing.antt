-- A volume in service over a content.
use Rattle.std.specs.Prelude.{◌≡◌, ◌⊎◌, ◌<◌, ℕ, ◌≤◌, ◌-◌, ◌*◌, IsTrue, List, [], ◌∷◌, ◌++◌, length, if◌then◌else◌}
use Rattle.std.specs.List.{Contains}
use Rattle.sector_disk.specs.Lists.{Content, sector}
use Rattle.sector_disk.specs.Space.{Space}
use Rattle.jnl_format.specs.Recovery.{header_of_volume, info_sector_of}
use Rattle.alloc_bitmap.specs.Apart.{AreApart}
use Rattle.fork_map.specs.Blocks.{fork_sectors}
use Rattle.btree_node.specs.Keys.{IsCatalogKey, IsExtentKey, IsAttrKey, catalog_cmp, extent_cmp, attr_cmp, is_eight_extents, anything}
use Rattle.btree_node.specs.TreeFile.{tree_head, extents_form, catalog_form, attributes_form}
use Rattle.btree_file.specs.Standing.{HoldsTree}
use Rattle.btree_file.specs.State.{sectors_of_tree}
use Rattle.hfs_volume.specs.Content.{VolumeState, volume_of, records_of, overflow_in_volume, overflow_of_content, has_attributes, sectors_in}
use Rattle.hfs_volume.specs.Forks.{per_block_of, extents_of, extents_id, catalog_id, allocation_id, attributes_id, data_kind}
use Rattle.hfs_volume.specs.Links.{private_id}
use Rattle.hfs_volume.specs.Sound.{IsSoundVolume}
use Rattle.volume_base.specs.Lists.{lists_of, facts_on}
use Rattle.volume_base.specs.Service.{IsInService}
use Rattle.volume_base.specs.declared.volume.Volume.{Volume}

-- each sector has its 512 bytes
abbrev pub AreWhole : Content → Type 0
AreWhole content = (at : ℕ) → at < length content → length (sector content at) ≡ 512

-- ---- the sectors that are a volume's own
-- the sectors of the attributes file, where there is one
abbrev pub attribute_sectors : Volume → List ℕ
attribute_sectors volume = if has_attributes volume.header then sectors_of_tree volume.attributes.file else []

-- the sectors of the bitmap's file
abbrev pub map_sectors : Volume → List ℕ
map_sectors volume = fork_sectors volume.map.fork volume.map.per_block

-- the sectors of the special files: the trees', and the bitmap's
abbrev pub file_sectors : Volume → List ℕ
file_sectors volume = sectors_of_tree volume.extents.file ++ (sectors_of_tree volume.catalog.file ++ (attribute_sectors volume ++ map_sectors volume))

-- how many sectors the blocks have
abbrev pub blocks_end : Volume → ℕ
blocks_end volume = volume.header.total_blocks * per_block_of volume.header

-- the sectors that are put: the header's, those of the trees' files, and those of the bitmap's file
abbrev pub own_sectors : Volume → List ℕ
own_sectors volume = 2 ∷ sectors_of_tree volume.extents.file ++ (sectors_of_tree volume.catalog.file ++ (attribute_sectors volume ++ map_sectors volume))

-- the same of a content, as its header and its extents overflow file say
abbrev pub own_sectors_in : Content → List ℕ
own_sectors_in content =
    let head = header_of_volume content in
    2 ∷ sectors_in content (extents_of [] extents_id data_kind head.extents_fork)
    ++ (sectors_in content (extents_of (overflow_of_content content) catalog_id data_kind head.catalog_fork)
    ++ ((if has_attributes head then sectors_in content (extents_of (overflow_of_content content) attributes_id data_kind head.attributes_fork) else [])
    ++ sectors_in content (extents_of (overflow_of_content content) allocation_id data_kind head.allocation_fork)))

-- ---- standing
-- The three trees stand over a content: each file holds its tree there. A volume without an attributes file has two.
pub record HoldsTrees (volume : Volume) (content : Content) : Type 0 where
  pub extents : HoldsTree extents_form IsExtentKey is_eight_extents extent_cmp volume.extents.file content
  pub catalog : HoldsTree catalog_form IsCatalogKey anything catalog_cmp volume.catalog.file content
  -- keys are compared unit by unit
  pub compare : (tree_head volume.catalog.file.header).compare ≡ 0xBC
  pub attributes : IsTrue (has_attributes volume.header) → HoldsTree attributes_form IsAttrKey anything attr_cmp volume.attributes.file content

-- The special files have the extents that the header and the extents overflow file say.
pub record HasItsForks (volume : Volume) (content : Content) : Type 0 where
  pub extents : volume.extents.file.fork ≡ extents_of [] extents_id data_kind volume.header.extents_fork
  pub extents_per : volume.extents.file.per_block ≡ per_block_of volume.header
  pub catalog : volume.catalog.file.fork ≡ extents_of (overflow_in_volume (lists_of volume content)) catalog_id data_kind volume.header.catalog_fork
  pub catalog_per : volume.catalog.file.per_block ≡ per_block_of volume.header
  pub attributes : IsTrue (has_attributes volume.header) → volume.attributes.file.fork ≡ extents_of (overflow_in_volume (lists_of volume content)) attributes_id data_kind volume.header.attributes_fork
  pub attributes_per : IsTrue (has_attributes volume.header) → volume.attributes.file.per_block ≡ per_block_of volume.header
  pub map : volume.map.fork ≡ extents_of (overflow_in_volume (lists_of volume content)) allocation_id data_kind volume.header.allocation_fork
  pub map_per : volume.map.per_block ≡ per_block_of volume.header

-- the sector of the alternate header, the last but one, and that of the journal's info block
abbrev pub IsKeptAside : Volume → Content → ℕ → Type 0
IsKeptAside volume content at = (at ≡ length content - 2) ⊎ (at ≡ info_sector_of volume.header)

-- What the volume keeps goes with the content: its trees stand, its special files are those that header and extents overflow file name, no
-- sector is in two of them, and none of theirs is the journal's, nor that of the alternate header; a put or a live list names no others.
pub record IsStanding (volume : Volume) (space : Space) : Type 0 where
  pub trees : HoldsTrees volume space.content
  pub forks : HasItsForks volume space.content
  pub whole : AreWhole space.content
  pub apart : AreApart (own_sectors volume)
  pub blocks : length volume.map.used ≡ volume.header.total_blocks
  pub closed : (at : ℕ) → space.closed at → Contains (own_sectors volume) at → ⊥
  pub aside : (at : ℕ) → IsKeptAside volume space.content at → Contains (own_sectors volume) at → ⊥
  pub large : 2 < length space.content
  -- the special files lie in blocks, and these in the space
  pub inside : (at : ℕ) → Contains (file_sectors volume) at → at < blocks_end volume
  pub fit : blocks_end volume ≤ length space.content
  pub live : (at : ℕ) → space.live at → Contains (own_sectors volume) at

-- A volume in service over a space, in the middle of a command too.
pub record StandsOver (volume : Volume) (space : Space) : Type 0 where
  pub service : IsInService volume space
  pub stands : IsTrue space.tells → IsStanding volume space

-- ---- between commands
-- the volume with another number of nodes and map bits in its attributes file, where it has none
abbrev pub with_attributes_tree : VolumeState → VolumeState → VolumeState
with_attributes_tree lists other = record lists { attributes_tree = other.attributes_tree }

-- The content has what the volume keeps: its lists are those of the content, they are those of a sound volume, and the private folder that
-- is kept is theirs. Where there is no attributes file, the numbers of its tree mean nothing.
pub record IsSettled (volume : Volume) (content : Content) : Type 0 where
  pub blocks : length volume.map.used ≡ volume.header.total_blocks
  pub lists : volume_of content ≡ with_attributes_tree (lists_of volume content) (volume_of content)
  pub attributes : IsTrue (has_attributes volume.header) → (volume_of content).attributes_tree ≡ facts_on volume.attributes.file
  pub sound : IsSoundVolume (volume_of content)
  pub private : volume.private ≡ private_id (records_of (volume_of content))
