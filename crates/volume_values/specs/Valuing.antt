-- What `setattr` and `delattr` do to a volume in service: a value is placed, the blocks of the old one are given back, and the owner is marked.
use Rattle.std.specs.Prelude.{◌≡◌, ◌≤◌, ℕ, ◌+◌, ◌*◌, ◌/◌, ◌==◌, if◌then◌else◌, nat_lt, not, Bool, true, false, List, [], length, take, Ok, IsTrue, Option, None, Some}
use Rattle.alloc_bitmap.specs.Map.{free_of}
use Rattle.attributes.specs.Values.{SetsValue, extents_at}
use Rattle.file_io.specs.Bytes.{fork_bytes, sectors_in}
use Rattle.file_io.specs.Places.{fresh_of, taken}
use Rattle.flag_rows.specs.Bits.{count_set}
use Rattle.fork_map.specs.Blocks.{blocks_of}
use Rattle.hfs_language.specs.declared.command.Command.TheVariants as command
use Rattle.hfs_language.specs.declared.reply.Reply.{Reply}
use Rattle.hfs_language.specs.declared.reply.Reply.TheVariants as reply
use Rattle.hfs_model.specs.Step.{is_refusal, most_attribute, step, step_line, to_node, to_attribute}
use Rattle.hfs_model.specs.declared.plain.PlainAttribute.{PlainAttribute}
use Rattle.hfs_model.specs.declared.plain.PlainNode.{PlainNode}
use Rattle.hfs_volume.specs.Attributing.{DeletesAttribute, SetsAttribute, SetsAttributeFork}
use Rattle.hfs_volume.specs.Changes.{DropsAttribute, SetsFork}
use Rattle.hfs_volume.specs.Content.{VolumeState, has_attributes, volume_of}
use Rattle.hfs_volume.specs.Cost.{attributes_key, growth, is_too_deep, overflow_records, tree_load}
use Rattle.hfs_volume.specs.Data.{PutsInValues}
use Rattle.hfs_volume.specs.Forks.{in_use}
use Rattle.hfs_volume.specs.TreeOf.{tree_of}
use Rattle.hfs_volume.specs.Values.{longest_inline}
use Rattle.hfs_volume.specs.Weight.{blocks_for_value, runs_for}
use Rattle.hx_bytes.specs.declared.extents.Extent.{Extent}
use Rattle.sector_disk.specs.Lists.{Content}
use Rattle.sector_disk.specs.Space.{AgreesOutside, Space}
use Rattle.std.specs.List.{Contains}
use Rattle.volume_base.specs.Attributing.{ChangesAttributes, MarksEntry, attributes_cost, mark_load, set_answer}
use Rattle.volume_base.specs.Fitting.{IsMetNow}
use Rattle.volume_base.specs.Frame.{Serves}
use Rattle.volume_base.specs.Giving.{PutsTraded, traded}
use Rattle.volume_base.specs.Lists.{bits_on, lists_of}
use Rattle.volume_base.specs.declared.entries.Entry.{Entry}
use Rattle.volume_base.specs.declared.volume.Volume.{Volume}

-- ---- a value is placed

-- how many blocks a value of so many bytes takes of a volume
abbrev pub blocks_of_new : Volume → ℕ → ℕ
blocks_of_new volume long = blocks_for_value volume.header.block_size long

-- the runs of free blocks that it takes
abbrev pub runs_of_new : Volume → ℕ → ℕ
runs_of_new volume long = runs_for (blocks_of_new volume long) (free_of volume.map)

-- how many sectors of the bitmap at most have bits that change where it takes them
abbrev pub touched_by_value : ℕ → Volume → ℕ
touched_by_value long volume = if blocks_of_new volume long == 0 then 0 else blocks_of_new volume long / 4096 + 2 * runs_of_new volume long

-- the edits by which a value of so many bytes comes in place of one with so many records at most
abbrev pub edits_to_place : ℕ → ℕ → Volume → ℕ
edits_to_place most long volume = most + (1 + overflow_records (runs_of_new volume long))

-- the sectors that they put at most
abbrev pub place_load : ℕ → ℕ → Volume → ℕ
place_load most long volume = tree_load attributes_key (attributes_cost volume) (edits_to_place most long volume) 0

-- There is room for these edits and for their owner's record, for which the attributes file needn't grow, and there are the blocks.
pub record HasRoomToPlace (most long : ℕ) (volume : Volume) (space : Space) : Type 0 where
  pub load : mark_load (edits_to_place most long volume) volume ≤ space.spare
  pub deep : is_too_deep attributes_key (attributes_cost volume) (edits_to_place most long volume) ≡ false
  pub grows : growth volume.header.block_size attributes_key (attributes_cost volume) (edits_to_place most long volume) ≡ 0
  pub free : blocks_of_new volume long ≤ count_set (free_of volume.map)

-- the extents of so many blocks that may be taken of a volume
abbrev pub fresh_blocks : Volume → ℕ → List Extent
fresh_blocks volume many = fresh_of volume.map many

-- An attribute has a value in blocks that were free: its bytes stand there, the bitmap in memory knows the blocks as taken, and the attribute's
-- records name them. Nothing else of the volume is changed.
pub record PlacesInBlocks (id : ℕ) (name value : List ℕ) (old new : Volume) (before after : Content) : Type 0 where
  pub fork : List Extent
  pub blocks : blocks_of fork ≡ blocks_of (fresh_blocks old (blocks_of_new old (length value)))
  pub few : length fork ≤ runs_of_new old (length value)
  pub spilled : Volume
  pub takes : spilled ≡ record old { map = taken (blocks_of_new old (length value)) old.map }
  pub middle : Content
  pub bytes : take (length value) (fork_bytes middle old.header.block_size fork) ≡ value
  pub lists : lists_of spilled middle ≡ record (lists_of old before) { bits = bits_on spilled }
  pub outside : AgreesOutside (λ s. Contains (sectors_in old.header.block_size (fresh_blocks old (blocks_of_new old (length value)))) s) before middle
  pub sets : ChangesAttributes (SetsFork id name (length value) (in_use fork)) spilled new middle after

-- a value is placed in its record, or in blocks where it is longer than a record's
abbrev pub PlacesAs : Bool → ℕ → List ℕ → List ℕ → Volume → Volume → Content → Content → Type 0
PlacesAs false id name value old new before after = ChangesAttributes (SetsValue id name value) old new before after
PlacesAs true id name value old new before after = PlacesInBlocks id name value old new before after

abbrev pub PlacesValue : ℕ → List ℕ → List ℕ → Volume → Volume → Content → Content → Type 0
PlacesValue id name value old new before after = PlacesAs (nat_lt longest_inline (length value)) id name value old new before after

-- ---- the whole change

-- The blocks of an old value were given back behind a change, where others were taken before or not, and then its owner was marked as one that has
-- attributes, or none.
pub record GivesAndMarks (takes has : Bool) (given : List Extent) (entry : Entry) (moment : ℕ) (old new : Volume) (before after : Content) : Type 0 where
  pub between : Volume
  pub middle : Content
  pub gives : between ≡ traded takes given old
  pub puts : PutsTraded takes given between before middle
  pub marks : MarksEntry has moment entry between new middle after

-- An attribute got a value, in place of one that it may have had.
pub record PutsValue (id : ℕ) (name value : List ℕ) (entry : Entry) (old new : Volume) (before after : Content) : Type 0 where
  pub placed : Volume
  pub middle : Content
  pub places : PlacesValue id name value old placed before middle
  pub behind : GivesAndMarks (not (blocks_of_new old (length value) == 0)) true (extents_at (lists_of old before).attribute_pairs id name) entry old.header.modify_date placed new middle after

-- An attribute isn't there any more.
pub record TakesValue (id : ℕ) (name : List ℕ) (others : Bool) (entry : Entry) (old new : Volume) (before after : Content) : Type 0 where
  pub dropped : Volume
  pub middle : Content
  pub drops : ChangesAttributes (DropsAttribute id name) old dropped before middle
  pub behind : GivesAndMarks false others (extents_at (lists_of old before).attribute_pairs id name) entry old.header.modify_date dropped new middle after

-- ---- in the lists of the content

-- an attribute of a folder or file has this value, in its record or in blocks, and the folder or file is marked
abbrev pub SetsAsLists : Bool → ℕ → List ℕ → List ℕ → VolumeState → VolumeState → Type 0
SetsAsLists false id name value old new = SetsAttribute id name value old new
SetsAsLists true id name value old new = (extents : List Extent) × SetsAttributeFork id name (length value) extents old new

abbrev pub SetsOwned : ℕ → List ℕ → List ℕ → VolumeState → VolumeState → Type 0
SetsOwned id name value old new = SetsAsLists (nat_lt longest_inline (length value)) id name value old new

-- What a path stands for has an attribute with this value, in the lists of the content, and of all values this one alone has other blocks.
pub record HasSet (path : List (List ℕ)) (name value : List ℕ) (before after : Content) : Type 0 where
  pub node : PlainNode
  pub found : to_node (tree_of before) path ≡ Ok node
  pub sets : SetsOwned node.id name value (volume_of before) (volume_of after)
  pub values : PutsInValues (tree_of before) (command.SetAttr path name value) (volume_of before) (volume_of after)

-- What a path stands for hasn't the attribute any more, in the lists of the content, and of all values this one alone has other blocks: none.
pub record HasDeleted (path : List (List ℕ)) (name : List ℕ) (before after : Content) : Type 0 where
  pub node : PlainNode
  pub attribute : PlainAttribute
  pub found : to_attribute (tree_of before) path name ≡ Ok (node, attribute)
  pub deletes : DeletesAttribute node.id name (volume_of before) (volume_of after)
  pub values : PutsInValues (tree_of before) (command.DelAttr path name) (volume_of before) (volume_of after)

-- ---- the answer

-- what `setattr` came to, where its path stands for a folder or file: it was done, it was refused and nothing was changed, or it can't be done now and
-- nothing was changed, which the length of the value doesn't refuse
abbrev pub SetsAs : List (List ℕ) → List ℕ → List ℕ → Option Reply → Volume → Volume → Space → Space → Type 0
SetsAs path name value None old new before after = (after.content ≡ before.content) × Serves new after × (IsMetNow (command.SetAttr path name value) old before → ⊥) × (length value ≤ most_attribute)
SetsAs path name value (Some said) old new before after =
    (said ≡ set_answer (has_attributes old.header) (step_line (tree_of before.content) (Ok (command.SetAttr path name value))).0)
    × (is_refusal said ≡ true → after.content ≡ before.content)
    × (said ≡ reply.Ok → (tree_of after.content ≡ (step (tree_of before.content) (command.SetAttr path name value)).1) × HasSet path name value before.content after.content)
    × Serves new after

-- the same of `delattr`, where the attribute is there
abbrev pub DeletesAs : List (List ℕ) → List ℕ → Option Reply → Volume → Volume → Space → Space → Type 0
DeletesAs path name None old new before after = (after.content ≡ before.content) × Serves new after × (IsMetNow (command.DelAttr path name) old before → ⊥)
DeletesAs path name (Some said) old new before after =
    (said ≡ reply.Ok) × (tree_of after.content ≡ (step (tree_of before.content) (command.DelAttr path name)).1) × HasDeleted path name before.content after.content × Serves new after
