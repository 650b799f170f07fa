-- What `setattr` and `delattr` do to a volume: its attributes, the mark on their owner, and the room for both.
use Rattle.std.specs.Prelude.{◌≡◌, ◌≤◌, ℕ, ◌+◌, ◌*◌, ◌/◌, ◌%◌, ◌==◌, ◌&&◌, min, nat_lt, length, Bool, true, false, IsTrue, List, Option, None, Some, if◌then◌else◌}
use Rattle.std.specs.Option.{option_map}
use Rattle.attributes.specs.Owned.{names_of}
use Rattle.attributes.specs.Values.{value_at as owned_value}
use Rattle.btree_node.specs.Levels.{Pair}
use Rattle.cat_records.specs.declared.record.CatRecord.{CatRecord}
use Rattle.cat_records.specs.declared.record.CatRecord.TheVariants.{Folder, File, Thread}
use Rattle.cat_records.specs.declared.record.EntryFields.{EntryFields}
use Rattle.hfs_language.specs.declared.refusal.Refusal.TheVariants as refusal
use Rattle.hfs_language.specs.declared.reply.Reply.{Reply}
use Rattle.hfs_language.specs.declared.reply.Reply.TheVariants as reply
use Rattle.hfs_model.specs.Step.{is_refusal}
use Rattle.hfs_volume.specs.Changes.{AreSortedAttributes}
use Rattle.hfs_volume.specs.Content.{has_attributes}
use Rattle.alloc_bitmap.specs.Map.{free_of}
use Rattle.flag_rows.specs.Bits.{count_set, sectors_for}
use Rattle.hfs_volume.specs.Cost.{attributes_key, growth, is_too_deep, overflow_records, tree_load}
use Rattle.hfs_volume.specs.Weight.{cost_of_tree, runs_for}
use Rattle.hfs_volume.specs.declared.cost.ValueChange.{ValueChange}
use Rattle.hfs_volume.specs.declared.cost.TreeCost.{TreeCost}
use Rattle.jnl_format.specs.Recovery.{header_of_volume}
use Rattle.sector_disk.specs.Lists.{Content}
use Rattle.sector_disk.specs.Space.{Space}
use Rattle.volume_base.specs.Changing.{HasRoomToUpdate, ReplacesRecord, catalog_node}
use Rattle.volume_base.specs.Lists.{lists_of, facts_on}
use Rattle.volume_base.specs.Trees.{ChangesTrees}
use Rattle.volume_base.specs.declared.entries.Entry.{Entry}
use Rattle.volume_base.specs.declared.volume.Volume.{Volume}

-- ---- the mark on an owner

-- flags with bit 2, which says whether there are attributes
abbrev pub with_attribute_flag : Bool → ℕ → ℕ
with_attribute_flag has flags = flags / 8 * 8 + (if has then 4 else 0) + flags % 4

-- fields to which something was done at this moment, of a folder or file that now has attributes, or none
abbrev pub marked_fields : Bool → ℕ → EntryFields → EntryFields
marked_fields has moment fields = record fields { flags = with_attribute_flag has fields.flags; attribute = moment }

-- the record of such a folder or file
abbrev pub with_mark : Bool → ℕ → CatRecord → Option CatRecord
with_mark has moment (Folder folder) = Some (Folder (record { fields = marked_fields has moment folder.fields }))
with_mark has moment (File file) = Some (File (record file { fields = marked_fields has moment file.fields }))
with_mark has moment (Thread thread) = None

-- The folder or file is marked, and nothing else of the volume is changed; the header wasn't put.
pub record MarksEntry (has : Bool) (moment : ℕ) (entry : Entry) (old new : Volume) (before after : Content) : Type 0 where
  pub rec : CatRecord
  pub made : with_mark has moment entry.rec ≡ Some rec
  pub replaces : ReplacesRecord entry rec old new before after

-- ---- the attributes
-- The attributes have changed so, and nothing else of the volume; the header wasn't put.
pub record ChangesAttributes (Does : List Pair → List Pair → Type 0) (old new : Volume) (before after : Content) : Type 0 where
  pub does : Does (lists_of old before).attribute_pairs (lists_of new after).attribute_pairs
  pub sorted : AreSortedAttributes (lists_of new after).attribute_pairs
  pub changes : ChangesTrees old new before after
  pub catalog : (lists_of new after).catalog_pairs ≡ (lists_of old before).catalog_pairs
  pub rest : new ≡ record old { attributes = new.attributes }
  pub headed : header_of_volume after ≡ header_of_volume before

-- The attributes have changed so, and then their owner was marked as one that has some, or none.
pub record ChangesOwned (Does : List Pair → List Pair → Type 0) (has : Bool) (entry : Entry) (old new : Volume) (before after : Content) : Type 0 where
  pub between : Volume
  pub middle : Content
  pub attributes : ChangesAttributes Does old between before middle
  pub marks : MarksEntry has old.header.modify_date entry between new middle after

-- of an attribute of a folder or file, whether this has another; none where there is no attribute of the name
abbrev pub others_owned : List Pair → ℕ → List ℕ → Option Bool
others_owned pairs id name = option_map (λ value. nat_lt 1 (length (names_of id pairs))) (owned_value pairs id name)

-- ---- room
-- the numbers of the attributes file by which edits are counted
abbrev pub attributes_cost : Volume → TreeCost
attributes_cost volume = cost_of_tree (facts_on volume.attributes.file) 0

-- the sectors that so many edits of the attributes file take at most, and a node for their owner
abbrev pub mark_load : ℕ → Volume → ℕ
mark_load edits volume = catalog_node volume + tree_load attributes_key (attributes_cost volume) edits 0

-- the sectors of the bitmap, and the header, that a change of values puts at most whose blocks are of so many runs; none where it takes no block and
-- gives none back
abbrev pub blocks_load : Volume → ValueChange → ℕ → ℕ
blocks_load volume change runs = if (change.blocks == 0) && (change.freed == 0) then 0 else 1 + min (sectors_for (length volume.map.used)) (change.blocks / 4096 + 2 * runs + change.freed)

-- how many edits of the attributes file a change of values makes at most beside so many, where its blocks are of so many runs
abbrev pub value_edits : ℕ → ValueChange → ℕ → ℕ
value_edits edits change runs = edits + change.records + overflow_records runs

-- the runs of free blocks that a change of values takes
abbrev pub runs_taken : Volume → ValueChange → ℕ
runs_taken volume change = runs_for change.blocks (free_of volume.map)

-- the sectors that a change of values puts at most with so many edits beside it, and a node for their owner
abbrev pub value_load : ℕ → ValueChange → Volume → ℕ
value_load edits change volume = mark_load (value_edits edits change (runs_taken volume change)) volume + blocks_load volume change (runs_taken volume change)

-- Where the space tells, there is room to mark a folder or file; and where there is an attributes file, for so many edits of it before with this change
-- of values, for which it needn't grow, and there are the blocks.
pub record HasRoomForValue (edits : ℕ) (change : ValueChange) (volume : Volume) (space : Space) : Type 0 where
  pub update : HasRoomToUpdate volume space
  pub told : IsTrue space.tells → IsTrue (has_attributes volume.header)
      → (value_load edits change volume ≤ space.spare)
      × (is_too_deep attributes_key (attributes_cost volume) (value_edits edits change (runs_taken volume change)) ≡ false)
      × (growth volume.header.block_size attributes_key (attributes_cost volume) (value_edits edits change (runs_taken volume change)) ≡ 0)
      × (change.blocks ≤ count_set (free_of volume.map))

-- ---- what is answered
-- the step's reply to `setattr`; a volume without an attributes file refuses for want of one what its step doesn't refuse
abbrev pub set_answer : Bool → Reply → Reply
set_answer true said = said
set_answer false said = if is_refusal said then said else reply.No refusal.NoTree
