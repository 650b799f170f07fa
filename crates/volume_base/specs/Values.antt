-- The value of an attribute, as it is told.
use Rattle.std.specs.Prelude.{◌≡◌, ◌<◌, ◌≤◌, ℕ, ◌*◌, ◌/◌, ◌^◌, true, nat_lt, List, [], map, sum, length, take, Option, None, Some, if◌then◌else◌}
use Rattle.std.specs.List.{list_all}
use Rattle.attributes.specs.declared.value.ValueAt.{ValueAt}
use Rattle.attributes.specs.declared.value.ValueAt.TheVariants as held
use Rattle.attributes.specs.Owned.{names_of}
use Rattle.attributes.specs.Values.{value_at}
use Rattle.btree_node.specs.Levels.{Pair}
use Rattle.file_io.specs.Bytes.{fork_bytes}
use Rattle.fork_map.specs.Blocks.{blocks_of}
use Rattle.hfs_language.specs.declared.refusal.Refusal.{Refusal}
use Rattle.hfs_language.specs.declared.refusal.Refusal.TheVariants as refusal
use Rattle.hfs_language.specs.declared.reply.Reply.{Reply}
use Rattle.hfs_language.specs.declared.reply.Reply.TheVariants as reply
use Rattle.hfs_model.specs.Step.{most_attribute}
use Rattle.hfs_volume.specs.Content.{VolumeState}
use Rattle.hfs_volume.specs.Cost.{overflow_records}
use Rattle.hfs_volume.specs.Weight.{freed_blocks, further_records}
use Rattle.hfs_volume.specs.declared.cost.ValueChange.{ValueChange}
use Rattle.hx_bytes.specs.declared.extents.Extent.{Extent}
use Rattle.sector_disk.specs.Lists.{Content}
use Rattle.volume_base.specs.Listing.{replied}
use Rattle.volume_base.specs.Opening.{ends_inside}
use Rattle.volume_base.specs.Owning.{owner_in}

-- the blocks of a value lie in so many sectors, and hold its bytes
abbrev pub IsHeldIn : ℕ → ℕ → ValueAt → Type 0
IsHeldIn block sectors (held.Inline value) = Unit {0}
IsHeldIn block sectors (held.Blocks size fork) = (list_all (ends_inside (block / 512) sectors) fork ≡ true) × (size ≤ length (blocks_of fork) * block)

-- how many bytes a value has
abbrev pub size_of_value : ValueAt → ℕ
size_of_value (held.Inline value) = length value
size_of_value (held.Blocks size fork) = size

-- the bytes of a value, where blocks have this size: those of its record, or the first of its blocks
abbrev pub bytes_of_value : Content → ℕ → ValueAt → List ℕ
bytes_of_value content block (held.Inline value) = value
bytes_of_value content block (held.Blocks size fork) = take size (fork_bytes content block fork)

-- the reply about a value, if there is one: one that is longer than a `setattr` takes is too large for it
abbrev pub value_told : Content → ℕ → Option ValueAt → Reply
value_told content block None = reply.No refusal.NoAttribute
value_told content block (Some found) = if nat_lt most_attribute (size_of_value found) then reply.No refusal.TooLarge else reply.Content (bytes_of_value content block found)

-- the value of an attribute of what a path stands for
abbrev pub value_owned : Content → ℕ → List Pair → Option ℕ → List Pair → List (List ℕ) → List ℕ → Reply
value_owned content block pairs private attributes path name = replied (owner_in pairs private path) (λ id. value_told content block (value_at attributes id name))

-- ---- what a command does to values

-- the change by which a value in these extents goes, and one of so many blocks comes
abbrev pub freed_by : List Extent → ℕ → ValueChange
freed_by fork blocks = record { records = overflow_records (length fork); freed = length (blocks_of fork); blocks = blocks }

-- the change by which a value goes, if there is one, and one of so many blocks comes
abbrev pub change_of : Option ValueAt → ℕ → ValueChange
change_of None blocks = freed_by [] blocks
change_of (Some (held.Inline value)) blocks = freed_by [] blocks
change_of (Some (held.Blocks size fork)) blocks = freed_by fork blocks

-- a value that was found has as many blocks and extents as a volume may have
abbrev pub AreFew : Option ValueAt → Type 0
AreFew None = Unit {0}
AreFew (Some (held.Inline value)) = Unit {0}
AreFew (Some (held.Blocks size fork)) = (length (blocks_of fork) < 2 ^ 32) × (length fork < 2 ^ 32)

-- the values of all attributes of a folder or file go
abbrev pub values_owned : VolumeState → ℕ → ValueChange
values_owned volume id = record {
  records = sum (map (λ name. further_records volume id name) (names_of id volume.attribute_pairs));
  freed = sum (map (λ name. freed_blocks volume id name) (names_of id volume.attribute_pairs));
  blocks = 0;
}
