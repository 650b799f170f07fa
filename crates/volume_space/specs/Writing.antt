-- `write` of bytes and `trunc` to a larger size: data is put into a file.
use Rattle.std.specs.Prelude.{◌≡◌, ◌<◌, ◌≤◌, ℕ, ◌+◌, ◌-◌, ◌*◌, ◌/◌, ◌==◌, ◌&&◌, ◌||◌, max, min, nat_le, nat_lt, not, Bool, true, false, List, [], ◌∷◌, ◌++◌, length, take, drop, slice_index_or, Option, None, Some, if◌then◌else◌}
use Rattle.std.specs.List.{All, Contains, list_all}
use Rattle.hx_bytes.specs.declared.extents.Extent.{Extent}
use Rattle.hx_bytes.specs.declared.extents.ForkRecord.{ForkRecord}
use Rattle.sector_disk.specs.Space.{AgreesOutside, Space}
use Rattle.fork_map.specs.Blocks.{blocks_of}
use Rattle.alloc_bitmap.specs.Apart.{AreApart}
use Rattle.file_io.specs.Bytes.{IsBlockSize, fork_bytes, sectors_in, written}
use Rattle.file_io.specs.Places.{AreUsed, KeepsMap, blocks_for, first_block as first_of, fresh_of, given, middle, new_blocks, old_end, taken}
use Rattle.file_io.specs.Touching.{IsOneOf}
use Rattle.overflow.specs.Records.{eight_at}
use Rattle.cat_records.specs.Fits.{FitsFile}
use Rattle.cat_records.specs.declared.record.CatRecord.TheVariants.{File}
use Rattle.cat_records.specs.declared.record.FileRecord.{FileRecord}
use Rattle.jnl_format.specs.Recovery.{Content}
use Rattle.flag_rows.specs.Bits.{count_set, sectors_for}
use Rattle.flag_rows.specs.Marks.{Fit}
use Rattle.flag_rows.specs.Runs.{fewest_of}
use Rattle.alloc_bitmap.specs.Map.{BlockMap, Have, free_of}
use Rattle.hfs_language.specs.declared.command.Command.{Command}
use Rattle.hfs_model.specs.declared.plain.PlainNode.{PlainNode}
use Rattle.hfs_volume.specs.Content.{VolumeState, overflow_in_volume, records_of, volume_of}
use Rattle.hfs_volume.specs.Cost.{cost_of, overflow_records}
use Rattle.hfs_volume.specs.Data.{PutsInFork}
use Rattle.hfs_volume.specs.Forks.{data_kind, extents_of, per_block_of}
use Rattle.hfs_volume.specs.Records.{Placed, entries_of, is_link_type}
use Rattle.hfs_volume.specs.Sound.{IsSoundVolume}
use Rattle.hfs_volume.specs.TreeOf.{bytes_in, tree_in, tree_of}
use Rattle.hfs_volume.specs.Weight.{Data, data_of, file_extents, first_block, free_runs, needs_cut, needs_cut_in, new_blocks_of, old_blocks_of, room_with}
use Rattle.hfs_volume.specs.Changes.{with_fork}
use Rattle.hfs_volume.specs.Writing.{MakesBytes, RewritesFile, RewritesFork, file_before, written_bytes}
use Rattle.hfs_volume.specs.declared.cost.Cost.{Cost}
use Rattle.hfs_volume.specs.declared.cost.Needs.{Needs}
use Rattle.volume_base.specs.Cutting.{fork_at}
use Rattle.volume_base.specs.Changing.{ReplacesRecord, catalog_node}
use Rattle.volume_base.specs.DataWeighing.{needs_data_in}
use Rattle.volume_base.specs.Lists.{bits_on, lists_of}
use Rattle.volume_base.specs.Reading.{HasFile}
use Rattle.volume_space.specs.Recording.{records_in}
use Rattle.volume_space.specs.Spreading.{SpreadsExtents, edits_load, is_met_extents}
use Rattle.volume_base.specs.Standing.{IsSettled}
use Rattle.volume_base.specs.declared.entries.Entry.{Entry}
use Rattle.volume_base.specs.declared.volume.Tree.{Tree}
use Rattle.volume_base.specs.declared.volume.Volume.{Volume}

-- how many blocks data takes of a volume, and in whose place of the file's they come
abbrev pub fresh_blocks : Volume → Data → ℕ
fresh_blocks volume put = new_blocks_of volume.header.block_size put

abbrev pub freed_blocks : Volume → Data → ℕ
freed_blocks volume put = old_blocks_of volume.header.block_size put

-- from how many free runs they are taken
abbrev pub fresh_runs : Volume → Data → ℕ
fresh_runs volume put = fewest_of (fresh_blocks volume put) (free_runs (free_of volume.map))

-- the sectors of the bitmap that a put of data changes, at most
abbrev pub bits_load : Volume → Data → ℕ
bits_load volume put = min (sectors_for (length volume.map.used)) (fresh_blocks volume put / 4096 + 2 * fresh_runs volume put + freed_blocks volume put)

-- the sectors that a put of data puts at most: the header's, the record's, and those of the bitmap
abbrev pub data_load : Volume → Data → ℕ
data_load volume put = 1 + catalog_node volume + bits_load volume put

-- the sectors of the extents overflow file that a put of data puts at most: for an edit of each overflow record of the file's fork, and of each that it may get
abbrev pub records_load_in : ℕ → Volume → VolumeState → Data → ℕ
records_load_in kind volume lists put = edits_load volume.extents.file.shape (records_in kind lists put.id + overflow_records (length (file_extents lists put.id kind) + 1 + fresh_runs volume put))

-- the same of a data fork
abbrev pub records_load : Volume → VolumeState → Data → ℕ
records_load volume lists put = records_load_in data_kind volume lists put

-- whether there are as many free blocks as the data takes, and room to put what it puts, where so many sectors may be put
abbrev pub fits_data : Volume → ℕ → Data → Bool
fits_data volume spare put = nat_le (fresh_blocks volume put) (count_set (free_of volume.map)) && nat_le (data_load volume put) spare

-- a fork of so many extents has more than its record holds, or may have with blocks of so many runs
abbrev pub may_overflow : ℕ → ℕ → Bool
may_overflow extents runs = nat_lt 8 (extents + 1 + runs)

-- it is still to come to put data into a fork of this kind that has blocks past its size, which go first, or more than eight extents, or may have
-- with the new blocks
abbrev pub is_put_later : ℕ → Volume → VolumeState → Data → Bool
is_put_later kind volume lists put = needs_cut_in kind lists (Some put) || may_overflow (length (file_extents lists put.id kind)) (fresh_runs volume put)

-- there is data to put, it isn't still to come to put it, and there is room for it, where so many sectors may be put
abbrev pub is_put_now_in : ℕ → Volume → ℕ → VolumeState → Option Data → Bool
is_put_now_in kind volume spare lists None = false
is_put_now_in kind volume spare lists (Some put) = not (is_put_later kind volume lists put) && fits_data volume spare put

-- the same of a data fork
abbrev pub is_put_now : Volume → ℕ → VolumeState → Option Data → Bool
is_put_now volume spare lists put = is_put_now_in data_kind volume spare lists put

-- there is data to put, no blocks of the file go first, and what the data costs of the blocks that may be taken is a load that so many sectors suffice for,
-- without growth of the extents overflow file
abbrev pub is_data_met_in : ℕ → Volume → ℕ → VolumeState → Option Data → Bool
is_data_met_in kind volume spare lists None = false
is_data_met_in kind volume spare lists (Some put) =
    not (needs_cut_in kind lists (Some put)) && is_met_extents (cost_of (needs_data_in kind (free_of volume.map) lists put) (room_with volume.capacity (free_of volume.map) lists)) spare

-- the same of a data fork
abbrev pub is_data_met : Volume → ℕ → VolumeState → Option Data → Bool
is_data_met volume spare lists put = is_data_met_in data_kind volume spare lists put

-- The file has the data of a command: it has fresh blocks in place of those from the first that is written on, its size and its dates are others,
-- and the header counts the free blocks anew; nothing else of the lists is changed, and of all forks this one alone has other blocks.
pub record HasData (asked : Command) (before after : Content) : Type 0 where
  pub put : Data
  pub is_asked : data_of (tree_of before) asked ≡ Some put
  pub no_cut : needs_cut (volume_of before) (Some put) ≡ false
  pub fresh : List ℕ
  pub rewrites : RewritesFile put.id (first_block (volume_of before).head.block_size put) (old_blocks_of (volume_of before).head.block_size put) fresh (volume_of before) (volume_of after)
  pub forks : PutsInFork (Some put) (volume_of before) (volume_of after)
  pub user : 16 ≤ put.id

-- ---- the stages of a put
-- a fork of this size in so many blocks, with these extents
abbrev pub fork_with : (size total : ℕ) → List Extent → ForkRecord → ForkRecord
fork_with size total extents fork = record { logical_size = size; clump_size = fork.clump_size; total_blocks = total; extents = eight_at extents 0 }

-- the record of a file that has this fork since this moment
abbrev pub record_with : (kind moment : ℕ) → ForkRecord → FileRecord → FileRecord
record_with kind moment fork file = with_fork kind fork (record file { fields = record file.fields { changed = moment; attribute = moment } })

-- The extents of a file of this size lie in the space, hold its bytes and are in use, none twice, and so is the block of the header; the volume's blocks lie in the space.
pub record IsSureToPut (extents : List Extent) (size : ℕ) (volume : Volume) (space : Space) : Type 0 where
  pub block : IsBlockSize volume.header.block_size
  pub fits : length volume.map.used * per_block_of volume.header ≤ space.sectors
  pub header : slice_index_or volume.map.used (2 / per_block_of volume.header) false ≡ true
  pub inside : All (λ at. at < space.sectors) (sectors_in volume.header.block_size extents)
  pub holds : size ≤ length (blocks_of extents) * volume.header.block_size
  pub used : AreUsed volume.map (blocks_of extents)
  pub apart : AreApart (blocks_of extents)
  pub fit : Fit (length volume.map.used) extents

-- the volume behind a spill, behind the new overflow records, behind the new record, and with another number of free blocks
abbrev pub with_spill : Volume → BlockMap → Volume
with_spill volume later = record volume { map = later }

abbrev pub with_stored : Volume → BlockMap → Tree → Volume
with_stored volume later extents = record volume { map = later; extents = extents }

abbrev pub with_record : Volume → BlockMap → Tree → Tree → Volume
with_record volume later extents catalog = record volume { map = later; extents = extents; catalog = catalog }

abbrev pub with_data_put : Volume → BlockMap → Tree → Tree → ℕ → Volume
with_data_put volume later extents catalog free = record volume { map = later; extents = extents; catalog = catalog; header = record volume.header { free_blocks = free } }

-- how many blocks a value takes that is put into a file of this size
abbrev pub blocks_put : Volume → (size from long : ℕ) → ℕ
blocks_put volume size from long = new_blocks volume.header.block_size size from (from + long)

-- A value was spilled for a file of these extents, and the file's record has the new fork; bitmap and header say so in memory, and neither of them was put.
pub record PlacesData (kind : ℕ) (entry : Entry) (file : FileRecord) (extents : List Extent) (from : ℕ) (value : List ℕ) (total free : ℕ) (old new : Volume) (before after : Content) : Type 0 where
  pub later : List Extent
  pub between : Content
  pub stored : Content
  pub blocks : blocks_of later ≡ take (first_of old.header.block_size (fork_at kind file).logical_size from) (blocks_of extents)
      ++ blocks_of (fresh_of old.map (blocks_put old (fork_at kind file).logical_size from (length value)))
      ++ drop (old_end old.header.block_size (fork_at kind file).logical_size (from + length value)) (blocks_of extents)
  pub bytes : take (max (fork_at kind file).logical_size (from + length value)) (fork_bytes between old.header.block_size later)
      ≡ written (take (fork_at kind file).logical_size (fork_bytes before old.header.block_size extents)) from value
  pub map : AreApart (blocks_of extents)
      → new.map ≡ given (middle (first_of old.header.block_size (fork_at kind file).logical_size from) (old_end old.header.block_size (fork_at kind file).logical_size (from + length value)) extents) (taken (blocks_put old (fork_at kind file).logical_size from (length value)) old.map)
  pub fits : FitsFile (record_with kind old.header.modify_date (fork_with (max (fork_at kind file).logical_size (from + length value)) total later (fork_at kind file)) file)
  pub keeps : KeepsMap old.map new.map
  pub spilled : AgreesOutside (IsOneOf (sectors_in old.header.block_size (fresh_of old.map (blocks_put old (fork_at kind file).logical_size from (length value))))) before between
  pub lists : lists_of (with_spill old new.map) between ≡ record (lists_of old before) { bits = bits_on (with_spill old new.map) }
  pub spreads : SpreadsExtents file.fields.id kind later (with_spill old new.map) (with_stored old new.map new.extents) between stored
  pub replaces : ReplacesRecord entry (File (record_with kind old.header.modify_date (fork_with (max (fork_at kind file).logical_size (from + length value)) total later (fork_at kind file)) file)) (with_stored old new.map new.extents) (with_record old new.map new.extents new.catalog) stored after
  pub rest : new ≡ with_data_put old new.map new.extents new.catalog free

-- A value was put into a file: these are the lists that the laws of `write` and `trunc` speak of, and the bytes are made so. Where they are a sound volume's, the
-- volume is settled, and stands for their tree.
pub record PutsValue (kind : ℕ) (file : FileRecord) (from : ℕ) (value : List ℕ) (old new : Volume) (before after : Content) : Type 0 where
  pub lists : VolumeState
  pub fresh : List ℕ
  pub many : length fresh ≡ blocks_put old (fork_at kind file).logical_size from (length value)
  pub rewrites : RewritesFork file.fields.id kind (first_of old.header.block_size (fork_at kind file).logical_size from) (old_end old.header.block_size (fork_at kind file).logical_size (from + length value) - first_of old.header.block_size (fork_at kind file).logical_size from) fresh (volume_of before) lists
  pub same_file : file_before rewrites.puts ≡ file
  pub makes : MakesBytes (written_bytes from value) rewrites (bytes_in before) (bytes_in after)
  pub settles : IsSoundVolume lists → IsSettled new after
  pub tree : tree_of after ≡ tree_in lists (bytes_in after)
  pub now : volume_of after ≡ lists

-- the sectors that a put of so many bytes puts at most into a file of this size
abbrev pub put_load : Volume → (size from long : ℕ) → ℕ
put_load volume size from long =
    1 + catalog_node volume
    + min (sectors_for (length volume.map.used)) (blocks_put volume size from long / 4096 + 2 * fewest_of (blocks_put volume size from long) (free_runs (free_of volume.map)) + (old_end volume.header.block_size size (from + long) - first_of volume.header.block_size size from))

-- the most extents that a fork of so many may have behind a put, with blocks of so many runs in place of some
abbrev pub most_extents : (extents runs : ℕ) → ℕ
most_extents extents runs = extents + 1 + runs

-- the sectors of the extents overflow file that a put of so many bytes puts at most, where the fork has so many overflow records and so many extents
abbrev pub spread_put_load : Volume → (records extents size from long : ℕ) → ℕ
spread_put_load volume records extents size from long = edits_load volume.extents.file.shape (records + overflow_records (most_extents extents (fewest_of (blocks_put volume size from long) (free_runs (free_of volume.map)))))

-- A file's record stands in the lists of a content, its fork of this kind has these extents, and it is no link.
pub record IsToldFile (kind : ℕ) (file : FileRecord) (extents : List Extent) (content : Content) : Type 0 where
  pub entry : Placed
  pub stands : Contains (entries_of (records_of (volume_of content))) entry
  pub value : entry.value ≡ File file
  pub extents_are : extents ≡ extents_of (overflow_in_volume (volume_of content)) file.fields.id kind (fork_at kind file)
  pub no_link : is_link_type file.fields ≡ false

-- ---- extents that are used, and apart
-- the blocks of each of these extents lie in the volume, and are in use
abbrev pub AreHad : BlockMap → List Extent → Type 0
AreHad blocks [] = Unit {0}
AreHad blocks (extent ∷ rest) = Have blocks.used extent true × AreHad blocks rest

-- the blocks of the first extent lie before those of the second
abbrev pub ends_before : Extent → Extent → Bool
ends_before first second = nat_le (first.start + first.count) second.start

-- an extent has no block in common with any of these
abbrev pub is_apart_from : Extent → List Extent → Bool
is_apart_from extent others = list_all (λ other. ends_before other extent || ends_before extent other) others

-- no two of them have a block in common
abbrev pub are_apart : List Extent → Bool
are_apart [] = true
are_apart (extent ∷ rest) = is_apart_from extent rest && are_apart rest

-- ---- whether data can be put now, by the numbers
-- a file of this size that grows to an end has more blocks than its size wants
abbrev pub has_more : (size end wanted total : ℕ) → Bool
has_more size end wanted total = nat_lt size end && nat_lt wanted total

-- whether so much data can be put now into a file that has so many blocks in so many extents
abbrev pub can_put : Volume → (spare extents total size from long : ℕ) → Bool
can_put volume spare extents total size from long =
    not (has_more size (from + long) (blocks_for volume.header.block_size size) total)
    && (nat_le (blocks_put volume size from long) (count_set (free_of volume.map))
    && (nat_le (put_load volume size from long) spare && not (may_overflow extents (fewest_of (blocks_put volume size from long) (free_runs (free_of volume.map))))))

-- Data of so many bytes from a place on, into a file of this size.
pub record IsAt (put : Data) (size from end : ℕ) : Type 0 where
  pub size_is : put.old_size ≡ size
  pub new_is : put.new_size ≡ max size end
  pub end_is : put.end ≡ end
  pub place : min put.from put.old_size ≡ min from size

-- the bytes of a file's fork as users see them
abbrev pub bytes_at : ℕ → PlainNode → List ℕ
bytes_at kind node = if kind == data_kind then node.bytes else node.resource

-- A value was put into the fork of this kind of the file with this CNID.
pub record PutsAt (kind id from : ℕ) (value : List ℕ) (old new : Volume) (before after : Content) : Type 0 where
  pub file : FileRecord
  pub number : file.fields.id ≡ id
  pub stands : HasFile (records_of (volume_of before)) file
  pub puts : PutsValue kind file from value old new before after

-- the extents of a file's fork
abbrev pub extents_in : ℕ → Content → FileRecord → List Extent
extents_in kind content file = extents_of (overflow_in_volume (volume_of content)) file.fields.id kind (fork_at kind file)

-- what data needs: so many edits of the extents overflow file, one record updated in place, and blocks of so many runs in the place of others
abbrev pub needs_of_put : (edits fresh freed runs : ℕ) → Needs
needs_of_put edits fresh freed runs = record { ids = 0; edits = edits ∷ 0 ∷ 0 ∷ []; updates = 1; new_blocks = fresh; old_blocks = freed; runs = runs }

-- what so much data costs of the blocks that may be taken, whose fork has so many overflow records and so many extents
abbrev pub cost_to_put : Volume → VolumeState → (records extents fresh freed runs : ℕ) → Cost
cost_to_put volume lists records extents fresh freed runs = cost_of (needs_of_put (records + overflow_records (extents + 1 + runs)) fresh freed runs) (room_with volume.capacity (free_of volume.map) lists)

-- no blocks of the file go first, and that is a load that so many sectors suffice for, without growth of the extents overflow file
abbrev pub is_put_met : Volume → VolumeState → (spare records extents total size from long : ℕ) → Bool
is_put_met volume lists spare records extents total size from long =
    not (has_more size (from + long) (blocks_for volume.header.block_size size) total)
    && is_met_extents (cost_to_put volume lists records extents (blocks_put volume size from long)
    (old_end volume.header.block_size size (from + long) - first_of volume.header.block_size size from) (fewest_of (blocks_put volume size from long) (free_runs (free_of volume.map)))) spare
