-- Files that lost their last name and wait in the private folder: how a step of housekeeping finds the first of them, and what it does to it.
use Rattle.std.specs.Prelude.{min, ◌≡◌, ◌⊎◌, ◌<◌, ◌==◌, ◌&&◌, ◌||◌, nat_lt, ℕ, Bool, true, false, not, List, [], ◌∷◌, length, drop, slice_index, Option, Some, None, if◌then◌else◌, ◌≤◌, ◌+◌}
use Rattle.std.specs.List.{list_all}
use Rattle.sector_disk.specs.Lists.{Content}
use Rattle.jnl_format.specs.Recovery.{header_of_volume}
use Rattle.cat_records.specs.declared.record.CatRecord.{CatRecord}
use Rattle.cat_records.specs.declared.record.CatRecord.TheVariants.{Folder, File, Thread}
use Rattle.catalog.specs.Entries.{RemovesEntry}
use Rattle.catalog.specs.declared.folder.Child.{Child}
use Rattle.hfs_volume.specs.Changes.{DropsAttribute, InValues}
use Rattle.flag_rows.specs.Bits.{sectors_for}
use Rattle.hfs_volume.specs.Content.{VolumeState, attributes_of, volume_of}
use Rattle.hfs_volume.specs.Cost.{attributes_key, tree_load}
use Rattle.hfs_volume.specs.Values.{value_blocks}
use Rattle.hfs_volume.specs.declared.cost.ValueChange.{ValueChange}
use Rattle.volume_base.specs.Attributing.{attributes_cost}
use Rattle.hfs_volume.specs.Reclaim.{CutOrphan, CutShrunk, Does, DropAttribute, DropOrphan, Reclaim, next_reclaim, reclaim_cost, reclaim_cost_with}
use Rattle.hfs_volume.specs.Reclaiming.{DropsOrphanEntry, IsBareOrphan}
use Rattle.hfs_volume.specs.Records.{id_in, is_link_type}
use Rattle.hfs_volume.specs.TreeOf.{tree_of}
use Rattle.hfs_volume.specs.declared.cost.Cost.{Cost}
use Rattle.hfs_volume.specs.declared.cost.Cost.TheVariants as cost
use Rattle.hfs_volume.specs.Weight.{free_blocks, room_with}
use Rattle.volume_runs.specs.Rest.{IsAtRest, cut_puts}
use Rattle.volume_base.specs.Changing.{ChangesCatalog}
use Rattle.volume_space.specs.Cutting.{CutsFile}
use Rattle.volume_base.specs.Fitting.{is_met}
use Rattle.volume_base.specs.Lists.{lists_of}
use Rattle.volume_base.specs.declared.entries.Entry.{Entry}
use Rattle.volume_base.specs.declared.weighing.Edits.{Edits}
use Rattle.volume_space.specs.declared.tidying.Tidying.{Tidying}
use Rattle.volume_space.specs.declared.tidying.Tidying.TheVariants as tidying
use Rattle.volume_base.specs.declared.volume.Volume.{Volume}
use Rattle.volume_base.specs.Orphans.{with_file_removed}

-- ---- the names of files that wait

-- a name begins with the word `temp`
abbrev pub begins_temp : List ℕ → Bool
begins_temp name = if nat_lt (length name) 4 then false else (slice_index name 0 == 116) && ((slice_index name 1 == 101) && ((slice_index name 2 == 109) && (slice_index name 3 == 112)))

-- a decimal digit
abbrev pub is_digit : ℕ → Bool
is_digit unit = nat_lt 47 unit && nat_lt unit 58

-- digits of which the first is this one have no zero in front
abbrev pub is_led : ℕ → ℕ → Bool
is_led first many = (many == 1) || not (first == 48)

-- a decimal number of 64 digits or fewer
abbrev pub is_number : List ℕ → Bool
is_number digits = if length digits == 0 then false else if nat_lt 64 (length digits) then false else if not (is_led (slice_index digits 0) (length digits)) then false else list_all is_digit digits

-- a name is that word with such a number behind it
abbrev pub is_temp : List ℕ → Bool
is_temp name = if not (begins_temp name) then false else is_number (drop 4 name)

-- a file's own record, and no further name of it
abbrev pub is_own_record : CatRecord → Bool
is_own_record (Folder folder) = false
is_own_record (File file) = not (is_link_type file.fields)
is_own_record (Thread thread) = false

-- an entry of the private folder that waits to be removed
abbrev pub is_waiting : Child → Bool
is_waiting child = is_own_record child.rec && is_temp child.name

-- the lesser of what was found before and this CNID
abbrev pub lesser : Option ℕ → ℕ → ℕ
lesser None id = id
lesser (Some least) id = if nat_lt id least then id else least

-- what was found behind one entry more
abbrev pub found_next : Option ℕ → Child → Option ℕ
found_next found child = if is_waiting child then Some (lesser found (id_in child.rec)) else found

-- what was found behind all of these
abbrev pub found_among : Option ℕ → List Child → Option ℕ
found_among found [] = found
found_among found (child ∷ rest) = found_among (found_next found child) rest

-- ---- the entry that goes
-- The next step of reclaiming drops this entry: it is that of a file that lost its last name, and has neither blocks nor attributes.
pub record IsToDrop (shrunk : Option ℕ) (content : Content) (entry : Entry) : Type 0 where
  pub id : ℕ
  pub next : next_reclaim (volume_of content) shrunk ≡ Some (DropOrphan id)
  pub bare : IsBareOrphan id (volume_of content)
  pub parent : entry.parent ≡ bare.entry.parent
  pub name : entry.name ≡ bare.entry.name

-- The entry of a name in a folder isn't there any more, nor is its thread; the header counts a file less and was put.
pub record DropsFile (parent : ℕ) (name : List ℕ) (old new : Volume) (before after : Content) : Type 0 where
  pub removes : RemovesEntry parent name (lists_of old before).catalog_pairs (lists_of new after).catalog_pairs
  pub changes : ChangesCatalog old new before after
  pub header : new.header ≡ with_file_removed old.header
  pub headed : header_of_volume after ≡ new.header

-- The entry of such a file goes, in the lists of the content, and the tree is as it was.
pub record DropsWaiting (shrunk : Option ℕ) (before after : Content) : Type 0 where
  pub id : ℕ
  pub next : next_reclaim (volume_of before) shrunk ≡ Some (DropOrphan id)
  pub drops : DropsOrphanEntry id (volume_of before) (volume_of after)
  pub does : Does (DropOrphan id) (volume_of before) (volume_of after)
  pub tree : tree_of after ≡ tree_of before

-- An attribute of a file that waits goes, whose blocks are given back, in the lists of the content, and the tree is as it was.
pub record BaresWaiting (shrunk : Option ℕ) (before after : Content) : Type 0 where
  pub id : ℕ
  pub name : List ℕ
  pub next : next_reclaim (volume_of before) shrunk ≡ Some (DropAttribute id name)
  pub bares : InValues (DropsAttribute id name) [] (value_blocks (attributes_of (volume_of before)) id name) (volume_of before) (volume_of after)
  pub does : Does (DropAttribute id name) (volume_of before) (volume_of after)
  pub tree : tree_of after ≡ tree_of before

-- ---- what a step came to
-- a load for which no tree grows
abbrev pub grows_none : Cost → Bool
grows_none (cost.Refused why) = false
grows_none (cost.Load load grow) = (slice_index grow 0 == 0) && ((slice_index grow 1 == 0) && (slice_index grow 2 == 0))

-- a refusal
abbrev pub is_refused : Cost → Bool
is_refused (cost.Refused why) = true
is_refused (cost.Load load grow) = false

-- the edits of the drop of an entry, and of an attribute
abbrev pub drop_edits : Edits
drop_edits = record { ids = 0; catalog = 2; attributes = 0; updates = 1 }

abbrev pub bare_edits : Edits
bare_edits = record { ids = 0; catalog = 0; attributes = 1; updates = 1 }

-- the sectors that the drop of an attribute with this change of its value takes at most: of its edits, of the bitmap, and the header's
abbrev pub strip_load : ValueChange → Volume → ℕ
strip_load change volume = tree_load attributes_key (attributes_cost volume) (1 + change.records) 0 + (min (sectors_for (length volume.map.used)) change.freed + 1)

-- Nothing is missing for a step of reclaiming, and no tree has to grow for it.
pub record AffordsStep (capacity : ℕ) (content : Content) (step : Reclaim) : Type 0 where
  pub load : ℕ
  pub affords : reclaim_cost capacity (volume_of content) step ≡ cost.Load load (0 ∷ 0 ∷ 0 ∷ [])

-- The next step of reclaiming was made, and dropped an entry.
pub record HasDropped (capacity : ℕ) (shrunk : Option ℕ) (before after : Content) : Type 0 where
  pub waiting : DropsWaiting shrunk before after
  pub affords : AffordsStep capacity before (DropOrphan waiting.id)

-- It was made, and dropped an attribute.
pub record HasBared (capacity : ℕ) (shrunk : Option ℕ) (before after : Content) : Type 0 where
  pub waiting : BaresWaiting shrunk before after
  pub affords : AffordsStep capacity before (DropAttribute waiting.id waiting.name)

-- It was made, and cut a fork.
pub record HasCut (capacity : ℕ) (shrunk : Option ℕ) (before after : Content) : Type 0 where
  pub cuts : CutsFile shrunk before after
  pub affords : AffordsStep capacity before cuts.step

-- the next step was made
abbrev pub HasMade : ℕ → Option ℕ → Content → Content → Type 0
HasMade capacity shrunk before after = HasDropped capacity shrunk before after ⊎ (HasBared capacity shrunk before after ⊎ HasCut capacity shrunk before after)

-- So many sectors may be put behind a step, of those that could be before it: a cut puts no more than a cut puts at most, and a drop, where its cost is a
-- load, no more than that load.
abbrev pub PutsStep : ℕ → VolumeState → Reclaim → ℕ → ℕ → Type 0
PutsStep capacity volume (CutShrunk id) before after = before ≤ after + cut_puts (room_with capacity (free_blocks volume) volume)
PutsStep capacity volume (CutOrphan id kind) before after = before ≤ after + cut_puts (room_with capacity (free_blocks volume) volume)
PutsStep capacity volume (DropAttribute id name) before after = (load : ℕ) (grow : List ℕ) → reclaim_cost capacity volume (DropAttribute id name) ≡ cost.Load load grow → before ≤ after + load
PutsStep capacity volume (DropOrphan id) before after = (load : ℕ) (grow : List ℕ) → reclaim_cost capacity volume (DropOrphan id) ≡ cost.Load load grow → before ≤ after + load

-- nothing was put, or no more than the next step puts
abbrev pub PutsNext : ℕ → Option ℕ → VolumeState → ℕ → ℕ → Type 0
PutsNext capacity shrunk volume before after = (before ≤ after) ⊎ ((step : Reclaim) × (next_reclaim volume shrunk ≡ Some step) × PutsStep capacity volume step before after)

-- Where the cost of the next step is a load, no more was put than that load.
abbrev pub TakesNextLoad : ℕ → Option ℕ → VolumeState → ℕ → ℕ → Type 0
TakesNextLoad capacity shrunk volume before after =
    (step : Reclaim) (load : ℕ) (grow : List ℕ) → next_reclaim volume shrunk ≡ Some step → reclaim_cost capacity volume step ≡ cost.Load load grow → before ≤ after + load

-- where these blocks may be taken and so many sectors be put, there is too little room for a step: a cut may put more, and a drop isn't met by what it costs
abbrev pub IsShort : ℕ → List Bool → ℕ → VolumeState → Reclaim → Type 0
IsShort capacity free spare volume (CutShrunk id) = spare < cut_puts (room_with capacity (free_blocks volume) volume)
IsShort capacity free spare volume (CutOrphan id kind) = spare < cut_puts (room_with capacity (free_blocks volume) volume)
IsShort capacity free spare volume (DropAttribute id name) = is_met (reclaim_cost_with capacity free volume (DropAttribute id name)) spare ≡ false
IsShort capacity free spare volume (DropOrphan id) = is_met (reclaim_cost_with capacity free volume (DropOrphan id)) spare ≡ false

-- there is too little for the next step
abbrev pub IsNextShort : ℕ → Option ℕ → List Bool → ℕ → VolumeState → Type 0
IsNextShort capacity shrunk free spare volume = (step : Reclaim) × (next_reclaim volume shrunk ≡ Some step) × IsShort capacity free spare volume step

-- Made: the next step of reclaiming was made. Rest: nothing was changed, and nothing is left to reclaim, or the next step is held up. CommitFirst: nothing was changed,
-- and there is too little room for the next step.
abbrev pub TidiesAs : Tidying → ℕ → Option ℕ → List Bool → ℕ → Content → Content → Type 0
TidiesAs tidying.Rest capacity shrunk free spare before after = (after ≡ before) × IsAtRest capacity shrunk (volume_of before)
TidiesAs tidying.Made capacity shrunk free spare before after = HasMade capacity shrunk before after
TidiesAs tidying.CommitFirst capacity shrunk free spare before after = (after ≡ before) × IsNextShort capacity shrunk free spare (volume_of before)
