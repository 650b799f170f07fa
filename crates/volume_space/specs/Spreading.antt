-- The extents of a fork, of which those behind the eight of its record stand in overflow records.
use Rattle.std.specs.Prelude.{◌≡◌, ◌<◌, ℕ, ◌==◌, ◌&&◌, Bool, false, not, nat_le, List, [], ◌∷◌, slice_index, ◌≤◌, ◌*◌, ◌/◌, min, true}
use Rattle.overflow.specs.Room.{changes_for, edits_for}
use Rattle.overflow.specs.Changes.{are_light}
use Rattle.btree_edit.specs.Editing.{edit_writes}
use Rattle.btree_node.specs.Store.{Store}
use Rattle.std.specs.List.{Contains}
use Rattle.hx_bytes.specs.declared.extents.Extent.{Extent}
use Rattle.hx_bytes.specs.declared.extents.ForkRecord.{ForkRecord}
use Rattle.fork_map.specs.Blocks.{blocks_of}
use Rattle.jnl_format.specs.Recovery.{header_of_volume}
use Rattle.sector_disk.specs.Lists.{Content}
use Rattle.sector_disk.specs.Space.{AgreesOutside}
use Rattle.btree_file.specs.State.{sectors_of_tree}
use Rattle.btree_node.specs.declared.store.TreeShape.{TreeShape}
use Rattle.hfs_model.specs.Sorted.{kept}
use Rattle.hfs_volume.specs.Blocks.{GoesOn, LieInside}
use Rattle.hfs_volume.specs.Content.{overflow_in_volume}
use Rattle.hfs_volume.specs.Cost.{extents_key, tree_load}
use Rattle.hfs_volume.specs.Forks.{extents_of, is_of}
use Rattle.hfs_volume.specs.declared.cost.Cost.{Cost}
use Rattle.hfs_volume.specs.declared.cost.Cost.TheVariants as cost
use Rattle.hfs_volume.specs.declared.cost.Needs.{Needs}
use Rattle.hfs_volume.specs.declared.cost.TreeCost.{TreeCost}
use Rattle.hfs_volume.specs.Records.{Overflow}
use Rattle.overflow.specs.Records.{eight_at}
use Rattle.volume_base.specs.Lists.{lists_of, facts_on}
use Rattle.volume_base.specs.Trees.{IsSameFile}
use Rattle.volume_base.specs.declared.volume.Volume.{Volume}
use Rattle.volume_base.specs.Spreading.{StoresFork}

-- The overflow records of a fork are those for these extents, and nothing else of the volume is changed; the header wasn't put.
pub record StoresExtents (id kind : ℕ) (extents : List Extent) (old new : Volume) (before after : Content) : Type 0 where
  pub stores : StoresFork id kind extents (lists_of old before).overflow_pairs (lists_of new after).overflow_pairs
  pub lists : lists_of new after ≡ record (lists_of old before) { overflow_pairs = (lists_of new after).overflow_pairs; extents_tree = facts_on new.extents.file }
  pub rest : new ≡ record old { extents = new.extents }
  pub file : IsSameFile old.extents.file new.extents.file
  pub headed : header_of_volume after ≡ header_of_volume before
  pub outside : AgreesOutside (λ s. Contains (sectors_of_tree old.extents.file) s) before after

-- A fork has these blocks by its record and its overflow records, which go on behind it, and all other overflow records are as they were.
pub record HoldsFork (id kind : ℕ) (fork : ForkRecord) (more : List Extent) (old new : List Overflow) : Type 0 where
  pub blocks : blocks_of (extents_of new id kind fork) ≡ blocks_of more
  pub goes_on : GoesOn new (record { id = id; kind = kind; fork = fork })
  pub inside : (total : ℕ) → ((block : ℕ) → Contains (blocks_of more) block → block < total) → LieInside total fork.extents.extents
  pub others : kept (λ one. not (is_of id kind one)) new ≡ kept (λ one. not (is_of id kind one)) old

-- The overflow records of a file's fork go with a record that has the first eight of these extents, and nothing else of the volume is changed; the
-- header wasn't put.
pub record SpreadsExtents (id kind : ℕ) (more : List Extent) (old new : Volume) (before after : Content) : Type 0 where
  pub holds : (fork : ForkRecord) → fork.extents ≡ eight_at more 0 → HoldsFork id kind fork more (overflow_in_volume (lists_of old before)) (overflow_in_volume (lists_of new after))
  pub lists : lists_of new after ≡ record (lists_of old before) { overflow_pairs = (lists_of new after).overflow_pairs; extents_tree = facts_on new.extents.file }
  pub rest : new ≡ record old { extents = new.extents }
  pub file : IsSameFile old.extents.file new.extents.file
  pub outside : AgreesOutside (λ s. Contains (sectors_of_tree old.extents.file) s) before after

-- what so many edits of the extents overflow file need
abbrev pub needs_extents : ℕ → Needs
needs_extents edits = record { ids = 0; edits = edits ∷ 0 ∷ 0 ∷ []; updates = 0; new_blocks = 0; old_blocks = 0; runs = 0 }

-- this is a load that so many sectors suffice for, without growth of the extents overflow file
abbrev pub is_met_extents : Cost → ℕ → Bool
is_met_extents (cost.Refused why) spare = false
is_met_extents (cost.Load load grow) spare = (slice_index grow 0 == 0) && nat_le load spare

-- the numbers of a tree of this shape that a load of edits looks at
abbrev pub cost_of_shape : TreeShape → TreeCost
cost_of_shape shape = record { node_size = shape.node_size; depth = shape.depth; records = shape.leaf_records; nodes = shape.total; unused = shape.free; map_bits = 0; extents = 0 }

-- the sectors that so many edits of an extents overflow file of this shape put at most, where it doesn't grow
abbrev pub edits_load : TreeShape → ℕ → ℕ
edits_load shape edits = tree_load extents_key (cost_of_shape shape) edits 0

-- The changes that make a fork's overflow records those for other extents add no record, and are no more than so many.
abbrev pub ChangesFew : ℕ → Store → ℕ → ℕ → List Extent → Type 0
ChangesFew most store id kind new = (are_light (changes_for store id kind new) ≡ true) × (edits_for store id kind new ≤ most)

-- the sectors that so many changes put at most in a tree of this shape, where they add no record
abbrev pub light_load : TreeShape → ℕ → ℕ
light_load shape changes = shape.node_size / 512 * min (changes * edit_writes shape.depth) shape.total
