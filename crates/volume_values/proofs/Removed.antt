-- An attribute of a settled volume that goes: how many records it has, what its drop takes, and what the trade of its blocks takes.
use Rattle.std.proofs.Common.{◌≡◌, ◌≤◌, ℕ, ◌+◌, List, length, map, refl, sym, ◌∙◌, ap, subst, arith}
use Rattle.hx_bytes.specs.declared.extents.Extent.{Extent}
use Rattle.fork_map.specs.Blocks.{blocks_of}
use Rattle.alloc_bitmap.specs.Map.{free_of, none}
use Rattle.attributes.specs.Values.{extents_at, records_at}
use Rattle.btree_node.specs.Levels.{Pair}
use Rattle.flag_rows.specs.Bits.{count_set, sectors_for}
use Rattle.hfs_volume.specs.Changes.{AreSortedAttributes}
use Rattle.hfs_volume.specs.Content.{VolumeState, attributes_of, volume_of}
use Rattle.hfs_volume.specs.Cost.{attributes_key, overflow_records, tree_load}
use Rattle.hfs_volume.specs.Records.{attribute_of}
use Rattle.hfs_volume.specs.Values.{value_blocks}
use Rattle.hfs_volume.specs.Weight.{runs_for, value_change}
use Rattle.hfs_volume.specs.declared.cost.ValueChange.{ValueChange}
use Rattle.sector_disk.specs.Lists.{Content}
use Rattle.volume_base.specs.Attributing.{attributes_cost, runs_taken, value_edits, value_load}
use Rattle.volume_base.specs.Changing.{catalog_node}
use Rattle.volume_base.specs.Giving.{trade_load}
use Rattle.volume_base.specs.Lists.{lists_of}
use Rattle.volume_base.specs.Standing.{HoldsTrees, IsSettled}
use Rattle.volume_base.specs.declared.volume.Volume.{Volume}
use Rattle.volume_base.proofs.OwnedChange.{settled_valued}
use Rattle.volume_base.proofs.Rising.{settled_attributes_sorted}
use Rattle.volume_base.proofs.ValueFreed.{freed_is}
use Rattle.volume_base.proofs.ValueRecords.{records_at_few}
use Rattle.volume_space.proofs.GrownBits.{none_set}
use Rattle.volume_values.proofs.ValueLoads.{trade_counted}

-- an attribute has a record, and those that go on with its value
pub few_records : (u : Volume) (content : Content) → HoldsTrees u content → IsSettled u content → (id : ℕ) (name : List ℕ) (change : ValueChange) (blocks : ℕ) → change ≡ value_change (volume_of content) id name blocks
    → records_at (lists_of u content).attribute_pairs id name ≤ change.records + 1
few_records u content holds settled id name change blocks is =
    let pairs_are : (volume_of content).attribute_pairs ≡ (lists_of u content).attribute_pairs = ap (λ (l : VolumeState). l.attribute_pairs) settled.lists in
    let few = records_at_few (lists_of u content).attribute_pairs (subst AreSortedAttributes pairs_are (settled_attributes_sorted u content holds settled)) (settled_valued u content settled) id name in
    let further : change.records ≡ overflow_records (length (extents_at (lists_of u content).attribute_pairs id name)) =
    ap (λ (c : ValueChange). c.records) is ∙ ap (λ (l : List Pair). overflow_records (length (extents_at l id name))) pairs_are in
    omega (arith, few, further)

-- nothing was changed of the bitmap
pub none_changed : (v : Volume) → v.map.changed ≡ none (sectors_for (length v.map.used)) → count_set v.map.changed ≤ 0
none_changed v unchanged = omega (arith, ap count_set unchanged, none_set (sectors_for (length v.map.used)))

-- its records are as many as are counted
pub most_removed : (u : Volume) (change : ValueChange) → change.blocks ≡ 0 → value_edits 1 change (runs_taken u change) ≡ change.records + 1
most_removed u change untaken =
    let runs : runs_taken u change ≡ 0 = ap (λ n. runs_for n (free_of u.map)) untaken in
    let further : overflow_records (runs_taken u change) ≡ 0 = ap overflow_records runs in
    omega (arith, further)

-- what is put then is counted
pub load_removed : (u v : Volume) (content : Content) → IsSettled u content → (id : ℕ) (name : List ℕ) (change : ValueChange) → change ≡ value_change (volume_of content) id name 0 → (old : List Extent) → old ≡ extents_at (lists_of u content).attribute_pairs id name
    → v ≡ record u { attributes = v.attributes } → tree_load attributes_key (attributes_cost u) (change.records + 1) 0 + (trade_load 0 old v + catalog_node v) ≤ value_load 1 change u
load_removed u v content settled id name change is old old_is rest =
    let untaken : change.blocks ≡ 0 = ap (λ (c : ValueChange). c.blocks) is in
    let freed : change.freed ≡ length (blocks_of old) = ap (λ (c : ValueChange). c.freed) is ∙ ap (λ (l : List ℕ). length l) (sym (freed_is u content settled id name)) ∙ ap (λ (l : List Extent). length (blocks_of l)) (sym old_is) in
    let traded = trade_counted u v change (runs_taken u change) 0 old (map attribute_of (lists_of u content).attribute_pairs) id name old_is freed (ap (λ (x : Volume). length x.map.used) rest) (λ none_. refl) (omega arith) in
    let edits = ap (λ n. tree_load attributes_key (attributes_cost u) n 0) (most_removed u change untaken) in
    let node = ap (λ (x : Volume). catalog_node x) rest in
    omega (arith, traded, edits, node)
