-- What the load of `write` and `trunc` counts where they put data.
use Rattle.std.proofs.Common.{◌≡◌, ◌<◌, ◌≤◌, ℕ, ◌+◌, ◌*◌, ◌/◌, min, Bool, false, List, length, sym, ◌∙◌, ap, subst, arith}
use Rattle.std.specs.Prelude.{Option, Some, if◌then◌else◌}
use Rattle.std.proofs.lemmas.Bool.{ne_eqb}
use Rattle.sector_disk.specs.Lists.{Content}
use Rattle.flag_rows.specs.Bits.{sectors_for}
use Rattle.flag_rows.specs.Runs.{fewest_of}
use Rattle.alloc_bitmap.specs.Map.{free_of}
use Rattle.hfs_language.specs.declared.command.Command.TheVariants as command
use Rattle.hfs_model.specs.declared.plain.PlainTree.{PlainTree}
use Rattle.hfs_volume.specs.Content.{VolumeState, volume_of}
use Rattle.hfs_volume.specs.Cost.{attributes_key, catalog_key, cost_of, extents_key, growth, load_of, overflow_records, plan_of, resource_refusal, takes_extent, tree_at, tree_load}
use Rattle.hfs_volume.specs.Forks.{data_kind, parts_for}
use Rattle.hfs_volume.specs.Weight.{Data, cut_cost, data_of, edits, extents_edits, file_extents, free_runs, needs_cut, needs_cut_in, needs_in, new_blocks_of, old_blocks_of, room_with, weight_with}
use Rattle.hfs_volume.specs.declared.cost.Cost.{Cost}
use Rattle.hfs_volume.specs.declared.cost.Cost.TheVariants as cost
use Rattle.hfs_volume.specs.declared.cost.Room.{Room}
use Rattle.volume_base.specs.Changing.{catalog_node}
use Rattle.volume_base.specs.Standing.{IsSettled}
use Rattle.volume_space.specs.Recording.{records_in}
use Rattle.volume_space.specs.Spreading.{cost_of_shape, edits_load}
use Rattle.volume_space.specs.Writing.{IsAt, blocks_put, data_load, fresh_blocks, fresh_runs, most_extents, records_load, records_load_in, spread_put_load}
use Rattle.volume_base.specs.declared.volume.Volume.{Volume}
use Rattle.volume_base.proofs.Loads.{load_is}
use Rattle.volume_space.proofs.EditsTaken.{load_grown, takes_none}
use Rattle.volume_space.proofs.PutMet.{some_fresh}
use Rattle.volume_space.proofs.PutNumbers.{fresh_is}

-- the sectors that updates and data put, of a volume with these free blocks
abbrev counted : List Bool → VolumeState → Data → ℕ
counted free volume put =
    1 + volume.catalog_tree.shape.node_size / 512
    + min (parts_for volume.head.total_blocks 4096) (new_blocks_of volume.head.block_size put / 4096 + 2 * fewest_of (new_blocks_of volume.head.block_size put) (free_runs free) + old_blocks_of volume.head.block_size put)

-- how many edits of the extents overflow file data needs
abbrev edits_needed : ℕ → List Bool → VolumeState → Data → ℕ
edits_needed k free volume put = extents_edits (length (file_extents volume put.id k)) (fewest_of (new_blocks_of volume.head.block_size put) (free_runs free)) (new_blocks_of volume.head.block_size put)

-- these edits are a part of what the load counts for the extents overflow file
edits_counted : (room : Room) (many : ℕ) → tree_load extents_key (tree_at room 0) many 0
    ≤ tree_load extents_key (tree_at room 0) (many + takes_extent (tree_at room 1) (growth room.block catalog_key (tree_at room 1) 0) + takes_extent (tree_at room 2) (growth room.block attributes_key (tree_at room 2) 0))
    (growth room.block extents_key (tree_at room 0) (many + takes_extent (tree_at room 1) (growth room.block catalog_key (tree_at room 1) 0) + takes_extent (tree_at room 2) (growth room.block attributes_key (tree_at room 2) 0)))
edits_counted room many = subst (λ n. tree_load extents_key (tree_at room 0) many 0 ≤ tree_load extents_key (tree_at room 0) n (growth room.block extents_key (tree_at room 0) n)) none (load_grown extents_key many (growth room.block extents_key (tree_at room 0) many) (tree_at room 0))
  where
    none : many ≡ many + takes_extent (tree_at room 1) (growth room.block catalog_key (tree_at room 1) 0) + takes_extent (tree_at room 2) (growth room.block attributes_key (tree_at room 2) 0)
    none = omega (arith, takes_none room.block catalog_key (tree_at room 1), takes_none room.block attributes_key (tree_at room 2))

data_counts : (k : ℕ) (free : List Bool) (capacity : ℕ) (volume : VolumeState) (put : Data) (n : ℕ) (grow : List ℕ) → cost_of (needs_in k free volume (edits 0 0 0 1) (Some put)) (room_with capacity free volume) ≡ cost.Load n grow
    → counted free volume put + tree_load extents_key (cost_of_shape volume.extents_tree.shape) (edits_needed k free volume put) 0 ≤ n
unfolding cost_of load_of room_with
data_counts k free capacity volume put n grow is =
    omega (
      arith,
      load_is (resource_refusal (needs_in k free volume (edits 0 0 0 1) (Some put)) (room_with capacity free volume) (plan_of (needs_in k free volume (edits 0 0 0 1) (Some put)) (room_with capacity free volume)))
          (load_of (needs_in k free volume (edits 0 0 0 1) (Some put)) (room_with capacity free volume) (plan_of (needs_in k free volume (edits 0 0 0 1) (Some put)) (room_with capacity free volume))) n _ grow is,
      edits_counted (room_with capacity free volume) (edits_needed k free volume put),
    )

abbrev put_cost : ℕ → ℕ → List Bool → VolumeState → Option Data → Cost
put_cost k capacity free volume d = if needs_cut_in k volume d then cut_cost (room_with capacity free volume) else cost_of (needs_in k free volume (edits 0 0 0 1) d) (room_with capacity free volume)

-- a put of so many edits, behind a change of the volume that leaves the extents overflow file
pub shape_load : (v u : Volume) → u ≡ record v { map = u.map } → (many : ℕ) → edits_load u.extents.file.shape many ≡ edits_load v.extents.file.shape many
shape_load v u rest many = ap (λ (x : Volume). edits_load x.extents.file.shape many) rest

pub most_load : (v : Volume) (records extents size from long most : ℕ) → most ≡ most_extents extents (fewest_of (blocks_put v size from long) (free_runs (free_of v.map))) → edits_load v.extents.file.shape (records + overflow_records most) ≡ spread_put_load v records extents size from long
most_load v records extents size from long most is = ap (λ n. edits_load v.extents.file.shape (records + overflow_records n)) is

-- data of a byte or more takes a block
pub some_data : (v : Volume) (put : Data) (size from long : ℕ) → IsAt put size from (from + long) → 0 < v.header.block_size → 0 < long → 0 < fresh_blocks v put
some_data v put size from long at some longer = subst (λ n. 0 < n) (sym (fresh_is put size from (from + long) v.header.block_size at some)) (some_fresh v.header.block_size size from long some longer)

module _ (k : ℕ) (v : Volume) (content : Content) (settled : IsSettled v content) (capacity : ℕ) (tree : PlainTree) (path : List (List ℕ)) (put : Data) (no_cut : needs_cut_in k (volume_of content) (Some put) ≡ false)
    (filled : records_in k (volume_of content) put.id ≡ overflow_records (length (file_extents (volume_of content) put.id k))) (some : 0 < fresh_blocks v put) (n : ℕ) (grow : List ℕ)
  where
    head_is : (volume_of content).head ≡ v.header
    head_is = ap (λ (l : VolumeState). l.head) settled.lists

    edits_are : edits_needed k (free_of v.map) (volume_of content) put ≡ records_in k (volume_of content) put.id + overflow_records (length (file_extents (volume_of content) put.id k) + 1 + fresh_runs v put)
    edits_are =
        (λ i. extents_edits (length (file_extents (volume_of content) put.id k)) (fewest_of (new_blocks_of (head_is i).block_size put) (free_runs (free_of v.map))) (new_blocks_of (head_is i).block_size put))
        ∙ ap (λ b. if b then 0 else overflow_records (length (file_extents (volume_of content) put.id k)) + overflow_records (length (file_extents (volume_of content) put.id k) + 1 + fresh_runs v put))
        (ne_eqb (fresh_blocks v put) 0 (λ none. absurd (omega (arith, none, some))))
        ∙ ap (λ n. n + overflow_records (length (file_extents (volume_of content) put.id k) + 1 + fresh_runs v put)) (sym filled)

    edits_same : tree_load extents_key (cost_of_shape (volume_of content).extents_tree.shape) (edits_needed k (free_of v.map) (volume_of content) put) 0 ≡ records_load_in k v (volume_of content) put
    edits_same = λ i. edits_load (ap (λ (l : VolumeState). l.extents_tree.shape) settled.lists i) (edits_are i)

    loaded : counted (free_of v.map) (volume_of content) put + tree_load extents_key (cost_of_shape (volume_of content).extents_tree.shape) (edits_needed k (free_of v.map) (volume_of content) put) 0 ≤ n → data_load v put + records_load_in k v (volume_of content) put ≤ n
    loaded low = omega (
      arith,
      low,
      load_same,
      edits_same,
    )
      where
        load_same : counted (free_of v.map) (volume_of content) put ≡ data_load v put
        load_same =
            (λ i. 1 + ap (λ (l : VolumeState). l.catalog_tree.shape.node_size / 512) settled.lists i
            + min (parts_for (head_is i).total_blocks 4096) (new_blocks_of (head_is i).block_size put / 4096 + 2 * fewest_of (new_blocks_of (head_is i).block_size put) (free_runs (free_of v.map)) + old_blocks_of (head_is i).block_size put))
            ∙ ap (λ n. 1 + catalog_node v + min n (new_blocks_of v.header.block_size put / 4096 + 2 * fewest_of (new_blocks_of v.header.block_size put) (free_runs (free_of v.map)) + old_blocks_of v.header.block_size put))
            (let sizes : parts_for v.header.total_blocks 4096 ≡ sectors_for (length v.map.used) = omega (arith, settled.blocks) in sizes)

    pub by_cost : (d : Option Data) → d ≡ Some put → put_cost k capacity (free_of v.map) (volume_of content) d ≡ cost.Load n grow → data_load v put + records_load_in k v (volume_of content) put ≤ n
    by_cost d has is =
        loaded (data_counts k (free_of v.map) capacity (volume_of content) put n grow
        (sym (ap (λ b. if b then cut_cost (room_with capacity (free_of v.map) (volume_of content)) else cost_of (needs_in k (free_of v.map) (volume_of content) (edits 0 0 0 1) (Some put)) (room_with capacity (free_of v.map) (volume_of content))) no_cut)
        ∙ sym (ap (λ (o : Option Data). put_cost k capacity (free_of v.map) (volume_of content) o) has) ∙ is))

-- the same of a command on a data fork
module _ (v : Volume) (content : Content) (settled : IsSettled v content) (capacity : ℕ) (tree : PlainTree) (path : List (List ℕ)) (put : Data) (no_cut : needs_cut (volume_of content) (Some put) ≡ false)
    (filled : records_in data_kind (volume_of content) put.id ≡ overflow_records (length (file_extents (volume_of content) put.id data_kind))) (some : 0 < fresh_blocks v put) (n : ℕ) (grow : List ℕ)
  where
    pub write_loaded : (from : ℕ) (value : List ℕ) → data_of tree (command.Write path from value) ≡ Some put → weight_with capacity (free_of v.map) (volume_of content) tree (command.Write path from value) ≡ cost.Load n grow → data_load v put + records_load v (volume_of content) put ≤ n
    unfolding weight_with
    write_loaded from value has is = by_cost data_kind v content settled capacity tree path put no_cut filled some n grow (data_of tree (command.Write path from value)) has is

    pub trunc_loaded : (size : ℕ) → data_of tree (command.Trunc path size) ≡ Some put → weight_with capacity (free_of v.map) (volume_of content) tree (command.Trunc path size) ≡ cost.Load n grow → data_load v put + records_load v (volume_of content) put ≤ n
    unfolding weight_with
    trunc_loaded size has is = by_cost data_kind v content settled capacity tree path put no_cut filled some n grow (data_of tree (command.Trunc path size)) has is
