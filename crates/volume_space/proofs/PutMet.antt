-- Where a put of data is met by what it costs of the blocks that may be taken, it is one that can be made now.
use Rattle.std.proofs.Common.{◌≡◌, ◌≢◌, ◌⊎◌, ◌<◌, ◌≤◌, ℕ, ◌+◌, ◌-◌, ◌*◌, ◌/◌, ◌==◌, ◌&&◌, ◌||◌, not, min, nat_le, Bool, true, false, List, length, refl, sym, ◌∙◌, ap, arith}
use Rattle.std.specs.Prelude.{nat_lt, slice_index, Option, None, Some, if◌then◌else◌}
use Rattle.std.proofs.lemmas.Bool.{and_parts, eqb-true, leb-true, le-leb, ltb-false, ne_eqb, not-true, true≢false}
use Rattle.std.proofs.lemmas.Nat.{div_below}
use Rattle.sector_disk.specs.Lists.{Content}
use Rattle.volume_header.specs.declared.header.VolumeHeader.{VolumeHeader}
use Rattle.flag_rows.specs.Bits.{count_set, sectors_for}
use Rattle.flag_rows.specs.Runs.{fewest_of}
use Rattle.alloc_bitmap.specs.Map.{free_of}
use Rattle.cat_records.specs.declared.record.FileRecord.{FileRecord}
use Rattle.file_io.specs.Places.{blocks_for, first_block, new_blocks, old_end}
use Rattle.file_io.proofs.PlaceLaws.{blocks_hold}
use Rattle.hfs_volume.specs.Content.{VolumeState, records_of, volume_of}
use Rattle.hfs_volume.specs.Cost.{cost_of, depth_of, extents_key, load_of, overflow_records, plan_of, rises, tree_at}
use Rattle.hfs_volume.specs.Forks.{data_kind, parts_for, resource_kind}
use Rattle.hfs_volume.specs.Weight.{Data, extents_edits, file_extents, free_runs, needs_cut_in, new_blocks_of, old_blocks_of, room_with}
use Rattle.hfs_volume.specs.declared.cost.Cost.{Cost}
use Rattle.hfs_volume.specs.declared.cost.Cost.TheVariants as cost
use Rattle.hfs_volume.specs.declared.cost.Needs.{Needs}
use Rattle.hfs_volume.specs.declared.cost.Room.{Room}
use Rattle.tree_weights.specs.Weights.{LoadSaysEnough}
use Rattle.volume_base.specs.Cutting.{fork_at}
use Rattle.volume_base.specs.Changing.{catalog_node}
use Rattle.volume_base.specs.DataWeighing.{needs_data_in}
use Rattle.volume_base.specs.Reading.{HasFile}
use Rattle.volume_base.specs.Standing.{IsSettled}
use Rattle.volume_base.specs.declared.volume.Volume.{Volume}
use Rattle.volume_space.specs.Recording.{records_in}
use Rattle.volume_space.specs.Spreading.{is_met_extents}
use Rattle.volume_space.specs.Writing.{IsAt, blocks_put, can_put, cost_to_put, extents_in, has_more, is_data_met_in, is_put_met, may_overflow, needs_of_put, put_load}
use Rattle.volume_space.proofs.ExtentRoom.{third_false}
use Rattle.volume_space.proofs.HeldRecords.{held_is}
use Rattle.volume_space.proofs.PutAlike.{IsAlike}
use Rattle.volume_space.proofs.PutNumbers.{freed_is, fresh_is}
use Rattle.volume_space.proofs.PutWhere.{many, surplus}

-- ---- what a cost says that is met

-- it is a load that suffices
pub record IsMetBy (c : Cost) (spare : ℕ) : Type 0 where
  pub load : ℕ
  pub grow : List ℕ
  pub is : c ≡ cost.Load load grow
  pub enough : load ≤ spare

pub met_by : (c : Cost) (spare : ℕ) → is_met_extents c spare ≡ true → IsMetBy c spare
met_by (cost.Refused why) spare ok = absurd (true≢false (sym ok))
met_by (cost.Load load grow) spare ok = record { load = load; grow = grow; is = refl; enough = leb-true load spare (and_parts (slice_index grow 0 == 0) (nat_le load spare) ok).1 }

module _ (says : LoadSaysEnough) (records fresh freed runs : ℕ) where
  -- its edits have 32 bits
  pub edits_low : (room : Room) (spare : ℕ) → is_met_extents (cost_of (needs_of_put records fresh freed runs) room) spare ≡ true → records ≤ 4294967295
  edits_low room spare ok = by (edits_at == 0) refl
    where
      needs : Needs
      needs = needs_of_put records fresh freed runs

      edits_at : ℕ
      edits_at = slice_index (plan_of needs room).edits 0

      by : (b : Bool) → (slice_index (plan_of (needs_of_put records fresh freed runs) room).edits 0 == 0) ≡ b → records ≤ 4294967295
      by true none = omega (arith, eqb-true (slice_index (plan_of (needs_of_put records fresh freed runs) room).edits 0) 0 none)
      by false some =
          let met = met_by (cost_of (needs_of_put records fresh freed runs) room) spare ok in
          let afforded = says (needs_of_put records fresh freed runs) room met.load met.grow met.is in
          let all = slice_index (plan_of (needs_of_put records fresh freed runs) room).edits 0 in
          let tree = tree_at room 0 in
          omega (
            arith,
            ltb-false 4294967295 (tree.records + all) (third_false (nat_le 8 tree.depth) (nat_lt 11 (depth_of tree + 1 + rises extents_key tree all)) (nat_lt 4294967295 (tree.records + all))
                (sym (ap (λ b. not b && (nat_le 8 tree.depth || nat_lt 11 (depth_of tree + 1 + rises extents_key tree all) || nat_lt 4294967295 (tree.records + all))) some) ∙ afforded.extents)),
          )

  -- there are as many free blocks
  pub blocks_there : (capacity : ℕ) (free : List Bool) (volume : VolumeState) (spare : ℕ) → is_met_extents (cost_of (needs_of_put records fresh freed runs) (room_with capacity free volume)) spare ≡ true → fresh ≤ count_set free
  unfolding room_with
  blocks_there capacity free volume spare ok =
      let met = met_by (cost_of (needs_of_put records fresh freed runs) (room_with capacity free volume)) spare ok in
      omega (arith, (says (needs_of_put records fresh freed runs) (room_with capacity free volume) met.load met.grow met.is).blocks)

  -- and room for the header, the record and the bitmap
  pub sectors_there : (capacity : ℕ) (free : List Bool) (volume : VolumeState) (spare : ℕ) → is_met_extents (cost_of (needs_of_put records fresh freed runs) (room_with capacity free volume)) spare ≡ true
      → 1 + volume.catalog_tree.shape.node_size / 512 + min (parts_for volume.head.total_blocks 4096) (fresh / 4096 + 2 * runs + freed) ≤ spare
  unfolding load_of room_with
  sectors_there capacity free volume spare ok =
      let met = met_by (cost_of (needs_of_put records fresh freed runs) (room_with capacity free volume)) spare ok in
      omega (arith, met.enough, (says (needs_of_put records fresh freed runs) (room_with capacity free volume) met.load met.grow met.is).sectors)

module _ (says : LoadSaysEnough) (v : Volume) (content : Content) (settled : IsSettled v content) (spare records extents total size from long : ℕ) (ok : is_put_met v (volume_of content) spare records extents total size from long ≡ true) where
  abbrev fresh : ℕ
  fresh = blocks_put v size from long

  abbrev freed : ℕ
  freed = old_end v.header.block_size size (from + long) - first_block v.header.block_size size from

  abbrev runs : ℕ
  runs = fewest_of (blocks_put v size from long) (free_runs (free_of v.map))

  parts : (not (has_more size (from + long) (blocks_for v.header.block_size size) total) ≡ true) × (is_met_extents (cost_to_put v (volume_of content) records extents (blocks_put v size from long) (old_end v.header.block_size size (from + long) - first_block v.header.block_size size from) (fewest_of (blocks_put v size from long) (free_runs (free_of v.map)))) spare ≡ true)
  parts = and_parts (not (has_more size (from + long) (blocks_for v.header.block_size size) total)) (is_met_extents (cost_to_put v (volume_of content) records extents (blocks_put v size from long) (old_end v.header.block_size size (from + long) - first_block v.header.block_size size from) (fewest_of (blocks_put v size from long) (free_runs (free_of v.map)))) spare) ok

  pub no_cut_met : has_more size (from + long) (blocks_for v.header.block_size size) total ≡ false
  no_cut_met = not-true (has_more size (from + long) (blocks_for v.header.block_size size) total) parts.0

  pub cost_met : is_met_extents (cost_to_put v (volume_of content) records extents (blocks_put v size from long) (old_end v.header.block_size size (from + long) - first_block v.header.block_size size from) (fewest_of (blocks_put v size from long) (free_runs (free_of v.map)))) spare ≡ true
  cost_met = parts.1

  pub blocks_met : blocks_put v size from long ≤ count_set (free_of v.map)
  blocks_met = blocks_there says (records + overflow_records (extents + 1 + runs)) fresh freed runs v.capacity (free_of v.map) (volume_of content) spare parts.1

  pub load_met : put_load v size from long ≤ spare
  load_met = omega (
    arith,
    sectors_there says (records + overflow_records (extents + 1 + runs)) fresh freed runs v.capacity (free_of v.map) (volume_of content) spare parts.1,
    same,
  )
    where
      sizes : parts_for v.header.total_blocks 4096 ≡ sectors_for (length v.map.used)
      sizes = omega (arith, settled.blocks)

      same : 1 + (volume_of content).catalog_tree.shape.node_size / 512 + min (parts_for (volume_of content).head.total_blocks 4096) (blocks_put v size from long / 4096 + 2 * fewest_of (blocks_put v size from long) (free_runs (free_of v.map)) + (old_end v.header.block_size size (from + long) - first_block v.header.block_size size from)) ≡ put_load v size from long
      same =
          (λ i. 1 + ap (λ (l : VolumeState). l.catalog_tree.shape.node_size / 512) settled.lists i + min (parts_for (ap (λ (l : VolumeState). l.head.total_blocks) settled.lists i) 4096) (blocks_put v size from long / 4096 + 2 * fewest_of (blocks_put v size from long) (free_runs (free_of v.map)) + (old_end v.header.block_size size (from + long) - first_block v.header.block_size size from)))
          ∙ ap (λ k. 1 + catalog_node v + min k (blocks_put v size from long / 4096 + 2 * fewest_of (blocks_put v size from long) (free_runs (free_of v.map)) + (old_end v.header.block_size size (from + long) - first_block v.header.block_size size from))) sizes

  -- it can be put, where its record holds the extents that it may get
  pub flat_met : may_overflow extents (fewest_of (blocks_put v size from long) (free_runs (free_of v.map))) ≡ false → can_put v spare extents total size from long ≡ true
  flat_met flat = λ i. (not (no_cut_met i)) && (le-leb (blocks_put v size from long) (count_set (free_of v.map)) blocks_met i && (le-leb (put_load v size from long) spare load_met i && not (flat i)))

-- it is met or it isn't
pub not_met : (b : Bool) → (b ≡ true → ⊥) → b ≡ false
not_met b never = is_false
  where
    by : (d : Bool) → b ≡ d → b ≡ false
    by true is = absurd (never is)
    by false is = is

    is_false : b ≡ false
    is_false = by b refl

-- what is so neither where a test fails nor where it passes isn't so
pub not_put : (b : Bool) → (b ≡ false → ⊥) → (b ≡ true → ⊥) → ⊥
not_put b unless_false unless_true = by b refl
  where
    by : (d : Bool) → b ≡ d → ⊥
    by true is = unless_true is
    by false is = unless_false is

-- ---- behind a read or a keep

pub met_alike : (v u : Volume) → IsAlike v u → u.capacity ≡ v.capacity → (lists was : VolumeState) → lists ≡ was → (spare_then spare records_then records extents_then extents total size from long : ℕ) → spare_then ≡ spare → records_then ≡ records → extents_then ≡ extents
    → is_put_met u lists spare_then records_then extents_then total size from long ≡ is_put_met v was spare records extents total size from long
met_alike v u like capacity lists was same spare_then spare records_then records extents_then extents total size from long spares counts manys =
    λ i. not (has_more size (from + long) (blocks_for (like.header i).block_size size) total)
    && is_met_extents (cost_of (needs_of_put (counts i + overflow_records (manys i + 1 + fewest_of (put i) (free_runs (free i)))) (put i) (freed i) (fewest_of (put i) (free_runs (free i)))) (room_with (capacity i) (free i) (same i))) (spares i)
  where
    free : free_of u.map ≡ free_of v.map
    free = λ i. free_of (record u.map { used = like.used i; held = like.held i })

    put : blocks_put u size from long ≡ blocks_put v size from long
    put = ap (λ (h : VolumeHeader). new_blocks h.block_size size from (from + long)) like.header

    freed : old_end u.header.block_size size (from + long) - first_block u.header.block_size size from ≡ old_end v.header.block_size size (from + long) - first_block v.header.block_size size from
    freed = ap (λ (h : VolumeHeader). old_end h.block_size size (from + long) - first_block h.block_size size from) like.header

pub data_met_alike : (k : ℕ) (v u : Volume) → IsAlike v u → u.capacity ≡ v.capacity → (spare : ℕ) (lists : VolumeState) (o : Option Data) → is_data_met_in k u spare lists o ≡ is_data_met_in k v spare lists o
data_met_alike k v u like capacity spare lists None = refl
data_met_alike k v u like capacity spare lists (Some put) =
    λ i. not (needs_cut_in k lists (Some put)) && is_met_extents (cost_of (needs_data_in k (free i) lists put) (room_with (capacity i) (free i) lists)) spare
  where
    free : free_of u.map ≡ free_of v.map
    free = λ i. free_of (record u.map { used = like.used i; held = like.held i })

-- ---- the data of a command

-- some bytes take a block at least
pub some_fresh : (block size from long : ℕ) → 0 < block → 0 < long → 0 < new_blocks block size from (from + long)
some_fresh block size from long some longer =
    let before = div_below (min from size) block (blocks_for block (from + long)) some (omega (arith, blocks_hold block (from + long) some, longer)) in
    omega (arith, before)

module _ (k : ℕ) (is_kind : (k ≡ data_kind) ⊎ (k ≡ resource_kind)) (v : Volume) (content : Content) (settled : IsSettled v content) (file : FileRecord) (has : HasFile (records_of (volume_of content)) file)
    (put : Data) (from long : ℕ) (number : put.id ≡ file.fields.id) (at : IsAt put (fork_at k file).logical_size from (from + long)) (some : 0 < v.header.block_size) (longer : 0 < long)
  where
    head_is : (volume_of content).head ≡ v.header
    head_is = ap (λ (l : VolumeState). l.head) settled.lists

    fresh_are : new_blocks_of (volume_of content).head.block_size put ≡ blocks_put v (fork_at k file).logical_size from long
    fresh_are = ap (λ (h : VolumeHeader). new_blocks_of h.block_size put) head_is ∙ fresh_is put (fork_at k file).logical_size from (from + long) v.header.block_size at some

    freed_are : old_blocks_of (volume_of content).head.block_size put ≡ old_end v.header.block_size (fork_at k file).logical_size (from + long) - first_block v.header.block_size (fork_at k file).logical_size from
    freed_are = ap (λ (h : VolumeHeader). old_blocks_of h.block_size put) head_is ∙ freed_is put (fork_at k file).logical_size from (from + long) v.header.block_size at some

    edits_are : (runs : ℕ)
        → extents_edits (length (file_extents (volume_of content) put.id k)) runs (blocks_put v (fork_at k file).logical_size from long)
        ≡ records_in k (volume_of content) file.fields.id + overflow_records (length (extents_in k content file) + 1 + runs)
    edits_are runs =
        ap (λ b. if b then 0 else overflow_records (length (file_extents (volume_of content) put.id k)) + overflow_records (length (file_extents (volume_of content) put.id k) + 1 + runs))
        (ne_eqb (blocks_put v (fork_at k file).logical_size from long) 0 (λ none. absurd (omega (arith, none, some_fresh v.header.block_size (fork_at k file).logical_size from long some longer))))
        ∙ (λ i. overflow_records (sym (many k is_kind v content settled file has put from long number at some) i) + overflow_records (sym (many k is_kind v content settled file has put from long number at some) i + 1 + runs))
        ∙ ap (λ n. n + overflow_records (length (extents_in k content file) + 1 + runs)) (sym (held_is k is_kind v content settled file has))

    pub data_is_met : (spare : ℕ) → is_data_met_in k v spare (volume_of content) (Some put) ≡ true
        → is_put_met v (volume_of content) spare (records_in k (volume_of content) file.fields.id) (length (extents_in k content file)) (fork_at k file).total_blocks (fork_at k file).logical_size from long ≡ true
    data_is_met spare ok =
        let one = and_parts (not (needs_cut_in k (volume_of content) (Some put))) (is_met_extents (cost_of (needs_data_in k (free_of v.map) (volume_of content) put) (room_with v.capacity (free_of v.map) (volume_of content))) spare) ok in
        let free = free_of v.map in
        (λ i. not (surplus k is_kind v content settled file has put from long number at some i)
        && is_met_extents (cost_of (needs_of_put
        (sym (edits_are (fewest_of (blocks_put v (fork_at k file).logical_size from long) (free_runs free))) i) (blocks_put v (fork_at k file).logical_size from long)
        (sym freed_are i) (fewest_of (blocks_put v (fork_at k file).logical_size from long) (free_runs free))) (room_with v.capacity free (volume_of content))) spare)
        ∙ (λ i. one.0 i
        && is_met_extents (cost_of (needs_of_put
        (extents_edits (length (file_extents (volume_of content) put.id k)) (fewest_of (sym fresh_are i) (free_runs free)) (sym fresh_are i)) (sym fresh_are i)
        (old_blocks_of (volume_of content).head.block_size put) (fewest_of (sym fresh_are i) (free_runs free))) (room_with v.capacity free (volume_of content))) spare)
        ∙ one.1
