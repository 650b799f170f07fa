use Rattle.std.proofs.Common.{◌≡◌, ◌<◌, ◌≤◌, ℕ, ◌+◌, List, length, take, sym, ◌∙◌, ap, subst, arith}
use Rattle.std.specs.Prelude.{IfOk, OnOk}
use Rattle.alloc_bitmap.specs.Map.{BlockMap, free_of}
use Rattle.file_io.specs.Bytes.{IsBlockSize, fork_bytes, sectors_in}
use Rattle.file_io.specs.Places.{first_block, fresh_of, new_blocks, old_end, taken}
use Rattle.file_io.specs.Touching.{IsOneOf, SpillsIn}
use Rattle.flag_rows.specs.Bits.{count_set}
use Rattle.flag_rows.specs.Runs.{fewest_of}
use Rattle.fork_map.specs.Blocks.{blocks_of}
use Rattle.hfs_volume.specs.Forks.{parts_for}
use Rattle.hfs_volume.specs.Weight.{free_runs}
use Rattle.hx_bytes.specs.declared.extents.Extent.{Extent}
use Rattle.volume_base.proofs.Seeing.{if_so}
use Rattle.volume_space.proofs.PutBits.{taken_runs}
use Rattle.volume_space.proofs.Spilled.{may_spill}
use Rattle.volume_space.proofs.ValueSpilled.{blocks_alone, bytes_alone, extents_alone, long_alone, map_alone, new_alone}
use Rattle.volume_space.proofs.valuing.spill_value.Goals as goal

pub spill-requires-clause-block : goal.spill-requires-clause-block
spill-requires-clause-block g c =
    (c.is_sure.ensures c.if-not-is_sure.false).block

pub spill-requires-clause-inside : goal.spill-requires-clause-inside
spill-requires-clause-inside g c =
    (c.is_sure.ensures c.if-not-is_sure.false).inside

pub spill-requires-clause-holds_size : goal.spill-requires-clause-holds_size
spill-requires-clause-holds_size g c =
    (c.is_sure.ensures c.if-not-is_sure.false).holds

pub spill-requires-clause-small : goal.spill-requires-clause-small
spill-requires-clause-small g c =
    omega (arith, c.requires.small)

pub spill-requires-clause-used : goal.spill-requires-clause-used
spill-requires-clause-used g c =
    (c.is_sure.ensures c.if-not-is_sure.false).used

pub spill-requires-clause-free : goal.spill-requires-clause-free
spill-requires-clause-free g c =
    subst (λ n. n ≤ count_set (free_of c.args.volume.now.map)) (sym (new_alone c.args.volume.now.header.block_size (length c.args.value.now) (omega (arith, (c.is_sure.ensures c.if-not-is_sure.false).block.least)))) c.requires.free

pub spill-requires-clause-few_zeros : goal.spill-requires-clause-few_zeros
spill-requires-clause-few_zeros g c =
    omega arith

pub spill-requires-clause-zeros : goal.spill-requires-clause-zeros
spill-requires-clause-zeros g c tells m k low =
    absurd (omega (arith, low))

pub spill-requires-clause-may_spill : goal.spill-requires-clause-may_spill
spill-requires-clause-may_spill g c =
    may_spill c.args.volume.now (g.P.SectorView.space c.args.space.now) c.requires.stands c.requires.settled c.requires.closed (omega (arith, (c.is_sure.ensures c.if-not-is_sure.false).block.least)) (c.is_sure.ensures c.if-not-is_sure.false).fits (c.is_sure.ensures c.if-not-is_sure.false).header

-- a block has sectors
some_block : (block : ℕ) → IsBlockSize block → 0 < block
some_block block is = omega (arith, is.least)

pub returns-clause-blocks : goal.returns-clause-blocks
returns-clause-blocks g c =
    let block : ℕ = c.args.volume.now.header.block_size in
    let map : BlockMap = c.args.volume.now.map in
    let n : ℕ = length c.args.value.now in
    let some = some_block block (c.is_sure.ensures c.if-not-is_sure.false).block in
    if_so _ _ c.spill.result
    (λ (fork : List Extent) is.
    is ∙ blocks_alone (first_block block 0 0) (old_end block 0 (0 + n)) c.before.new-none.result (blocks_of (fresh_of map (new_blocks block 0 0 (0 + n)))) c.before.new-none.ensures
    ∙ ap (λ k. blocks_of (fresh_of map k)) (new_alone block n some))
    c.spill.ensures.blocks

pub returns-clause-bytes : goal.returns-clause-bytes
returns-clause-bytes g c tells =
    let block : ℕ = c.args.volume.now.header.block_size in
    if_so _ _ c.spill.result
    (λ (fork : List Extent) is.
    ap (λ k. take k (fork_bytes (g.P.SectorView.space c.spill.new.space).content block fork)) (long_alone (length c.args.value.now))
    ∙ is ∙ bytes_alone (fork_bytes (g.P.SectorView.space c.args.space.now).content block c.before.new-none.result) c.args.value.now)
    (c.spill.ensures.bytes tells)

pub returns-clause-map : goal.returns-clause-map
returns-clause-map g c =
    let block : ℕ = c.args.volume.now.header.block_size in
    let map : BlockMap = c.args.volume.now.map in
    let n : ℕ = length c.args.value.now in
    let some = some_block block (c.is_sure.ensures c.if-not-is_sure.false).block in
    subst (λ (m : BlockMap). OnOk c.spill.result (c.spill.new.volume.map ≡ m))
    (map_alone (first_block block 0 0) (old_end block 0 (0 + n)) c.before.new-none.result (taken (new_blocks block 0 0 (0 + n)) map) c.before.new-none.ensures ∙ ap (λ k. taken k map) (new_alone block n some))
    (c.spill.ensures.map (c.is_sure.ensures c.if-not-is_sure.false).apart)

pub returns-clause-touches : goal.returns-clause-touches
returns-clause-touches g c tells =
    let block : ℕ = c.args.volume.now.header.block_size in
    let map : BlockMap = c.args.volume.now.map in
    let some = some_block block (c.is_sure.ensures c.if-not-is_sure.false).block in
    subst (λ k. SpillsIn (IsOneOf (sectors_in block (fresh_of map k))) (g.P.SectorView.space c.args.space.now) (g.P.SectorView.space c.spill.new.space)) (new_alone block (length c.args.value.now) some) (c.spill.ensures.touches tells)

pub returns-clause-few : goal.returns-clause-few
returns-clause-few g c =
    let block : ℕ = c.args.volume.now.header.block_size in
    let map : BlockMap = c.args.volume.now.map in
    let long : ℕ = length c.args.value.now in
    let n : ℕ = parts_for long block in
    let some = some_block block (c.is_sure.ensures c.if-not-is_sure.false).block in
    if_so _ _ c.spill.result
    (λ (fork : List Extent) is. subst (λ (l : List Extent). length l ≤ fewest_of n (free_runs (free_of map)))
    (sym (is ∙ extents_alone (first_block block 0 0) (old_end block 0 (0 + long)) c.before.new-none.result (fresh_of map (new_blocks block 0 0 (0 + long))) c.before.new-none.ensures ∙ ap (λ k. fresh_of map k) (new_alone block long some)))
    (taken_runs map n))
    c.spill.ensures.extents
