-- The numbers of a growth of a tree's file whose fork may have eight extents or more.
use Rattle.std.proofs.Common.{◌≡◌, ◌≢◌, inl, ◌<◌, ◌≤◌, ℕ, ◌+◌, ◌*◌, ◌/◌, ◌^◌, List, [], ◌∷◌, length, get_or, sym, ◌∙◌, ap, subst, arith, ⊎_elim}
use Rattle.std.specs.Prelude.{Contains, IsTrue}
use Rattle.std.proofs.Math.Nat.{div-zero, mul-div_cancel, mul_left_comm, zero-div, mul-zero}
use Rattle.std.proofs.lemmas.Bool.{cases_eq}
use Rattle.hx_bytes.specs.declared.extents.Extent.{Extent}
use Rattle.hx_bytes.specs.declared.extents.ForkRecord.{ForkRecord}
use Rattle.fork_map.specs.Blocks.{blocks_of, fork_sectors}
use Rattle.btree_file.specs.Growth.{HasRoomToGrow, HasWholeNodes, RunInside, map_nodes_with, nodes_in, nodes_with, map_nodes_for}
use Rattle.btree_file.specs.Held.{file_in}
use Rattle.btree_file.specs.Map.{bits_of}
use Rattle.btree_file.specs.Standing.{Stands}
use Rattle.btree_file.specs.State.{sectors_of_tree}
use Rattle.btree_file.specs.declared.tree.TreeFile.{TreeFile}
use Rattle.sector_disk.specs.Lists.{Content}
use Rattle.sector_disk.specs.Space.{Space}
use Rattle.hfs_volume.specs.Content.{VolumeState, has_attributes, volume_of}
use Rattle.hfs_volume.specs.Forks.{per_block_of}
use Rattle.hfs_volume.proofs.BlockWants.{range_bounds}
use Rattle.hfs_volume.proofs.Sectors.{in_block}
use Rattle.hfs_volume.proofs.Untouched.{whole_blocks}
use Rattle.volume_space.specs.Growing.{blocks_filled, maps_among, nodes_load}
use Rattle.volume_space.specs.SpreadGrowth.{CanGrowSpread}
use Rattle.volume_base.specs.Standing.{IsSettled, IsStanding}
use Rattle.volume_base.specs.declared.volume.Volume.{Volume}
use Rattle.volume_base.proofs.Bridging.{whole_size}
use Rattle.volume_base.proofs.Facts.{size_is}
use Rattle.volume_space.proofs.GrownFree.{below_product}
use Rattle.volume_space.proofs.GrownRun.{blocks_one}
use Rattle.volume_base.proofs.Placing.{default_is}

-- ---- numbers

no_quotient : (n p : ℕ) → 0 < n / p → p ≡ 0 → ⊥
no_quotient n p some none = absurd (omega (arith, some, ap (λ q. n / q) none, div-zero n))

module _ {file : TreeFile} {fork : ForkRecord} (more : ℕ) (v : Volume) (space : Space) (can : CanGrowSpread more file fork v space) (run : Extent) (count_is : run.count ≡ blocks_filled file more) where
  pub per_block_some : 0 < file.per_block
  per_block_some = ⊎_elim (λ (none : file.per_block ≡ 0). absurd (no_quotient (more * (file.shape.node_size / 512)) file.per_block can.some none)) (λ (some : file.per_block ≢ 0). omega (arith, some)) (cases_eq file.per_block 0)

  node_some : 0 < file.shape.node_size / 512
  node_some = ⊎_elim
      (λ (none : file.shape.node_size / 512 ≡ 0). absurd (omega (arith, can.some, ap (λ n. more * n / file.per_block) none, ap (λ n. n / file.per_block) (mul-zero more), zero-div file.per_block)))
      (λ (some : file.shape.node_size / 512 ≢ 0). omega (arith, some))
      (cases_eq (file.shape.node_size / 512) 0)

  pub run_some : 0 < run.count
  run_some = omega (arith, count_is, can.some)

  product : run.count * file.per_block ≡ more * (file.shape.node_size / 512)
  product = ap (λ n. n * file.per_block) count_is ∙ can.whole

  pub nodes_are : nodes_in run file.per_block file.shape.node_size ≡ more
  nodes_are = ap (λ n. n / (file.shape.node_size / 512)) product ∙ mul-div_cancel more node_some

  pub whole_nodes : HasWholeNodes file run
  whole_nodes = ap (λ n. n * (file.shape.node_size / 512)) nodes_are ∙ sym product

  pub few_nodes : nodes_with file run < 2 ^ 32
  few_nodes = omega (arith, nodes_are, can.nodes)

  pub maps_are : map_nodes_with file run ≡ maps_among file more
  maps_are = ap (λ n. map_nodes_for file.shape.node_size (bits_of file.map.items) (file.shape.total + n)) nodes_are

  pub load_is : (2 + map_nodes_with file run) * (file.shape.node_size / 512) ≡ nodes_load file more
  load_is = ap (λ n. (2 + n) * (file.shape.node_size / 512)) maps_are

  pub grow_room : HasRoomToGrow file run space
  grow_room = inl (omega (arith, load_is, can.room))

  pub run_inside : run.start + run.count ≤ length v.map.used → RunInside file run space
  run_inside fits k low =
      let at : ℕ = get_or (fork_sectors (run ∷ []) file.per_block) k 0 in
      let block = in_block file.per_block (blocks_of (run ∷ [])) (get_or (fork_sectors (run ∷ []) file.per_block) k 0) per_block_some (k, low, default_is (fork_sectors (run ∷ []) file.per_block) k (get_or (fork_sectors (run ∷ []) file.per_block) k 0) low) in
      let range = range_bounds run.start run.count (get_or (fork_sectors (run ∷ []) file.per_block) k 0 / file.per_block) (subst (λ (l : List ℕ). Contains l (get_or (fork_sectors (run ∷ []) file.per_block) k 0 / file.per_block)) (blocks_one run) block) in
      omega (arith, below_product (get_or (fork_sectors (run ∷ []) file.per_block) k 0) file.per_block (length v.map.used) per_block_some (omega (arith, range, fits)), can.inside)

  -- told, its bytes are those of so many nodes
  pub bytes_in : file.per_block ≡ per_block_of v.header → file.shape.node_size / 512 * 512 ≡ file.shape.node_size → IsSettled v space.content → run.count * v.header.block_size ≡ more * file.shape.node_size
  bytes_in per node settled =
      let blocks = whole_blocks (volume_of space.content).sectors (volume_of space.content).head settled.sound.blocks.header.accepted in
      let block : v.header.block_size ≡ 512 * file.per_block = omega (arith, blocks.whole, ap (λ (l : VolumeState). l.head.block_size) settled.lists, per) in
      let size : file.shape.node_size ≡ 512 * (file.shape.node_size / 512) = omega (arith, node) in
      ap (λ n. run.count * n) block ∙ mul_left_comm run.count 512 file.per_block ∙ ap (λ n. 512 * n) product ∙ sym (mul_left_comm more 512 (file.shape.node_size / 512)) ∙ ap (λ n. more * n) (sym size)

pub node_whole : (file : TreeFile) (content : Content) → Stands file content → (file_in (sectors_of_tree file) content).head.node_size / 512 * 512 ≡ (file_in (sectors_of_tree file) content).head.node_size → file.shape.node_size / 512 * 512 ≡ file.shape.node_size
node_whole file content stands is = subst (λ n. n / 512 * 512 ≡ n) (size_is file content stands) is

pub catalog_bytes : (more : ℕ) (v : Volume) (space : Space) → CanGrowSpread more v.catalog.file v.header.catalog_fork v space → (run : Extent) → run.count ≡ blocks_filled v.catalog.file more → IsStanding v space → IsSettled v space.content → run.count * v.header.block_size ≡ more * v.catalog.file.shape.node_size
catalog_bytes more v space can run count_is was settled =
    bytes_in more v space can run count_is was.forks.catalog_per
    (node_whole v.catalog.file space.content was.trees.catalog.stands (whole_size (file_in (sectors_of_tree v.catalog.file) space.content).head.node_size was.trees.catalog.file.has_form.size)) settled

pub attributes_bytes : (more : ℕ) (v : Volume) (space : Space) → IsTrue (has_attributes v.header) → CanGrowSpread more v.attributes.file v.header.attributes_fork v space → (run : Extent) → run.count ≡ blocks_filled v.attributes.file more → IsStanding v space → IsSettled v space.content
    → run.count * v.header.block_size ≡ more * v.attributes.file.shape.node_size
attributes_bytes more v space there can run count_is was settled =
    bytes_in more v space can run count_is (was.forks.attributes_per there)
    (node_whole v.attributes.file space.content (was.trees.attributes there).stands (whole_size (file_in (sectors_of_tree v.attributes.file) space.content).head.node_size (was.trees.attributes there).file.has_form.size)) settled
