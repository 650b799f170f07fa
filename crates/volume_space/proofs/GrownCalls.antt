-- What the growth of the catalog's file asks for, and what a volume is in service with behind it.
use Rattle.std.proofs.Common.{◌≡◌, ◌≢◌, inl, inr, ◌<◌, ◌≤◌, ℕ, ◌+◌, ◌*◌, ◌/◌, ◌^◌, List, [], ◌∷◌, ◌++◌, length, get_or, sym, ◌∙◌, ap, subst, arith, ⊎_elim}
use Rattle.std.specs.Prelude.{Contains, IsTrue}
use Rattle.std.specs.List.{All}
use Rattle.std.proofs.Math.Nat.{div-zero, mul-div_cancel, mul_left_comm, zero-div, mul-zero}
use Rattle.std.proofs.lemmas.Bool.{cases_eq}
use Rattle.hx_bytes.specs.declared.extents.Extent.{Extent}
use Rattle.hx_bytes.specs.declared.extents.ForkRecord.{ForkRecord}
use Rattle.fork_map.specs.Blocks.{blocks_of, fork_sectors}
use Rattle.flag_rows.specs.Bits.{sectors_for}
use Rattle.alloc_bitmap.specs.Apart.{times}
use Rattle.alloc_bitmap.specs.Map.{BlockMap}
use Rattle.alloc_bitmap.proofs.ApartLaws.{times-append}
use Rattle.btree_edit.specs.Desk.{IsDeskOf}
use Rattle.btree_file.specs.Growth.{HasRoomToGrow, HasWholeNodes, RunApart, RunInside, map_nodes_with, nodes_in, nodes_with, sectors_with, map_nodes_for}
use Rattle.btree_file.specs.Frame.{PutsWithin, ReadsSpace}
use Rattle.btree_file.specs.FrameLaws.{reads_within}
use Rattle.btree_file.specs.Held.{file_in}
use Rattle.btree_file.specs.Map.{bits_of}
use Rattle.btree_file.specs.Standing.{LiesInside, Stands}
use Rattle.btree_file.specs.State.{sectors_of_tree}
use Rattle.btree_file.specs.declared.tree.TreeFile.{TreeFile}
use Rattle.btree_file.proofs.LongerFork.{with_run}
use Rattle.sector_disk.specs.Lists.{Content, sector}
use Rattle.sector_disk.specs.Space.{Space}
use Rattle.volume_base.specs.Touching.{Touches}
use Rattle.volume_header.specs.Header.{FitsHeader}
use Rattle.volume_header.specs.declared.header.VolumeHeader.{VolumeHeader}
use Rattle.hfs_volume.specs.Aside.{IsJournalSector}
use Rattle.hfs_volume.specs.Content.{VolumeState, has_attributes, volume_of}
use Rattle.hfs_volume.specs.Forks.{per_block_of}
use Rattle.hfs_volume.proofs.BlockWants.{range_bounds}
use Rattle.hfs_volume.proofs.Sectors.{in_block}
use Rattle.hfs_volume.proofs.Untouched.{whole_blocks}
use Rattle.volume_space.specs.Growing.{CanGrow, CanGrowAttributes, CanGrowCatalog, CanGrowExtents, TakesRun, blocks_filled, maps_among, nodes_load}
use Rattle.volume_base.specs.Service.{IsInService}
use Rattle.volume_base.specs.Standing.{IsSettled, IsStanding, attribute_sectors, file_sectors, map_sectors, own_sectors}
use Rattle.volume_base.specs.declared.volume.Volume.{Volume}
use Rattle.volume_base.proofs.Begun.{service_later}
use Rattle.volume_base.proofs.Bridging.{whole_size}
use Rattle.volume_base.proofs.Facts.{size_is}
use Rattle.volume_space.proofs.GrownFree.{below_product, off_catalog, off_journal, some_per}
use Rattle.volume_space.proofs.GrownRun.{blocks_one, run_apart}
use Rattle.volume_space.proofs.GrownStands.{there_or_none}
use Rattle.volume_base.proofs.Placing.{default_is, once_apart, times_sectors}

-- ---- numbers

no_quotient : (n p : ℕ) → 0 < n / p → p ≡ 0 → ⊥
no_quotient n p some none = absurd (omega (arith, some, ap (λ q. n / q) none, div-zero n))

module _ {file : TreeFile} {fork : ForkRecord} (more : ℕ) (v : Volume) (space : Space) (can : CanGrow more file fork v space) (run : Extent) (count_is : run.count ≡ blocks_filled file more) where
  pub per_block_some : 0 < file.per_block
  per_block_some = ⊎_elim (λ (none : file.per_block ≡ 0). absurd (no_quotient (more * (file.shape.node_size / 512)) file.per_block can.some none)) (λ (some : file.per_block ≢ 0). omega (arith, some)) (cases_eq file.per_block 0)

  node_some : 0 < file.shape.node_size / 512
  node_some = ⊎_elim
      (λ (none : file.shape.node_size / 512 ≡ 0). absurd (omega (arith, can.some, ap (λ n. more * n / file.per_block) none, ap (λ n. n / file.per_block) (mul-zero more), zero-div file.per_block)))
      (λ (some : file.shape.node_size / 512 ≢ 0). omega (arith, some))
      (cases_eq (file.shape.node_size / 512) 0)

  pub run_some : 0 < run.count
  run_some = omega (arith, count_is, can.some)

  product : run.count * file.per_block ≡ more * (file.shape.node_size / 512)
  product = ap (λ n. n * file.per_block) count_is ∙ can.whole

  pub nodes_are : nodes_in run file.per_block file.shape.node_size ≡ more
  nodes_are = ap (λ n. n / (file.shape.node_size / 512)) product ∙ mul-div_cancel more node_some

  pub whole_nodes : HasWholeNodes file run
  whole_nodes = ap (λ n. n * (file.shape.node_size / 512)) nodes_are ∙ sym product

  pub few_nodes : nodes_with file run < 2 ^ 32
  few_nodes = omega (arith, nodes_are, can.nodes)

  pub maps_are : map_nodes_with file run ≡ maps_among file more
  maps_are = ap (λ n. map_nodes_for file.shape.node_size (bits_of file.map.items) (file.shape.total + n)) nodes_are

  pub load_is : (2 + map_nodes_with file run) * (file.shape.node_size / 512) ≡ nodes_load file more
  load_is = ap (λ n. (2 + n) * (file.shape.node_size / 512)) maps_are

  pub grow_room : HasRoomToGrow file run space
  grow_room = inl (omega (arith, load_is, can.room))

  pub run_inside : run.start + run.count ≤ length v.map.used → RunInside file run space
  run_inside fits k low =
      let at : ℕ = get_or (fork_sectors (run ∷ []) file.per_block) k 0 in
      let block = in_block file.per_block (blocks_of (run ∷ [])) (get_or (fork_sectors (run ∷ []) file.per_block) k 0) per_block_some (k, low, default_is (fork_sectors (run ∷ []) file.per_block) k (get_or (fork_sectors (run ∷ []) file.per_block) k 0) low) in
      let range = range_bounds run.start run.count (get_or (fork_sectors (run ∷ []) file.per_block) k 0 / file.per_block) (subst (λ (l : List ℕ). Contains l (get_or (fork_sectors (run ∷ []) file.per_block) k 0 / file.per_block)) (blocks_one run) block) in
      omega (arith, below_product (get_or (fork_sectors (run ∷ []) file.per_block) k 0) file.per_block (length v.map.used) per_block_some (omega (arith, range, fits)), can.inside)

  -- told, its bytes are those of so many nodes
  pub bytes_in : file.per_block ≡ per_block_of v.header → file.shape.node_size / 512 * 512 ≡ file.shape.node_size → IsSettled v space.content → run.count * v.header.block_size ≡ more * file.shape.node_size
  bytes_in per node settled =
      let blocks = whole_blocks (volume_of space.content).sectors (volume_of space.content).head settled.sound.blocks.header.accepted in
      let block : v.header.block_size ≡ 512 * file.per_block = omega (arith, blocks.whole, ap (λ (l : VolumeState). l.head.block_size) settled.lists, per) in
      let size : file.shape.node_size ≡ 512 * (file.shape.node_size / 512) = omega (arith, node) in
      ap (λ n. run.count * n) block ∙ mul_left_comm run.count 512 file.per_block ∙ ap (λ n. 512 * n) product ∙ sym (mul_left_comm more 512 (file.shape.node_size / 512)) ∙ ap (λ n. more * n) (sym size)

node_whole : (file : TreeFile) (content : Content) → Stands file content → (file_in (sectors_of_tree file) content).head.node_size / 512 * 512 ≡ (file_in (sectors_of_tree file) content).head.node_size → file.shape.node_size / 512 * 512 ≡ file.shape.node_size
node_whole file content stands is = subst (λ n. n / 512 * 512 ≡ n) (size_is file content stands) is

pub bytes_are : (more : ℕ) (v : Volume) (space : Space) → CanGrowCatalog more v space → (run : Extent) → run.count ≡ blocks_filled v.catalog.file more → IsStanding v space → IsSettled v space.content → run.count * v.header.block_size ≡ more * v.catalog.file.shape.node_size
bytes_are more v space can run count_is was settled =
    bytes_in more v space can run count_is was.forks.catalog_per
    (node_whole v.catalog.file space.content was.trees.catalog.stands (whole_size (file_in (sectors_of_tree v.catalog.file) space.content).head.node_size was.trees.catalog.file.has_form.size)) settled

pub bytes_over : (more : ℕ) (v : Volume) (space : Space) → CanGrowExtents more v space → (run : Extent) → run.count ≡ blocks_filled v.extents.file more → IsStanding v space → IsSettled v space.content → run.count * v.header.block_size ≡ more * v.extents.file.shape.node_size
bytes_over more v space can run count_is was settled =
    bytes_in more v space can run count_is was.forks.extents_per
    (node_whole v.extents.file space.content was.trees.extents.stands (whole_size (file_in (sectors_of_tree v.extents.file) space.content).head.node_size was.trees.extents.file.has_form.size)) settled

pub bytes_owned : (more : ℕ) (v : Volume) (space : Space) → IsTrue (has_attributes v.header) → CanGrowAttributes more v space → (run : Extent) → run.count ≡ blocks_filled v.attributes.file more → IsStanding v space → IsSettled v space.content
    → run.count * v.header.block_size ≡ more * v.attributes.file.shape.node_size
bytes_owned more v space there can run count_is was settled =
    bytes_in more v space can run count_is (was.forks.attributes_per there)
    (node_whole v.attributes.file space.content (was.trees.attributes there).stands (whole_size (file_in (sectors_of_tree v.attributes.file) space.content).head.node_size (was.trees.attributes there).file.has_form.size)) settled

-- ---- a run of free blocks is apart from the catalog, and open

module _ (v : Volume) (a : Space) (was : IsStanding v a) (settled : IsSettled v a.content) (count : ℕ) (run : Extent) (later : BlockMap) (takes : TakesRun count run v.map later) where
  catalog_once : (s : ℕ) → times s (sectors_of_tree v.catalog.file) ≤ 1
  catalog_once s = omega (
    arith,
    was.apart s,
    times-append s (2 ∷ []) (file_sectors v),
    times-append s (sectors_of_tree v.extents.file) (sectors_of_tree v.catalog.file ++ (attribute_sectors v ++ map_sectors v)),
    times-append s (sectors_of_tree v.catalog.file) (attribute_sectors v ++ map_sectors v),
  )

  pub grown_apart : RunApart v.catalog.file run
  grown_apart = once_apart (sectors_with v.catalog.file run) (λ s. subst (λ (l : List ℕ). times s l ≤ 1) (sym (with_run v.catalog.file.fork run v.catalog.file.per_block)) (once s))
    where
      once : (s : ℕ) → times s (sectors_of_tree v.catalog.file ++ fork_sectors (run ∷ []) v.catalog.file.per_block) ≤ 1
      once s = ⊎_elim
          (λ (has : Contains (fork_sectors (run ∷ []) v.catalog.file.per_block) s). ⊎_elim
          (λ (there : Contains (sectors_of_tree v.catalog.file) s). absurd (off_catalog v a was settled count run later takes s has there))
          (λ (none : times s (sectors_of_tree v.catalog.file) ≡ 0). omega (
            arith,
            none,
            times-append s (sectors_of_tree v.catalog.file) (fork_sectors (run ∷ []) v.catalog.file.per_block),
            times_sectors v.catalog.file.per_block (blocks_of (run ∷ [])) s (some_per v a was settled count run later takes),
            run_apart run (s / v.catalog.file.per_block),
          ))
          (there_or_none s (sectors_of_tree v.catalog.file)))
          (λ (none : times s (fork_sectors (run ∷ []) v.catalog.file.per_block) ≡ 0). omega (arith, none, times-append s (sectors_of_tree v.catalog.file) (fork_sectors (run ∷ []) v.catalog.file.per_block), catalog_once s))
          (there_or_none s (fork_sectors (run ∷ []) v.catalog.file.per_block))

  pub run_opens : ((at : ℕ) → a.closed at → IsJournalSector a.content at) → (k : ℕ) → k < length (fork_sectors (run ∷ []) v.catalog.file.per_block) → a.closed (get_or (fork_sectors (run ∷ []) v.catalog.file.per_block) k 0) → ⊥
  run_opens shut k low closed = off_journal v a was settled count run later takes (get_or (fork_sectors (run ∷ []) v.catalog.file.per_block) k 0) (k, low, default_is (fork_sectors (run ∷ []) v.catalog.file.per_block) k (get_or (fork_sectors (run ∷ []) v.catalog.file.per_block) k 0) low) (shut (get_or (fork_sectors (run ∷ []) v.catalog.file.per_block) k 0) closed)

-- ---- in service

pub service_after : (v : Volume) (a b : Space) (head : VolumeHeader) (later : BlockMap) (file : TreeFile) → IsInService v a → b.sectors ≡ a.sectors → FitsHeader head → head.block_size ≡ v.header.block_size → later.fork ≡ v.map.fork → later.per_block ≡ v.map.per_block → length later.used ≡ length v.map.used → length later.changed ≡ sectors_for (length v.map.used)
    → file.shape.node_size ≡ v.catalog.file.shape.node_size → LiesInside file b → IsInService (record v { header = head; map = later; catalog = record v.catalog { file = file } }) b
service_after v a b head later file was sectors fits block fork per long marked size inside = record {
  extents = service_later v.extents a b sectors was.extents;
  catalog = record { desk = subst (λ n. IsDeskOf n v.catalog.desk) (sym size) was.catalog.desk; inside = inside };
  attributes = service_later v.attributes a b sectors was.attributes;
  fits = fits;
  least = omega (arith, was.least, block);
  most = omega (arith, was.most, block);
  map_inside = subst (λ n. All (λ at. at < n) (fork_sectors later.fork later.per_block)) (sym sectors) (subst (λ (m : BlockMap). All (λ at. at < a.sectors) (fork_sectors m.fork m.per_block)) same was.map_inside);
  map_long = subst (λ n. sectors_for n ≤ length (fork_sectors later.fork later.per_block)) (sym long) (subst (λ (m : BlockMap). sectors_for (length v.map.used) ≤ length (fork_sectors m.fork m.per_block)) same was.map_long);
  marks = marked ∙ sym (ap (λ n. sectors_for n) long);
}
  where
    same : v.map ≡ record v.map { fork = later.fork; per_block = later.per_block }
    same = λ i. record v.map { fork = sym fork i; per_block = sym per i }

-- ---- what is put

-- as `touches_within`, where these sectors are those only where the space tells
pub touches_told : (committed : Content) (these : List ℕ) (those : ℕ → Type 0) (a b : Space) → (IsTrue a.tells → (s : ℕ) → Contains these s → those s) → PutsWithin these a b → Touches committed those a b
touches_told committed these those a b wider was = record {
  same = was.same;
  durable = λ tells. record { size = ap (λ (c : Content). length c) (was.durable tells); each = λ at. inl (ap (λ (c : Content). sector c at) (was.durable tells)) };
  spilled = λ tells s now. inl ((was.spilled tells s).0 now);
  still = λ tells s before. (was.spilled tells s).1 before;
  live = λ tells s l. ⊎_elim (λ before. inl before) (λ here. inr (wider tells s here)) (was.live tells s l);
  closed = was.closed;
  still_put = was.still_put;
  spare = was.spare;
  faults = was.faults;
  time = was.time;
}

pub touches_reading : (committed : Content) (those : ℕ → Type 0) (a b : Space) → ReadsSpace a b → Touches committed those a b
touches_reading committed those a b reads = touches_told committed [] those a b (λ tells s none. absurd (omega (arith, none.1))) (reads_within [] a b reads)

-- a file that lies where it did leaves the volume its own sectors
pub own_same : (v : Volume) (later : BlockMap) (file : TreeFile) → file.fork ≡ v.catalog.file.fork → file.per_block ≡ v.catalog.file.per_block → later.fork ≡ v.map.fork → later.per_block ≡ v.map.per_block
    → own_sectors (record v { map = later; catalog = record v.catalog { file = file } }) ≡ own_sectors v
own_same v later file fork per map_fork map_per = λ i. 2 ∷ sectors_of_tree v.extents.file ++ (fork_sectors (fork i) (per i) ++ (attribute_sectors v ++ fork_sectors (map_fork i) (map_per i)))
