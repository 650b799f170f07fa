-- What the growth of the extents overflow file asks for, and what a volume is in service with behind it.
use Rattle.std.proofs.Common.{◌≡◌, ◌<◌, ◌≤◌, ℕ, ◌+◌, ◌/◌, List, [], ◌∷◌, ◌++◌, length, get_or, sym, ◌∙◌, ap, subst, arith, ⊎_elim}
use Rattle.std.specs.Prelude.{Contains}
use Rattle.std.specs.List.{All}
use Rattle.hx_bytes.specs.declared.extents.Extent.{Extent}
use Rattle.fork_map.specs.Blocks.{blocks_of, fork_sectors}
use Rattle.flag_rows.specs.Bits.{sectors_for}
use Rattle.alloc_bitmap.specs.Apart.{times}
use Rattle.alloc_bitmap.specs.Map.{BlockMap}
use Rattle.alloc_bitmap.proofs.ApartLaws.{times-append}
use Rattle.btree_edit.specs.Desk.{IsDeskOf}
use Rattle.btree_file.specs.Growth.{RunApart, sectors_with}
use Rattle.btree_file.specs.Standing.{LiesInside}
use Rattle.btree_file.specs.State.{sectors_of_tree}
use Rattle.btree_file.specs.declared.tree.TreeFile.{TreeFile}
use Rattle.btree_file.proofs.LongerFork.{with_run}
use Rattle.sector_disk.specs.Space.{Space}
use Rattle.volume_header.specs.Header.{FitsHeader}
use Rattle.volume_header.specs.declared.header.VolumeHeader.{VolumeHeader}
use Rattle.hfs_volume.specs.Aside.{IsJournalSector}
use Rattle.volume_space.specs.Growing.{TakesRun}
use Rattle.volume_base.specs.Service.{IsInService}
use Rattle.volume_base.specs.Standing.{IsSettled, IsStanding, attribute_sectors, file_sectors, map_sectors, own_sectors}
use Rattle.volume_base.specs.declared.volume.Volume.{Volume}
use Rattle.volume_base.proofs.Begun.{service_later}
use Rattle.volume_space.proofs.GrownFree.{off_extents, off_journal, some_per}
use Rattle.volume_space.proofs.GrownRun.{run_apart}
use Rattle.volume_space.proofs.GrownStands.{there_or_none}
use Rattle.volume_base.proofs.Placing.{default_is, once_apart, times_sectors}

-- ---- a run of free blocks is apart from the extents overflow file, and open

module _ (v : Volume) (a : Space) (was : IsStanding v a) (settled : IsSettled v a.content) (count : ℕ) (run : Extent) (later : BlockMap) (takes : TakesRun count run v.map later) where
  -- its blocks have the size that the catalog's have
  as_run : (s : ℕ) → Contains (fork_sectors (run ∷ []) v.extents.file.per_block) s → Contains (fork_sectors (run ∷ []) v.catalog.file.per_block) s
  as_run s has = subst (λ n. Contains (fork_sectors (run ∷ []) n) s) (was.forks.extents_per ∙ sym was.forks.catalog_per) has

  some_own : 0 < v.extents.file.per_block
  some_own = omega (arith, was.forks.extents_per, was.forks.catalog_per, some_per v a was settled count run later takes)

  extents_once : (s : ℕ) → times s (sectors_of_tree v.extents.file) ≤ 1
  extents_once s = omega (
    arith,
    was.apart s,
    times-append s (2 ∷ []) (file_sectors v),
    times-append s (sectors_of_tree v.extents.file) (sectors_of_tree v.catalog.file ++ (attribute_sectors v ++ map_sectors v)),
  )

  pub grown_apart : RunApart v.extents.file run
  grown_apart = once_apart (sectors_with v.extents.file run) (λ s. subst (λ (l : List ℕ). times s l ≤ 1) (sym (with_run v.extents.file.fork run v.extents.file.per_block)) (once s))
    where
      once : (s : ℕ) → times s (sectors_of_tree v.extents.file ++ fork_sectors (run ∷ []) v.extents.file.per_block) ≤ 1
      once s = ⊎_elim
          (λ (has : Contains (fork_sectors (run ∷ []) v.extents.file.per_block) s). ⊎_elim
          (λ (here : Contains (sectors_of_tree v.extents.file) s). absurd (off_extents v a was settled count run later takes s (as_run s has) here))
          (λ (none : times s (sectors_of_tree v.extents.file) ≡ 0). omega (
            arith,
            none,
            times-append s (sectors_of_tree v.extents.file) (fork_sectors (run ∷ []) v.extents.file.per_block),
            times_sectors v.extents.file.per_block (blocks_of (run ∷ [])) s some_own,
            run_apart run (s / v.extents.file.per_block),
          ))
          (there_or_none s (sectors_of_tree v.extents.file)))
          (λ (none : times s (fork_sectors (run ∷ []) v.extents.file.per_block) ≡ 0). omega (arith, none, times-append s (sectors_of_tree v.extents.file) (fork_sectors (run ∷ []) v.extents.file.per_block), extents_once s))
          (there_or_none s (fork_sectors (run ∷ []) v.extents.file.per_block))

  pub run_opens : ((at : ℕ) → a.closed at → IsJournalSector a.content at) → (k : ℕ) → k < length (fork_sectors (run ∷ []) v.extents.file.per_block) → a.closed (get_or (fork_sectors (run ∷ []) v.extents.file.per_block) k 0) → ⊥
  run_opens shut k low closed = off_journal v a was settled count run later takes (get_or (fork_sectors (run ∷ []) v.extents.file.per_block) k 0) (as_run (get_or (fork_sectors (run ∷ []) v.extents.file.per_block) k 0) (k, low, default_is (fork_sectors (run ∷ []) v.extents.file.per_block) k (get_or (fork_sectors (run ∷ []) v.extents.file.per_block) k 0) low)) (shut (get_or (fork_sectors (run ∷ []) v.extents.file.per_block) k 0) closed)

-- ---- in service

pub service_after : (v : Volume) (a b : Space) (head : VolumeHeader) (later : BlockMap) (file : TreeFile) → IsInService v a → b.sectors ≡ a.sectors → FitsHeader head → head.block_size ≡ v.header.block_size → later.fork ≡ v.map.fork → later.per_block ≡ v.map.per_block → length later.used ≡ length v.map.used → length later.changed ≡ sectors_for (length v.map.used)
    → file.shape.node_size ≡ v.extents.file.shape.node_size → LiesInside file b → IsInService (record v { header = head; map = later; extents = record v.extents { file = file } }) b
service_after v a b head later file was sectors fits block fork per long marked size inside = record {
  extents = record { desk = subst (λ n. IsDeskOf n v.extents.desk) (sym size) was.extents.desk; inside = inside };
  catalog = service_later v.catalog a b sectors was.catalog;
  attributes = service_later v.attributes a b sectors was.attributes;
  fits = fits;
  least = omega (arith, was.least, block);
  most = omega (arith, was.most, block);
  map_inside = subst (λ n. All (λ at. at < n) (fork_sectors later.fork later.per_block)) (sym sectors) (subst (λ (m : BlockMap). All (λ at. at < a.sectors) (fork_sectors m.fork m.per_block)) same was.map_inside);
  map_long = subst (λ n. sectors_for n ≤ length (fork_sectors later.fork later.per_block)) (sym long) (subst (λ (m : BlockMap). sectors_for (length v.map.used) ≤ length (fork_sectors m.fork m.per_block)) same was.map_long);
  marks = marked ∙ sym (ap (λ n. sectors_for n) long);
}
  where
    same : v.map ≡ record v.map { fork = later.fork; per_block = later.per_block }
    same = λ i. record v.map { fork = sym fork i; per_block = sym per i }

-- a file that lies where it did leaves the volume its own sectors
pub own_same : (v : Volume) (later : BlockMap) (file : TreeFile) → file.fork ≡ v.extents.file.fork → file.per_block ≡ v.extents.file.per_block → later.fork ≡ v.map.fork → later.per_block ≡ v.map.per_block
    → own_sectors (record v { map = later; extents = record v.extents { file = file } }) ≡ own_sectors v
own_same v later file fork per map_fork map_per = λ i. 2 ∷ fork_sectors (fork i) (per i) ++ (sectors_of_tree v.catalog.file ++ (attribute_sectors v ++ fork_sectors (map_fork i) (map_per i)))
