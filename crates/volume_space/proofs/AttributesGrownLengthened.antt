-- What lengthening the attributes file makes of a volume, told or not.
use Rattle.std.proofs.Common.{◌≡◌, ◌<◌, ◌≤◌, ℕ, ◌+◌, ◌/◌, min, length, refl, sym, ◌∙◌, subst, arith}
use Rattle.std.specs.Prelude.{Contains, IsTrue}
use Rattle.hx_bytes.specs.declared.extents.Extent.{Extent}
use Rattle.volume_header.specs.Header.{FitsHeader}
use Rattle.volume_header.specs.declared.header.VolumeHeader.{VolumeHeader}
use Rattle.flag_rows.specs.Bits.{sectors_for}
use Rattle.alloc_bitmap.specs.Map.{BlockMap}
use Rattle.btree_file.specs.Frame.{PutsWithin}
use Rattle.btree_file.specs.Growth.{HasGrown, SaysSame, TakesRoomToGrow, sectors_with}
use Rattle.btree_file.specs.Standing.{LiesInside}
use Rattle.btree_file.specs.declared.tree.TreeFile.{TreeFile}
use Rattle.sector_disk.specs.Lists.{Content}
use Rattle.sector_disk.specs.Space.{Space}
use Rattle.hfs_volume.specs.Aside.{IsJournalSector}
use Rattle.hfs_volume.specs.Content.{has_attributes}
use Rattle.volume_space.specs.Growing.{CanGrowAttributes, IsOwnOrFree, LengthensAttributes, TakesRun, blocks_filled, lengthened_attributes, nodes_load, run_load, with_attributes}
use Rattle.volume_base.specs.Mapping.{HoldsUnchanged, changed_sectors}
use Rattle.volume_base.specs.Service.{IsInService}
use Rattle.volume_base.specs.Standing.{IsSettled, StandsOver, map_sectors, own_sectors}
use Rattle.volume_base.specs.Touching.{Touches}
use Rattle.volume_base.specs.declared.volume.Volume.{Volume}
use Rattle.volume_space.proofs.GrownBits.{map_few, marked_long}
use Rattle.volume_space.proofs.AttributesGrownCalls.{own_same, service_after}
use Rattle.volume_space.proofs.GrownCalls.{bytes_owned, load_is, nodes_are, run_some, touches_told}
use Rattle.volume_space.proofs.GrownRun.{same_fork, same_length, same_per}
use Rattle.volume_space.proofs.AttributesGrownStands.{own_gained, own_still, put_own, stands_longer}
use Rattle.volume_space.proofs.AttributesGrownUnchanged.{holds_unchanged}

module _ (more : ℕ) (v : Volume) (a b : Space) (over : StandsOver v a) (settled : IsTrue a.tells → IsSettled v a.content) (there : IsTrue (has_attributes v.header)) (can : CanGrowAttributes more v a) (shut : IsTrue a.tells → (at : ℕ) → a.closed at → IsJournalSector a.content at)
    (run : Extent) (later : BlockMap) (takes : TakesRun (blocks_filled v.attributes.file more) run v.map later)
  where
    some : 0 < run.count
    some = run_some more v a can run takes.many

    -- whatever became of the file, as long as its nodes have their size
    pub service_then : (file : TreeFile) (head : VolumeHeader) → FitsHeader head → head.block_size ≡ v.header.block_size → file.shape.node_size ≡ v.attributes.file.shape.node_size → LiesInside file b → b.sectors ≡ a.sectors
        → IsInService (record v { header = head; map = later; attributes = record v.attributes { file = file } }) b
    service_then file head fits block size inside sectors =
        service_after v a b head later file over.service sectors fits block (same_fork (blocks_filled v.attributes.file more) run v.map later takes) (same_per (blocks_filled v.attributes.file more) run v.map later takes) (same_length (blocks_filled v.attributes.file more) run v.map later takes) (marked_long (blocks_filled v.attributes.file more) run v.map later takes can.unchanged) size inside

    pub own_failed : (file : TreeFile) → SaysSame v.attributes.file file → own_sectors (record v { map = later; attributes = record v.attributes { file = file } }) ≡ own_sectors v
    own_failed file same = own_same v later file same.fork same.per_block (same_fork (blocks_filled v.attributes.file more) run v.map later takes) (same_per (blocks_filled v.attributes.file more) run v.map later takes)

    pub nodes_spent : TakesRoomToGrow v.attributes.file run a b → a.spare ≤ b.spare + nodes_load v.attributes.file more
    nodes_spent room = omega (arith, room.written, load_is more v a can run takes.many)

    module _ (file : TreeFile) (grown : IsTrue a.tells → HasGrown run v.attributes.file file a.content b.content) (within : PutsWithin (sectors_with v.attributes.file run) a b) where
      abbrev w : Volume
      w = lengthened_attributes run.count v later file

      pub stands_then : FitsHeader (with_attributes run.count file.fork v.header) → file.shape.node_size ≡ v.attributes.file.shape.node_size → LiesInside file b → StandsOver (lengthened_attributes run.count v later file) b
      stands_then fits size inside = record {
        service = service_then file (with_attributes run.count file.fork v.header) fits refl size inside within.same.sectors;
        stands = λ told.
            let tells : IsTrue a.tells = sym within.same.tells ∙ told in
            stands_longer v a b (over.stands tells) (settled tells) there (blocks_filled v.attributes.file more) run later takes some file (grown tells) within tells over.service.fits.attributes_fork.extents.eight can.extents (shut tells);
      }

      pub lengthens_then : IsTrue a.tells → LengthensAttributes more v (lengthened_attributes run.count v later file) a b
      lengthens_then tells = record { run = run; takes = takes; grown = grown tells; rest = refl; within = within }

      pub unchanged_then : IsTrue a.tells → HoldsUnchanged (lengthened_attributes run.count v later file) b.content
      unchanged_then tells =
          holds_unchanged v a b (over.stands tells) (settled tells) there (blocks_filled v.attributes.file more) run later takes some file (grown tells) within tells over.service.fits.attributes_fork.extents.eight can.extents more (subst (λ n. n ≤ v.header.free_blocks) (sym takes.many) can.counted)
          (nodes_are more v a can run takes.many) (bytes_owned more v a there can run takes.many (over.stands tells) (settled tells)) can.unchanged

      pub own_then : IsTrue a.tells → (s : ℕ) → Contains (own_sectors v) s → Contains (own_sectors (lengthened_attributes run.count v later file)) s
      own_then tells s has = own_still v a b (over.stands tells) (settled tells) there (blocks_filled v.attributes.file more) run later takes some file (grown tells) within tells s has

      pub gained_then : IsTrue a.tells → (s : ℕ) → Contains (own_sectors (lengthened_attributes run.count v later file)) s → IsOwnOrFree v s
      gained_then tells s has = own_gained v a b (over.stands tells) (settled tells) there (blocks_filled v.attributes.file more) run later takes some file (grown tells) within tells s has

      pub touches_then : (committed : Content) → Touches committed (λ s. Contains (own_sectors (lengthened_attributes run.count v later file)) s) a b
      touches_then committed = touches_told committed (sectors_with v.attributes.file run) (λ s. Contains (own_sectors (lengthened_attributes run.count v later file)) s) a b
          (λ tells s has. put_own v a b (over.stands tells) (settled tells) there (blocks_filled v.attributes.file more) run later takes some file (grown tells) within tells s has) within

      pub map_then : length (changed_sectors (lengthened_attributes run.count v later file)) ≤ run_load v (blocks_filled v.attributes.file more)
      map_then = subst (λ n. length (changed_sectors (lengthened_attributes run.count v later file)) ≤ min (sectors_for (length v.map.used)) (n / 4096 + 2)) takes.many (map_few (blocks_filled v.attributes.file more) run v.map later takes can.unchanged (map_sectors (lengthened_attributes run.count v later file)))
