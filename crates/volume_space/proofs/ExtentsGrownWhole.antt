-- The growth of the extents overflow file as a whole: its file is longer, the bitmap is put, and then the header.
use Rattle.std.proofs.Common.{◌≡◌, ◌≢◌, ◌<◌, ◌≤◌, ℕ, ◌+◌, [], ◌∷◌, ◌++◌, sym, ◌∙◌, ap, subst, arith, ⊎_elim}
use Rattle.std.specs.Prelude.{Contains, IsTrue}
use Rattle.jnl_format.specs.Recovery.{header_of_volume}
use Rattle.alloc_bitmap.proofs.ApartLaws.{times-append}
use Rattle.btree_file.specs.Frame.{PutsWithin}
use Rattle.btree_file.specs.State.{sectors_of_tree}
use Rattle.sector_disk.specs.Lists.{sector}
use Rattle.sector_disk.specs.Space.{Space}
use Rattle.hfs_volume.specs.Content.{volume_of}
use Rattle.hfs_volume.specs.Forks.{extents_id}
use Rattle.hfs_volume.specs.Reclaim.{GrowsTrees}
use Rattle.hfs_volume.specs.TreeOf.{tree_of}
use Rattle.hfs_volume.specs.Writing.{GrowthKeeps}
use Rattle.hfs_volume.proofs.Members.{first_or_later}
use Rattle.volume_base.specs.Changing.{PutsHeader}
use Rattle.volume_space.specs.Growing.{CanGrowExtents, GrowsExtents, HeadGrows, KeepsForks, LengthensExtents, blocks_filled, lengthened_extents, with_extents}
use Rattle.volume_base.specs.Lists.{lists_of}
use Rattle.volume_base.specs.Mapping.{HoldsMap, PutsMap}
use Rattle.volume_base.specs.Standing.{IsSettled, IsStanding, StandsOver, attribute_sectors, file_sectors, map_sectors}
use Rattle.volume_base.specs.declared.volume.Volume.{Volume}
use Rattle.volume_space.proofs.GrownBits.{bit_elsewhere}
use Rattle.volume_space.proofs.GrownCalls.{bytes_over, maps_are, nodes_are, run_some}
use Rattle.volume_space.proofs.ExtentsGrownSettled.{forks_kept, head_then, journal_then, settled_now, tree_same, trees_grow}
use Rattle.volume_base.proofs.Placing.{stands_once}

module _ (more : ℕ) (v w : Volume) (a b c d : Space) (over : StandsOver v a) (settled : IsSettled v a.content) (can : CanGrowExtents more v a) (tells : IsTrue a.tells) (law : GrowthKeeps)
    (longer : LengthensExtents more v w a b) (stands : IsStanding w d) (map_put : PutsMap w b.content c.content) (header_put : PutsHeader w c.content d.content) (header_within : PutsWithin (2 ∷ []) c d) (told : IsTrue c.tells)
  where
    was : IsStanding v a
    was = over.stands tells

    abbrev long : Volume
    long = lengthened_extents longer.run.count v w.map w.extents.file

    -- sector 2 alone is another behind the put of the header
    header_alone : (s : ℕ) → s ≢ 2 → sector d.content s ≡ sector c.content s
    header_alone s differs = ⊎_elim (λ same. same) (λ has. absurd (⊎_elim (λ is. differs is) (λ none. omega (arith, none.1)) (first_or_later 2 s [] has))) ((header_within.content told).each s)

    not_header : (s : ℕ) → Contains (map_sectors w) s → s ≢ 2
    not_header s has two =
        omega (
          arith,
          stands.apart s,
          times-append s (2 ∷ []) (file_sectors w),
          times-append s (sectors_of_tree w.extents.file) (sectors_of_tree w.catalog.file ++ (attribute_sectors w ++ map_sectors w)),
          times-append s (sectors_of_tree w.catalog.file) (attribute_sectors w ++ map_sectors w),
          times-append s (attribute_sectors w) (map_sectors w),
          stands_once s (map_sectors w) has,
          stands_once s (2 ∷ []) (0, omega arith, sym two),
        )

    holds : HoldsMap w d.content
    holds k low = bit_elsewhere (map_sectors w) c.content d.content (λ s has. header_alone s (not_header s has)) k ∙ map_put.holds k low

    lists : lists_of w d.content ≡ lists_of w b.content
    lists = header_put.lists ∙ map_put.lists

    outside : (s : ℕ) → s ≢ 2 → (Contains (map_sectors w) s → ⊥) → sector d.content s ≡ sector b.content s
    outside s differs none = header_alone s differs ∙ ⊎_elim (λ same. same) (λ has. absurd (none has)) (map_put.outside.each s)

    -- the same of the volume as it was made
    stands_long : IsStanding (lengthened_extents longer.run.count v w.map w.extents.file) d
    stands_long = subst (λ (x : Volume). IsStanding x d) longer.rest stands

    headed_long : header_of_volume d.content ≡ with_extents longer.run.count w.extents.file.fork v.header
    headed_long = header_put.headed ∙ ap (λ (x : Volume). x.header) longer.rest

    holds_long : HoldsMap (lengthened_extents longer.run.count v w.map w.extents.file) d.content
    holds_long = subst (λ (x : Volume). HoldsMap x d.content) longer.rest holds

    lists_long : lists_of (lengthened_extents longer.run.count v w.map w.extents.file) d.content ≡ lists_of (lengthened_extents longer.run.count v w.map w.extents.file) b.content
    lists_long = subst (λ (x : Volume). lists_of x d.content ≡ lists_of x b.content) longer.rest lists

    outside_long : (s : ℕ) → s ≢ 2 → (Contains (map_sectors (lengthened_extents longer.run.count v w.map w.extents.file)) s → ⊥) → sector d.content s ≡ sector b.content s
    outside_long = subst (λ (x : Volume). (s : ℕ) → s ≢ 2 → (Contains (map_sectors x) s → ⊥) → sector d.content s ≡ sector b.content s) longer.rest outside

    some : 0 < longer.run.count
    some = run_some more v a can longer.run longer.takes.many

    counted : longer.run.count ≤ v.header.free_blocks
    counted = subst (λ n. n ≤ v.header.free_blocks) (sym longer.takes.many) can.counted

    pub settled_whole : IsSettled w d.content
    settled_whole = subst (λ (x : Volume). IsSettled x d.content) (sym longer.rest)
        (settled_now v a b was settled (blocks_filled v.extents.file more) longer.run w.map longer.takes some w.extents.file longer.grown longer.within tells over.service.fits.extents_fork.extents.eight can.extents more counted
        (nodes_are more v a can longer.run longer.takes.many) (bytes_over more v a can longer.run longer.takes.many was settled) law d stands_long headed_long holds_long lists_long outside_long)

    pub tree_whole : tree_of d.content ≡ tree_of a.content
    tree_whole =
        tree_same v a b was settled (blocks_filled v.extents.file more) longer.run w.map longer.takes some w.extents.file longer.grown longer.within tells over.service.fits.extents_fork.extents.eight can.extents more counted
        (nodes_are more v a can longer.run longer.takes.many) (bytes_over more v a can longer.run longer.takes.many was settled) law d stands_long headed_long holds_long lists_long outside_long

    pub grows_whole : GrowsTrees (more ∷ 0 ∷ 0 ∷ []) (volume_of a.content) (volume_of d.content)
    grows_whole =
        trees_grow v a b was settled (blocks_filled v.extents.file more) longer.run w.map longer.takes some w.extents.file longer.grown longer.within tells over.service.fits.extents_fork.extents.eight can.extents more counted
        (nodes_are more v a can longer.run longer.takes.many) (bytes_over more v a can longer.run longer.takes.many was settled) law d stands_long headed_long holds_long lists_long outside_long

    pub files_whole : KeepsForks extents_id (volume_of a.content) (volume_of d.content)
    files_whole =
        forks_kept v a b was settled (blocks_filled v.extents.file more) longer.run w.map longer.takes some w.extents.file longer.grown longer.within tells over.service.fits.extents_fork.extents.eight can.extents more counted
        (nodes_are more v a can longer.run longer.takes.many) (bytes_over more v a can longer.run longer.takes.many was settled) law d stands_long headed_long holds_long lists_long outside_long

    pub volume_whole : GrowsExtents more v w
    volume_whole = record {
      run = longer.run;
      takes = longer.takes;
      numbers = longer.grown.tree.numbers;
      total = longer.grown.total ∙ ap (λ n. v.extents.file.shape.total + n) (nodes_are more v a can longer.run longer.takes.many);
      free = omega (arith, longer.grown.free, nodes_are more v a can longer.run longer.takes.many, maps_are more v a can longer.run longer.takes.many);
      bits = longer.grown.stands.agrees.bits;
      extents = longer.grown.extents;
      rest = longer.rest;
    }

    pub head_whole : HeadGrows (volume_of a.content).head (volume_of d.content).head
    head_whole =
        head_then v a b was settled (blocks_filled v.extents.file more) longer.run w.map longer.takes some w.extents.file longer.grown longer.within tells over.service.fits.extents_fork.extents.eight can.extents more counted
        (nodes_are more v a can longer.run longer.takes.many) (bytes_over more v a can longer.run longer.takes.many was settled) law d stands_long headed_long holds_long lists_long outside_long

    pub journal_whole : (volume_of d.content).journal ≡ (volume_of a.content).journal
    journal_whole =
        journal_then v a b was settled (blocks_filled v.extents.file more) longer.run w.map longer.takes some w.extents.file longer.grown longer.within tells over.service.fits.extents_fork.extents.eight can.extents more counted
        (nodes_are more v a can longer.run longer.takes.many) (bytes_over more v a can longer.run longer.takes.many was settled) law d stands_long headed_long holds_long lists_long outside_long
