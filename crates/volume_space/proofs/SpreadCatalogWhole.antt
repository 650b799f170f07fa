-- The growth of the catalog as a whole, with the overflow records of its fork: its file is longer, the records are stored, the bitmap is put, and then the header.
use Rattle.std.proofs.Common.{◌≡◌, ◌≢◌, ◌<◌, ◌≤◌, ℕ, List, [], ◌∷◌, ◌++◌, refl, sym, ◌∙◌, ap, subst, arith, ⊎_elim}
use Rattle.std.specs.Prelude.{Contains, IsTrue}
use Rattle.jnl_format.specs.Recovery.{header_of_volume}
use Rattle.alloc_bitmap.proofs.ApartLaws.{times-append}
use Rattle.btree_node.specs.Keys.{IsExtentKey, extent_cmp, is_eight_extents}
use Rattle.btree_node.specs.TreeFile.{extents_form}
use Rattle.btree_file.specs.Frame.{FollowsOn, PutsWithin}
use Rattle.btree_file.specs.Standing.{HoldsTree, pairs_in}
use Rattle.btree_file.specs.State.{sectors_of_tree}
use Rattle.sector_disk.specs.Lists.{sector}
use Rattle.sector_disk.specs.Space.{Space}
use Rattle.hfs_volume.specs.Content.{volume_of}
use Rattle.hfs_volume.specs.Forks.{catalog_id, data_kind}
use Rattle.hfs_volume.specs.Reclaim.{GrowsTrees}
use Rattle.hfs_volume.specs.TreeOf.{tree_of}
use Rattle.hfs_volume.specs.Writing.{GrowthKeeps}
use Rattle.hfs_volume.proofs.Members.{first_or_later}
use Rattle.volume_base.specs.Changing.{PutsHeader}
use Rattle.volume_space.specs.Growing.{HeadGrows, KeepsForks, Lengthens, blocks_filled, lengthened, with_catalog}
use Rattle.volume_base.specs.Lists.{lists_of}
use Rattle.volume_base.specs.Mapping.{HoldsMap, HoldsUnchanged, PutsMap}
use Rattle.volume_space.specs.SpreadGrowth.{CanGrowSpread, StandsBut}
use Rattle.volume_base.specs.Spreading.{StoresFork}
use Rattle.volume_base.specs.Standing.{IsSettled, IsStanding, StandsOver, attribute_sectors, file_sectors, map_sectors}
use Rattle.volume_base.specs.declared.volume.Tree.{Tree}
use Rattle.volume_base.specs.declared.volume.Volume.{Volume}
use Rattle.volume_base.proofs.Placing.{stands_once}
use Rattle.volume_space.proofs.GrownBits.{bit_elsewhere}
use Rattle.volume_space.proofs.GrownStands.{bits_same, map_same}
use Rattle.volume_space.proofs.SpreadBits.{unchanged_held}
use Rattle.volume_space.proofs.SpreadCatalog.{used_now}
use Rattle.volume_space.proofs.SpreadCatalogSettled.{forks_kept, head_then, journal_then, settled_now, trees_grow, tree_same}
use Rattle.volume_space.proofs.SpreadNumbers.{catalog_bytes, nodes_are, run_some}
use Rattle.volume_space.proofs.SpreadStands.{map_alone}

module _ (more : ℕ) (v w x : Volume) (a b c : Space) (over : StandsOver v a) (settled : IsSettled v a.content) (can : CanGrowSpread more v.catalog.file v.header.catalog_fork v a) (tells : IsTrue a.tells)
    (longer : Lengthens more v w a b) (but : StandsBut catalog_id w b) (follows : FollowsOn w.extents.file x.extents.file b c) (rest : x ≡ record w { extents = x.extents })
    (held : HoldsTree extents_form IsExtentKey is_eight_extents extent_cmp x.extents.file c.content)
    (stores : StoresFork catalog_id data_kind w.catalog.file.fork (pairs_in (sectors_of_tree w.extents.file) b.content) (pairs_in (sectors_of_tree w.extents.file) c.content))
  where
    was : IsStanding v a
    was = over.stands tells

    abbrev count : ℕ
    count = longer.run.count

    abbrev long : Volume
    long = lengthened longer.run.count v w.map w.catalog.file

    -- the volume as it was made
    abbrev whole : Volume
    whole = record (lengthened longer.run.count v w.map w.catalog.file) { extents = x.extents }

    x_is : x ≡ record (lengthened longer.run.count v w.map w.catalog.file) { extents = x.extents }
    x_is = rest ∙ ap (λ (u : Volume). record u { extents = x.extents }) longer.rest

    w_extents : w.extents ≡ v.extents
    w_extents = ap (λ (u : Volume). u.extents) longer.rest

    but_long : StandsBut catalog_id (lengthened longer.run.count v w.map w.catalog.file) b
    but_long = subst (λ (u : Volume). StandsBut catalog_id u b) longer.rest but

    follows_long : FollowsOn v.extents.file x.extents.file b c
    follows_long = subst (λ (t : Tree). FollowsOn t.file x.extents.file b c) w_extents follows

    stores_long : StoresFork catalog_id data_kind w.catalog.file.fork (pairs_in (sectors_of_tree v.extents.file) b.content) (pairs_in (sectors_of_tree v.extents.file) c.content)
    stores_long = subst (λ (t : Tree). StoresFork catalog_id data_kind w.catalog.file.fork (pairs_in (sectors_of_tree t.file) b.content) (pairs_in (sectors_of_tree t.file) c.content)) w_extents stores

    some : 0 < longer.run.count
    some = run_some more v a can longer.run longer.takes.many

    counted : longer.run.count ≤ v.header.free_blocks
    counted = subst (λ n. n ≤ v.header.free_blocks) (sym longer.takes.many) can.counted

    told_b : IsTrue b.tells
    told_b = longer.within.same.tells ∙ tells

    -- the bitmap's sectors are as they were
    map_kept : (s : ℕ) → Contains (map_sectors v) s → sector c.content s ≡ sector a.content s
    map_kept s has =
        map_alone catalog_id long b c x.extents but_long told_b follows_long w.catalog.file.fork (used_now v a b was settled (blocks_filled v.catalog.file more) longer.run w.map longer.takes some w.catalog.file longer.grown longer.within tells) (λ same. absurd (omega (arith, same))) (λ same. absurd (omega (arith, same))) held stores_long s
        (subst (λ (l : List ℕ). Contains l s) (sym (map_same v a b was settled (blocks_filled v.catalog.file more) longer.run w.map longer.takes some w.catalog.file longer.grown longer.within tells)) has)
        ∙ bits_same v a b was settled (blocks_filled v.catalog.file more) longer.run w.map longer.takes some w.catalog.file longer.grown longer.within tells s has

    pub unchanged_whole : HoldsUnchanged x c.content
    unchanged_whole = subst (λ (u : Volume). HoldsUnchanged u c.content) (sym x_is)
        (unchanged_held v whole (blocks_filled v.catalog.file more) longer.run longer.takes refl a c was settled can.unchanged (map_same v a b was settled (blocks_filled v.catalog.file more) longer.run w.map longer.takes some w.catalog.file longer.grown longer.within tells) map_kept)

    module _ (law : GrowthKeeps) (d e : Space) (stands : IsStanding x e) (map_put : PutsMap x c.content d.content) (header_put : PutsHeader x d.content e.content) (header_within : PutsWithin (2 ∷ []) d e) (told : IsTrue d.tells) where
      -- sector 2 alone is another behind the put of the header
      header_alone : (s : ℕ) → s ≢ 2 → sector e.content s ≡ sector d.content s
      header_alone s differs = ⊎_elim (λ same. same) (λ has. absurd (⊎_elim (λ is. differs is) (λ none. omega (arith, none.1)) (first_or_later 2 s [] has))) ((header_within.content told).each s)

      not_header : (s : ℕ) → Contains (map_sectors x) s → s ≢ 2
      not_header s has two =
          omega (
            arith,
            stands.apart s,
            times-append s (2 ∷ []) (file_sectors x),
            times-append s (sectors_of_tree x.extents.file) (sectors_of_tree x.catalog.file ++ (attribute_sectors x ++ map_sectors x)),
            times-append s (sectors_of_tree x.catalog.file) (attribute_sectors x ++ map_sectors x),
            times-append s (attribute_sectors x) (map_sectors x),
            stands_once s (map_sectors x) has,
            stands_once s (2 ∷ []) (0, omega arith, sym two),
          )

      holds : HoldsMap x e.content
      holds k low = bit_elsewhere (map_sectors x) d.content e.content (λ s has. header_alone s (not_header s has)) k ∙ map_put.holds k low

      lists : lists_of x e.content ≡ lists_of x c.content
      lists = header_put.lists ∙ map_put.lists

      outside : (s : ℕ) → s ≢ 2 → (Contains (map_sectors x) s → ⊥) → sector e.content s ≡ sector c.content s
      outside s differs none = header_alone s differs ∙ ⊎_elim (λ same. same) (λ has. absurd (none has)) (map_put.outside.each s)

      -- the same of the volume as it was made
      stands_long : IsStanding whole e
      stands_long = subst (λ (u : Volume). IsStanding u e) x_is stands

      headed_long : header_of_volume e.content ≡ with_catalog longer.run.count w.catalog.file.fork v.header
      headed_long = header_put.headed ∙ ap (λ (u : Volume). u.header) x_is

      holds_long : HoldsMap whole e.content
      holds_long = subst (λ (u : Volume). HoldsMap u e.content) x_is holds

      lists_long : lists_of whole e.content ≡ lists_of whole c.content
      lists_long = subst (λ (u : Volume). lists_of u e.content ≡ lists_of u c.content) x_is lists

      outside_long : (s : ℕ) → s ≢ 2 → (Contains (map_sectors whole) s → ⊥) → sector e.content s ≡ sector c.content s
      outside_long = subst (λ (u : Volume). (s : ℕ) → s ≢ 2 → (Contains (map_sectors u) s → ⊥) → sector e.content s ≡ sector c.content s) x_is outside

      pub settled_whole : IsSettled x e.content
      settled_whole = subst (λ (u : Volume). IsSettled u e.content) (sym x_is)
          (settled_now v a b c was settled (blocks_filled v.catalog.file more) longer.run w.map longer.takes some w.catalog.file longer.grown longer.within tells more counted
          (nodes_are more v a can longer.run longer.takes.many) (catalog_bytes more v a can longer.run longer.takes.many was settled)
          x.extents but_long follows_long held stores_long law e stands_long headed_long holds_long lists_long outside_long)

      pub tree_whole : tree_of e.content ≡ tree_of a.content
      tree_whole = tree_same v a b c was settled (blocks_filled v.catalog.file more) longer.run w.map longer.takes some w.catalog.file longer.grown longer.within tells more counted
          (nodes_are more v a can longer.run longer.takes.many) (catalog_bytes more v a can longer.run longer.takes.many was settled)
          x.extents but_long follows_long held stores_long law e stands_long headed_long holds_long lists_long outside_long

      pub grows_whole : GrowsTrees (0 ∷ more ∷ 0 ∷ []) (volume_of a.content) (volume_of e.content)
      grows_whole = trees_grow v a b c was settled (blocks_filled v.catalog.file more) longer.run w.map longer.takes some w.catalog.file longer.grown longer.within tells more counted
          (nodes_are more v a can longer.run longer.takes.many) (catalog_bytes more v a can longer.run longer.takes.many was settled)
          x.extents but_long follows_long held stores_long law e stands_long headed_long holds_long lists_long outside_long

      pub files_whole : KeepsForks catalog_id (volume_of a.content) (volume_of e.content)
      files_whole = forks_kept v a b c was settled (blocks_filled v.catalog.file more) longer.run w.map longer.takes some w.catalog.file longer.grown longer.within tells more counted
          (nodes_are more v a can longer.run longer.takes.many) (catalog_bytes more v a can longer.run longer.takes.many was settled)
          x.extents but_long follows_long held stores_long law e stands_long headed_long holds_long lists_long outside_long

      pub head_whole : HeadGrows (volume_of a.content).head (volume_of e.content).head
      head_whole = head_then v a b c was settled (blocks_filled v.catalog.file more) longer.run w.map longer.takes some w.catalog.file longer.grown longer.within tells more counted
          (nodes_are more v a can longer.run longer.takes.many) (catalog_bytes more v a can longer.run longer.takes.many was settled)
          x.extents but_long follows_long held stores_long law e stands_long headed_long holds_long lists_long outside_long

      pub journal_whole : (volume_of e.content).journal ≡ (volume_of a.content).journal
      journal_whole = journal_then v a b c was settled (blocks_filled v.catalog.file more) longer.run w.map longer.takes some w.catalog.file longer.grown longer.within tells more counted
          (nodes_are more v a can longer.run longer.takes.many) (catalog_bytes more v a can longer.run longer.takes.many was settled)
          x.extents but_long follows_long held stores_long law e stands_long headed_long holds_long lists_long outside_long
