-- A volume whose attributes file goes on in a run of free blocks stands but for the overflow records of its fork, which may have eight extents or more.
use Rattle.std.proofs.Common.{◌≡◌, ◌⊎◌, inl, inr, ◌<◌, ℕ, ◌-◌, ◌*◌, List, [], ◌∷◌, length, refl, sym, ◌∙◌, ap, subst, arith, ⊎_elim}
use Rattle.std.specs.Prelude.{Contains, IsTrue}
use Rattle.std.proofs.lemmas.List.Elements.{Contains-append_right}
use Rattle.hx_bytes.specs.declared.extents.Extent.{Extent}
use Rattle.fork_map.specs.Cut.{join}
use Rattle.jnl_format.specs.Recovery.{info_sector_of}
use Rattle.alloc_bitmap.specs.Map.{BlockMap}
use Rattle.alloc_bitmap.proofs.ApartLaws.{times-append}
use Rattle.sector_disk.specs.Lists.{sector}
use Rattle.sector_disk.specs.Space.{Space}
use Rattle.btree_node.specs.Keys.{IsCatalogKey, IsExtentKey, IsAttrKey, catalog_cmp, extent_cmp, attr_cmp, is_eight_extents, anything}
use Rattle.btree_node.specs.TreeFile.{extents_form, catalog_form, attributes_form}
use Rattle.btree_file.specs.Frame.{PutsWithin}
use Rattle.btree_file.specs.Growth.{HasGrown, sectors_with}
use Rattle.btree_file.specs.State.{sectors_of_tree}
use Rattle.btree_file.specs.declared.tree.TreeFile.{TreeFile}
use Rattle.btree_file.proofs.Edited.{held_elsewhere}
use Rattle.btree_file.proofs.KeptTrees.{held_grown, pairs_grown}
use Rattle.hfs_volume.specs.Aside.{IsJournalSector}
use Rattle.hfs_volume.specs.Content.{has_attributes, journal_place, overflow_in_volume}
use Rattle.hfs_volume.specs.Forks.{allocation_id, attributes_id, catalog_id, data_kind, extents_of, per_block_of}
use Rattle.hfs_volume.specs.Records.{Overflow}
use Rattle.hfs_volume.proofs.Members.{first_or_later}
use Rattle.volume_header.specs.Header.{header_of}
use Rattle.overflow.proofs.Cutting.{AreUsed}
use Rattle.overflow.specs.Reading.{HasExtents}
use Rattle.volume_space.specs.Growing.{TakesRun, lengthened_attributes, with_attributes}
use Rattle.volume_space.specs.SpreadGrowth.{StandsBut}
use Rattle.volume_base.specs.Lists.{bits_on, facts_on, lists_of}
use Rattle.volume_base.specs.Standing.{IsSettled, IsStanding, file_sectors, own_sectors}
use Rattle.volume_base.specs.declared.volume.Volume.{Volume}
use Rattle.volume_base.proofs.CutLists.{extents_used}
use Rattle.volume_base.proofs.ListsAfter.{file_pairs}
use Rattle.volume_base.proofs.Placing.{stands_once}
use Rattle.volume_space.proofs.GrownForks.{join_used}
use Rattle.volume_space.proofs.GrownFree.{off_aside, off_journal, run_low}
use Rattle.volume_space.proofs.GrownRun.{same_fork, same_length, same_per}
use Rattle.volume_space.proofs.AttributesGrownStands.{apart_now, as_run, aside_same, catalog_same, extents_same, goes_on, if_there_both, overflow_same, own_now, own_still, put_own, size, there_now}

module _ (v : Volume) (a b : Space) (was : IsStanding v a) (settled : IsSettled v a.content) (there : IsTrue (has_attributes v.header)) (count : ℕ) (run : Extent) (later : BlockMap) (takes : TakesRun count run v.map later) (some : 0 < run.count)
    (file : TreeFile) (grown : HasGrown run v.attributes.file file a.content b.content) (within : PutsWithin (sectors_with v.attributes.file run) a b) (tells : IsTrue a.tells)
  where
    abbrev w : Volume
    w = lengthened_attributes run.count v later file

    pub same_overflow : overflow_in_volume (lists_of (lengthened_attributes run.count v later file) b.content) ≡ overflow_in_volume (lists_of v a.content)
    same_overflow = overflow_same v a b was settled there count run later takes some file grown within tells

    -- its extents have blocks
    pub used_now : AreUsed file.fork
    used_now = subst AreUsed (sym (grown.extents ∙ ap (λ es. join es (run ∷ [])) (was.forks.attributes there)))
        (join_used (extents_of (overflow_in_volume (lists_of v a.content)) attributes_id data_kind v.header.attributes_fork) run (extents_used (overflow_in_volume (lists_of v a.content)) attributes_id data_kind v.header.attributes_fork) (λ none. absurd (omega (arith, some, none))))

    -- the overflow records are those of the extents that it had
    pub has_before : length v.header.attributes_fork.extents.extents ≡ 8 → HasExtents (overflow_in_volume (lists_of (lengthened_attributes run.count v later file) b.content)) attributes_id data_kind v.attributes.file.fork
    has_before eight = subst (λ (o : List Overflow). HasExtents o attributes_id data_kind v.attributes.file.fork) (sym same_overflow)
        (record { fork = v.header.attributes_fork; eight = eight; is = sym (was.forks.attributes there); goes_on = goes_on v a b was settled there count run later takes some file grown within tells })

    module _ (shut : (at : ℕ) → a.closed at → IsJournalSector a.content at) where
      pub stands_but : StandsBut attributes_id (lengthened_attributes run.count v later file) b
      stands_but = record {
        trees = record {
          extents = held_elsewhere extents_form IsExtentKey is_eight_extents extent_cmp v.extents.file a.content b.content (extents_same v a b was settled there count run later takes some file grown within tells) was.trees.extents;
          catalog = held_elsewhere catalog_form IsCatalogKey anything catalog_cmp v.catalog.file a.content b.content (catalog_same v a b was settled there count run later takes some file grown within tells) was.trees.catalog;
          compare = was.trees.compare;
          attributes = λ told. held_grown attributes_form IsAttrKey anything attr_cmp run v.attributes.file file a.content b.content (was.trees.attributes there) grown;
        };
        extents = was.forks.extents;
        extents_per = was.forks.extents_per;
        catalog = λ differs. was.forks.catalog ∙ ap (λ (o : List Overflow). extents_of o catalog_id data_kind v.header.catalog_fork) (sym same_overflow);
        catalog_per = was.forks.catalog_per;
        attributes = λ differs told. absurd (differs refl);
        attributes_per = λ told. grown.per_block ∙ was.forks.attributes_per there;
        map = same_fork count run v.map later takes ∙ was.forks.map ∙ ap (λ (o : List Overflow). extents_of o allocation_id data_kind v.header.allocation_fork) (sym same_overflow);
        map_per = same_per count run v.map later takes ∙ was.forks.map_per;
        whole = λ at low. ⊎_elim (λ same. same ∙ was.whole at (omega (arith, low, long))) (λ is. is) (within.sizes tells at);
        apart = apart_now v a b was settled there count run later takes some file grown within tells;
        blocks = same_length count run v.map later takes ∙ was.blocks;
        closed = λ at is has.
            let before : a.closed at = (within.closed tells at).0 is in
            ⊎_elim (λ own. was.closed at before own) (λ here. off_journal v a was settled count run later takes at (as_run v a b was settled there count run later takes some file grown within tells at here) (shut at before)) (own_now v a b was settled there count run later takes some file grown within tells at has);
        aside = λ at is has.
            let before : (at ≡ length a.content - 2) ⊎ (at ≡ info_sector_of v.header) = subst (λ n. (at ≡ n - 2) ⊎ (at ≡ info_sector_of v.header)) long is in
            ⊎_elim (λ own. was.aside at before own) (λ here. off_aside v a was settled count run later takes at (as_run v a b was settled there count run later takes some file grown within tells at here) before) (own_now v a b was settled there count run later takes some file grown within tells at has);
        large = omega (arith, was.large, long);
        inside = λ at has. ⊎_elim (λ own. inside_of at own has) (λ here. run_low v a was settled count run later takes at (as_run v a b was settled there count run later takes some file grown within tells at here)) (own_now v a b was settled there count run later takes some file grown within tells at (Contains-append_right (2 ∷ []) (file_sectors w) at has));
        fit = omega (arith, was.fit, long);
        live = λ at is. ⊎_elim (λ old. own_still v a b was settled there count run later takes some file grown within tells at (was.live at old)) (λ new. put_own v a b was settled there count run later takes some file grown within tells at new) (within.live tells at is);
      }
        where
          long : length b.content ≡ length a.content
          long = size v a b was settled there count run later takes some file grown within tells

          -- 2 is in none of its files
          inside_of : (at : ℕ) → Contains (own_sectors v) at → Contains (file_sectors w) at → at < v.header.total_blocks * per_block_of v.header
          inside_of at own has = elim (first_or_later 2 at (file_sectors v) own) [
            | inl is ↦ absurd (omega (arith, apart_now v a b was settled there count run later takes some file grown within tells 2, times-append 2 (2 ∷ []) (file_sectors w), stands_once 2 (2 ∷ []) (0, omega arith, refl), stands_once 2 (file_sectors w) (subst (λ n. Contains (file_sectors w) n) is has)))
            | inr files ↦ was.inside at files
          ]

    -- ---- its lists

    pub lists_but : lists_of (lengthened_attributes run.count v later file) b.content ≡ record (lists_of v a.content) { head = with_attributes run.count file.fork v.header; attributes_tree = facts_on file; bits = bits_on (lengthened_attributes run.count v later file) }
    lists_but = λ i. record {
      sectors = size v a b was settled there count run later takes some file grown within tells i;
      head = with_attributes run.count file.fork v.header;
      alternate = header_of ((ap (λ n. sector b.content (n - 2)) (size v a b was settled there count run later takes some file grown within tells) ∙ aside_same v a b was settled there count run later takes some file grown within tells (length a.content - 2) (inl refl)) i);
      journal = journal_place (aside_same v a b was settled there count run later takes some file grown within tells (info_sector_of v.header) (inr refl) i);
      overflow_pairs = file_pairs (sectors_of_tree v.extents.file) a.content b.content (extents_same v a b was settled there count run later takes some file grown within tells) i;
      catalog_pairs = file_pairs (sectors_of_tree v.catalog.file) a.content b.content (catalog_same v a b was settled there count run later takes some file grown within tells) i;
      attribute_pairs = (if_there_both (has_attributes (with_attributes run.count file.fork v.header)) (has_attributes v.header) _ _ (there_now v a b was settled there count run later takes some file grown within tells) there (pairs_grown attributes_form IsAttrKey anything attr_cmp run v.attributes.file file a.content b.content (was.trees.attributes there) grown)) i;
      extents_tree = facts_on v.extents.file;
      catalog_tree = facts_on v.catalog.file;
      attributes_tree = facts_on file;
      bits = bits_on (lengthened_attributes run.count v later file);
    }
