-- A volume whose attributes file goes on in a run of free blocks stands over its space again: the run's sectors are in none of its files, and neither closed nor kept aside.
use Rattle.std.proofs.Common.{◌≡◌, ◌≢◌, ◌⊎◌, inl, inr, ◌<◌, ◌≤◌, ℕ, ◌+◌, ◌-◌, ◌*◌, ◌/◌, ◌==◌, Bool, true, false, not, List, [], ◌∷◌, ◌++◌, length, map, refl, sym, ◌∙◌, ap, subst, arith, ⊎_elim}
use Rattle.std.specs.Prelude.{Contains, IsTrue, if◌then◌else◌}
use Rattle.std.proofs.lemmas.Bool.{cases_eq, ne_eqb, true≢false}
use Rattle.std.proofs.lemmas.List.Elements.{Contains-append_left, Contains-append_right, Contains-append_cases}
use Rattle.hx_bytes.specs.declared.extents.Extent.{Extent}
use Rattle.fork_map.specs.Blocks.{blocks_of, fork_sectors}
use Rattle.fork_map.specs.Cut.{join}
use Rattle.jnl_format.specs.Recovery.{info_sector_of}
use Rattle.alloc_bitmap.specs.Apart.{AreApart, times}
use Rattle.alloc_bitmap.specs.Map.{BlockMap}
use Rattle.alloc_bitmap.proofs.ApartLaws.{times-append}
use Rattle.sector_disk.specs.Lists.{sector}
use Rattle.sector_disk.specs.Space.{Space}
use Rattle.btree_node.specs.Keys.{IsAttrKey, IsCatalogKey, IsExtentKey, anything, attr_cmp, catalog_cmp, extent_cmp, is_eight_extents}
use Rattle.btree_node.specs.Levels.{Pair}
use Rattle.btree_node.specs.Tree.{pairs_of}
use Rattle.btree_node.specs.TreeFile.{TreeFile as File, attributes_form, catalog_form, extents_form, store_of}
use Rattle.btree_file.specs.Frame.{PutsWithin}
use Rattle.btree_file.specs.Growth.{HasGrown, sectors_with}
use Rattle.btree_file.specs.State.{sectors_of_tree}
use Rattle.btree_file.specs.declared.tree.TreeFile.{TreeFile}
use Rattle.btree_file.proofs.Edited.{file_elsewhere, held_elsewhere}
use Rattle.btree_file.proofs.KeptTrees.{held_grown, pairs_grown}
use Rattle.btree_file.proofs.LongerFork.{joined, with_run}
use Rattle.hfs_volume.specs.Blocks.{GoesOn, forks_of}
use Rattle.hfs_volume.specs.Content.{VolumeState, has_attributes, journal_place, overflow_in_volume, volume_of}
use Rattle.hfs_volume.specs.Forks.{Owned, allocation_id, attributes_id, catalog_id, data_kind, extents_of, per_block_of}
use Rattle.hfs_volume.specs.Records.{Overflow, overflow_of}
use Rattle.hfs_volume.proofs.Members.{each_of, first_or_later}
use Rattle.hfs_volume.proofs.Untouched.{special_stands}
use Rattle.volume_header.specs.Header.{header_of}
use Rattle.overflow.specs.Records.{eight_at}
use Rattle.volume_space.specs.Growing.{IsOwnOrFree, TakesRun, lengthened_attributes, with_attributes}
use Rattle.volume_base.specs.Lists.{bits_on, facts_on, lists_of}
use Rattle.volume_base.specs.Standing.{IsSettled, IsStanding, attribute_sectors, file_sectors, map_sectors, own_sectors}
use Rattle.volume_base.specs.declared.volume.Volume.{Volume}
use Rattle.volume_base.proofs.CatalogEdited.{there_is}
use Rattle.volume_space.proofs.GrownForks.{longer_is}
use Rattle.volume_space.proofs.GrownFree.{free_at, off_aside, off_journal, off_own, run_low, some_per}
use Rattle.volume_space.proofs.GrownRun.{run_apart, same_fork, same_length, same_per}
use Rattle.volume_space.proofs.GrownStands.{there_or_none}
use Rattle.volume_base.proofs.ListsAfter.{file_pairs}
use Rattle.volume_base.proofs.Placing.{stands_once, times_sectors}
use Rattle.hfs_volume.specs.Aside.{IsJournalSector}

-- where a file has bytes, it has some with more of them
pub more_there : (n m : ℕ) → not (n == 0) ≡ true → not (n + m == 0) ≡ true
more_there n m some = ⊎_elim
    (λ (none : n ≡ 0). absurd (true≢false (sym some ∙ ap (λ k. not (k == 0)) none)))
    (λ (more : n ≢ 0). ap not (ne_eqb (n + m) 0 (λ both. more (omega (arith, both)))))
    (cases_eq n 0)

-- the same pairs, where there is such a tree before and behind
pub if_there_both : (x y : Bool) (one other : List Pair) → x ≡ true → y ≡ true → one ≡ other → (if x then one else []) ≡ (if y then other else [])
if_there_both x y one other first second same = (λ i. if first i then same i else []) ∙ sym (λ i. if second i then other else [])

module _ (v : Volume) (a b : Space) (was : IsStanding v a) (settled : IsSettled v a.content) (there : IsTrue (has_attributes v.header)) (count : ℕ) (run : Extent) (later : BlockMap) (takes : TakesRun count run v.map later) (some : 0 < run.count)
    (file : TreeFile) (grown : HasGrown run v.attributes.file file a.content b.content) (within : PutsWithin (sectors_with v.attributes.file run) a b) (tells : IsTrue a.tells)
  where
    abbrev w : Volume
    w = lengthened_attributes run.count v later file

    abbrev runs : List ℕ
    runs = fork_sectors (run ∷ []) v.attributes.file.per_block

    -- its blocks have the size that the catalog's have
    pub per_same : v.attributes.file.per_block ≡ v.catalog.file.per_block
    per_same = was.forks.attributes_per there ∙ sym was.forks.catalog_per

    pub as_run : (s : ℕ) → Contains (fork_sectors (run ∷ []) v.attributes.file.per_block) s → Contains (fork_sectors (run ∷ []) v.catalog.file.per_block) s
    as_run s has = subst (λ n. Contains (fork_sectors (run ∷ []) n) s) per_same has

    -- there was an attributes file, and there is one
    pub there_now : IsTrue (has_attributes (with_attributes run.count file.fork v.header))
    there_now = more_there v.header.attributes_fork.logical_size (run.count * v.header.block_size) there

    pub were : attribute_sectors v ≡ sectors_of_tree v.attributes.file
    were = there_is (has_attributes v.header) (sectors_of_tree v.attributes.file) there

    pub are : attribute_sectors (lengthened_attributes run.count v later file) ≡ sectors_of_tree file
    are = there_is (has_attributes (with_attributes run.count file.fork v.header)) (sectors_of_tree file) there_now

    -- ---- its sectors

    pub sectors_now : sectors_of_tree file ≡ sectors_of_tree v.attributes.file ++ fork_sectors (run ∷ []) v.attributes.file.per_block
    sectors_now = ap (λ n. fork_sectors file.fork n) grown.per_block ∙ joined v.attributes.file.fork file.fork run v.attributes.file.per_block grown.blocks

    put_there : (s : ℕ) → Contains (sectors_with v.attributes.file run) s → Contains (sectors_of_tree v.attributes.file) s ⊎ Contains (fork_sectors (run ∷ []) v.attributes.file.per_block) s
    put_there s has = Contains-append_cases (sectors_of_tree v.attributes.file) runs s (subst (λ (l : List ℕ). Contains l s) (with_run v.attributes.file.fork run v.attributes.file.per_block) has)

    pub map_same : map_sectors w ≡ map_sectors v
    map_same = λ i. fork_sectors (same_fork count run v.map later takes i) (same_per count run v.map later takes i)

    times_now : (s : ℕ) → times s (own_sectors w) ≡ times s (own_sectors v) + times s runs
    times_now s = omega (
      arith,
      times-append s (2 ∷ sectors_of_tree v.extents.file) (sectors_of_tree v.catalog.file ++ (attribute_sectors w ++ map_sectors w)),
      times-append s (2 ∷ sectors_of_tree v.extents.file) (sectors_of_tree v.catalog.file ++ (attribute_sectors v ++ map_sectors v)),
      times-append s (sectors_of_tree v.catalog.file) (attribute_sectors w ++ map_sectors w),
      times-append s (sectors_of_tree v.catalog.file) (attribute_sectors v ++ map_sectors v),
      times-append s (attribute_sectors w) (map_sectors w),
      times-append s (attribute_sectors v) (map_sectors v),
      ap (λ (l : List ℕ). times s l) map_same,
      ap (λ (l : List ℕ). times s l) (are ∙ sectors_now),
      ap (λ (l : List ℕ). times s l) were,
      times-append s (sectors_of_tree v.attributes.file) runs,
    )

    run_once : (s : ℕ) → times s runs ≤ 1
    run_once s = omega (arith, times_sectors v.attributes.file.per_block (blocks_of (run ∷ [])) s (omega (arith, per_same, some_per v a was settled count run later takes)), run_apart run (s / v.attributes.file.per_block))

    pub apart_now : AreApart (own_sectors w)
    apart_now s = ⊎_elim
        (λ (has : Contains runs s). ⊎_elim
        (λ (own : Contains (own_sectors v) s). absurd (off_own v a was settled count run later takes s (as_run s has) own))
        (λ (none : times s (own_sectors v) ≡ 0). omega (arith, times_now s, none, run_once s))
        (there_or_none s (own_sectors v)))
        (λ (none : times s runs ≡ 0). omega (arith, times_now s, none, was.apart s))
        (there_or_none s runs)

    -- each is one that the volume had, or one of the run
    pub own_now : (s : ℕ) → Contains (own_sectors w) s → Contains (own_sectors v) s ⊎ Contains (fork_sectors (run ∷ []) v.attributes.file.per_block) s
    own_now s has = ⊎_elim (λ (own : Contains (own_sectors v) s). inl own)
        (λ (none : times s (own_sectors v) ≡ 0). ⊎_elim (λ (there : Contains runs s). inr there)
        (λ (not : times s runs ≡ 0). absurd (omega (arith, stands_once s (own_sectors w) has, times_now s, none, not)))
        (there_or_none s runs))
        (there_or_none s (own_sectors v))

    -- and those that it had still are
    pub own_still : (s : ℕ) → Contains (own_sectors v) s → Contains (own_sectors w) s
    own_still s has = ⊎_elim (λ (own : Contains (own_sectors w) s). own) (λ (none : times s (own_sectors w) ≡ 0). absurd (omega (arith, none, times_now s, stands_once s (own_sectors v) has))) (there_or_none s (own_sectors w))

    pub run_own : (s : ℕ) → Contains (fork_sectors (run ∷ []) v.attributes.file.per_block) s → Contains (own_sectors w) s
    run_own s has = ⊎_elim (λ (own : Contains (own_sectors w) s). own) (λ (none : times s (own_sectors w) ≡ 0). absurd (omega (arith, none, times_now s, stands_once s runs has))) (there_or_none s (own_sectors w))

    -- what is its own besides is free
    pub own_gained : (s : ℕ) → Contains (own_sectors (lengthened_attributes run.count v later file)) s → IsOwnOrFree v s
    own_gained s has = ⊎_elim
        (λ (own : Contains (own_sectors v) s). inl own)
        (λ (none : times s (own_sectors v) ≡ 0). ⊎_elim
        (λ (there : Contains (fork_sectors (run ∷ []) v.attributes.file.per_block) s). inr (free_at v a was settled count run later takes s (as_run s there)))
        (λ (nor : times s (fork_sectors (run ∷ []) v.attributes.file.per_block) ≡ 0). absurd (omega (arith, none, nor, times_now s, stands_once s (own_sectors w) has)))
        (there_or_none s (fork_sectors (run ∷ []) v.attributes.file.per_block)))
        (there_or_none s (own_sectors v))

    attributes_own : (s : ℕ) → Contains (sectors_of_tree v.attributes.file) s → Contains (own_sectors v) s
    attributes_own s has = Contains-append_right (2 ∷ sectors_of_tree v.extents.file) (sectors_of_tree v.catalog.file ++ (attribute_sectors v ++ map_sectors v)) s
        (Contains-append_right (sectors_of_tree v.catalog.file) (attribute_sectors v ++ map_sectors v) s (Contains-append_left (attribute_sectors v) (map_sectors v) s (subst (λ (l : List ℕ). Contains l s) (sym were) has)))

    pub put_own : (s : ℕ) → Contains (sectors_with v.attributes.file run) s → Contains (own_sectors w) s
    put_own s has = ⊎_elim (λ here. own_still s (attributes_own s here)) (λ there. run_own s there) (put_there s has)

    -- ---- what wasn't put

    pub elsewhere : (s : ℕ) → (Contains (sectors_of_tree v.attributes.file) s → ⊥) → (Contains (fork_sectors (run ∷ []) v.attributes.file.per_block) s → ⊥) → sector b.content s ≡ sector a.content s
    elsewhere s none nor = ⊎_elim (λ same. same) (λ has. absurd (⊎_elim (λ here. none here) (λ there. nor there) (put_there s has))) ((within.content tells).each s)

    pub size : length b.content ≡ length a.content
    size = (within.content tells).size

    parts : (s : ℕ)
        → times s (2 ∷ []) + (times s (sectors_of_tree v.extents.file) + (times s (sectors_of_tree v.catalog.file) + (times s (attribute_sectors v) + times s (map_sectors v)))) ≤ 1
    parts s = omega (
      arith,
      was.apart s,
      times-append s (2 ∷ []) (file_sectors v),
      times-append s (sectors_of_tree v.extents.file) (sectors_of_tree v.catalog.file ++ (attribute_sectors v ++ map_sectors v)),
      times-append s (sectors_of_tree v.catalog.file) (attribute_sectors v ++ map_sectors v),
      times-append s (attribute_sectors v) (map_sectors v),
    )

    in_files : (s : ℕ) → Contains (file_sectors v) s → Contains (own_sectors v) s
    in_files s has = Contains-append_right (2 ∷ []) (file_sectors v) s has

    -- a sector that is the volume's own, but not the attributes file's, is as it was
    other_same : (s : ℕ) → Contains (own_sectors v) s → (Contains (sectors_of_tree v.attributes.file) s → ⊥) → sector b.content s ≡ sector a.content s
    other_same s own none = elsewhere s none (λ has. off_own v a was settled count run later takes s (as_run s has) own)

    -- what stands in it stands in the list of its sectors
    in_it : (s : ℕ) → Contains (sectors_of_tree v.attributes.file) s → 1 ≤ times s (attribute_sectors v)
    in_it s has = stands_once s (attribute_sectors v) (subst (λ (l : List ℕ). Contains l s) (sym were) has)

    pub header_same : sector b.content 2 ≡ sector a.content 2
    header_same = other_same 2 (0, omega arith, refl) (λ has. omega (arith, parts 2, stands_once 2 (2 ∷ []) (0, omega arith, refl), in_it 2 has))

    pub extents_same : (s : ℕ) → Contains (sectors_of_tree v.extents.file) s → sector b.content s ≡ sector a.content s
    extents_same s has = other_same s (in_files s (Contains-append_left (sectors_of_tree v.extents.file) (sectors_of_tree v.catalog.file ++ (attribute_sectors v ++ map_sectors v)) s has))
        (λ other. omega (arith, parts s, stands_once s (sectors_of_tree v.extents.file) has, in_it s other))

    behind_extents : (s : ℕ) → Contains (sectors_of_tree v.catalog.file ++ (attribute_sectors v ++ map_sectors v)) s → Contains (own_sectors v) s
    behind_extents s has = in_files s (Contains-append_right (sectors_of_tree v.extents.file) (sectors_of_tree v.catalog.file ++ (attribute_sectors v ++ map_sectors v)) s has)

    pub catalog_same : (s : ℕ) → Contains (sectors_of_tree v.catalog.file) s → sector b.content s ≡ sector a.content s
    catalog_same s has = other_same s (behind_extents s (Contains-append_left (sectors_of_tree v.catalog.file) (attribute_sectors v ++ map_sectors v) s has))
        (λ other. omega (arith, parts s, stands_once s (sectors_of_tree v.catalog.file) has, in_it s other))

    pub bits_same : (s : ℕ) → Contains (map_sectors v) s → sector b.content s ≡ sector a.content s
    bits_same s has = other_same s (behind_extents s (Contains-append_right (sectors_of_tree v.catalog.file) (attribute_sectors v ++ map_sectors v) s (Contains-append_right (attribute_sectors v) (map_sectors v) s has)))
        (λ other. omega (arith, parts s, stands_once s (map_sectors v) has, in_it s other))

    pub aside_same : (s : ℕ) → (s ≡ length a.content - 2) ⊎ (s ≡ info_sector_of v.header) → sector b.content s ≡ sector a.content s
    aside_same s aside = elsewhere s (λ has. was.aside s aside (attributes_own s has)) (λ has. off_aside v a was settled count run later takes s (as_run s has) aside)

    pub overflow_same : overflow_in_volume (lists_of v b.content) ≡ overflow_in_volume (lists_of v a.content)
    overflow_same = ap (λ (f : File). map overflow_of (pairs_of (store_of f))) (file_elsewhere (sectors_of_tree v.extents.file) a.content b.content extents_same)

    -- ---- its fork

    pub goes_on : GoesOn (overflow_in_volume (lists_of v a.content)) (record { id = attributes_id; kind = data_kind; fork = v.header.attributes_fork })
    goes_on =
        let lists = volume_of a.content in
        let owned : Owned = record { id = attributes_id; kind = data_kind; fork = (volume_of a.content).head.attributes_fork } in
        subst (λ (l : VolumeState). GoesOn (overflow_in_volume l) (record { id = attributes_id; kind = data_kind; fork = l.head.attributes_fork })) settled.lists
        (each_of (GoesOn (overflow_in_volume (volume_of a.content))) (forks_of (volume_of a.content)) settled.sound.blocks.forks.goes_on (record { id = attributes_id; kind = data_kind; fork = (volume_of a.content).head.attributes_fork }) (special_stands (volume_of a.content) _ (4, omega arith, refl)))

    module _ (eight : length v.header.attributes_fork.extents.extents ≡ 8) (few : length v.attributes.file.fork < 8) where
      few_were : length (extents_of (overflow_in_volume (lists_of v a.content)) attributes_id data_kind v.header.attributes_fork) < 8
      few_were = subst (λ (es : List Extent). length es < 8) (was.forks.attributes there) few

      pub attributes_fork : file.fork ≡ extents_of (overflow_in_volume (lists_of v a.content)) attributes_id data_kind (with_attributes run.count file.fork v.header).attributes_fork
      attributes_fork =
          let behind : file.fork ≡ join (extents_of (overflow_in_volume (lists_of v a.content)) attributes_id data_kind v.header.attributes_fork) (run ∷ []) = grown.extents ∙ ap (λ es. join es (run ∷ [])) (was.forks.attributes there) in
          behind ∙ sym (longer_is attributes_id (overflow_in_volume (lists_of v a.content)) v.header.attributes_fork eight goes_on few_were run (λ none. absurd (omega (arith, some, none))) (with_attributes run.count file.fork v.header).attributes_fork
          (ap (λ es. eight_at es 0) behind))

      -- ---- it stands

      module _ (shut : (at : ℕ) → a.closed at → IsJournalSector a.content at) where
        pub stands_longer : IsStanding (lengthened_attributes run.count v later file) b
        stands_longer = record {
          trees = record {
            extents = held_elsewhere extents_form IsExtentKey is_eight_extents extent_cmp v.extents.file a.content b.content extents_same was.trees.extents;
            catalog = held_elsewhere catalog_form IsCatalogKey anything catalog_cmp v.catalog.file a.content b.content catalog_same was.trees.catalog;
            compare = was.trees.compare;
            attributes = λ told. held_grown attributes_form IsAttrKey anything attr_cmp run v.attributes.file file a.content b.content (was.trees.attributes there) grown;
          };
          forks = record {
            extents = was.forks.extents;
            extents_per = was.forks.extents_per;
            catalog = was.forks.catalog ∙ ap (λ (o : List Overflow). extents_of o catalog_id data_kind v.header.catalog_fork) (sym overflow_same);
            catalog_per = was.forks.catalog_per;
            attributes = λ told. attributes_fork ∙ ap (λ (o : List Overflow). extents_of o attributes_id data_kind (with_attributes run.count file.fork v.header).attributes_fork) (sym overflow_same);
            attributes_per = λ told. grown.per_block ∙ was.forks.attributes_per there;
            map = same_fork count run v.map later takes ∙ was.forks.map ∙ ap (λ (o : List Overflow). extents_of o allocation_id data_kind v.header.allocation_fork) (sym overflow_same);
            map_per = same_per count run v.map later takes ∙ was.forks.map_per;
          };
          whole = λ at low. ⊎_elim (λ same. same ∙ was.whole at (omega (arith, low, size))) (λ is. is) (within.sizes tells at);
          apart = apart_now;
          blocks = same_length count run v.map later takes ∙ was.blocks;
          closed = λ at is has.
              let before : a.closed at = (within.closed tells at).0 is in
              ⊎_elim (λ own. was.closed at before own) (λ there_. off_journal v a was settled count run later takes at (as_run at there_) (shut at before)) (own_now at has);
          aside = λ at is has.
              let before : (at ≡ length a.content - 2) ⊎ (at ≡ info_sector_of v.header) = subst (λ n. (at ≡ n - 2) ⊎ (at ≡ info_sector_of v.header)) size is in
              ⊎_elim (λ own. was.aside at before own) (λ there_. off_aside v a was settled count run later takes at (as_run at there_) before) (own_now at has);
          large = omega (arith, was.large, size);
          inside = λ at has. ⊎_elim (λ own. inside_of at own has) (λ there_. run_low v a was settled count run later takes at (as_run at there_)) (own_now at (Contains-append_right (2 ∷ []) (file_sectors w) at has));
          fit = omega (arith, was.fit, size);
          live = λ at is. ⊎_elim (λ old. own_still at (was.live at old)) (λ new. put_own at new) (within.live tells at is);
        }
          where
            -- 2 is in none of its files
            inside_of : (at : ℕ) → Contains (own_sectors v) at → Contains (file_sectors w) at → at < v.header.total_blocks * per_block_of v.header
            inside_of at own has = elim (first_or_later 2 at (file_sectors v) own) [
              | inl is ↦ absurd (omega (arith, apart_now 2, times-append 2 (2 ∷ []) (file_sectors w), stands_once 2 (2 ∷ []) (0, omega arith, refl), stands_once 2 (file_sectors w) (subst (λ n. Contains (file_sectors w) n) is has)))
              | inr files ↦ was.inside at files
            ]

      -- ---- its lists

      pub lists_longer : lists_of (lengthened_attributes run.count v later file) b.content ≡ record (lists_of v a.content) { head = with_attributes run.count file.fork v.header; attributes_tree = facts_on file; bits = bits_on (lengthened_attributes run.count v later file) }
      lists_longer = λ i. record {
        sectors = size i;
        head = with_attributes run.count file.fork v.header;
        alternate = header_of ((ap (λ n. sector b.content (n - 2)) size ∙ aside_same (length a.content - 2) (inl refl)) i);
        journal = journal_place (aside_same (info_sector_of v.header) (inr refl) i);
        overflow_pairs = file_pairs (sectors_of_tree v.extents.file) a.content b.content extents_same i;
        catalog_pairs = file_pairs (sectors_of_tree v.catalog.file) a.content b.content catalog_same i;
        attribute_pairs = (if_there_both (has_attributes (with_attributes run.count file.fork v.header)) (has_attributes v.header) _ _ there_now there (pairs_grown attributes_form IsAttrKey anything attr_cmp run v.attributes.file file a.content b.content (was.trees.attributes there) grown)) i;
        extents_tree = facts_on v.extents.file;
        catalog_tree = facts_on v.catalog.file;
        attributes_tree = facts_on file;
        bits = bits_on (lengthened_attributes run.count v later file);
      }
