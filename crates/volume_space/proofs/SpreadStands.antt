-- A volume that stands but for the overflow records of one tree's fork stands whole once they are stored.
use Rattle.std.proofs.Common.{◌≡◌, ◌≢◌, ◌⊎◌, ℕ, ◌-◌, ◌++◌, Bool, true, false, List, [], ◌∷◌, length, map, refl, sym, ◌∙◌, ap, subst, arith, inl, inr, ⊎_elim}
use Rattle.std.specs.Prelude.{Contains, IsTrue, if◌then◌else◌}
use Rattle.std.specs.List.{flat_map}
use Rattle.std.proofs.lemmas.Bool.{cases_eq}
use Rattle.alloc_bitmap.specs.Apart.{AreApart}
use Rattle.btree_node.specs.Keys.{IsCatalogKey, IsExtentKey, IsAttrKey, catalog_cmp, extent_cmp, attr_cmp, is_eight_extents, anything}
use Rattle.btree_node.specs.Levels.{Pair}
use Rattle.btree_node.specs.Tree.{pairs_of}
use Rattle.btree_node.specs.TreeFile.{TreeFile as File, store_of, extents_form, catalog_form, attributes_form}
use Rattle.hx_bytes.specs.declared.extents.Extent.{Extent}
use Rattle.hx_bytes.specs.declared.extents.ForkRecord.{ForkRecord}
use Rattle.jnl_format.specs.Recovery.{info_sector_of}
use Rattle.sector_disk.specs.Lists.{sector}
use Rattle.sector_disk.specs.Space.{Space}
use Rattle.btree_file.specs.Frame.{FollowsOn}
use Rattle.btree_file.specs.FrameLaws.{same_sectors}
use Rattle.btree_file.specs.Standing.{HoldsTree, pairs_in}
use Rattle.btree_file.specs.State.{sectors_of_tree}
use Rattle.btree_file.proofs.Edited.{file_elsewhere, held_elsewhere}
use Rattle.volume_header.specs.Header.{header_of}
use Rattle.hfs_volume.specs.Blocks.{GoesOn}
use Rattle.hfs_volume.specs.Content.{overflow_in_volume, has_attributes, journal_place}
use Rattle.hfs_volume.specs.Forks.{extents_of, allocation_id, attributes_id, catalog_id, data_kind, extents_id, in_use, overflow_in}
use Rattle.hfs_volume.specs.Records.{Overflow, overflow_of}
use Rattle.overflow.proofs.Cutting.{AreUsed}
use Rattle.overflow.proofs.Whole.{stored_gives, stored_goes_on}
use Rattle.overflow.specs.Records.{eight_at}
use Rattle.volume_base.specs.Lists.{lists_of, facts_on, bits_on}
use Rattle.volume_space.specs.SpreadGrowth.{StandsBut}
use Rattle.volume_base.specs.Spreading.{StoresFork}
use Rattle.volume_base.specs.Standing.{IsStanding, attribute_sectors, map_sectors, file_sectors, own_sectors}
use Rattle.volume_base.specs.declared.volume.Tree.{Tree}
use Rattle.volume_base.specs.declared.volume.Volume.{Volume}
use Rattle.volume_space.proofs.ExtentsEdited.{apart_parts, extents_own}
use Rattle.volume_space.proofs.SpreadForks.{extents_alike}

-- the fork of a record with the first eight of these extents has them all, where its overflow records were stored
pub stored_is : (id : ℕ) (fork : ForkRecord) (list : List Extent) (old new : List Pair) → id ≢ extents_id → fork.extents ≡ eight_at list 0 → AreUsed list → StoresFork id data_kind list old new → extents_of (map overflow_of new) id data_kind fork ≡ list
unfolding extents_of
stored_is id fork list old new other gets used stores =
    ap (λ e. in_use e.extents ++ flat_map (λ (m : Overflow). in_use m.extents) (overflow_in (map overflow_of new) id data_kind)) gets ∙ stored_gives (map overflow_of new) id data_kind list other used stores.records

-- and it goes on behind the eight
pub goes_on_stored : (id : ℕ) (fork : ForkRecord) (list : List Extent) (old new : List Pair) → id ≢ extents_id → fork.extents ≡ eight_at list 0 → AreUsed list → StoresFork id data_kind list old new → GoesOn (map overflow_of new) (record { id = id; kind = data_kind; fork = fork })
goes_on_stored id fork list old new other gets used stores =
    subst (λ e. GoesOn (map overflow_of new) (record { id = id; kind = data_kind; fork = record fork { extents = e } })) (sym gets) (stored_goes_on (map overflow_of new) id data_kind list other used stores.records)

module _ (id : ℕ) (v : Volume) (a b : Space) (later : Tree) (was : StandsBut id v a) (tells : IsTrue a.tells) (follows : FollowsOn v.extents.file later.file a b) (list : List Extent) (used : AreUsed list) (other : id ≢ extents_id) (not_map : id ≢ allocation_id)
    (holds : HoldsTree extents_form IsExtentKey is_eight_extents extent_cmp later.file b.content) (stores : StoresFork id data_kind list (pairs_in (sectors_of_tree v.extents.file) a.content) (pairs_in (sectors_of_tree v.extents.file) b.content))
  where
    file_same : sectors_of_tree later.file ≡ sectors_of_tree v.extents.file
    file_same = same_sectors v.extents.file later.file follows.file

    own_same : own_sectors (record v { extents = later }) ≡ own_sectors v
    own_same = λ i. 2 ∷ file_same i ++ (sectors_of_tree v.catalog.file ++ (attribute_sectors v ++ map_sectors v))

    alone : (s : ℕ) → (Contains (sectors_of_tree v.extents.file) s → ⊥) → sector b.content s ≡ sector a.content s
    alone s none = ⊎_elim (λ e. e) (λ here. absurd (none here)) ((follows.space.content tells).each s)

    parts : (s : ℕ) → Contains (sectors_of_tree v.extents.file) s → (Contains (2 ∷ []) s → ⊥) × (Contains (sectors_of_tree v.catalog.file) s → ⊥) × (Contains (attribute_sectors v) s → ⊥) × (Contains (map_sectors v) s → ⊥)
    parts s here = apart_parts s (2 ∷ []) (sectors_of_tree v.extents.file) (sectors_of_tree v.catalog.file) (attribute_sectors v) (map_sectors v) (was.apart s) here

    pub catalog_alone : (s : ℕ) → Contains (sectors_of_tree v.catalog.file) s → sector b.content s ≡ sector a.content s
    catalog_alone s stands = alone s (λ here. (parts s here).1 stands)

    attributes_alone : IsTrue (has_attributes v.header) → (s : ℕ) → Contains (sectors_of_tree v.attributes.file) s → sector b.content s ≡ sector a.content s
    attributes_alone has s stands = alone s (λ here. (parts s here).2 (subst (λ c. Contains (if c then sectors_of_tree v.attributes.file else []) s) (sym has) stands))

    pub map_alone : (s : ℕ) → Contains (map_sectors v) s → sector b.content s ≡ sector a.content s
    map_alone s stands = alone s (λ here. (parts s here).3 stands)

    pub pairs_are : (lists_of (record v { extents = later }) b.content).overflow_pairs ≡ pairs_in (sectors_of_tree v.extents.file) b.content
    pairs_are = λ i. pairs_in (file_same i) b.content

    pub stored : StoresFork id data_kind list (lists_of v a.content).overflow_pairs (lists_of (record v { extents = later }) b.content).overflow_pairs
    stored = subst (λ (l : List Pair). StoresFork id data_kind list (lists_of v a.content).overflow_pairs l) (sym pairs_are) stores

    -- another fork has the extents that it had
    pub others_same : (low : ℕ) (fork : ForkRecord) → low ≢ id → extents_of (overflow_in_volume (lists_of (record v { extents = later }) b.content)) low data_kind fork ≡ extents_of (overflow_in_volume (lists_of v a.content)) low data_kind fork
    others_same low fork differs = extents_alike id data_kind (overflow_in_volume (lists_of v a.content)) (overflow_in_volume (lists_of (record v { extents = later }) b.content)) stored.others low data_kind fork differs

    size : length b.content ≡ length a.content
    size = (follows.space.content tells).size

    pub stands_whole : (id ≡ catalog_id → (v.catalog.file.fork ≡ list) × (v.header.catalog_fork.extents ≡ eight_at list 0)) → (id ≡ attributes_id → (v.attributes.file.fork ≡ list) × (v.header.attributes_fork.extents ≡ eight_at list 0)) → IsStanding (record v { extents = later }) b
    stands_whole catalog attributes = record {
      trees = record {
        extents = holds;
        catalog = held_elsewhere catalog_form IsCatalogKey anything catalog_cmp v.catalog.file a.content b.content catalog_alone was.trees.catalog;
        compare = was.trees.compare;
        attributes = λ has. held_elsewhere attributes_form IsAttrKey anything attr_cmp v.attributes.file a.content b.content (attributes_alone has) (was.trees.attributes has);
      };
      forks = record {
        extents = follows.file.fork ∙ was.extents;
        extents_per = follows.file.per_block ∙ was.extents_per;
        catalog = catalog_now (cases_eq id catalog_id);
        catalog_per = was.catalog_per;
        attributes = λ has. attributes_now has (cases_eq id attributes_id);
        attributes_per = was.attributes_per;
        map = was.map ∙ sym (others_same allocation_id v.header.allocation_fork (λ same. not_map (sym same)));
        map_per = was.map_per;
      };
      whole = λ at low. ⊎_elim (λ e. e ∙ was.whole at (omega (arith, low, size))) (λ e. e) (follows.space.sizes tells at);
      apart = subst (λ (l : List ℕ). AreApart l) (sym own_same) was.apart;
      blocks = was.blocks;
      closed = λ at is stands. was.closed at ((follows.space.closed tells at).0 is) (subst (λ (l : List ℕ). Contains l at) own_same stands);
      aside = λ at is stands. was.aside at (subst (λ n. (at ≡ n - 2) ⊎ (at ≡ info_sector_of v.header)) size is) (subst (λ (l : List ℕ). Contains l at) own_same stands);
      large = omega (arith, was.large, size);
      inside = λ at stands. was.inside at (subst (λ (l : List ℕ). Contains l at) files_same stands);
      fit = omega (arith, was.fit, size);
      live = λ at is. subst (λ (l : List ℕ). Contains l at) (sym own_same) (⊎_elim (λ old. was.live at old) (λ here. extents_own v at here) (follows.space.live tells at is));
    }
      where
        files_same : file_sectors (record v { extents = later }) ≡ file_sectors v
        files_same = λ i. file_same i ++ (sectors_of_tree v.catalog.file ++ (attribute_sectors v ++ map_sectors v))

        catalog_now : (id ≡ catalog_id) ⊎ (id ≢ catalog_id) → v.catalog.file.fork ≡ extents_of (overflow_in_volume (lists_of (record v { extents = later }) b.content)) catalog_id data_kind v.header.catalog_fork
        catalog_now (inl is) =
            (catalog is).0 ∙ sym (subst (λ n. extents_of (overflow_in_volume (lists_of (record v { extents = later }) b.content)) n data_kind v.header.catalog_fork ≡ list) is
            (stored_is id v.header.catalog_fork list (lists_of v a.content).overflow_pairs (lists_of (record v { extents = later }) b.content).overflow_pairs other (catalog is).1 used stored))
        catalog_now (inr differs) = was.catalog differs ∙ sym (others_same catalog_id v.header.catalog_fork (λ same. differs (sym same)))

        attributes_now : IsTrue (has_attributes v.header) → (id ≡ attributes_id) ⊎ (id ≢ attributes_id) → v.attributes.file.fork ≡ extents_of (overflow_in_volume (lists_of (record v { extents = later }) b.content)) attributes_id data_kind v.header.attributes_fork
        attributes_now has (inl is) =
            (attributes is).0 ∙ sym (subst (λ n. extents_of (overflow_in_volume (lists_of (record v { extents = later }) b.content)) n data_kind v.header.attributes_fork ≡ list) is
            (stored_is id v.header.attributes_fork list (lists_of v a.content).overflow_pairs (lists_of (record v { extents = later }) b.content).overflow_pairs other (attributes is).1 used stored))
        attributes_now has (inr differs) = was.attributes differs has ∙ sym (others_same attributes_id v.header.attributes_fork (λ same. differs (sym same)))

    -- ---- its lists

    alternate : sector b.content (length b.content - 2) ≡ sector a.content (length a.content - 2)
    alternate = ap (λ n. sector b.content (n - 2)) size ∙ alone (length a.content - 2) (λ here. was.aside (length a.content - 2) (inl refl) (extents_own v (length a.content - 2) here))

    info : sector b.content (info_sector_of v.header) ≡ sector a.content (info_sector_of v.header)
    info = alone (info_sector_of v.header) (λ here. was.aside (info_sector_of v.header) (inr refl) (extents_own v (info_sector_of v.header) here))

    attribute_pairs_same : (c : Bool) → has_attributes v.header ≡ c → (if c then pairs_in (sectors_of_tree v.attributes.file) b.content else []) ≡ (if c then pairs_in (sectors_of_tree v.attributes.file) a.content else [])
    attribute_pairs_same true has = ap (λ (f : File). pairs_of (store_of f)) (file_elsewhere (sectors_of_tree v.attributes.file) a.content b.content (attributes_alone has))
    attribute_pairs_same false has = refl

    pub lists_whole : lists_of (record v { extents = later }) b.content ≡ record (lists_of v a.content) { overflow_pairs = (lists_of (record v { extents = later }) b.content).overflow_pairs; extents_tree = facts_on later.file }
    lists_whole = λ i. record {
      sectors = size i;
      head = v.header;
      alternate = header_of (alternate i);
      journal = journal_place (info i);
      overflow_pairs = (lists_of (record v { extents = later }) b.content).overflow_pairs;
      catalog_pairs = ap (λ (f : File). pairs_of (store_of f)) (file_elsewhere (sectors_of_tree v.catalog.file) a.content b.content catalog_alone) i;
      attribute_pairs = attribute_pairs_same (has_attributes v.header) refl i;
      extents_tree = facts_on later.file;
      catalog_tree = facts_on v.catalog.file;
      attributes_tree = facts_on v.attributes.file;
      bits = bits_on v;
    }
