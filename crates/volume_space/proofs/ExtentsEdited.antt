-- A volume stands over its space again behind an edit of its extents overflow file: no sector of it is one of another of its files, and the records of the special files' forks are as they were.
use Rattle.std.proofs.Common.{◌≡◌, ◌≢◌, ◌⊎◌, ◌<◌, ◌≤◌, ℕ, ◌+◌, ◌-◌, ◌++◌, Bool, true, false, List, [], ◌∷◌, length, map, get_or, refl, sym, ◌∙◌, ap, subst, arith, inl, inr, ⊎_elim}
use Rattle.std.specs.Prelude.{Contains, IsTrue, Result, Ok, Err, IfOk, OnOk, not, slice_index, if◌then◌else◌}
use Rattle.std.specs.List.{All}
use Rattle.std.proofs.lemmas.List.Elements.{Contains-append_left, Contains-append_right}
use Rattle.alloc_bitmap.specs.Apart.{AreApart, times}
use Rattle.alloc_bitmap.proofs.ApartLaws.{times-append}
use Rattle.btree_edit.specs.Desk.{IsDeskOf}
use Rattle.btree_node.specs.Keys.{IsCatalogKey, IsExtentKey, IsAttrKey, catalog_cmp, extent_cmp, attr_cmp, is_eight_extents, anything}
use Rattle.btree_node.specs.Levels.{Pair}
use Rattle.btree_node.specs.Tree.{IsTree, HasValues, pairs_of}
use Rattle.btree_node.specs.TreeFile.{TreeFile as File, store_of, shape_of, tree_head, extents_form, catalog_form, attributes_form}
use Rattle.hx_bytes.specs.declared.extents.Extent.{Extent}
use Rattle.hx_bytes.specs.declared.extents.ForkRecord.{ForkRecord}
use Rattle.hx_bytes.specs.declared.faults.Trouble.{Trouble}
use Rattle.jnl_format.specs.Recovery.{header_of_volume, info_sector_of}
use Rattle.sector_disk.specs.Lists.{Content, sector}
use Rattle.sector_disk.specs.Space.{Space}
use Rattle.btree_file.specs.Frame.{FollowsOn, PutsWithin}
use Rattle.btree_file.specs.FrameLaws.{same_sectors}
use Rattle.btree_file.specs.Standing.{HoldsTree, pairs_in}
use Rattle.btree_file.specs.State.{sectors_of_tree, state_of, Agrees}
use Rattle.btree_file.specs.declared.tree.TreeFile.{TreeFile}
use Rattle.btree_file.proofs.Edited.{file_elsewhere, held_after, held_elsewhere}
use Rattle.volume_header.specs.Header.{header_of}
use Rattle.hfs_model.specs.Sorted.{kept}
use Rattle.hfs_volume.specs.Content.{overflow_in_volume, has_attributes, journal_place}
use Rattle.hfs_volume.specs.Forks.{extents_of, allocation_id, attributes_id, catalog_id, data_kind, is_of}
use Rattle.hfs_volume.specs.Records.{Overflow, overflow_of}
use Rattle.overflow.specs.Records.{records_for, under}
use Rattle.volume_base.specs.Lists.{lists_of, facts_on, bits_on}
use Rattle.volume_base.specs.Service.{IsInService}
use Rattle.volume_space.specs.Spreading.{StoresExtents}
use Rattle.volume_base.specs.Spreading.{StoresFork}
use Rattle.volume_base.specs.Standing.{IsStanding, StandsOver, attribute_sectors, map_sectors, file_sectors, own_sectors}
use Rattle.volume_base.specs.Touching.{Touches}
use Rattle.volume_base.specs.declared.volume.Tree.{Tree}
use Rattle.volume_base.specs.declared.volume.Volume.{Volume}
use Rattle.volume_base.proofs.Begun.{service_later}
use Rattle.volume_base.proofs.Placing.{stands_once}
use Rattle.volume_space.proofs.SpreadForks.{extents_alike}
use Rattle.volume_base.proofs.Touched.{touches_within}

-- behind edits of the extents overflow file the content has its tree again
pub holds_again : (names : List ℕ) (before after : TreeFile) (old new : Space) → IsTrue old.tells → FollowsOn before after old new → {A : Type 0} (result : Result A Trouble)
    → HoldsTree extents_form IsExtentKey is_eight_extents extent_cmp before old.content → Agrees after new.content → OnOk result (shape_of (tree_head after.header) ≡ after.shape)
    → OnOk result (IsTree IsExtentKey extent_cmp (state_of names after new)) → OnOk result (HasValues is_eight_extents (state_of names after new)) → OnOk result (HoldsTree extents_form IsExtentKey is_eight_extents extent_cmp after new.content)
holds_again names before after old new tells follows (Ok answer) was agrees settled rules values = held_after extents_form IsExtentKey is_eight_extents extent_cmp names before after old new tells was follows agrees settled rules values
holds_again names before after old new tells follows (Err why) was agrees settled rules values = settled

-- what a call that stores a fork says of its records and of all others
pub stores_both : (id kind : ℕ) (extents : List Extent) (old new : List Pair) {A : Type 0} (result : Result A Trouble) → OnOk result (kept (is_of id kind) (map overflow_of new) ≡ map (under id kind) (records_for extents))
    → OnOk result (kept (λ more. not (is_of id kind more)) (map overflow_of new) ≡ kept (λ more. not (is_of id kind more)) (map overflow_of old)) → IfOk result (λ answer. StoresFork id kind extents old new)
stores_both id kind extents old new (Ok answer) records others = record { records = records; others = others }
stores_both id kind extents old new (Err why) records others = records

pub told_so : {A : Type 0} (P : Type 0) (result : Result A Trouble) → IfOk result (λ answer. P) → OnOk result P
told_so P (Ok answer) told = told
told_so P (Err why) told = told

-- a list in which nothing stands twice has nothing of one part in another
pub apart_parts : (s : ℕ) (head first second third fourth : List ℕ) → times s (head ++ (first ++ (second ++ (third ++ fourth)))) ≤ 1 → Contains first s
    → (Contains head s → ⊥) × (Contains second s → ⊥) × (Contains third s → ⊥) × (Contains fourth s → ⊥)
apart_parts s head first second third fourth once here =
    let one = times-append s head (first ++ (second ++ (third ++ fourth))) in
    let two = times-append s first (second ++ (third ++ fourth)) in
    let three = times-append s second (third ++ fourth) in
    let four = times-append s third fourth in
    let it = stands_once s first here in (
      λ other. absurd (omega (arith, once, one, two, three, four, it, stands_once s head other)),
      λ other. absurd (omega (arith, once, one, two, three, four, it, stands_once s second other)),
      λ other. absurd (omega (arith, once, one, two, three, four, it, stands_once s third other)),
      λ other. absurd (omega (arith, once, one, two, three, four, it, stands_once s fourth other)),
    )

-- the sectors of the extents overflow file are the volume's own
pub extents_own : (volume : Volume) (at : ℕ) → Contains (sectors_of_tree volume.extents.file) at → Contains (own_sectors volume) at
extents_own volume at here =
    Contains-append_right (2 ∷ []) (file_sectors volume) at (Contains-append_left (sectors_of_tree volume.extents.file) (sectors_of_tree volume.catalog.file ++ (attribute_sectors volume ++ map_sectors volume)) at here)

module _ (volume : Volume) (a b : Space) (later : Tree) where
  -- the volume with its extents overflow file edited
  abbrev pub edited : Volume
  edited = record volume { extents = later }

  module _ (follows : FollowsOn volume.extents.file later.file a b) where
    pub file_same : sectors_of_tree later.file ≡ sectors_of_tree volume.extents.file
    file_same = same_sectors volume.extents.file later.file follows.file

    pub own_edited : own_sectors edited ≡ own_sectors volume
    own_edited = λ i. 2 ∷ file_same i ++ (sectors_of_tree volume.catalog.file ++ (attribute_sectors volume ++ map_sectors volume))

    module _ (id kind : ℕ) (extents : List Extent) (user : 16 ≤ id) (was : IsStanding volume a) (tells : IsTrue a.tells) (holds : HoldsTree extents_form IsExtentKey is_eight_extents extent_cmp later.file b.content)
        (stores : StoresFork id kind extents (pairs_in (sectors_of_tree volume.extents.file) a.content) (pairs_in (sectors_of_tree volume.extents.file) b.content)) where
      other : (s : ℕ) → (Contains (sectors_of_tree volume.extents.file) s → ⊥) → sector b.content s ≡ sector a.content s
      other s none = ⊎_elim (λ e. e) (λ here. absurd (none here)) ((follows.space.content tells).each s)

      parts : (s : ℕ) → Contains (sectors_of_tree volume.extents.file) s
          → (Contains (2 ∷ []) s → ⊥) × (Contains (sectors_of_tree volume.catalog.file) s → ⊥) × (Contains (attribute_sectors volume) s → ⊥) × (Contains (map_sectors volume) s → ⊥)
      parts s here = apart_parts s (2 ∷ []) (sectors_of_tree volume.extents.file) (sectors_of_tree volume.catalog.file) (attribute_sectors volume) (map_sectors volume) (was.apart s) here

      catalog_same : (s : ℕ) → Contains (sectors_of_tree volume.catalog.file) s → sector b.content s ≡ sector a.content s
      catalog_same s stands = other s (λ here. (parts s here).1 stands)

      attributes_same : IsTrue (has_attributes volume.header) → (s : ℕ) → Contains (sectors_of_tree volume.attributes.file) s → sector b.content s ≡ sector a.content s
      attributes_same has s stands = other s (λ here. (parts s here).2 (subst (λ c. Contains (if c then sectors_of_tree volume.attributes.file else []) s) (sym has) stands))

      header_stays : header_of_volume b.content ≡ header_of_volume a.content
      header_stays = ap header_of (other 2 (λ here. (parts 2 here).0 (0, omega arith, refl)))

      pairs_are : (lists_of edited b.content).overflow_pairs ≡ pairs_in (sectors_of_tree volume.extents.file) b.content
      pairs_are = λ i. pairs_in (file_same i) b.content

      stored : StoresFork id kind extents (lists_of volume a.content).overflow_pairs (lists_of edited b.content).overflow_pairs
      stored = subst (λ (l : List Pair). StoresFork id kind extents (lists_of volume a.content).overflow_pairs l) (sym pairs_are) stores

      -- the forks of special files have the extents that they had
      special_same : (low : ℕ) (fork : ForkRecord) → low < 16 → extents_of (overflow_in_volume (lists_of edited b.content)) low data_kind fork ≡ extents_of (overflow_in_volume (lists_of volume a.content)) low data_kind fork
      special_same low fork less = extents_alike id kind (overflow_in_volume (lists_of volume a.content)) (overflow_in_volume (lists_of edited b.content)) stored.others low data_kind fork (λ same. absurd (omega (arith, same, less, user)))

      files_same : file_sectors edited ≡ file_sectors volume
      files_same = λ i. file_same i ++ (sectors_of_tree volume.catalog.file ++ (attribute_sectors volume ++ map_sectors volume))

      pub stands_edited : IsStanding edited b
      stands_edited = record {
        trees = record {
          extents = holds;
          catalog = held_elsewhere catalog_form IsCatalogKey anything catalog_cmp volume.catalog.file a.content b.content catalog_same was.trees.catalog;
          compare = was.trees.compare;
          attributes = λ has. held_elsewhere attributes_form IsAttrKey anything attr_cmp volume.attributes.file a.content b.content (attributes_same has) (was.trees.attributes has);
        };
        forks = record {
          extents = follows.file.fork ∙ was.forks.extents;
          extents_per = follows.file.per_block ∙ was.forks.extents_per;
          catalog = was.forks.catalog ∙ sym (special_same catalog_id volume.header.catalog_fork (omega arith));
          catalog_per = was.forks.catalog_per;
          attributes = λ has. was.forks.attributes has ∙ sym (special_same attributes_id volume.header.attributes_fork (omega arith));
          attributes_per = was.forks.attributes_per;
          map = was.forks.map ∙ sym (special_same allocation_id volume.header.allocation_fork (omega arith));
          map_per = was.forks.map_per;
        };
        whole = λ at low. ⊎_elim (λ e. e ∙ was.whole at (omega (arith, low, (follows.space.content tells).size))) (λ e. e) (follows.space.sizes tells at);
        apart = subst (λ (l : List ℕ). AreApart l) (sym own_edited) was.apart;
        blocks = was.blocks;
        closed = λ at is stands. was.closed at ((follows.space.closed tells at).0 is) (subst (λ (l : List ℕ). Contains l at) own_edited stands);
        aside = λ at is stands. was.aside at (subst (λ n. (at ≡ n - 2) ⊎ (at ≡ info_sector_of volume.header)) (follows.space.content tells).size is) (subst (λ (l : List ℕ). Contains l at) own_edited stands);
        large = omega (arith, was.large, (follows.space.content tells).size);
        inside = λ at stands. was.inside at (subst (λ (l : List ℕ). Contains l at) files_same stands);
        fit = omega (arith, was.fit, (follows.space.content tells).size);
        live = λ at is. subst (λ (l : List ℕ). Contains l at) (sym own_edited) (⊎_elim (λ old. was.live at old) (λ here. extents_own volume at here) (follows.space.live tells at is));
      }

      -- ---- its lists

      size : length b.content ≡ length a.content
      size = (follows.space.content tells).size

      alternate : sector b.content (length b.content - 2) ≡ sector a.content (length a.content - 2)
      alternate = ap (λ n. sector b.content (n - 2)) size ∙ other (length a.content - 2) (λ here. was.aside (length a.content - 2) (inl refl) (extents_own volume (length a.content - 2) here))

      info : sector b.content (info_sector_of volume.header) ≡ sector a.content (info_sector_of volume.header)
      info = other (info_sector_of volume.header) (λ here. was.aside (info_sector_of volume.header) (inr refl) (extents_own volume (info_sector_of volume.header) here))

      attribute_pairs_same : (c : Bool) → has_attributes volume.header ≡ c → (if c then pairs_in (sectors_of_tree volume.attributes.file) b.content else []) ≡ (if c then pairs_in (sectors_of_tree volume.attributes.file) a.content else [])
      attribute_pairs_same true has = ap (λ (f : File). pairs_of (store_of f)) (file_elsewhere (sectors_of_tree volume.attributes.file) a.content b.content (attributes_same has))
      attribute_pairs_same false has = refl

      lists_edited : lists_of edited b.content ≡ record (lists_of volume a.content) { overflow_pairs = (lists_of edited b.content).overflow_pairs; extents_tree = facts_on later.file }
      lists_edited = λ i. record {
        sectors = size i;
        head = volume.header;
        alternate = header_of (alternate i);
        journal = journal_place (info i);
        overflow_pairs = (lists_of edited b.content).overflow_pairs;
        catalog_pairs = ap (λ (f : File). pairs_of (store_of f)) (file_elsewhere (sectors_of_tree volume.catalog.file) a.content b.content catalog_same) i;
        attribute_pairs = attribute_pairs_same (has_attributes volume.header) refl i;
        extents_tree = facts_on later.file;
        catalog_tree = facts_on volume.catalog.file;
        attributes_tree = facts_on volume.attributes.file;
        bits = bits_on volume;
      }

      pub extents_stored : StoresExtents id kind extents volume edited a.content b.content
      extents_stored = record {
        stores = stored;
        lists = lists_edited;
        rest = refl;
        file = record { sectors = file_same; total = follows.file.total; node_size = follows.file.node_size };
        headed = header_stays;
        outside = record { size = size; each = λ at. (follows.space.content tells).each at };
      }

    -- told or not, it is in service
    pub serves_edited : IsInService volume a → IsDeskOf later.file.shape.node_size later.desk → IsInService edited b
    serves_edited was desk = record {
      extents = record {
        desk = desk;
        inside = subst (λ (l : List ℕ). (k : ℕ) → k < length l → slice_index l k < b.sectors) (sym file_same)
            (subst (λ n. (k : ℕ) → k < length (sectors_of_tree volume.extents.file) → slice_index (sectors_of_tree volume.extents.file) k < n) (sym follows.space.same.sectors) was.extents.inside);
      };
      catalog = service_later volume.catalog a b follows.space.same.sectors was.catalog;
      attributes = service_later volume.attributes a b follows.space.same.sectors was.attributes;
      fits = was.fits;
      least = was.least;
      most = was.most;
      map_inside = subst (λ n. All (λ at. at < n) (map_sectors volume)) (sym follows.space.same.sectors) was.map_inside;
      map_long = was.map_long;
      marks = was.marks;
    }

-- a whole edit of the extents overflow file
pub stands_again : (volume : Volume) (a b : Space) (later : Tree) (id kind : ℕ) (extents : List Extent) {A : Type 0} (result : Result A Trouble) → 16 ≤ id → StandsOver volume a → FollowsOn volume.extents.file later.file a b → IsDeskOf later.file.shape.node_size later.desk
    → (IsTrue a.tells → OnOk result (HoldsTree extents_form IsExtentKey is_eight_extents extent_cmp later.file b.content))
    → (IsTrue a.tells → OnOk result (StoresFork id kind extents (pairs_in (sectors_of_tree volume.extents.file) a.content) (pairs_in (sectors_of_tree volume.extents.file) b.content)))
    → OnOk result (StandsOver (edited volume a b later) b)
stands_again volume a b later id kind extents (Ok answer) user was follows desk holds stores = record {
  service = serves_edited volume a b later follows was.service desk;
  stands = λ tells. let told : IsTrue a.tells = sym follows.space.same.tells ∙ tells in stands_edited volume a b later follows id kind extents user (was.stands told) told (holds told) (stores told);
}
stands_again volume a b later id kind extents (Err why) user was follows desk holds stores = tt

pub stored_again : (volume : Volume) (a b : Space) (later : Tree) (id kind : ℕ) (extents : List Extent) {A : Type 0} (result : Result A Trouble) → 16 ≤ id → IsStanding volume a → IsTrue a.tells → FollowsOn volume.extents.file later.file a b
    → OnOk result (HoldsTree extents_form IsExtentKey is_eight_extents extent_cmp later.file b.content) → OnOk result (StoresFork id kind extents (pairs_in (sectors_of_tree volume.extents.file) a.content) (pairs_in (sectors_of_tree volume.extents.file) b.content))
    → OnOk result (StoresExtents id kind extents volume (edited volume a b later) a.content b.content)
stored_again volume a b later id kind extents (Ok answer) user was tells follows holds stores = extents_stored volume a b later follows id kind extents user was tells holds stores
stored_again volume a b later id kind extents (Err why) user was tells follows holds stores = tt

-- its edits put the volume's own sectors
pub touches_extents : (volume : Volume) (committed : Content) (a b : Space) → PutsWithin (sectors_of_tree volume.extents.file) a b → Touches committed (λ s. Contains (own_sectors volume) s) a b
touches_extents volume committed a b was = touches_within committed (sectors_of_tree volume.extents.file) (λ s. Contains (own_sectors volume) s) a b (extents_own volume) was
