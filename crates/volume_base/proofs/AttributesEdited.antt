-- A volume stands over its space again behind an edit of its attributes: no sector of the attributes file is one of another of its files.
use Rattle.std.proofs.Common.{◌≡◌, ◌⊎◌, ◌<◌, ◌≤◌, ℕ, ◌+◌, ◌-◌, ◌++◌, Bool, true, false, List, [], ◌∷◌, length, map, get_or, refl, sym, ◌∙◌, ap, subst, arith, inl, inr, ⊎_elim}
use Rattle.std.specs.Prelude.{Contains, IsTrue, Result, Ok, Err, IfOk, OnOk, slice_index, if◌then◌else◌}
use Rattle.std.specs.List.{All}
use Rattle.std.proofs.lemmas.List.Elements.{Contains-append_left, Contains-append_right}
use Rattle.alloc_bitmap.specs.Apart.{AreApart, times}
use Rattle.alloc_bitmap.proofs.ApartLaws.{times-append}
use Rattle.btree_edit.specs.Desk.{IsDeskOf}
use Rattle.btree_node.specs.Keys.{IsCatalogKey, IsExtentKey, IsAttrKey, catalog_cmp, extent_cmp, attr_cmp, is_eight_extents, anything}
use Rattle.btree_node.specs.Levels.{Pair}
use Rattle.btree_node.specs.Tree.{IsTree, pairs_of}
use Rattle.btree_node.specs.TreeFile.{TreeFile as File, store_of, shape_of, tree_head, extents_form, catalog_form, attributes_form}
use Rattle.hx_bytes.specs.declared.faults.Trouble.{Trouble}
use Rattle.jnl_format.specs.Recovery.{header_of_volume, info_sector_of}
use Rattle.sector_disk.specs.Lists.{Content, sector}
use Rattle.sector_disk.specs.Space.{Space}
use Rattle.btree_file.specs.Frame.{FollowsOn, PutsWithin}
use Rattle.btree_file.specs.FrameLaws.{same_sectors}
use Rattle.btree_file.specs.Standing.{HoldsTree, LiesOpen, pairs_in}
use Rattle.btree_file.specs.State.{sectors_of_tree, state_of, Agrees}
use Rattle.btree_file.specs.declared.tree.TreeFile.{TreeFile}
use Rattle.btree_file.proofs.Edited.{file_elsewhere, held_after, held_elsewhere}
use Rattle.volume_header.specs.Header.{header_of}
use Rattle.hfs_volume.specs.Changes.{AreSortedAttributes}
use Rattle.hfs_volume.specs.Content.{overflow_in_volume, has_attributes, journal_place}
use Rattle.hfs_volume.specs.Forks.{extents_of, allocation_id, attributes_id, catalog_id, data_kind}
use Rattle.hfs_volume.specs.Records.{Overflow, overflow_of}
use Rattle.volume_base.specs.Attributing.{ChangesAttributes}
use Rattle.volume_base.specs.Lists.{lists_of, facts_on, bits_on}
use Rattle.volume_base.specs.Service.{IsInService}
use Rattle.volume_base.specs.Standing.{IsStanding, StandsOver, attribute_sectors, map_sectors, file_sectors, own_sectors}
use Rattle.volume_base.specs.Touching.{Touches}
use Rattle.volume_base.specs.Trees.{ChangesTrees}
use Rattle.volume_base.specs.declared.volume.Tree.{Tree}
use Rattle.volume_base.specs.declared.volume.Volume.{Volume}
use Rattle.volume_base.proofs.Begun.{service_later}
use Rattle.volume_base.proofs.CatalogEdited.{there_is}
use Rattle.volume_base.proofs.Facts.{size_is}
use Rattle.volume_base.proofs.Placing.{default_is, stands_once}
use Rattle.volume_base.proofs.Touched.{touches_within}

-- behind edits of the attributes file the content has its tree again
pub holds_again : (names : List ℕ) (before after : TreeFile) (old new : Space) → IsTrue old.tells → FollowsOn before after old new → {A : Type 0} (result : Result A Trouble)
    → HoldsTree attributes_form IsAttrKey anything attr_cmp before old.content → Agrees after new.content → OnOk result (shape_of (tree_head after.header) ≡ after.shape)
    → OnOk result (IsTree IsAttrKey attr_cmp (state_of names after new)) → OnOk result (HoldsTree attributes_form IsAttrKey anything attr_cmp after new.content)
holds_again names before after old new tells follows (Ok answer) was agrees settled rules = held_after attributes_form IsAttrKey anything attr_cmp names before after old new tells was follows agrees settled rules (λ k d low. tt)
holds_again names before after old new tells follows (Err why) was agrees settled rules = settled

-- a list in which nothing stands twice has nothing of one part in another
apart_parts : (s : ℕ) (head first second third fourth : List ℕ) → times s (head ++ (first ++ (second ++ (third ++ fourth)))) ≤ 1 → Contains third s
    → (Contains head s → ⊥) × (Contains first s → ⊥) × (Contains second s → ⊥) × (Contains fourth s → ⊥)
apart_parts s head first second third fourth once here =
    let one = times-append s head (first ++ (second ++ (third ++ fourth))) in
    let two = times-append s first (second ++ (third ++ fourth)) in
    let three = times-append s second (third ++ fourth) in
    let four = times-append s third fourth in
    let it = stands_once s third here in (
      λ other. absurd (omega (arith, once, one, two, three, four, it, stands_once s head other)),
      λ other. absurd (omega (arith, once, one, two, three, four, it, stands_once s first other)),
      λ other. absurd (omega (arith, once, one, two, three, four, it, stands_once s second other)),
      λ other. absurd (omega (arith, once, one, two, three, four, it, stands_once s fourth other)),
    )

-- the sectors of the attributes file are the volume's own
pub attributes_own : (volume : Volume) → IsTrue (has_attributes volume.header) → (at : ℕ) → Contains (sectors_of_tree volume.attributes.file) at → Contains (own_sectors volume) at
attributes_own volume has at here =
    Contains-append_right (2 ∷ sectors_of_tree volume.extents.file) (sectors_of_tree volume.catalog.file ++ (attribute_sectors volume ++ map_sectors volume)) at
    (Contains-append_right (sectors_of_tree volume.catalog.file) (attribute_sectors volume ++ map_sectors volume) at
    (Contains-append_left (attribute_sectors volume) (map_sectors volume) at (subst (λ (l : List ℕ). Contains l at) (sym (there_is (has_attributes volume.header) (sectors_of_tree volume.attributes.file) has)) here)))

module _ (volume : Volume) (a b : Space) (later : Tree) where
  -- the volume with its attributes edited
  abbrev pub edited : Volume
  edited = record volume { attributes = later }

  module _ (follows : FollowsOn volume.attributes.file later.file a b) where
    pub file_same : sectors_of_tree later.file ≡ sectors_of_tree volume.attributes.file
    file_same = same_sectors volume.attributes.file later.file follows.file

    module _ (has : IsTrue (has_attributes volume.header)) (was : IsStanding volume a) (tells : IsTrue a.tells) (holds : HoldsTree attributes_form IsAttrKey anything attr_cmp later.file b.content) where
      other : (s : ℕ) → (Contains (sectors_of_tree volume.attributes.file) s → ⊥) → sector b.content s ≡ sector a.content s
      other s none = ⊎_elim (λ e. e) (λ here. absurd (none here)) ((follows.space.content tells).each s)

      in_attributes : (s : ℕ) → Contains (sectors_of_tree volume.attributes.file) s → Contains (attribute_sectors volume) s
      in_attributes s here = subst (λ (l : List ℕ). Contains l s) (sym (there_is (has_attributes volume.header) (sectors_of_tree volume.attributes.file) has)) here

      parts : (s : ℕ) → Contains (sectors_of_tree volume.attributes.file) s
          → (Contains (2 ∷ []) s → ⊥) × (Contains (sectors_of_tree volume.extents.file) s → ⊥) × (Contains (sectors_of_tree volume.catalog.file) s → ⊥) × (Contains (map_sectors volume) s → ⊥)
      parts s here = apart_parts s (2 ∷ []) (sectors_of_tree volume.extents.file) (sectors_of_tree volume.catalog.file) (attribute_sectors volume) (map_sectors volume) (was.apart s) (in_attributes s here)

      extents_same : (s : ℕ) → Contains (sectors_of_tree volume.extents.file) s → sector b.content s ≡ sector a.content s
      extents_same s stands = other s (λ here. (parts s here).1 stands)

      catalog_same : (s : ℕ) → Contains (sectors_of_tree volume.catalog.file) s → sector b.content s ≡ sector a.content s
      catalog_same s stands = other s (λ here. (parts s here).2 stands)

      pub header_stays : header_of_volume b.content ≡ header_of_volume a.content
      header_stays = ap header_of (other 2 (λ here. (parts 2 here).0 (0, omega arith, refl)))

      overflow_same : overflow_in_volume (lists_of edited b.content) ≡ overflow_in_volume (lists_of volume a.content)
      overflow_same = ap (λ (f : File). map overflow_of (pairs_of (store_of f))) (file_elsewhere (sectors_of_tree volume.extents.file) a.content b.content extents_same)

      attribute_sectors_are : attribute_sectors edited ≡ attribute_sectors volume
      attribute_sectors_are = λ i. if has_attributes volume.header then file_same i else []

      own_same : own_sectors edited ≡ own_sectors volume
      own_same = λ i. 2 ∷ sectors_of_tree volume.extents.file ++ (sectors_of_tree volume.catalog.file ++ (attribute_sectors_are i ++ map_sectors volume))

      files_same : file_sectors edited ≡ file_sectors volume
      files_same = λ i. sectors_of_tree volume.extents.file ++ (sectors_of_tree volume.catalog.file ++ (attribute_sectors_are i ++ map_sectors volume))

      pub stands_edited : IsStanding edited b
      stands_edited = record {
        trees = record {
          extents = held_elsewhere extents_form IsExtentKey is_eight_extents extent_cmp volume.extents.file a.content b.content extents_same was.trees.extents;
          catalog = held_elsewhere catalog_form IsCatalogKey anything catalog_cmp volume.catalog.file a.content b.content catalog_same was.trees.catalog;
          compare = was.trees.compare;
          attributes = λ there. holds;
        };
        forks = record {
          extents = was.forks.extents;
          extents_per = was.forks.extents_per;
          catalog = was.forks.catalog ∙ ap (λ (o : List Overflow). extents_of o catalog_id data_kind volume.header.catalog_fork) (sym overflow_same);
          catalog_per = was.forks.catalog_per;
          attributes = λ there. follows.file.fork ∙ was.forks.attributes there ∙ ap (λ (o : List Overflow). extents_of o attributes_id data_kind volume.header.attributes_fork) (sym overflow_same);
          attributes_per = λ there. follows.file.per_block ∙ was.forks.attributes_per there;
          map = was.forks.map ∙ ap (λ (o : List Overflow). extents_of o allocation_id data_kind volume.header.allocation_fork) (sym overflow_same);
          map_per = was.forks.map_per;
        };
        whole = λ at low. ⊎_elim (λ e. e ∙ was.whole at (omega (arith, low, (follows.space.content tells).size))) (λ e. e) (follows.space.sizes tells at);
        apart = subst (λ (l : List ℕ). AreApart l) (sym own_same) was.apart;
        blocks = was.blocks;
        closed = λ at is stands. was.closed at ((follows.space.closed tells at).0 is) (subst (λ (l : List ℕ). Contains l at) own_same stands);
        aside = λ at is stands. was.aside at (subst (λ n. (at ≡ n - 2) ⊎ (at ≡ info_sector_of volume.header)) (follows.space.content tells).size is) (subst (λ (l : List ℕ). Contains l at) own_same stands);
        large = omega (arith, was.large, (follows.space.content tells).size);
        inside = λ at stands. was.inside at (subst (λ (l : List ℕ). Contains l at) files_same stands);
        fit = omega (arith, was.fit, (follows.space.content tells).size);
        live = λ at is. subst (λ (l : List ℕ). Contains l at) (sym own_same) (⊎_elim (λ old. was.live at old) (λ here. attributes_own volume has at here) (follows.space.live tells at is));
      }

      -- ---- its lists

      size : length b.content ≡ length a.content
      size = (follows.space.content tells).size

      alternate : sector b.content (length b.content - 2) ≡ sector a.content (length a.content - 2)
      alternate = ap (λ n. sector b.content (n - 2)) size ∙ other (length a.content - 2) (λ here. was.aside (length a.content - 2) (inl refl) (attributes_own volume has (length a.content - 2) here))

      info : sector b.content (info_sector_of volume.header) ≡ sector a.content (info_sector_of volume.header)
      info = other (info_sector_of volume.header) (λ here. was.aside (info_sector_of volume.header) (inr refl) (attributes_own volume has (info_sector_of volume.header) here))

      lists_edited : lists_of edited b.content ≡ record (lists_of volume a.content) { attribute_pairs = (lists_of edited b.content).attribute_pairs; attributes_tree = facts_on later.file }
      lists_edited = λ i. record {
        sectors = size i;
        head = volume.header;
        alternate = header_of (alternate i);
        journal = journal_place (info i);
        overflow_pairs = ap (λ (f : File). pairs_of (store_of f)) (file_elsewhere (sectors_of_tree volume.extents.file) a.content b.content extents_same) i;
        catalog_pairs = ap (λ (f : File). pairs_of (store_of f)) (file_elsewhere (sectors_of_tree volume.catalog.file) a.content b.content catalog_same) i;
        attribute_pairs = (lists_of edited b.content).attribute_pairs;
        extents_tree = facts_on volume.extents.file;
        catalog_tree = facts_on volume.catalog.file;
        attributes_tree = facts_on later.file;
        bits = bits_on volume;
      }

      pub attributes_change : ChangesTrees volume edited a.content b.content
      attributes_change = record {
        lists = lists_edited ∙ (λ i. record (lists_of volume a.content) {
          catalog_pairs = (sym lists_edited i).catalog_pairs;
          attribute_pairs = (lists_of edited b.content).attribute_pairs;
          attributes_tree = facts_on later.file;
        });
        numbers = refl;
        map = refl;
        extents = refl;
        private = refl;
        catalog = record { sectors = refl; total = refl; node_size = refl };
        attributes = record { sectors = file_same; total = follows.file.total; node_size = follows.file.node_size };
        outside = record { size = size; each = λ at. ⊎_elim (λ same. inl same) (λ here. inr (inr (inr (in_attributes at here)))) ((follows.space.content tells).each at) };
      }

      -- the pairs of the catalog are as they were, and those of the attributes are those of the new tree
      pub catalog_pairs_stay : (lists_of edited b.content).catalog_pairs ≡ (lists_of volume a.content).catalog_pairs
      catalog_pairs_stay = λ i. (lists_edited i).catalog_pairs

      pub attribute_pairs_are : (lists_of edited b.content).attribute_pairs ≡ pairs_in (sectors_of_tree volume.attributes.file) b.content
      attribute_pairs_are = ap (λ c. if c then pairs_in (sectors_of_tree later.file) b.content else []) has ∙ (λ i. pairs_in (file_same i) b.content)

    -- told or not, it is in service
    pub serves_edited : IsInService volume a → IsDeskOf later.file.shape.node_size later.desk → IsInService edited b
    serves_edited was desk = record {
      extents = service_later volume.extents a b follows.space.same.sectors was.extents;
      catalog = service_later volume.catalog a b follows.space.same.sectors was.catalog;
      attributes = record {
        desk = desk;
        inside = subst (λ (l : List ℕ). (k : ℕ) → k < length l → slice_index l k < b.sectors) (sym file_same)
            (subst (λ n. (k : ℕ) → k < length (sectors_of_tree volume.attributes.file) → slice_index (sectors_of_tree volume.attributes.file) k < n) (sym follows.space.same.sectors) was.attributes.inside);
      };
      fits = was.fits;
      least = was.least;
      most = was.most;
      map_inside = subst (λ n. All (λ at. at < n) (map_sectors volume)) (sym follows.space.same.sectors) was.map_inside;
      map_long = was.map_long;
      marks = was.marks;
    }

-- the volume's own attributes file lies open
pub attributes_open : (volume : Volume) (a : Space) → IsTrue (has_attributes volume.header) → StandsOver volume a → LiesOpen volume.attributes.file a
attributes_open volume a has was tells k low is =
    (was.stands tells).closed (get_or (sectors_of_tree volume.attributes.file) k 0) is
    (attributes_own volume has (get_or (sectors_of_tree volume.attributes.file) k 0) (k, low, default_is (sectors_of_tree volume.attributes.file) k (get_or (sectors_of_tree volume.attributes.file) k 0) low))

-- a whole edit of the attributes
pub stands_again : (volume : Volume) (a b : Space) (later : Tree) {A : Type 0} (result : Result A Trouble) → IsTrue (has_attributes volume.header) → StandsOver volume a → FollowsOn volume.attributes.file later.file a b → IsDeskOf later.file.shape.node_size later.desk
    → (IsTrue a.tells → OnOk result (HoldsTree attributes_form IsAttrKey anything attr_cmp later.file b.content)) → OnOk result (StandsOver (edited volume a b later) b)
stands_again volume a b later (Ok answer) has was follows desk holds = record {
  service = serves_edited volume a b later follows was.service desk;
  stands = λ tells. let told : IsTrue a.tells = sym follows.space.same.tells ∙ tells in stands_edited volume a b later follows has (was.stands told) told (holds told);
}
stands_again volume a b later (Err why) has was follows desk holds = tt

-- its edits put the volume's own sectors
pub touches_attributes : (volume : Volume) → IsTrue (has_attributes volume.header) → (committed : Content) (a b : Space) → PutsWithin (sectors_of_tree volume.attributes.file) a b → Touches committed (λ s. Contains (own_sectors volume) s) a b
touches_attributes volume has committed a b was = touches_within committed (sectors_of_tree volume.attributes.file) (λ s. Contains (own_sectors volume) s) a b (attributes_own volume has) was

-- a volume that has an attributes file has its pairs
pub pairs_where : (volume : Volume) (content : Content) → IsTrue (has_attributes volume.header) → (lists_of volume content).attribute_pairs ≡ pairs_in (sectors_of_tree volume.attributes.file) content
pairs_where volume content has = ap (λ c. if c then pairs_in (sectors_of_tree volume.attributes.file) content else []) has

-- where the space tells, the nodes of the attributes file are large enough
pub attributes_large : (volume : Volume) (a : Space) → StandsOver volume a → IsTrue (has_attributes volume.header) → IsTrue a.tells → 4096 ≤ volume.attributes.file.shape.node_size
attributes_large volume a was has tells =
    let holds = (was.stands tells).trees.attributes has in
    omega (arith, holds.file.has_form.least, size_is volume.attributes.file a.content holds.stands)

-- a volume with other attributes has the sectors that it had
pub own_same_still : (v w : Volume) → w ≡ record v { attributes = w.attributes } → sectors_of_tree w.attributes.file ≡ sectors_of_tree v.attributes.file → own_sectors w ≡ own_sectors v
own_same_still v w rest same =
    (λ i. own_sectors (rest i))
    ∙ (λ i. 2 ∷ sectors_of_tree v.extents.file ++ (sectors_of_tree v.catalog.file ++ ((if has_attributes v.header then same i else []) ++ map_sectors v)))

pub own_then : (v w : Volume) (a b : Space) → w ≡ record v { attributes = w.attributes } → FollowsOn v.attributes.file w.attributes.file a b → own_sectors w ≡ own_sectors v
own_then v w a b rest follows = own_same_still v w rest (same_sectors v.attributes.file w.attributes.file follows.file)

-- ---- what was done to them

module _ (volume : Volume) (a b : Space) (later : Tree) (has : IsTrue (has_attributes volume.header)) (was : IsStanding volume a) (tells : IsTrue a.tells) (follows : FollowsOn volume.attributes.file later.file a b) where
  done : (Does : List Pair → List Pair → Type 0) → HoldsTree attributes_form IsAttrKey anything attr_cmp later.file b.content → AreSortedAttributes (pairs_in (sectors_of_tree volume.attributes.file) b.content)
      → Does (pairs_in (sectors_of_tree volume.attributes.file) a.content) (pairs_in (sectors_of_tree volume.attributes.file) b.content) → ChangesAttributes Does volume (edited volume a b later) a.content b.content
  done Does holds sorted does = record {
    does = subst (λ (l : List Pair). Does l (lists_of (edited volume a b later) b.content).attribute_pairs) (sym (pairs_where volume a.content has))
        (subst (λ (l : List Pair). Does (pairs_in (sectors_of_tree volume.attributes.file) a.content) l) (sym (attribute_pairs_are volume a b later follows has was tells holds)) does);
    sorted = subst AreSortedAttributes (sym (attribute_pairs_are volume a b later follows has was tells holds)) sorted;
    changes = attributes_change volume a b later follows has was tells holds;
    catalog = catalog_pairs_stay volume a b later follows has was tells holds;
    rest = refl;
    headed = header_stays volume a b later follows has was tells holds;
  }

  pub attributes_changed : {T : Type 0} (Does : List Pair → List Pair → Type 0) (result : Result T Trouble) → OnOk result (HoldsTree attributes_form IsAttrKey anything attr_cmp later.file b.content)
      → OnOk result (AreSortedAttributes (pairs_in (sectors_of_tree volume.attributes.file) b.content)) → OnOk result (Does (pairs_in (sectors_of_tree volume.attributes.file) a.content) (pairs_in (sectors_of_tree volume.attributes.file) b.content))
      → OnOk result (ChangesAttributes Does volume (edited volume a b later) a.content b.content)
  attributes_changed Does (Ok answer) holds sorted does = done Does holds sorted does
  attributes_changed Does (Err why) holds sorted does = holds
