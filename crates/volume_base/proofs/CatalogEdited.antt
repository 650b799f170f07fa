-- A volume stands over its space again behind an edit of its catalog: no sector of the catalog is one of another of its files.
use Rattle.std.proofs.Common.{◌≡◌, ◌⊎◌, ◌<◌, ◌≤◌, ℕ, ◌+◌, ◌-◌, ◌++◌, Bool, true, false, List, [], ◌∷◌, length, map, get_or, refl, sym, ◌∙◌, ap, subst, arith, inl, inr, ⊎_elim}
use Rattle.std.specs.Prelude.{Contains, IsTrue, Result, Ok, Err, OnOk, slice_index, if◌then◌else◌}
use Rattle.std.specs.List.{All}
use Rattle.std.proofs.lemmas.List.Elements.{Contains-append_left, Contains-append_right}
use Rattle.alloc_bitmap.specs.Apart.{AreApart, times}
use Rattle.alloc_bitmap.proofs.ApartLaws.{times-append}
use Rattle.btree_edit.specs.Desk.{IsDeskOf}
use Rattle.btree_node.specs.Keys.{IsCatalogKey, IsExtentKey, IsAttrKey, catalog_cmp, extent_cmp, attr_cmp, is_eight_extents, anything}
use Rattle.btree_node.specs.Levels.{Pair}
use Rattle.btree_node.specs.Tree.{pairs_of}
use Rattle.btree_node.specs.TreeFile.{TreeFile as File, store_of, tree_head, extents_form, catalog_form, attributes_form}
use Rattle.hx_bytes.specs.declared.faults.Trouble.{Trouble}
use Rattle.jnl_format.specs.Recovery.{info_sector_of}
use Rattle.sector_disk.specs.Lists.{Content, sector}
use Rattle.sector_disk.specs.Space.{Space}
use Rattle.btree_file.specs.Frame.{FollowsOn}
use Rattle.btree_file.specs.FrameLaws.{same_sectors}
use Rattle.btree_file.specs.Standing.{HoldsTree, LiesOpen, pairs_in}
use Rattle.btree_file.specs.State.{sectors_of_tree}
use Rattle.btree_file.proofs.Edited.{file_elsewhere, held_elsewhere}
use Rattle.hfs_volume.specs.Content.{overflow_in_volume, has_attributes}
use Rattle.hfs_volume.specs.Forks.{extents_of, allocation_id, attributes_id, catalog_id, data_kind}
use Rattle.hfs_volume.specs.Records.{Overflow, overflow_of}
use Rattle.volume_base.specs.Lists.{lists_of}
use Rattle.volume_base.specs.Service.{IsInService}
use Rattle.volume_base.specs.Standing.{IsStanding, StandsOver, attribute_sectors, map_sectors, file_sectors, own_sectors}
use Rattle.volume_base.specs.declared.volume.Tree.{Tree}
use Rattle.volume_base.specs.declared.volume.Volume.{Volume}
use Rattle.volume_base.proofs.Begun.{service_later}
use Rattle.volume_base.proofs.Placing.{default_is, stands_once}

-- a list in which nothing stands twice has nothing of one part in another
apart_parts : (s : ℕ) (head first second third fourth : List ℕ) → times s (head ++ (first ++ (second ++ (third ++ fourth)))) ≤ 1 → Contains second s → (Contains first s → ⊥) × (Contains third s → ⊥)
apart_parts s head first second third fourth once here = (
  λ other. absurd (omega (
    arith,
    once,
    times-append s head (first ++ (second ++ (third ++ fourth))),
    times-append s first (second ++ (third ++ fourth)),
    times-append s second (third ++ fourth),
    stands_once s second here,
    stands_once s first other,
  )),
  λ other. absurd (omega (
    arith,
    once,
    times-append s head (first ++ (second ++ (third ++ fourth))),
    times-append s first (second ++ (third ++ fourth)),
    times-append s second (third ++ fourth),
    times-append s third fourth,
    stands_once s second here,
    stands_once s third other,
  )),
)

pub there_is : (b : Bool) (xs : List ℕ) → b ≡ true → (if b then xs else []) ≡ xs
there_is true xs is = refl
there_is false xs is = absurd (cc is)

module _ (volume : Volume) (a b : Space) (later : Tree) where
  -- the volume with its catalog edited
  abbrev pub edited : Volume
  edited = record volume { catalog = later }

  module _ (follows : FollowsOn volume.catalog.file later.file a b) where
    pub catalog_same : sectors_of_tree later.file ≡ sectors_of_tree volume.catalog.file
    catalog_same = same_sectors volume.catalog.file later.file follows.file

    module _ (was : IsStanding volume a) (tells : IsTrue a.tells) (holds : HoldsTree catalog_form IsCatalogKey anything catalog_cmp later.file b.content) where
      pub other : (s : ℕ) → (Contains (sectors_of_tree volume.catalog.file) s → ⊥) → sector b.content s ≡ sector a.content s
      other s none = ⊎_elim (λ e. e) (λ here. absurd (none here)) ((follows.space.content tells).each s)

      parts : (s : ℕ) → Contains (sectors_of_tree volume.catalog.file) s → (Contains (sectors_of_tree volume.extents.file) s → ⊥) × (Contains (attribute_sectors volume) s → ⊥)
      parts s here = apart_parts s (2 ∷ []) (sectors_of_tree volume.extents.file) (sectors_of_tree volume.catalog.file) (attribute_sectors volume) (map_sectors volume) (was.apart s) here

      pub extents_same : (s : ℕ) → Contains (sectors_of_tree volume.extents.file) s → sector b.content s ≡ sector a.content s
      extents_same s has = other s (λ here. (parts s here).0 has)

      pub attributes_same : IsTrue (has_attributes volume.header) → (s : ℕ) → Contains (sectors_of_tree volume.attributes.file) s → sector b.content s ≡ sector a.content s
      attributes_same there s has = other s (λ here. (parts s here).1 (subst (λ (l : List ℕ). Contains l s) (sym (there_is (has_attributes volume.header) (sectors_of_tree volume.attributes.file) there)) has))

      overflow_same : overflow_in_volume (lists_of edited b.content) ≡ overflow_in_volume (lists_of volume a.content)
      overflow_same = ap (λ (f : File). map overflow_of (pairs_of (store_of f))) (file_elsewhere (sectors_of_tree volume.extents.file) a.content b.content extents_same)

      own_same : own_sectors edited ≡ own_sectors volume
      own_same = λ i. 2 ∷ sectors_of_tree volume.extents.file ++ (catalog_same i ++ (attribute_sectors volume ++ map_sectors volume))

      files_same : file_sectors edited ≡ file_sectors volume
      files_same = λ i. sectors_of_tree volume.extents.file ++ (catalog_same i ++ (attribute_sectors volume ++ map_sectors volume))

      pub stands_edited : IsStanding edited b
      stands_edited = record {
        trees = record {
          extents = held_elsewhere extents_form IsExtentKey is_eight_extents extent_cmp volume.extents.file a.content b.content extents_same was.trees.extents;
          catalog = holds;
          compare = (follows.form tells).compare ∙ was.trees.compare;
          attributes = λ there. held_elsewhere attributes_form IsAttrKey anything attr_cmp volume.attributes.file a.content b.content (attributes_same there) (was.trees.attributes there);
        };
        forks = record {
          extents = was.forks.extents;
          extents_per = was.forks.extents_per;
          catalog = follows.file.fork ∙ was.forks.catalog ∙ ap (λ (o : List Overflow). extents_of o catalog_id data_kind volume.header.catalog_fork) (sym overflow_same);
          catalog_per = follows.file.per_block ∙ was.forks.catalog_per;
          attributes = λ there. was.forks.attributes there ∙ ap (λ (o : List Overflow). extents_of o attributes_id data_kind volume.header.attributes_fork) (sym overflow_same);
          attributes_per = was.forks.attributes_per;
          map = was.forks.map ∙ ap (λ (o : List Overflow). extents_of o allocation_id data_kind volume.header.allocation_fork) (sym overflow_same);
          map_per = was.forks.map_per;
        };
        whole = λ at low. ⊎_elim (λ e. e ∙ was.whole at (omega (arith, low, (follows.space.content tells).size))) (λ e. e) (follows.space.sizes tells at);
        apart = subst (λ (l : List ℕ). AreApart l) (sym own_same) was.apart;
        blocks = was.blocks;
        closed = λ at is has. was.closed at ((follows.space.closed tells at).0 is) (subst (λ (l : List ℕ). Contains l at) own_same has);
        aside = λ at is has. was.aside at (subst (λ n. (at ≡ n - 2) ⊎ (at ≡ info_sector_of volume.header)) (follows.space.content tells).size is) (subst (λ (l : List ℕ). Contains l at) own_same has);
        large = omega (arith, was.large, (follows.space.content tells).size);
        inside = λ at has. was.inside at (subst (λ (l : List ℕ). Contains l at) files_same has);
        fit = omega (arith, was.fit, (follows.space.content tells).size);
        live = λ at is. subst (λ (l : List ℕ). Contains l at) (sym own_same) (⊎_elim (λ old. was.live at old) (λ here. of_catalog at here) (follows.space.live tells at is));
      }
        where
          of_catalog : (at : ℕ) → Contains (sectors_of_tree volume.catalog.file) at → Contains (own_sectors volume) at
          of_catalog at here = Contains-append_right (2 ∷ sectors_of_tree volume.extents.file) (sectors_of_tree volume.catalog.file ++ (attribute_sectors volume ++ map_sectors volume)) at
              (Contains-append_left (sectors_of_tree volume.catalog.file) (attribute_sectors volume ++ map_sectors volume) at here)

    -- told or not, it is in service
    pub serves_edited : IsInService volume a → IsDeskOf later.file.shape.node_size later.desk → IsInService edited b
    serves_edited was desk = record {
      extents = service_later volume.extents a b follows.space.same.sectors was.extents;
      catalog = record {
        desk = desk;
        inside = subst (λ (l : List ℕ). (k : ℕ) → k < length l → slice_index l k < b.sectors) (sym catalog_same)
            (subst (λ n. (k : ℕ) → k < length (sectors_of_tree volume.catalog.file) → slice_index (sectors_of_tree volume.catalog.file) k < n) (sym follows.space.same.sectors) was.catalog.inside);
      };
      attributes = service_later volume.attributes a b follows.space.same.sectors was.attributes;
      fits = was.fits;
      least = was.least;
      most = was.most;
      map_inside = subst (λ n. All (λ at. at < n) (map_sectors volume)) (sym follows.space.same.sectors) was.map_inside;
      map_long = was.map_long;
      marks = was.marks;
    }

-- the volume's own catalog lies open
pub catalog_open : (volume : Volume) (a : Space) → StandsOver volume a → LiesOpen volume.catalog.file a
catalog_open volume a was tells k low is =
    let sectors : List ℕ = sectors_of_tree volume.catalog.file in
    (was.stands tells).closed (get_or (sectors_of_tree volume.catalog.file) k 0) is
    (Contains-append_right (2 ∷ sectors_of_tree volume.extents.file) (sectors_of_tree volume.catalog.file ++ (attribute_sectors volume ++ map_sectors volume)) (get_or (sectors_of_tree volume.catalog.file) k 0)
    (Contains-append_left (sectors_of_tree volume.catalog.file) (attribute_sectors volume ++ map_sectors volume) (get_or (sectors_of_tree volume.catalog.file) k 0)
    (k, low, default_is (sectors_of_tree volume.catalog.file) k (get_or (sectors_of_tree volume.catalog.file) k 0) low)))

-- a whole edit of the catalog
pub stands_again : (volume : Volume) (a b : Space) (later : Tree) {A : Type 0} (result : Result A Trouble) → StandsOver volume a → FollowsOn volume.catalog.file later.file a b → IsDeskOf later.file.shape.node_size later.desk
    → (IsTrue a.tells → OnOk result (HoldsTree catalog_form IsCatalogKey anything catalog_cmp later.file b.content)) → OnOk result (StandsOver (edited volume a b later) b)
stands_again volume a b later (Ok answer) was follows desk holds = record {
  service = serves_edited volume a b later follows was.service desk;
  stands = λ tells. let told : IsTrue a.tells = sym follows.space.same.tells ∙ tells in stands_edited volume a b later follows (was.stands told) told (holds told);
}
stands_again volume a b later (Err why) was follows desk holds = tt
