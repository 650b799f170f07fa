-- A volume stands over its space again behind a put of its header: sector 2 is in none of its files.
use Rattle.std.proofs.Common.{◌≡◌, ◌⊎◌, ◌<◌, ◌≤◌, ℕ, ◌+◌, ◌-◌, ◌^◌, ◌++◌, Bool, true, false, List, [], ◌∷◌, length, map, refl, sym, ◌∙◌, ap, subst, arith, inl, inr, ⊎_elim}
use Rattle.std.specs.Prelude.{Contains, IsTrue, ◌≢◌, ◌==◌, ◌||◌, if◌then◌else◌}
use Rattle.std.specs.List.{All}
use Rattle.std.proofs.lemmas.Bool.{cases_eq, eqb-true}
use Rattle.std.proofs.lemmas.List.{get_or-set_same, length-set}
use Rattle.std.proofs.lemmas.List.Elements.{Contains-append_left, Contains-append_right}
use Rattle.alloc_bitmap.specs.Apart.{times}
use Rattle.alloc_bitmap.proofs.ApartLaws.{times-append}
use Rattle.btree_node.specs.Keys.{IsCatalogKey, IsExtentKey, IsAttrKey, catalog_cmp, extent_cmp, attr_cmp, is_eight_extents, anything}
use Rattle.btree_node.specs.Tree.{pairs_of}
use Rattle.btree_node.specs.TreeFile.{TreeFile as File, store_of, extents_form, catalog_form, attributes_form}
use Rattle.jnl_format.specs.Recovery.{info_sector_of}
use Rattle.sector_disk.specs.Lists.{Content, sector}
use Rattle.sector_disk.specs.Clock.{TimePasses}
use Rattle.sector_disk.specs.Space.{Space, SameSpace, Puts, TakesRoom, LeavesDurable}
use Rattle.sector_disk.proofs.PutLaws.{put_other}
use Rattle.btree_file.specs.Frame.{PutsWithin}
use Rattle.btree_file.specs.State.{sectors_of_tree}
use Rattle.btree_file.proofs.Edited.{file_elsewhere, held_elsewhere}
use Rattle.hfs_volume.specs.Content.{overflow_in_volume, has_attributes}
use Rattle.hfs_volume.specs.Forks.{extents_of, allocation_id, attributes_id, catalog_id, data_kind}
use Rattle.hfs_volume.specs.Records.{Overflow, overflow_of}
use Rattle.volume_header.specs.Header.{FitsHeader}
use Rattle.volume_header.specs.declared.header.VolumeHeader.{VolumeHeader}
use Rattle.volume_base.specs.Lists.{lists_of}
use Rattle.volume_base.specs.Service.{IsInService}
use Rattle.volume_base.specs.Standing.{IsStanding, StandsOver, attribute_sectors, map_sectors}
use Rattle.volume_base.specs.declared.volume.Volume.{Volume}
use Rattle.volume_base.proofs.Begun.{service_later}
use Rattle.volume_base.proofs.CatalogEdited.{there_is}
use Rattle.volume_base.proofs.Placing.{stands_once}
use Rattle.volume_base.proofs.Touched.{or_true, one_less}

module _ (volume : Volume) (a b : Space) (bytes : List ℕ) (was : IsStanding volume a) (puts : Puts a 2 bytes b) (long : length bytes ≡ 512) where
  -- its files
  abbrev files : List ℕ
  files = sectors_of_tree volume.extents.file ++ (sectors_of_tree volume.catalog.file ++ (attribute_sectors volume ++ map_sectors volume))

  no_header : (s : ℕ) → Contains files s → s ≢ 2
  no_header s has is = absurd (omega (arith, was.apart s, times-append s (2 ∷ []) files, stands_once s files has, stands_once s (2 ∷ []) (0, omega arith, sym is)))

  other : (s : ℕ) → Contains files s → sector b.content s ≡ sector a.content s
  other s has = put_other a b 2 bytes s puts (no_header s has)

  pub extents_same : (s : ℕ) → Contains (sectors_of_tree volume.extents.file) s → sector b.content s ≡ sector a.content s
  extents_same s has = other s (Contains-append_left (sectors_of_tree volume.extents.file) (sectors_of_tree volume.catalog.file ++ (attribute_sectors volume ++ map_sectors volume)) s has)

  pub catalog_same : (s : ℕ) → Contains (sectors_of_tree volume.catalog.file) s → sector b.content s ≡ sector a.content s
  catalog_same s has = other s (Contains-append_right (sectors_of_tree volume.extents.file) (sectors_of_tree volume.catalog.file ++ (attribute_sectors volume ++ map_sectors volume)) s
      (Contains-append_left (sectors_of_tree volume.catalog.file) (attribute_sectors volume ++ map_sectors volume) s has))

  pub attributes_same : IsTrue (has_attributes volume.header) → (s : ℕ) → Contains (sectors_of_tree volume.attributes.file) s → sector b.content s ≡ sector a.content s
  attributes_same there s has = other s (Contains-append_right (sectors_of_tree volume.extents.file) (sectors_of_tree volume.catalog.file ++ (attribute_sectors volume ++ map_sectors volume)) s
      (Contains-append_right (sectors_of_tree volume.catalog.file) (attribute_sectors volume ++ map_sectors volume) s
      (Contains-append_left (attribute_sectors volume) (map_sectors volume) s (subst (λ (l : List ℕ). Contains l s) (sym (there_is (has_attributes volume.header) (sectors_of_tree volume.attributes.file) there)) has))))

  overflow_same : overflow_in_volume (lists_of volume b.content) ≡ overflow_in_volume (lists_of volume a.content)
  overflow_same = ap (λ (f : File). map overflow_of (pairs_of (store_of f))) (file_elsewhere (sectors_of_tree volume.extents.file) a.content b.content extents_same)

  pub size_same : length b.content ≡ length a.content
  size_same = ap (λ (c : Content). length c) puts.content ∙ length-set a.content 2 bytes

  pub stands_put : IsStanding volume b
  stands_put = record {
    trees = record {
      extents = held_elsewhere extents_form IsExtentKey is_eight_extents extent_cmp volume.extents.file a.content b.content extents_same was.trees.extents;
      catalog = held_elsewhere catalog_form IsCatalogKey anything catalog_cmp volume.catalog.file a.content b.content catalog_same was.trees.catalog;
      compare = was.trees.compare;
      attributes = λ there. held_elsewhere attributes_form IsAttrKey anything attr_cmp volume.attributes.file a.content b.content (attributes_same there) (was.trees.attributes there);
    };
    forks = record {
      extents = was.forks.extents;
      extents_per = was.forks.extents_per;
      catalog = was.forks.catalog ∙ ap (λ (o : List Overflow). extents_of o catalog_id data_kind volume.header.catalog_fork) (sym overflow_same);
      catalog_per = was.forks.catalog_per;
      attributes = λ there. was.forks.attributes there ∙ ap (λ (o : List Overflow). extents_of o attributes_id data_kind volume.header.attributes_fork) (sym overflow_same);
      attributes_per = was.forks.attributes_per;
      map = was.forks.map ∙ ap (λ (o : List Overflow). extents_of o allocation_id data_kind volume.header.allocation_fork) (sym overflow_same);
      map_per = was.forks.map_per;
    };
    whole = λ at low. ⊎_elim
        (λ (e : at ≡ 2). ap (λ k. length (sector b.content k)) e ∙ ap (λ (c : Content). length (sector c 2)) puts.content
        ∙ ap (λ (l : List ℕ). length l) (get_or-set_same a.content 2 bytes [] (omega (arith, e, low, size_same))) ∙ long)
        (λ (e : at ≢ 2). ap (λ (l : List ℕ). length l) (put_other a b 2 bytes at puts e) ∙ was.whole at (omega (arith, low, size_same)))
        (cases_eq at 2);
    apart = was.apart;
    blocks = was.blocks;
    closed = λ at is has. was.closed at ((puts.closed at).0 is) has;
    aside = λ at is has. was.aside at (subst (λ n. (at ≡ n - 2) ⊎ (at ≡ info_sector_of volume.header)) size_same is) has;
    large = omega (arith, was.large, size_same);
    inside = was.inside;
    fit = omega (arith, was.fit, size_same);
    live = λ at is. ⊎_elim (λ old. was.live at old) (λ (e : at ≡ 2). (0, omega arith, sym e)) ((puts.live at).0 is);
  }

pub serves_later : (volume : Volume) (a b : Space) → b.sectors ≡ a.sectors → IsInService volume a → IsInService volume b
serves_later volume a b sectors was = record {
  extents = service_later volume.extents a b sectors was.extents;
  catalog = service_later volume.catalog a b sectors was.catalog;
  attributes = service_later volume.attributes a b sectors was.attributes;
  fits = was.fits;
  least = was.least;
  most = was.most;
  map_inside = subst (λ n. All (λ at. at < n) (map_sectors volume)) (sym sectors) was.map_inside;
  map_long = was.map_long;
  marks = was.marks;
}

pub stands_behind_put : (volume : Volume) (a b : Space) (bytes : List ℕ) → StandsOver volume a → SameSpace a b → length bytes ≡ 512 → (IsTrue a.tells → Puts a 2 bytes b) → StandsOver volume b
stands_behind_put volume a b bytes was same long puts = record {
  service = serves_later volume a b same.sectors was.service;
  stands = λ tells. let told : IsTrue a.tells = sym same.tells ∙ tells in stands_put volume a b bytes (was.stands told) (puts told) long;
}

-- the header's own sector isn't closed
pub header_open : (volume : Volume) (a : Space) → StandsOver volume a → IsTrue a.tells → a.closed 2 → ⊥
header_open volume a was tells is = (was.stands tells).closed 2 is (0, omega arith, refl)

-- the volume with another moment in its header
abbrev pub dated : ℕ → Volume → Volume
dated moment volume = record volume { header = record volume.header { modify_date = moment } }

-- and another moment has a spelling, too
pub fits_dated : (moment : ℕ) (head : VolumeHeader) → moment < 2 ^ 32 → FitsHeader head → FitsHeader (record head { modify_date = moment })
fits_dated moment head low was = record {
  signature = was.signature;
  version = was.version;
  attributes = was.attributes;
  last_mounted_version = was.last_mounted_version;
  journal_info_block = was.journal_info_block;
  create_date = was.create_date;
  modify_date = low;
  backup_date = was.backup_date;
  checked_date = was.checked_date;
  file_count = was.file_count;
  folder_count = was.folder_count;
  block_size = was.block_size;
  total_blocks = was.total_blocks;
  free_blocks = was.free_blocks;
  next_allocation = was.next_allocation;
  rsrc_clump_size = was.rsrc_clump_size;
  data_clump_size = was.data_clump_size;
  next_catalog_id = was.next_catalog_id;
  write_count = was.write_count;
  encodings_bitmap = was.encodings_bitmap;
  finder_length = was.finder_length;
  finder_info = was.finder_info;
  allocation_fork = was.allocation_fork;
  extents_fork = was.extents_fork;
  catalog_fork = was.catalog_fork;
  attributes_fork = was.attributes_fork;
  startup_fork = was.startup_fork;
}

pub stands_dated : (moment : ℕ) (volume : Volume) (a : Space) → moment < 2 ^ 32 → StandsOver volume a → StandsOver (dated moment volume) a
stands_dated moment volume a low was = record {
  service = record {
    extents = was.service.extents;
    catalog = was.service.catalog;
    attributes = was.service.attributes;
    fits = fits_dated moment volume.header low was.service.fits;
    least = was.service.least;
    most = was.service.most;
    map_inside = was.service.map_inside;
    map_long = was.service.map_long;
    marks = was.service.marks;
  };
  stands = λ tells.
      let here = was.stands tells in
      record {
        trees = record { extents = here.trees.extents; catalog = here.trees.catalog; compare = here.trees.compare; attributes = here.trees.attributes };
        forks = record {
          extents = here.forks.extents;
          extents_per = here.forks.extents_per;
          catalog = here.forks.catalog;
          catalog_per = here.forks.catalog_per;
          attributes = here.forks.attributes;
          attributes_per = here.forks.attributes_per;
          map = here.forks.map;
          map_per = here.forks.map_per;
        };
        whole = here.whole;
        apart = here.apart;
        blocks = here.blocks;
        closed = here.closed;
        aside = here.aside;
        large = here.large;
        inside = here.inside;
        fit = here.fit;
        live = here.live;
      };
}

-- told or not, a put of sector 2
pub put_within : (a b : Space) (bytes : List ℕ) → length bytes ≡ 512 → (IsTrue a.tells → 2 < length a.content) → SameSpace a b → (IsTrue a.tells → Puts a 2 bytes b) → (IsTrue a.tells → TimePasses a.clock b.clock (LeavesDurable b)) → TakesRoom a 2 b → b.faults ≡ a.faults
    → PutsWithin (2 ∷ []) a b
put_within a b bytes long large same puts time room faults = record {
  same = same;
  content = λ tells. record {
    size = ap (λ (c : Content). length c) (puts tells).content ∙ length-set a.content 2 bytes;
    each = λ at. ⊎_elim (λ (e : at ≡ 2). inr (0, omega arith, sym e)) (λ (e : at ≢ 2). inl (put_other a b 2 bytes at (puts tells) e)) (cases_eq at 2);
  };
  sizes = λ tells at. ⊎_elim
      (λ (e : at ≡ 2). inr (ap (λ k. length (sector b.content k)) e ∙ ap (λ (c : Content). length (sector c 2)) (puts tells).content ∙ ap (λ (l : List ℕ). length l) (get_or-set_same a.content 2 bytes [] (large tells)) ∙ long))
      (λ (e : at ≢ 2). inl (ap (λ (l : List ℕ). length l) (put_other a b 2 bytes at (puts tells) e)))
      (cases_eq at 2);
  durable = λ tells. (puts tells).durable;
  spilled = λ tells. (puts tells).spilled;
  live = λ tells s now. ⊎_elim (λ old. inl old) (λ (e : s ≡ 2). inr (0, omega arith, sym e)) (((puts tells).live s).0 now);
  still_live = λ tells s before. ((puts tells).live s).1 (inl before);
  closed = λ tells. (puts tells).closed;
  put = λ s. by s (s == 2) refl;
  still_put = λ s was. room.put s ∙ or_true (s == 2) (a.put s) was;
  spare = subst (λ n. n ≤ a.spare) (sym room.spare) (one_less (a.put 2) a.spare);
  faults = omega (arith, faults);
  time = time;
}
  where
    by : (s : ℕ) (x : Bool) → (s == 2) ≡ x → (b.put s ≡ a.put s) ⊎ Contains (2 ∷ []) s
    by s true is = inr (0, omega arith, sym (eqb-true s 2 is))
    by s false is = inl (room.put s ∙ ap (λ x. x || a.put s) is)

-- it counts as put, and a sector that was put before takes no room
pub put_counts : (a b : Space) → TakesRoom a 2 b → IsTrue (b.put 2)
put_counts a b room = room.put 2

pub put_again : (a b : Space) → IsTrue (a.put 2) → TakesRoom a 2 b → b.spare ≡ a.spare
put_again a b was room = room.spare ∙ ap (λ x. if x then a.spare else a.spare - 1) was

pub put_spent : (a b : Space) → TakesRoom a 2 b → a.spare ≤ b.spare + 1
put_spent a b room = subst (λ n. a.spare ≤ n + 1) (sym room.spare) (by (a.put 2))
  where
    by : (x : Bool) → a.spare ≤ (if x then a.spare else a.spare - 1) + 1
    by true = omega arith
    by false = omega arith
