-- A volume over a content that was committed: bytes of the journal alone differ, and no block is held any more.
use Rattle.std.proofs.Common.{◌≡◌, ◌⊎◌, ◌↔◌, ◌<◌, ◌≤◌, ◌-◌, ◌*◌, ℕ, Bool, true, false, ◌++◌, List, [], ◌∷◌, length, replicate, inl, inr, ⊎_elim, refl, sym, ◌∙◌, ap, subst, arith}
use Rattle.std.specs.Prelude.{Contains, IsTrue, Option, if◌then◌else◌}
use Rattle.std.proofs.lemmas.List.Elements.{Contains-append_left, Contains-append_right}
use Rattle.hx_bytes.specs.declared.extents.Extent.{Extent}
use Rattle.volume_header.specs.Header.{header_of}
use Rattle.volume_header.specs.declared.header.VolumeHeader.{VolumeHeader}
use Rattle.sector_disk.specs.Lists.{Content, sector}
use Rattle.sector_disk.specs.Space.{Space, AgreesOutside}
use Rattle.jnl_format.specs.Recovery.{header_of_volume, info_sector_of}
use Rattle.fork_map.specs.Blocks.{fork_sectors}
use Rattle.alloc_bitmap.specs.Apart.{AreApart}
use Rattle.alloc_bitmap.specs.declared.bitmap.Bitmap.{Bitmap}
use Rattle.btree_file.specs.Standing.{pairs_in}
use Rattle.btree_file.specs.State.{sectors_of_tree}
use Rattle.btree_file.proofs.Edited.{held_elsewhere}
use Rattle.btree_node.specs.Keys.{IsCatalogKey, IsExtentKey, IsAttrKey, catalog_cmp, extent_cmp, attr_cmp, is_eight_extents, anything}
use Rattle.btree_node.specs.Levels.{Pair}
use Rattle.btree_node.specs.TreeFile.{extents_form, catalog_form, attributes_form}
use Rattle.hfs_volume.specs.Aside.{AsideIsFree, IsAside, IsJournalSector, NamesJournal}
use Rattle.hfs_volume.specs.Content.{VolumeState, volume_of, records_of, overflow_in_volume, has_attributes, journal_place}
use Rattle.hfs_volume.specs.Forks.{extents_of, catalog_id, attributes_id, allocation_id, data_kind}
use Rattle.hfs_volume.specs.Links.{private_id}
use Rattle.hfs_volume.specs.Records.{overflow_of}
use Rattle.hfs_volume.specs.Sound.{IsSound, IsSoundVolume}
use Rattle.hfs_volume.specs.TreeOf.{tree_of}
use Rattle.volume_base.specs.Lists.{lists_of}
use Rattle.volume_base.specs.Standing.{HoldsTrees, HasItsForks, IsStanding, IsSettled, attribute_sectors, file_sectors, map_sectors, own_sectors, with_attributes_tree}
use Rattle.volume_base.specs.declared.volume.Filling.{Filling}
use Rattle.volume_base.specs.declared.volume.Kept.{Kept}
use Rattle.volume_base.specs.declared.volume.Volume.{Volume}
use Rattle.volume_base.proofs.ListsAfter.{file_pairs}

-- bytes of the journal's own sectors differ, and each of these sectors has its bytes
pub record DiffersInJournal (old new : Space) : Type 0 where
  pub agrees : AgreesOutside old.closed old.content new.content
  pub closed : (s : ℕ) → new.closed s ↔ old.closed s
  pub journal : (s : ℕ) → old.closed s → IsJournalSector old.content s
  pub names : NamesJournal old.content new.content
  pub whole : (s : ℕ) → new.closed s → s < length new.content → length (sector new.content s) ≡ 512
  pub live : (s : ℕ) → new.live s → old.live s

module _ (law : AsideIsFree) (v : Volume) (old new : Space) (was : IsStanding v old) (settled : IsSettled v old.content) (sound : IsSound old.content) (differs : DiffersInJournal old new) where
  aside : AgreesOutside (IsAside old.content) old.content new.content
  aside = record { size = differs.agrees.size; each = λ s. ⊎_elim (λ same. inl same) (λ shut. inr (inr (differs.journal s shut))) (differs.agrees.each s) }

  pub as_sound : IsSound new.content × (volume_of new.content ≡ volume_of old.content) × (tree_of new.content ≡ tree_of old.content)
  as_sound = law old.content new.content sound aside differs.names

  own : (s : ℕ) → Contains (own_sectors v) s → sector new.content s ≡ sector old.content s
  own s has = ⊎_elim (λ same. same) (λ shut. absurd (was.closed s shut has)) (differs.agrees.each s)

  in_extents : (s : ℕ) → Contains (sectors_of_tree v.extents.file) s → Contains (own_sectors v) s
  in_extents s has = Contains-append_right (2 ∷ []) (file_sectors v) s (Contains-append_left (sectors_of_tree v.extents.file) (sectors_of_tree v.catalog.file ++ (attribute_sectors v ++ map_sectors v)) s has)

  in_catalog : (s : ℕ) → Contains (sectors_of_tree v.catalog.file) s → Contains (own_sectors v) s
  in_catalog s has =
      Contains-append_right (2 ∷ sectors_of_tree v.extents.file) (sectors_of_tree v.catalog.file ++ (attribute_sectors v ++ map_sectors v)) s (Contains-append_left (sectors_of_tree v.catalog.file) (attribute_sectors v ++ map_sectors v) s has)

  in_attributes : IsTrue (has_attributes v.header) → (s : ℕ) → Contains (sectors_of_tree v.attributes.file) s → Contains (own_sectors v) s
  in_attributes there s has =
      let is : sectors_of_tree v.attributes.file ≡ attribute_sectors v = sym (ap (λ b. if b then sectors_of_tree v.attributes.file else []) there) in
      Contains-append_right (2 ∷ sectors_of_tree v.extents.file) (sectors_of_tree v.catalog.file ++ (attribute_sectors v ++ map_sectors v)) s
      (Contains-append_right (sectors_of_tree v.catalog.file) (attribute_sectors v ++ map_sectors v) s (Contains-append_left (attribute_sectors v) (map_sectors v) s (subst (λ (l : List ℕ). Contains l s) is has)))

  -- ---- its lists

  header_old : v.header ≡ header_of_volume old.content
  unfolding volume_of
  header_old = sym (ap (λ (l : VolumeState). l.head) settled.lists)

  header_new : v.header ≡ header_of_volume new.content
  unfolding volume_of
  header_new = header_old ∙ sym (ap (λ (l : VolumeState). l.head) as_sound.1)

  alternate_same : header_of (sector new.content (length new.content - 2)) ≡ header_of (sector old.content (length old.content - 2))
  unfolding volume_of
  alternate_same = ap (λ (l : VolumeState). l.alternate) as_sound.1

  journal_same : journal_place (sector new.content (info_sector_of v.header)) ≡ journal_place (sector old.content (info_sector_of v.header))
  unfolding volume_of
  journal_same =
      ap (λ (h : VolumeHeader). journal_place (sector new.content (info_sector_of h))) header_new ∙ ap (λ (l : VolumeState). l.journal) as_sound.1
      ∙ sym (ap (λ (h : VolumeHeader). journal_place (sector old.content (info_sector_of h))) header_old)

  overflow_same : pairs_in (sectors_of_tree v.extents.file) new.content ≡ pairs_in (sectors_of_tree v.extents.file) old.content
  overflow_same = file_pairs (sectors_of_tree v.extents.file) old.content new.content (λ s has. own s (in_extents s has))

  catalog_same : pairs_in (sectors_of_tree v.catalog.file) new.content ≡ pairs_in (sectors_of_tree v.catalog.file) old.content
  catalog_same = file_pairs (sectors_of_tree v.catalog.file) old.content new.content (λ s has. own s (in_catalog s has))

  attributes_same : (if has_attributes v.header then pairs_in (sectors_of_tree v.attributes.file) new.content else []) ≡ (if has_attributes v.header then pairs_in (sectors_of_tree v.attributes.file) old.content else [])
  attributes_same = by (has_attributes v.header) (λ there. file_pairs (sectors_of_tree v.attributes.file) old.content new.content (λ s has. own s (in_attributes there s has)))
    where
      by : (b : Bool) → (b ≡ true → pairs_in (sectors_of_tree v.attributes.file) new.content ≡ pairs_in (sectors_of_tree v.attributes.file) old.content)
          → (if b then pairs_in (sectors_of_tree v.attributes.file) new.content else []) ≡ (if b then pairs_in (sectors_of_tree v.attributes.file) old.content else [])
      by true same = same refl
      by false same = refl

  lists_same : lists_of v new.content ≡ lists_of v old.content
  lists_same = λ i. record (lists_of v old.content) {
    sectors = differs.agrees.size i;
    alternate = alternate_same i;
    journal = journal_same i;
    overflow_pairs = overflow_same i;
    catalog_pairs = catalog_same i;
    attribute_pairs = attributes_same i;
  }

  -- ---- with other marks of blocks that are held, and another growth in hand

  module _ (map_now : Bitmap) (kept_now : Kept) (filling_now : Option Filling) (used : map_now.used ≡ v.map.used) (fork : map_now.fork ≡ v.map.fork) (per_block : map_now.per_block ≡ v.map.per_block) where
    abbrev w : Volume
    w = record v { map = map_now; kept = kept_now; filling = filling_now }

    map_at : fork_sectors map_now.fork map_now.per_block ≡ fork_sectors v.map.fork v.map.per_block
    map_at = λ i. fork_sectors (fork i) (per_block i)

    own_same : own_sectors w ≡ own_sectors v
    own_same = λ i. 2 ∷ sectors_of_tree v.extents.file ++ (sectors_of_tree v.catalog.file ++ (attribute_sectors v ++ map_at i))

    files_same : file_sectors w ≡ file_sectors v
    files_same = λ i. sectors_of_tree v.extents.file ++ (sectors_of_tree v.catalog.file ++ (attribute_sectors v ++ map_at i))

    lists_then : lists_of w new.content ≡ lists_of v old.content
    lists_then = (λ i. record (lists_of v new.content) { bits = used i ++ replicate (8 * v.header.allocation_fork.logical_size - length (used i)) false }) ∙ lists_same

    overflow_then : overflow_in_volume (lists_of w new.content) ≡ overflow_in_volume (lists_of v old.content)
    overflow_then = ap overflow_in_volume lists_then

    trees_then : HoldsTrees w new.content
    trees_then = record {
      extents = held_elsewhere extents_form IsExtentKey is_eight_extents extent_cmp v.extents.file old.content new.content (λ s has. own s (in_extents s has)) was.trees.extents;
      catalog = held_elsewhere catalog_form IsCatalogKey anything catalog_cmp v.catalog.file old.content new.content (λ s has. own s (in_catalog s has)) was.trees.catalog;
      compare = was.trees.compare;
      attributes = λ there. held_elsewhere attributes_form IsAttrKey anything attr_cmp v.attributes.file old.content new.content (λ s has. own s (in_attributes there s has)) (was.trees.attributes there);
    }

    forks_then : HasItsForks w new.content
    forks_then = record {
      extents = was.forks.extents;
      extents_per = was.forks.extents_per;
      catalog = was.forks.catalog ∙ sym (λ i. extents_of (overflow_then i) catalog_id data_kind v.header.catalog_fork);
      catalog_per = was.forks.catalog_per;
      attributes = λ there. was.forks.attributes there ∙ sym (λ i. extents_of (overflow_then i) attributes_id data_kind v.header.attributes_fork);
      attributes_per = was.forks.attributes_per;
      map = fork ∙ was.forks.map ∙ sym (λ i. extents_of (overflow_then i) allocation_id data_kind v.header.allocation_fork);
      map_per = per_block ∙ was.forks.map_per;
    }

    pub stands_elsewhere : IsStanding w new
    stands_elsewhere = record {
      trees = trees_then;
      forks = forks_then;
      whole = λ s inside. ⊎_elim (λ same. ap (λ (l : List ℕ). length l) same ∙ was.whole s (omega (arith, inside, differs.agrees.size))) (λ shut. differs.whole s ((differs.closed s).1 shut) inside) (differs.agrees.each s);
      apart = subst AreApart (sym own_same) was.apart;
      blocks = ap (λ (l : List Bool). length l) used ∙ was.blocks;
      closed = λ s shut has. was.closed s ((differs.closed s).0 shut) (subst (λ (l : List ℕ). Contains l s) own_same has);
      aside = λ s is has. was.aside s (subst (λ n. (s ≡ n - 2) ⊎ (s ≡ info_sector_of v.header)) differs.agrees.size is) (subst (λ (l : List ℕ). Contains l s) own_same has);
      large = omega (arith, was.large, differs.agrees.size);
      inside = λ s has. was.inside s (subst (λ (l : List ℕ). Contains l s) files_same has);
      fit = omega (arith, was.fit, differs.agrees.size);
      live = λ s l. subst (λ (xs : List ℕ). Contains xs s) (sym own_same) (was.live s (differs.live s l));
    }

    pub settled_elsewhere : IsSettled w new.content
    settled_elsewhere = record {
      blocks = ap (λ (l : List Bool). length l) used ∙ settled.blocks;
      lists = as_sound.1 ∙ settled.lists ∙ sym (λ i. with_attributes_tree (lists_then i) (as_sound.1 i));
      attributes = λ there. ap (λ (l : VolumeState). l.attributes_tree) as_sound.1 ∙ settled.attributes there;
      sound = subst IsSoundVolume (sym as_sound.1) settled.sound;
      private = settled.private ∙ sym (ap (λ (l : VolumeState). private_id (records_of l)) as_sound.1);
    }
