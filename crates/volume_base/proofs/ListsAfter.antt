-- The lists of a volume behind an edit of its catalog, behind a put of its header, and with other numbers in its header.
use Rattle.std.proofs.Common.{◌≡◌, ◌⊎◌, ◌<◌, ◌≤◌, ℕ, ◌-◌, ◌*◌, ◌++◌, Bool, true, false, List, [], ◌∷◌, length, replicate, refl, sym, ◌∙◌, ap, subst, arith, inl, inr, ⊎_elim}
use Rattle.std.specs.Prelude.{Contains, IsTrue, ◌≢◌, if◌then◌else◌}
use Rattle.std.proofs.lemmas.Bool.{cases_eq}
use Rattle.std.proofs.lemmas.List.{get_or-set_same}
use Rattle.std.proofs.lemmas.List.Elements.{Contains-append_left, Contains-append_right}
use Rattle.alloc_bitmap.specs.Apart.{times}
use Rattle.alloc_bitmap.proofs.ApartLaws.{times-append}
use Rattle.btree_node.specs.Keys.{IsCatalogKey, catalog_cmp, anything}
use Rattle.btree_node.specs.Levels.{Pair}
use Rattle.btree_node.specs.Tree.{pairs_of}
use Rattle.btree_node.specs.TreeFile.{TreeFile as File, store_of, catalog_form}
use Rattle.sector_disk.specs.Lists.{Content, sector}
use Rattle.sector_disk.specs.Space.{Space, Puts, AgreesOutside}
use Rattle.sector_disk.proofs.PutLaws.{put_other}
use Rattle.btree_file.specs.Frame.{FollowsOn}
use Rattle.btree_file.specs.Standing.{HoldsTree, pairs_in}
use Rattle.btree_file.specs.State.{sectors_of_tree}
use Rattle.btree_file.proofs.Edited.{file_elsewhere}
use Rattle.jnl_format.specs.Recovery.{header_of_volume, info_sector_of}
use Rattle.volume_header.specs.Header.{header_of, header_bytes, FitsHeader}
use Rattle.volume_header.specs.declared.header.VolumeHeader.{VolumeHeader}
use Rattle.volume_header.proofs.ReadBack.{header_of-header_bytes}
use Rattle.hfs_volume.specs.Changes.{with_numbers}
use Rattle.hfs_volume.specs.Content.{VolumeState, has_attributes, journal_place}
use Rattle.volume_base.specs.Changing.{ChangesCatalog}
use Rattle.volume_base.specs.Lists.{lists_of, facts_on, bits_on}
use Rattle.volume_base.specs.Standing.{IsStanding, attribute_sectors, map_sectors, file_sectors, own_sectors}
use Rattle.volume_base.specs.declared.volume.Tree.{Tree}
use Rattle.volume_base.specs.declared.volume.Volume.{Volume}
use Rattle.volume_base.proofs.CatalogEdited.{edited, catalog_same, other, extents_same, attributes_same}
use Rattle.volume_base.proofs.HeaderPut as put
use Rattle.volume_base.proofs.Placing.{stands_once}

-- the same pairs, where there is such a tree
pub if_there : (b : Bool) (one other : List Pair) → (b ≡ true → one ≡ other) → (if b then one else []) ≡ (if b then other else [])
if_there true one other same = same refl
if_there false one other same = refl

pub file_pairs : (sectors : List ℕ) (a b : Content) → ((s : ℕ) → Contains sectors s → sector b s ≡ sector a s) → pairs_in sectors b ≡ pairs_in sectors a
file_pairs sectors a b same = ap (λ (f : File). pairs_of (store_of f)) (file_elsewhere sectors a b same)

-- ---- an edit of the catalog

module _ (volume : Volume) (a b : Space) (later : Tree) (follows : FollowsOn volume.catalog.file later.file a b) (was : IsStanding volume a) (tells : IsTrue a.tells) (holds : HoldsTree catalog_form IsCatalogKey anything catalog_cmp later.file b.content) where
  of_catalog : (at : ℕ) → Contains (sectors_of_tree volume.catalog.file) at → Contains (file_sectors volume) at
  of_catalog at here = Contains-append_right (sectors_of_tree volume.extents.file) (sectors_of_tree volume.catalog.file ++ (attribute_sectors volume ++ map_sectors volume)) at
      (Contains-append_left (sectors_of_tree volume.catalog.file) (attribute_sectors volume ++ map_sectors volume) at here)

  own_catalog : (at : ℕ) → Contains (sectors_of_tree volume.catalog.file) at → Contains (own_sectors volume) at
  own_catalog at here = Contains-append_right (2 ∷ []) (file_sectors volume) at (of_catalog at here)

  apart : (at : ℕ) → (Contains (sectors_of_tree volume.catalog.file) at → ⊥) → sector b.content at ≡ sector a.content at
  apart at none = other volume a b later follows was tells holds at none

  -- the header's sector isn't the catalog's
  pub header_apart : Contains (sectors_of_tree volume.catalog.file) 2 → ⊥
  header_apart here = absurd (omega (arith, was.apart 2, times-append 2 (2 ∷ []) (file_sectors volume), stands_once 2 (2 ∷ []) (0, omega arith, refl), stands_once 2 (file_sectors volume) (of_catalog 2 here)))

  pub header_stays : header_of_volume b.content ≡ header_of_volume a.content
  header_stays = ap header_of (apart 2 header_apart)

  size : length b.content ≡ length a.content
  size = (follows.space.content tells).size

  alternate : sector b.content (length b.content - 2) ≡ sector a.content (length a.content - 2)
  alternate = ap (λ n. sector b.content (n - 2)) size ∙ apart (length a.content - 2) (λ here. was.aside (length a.content - 2) (inl refl) (own_catalog (length a.content - 2) here))

  info : sector b.content (info_sector_of volume.header) ≡ sector a.content (info_sector_of volume.header)
  info = apart (info_sector_of volume.header) (λ here. was.aside (info_sector_of volume.header) (inr refl) (own_catalog (info_sector_of volume.header) here))

  pub lists_edited : lists_of (edited volume a b later) b.content ≡ record (lists_of volume a.content) { catalog_pairs = pairs_in (sectors_of_tree volume.catalog.file) b.content; catalog_tree = facts_on later.file }
  lists_edited = λ i. record {
    sectors = size i;
    head = volume.header;
    alternate = header_of (alternate i);
    journal = journal_place (info i);
    overflow_pairs = file_pairs (sectors_of_tree volume.extents.file) a.content b.content (extents_same volume a b later follows was tells holds) i;
    catalog_pairs = pairs_in (catalog_same volume a b later follows i) b.content;
    attribute_pairs = if_there (has_attributes volume.header) (pairs_in (sectors_of_tree volume.attributes.file) b.content) (pairs_in (sectors_of_tree volume.attributes.file) a.content)
        (λ there. file_pairs (sectors_of_tree volume.attributes.file) a.content b.content (attributes_same volume a b later follows was tells holds there)) i;
    extents_tree = facts_on volume.extents.file;
    catalog_tree = facts_on later.file;
    attributes_tree = facts_on volume.attributes.file;
    bits = bits_on volume;
  }

  pub catalog_changes : ChangesCatalog volume (edited volume a b later) a.content b.content
  catalog_changes = record {
    lists = lists_edited ∙ (λ i. record (lists_of volume a.content) { catalog_pairs = pairs_in (sym (catalog_same volume a b later follows) i) b.content; catalog_tree = facts_on later.file });
    numbers = refl;
    map = refl;
    extents = refl;
    attributes = refl;
    private = refl;
    catalog = catalog_same volume a b later follows;
    nodes = (follows.file.total, follows.file.node_size);
    outside = record { size = size; each = λ at. ⊎_elim (λ same. inl same) (λ here. inr (inr here)) ((follows.space.content tells).each at) };
  }

-- ---- a put of the header

module _ (volume : Volume) (a b : Space) (was : IsStanding volume a) (puts : Puts a 2 (header_bytes volume.header) b) (long : length (header_bytes volume.header) ≡ 512) where
  put_apart : (at : ℕ) → at ≢ 2 → sector b.content at ≡ sector a.content at
  put_apart at differs = put_other a b 2 (header_bytes volume.header) at puts differs

  put_size : length b.content ≡ length a.content
  put_size = put.size_same volume a b (header_bytes volume.header) was puts long

  not_header : (at : ℕ) → (at ≡ length a.content - 2) ⊎ (at ≡ info_sector_of volume.header) → at ≢ 2
  not_header at aside is = was.aside at aside (0, omega arith, sym is)

  put_alternate : sector b.content (length b.content - 2) ≡ sector a.content (length a.content - 2)
  put_alternate = ap (λ n. sector b.content (n - 2)) put_size ∙ put_apart (length a.content - 2) (not_header (length a.content - 2) (inl refl))

  put_info : sector b.content (info_sector_of volume.header) ≡ sector a.content (info_sector_of volume.header)
  put_info = put_apart (info_sector_of volume.header) (not_header (info_sector_of volume.header) (inr refl))

  pub lists_put : lists_of volume b.content ≡ lists_of volume a.content
  lists_put = λ i. record {
    sectors = put_size i;
    head = volume.header;
    alternate = header_of (put_alternate i);
    journal = journal_place (put_info i);
    overflow_pairs = file_pairs (sectors_of_tree volume.extents.file) a.content b.content (put.extents_same volume a b (header_bytes volume.header) was puts long) i;
    catalog_pairs = file_pairs (sectors_of_tree volume.catalog.file) a.content b.content (put.catalog_same volume a b (header_bytes volume.header) was puts long) i;
    attribute_pairs = if_there (has_attributes volume.header) (pairs_in (sectors_of_tree volume.attributes.file) b.content) (pairs_in (sectors_of_tree volume.attributes.file) a.content)
        (λ there. file_pairs (sectors_of_tree volume.attributes.file) a.content b.content (put.attributes_same volume a b (header_bytes volume.header) was puts long there)) i;
    extents_tree = facts_on volume.extents.file;
    catalog_tree = facts_on volume.catalog.file;
    attributes_tree = facts_on volume.attributes.file;
    bits = bits_on volume;
  }

  pub put_changes : ChangesCatalog volume volume a.content b.content
  put_changes = record {
    lists = lists_put ∙ (λ i. record (lists_of volume a.content) { catalog_pairs = sym (file_pairs (sectors_of_tree volume.catalog.file) a.content b.content (put.catalog_same volume a b (header_bytes volume.header) was puts long)) i });
    numbers = refl;
    map = refl;
    extents = refl;
    attributes = refl;
    private = refl;
    catalog = refl;
    nodes = (refl, refl);
    outside = record { size = put_size; each = λ at. ⊎_elim (λ (is : at ≡ 2). inr (inl is)) (λ (differs : at ≢ 2). inl (put_apart at differs)) (cases_eq at 2) };
  }

  -- the content has the header that was put
  pub header_is : FitsHeader volume.header → header_of_volume b.content ≡ volume.header
  header_is fits = ap (λ (c : Content). header_of (sector c 2)) puts.content
      ∙ ap header_of (get_or-set_same a.content 2 (header_bytes volume.header) [] was.large) ∙ header_of-header_bytes volume.header fits

-- ---- other numbers in the header

-- with other numbers in its header, and nothing put
pub numbers_change : (volume : Volume) (head : VolumeHeader) (content : Content) → ChangesCatalog volume (record volume { header = with_numbers volume.header head }) content content
numbers_change volume head content = record {
  lists = refl;
  numbers = refl;
  map = refl;
  extents = refl;
  attributes = refl;
  private = refl;
  catalog = refl;
  nodes = (refl, refl);
  outside = record { size = refl; each = λ at. inl refl };
}

-- ---- one after another

pub changes_none : (volume : Volume) (content : Content) → ChangesCatalog volume volume content content
changes_none volume content = record {
  lists = refl;
  numbers = refl;
  map = refl;
  extents = refl;
  attributes = refl;
  private = refl;
  catalog = refl;
  nodes = (refl, refl);
  outside = record { size = refl; each = λ at. inl refl };
}

pub changes_both : (x y z : Volume) (a b c : Content) → ChangesCatalog x y a b → ChangesCatalog y z b c → ChangesCatalog x z a c
changes_both x y z a b c one two = record {
  lists = two.lists ∙ (λ i. record (one.lists i) { head = z.header; catalog_pairs = (lists_of z c).catalog_pairs; catalog_tree = facts_on z.catalog.file });
  numbers = two.numbers ∙ ap (λ (h : VolumeHeader). with_numbers h z.header) one.numbers;
  map = two.map ∙ one.map;
  extents = two.extents ∙ one.extents;
  attributes = two.attributes ∙ one.attributes;
  private = two.private ∙ one.private;
  catalog = two.catalog ∙ one.catalog;
  nodes = (two.nodes.0 ∙ one.nodes.0, two.nodes.1 ∙ one.nodes.1);
  outside = record {
    size = two.outside.size ∙ one.outside.size;
    each = λ at. ⊎_elim
        (λ same. ⊎_elim (λ before. inl (same ∙ before)) (λ here. inr here) (one.outside.each at))
        (λ here. inr (⊎_elim (λ is. inl is) (λ has. inr (subst (λ (l : List ℕ). Contains l at) one.catalog has)) here))
        (two.outside.each at);
  };
}
