-- Changes of the catalog, the attributes and the header's numbers, one after another.
use Rattle.std.proofs.Common.{◌≡◌, ◌⊎◌, ℕ, Bool, true, false, List, [], refl, sym, ◌∙◌, ap, subst, inl, inr, ⊎_elim}
use Rattle.std.specs.Prelude.{Contains, if◌then◌else◌}
use Rattle.sector_disk.specs.Lists.{Content}
use Rattle.volume_header.specs.declared.header.VolumeHeader.{VolumeHeader}
use Rattle.btree_file.specs.State.{sectors_of_tree}
use Rattle.hfs_volume.specs.Changes.{with_numbers}
use Rattle.hfs_volume.specs.Content.{VolumeState, has_attributes}
use Rattle.volume_base.specs.Changing.{ChangesCatalog}
use Rattle.volume_base.specs.Lists.{lists_of, facts_on}
use Rattle.volume_base.specs.Standing.{attribute_sectors}
use Rattle.volume_base.specs.Trees.{ChangesTrees}
use Rattle.volume_base.specs.declared.volume.Tree.{Tree}
use Rattle.volume_base.specs.declared.volume.Volume.{Volume}

-- a change of the catalog is one
pub catalog_in_trees : (v w : Volume) (a b : Content) → ChangesCatalog v w a b → ChangesTrees v w a b
catalog_in_trees v w a b changes = record {
  lists = changes.lists ∙ (λ i. record (lists_of v a) {
    head = w.header;
    catalog_pairs = (lists_of w b).catalog_pairs;
    catalog_tree = facts_on w.catalog.file;
    attribute_pairs = (sym changes.lists i).attribute_pairs;
    attributes_tree = (sym changes.lists i).attributes_tree;
  });
  numbers = changes.numbers;
  map = changes.map;
  extents = changes.extents;
  private = changes.private;
  catalog = record { sectors = changes.catalog; total = changes.nodes.0; node_size = changes.nodes.1 };
  attributes = record {
    sectors = ap (λ (t : Tree). sectors_of_tree t.file) changes.attributes;
    total = ap (λ (t : Tree). t.file.shape.total) changes.attributes;
    node_size = ap (λ (t : Tree). t.file.shape.node_size) changes.attributes;
  };
  outside = record {
    size = changes.outside.size;
    each = λ at. ⊎_elim (λ same. inl same) (λ here. inr (⊎_elim (λ is. inl is) (λ has. inr (inl has)) here)) (changes.outside.each at);
  };
}

-- the attributes file lies where it did
pub attribute_sectors_same : (v w : Volume) (a b : Content) → ChangesTrees v w a b → attribute_sectors w ≡ attribute_sectors v
attribute_sectors_same v w a b changes = (λ i. if has_attributes (changes.numbers i) then changes.attributes.sectors i else [])

pub trees_none : (volume : Volume) (content : Content) → ChangesTrees volume volume content content
trees_none volume content = record {
  lists = refl;
  numbers = refl;
  map = refl;
  extents = refl;
  private = refl;
  catalog = record { sectors = refl; total = refl; node_size = refl };
  attributes = record { sectors = refl; total = refl; node_size = refl };
  outside = record { size = refl; each = λ at. inl refl };
}

pub trees_both : (x y z : Volume) (a b c : Content) → ChangesTrees x y a b → ChangesTrees y z b c → ChangesTrees x z a c
trees_both x y z a b c one two = record {
  lists = two.lists ∙ (λ i. record (one.lists i) {
    head = z.header;
    catalog_pairs = (lists_of z c).catalog_pairs;
    catalog_tree = facts_on z.catalog.file;
    attribute_pairs = (lists_of z c).attribute_pairs;
    attributes_tree = facts_on z.attributes.file;
  });
  numbers = two.numbers ∙ ap (λ (h : VolumeHeader). with_numbers h z.header) one.numbers;
  map = two.map ∙ one.map;
  extents = two.extents ∙ one.extents;
  private = two.private ∙ one.private;
  catalog = record { sectors = two.catalog.sectors ∙ one.catalog.sectors; total = two.catalog.total ∙ one.catalog.total; node_size = two.catalog.node_size ∙ one.catalog.node_size };
  attributes = record { sectors = two.attributes.sectors ∙ one.attributes.sectors; total = two.attributes.total ∙ one.attributes.total; node_size = two.attributes.node_size ∙ one.attributes.node_size };
  outside = record {
    size = two.outside.size ∙ one.outside.size;
    each = λ at. ⊎_elim
        (λ same. ⊎_elim (λ before. inl (same ∙ before)) (λ here. inr here) (one.outside.each at))
        (λ here. inr (⊎_elim
        (λ is. inl is)
        (λ has. inr (⊎_elim (λ l. inl (subst (λ (s : List ℕ). Contains s at) one.catalog.sectors l)) (λ r. inr (subst (λ (s : List ℕ). Contains s at) (attribute_sectors_same x y a b one) r)) has))
        here))
        (two.outside.each at);
  };
}
