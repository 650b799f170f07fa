-- What a read of the catalog leaves of it, and reads one after another.
use Rattle.std.proofs.Common.{◌≡◌, ℕ, ◌<◌, ◌*◌, IsTrue, List, length, get_or, sym, ◌∙◌, ap, subst}
use Rattle.std.specs.Prelude.{Bool}
use Rattle.std.specs.List.{Contains}
use Rattle.std.specs.declared.cmp.Ordering.{Ordering}
use Rattle.hx_bytes.specs.declared.extents.Extent.{Extent}
use Rattle.sector_disk.specs.Lists.{Content}
use Rattle.sector_disk.specs.Space.{Space}
use Rattle.fork_map.specs.Blocks.{fork_sectors}
use Rattle.attributes.specs.Values.{AreValued}
use Rattle.btree_node.specs.Keys.{IsCatalogKey, IsAttrKey, catalog_cmp, attr_cmp, anything}
use Rattle.btree_node.specs.TreeFile.{TreeForm, IsTreeFile, tree_head, shape_of, catalog_form, attributes_form}
use Rattle.btree_node.specs.declared.store.TreeShape.{TreeShape}
use Rattle.btree_edit.specs.Desk.{IsDeskOf}
use Rattle.btree_edit.specs.declared.desk.Desk.{Desk}
use Rattle.btree_file.specs.Held.{file_in}
use Rattle.btree_file.specs.Standing.{HoldsTree, LiesInside, numbers_of, pairs_in}
use Rattle.btree_file.specs.State.{sectors_of_tree, per_node, nodes_on, HasMap}
use Rattle.btree_file.specs.declared.tree.Stretch.{Stretch}
use Rattle.btree_file.specs.declared.tree.TreeFile.{TreeFile}
use Rattle.hfs_volume.specs.Entries.{AreSpelled}
use Rattle.volume_base.specs.Looking.{IsCatalogOver, IsAttributesOver, ReadsTree}
use Rattle.volume_base.specs.Service.{KeepsFile}
use Rattle.volume_base.specs.Standing.{AreWhole}
use Rattle.volume_base.proofs.Seeing.{file_both, looks_both, looks_wider}

-- what a tree stands by
abbrev Parts : Type 0
Parts = List Extent × ℕ × TreeShape × List Stretch × List ℕ

pub sectors_kept : (tells : Bool) (a b : TreeFile) → KeepsFile tells a b → sectors_of_tree b ≡ sectors_of_tree a
sectors_kept tells a b keeps = λ i. fork_sectors (keeps.file.fork i) (keeps.file.per_block i)

pub held_kept : (form : TreeForm) (is_key is_value : List ℕ → Type 0) (cmp : List ℕ → List ℕ → Ordering) (tells : Bool) (a b : TreeFile) (content : Content) → IsTrue tells → KeepsFile tells a b
    → HoldsTree form is_key is_value cmp a content → HoldsTree form is_key is_value cmp b content
held_kept form is_key is_value cmp tells a b content told keeps was = record {
  stands = record {
    agrees = subst (λ (k : Parts). HasMap (fork_sectors k.0 k.1) k.2.node_size k.2.total k.2.free k.3 k.4 content) {x = (a.fork, a.per_block, a.shape, a.map.items, a.header)} {y = (b.fork, b.per_block, b.shape, b.map.items, b.header)}
        (λ i. (sym keeps.file.fork i, sym keeps.file.per_block i, sym keeps.shape i, sym keeps.file.map i, sym (keeps.header told) i)) was.stands.agrees;
    settled = ap (λ h. shape_of (tree_head h)) (keeps.header told) ∙ was.stands.settled ∙ sym keeps.shape;
    whole = (λ i. (keeps.shape i).total * per_node (keeps.shape i)) ∙ was.stands.whole ∙ sym (ap (λ (l : List ℕ). length l) (sectors_kept tells a b keeps));
    first = ap (λ (l : List ℕ). length (nodes_on l 512 content 0)) (sectors_kept tells a b keeps) ∙ was.stands.first;
  };
  file = subst (λ (l : List ℕ). IsTreeFile form is_key is_value cmp (file_in l content)) (sym (sectors_kept tells a b keeps)) was.file;
}

pub inside_kept : (tells : Bool) (a b : TreeFile) (old new : Space) → KeepsFile tells a b → new.sectors ≡ old.sectors → LiesInside a old → LiesInside b new
inside_kept tells a b old new keeps same was =
    subst (λ (k : List Extent × ℕ × ℕ). (n : ℕ) → n < length (fork_sectors k.0 k.1) → get_or (fork_sectors k.0 k.1) n 0 < k.2) {x = (a.fork, a.per_block, old.sectors)} {y = (b.fork, b.per_block, new.sectors)} (λ i. (sym keeps.file.fork i, sym keeps.file.per_block i, sym same i)) was

pub reads_both : (a b c : TreeFile) (old mid new : Space) → ReadsTree a b old mid → ReadsTree b c mid new → ReadsTree a c old new
reads_both a b c old mid new p q = record {
  keeps = file_both old.tells a b c p.keeps (subst (λ t. KeepsFile t b c) p.looks.same.tells q.keeps);
  looks = looks_both (λ s. Contains (sectors_of_tree a) s) old mid new p.looks (looks_wider (λ s. Contains (sectors_of_tree b) s) (λ s. Contains (sectors_of_tree a) s) mid new (λ told s. subst (λ l. Contains l s) (sectors_kept old.tells a b p.keeps)) q.looks);
}

-- the pairs are those that they were
pub pairs_read : (a b : TreeFile) (old new : Space) → IsTrue old.tells → ReadsTree a b old new → pairs_in (sectors_of_tree b) new.content ≡ pairs_in (sectors_of_tree a) old.content
pairs_read a b old new told reads = λ i. pairs_in (sectors_kept old.tells a b reads.keeps i) (reads.looks.content told i)

pub over_read : (a b : TreeFile) (desk later : Desk) (old new : Space) → IsCatalogOver a desk old → ReadsTree a b old new → IsDeskOf (numbers_of b).node_size later → IsCatalogOver b later new
over_read a b desk later old new was reads fits = record {
  fits = fits;
  inside = inside_kept old.tells a b old new reads.keeps reads.looks.same.sectors was.inside;
  unclosed = λ told k low. λ shut. was.unclosed (back told) k (subst (λ (l : List ℕ). k < length l) same low) (subst (λ (l : List ℕ). old.closed (get_or l k 0)) same ((reads.looks.closed (back told) (get_or (sectors_of_tree b) k 0)).0 shut));
  holds = λ told. subst (λ (c : Content). HoldsTree catalog_form IsCatalogKey anything catalog_cmp b c) (sym (reads.looks.content (back told))) (held_kept catalog_form IsCatalogKey anything catalog_cmp old.tells a b old.content (back told) reads.keeps (was.holds (back told)));
  whole = λ told. subst AreWhole (sym (reads.looks.content (back told))) (was.whole (back told));
  spelled = λ told. subst AreSpelled (sym (pairs_read a b old new (back told) reads)) (was.spelled (back told));
}
  where
    back : IsTrue new.tells → IsTrue old.tells
    back told = sym reads.looks.same.tells ∙ told

    same : sectors_of_tree b ≡ sectors_of_tree a
    same = sectors_kept old.tells a b reads.keeps

-- what a read of the attributes file leaves of it
pub attributes_over_read : (a b : TreeFile) (desk later : Desk) (old new : Space) → IsAttributesOver a desk old → ReadsTree a b old new → IsDeskOf (numbers_of b).node_size later → IsAttributesOver b later new
attributes_over_read a b desk later old new was reads fits = record {
  fits = fits;
  inside = inside_kept old.tells a b old new reads.keeps reads.looks.same.sectors was.inside;
  unclosed = λ told k low. λ shut. was.unclosed (back told) k (subst (λ (l : List ℕ). k < length l) same low) (subst (λ (l : List ℕ). old.closed (get_or l k 0)) same ((reads.looks.closed (back told) (get_or (sectors_of_tree b) k 0)).0 shut));
  holds = λ told. subst (λ (c : Content). HoldsTree attributes_form IsAttrKey anything attr_cmp b c) (sym (reads.looks.content (back told))) (held_kept attributes_form IsAttrKey anything attr_cmp old.tells a b old.content (back told) reads.keeps (was.holds (back told)));
  whole = λ told. subst AreWhole (sym (reads.looks.content (back told))) (was.whole (back told));
  values = λ told. subst AreValued (sym (pairs_read a b old new (back told) reads)) (was.values (back told));
}
  where
    back : IsTrue new.tells → IsTrue old.tells
    back told = sym reads.looks.same.tells ∙ told

    same : sectors_of_tree b ≡ sectors_of_tree a
    same = sectors_kept old.tells a b reads.keeps
