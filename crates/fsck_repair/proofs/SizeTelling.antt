-- The sizes of the special files, decided one after the other.
use Rattle.std.proofs.Common.{◌≡◌, ◌↔◌, ◌≤◌, ◌*◌, ℕ, Bool, true, false, List, [], ◌∷◌, sym, ◌∙◌, subst, IsTrue}
use Rattle.std.specs.Prelude.{Option, None, Some, MatchOption, Result, Ok, Err, IfOk}
use Rattle.std.proofs.lemmas.Bool.{true≢false}
use Rattle.jnl_format.specs.Recovery.{Content, header_of_volume}
use Rattle.volume_header.specs.declared.header.VolumeHeader.{VolumeHeader}
use Rattle.btree_node.specs.TreeFile.{TreeFile}
use Rattle.hx_bytes.specs.declared.extents.ForkRecord.{ForkRecord}
use Rattle.fsck_list.specs.declared.finding.Finding.{Finding as Listed}
use Rattle.fsck_core.specs.Judged.{Judged}
use Rattle.hfs_volume.specs.Broken.{want, node_place, size_wants}
use Rattle.hfs_volume.specs.Forks.{catalog_id}
use Rattle.hfs_volume.proofs.HeaderWants.{size_holds, size_met}
use Rattle.hfs_volume.proofs.Wants.{first_met, met_each}
use Rattle.hfs_volume.specs.Blocks.{HasTreeSize}
use Rattle.hfs_volume.specs.Content.{TreeFacts, facts_of, volume_of, extents_file, catalog_file, attributes_file, has_attributes}
use Rattle.fsck_scan.specs.Form.{head_in}
use Rattle.fsck_scan.specs.declared.form.Head.{Head}
use Rattle.volume_repair.specs.Repair.{IsMendable}
use Rattle.fsck_repair.specs.Counted.{Decides, HasAttributesSize, IsSizedCatalog, AreSized}

-- the numbers of a size, and of how keys are compared
pub size_decided : {E : Type 0} (id : ℕ) (head : VolumeHeader) (fork : ForkRecord) (tree : TreeFacts) (result : Result Bool E) (old new : List Listed) → IfOk result (λ met. Judged 3 (size_wants id head fork tree) old new met)
    → IfOk result (λ met. IsTrue met ↔ HasTreeSize head fork tree)
size_decided id head fork tree (Err e) old new judged = tt
size_decided id head fork tree (Ok met) old new judged = (λ is. size_holds id head fork tree (judged.tells.0 is), λ has. judged.tells.1 (size_met id head fork tree has))

pub compare_decided : {E : Type 0} (file : TreeFile) (result : Result Bool E) (old new : List Listed) → IfOk result (λ met. Judged 4 (want (node_place catalog_id 0) file.head.compare 0xBC ∷ []) old new met)
    → IfOk result (λ met. IsTrue met ↔ file.head.compare ≡ 0xBC)
compare_decided file (Err e) old new judged = tt
compare_decided file (Ok met) old new judged = (λ is. first_met (want (node_place catalog_id 0) file.head.compare 0xBC) [] (judged.tells.0 is), λ has. judged.tells.1 (met_each (want (node_place catalog_id 0) file.head.compare 0xBC ∷ []) (has, tt)))

pub extents_told : (content : Content) (head : VolumeHeader) (met : Bool) → head ≡ header_of_volume content → IsTrue met ↔ HasTreeSize head head.extents_fork (facts_of (extents_file content))
    → Decides content (HasTreeSize (volume_of content).head (volume_of content).head.extents_fork (volume_of content).extents_tree) met
unfolding volume_of
extents_told content head met is told = record {
  holds = λ yes_it. subst (λ (h : VolumeHeader). HasTreeSize h h.extents_fork (facts_of (extents_file content))) is (told.0 yes_it);
  fails = λ no_it can. true≢false (sym (told.1 (subst (λ (h : VolumeHeader). HasTreeSize h h.extents_fork (facts_of (extents_file content))) (sym is) can.sizes.extents)) ∙ no_it);
}

pub attributes_told : (content : Content) (head : VolumeHeader) (met : Bool) → head ≡ header_of_volume content → has_attributes (header_of_volume content) ≡ true
    → IsTrue met ↔ HasTreeSize head head.attributes_fork (facts_of (attributes_file content)) → Decides content (HasAttributesSize content) met
unfolding volume_of
attributes_told content head met is has told = record {
  holds = λ yes_it _. subst (λ (h : VolumeHeader). HasTreeSize h h.attributes_fork (facts_of (attributes_file content))) is (told.0 yes_it);
  fails = λ no_it can. true≢false (sym (told.1 (subst (λ (h : VolumeHeader). HasTreeSize h h.attributes_fork (facts_of (attributes_file content))) (sym is) (can.sizes.attributes has))) ∙ no_it);
}

pub no_attributes_size : (content : Content) → has_attributes (header_of_volume content) ≡ false → Decides content (HasAttributesSize content) true
unfolding volume_of
no_attributes_size content none = record { holds = λ is has. absurd (true≢false (sym has ∙ none)); fails = λ is. absurd (true≢false is) }

module _ (content : Content) (head : VolumeHeader) (tree : Head) (is : head ≡ header_of_volume content) (read : head_in tree ≡ (catalog_file content).head) where
  pub no_catalog_size : (met : Bool) → met ≡ false → IsTrue met ↔ HasTreeSize head head.catalog_fork (facts_of (catalog_file content)) → ¬ IsMendable content
  unfolding volume_of
  no_catalog_size met no_it told can = true≢false (sym (told.1 (subst (λ (h : VolumeHeader). HasTreeSize h h.catalog_fork (facts_of (catalog_file content))) (sym is) can.sizes.catalog)) ∙ no_it)

  pub no_compare : (met : Bool) → met ≡ false → IsTrue met ↔ (catalog_file content).head.compare ≡ 0xBC → ¬ IsMendable content
  no_compare met no_it told can = true≢false (sym (told.1 can.trees.compare) ∙ no_it)

  pub sized_catalog : (size compare : Bool) → size ≡ true → compare ≡ true → IsTrue size ↔ HasTreeSize head head.catalog_fork (facts_of (catalog_file content)) → IsTrue compare ↔ (catalog_file content).head.compare ≡ 0xBC → IsSizedCatalog content tree
  unfolding volume_of
  sized_catalog size compare size_is compare_is told tells = record {
    head_is = read;
    size = subst (λ (h : VolumeHeader). HasTreeSize h h.catalog_fork (facts_of (catalog_file content))) is (told.0 size_is);
    compare = tells.0 compare_is;
  }

pub no_bits : (content : Content) (head : VolumeHeader) (met : Bool) → head ≡ header_of_volume content → met ≡ false → IsTrue met ↔ head.total_blocks ≤ 8 * head.allocation_fork.logical_size → ¬ IsMendable content
unfolding volume_of
no_bits content head met is no_it told can = true≢false (sym (told.1 (subst (λ (h : VolumeHeader). h.total_blocks ≤ 8 * h.allocation_fork.logical_size) (sym is) can.sizes.bits)) ∙ no_it)

-- all sizes together
pub sizes_told : {E : Type 0} (content : Content) (head : VolumeHeader) (bits extents attributes : Bool) (result : Result (Option Head) E) → head ≡ header_of_volume content
    → bits ≡ true → IsTrue bits ↔ head.total_blocks ≤ 8 * head.allocation_fork.logical_size
    → extents ≡ true → Decides content (HasTreeSize (volume_of content).head (volume_of content).head.extents_fork (volume_of content).extents_tree) extents
    → attributes ≡ true → Decides content (HasAttributesSize content) attributes
    → IfOk result (λ o. MatchOption o (¬ IsMendable content) (IsSizedCatalog content)) → IfOk result (λ o. MatchOption o (¬ IsMendable content) (AreSized content))
unfolding volume_of
sizes_told content head bits extents attributes (Err e) is a b c d f g told = tt
sizes_told content head bits extents attributes (Ok None) is a b c d f g told = told
sizes_told content head bits extents attributes (Ok (Some tree)) is a b c d f g told = record {
  sizes = record {
    extents = d.holds c;
    catalog = told.size;
    attributes = g.holds f;
    bits = subst (λ (h : VolumeHeader). h.total_blocks ≤ 8 * h.allocation_fork.logical_size) is (b.0 a);
  };
  head_is = told.head_is;
  compare = told.compare;
}
