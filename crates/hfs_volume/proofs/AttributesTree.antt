-- The tree of a volume whose attributes are others.
use Rattle.std.proofs.Common.{◌≡◌, ℕ, ◌==◌, Bool, true, false, List, [], ◌∷◌, map, refl, sym, ◌∙◌, ap}
use Rattle.std.specs.Prelude.{Option, None, Some, if◌then◌else◌}
use Rattle.std.proofs.lemmas.Bool.{eqb-true}
use Rattle.cat_records.specs.declared.record.EntryFields.{EntryFields}
use Rattle.cat_records.specs.declared.record.CatRecord.{CatRecord}
use Rattle.cat_records.specs.declared.record.CatRecord.TheVariants.{Folder, File, Thread}
use Rattle.hfs_model.specs.Plain.{is_node, with_changed}
use Rattle.hfs_model.specs.declared.plain.PlainAttribute.{PlainAttribute}
use Rattle.hfs_model.specs.declared.plain.PlainNode.{PlainNode}
use Rattle.hfs_volume.specs.Records.{Placed, is_empty, entry_of}
use Rattle.hfs_volume.specs.Content.{VolumeState, attributes_of, records_of}
use Rattle.hfs_volume.specs.TreeOf.{BytesOf, ForkBytes, is_linked, is_plain_file, is_plain_folder, node_found, node_in, plain_attributes, plain_node, threaded_node, tree_in, valued, empty_forks}
use Rattle.hfs_volume.proofs.Flat.{flat_agree, flat_changed}
use Rattle.hfs_volume.proofs.Trees.{nodes_over}

-- the volume has other attributes, and other bits
abbrev pub with_values : VolumeState → VolumeState → VolumeState
with_values old new = record old { attribute_pairs = new.attribute_pairs; attributes_tree = new.attributes_tree; bits = new.bits }

-- where the attributes of one CNID are changed so, and those of all others are as they were, so are those of the nodes
pub attributes_tree : (id : ℕ) (old new : VolumeState) (bytes_of : BytesOf) → new ≡ with_values old new → (change : List PlainAttribute → List PlainAttribute)
    → plain_attributes (valued bytes_of (attributes_of new)) id ≡ change (plain_attributes (valued bytes_of (attributes_of old)) id) → ((other : ℕ) → (other == id) ≡ false → plain_attributes (valued bytes_of (attributes_of new)) other ≡ plain_attributes (valued bytes_of (attributes_of old)) other)
    → tree_in new bytes_of ≡ with_changed id (λ node. record node { attributes = change node.attributes }) (tree_in old bytes_of)
unfolding tree_in
attributes_tree id old new bytes_of rest change here others = λ i. record {
  entries = ap (λ (v : VolumeState). (tree_in v bytes_of).entries) rest i;
  nodes = (ap (λ (v : VolumeState). nodes_over (valued bytes_of (attributes_of new)) bytes_of (records_of v) (records_of v)) rest ∙ nodes_now) i;
  next_id = ap (λ (v : VolumeState). v.head.next_catalog_id) rest i;
  has_private = ap (λ (v : VolumeState). (tree_in v bytes_of).has_private) rest i;
  moment = ap (λ (v : VolumeState). v.head.modify_date) rest i;
}
  where
    changed : PlainNode → PlainNode
    changed node = if is_node id node then record node { attributes = change node.attributes } else node

    one : (fields : EntryFields) (folder : Bool) (bytes : ForkBytes) (linked : Bool) → plain_node (valued bytes_of (attributes_of new)) fields folder bytes linked ≡ (if fields.id == id then record (plain_node (valued bytes_of (attributes_of old)) fields folder bytes linked) { attributes = change (plain_attributes (valued bytes_of (attributes_of old)) fields.id) } else plain_node (valued bytes_of (attributes_of old)) fields folder bytes linked)
    one fields folder bytes linked = by_test (fields.id == id) refl
      where
        by_test : (b : Bool) → (fields.id == id) ≡ b → plain_node (valued bytes_of (attributes_of new)) fields folder bytes linked ≡ (if b then record (plain_node (valued bytes_of (attributes_of old)) fields folder bytes linked) { attributes = change (plain_attributes (valued bytes_of (attributes_of old)) fields.id) } else plain_node (valued bytes_of (attributes_of old)) fields folder bytes linked)
        by_test true same = let is = eqb-true fields.id id same in λ i. record (plain_node (valued bytes_of (attributes_of old)) fields folder bytes linked) { attributes = (ap (plain_attributes (valued bytes_of (attributes_of new))) is ∙ here ∙ ap (λ n. change (plain_attributes (valued bytes_of (attributes_of old)) n)) (sym is)) i }
        by_test false differs = λ i. record (plain_node (valued bytes_of (attributes_of old)) fields folder bytes linked) { attributes = others fields.id differs i }

    of_value : (p : Placed) (value : CatRecord) → node_in (valued bytes_of (attributes_of new)) (records_of old) bytes_of p value ≡ map (λ (node : PlainNode). if is_node id node then record node { attributes = change node.attributes } else node) (node_in (valued bytes_of (attributes_of old)) (records_of old) bytes_of p value)
    of_value p (Folder f) = by_bool (is_plain_folder (records_of old) p)
      where
        by_bool : (b : Bool) → (if b then plain_node (valued bytes_of (attributes_of new)) f.fields true empty_forks false ∷ [] else []) ≡ map (λ (node : PlainNode). if is_node id node then record node { attributes = change node.attributes } else node) (if b then plain_node (valued bytes_of (attributes_of old)) f.fields true empty_forks false ∷ [] else [])
        by_bool true = ap (λ n. n ∷ []) (one f.fields true empty_forks false)
        by_bool false = refl
    of_value p (File f) = by_bool (is_plain_file (records_of old) p)
      where
        by_bool : (b : Bool) → (if b then plain_node (valued bytes_of (attributes_of new)) f.fields false (bytes_of.file f) (is_linked (records_of old) p) ∷ [] else []) ≡ map (λ (node : PlainNode). if is_node id node then record node { attributes = change node.attributes } else node) (if b then plain_node (valued bytes_of (attributes_of old)) f.fields false (bytes_of.file f) (is_linked (records_of old) p) ∷ [] else [])
        by_bool true = ap (λ n. n ∷ []) (one f.fields false (bytes_of.file f) (is_linked (records_of old) p))
        by_bool false = refl
    of_value p (Thread f) = refl

    threaded : (p : Placed) → threaded_node (valued bytes_of (attributes_of new)) (records_of old) bytes_of p ≡ map (λ (node : PlainNode). if is_node id node then record node { attributes = change node.attributes } else node) (threaded_node (valued bytes_of (attributes_of old)) (records_of old) bytes_of p)
    threaded p = by_name (is_empty p.name) (entry_of (records_of old) p.parent)
      where
        by_name : (b : Bool) (o : Option Placed) → (if b then node_found (valued bytes_of (attributes_of new)) (records_of old) bytes_of o else []) ≡ map (λ (node : PlainNode). if is_node id node then record node { attributes = change node.attributes } else node) (if b then node_found (valued bytes_of (attributes_of old)) (records_of old) bytes_of o else [])
        by_name false o = refl
        by_name true None = refl
        by_name true (Some e) = of_value e e.value

    nodes_now : nodes_over (valued bytes_of (attributes_of new)) bytes_of (records_of old) (records_of old) ≡ map (λ (node : PlainNode). if is_node id node then record node { attributes = change node.attributes } else node) (nodes_over (valued bytes_of (attributes_of old)) bytes_of (records_of old) (records_of old))
    nodes_now =
        flat_agree (threaded_node (valued bytes_of (attributes_of new)) (records_of old) bytes_of) (λ p. map (λ (node : PlainNode). if is_node id node then record node { attributes = change node.attributes } else node) (threaded_node (valued bytes_of (attributes_of old)) (records_of old) bytes_of p)) (records_of old) (λ p stands. threaded p)
        ∙ flat_changed (threaded_node (valued bytes_of (attributes_of old)) (records_of old) bytes_of) (λ (node : PlainNode). if is_node id node then record node { attributes = change node.attributes } else node) (records_of old)
