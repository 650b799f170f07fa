-- Attributes that have changed, and their owner marked: what the laws of `setattr` and `delattr` ask for.
use Rattle.std.proofs.Common.{◌≡◌, ◌<◌, ◌≤◌, ℕ, Bool, true, false, List, length, refl, sym, ◌∙◌, ap, subst}
use Rattle.std.specs.Prelude.{IsTrue, Some, Ok, nat_lt}
use Rattle.std.proofs.lemmas.Bool.{le-ltb}
use Rattle.sector_disk.specs.Lists.{Content}
use Rattle.sector_disk.specs.Space.{Space}
use Rattle.jnl_format.specs.Recovery.{header_of_volume}
use Rattle.btree_node.specs.Levels.{Pair}
use Rattle.cat_records.specs.declared.record.CatRecord.{CatRecord}
use Rattle.catalog.specs.Entries.{UpdatesEntry}
use Rattle.catalog.specs.Pairs.{value_at}
use Rattle.attributes.specs.Values.{AreValued, SetsValue}
use Rattle.hfs_language.specs.declared.command.Command.TheVariants as command
use Rattle.hfs_language.specs.declared.refusal.Refusal.TheVariants as refusal
use Rattle.hfs_model.specs.Step.{most_attribute, step, then_, to_attribute, to_node, to_set, unless}
use Rattle.hfs_model.specs.declared.plain.PlainAttribute.{PlainAttribute}
use Rattle.hfs_model.specs.declared.plain.PlainNode.{PlainNode}
use Rattle.hfs_model.specs.declared.plain.PlainTree.{PlainTree}
use Rattle.volume_header.specs.declared.header.VolumeHeader.{VolumeHeader}
use Rattle.hfs_volume.specs.Attributing.{DelAttrDoes, DeletesAttribute, SetAttrDoes, SetsAttribute}
use Rattle.hfs_volume.specs.Changes.{DropsAttribute, HasSameNodes}
use Rattle.hfs_volume.specs.Commands.{ChangesFields, IsMarkedAlone}
use Rattle.hfs_volume.specs.Content.{VolumeState, TreeFacts, volume_of, records_of, has_attributes}
use Rattle.hfs_volume.specs.Laws.{SoundIsBoth}
use Rattle.hfs_volume.specs.Links.{private_id}
use Rattle.hfs_volume.specs.Records.{placed_in, id_in, is_thread}
use Rattle.hfs_volume.specs.Sound.{IsSoundVolume}
use Rattle.hfs_volume.specs.TreeOf.{tree_in, tree_of, bytes_in}
use Rattle.hfs_volume.proofs.Bytes.{file_bytes_are}
use Rattle.hfs_volume.proofs.Telling.{private_after_fields}
use Rattle.volume_base.specs.Attributing.{ChangesOwned, with_mark}
use Rattle.volume_base.specs.Lists.{lists_of, facts_on}
use Rattle.volume_base.specs.Standing.{IsStanding, IsSettled, StandsOver}
use Rattle.volume_base.specs.Trees.{ChangesTrees}
use Rattle.volume_base.specs.declared.entries.Entry.{Entry}
use Rattle.volume_base.specs.declared.volume.Volume.{Volume}
use Rattle.volume_base.proofs.Marked.{changes_mark}
use Rattle.volume_base.proofs.Rising.{settled_sorted}
use Rattle.volume_base.proofs.TreesAfter.{catalog_in_trees, trees_both}
use Rattle.volume_base.proofs.TreesSettled.{header_settled, lists_told, lists_with, settles_again, tree_again}

module _ (Does : List Pair → List Pair → Type 0) (flag : Bool) (halves : (volume : VolumeState) → SoundIsBoth volume) (v w : Volume) (a b : Space) (settled : IsSettled v a.content) (was : IsStanding v a) (stands : IsStanding w b)
    (has : IsTrue (has_attributes v.header)) (entry : Entry) (there : value_at (lists_of v a.content).catalog_pairs entry.parent entry.name ≡ Some entry.rec) (kind : is_thread entry.rec ≡ false) (owned : ChangesOwned Does flag entry v w a.content b.content)
  where
    -- the lists that the command leads to
    abbrev new : VolumeState
    new = lists_with (facts_on w.attributes.file) w b.content

    -- those with other attributes alone
    abbrev pub valued : VolumeState
    valued = record (volume_of a.content) { attribute_pairs = (lists_of owned.between owned.middle).attribute_pairs; attributes_tree = facts_on owned.between.attributes.file }

    changes : ChangesTrees v w a.content b.content
    changes = trees_both v owned.between w a.content owned.middle b.content owned.attributes.changes (catalog_in_trees owned.between w owned.middle b.content owned.marks.replaces.changes)

    head_is : (volume_of a.content).head ≡ v.header
    head_is = ap (λ (l : VolumeState). l.head) settled.lists

    pub header_same : w.header ≡ v.header
    header_same = ap (λ (x : Volume). x.header) owned.marks.replaces.rest ∙ ap (λ (x : Volume). x.header) owned.attributes.rest

    pub headed : header_of_volume b.content ≡ w.header
    headed = owned.marks.replaces.headed ∙ owned.attributes.headed ∙ header_settled v a.content settled ∙ sym header_same

    file_same : w.attributes ≡ owned.between.attributes
    file_same = ap (λ (x : Volume). x.attributes) owned.marks.replaces.rest

    attribute_pairs_same : (lists_of w b.content).attribute_pairs ≡ (lists_of owned.between owned.middle).attribute_pairs
    attribute_pairs_same = ap (λ (l : VolumeState). l.attribute_pairs) owned.marks.replaces.changes.lists

    pairs_are : (volume_of a.content).catalog_pairs ≡ (lists_of v a.content).catalog_pairs
    pairs_are = ap (λ (l : VolumeState). l.catalog_pairs) settled.lists

    updates : UpdatesEntry entry.parent entry.name owned.marks.rec (volume_of a.content).catalog_pairs (lists_of w b.content).catalog_pairs
    updates = subst (λ (l : List Pair). UpdatesEntry entry.parent entry.name owned.marks.rec l (lists_of w b.content).catalog_pairs) (owned.attributes.catalog ∙ sym pairs_are) owned.marks.replaces.updates

    there_before : value_at (volume_of a.content).catalog_pairs entry.parent entry.name ≡ Some entry.rec
    there_before = ap (λ (l : List Pair). value_at l entry.parent entry.name) pairs_are ∙ there

    made : with_mark flag (volume_of a.content).head.modify_date entry.rec ≡ Some owned.marks.rec
    made = ap (λ (h : VolumeHeader). with_mark flag h.modify_date entry.rec) head_is ∙ owned.marks.made

    catalog_nodes : HasSameNodes (volume_of a.content).catalog_tree (facts_on w.catalog.file)
    catalog_nodes = record {
      total = changes.catalog.total ∙ sym (ap (λ (l : VolumeState). l.catalog_tree.shape.total) settled.lists);
      size = changes.catalog.node_size ∙ sym (ap (λ (l : VolumeState). l.catalog_tree.shape.node_size) settled.lists);
    }

    pub attribute_nodes : HasSameNodes (volume_of a.content).attributes_tree (facts_on owned.between.attributes.file)
    attribute_nodes = record {
      total = owned.attributes.changes.attributes.total ∙ sym (ap (λ (t : TreeFacts). t.shape.total) (settled.attributes has));
      size = owned.attributes.changes.attributes.node_size ∙ sym (ap (λ (t : TreeFacts). t.shape.node_size) (settled.attributes has));
    }

    rest : lists_with (facts_on w.attributes.file) w b.content ≡ record valued { catalog_pairs = (lists_of w b.content).catalog_pairs; catalog_tree = facts_on w.catalog.file }
    rest =
        lists_told v w a b changes settled was stands headed (facts_on w.attributes.file) (λ x. refl)
        ∙ (λ i. record (volume_of a.content) {
          head = (header_same ∙ sym head_is) i;
          catalog_pairs = (lists_of w b.content).catalog_pairs;
          catalog_tree = facts_on w.catalog.file;
          attribute_pairs = attribute_pairs_same i;
          attributes_tree = facts_on (file_same i).file;
        })

    pub marks : ChangesFields (id_in entry.rec) (IsMarkedAlone (volume_of a.content).head.modify_date) valued (lists_with (facts_on w.attributes.file) w b.content)
    marks = changes_mark flag (volume_of a.content).head.modify_date entry.parent entry.name entry.rec owned.marks.rec valued (lists_with (facts_on w.attributes.file) w b.content) updates catalog_nodes rest there_before made kind

    pub does : Does (volume_of a.content).attribute_pairs (lists_of owned.between owned.middle).attribute_pairs
    does = subst (λ (l : List Pair). Does l (lists_of owned.between owned.middle).attribute_pairs) (sym (ap (λ (l : VolumeState). l.attribute_pairs) settled.lists)) owned.attributes.does

    -- the private folder is still the one that is kept
    abbrev marked_alone : VolumeState
    marked_alone = record (volume_of a.content) { catalog_pairs = (lists_of w b.content).catalog_pairs; catalog_tree = facts_on w.catalog.file }

    private : private_id (placed_in (lists_of w b.content).catalog_pairs) ≡ private_id (placed_in (lists_of v a.content).catalog_pairs)
    private =
        private_after_fields (id_in entry.rec) (volume_of a.content) marked_alone
        (changes_mark flag (volume_of a.content).head.modify_date entry.parent entry.name entry.rec owned.marks.rec (volume_of a.content) marked_alone updates catalog_nodes refl there_before made kind)
        ((halves (volume_of a.content)).0 settled.sound).0
        ∙ ap (λ (l : List Pair). private_id (placed_in l)) pairs_are

    module _ (sound : IsSoundVolume (lists_with (facts_on w.attributes.file) w b.content)) where
      pub settled_then : IsSettled w b.content
      settled_then = settles_again v w a b changes settled was stands headed (facts_on w.attributes.file) (λ x. refl) sound private

      pub tree_then : tree_of b.content ≡ tree_in (lists_with (facts_on w.attributes.file) w b.content) (bytes_in a.content)
      tree_then = tree_again v w a b changes settled was stands headed (facts_on w.attributes.file) (λ x. refl) sound

-- where there is an attributes file, a settled content has the lists that are kept
pub lists_now : (w : Volume) (content : Content) → IsSettled w content → IsTrue (has_attributes w.header) → volume_of content ≡ lists_with (facts_on w.attributes.file) w content
lists_now w content settled has = settled.lists ∙ (λ i. record (lists_of w content) { attributes_tree = settled.attributes has i })

-- ---- of a settled volume

-- its records are each one of a value
pub settled_valued : (v : Volume) (content : Content) → IsSettled v content → AreValued (lists_of v content).attribute_pairs
settled_valued v content settled = subst AreValued (ap (λ (l : VolumeState). l.attribute_pairs) settled.lists)
    (record { each = λ k d low. let it = settled.sound.attributes.each k d low in record { spelled = it.spelled; named = it.named }; values = settled.sound.attributes.values })

-- a value that isn't too long can be set
pub to_set_is : (tree : PlainTree) (path : List (List ℕ)) (value : List ℕ) (node : PlainNode) → length value ≤ most_attribute → to_node tree path ≡ Ok node → to_set tree path value ≡ Ok node
to_set_is tree path value node long allowed =
    ap (λ r. then_ r (λ n. unless (nat_lt most_attribute (length value)) refusal.AttributeTooLarge n)) allowed
    ∙ ap (λ b. unless b refusal.AttributeTooLarge node) (le-ltb most_attribute (length value) long)
