-- What a command weighs that gives a file another name: by whether the file has links, and the private folder is there.
use Rattle.std.proofs.Common.{◌≡◌, ℕ, ◌+◌, ◌*◌, Bool, true, false, List, [], ◌∷◌, refl, sym, ◌∙◌, ap, subst}
use Rattle.std.specs.Prelude.{Contains, ◌==◌, ◌&&◌, ◌||◌, not, find, None, Some, Ok, Option, Result, is_some, if◌then◌else◌}
use Rattle.std.specs.Str.{bytes_eq}
use Rattle.std.proofs.lemmas.Bool.{and_parts, eqb-true, true≢false}
use Rattle.std.proofs.lemmas.Slice.Eq.{bytes_eq-Decides}
use Rattle.sector_disk.specs.Lists.{Content}
use Rattle.sector_disk.specs.Space.{Space}
use Rattle.btree_node.specs.Levels.{Pair}
use Rattle.cat_records.specs.declared.record.CatRecord.{CatRecord}
use Rattle.cat_records.specs.declared.record.FileRecord.{FileRecord}
use Rattle.cat_records.specs.declared.record.CatRecord.TheVariants.{Folder, File, Thread}
use Rattle.hfs_language.specs.declared.command.Command.TheVariants as command
use Rattle.hfs_language.specs.declared.refusal.Refusal.{Refusal}
use Rattle.hfs_language.specs.declared.refusal.Refusal.TheVariants as refusal
use Rattle.std.specs.Option.{ok_or}
use Rattle.hfs_model.specs.Plain.{is_node, node_at}
use Rattle.hfs_model.specs.Step.{Place, then_, to_ln}
use Rattle.hfs_model.specs.declared.plain.PlainEntry.{PlainEntry}
use Rattle.hfs_model.specs.declared.plain.PlainNode.{PlainNode}
use Rattle.hfs_model.specs.declared.plain.PlainTree.{PlainTree}
use Rattle.hfs_volume.specs.Content.{VolumeState, attributes_of, records_of, volume_of}
use Rattle.hfs_volume.specs.Entries.{HasThread, is_it}
use Rattle.hfs_volume.specs.Links.{private_id}
use Rattle.hfs_volume.specs.Records.{Placed, entries_of, id_in, id_of, is_empty, is_file, is_link, is_placed_at, is_thread, placed_in, record_at, special_of}
use Rattle.hfs_volume.specs.TreeOf.{BytesOf, bytes_in, file_bytes, id_or_0, is_hidden, is_linked, is_seen, node_in, plain_node, shared_file, tree_in, tree_of, valued}
use Rattle.hfs_volume.specs.Weight.{Edits, edits, edits_of, ln_edits}
use Rattle.hfs_volume.proofs.Flat.{found_none, found_some}
use Rattle.hfs_volume.proofs.Hiding.{hidden_is_computed, same_entry}
use Rattle.hfs_volume.proofs.Members.{at_front, each_of, in_one}
use Rattle.hfs_volume.proofs.Named.{IsSeenName, named_entry}
use Rattle.hfs_volume.proofs.NodesOf.{node_stands, nodes_from}
use Rattle.hfs_volume.proofs.Seeing.{same_number}
use Rattle.hfs_volume.proofs.Sharing.{linked_is, links_it, shared_is}
use Rattle.hfs_volume.proofs.Sides.{is_entry_of}
use Rattle.volume_base.specs.Linking.{IsLinkTo, IsLinking}
use Rattle.volume_base.specs.Lists.{lists_of}
use Rattle.volume_base.specs.Losing.{IsOnlyName}
use Rattle.volume_base.specs.Making.{free_place}
use Rattle.volume_base.specs.Standing.{IsSettled, IsStanding}
use Rattle.volume_base.specs.declared.volume.Volume.{Volume}
use Rattle.volume_base.proofs.Listed.{nodes_are}
use Rattle.volume_base.proofs.Rising.{settled_sorted}
use Rattle.volume_names.specs.LinkLoads.{PutsItsLoad}
use Rattle.volume_names.specs.LossLoads.{SpendsFor}
use Rattle.volume_names.proofs.FirstMade.{file_no_thread}
use Rattle.volume_names.proofs.LinkLoads.{link_load}
use Rattle.volume_names.proofs.LinkMade as more

-- a node that the tree has under a CNID
record HasNode (tree : PlainTree) (id : ℕ) (linked : Bool) : Type 0 where
  node : PlainNode
  found : node_at tree id ≡ Some node
  kind : node.linked ≡ linked

-- the edits of a pair of a file and a place
edits_for : Bool → Bool → Edits
edits_for private has = if has then edits 1 2 0 4 else edits (2 + (if private then 0 else 1)) (7 + 2 * (if private then 0 else 1)) 0 4

file_of : PlainTree → PlainEntry × Place → Result (PlainNode × Place) Refusal
file_of tree pair = then_ (ok_or (node_at tree pair.0.id) refusal.NotFound) (λ file. Ok (file, pair.1))

with_place : Place → PlainNode → Result (PlainNode × Place) Refusal
with_place goal file = Ok (file, goal)

edits_found : (tree : PlainTree) (from to : List (List ℕ)) (at : PlainEntry) (goal : Place) → to_ln tree from to ≡ Ok (at, goal) → (linked : Bool) → HasNode tree at.id linked → edits_of tree (command.Ln from to) ≡ edits_for tree.has_private linked
unfolding edits_for file_of with_place
edits_found tree from to at goal allowed linked it =
    ap (λ r. ln_edits tree (then_ r (file_of tree))) allowed ∙ ap (λ o. ln_edits tree (then_ (ok_or o refusal.NotFound) (with_place goal))) it.found ∙ ap (edits_for tree.has_private) it.kind

-- the node of a file that is there on its own, or that links go to
its_node : (volume : VolumeState) (bytes_of : BytesOf) (file : Placed) (linked : Bool) → is_file file.value ≡ true → is_linked (records_of volume) file ≡ linked → ((is_seen (records_of volume) file && not (is_link file)) || linked) ≡ true
    → (f : FileRecord) × (file.value ≡ File f) × (node_in (valued bytes_of (attributes_of volume)) (records_of volume) bytes_of file file.value ≡ plain_node (valued bytes_of (attributes_of volume)) f.fields false (bytes_of.file f) linked ∷ [])
its_node volume bytes_of file linked a_file is plain = of_value file.value refl a_file
  where
    of_value : (value : CatRecord) → file.value ≡ value → is_file value ≡ true
        → (f : FileRecord) × (file.value ≡ File f) × (node_in (valued bytes_of (attributes_of volume)) (records_of volume) bytes_of file value ≡ plain_node (valued bytes_of (attributes_of volume)) f.fields false (bytes_of.file f) linked ∷ [])
    of_value (Folder f) same is_a = absurd (true≢false (sym is_a))
    of_value (File f) same is_a = (
      f,
      same,
      (λ i. if (is_seen (records_of volume) file && not (is_link file)) || is i then plain_node (valued bytes_of (attributes_of volume)) f.fields false (bytes_of.file f) (is i) ∷ [] else [])
          ∙ ap (λ b. if b then plain_node (valued bytes_of (attributes_of volume)) f.fields false (bytes_of.file f) linked ∷ [] else []) plain,
    )
    of_value (Thread f) same is_a = absurd (true≢false (sym is_a))

or_last : (b : Bool) → (b || true) ≡ true
or_last true = refl
or_last false = refl

private_told : (content : Content) → (tree_of content).has_private ≡ is_some (private_id (records_of (volume_of content)))
unfolding tree_of tree_in
private_told content = refl

module _ (v : Volume) (a : Space) (settled : IsSettled v a.content) (was : IsStanding v a) (from to : List (List ℕ)) (at : PlainEntry) (parent : ℕ) (old : List ℕ) (id folder : ℕ) (name : List ℕ)
    (linking : IsLinking (tree_of a.content) from to at parent old id folder name)
  where
    abbrev volume : VolumeState
    volume = volume_of a.content

    private_here : (tree_of a.content).has_private ≡ is_some v.private
    private_here = private_told a.content ∙ ap (λ (o : Option ℕ). is_some o) (sym settled.private)

    -- a file's node is found by its CNID
    node_found : (e : Placed) → Contains (entries_of (records_of (volume_of a.content))) e → (linked : Bool) → is_file e.value ≡ true → is_linked (records_of (volume_of a.content)) e ≡ linked
        → ((is_seen (records_of (volume_of a.content)) e && not (is_link e)) || linked) ≡ true → HasNode (tree_of a.content) (id_of e) linked
    node_found e stands linked a_file kind plain = by_case (find (is_node (id_of e)) (tree_of a.content).nodes) refl
      where
        its : (f : FileRecord) × (e.value ≡ File f) × (node_in (valued (bytes_in a.content) (attributes_of (volume_of a.content))) (records_of (volume_of a.content)) (bytes_in a.content) e e.value ≡ plain_node (valued (bytes_in a.content) (attributes_of (volume_of a.content))) f.fields false (file_bytes a.content f) linked ∷ [])
        its = its_node (volume_of a.content) (bytes_in a.content) e linked a_file kind plain

        its_plain : PlainNode
        its_plain = plain_node (valued (bytes_in a.content) (attributes_of (volume_of a.content))) its.0.fields false (file_bytes a.content its.0) linked

        number : its_plain.id ≡ id_of e
        number = sym (ap id_in its.1)

        there : Contains (tree_of a.content).nodes its_plain
        there =
            subst (λ l. Contains l its_plain) (sym (nodes_are a.content))
            (node_stands (valued (bytes_in a.content) (attributes_of (volume_of a.content))) (bytes_in a.content) (records_of (volume_of a.content)) (volume_of a.content).head.next_catalog_id settled.sound.entries.ids e stands
            (each_of (HasThread (records_of (volume_of a.content))) (entries_of (records_of (volume_of a.content))) settled.sound.entries.threads.threaded e stands) its_plain (subst (λ l. Contains l its_plain) (sym its.2) (at_front its_plain [])))

        kind_of : (n : PlainNode) → Contains (node_in (valued (bytes_in a.content) (attributes_of (volume_of a.content))) (records_of (volume_of a.content)) (bytes_in a.content) e e.value) n → n.linked ≡ linked
        kind_of n has = ap (λ (x : PlainNode). x.linked) (in_one its_plain n (subst (λ l. Contains l n) its.2 has))

        by_case : (o : Option PlainNode) → find (is_node (id_of e)) (tree_of a.content).nodes ≡ o → HasNode (tree_of a.content) (id_of e) linked
        by_case None none = absurd (true≢false (sym (ap (λ n. n == id_of e) number ∙ same_number (id_of e)) ∙ found_none (is_node (id_of e)) (tree_of a.content).nodes none its_plain there))
        by_case (Some n) found =
            let it = found_some (is_node (id_of e)) (tree_of a.content).nodes n found in
            let whose = nodes_from (valued (bytes_in a.content) (attributes_of (volume_of a.content))) (bytes_in a.content) (records_of (volume_of a.content)) n (subst (λ l. Contains l n) (nodes_are a.content) it.0) in
            let same : whose.entry ≡ e = same_entry (volume_of a.content).head.next_catalog_id (entries_of (records_of (volume_of a.content))) settled.sound.entries.ids whose.entry e whose.stands stands (sym whose.id ∙ eqb-true n.id (id_of e) it.1) in
            record { node = n; found = found; kind = kind_of n (subst (λ (p : Placed). Contains (node_in (valued (bytes_in a.content) (attributes_of (volume_of a.content))) (records_of (volume_of a.content)) (bytes_in a.content) p p.value) n) same whose.has) }

    weighs : (linked : Bool) → HasNode (tree_of a.content) at.id linked → edits_of (tree_of a.content) (command.Ln from to) ≡ edits_for (is_some v.private) linked
    weighs linked it =
        edits_found (tree_of a.content) from to at (free_place folder name) linking.allowed linked it ∙ ap (λ b. edits_for b linked) private_here

    -- a file that has links
    module _ (reference : ℕ) (link : IsLinkTo parent old reference (lists_of v a.content).catalog_pairs) where
      file : Placed
      file = (more.good v a settled was from to at parent old id folder name linking reference link).node.0

      goes : is_linked (records_of (volume_of a.content)) file ≡ true
      unfolding file
      goes =
          let good = more.good v a settled was from to at parent old id folder name linking reference link in
          links_it (records_of (volume_of a.content)) file (record { link = link.entry; stands = more.entry_stands v a settled was from to at parent old id folder name linking reference link; is_one = link.is_one; names = good.node.2 })

      node_again : HasNode (tree_of a.content) at.id true
      unfolding file
      node_again =
          let good = more.good v a settled was from to at parent old id folder name linking reference link in
          subst (λ n. HasNode (tree_of a.content) n true) (more.file_id v a settled was from to at parent old id folder name linking reference link ∙ sym linking.number)
          (node_found file good.node.1 true (more.shared v a settled was from to at parent old id folder name linking reference link).file goes (or_last (is_seen (records_of (volume_of a.content)) file && not (is_link file))))

      weighs_again : edits_of (tree_of a.content) (command.Ln from to) ≡ edits 1 2 0 4
      unfolding edits_for
      weighs_again = weighs true node_again

      pub again_puts : (b : Space) → SpendsFor 2 v a b → PutsItsLoad (command.Ln from to) v a b
      again_puts b = link_load v a settled from to 1 2 b weighs_again

    -- a file that has none
    module _ (only : IsOnlyName (record { parent = parent; name = old }) (lists_of v a.content).catalog_pairs) where
      abbrev entry : Placed
      entry = only.names.entry

      there : Contains (records_of (volume_of a.content)) only.names.entry × (is_placed_at parent old only.names.entry ≡ true)
      there =
          found_some (is_placed_at parent old) (records_of (volume_of a.content)) only.names.entry
          (ap (λ (l : List Pair). record_at (placed_in l) parent old) (more.pairs_are v a settled was from to at parent old id folder name linking) ∙ only.names.found)

      parent_is : only.names.entry.parent ≡ parent
      parent_is = eqb-true only.names.entry.parent parent (and_parts (only.names.entry.parent == parent) (bytes_eq only.names.entry.name old) there.1).0

      name_is : only.names.entry.name ≡ old
      name_is = (bytes_eq-Decides only.names.entry.name old).0 (and_parts (only.names.entry.parent == parent) (bytes_eq only.names.entry.name old) there.1).1

      named : is_empty only.names.entry.name ≡ false
      named =
          sym (each_of (λ (p : Placed). is_thread p.value ≡ is_empty p.name) (records_of (volume_of a.content)) settled.sound.entries.threads.kinds only.names.entry there.0)
          ∙ file_no_thread only.names.entry.value only.names.file

      entry_stands : Contains (entries_of (records_of (volume_of a.content))) only.names.entry
      entry_stands = is_entry_of (records_of (volume_of a.content)) only.names.entry there.0 named

      it : IsSeenName (volume_of a.content) (bytes_in a.content) settled.sound at only.names.entry
      it =
          named_entry (volume_of a.content) (bytes_in a.content) settled.sound at only.names.entry (settled_sorted v a.content was.trees settled) (more.pair v a settled was from to at parent old id folder name linking).0.seen entry_stands
          (parent_is ∙ sym linking.place.0) (name_is ∙ sym linking.place.1)

      its_id : id_of only.names.entry ≡ at.id
      its_id = sym (ap (λ b. if b then id_or_0 (shared_file (records_of (volume_of a.content)) (special_of only.names.entry)) else id_of only.names.entry) only.not_link) ∙ ap (λ (e : PlainEntry). e.id) it.plain

      -- users see it, so it isn't in the private folder
      alone : (b : Bool) → is_linked (records_of (volume_of a.content)) only.names.entry ≡ b → b ≡ false
      alone false none = refl
      alone true linked =
          let links = linked_is (records_of (volume_of a.content)) only.names.entry linked in
          let shared = shared_is (private_id (records_of (volume_of a.content))) (special_of links.link) only.names.entry links.names in
          absurd (
          true≢false (
          sym ((hidden_is_computed (records_of (volume_of a.content)) (volume_of a.content).head.next_catalog_id shared.folder settled.sound.entries.ids settled.sound.entries.rooted).0 (shared.folder, shared.private_is, is_it))
          ∙ ap (λ n. is_hidden (records_of (volume_of a.content)) n) (sym shared.parent)
          ∙ it.shows.visible
          )
          )

      node_alone : HasNode (tree_of a.content) at.id false
      node_alone =
          subst (λ n. HasNode (tree_of a.content) n false) its_id
          (node_found only.names.entry entry_stands false only.names.file (alone (is_linked (records_of (volume_of a.content)) only.names.entry) refl) (λ i. (it.seen i && not (only.not_link i)) || false))

      weighs_first : (private : ℕ) → v.private ≡ Some private → edits_of (tree_of a.content) (command.Ln from to) ≡ edits 2 7 0 4
      unfolding edits_for
      weighs_first private is = weighs false node_alone ∙ ap (λ (o : Option ℕ). edits_for (is_some o) false) is

      pub first_puts : (private : ℕ) → v.private ≡ Some private → (b : Space) → SpendsFor 7 v a b → PutsItsLoad (command.Ln from to) v a b
      first_puts private is b = link_load v a settled from to 2 7 b (weighs_first private is)

      weighs_anew : v.private ≡ None → edits_of (tree_of a.content) (command.Ln from to) ≡ edits 3 9 0 4
      unfolding edits_for
      weighs_anew is = weighs false node_alone ∙ ap (λ (o : Option ℕ). edits_for (is_some o) false) is

      pub anew_puts : v.private ≡ None → (b : Space) → SpendsFor 9 v a b → PutsItsLoad (command.Ln from to) v a b
      anew_puts is b = link_load v a settled from to 3 9 b (weighs_anew is)
