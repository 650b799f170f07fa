-- `write` and `trunc`: a sound volume stays sound, and its tree is the step's.
use Rattle.std.proofs.Common.{◌≡◌, ◌<◌, ℕ, ◌+◌, ◌==◌, Bool, true, false, List, [], ◌∷◌, length, refl, sym, ◌∙◌, ap, subst, arith}
use Rattle.std.specs.Prelude.{Contains, ◌&&◌, ◌||◌, not, nat_lt, ok_or, Option, Some, None, Result, Ok, if◌then◌else◌}
use Rattle.std.proofs.lemmas.Bool.{eqb-true, true≢false}
use Rattle.cat_records.specs.declared.record.FileRecord.{FileRecord}
use Rattle.cat_records.specs.declared.record.CatRecord.{CatRecord}
use Rattle.cat_records.specs.declared.record.CatRecord.TheVariants.{Folder, File, Thread}
use Rattle.hfs_language.specs.declared.refusal.Refusal.{Refusal}
use Rattle.hfs_language.specs.declared.refusal.Refusal.TheVariants as refusal
use Rattle.hfs_language.specs.declared.reply.Reply.TheVariants as reply
use Rattle.hfs_model.specs.declared.plain.PlainNode.{PlainNode}
use Rattle.hfs_model.specs.declared.plain.PlainTree.{PlainTree}
use Rattle.hfs_model.specs.Kinds.{with_resource}
use Rattle.hfs_model.specs.Plain.{is_node, node_at, with_changed}
use Rattle.hfs_model.specs.Step.{on, reached, to_node, to_file, unless, with_bytes, written, resized, is_private_name, most_size, most_bytes}
use Rattle.hfs_volume.specs.Records.{Placed, entries_of, id_of, is_link, special_of}
use Rattle.hfs_volume.specs.Forks.{data_kind, resource_kind}
use Rattle.hfs_volume.specs.Links.{private_id, is_in}
use Rattle.hfs_volume.specs.Content.{VolumeState, records_of, attributes_of}
use Rattle.hfs_volume.specs.Sound.{IsSoundVolume}
use Rattle.hfs_volume.specs.TreeOf.{tree_in, node_in, plain_node, is_plain_folder, is_plain_file, is_linked, is_seen, BytesOf, ForkBytes, valued, empty_forks}
use Rattle.hfs_volume.specs.Changes.{PutsBlocks}
use Rattle.hfs_volume.specs.Commands.{AreBytesOf, with_fields}
use Rattle.hfs_volume.specs.Laws.{IsShaped, IsUserFile}
use Rattle.hfs_volume.specs.Writing.{RewritesFork, MakesBytes, file_after, in_fork, written_bytes, resized_bytes, WriteDoes, WriteNothingDoes, TruncDoes}
use Rattle.hfs_volume.proofs.Members.{in_one}
use Rattle.hfs_volume.proofs.Hiding.{same_entry}
use Rattle.hfs_volume.proofs.Reaching.{then_ok, unless_ok, found_ok, seen_shows}
use Rattle.hfs_volume.proofs.Flat.{found_some}
use Rattle.hfs_volume.proofs.Sharing.{linked_is}
use Rattle.hfs_volume.proofs.Finishing.{sound_is_both, shared_in}
use Rattle.hfs_volume.proofs.Marks.{private_not_root}
use Rattle.hfs_volume.proofs.Marking.{twice, value_sound}
use Rattle.hfs_volume.proofs.Moding.{one_node, changed_alike}
use Rattle.hfs_volume.proofs.Telling.{nodes_are}
use Rattle.hfs_volume.proofs.NodesOf.{nodes_from}
use Rattle.hfs_volume.proofs.Fields.{dated, touched_views, valence_same, special_now}
use Rattle.hfs_volume.proofs.Refielding.{fields_tree, kind_of, moment_is}
use Rattle.hfs_volume.proofs.BlockRecords.{entry_id, stood}
use Rattle.hfs_volume.proofs.BlockTree.{with_new_bytes, put_tree, set_bytes_same}
use Rattle.hfs_volume.proofs.BlockSound.{recounted, recounted_shaped, recounted_tree, put_shaped, put_sound}

-- ---- a file that users see

-- what a file of a tree has in its two forks
abbrev pub forks_at : PlainNode → ForkBytes
forks_at node = record { data_bytes = node.bytes; resource_bytes = node.resource }

-- The entry of a file's node.
pub record IsFileNode (volume : VolumeState) (bytes_of : BytesOf) (node : PlainNode) : Type 0 where
  pub entry : Placed
  pub file : FileRecord
  pub stands : Contains (entries_of (records_of volume)) entry
  pub value : entry.value ≡ File file
  pub id : node.id ≡ id_of entry
  pub there : Contains (tree_in volume bytes_of).nodes node
  pub bytes : forks_at node ≡ bytes_of.file file
  pub plain : is_plain_file (records_of volume) entry ≡ true

pub file_node : (volume : VolumeState) (bytes_of : BytesOf) (node : PlainNode) → Contains (tree_in volume bytes_of).nodes node → node.folder ≡ false → IsFileNode volume bytes_of node
file_node volume bytes_of node stands no_folder =
    let it = nodes_from (valued bytes_of (attributes_of volume)) bytes_of (records_of volume) node (subst (λ l. Contains l node) (nodes_are volume bytes_of) stands) in
    of_value it.entry it.stands it.id it.entry.value refl it.has
  where
    of_value : (e : Placed) → Contains (entries_of (records_of volume)) e → node.id ≡ id_of e → (v : CatRecord) → e.value ≡ v → Contains (node_in (valued bytes_of (attributes_of volume)) (records_of volume) bytes_of e v) node → IsFileNode volume bytes_of node
    of_value e there id (Folder f) is has = by_test (is_plain_folder (records_of volume) e) has
      where
        by_test : (b : Bool) → Contains (if b then plain_node (valued bytes_of (attributes_of volume)) f.fields true empty_forks false ∷ [] else []) node → IsFileNode volume bytes_of node
        by_test true one = absurd (true≢false (sym (ap (λ (n : PlainNode). n.folder) (in_one (plain_node (valued bytes_of (attributes_of volume)) f.fields true empty_forks false) node one)) ∙ no_folder))
        by_test false none = absurd (omega (arith, none.1))
    of_value e there id (File f) is has = by_test (is_plain_file (records_of volume) e) refl has
      where
        by_test : (b : Bool) → is_plain_file (records_of volume) e ≡ b → Contains (if b then plain_node (valued bytes_of (attributes_of volume)) f.fields false (bytes_of.file f) (is_linked (records_of volume) e) ∷ [] else []) node → IsFileNode volume bytes_of node
        by_test true plain one = record {
          entry = e;
          file = f;
          stands = there;
          value = is;
          id = id;
          there = stands;
          bytes = ap forks_at (in_one (plain_node (valued bytes_of (attributes_of volume)) f.fields false (bytes_of.file f) (is_linked (records_of volume) e)) node one);
          plain = plain;
        }
        by_test false plain none = absurd (omega (arith, none.1))
    of_value e there id (Thread f) is none = absurd (omega (arith, none.1))

-- the node of a file's CNID has its bytes
pub bytes_at_node : (volume : VolumeState) (bytes_of : BytesOf) → IsShaped volume → (e : Placed) (file : FileRecord) → Contains (entries_of (records_of volume)) e → e.value ≡ File file
    → (node : PlainNode) → Contains (tree_in volume bytes_of).nodes node → node.id ≡ id_of e → forks_at node ≡ bytes_of.file file
bytes_at_node volume bytes_of shaped e file stands is node there same =
    let it = nodes_from (valued bytes_of (attributes_of volume)) bytes_of (records_of volume) node (subst (λ l. Contains l node) (nodes_are volume bytes_of) there) in
    let one : it.entry ≡ e = same_entry volume.head.next_catalog_id (entries_of (records_of volume)) shaped.ids it.entry e it.stands stands (sym it.id ∙ same) in
    by_test (is_plain_file (records_of volume) e)
    (subst (λ v. Contains (node_in (valued bytes_of (attributes_of volume)) (records_of volume) bytes_of e v) node) is (subst (λ (p : Placed). Contains (node_in (valued bytes_of (attributes_of volume)) (records_of volume) bytes_of p p.value) node) one it.has))
  where
    by_test : (b : Bool) → Contains (if b then plain_node (valued bytes_of (attributes_of volume)) file.fields false (bytes_of.file file) (is_linked (records_of volume) e) ∷ [] else []) node → forks_at node ≡ bytes_of.file file
    by_test true has = ap forks_at (in_one (plain_node (valued bytes_of (attributes_of volume)) file.fields false (bytes_of.file file) (is_linked (records_of volume) e)) node has)
    by_test false none = absurd (omega (arith, none.1))

-- what stands in the private folder doesn't stand in the root
pub private_apart : (volume : VolumeState) → IsShaped volume → (p : Placed) → is_in (private_id (records_of volume)) p ≡ true → p.parent ≡ 2 → ⊥
private_apart volume shaped p is two = by_case (private_id (records_of volume)) refl is
  where
    by_case : (o : Option ℕ) → private_id (records_of volume) ≡ o → is_in o p ≡ true → ⊥
    by_case None found here = true≢false (sym here)
    by_case (Some id) found here = private_not_root volume shaped id found (sym (eqb-true p.parent id here) ∙ two)

-- it isn't one of the journal's
pub file_is_users : (volume : VolumeState) (bytes_of : BytesOf) → IsShaped volume → (node : PlainNode) → IsFileNode volume bytes_of node → IsUserFile node.id volume
file_is_users volume bytes_of shaped node it e stands same own =
    let one : e ≡ it.entry = same_entry volume.head.next_catalog_id (entries_of (records_of volume)) shaped.ids e it.entry stands it.stands (same ∙ it.id) in
    by_tests (is_seen (records_of volume) it.entry) (is_linked (records_of volume) it.entry) refl refl (subst (λ (p : Placed). (p.parent ≡ 2) × (is_private_name p.name ≡ true)) one own)
  where
    by_tests : (b c : Bool) → is_seen (records_of volume) it.entry ≡ b → is_linked (records_of volume) it.entry ≡ c → (it.entry.parent ≡ 2) × (is_private_name it.entry.name ≡ true) → ⊥
    by_tests true c seen linked place =
        true≢false (sym ((λ i. (place.0 i == 2) && place.1 i)) ∙ (seen_shows (records_of volume) it.entry seen).not_own)
    by_tests false true seen linked place = let links = linked_is (records_of volume) it.entry linked in private_apart volume shaped it.entry (shared_in (private_id (records_of volume)) (special_of links.link) it.entry links.names) place.0
    by_tests false false seen linked place = true≢false (sym it.plain ∙ (λ i. (seen i && not (is_link it.entry)) || linked i))

-- what a path reaches that is a file
pub reaches_file : (volume : VolumeState) (bytes_of : BytesOf) (path : List (List ℕ)) (file : PlainNode) → to_file (tree_in volume bytes_of) path ≡ Ok file → IsFileNode volume bytes_of file
reaches_file volume bytes_of path file allowed =
    let tree = tree_in volume bytes_of in
    let node = then_ok (to_node tree path) (λ n. unless n.folder refusal.IsFolder n) file allowed in
    let kind = unless_ok node.0.folder refusal.IsFolder node.0 file node.2 in
    let way = then_ok (reached tree path) (λ at. ok_or (node_at tree at.id) refusal.NotFound) node.0 node.1 in
    let found = found_some (is_node way.0.id) tree.nodes node.0 (found_ok (node_at tree way.0.id) refusal.NotFound node.0 way.2) in
    subst (IsFileNode volume bytes_of) kind.1 (file_node volume bytes_of node.0 found.0 kind.0)

-- ---- its bytes are others

abbrev file_or : FileRecord → CatRecord → FileRecord
file_or other (Folder f) = other
file_or other (File f) = f
file_or other (Thread f) = other

-- a file has these bytes in its two forks from this moment on
abbrev pub with_forks : ℕ → ForkBytes → PlainTree → PlainTree
with_forks id bytes tree = with_changed id (λ node. record node { bytes = bytes.data_bytes; resource = bytes.resource_bytes; changed = tree.moment; attribute = tree.moment }) tree

-- two changes of a node: its bytes, and its dates
redated_bytes : (id moment : ℕ) (bytes : ForkBytes) (tree : PlainTree) → tree.moment ≡ moment → with_changed id (dated moment) (with_changed id (with_new_bytes bytes) tree) ≡ with_forks id bytes tree
redated_bytes id moment bytes tree same =
    (λ i. record tree { nodes = twice id (with_new_bytes bytes) (dated moment) (λ n. refl) tree.nodes i })
    ∙ (λ i. with_changed id (λ node. record node { bytes = bytes.data_bytes; resource = bytes.resource_bytes; changed = sym same i; attribute = sym same i }) tree)

module _ (make : List ℕ → List ℕ) (file : PlainNode) (kind from count : ℕ) (fresh : List ℕ) (old new : VolumeState) (bytes_of bytes_after : BytesOf) (are : AreBytesOf bytes_after) (sound : IsSoundVolume old)
    (it : IsFileNode old bytes_of file) (does : RewritesFork file.id kind from count fresh old new) (makes : MakesBytes make does bytes_of bytes_after) where
  shaped : IsShaped old
  shaped = ((sound_is_both old).0 sound).0

  user : IsUserFile file.id old
  user = file_is_users old bytes_of shaped file it

  abbrev begun : VolumeState
  begun = recounted does.puts.free does.puts.next old

  abbrev puts : PutsBlocks file.id kind from count fresh begun does.put
  puts = does.puts.puts

  begun_shaped : IsShaped begun
  begun_shaped = recounted_shaped does.puts.free does.puts.next old sound

  sound_put : IsSoundVolume does.put
  sound_put = put_sound file.id kind from count fresh old does.put does.puts sound user

  -- the volume is sound again
  pub rewritten_sound : IsSoundVolume new
  rewritten_sound =
      let entry = does.dates.entry in
      let words = special_now entry.parent entry.name entry.value does.dates.before does.dates.after does.dates.has in
      value_sound entry (with_fields (λ _. does.dates.after) entry.value) does.put new does.dates.changes (kind_of file.id does.put new does.dates) sound_put
      (valence_same entry.value does.dates.before does.dates.after does.dates.has (omega (arith, does.dates.fields.touched.count)))
      (words.1 ∙ does.dates.fields.special ∙ sym words.0)

  same_file : puts.file.file ≡ it.file
  same_file =
      let same : puts.file.entry ≡ it.entry = same_entry old.head.next_catalog_id (entries_of (records_of old)) shaped.ids puts.file.entry it.entry (stood file.id kind begun does.put puts.file puts.is_kind begun_shaped) it.stands
      (entry_id file.id kind begun does.put puts.file puts.is_kind begun_shaped ∙ it.id) in
      ap (file_or it.file) (sym puts.file.is_file.0 ∙ ap (λ (p : Placed). p.value) same ∙ it.value)

  bytes_made : bytes_after.file (file_after does.puts) ≡ in_fork kind make (forks_at file)
  bytes_made = makes.made ∙ ap (in_fork kind make) (ap bytes_of.file same_file ∙ sym it.bytes)

  -- and its tree has the file with its new bytes and dates
  pub rewritten_forks : tree_in new bytes_after ≡ with_forks file.id (in_fork kind make (forks_at file)) (tree_in old bytes_of)
  rewritten_forks =
      let moment = old.head.modify_date in
      let touched = does.dates.fields.touched in
      fields_tree file.id does.put new does.dates bytes_after are.by_fork (dated moment) (touched_views moment 0 0 does.dates.before does.dates.after touched) touched.id (put_shaped file.id kind from count fresh old does.put does.puts sound user)
      ∙ ap (with_changed file.id (dated moment))
      (put_tree file.id kind from count fresh begun does.put puts begun_shaped bytes_after
      ∙ ap (with_changed file.id (with_new_bytes (bytes_after.file (file_after does.puts)))) (recounted_tree does.puts.free does.puts.next old bytes_after)
      ∙ set_bytes_same old bytes_after bytes_of file.id (bytes_after.file (file_after does.puts)) makes.others.0 makes.others.1)
      ∙ redated_bytes file.id moment (bytes_after.file (file_after does.puts)) (tree_in old bytes_of) (moment_is old bytes_of)
      ∙ ap (λ bytes. with_forks file.id bytes (tree_in old bytes_of)) bytes_made

  -- the node of the file alone has its CNID
  only : (n : PlainNode) → Contains (tree_in old bytes_of).nodes n → n.id ≡ file.id → file ≡ n
  only n stands same = one_node old bytes_of shaped file n it.there stands (sym same)

  -- the other fork is as it was: this is the change of the data fork, or of the resource fork
  pub data_alone : with_forks file.id (in_fork data_kind make (forks_at file)) (tree_in old bytes_of) ≡ with_bytes file.id (make file.bytes) (tree_in old bytes_of)
  data_alone = changed_alike file.id (λ node. record node { bytes = make file.bytes; resource = file.resource; changed = (tree_in old bytes_of).moment; attribute = (tree_in old bytes_of).moment })
      (λ node. record node { bytes = make file.bytes; changed = (tree_in old bytes_of).moment; attribute = (tree_in old bytes_of).moment }) (tree_in old bytes_of)
      (λ n stands same. λ i. record n { bytes = make file.bytes; resource = ap (λ (m : PlainNode). m.resource) (only n stands same) i; changed = (tree_in old bytes_of).moment; attribute = (tree_in old bytes_of).moment })

  pub resource_alone : with_forks file.id (in_fork resource_kind make (forks_at file)) (tree_in old bytes_of) ≡ with_resource file.id (make file.resource) (tree_in old bytes_of)
  resource_alone = changed_alike file.id (λ node. record node { bytes = file.bytes; resource = make file.resource; changed = (tree_in old bytes_of).moment; attribute = (tree_in old bytes_of).moment })
      (λ node. record node { resource = make file.resource; changed = (tree_in old bytes_of).moment; attribute = (tree_in old bytes_of).moment }) (tree_in old bytes_of)
      (λ n stands same. λ i. record n { bytes = ap (λ (m : PlainNode). m.bytes) (only n stands same) i; resource = make file.resource; changed = (tree_in old bytes_of).moment; attribute = (tree_in old bytes_of).moment })

-- ---- the commands

abbrev stepped_write : PlainTree → ℕ → List ℕ → Result PlainNode Refusal → PlainTree
stepped_write tree at value r = (on tree r (λ file. (reply.Ok, written file at value tree))).1

abbrev stepped_trunc : PlainTree → ℕ → Result PlainNode Refusal → PlainTree
stepped_trunc tree size r = (on tree r (λ file. (reply.Ok, resized file size tree))).1

written_is : (file : PlainNode) (at : ℕ) (value : List ℕ) (tree : PlainTree) → 0 < length value → written file at value tree ≡ with_bytes file.id (written_bytes at value file.bytes) tree
written_is file at [] tree some = absurd (omega (arith, some))
written_is file at (byte ∷ value) tree some = refl

pub write_law : WriteDoes
write_law path at value file from count fresh old new bytes_of bytes_after are sound some allowed does makes =
    let tree = tree_in old bytes_of in
    let first = then_ok (to_file tree path) (unless (nat_lt most_size (at + length value) || nat_lt most_bytes (length value)) refusal.TooLarge) file allowed in
    let same : first.0 ≡ file = (unless_ok (nat_lt most_size (at + length value) || nat_lt most_bytes (length value)) refusal.TooLarge first.0 file first.2).1 in
    let it = reaches_file old bytes_of path file (first.1 ∙ ap Ok same) in (
      rewritten_sound (written_bytes at value) file data_kind from count fresh old new bytes_of bytes_after are sound it does makes,
      rewritten_forks (written_bytes at value) file data_kind from count fresh old new bytes_of bytes_after are sound it does makes
          ∙ data_alone (written_bytes at value) file data_kind from count fresh old new bytes_of bytes_after are sound it does makes
          ∙ sym (written_is file at value tree some)
          ∙ sym (ap (stepped_write tree at value) allowed),
    )

pub write_nothing_law : WriteNothingDoes
write_nothing_law path at file old bytes_of allowed = sym (ap (stepped_write (tree_in old bytes_of) at []) allowed)

pub trunc_law : TruncDoes
trunc_law path size file from count fresh old new bytes_of bytes_after are sound allowed does makes =
    let tree = tree_in old bytes_of in
    let first = then_ok (to_file tree path) (unless (nat_lt most_size size) refusal.TooLarge) file allowed in
    let same : first.0 ≡ file = (unless_ok (nat_lt most_size size) refusal.TooLarge first.0 file first.2).1 in
    let it = reaches_file old bytes_of path file (first.1 ∙ ap Ok same) in (
      rewritten_sound (resized_bytes size) file data_kind from count fresh old new bytes_of bytes_after are sound it does makes,
      rewritten_forks (resized_bytes size) file data_kind from count fresh old new bytes_of bytes_after are sound it does makes
          ∙ data_alone (resized_bytes size) file data_kind from count fresh old new bytes_of bytes_after are sound it does makes
          ∙ sym (ap (stepped_trunc tree size) allowed),
    )
