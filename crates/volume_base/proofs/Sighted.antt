-- What stands under a name, and the file of a path by its record: over a settled volume it is what the tree tells.
use Rattle.std.proofs.Common.{◌≡◌, ◌⊎◌, ℕ, Bool, true, false, List, [], ◌∷◌, inl, inr, refl, sym, ◌∙◌, ap, subst}
use Rattle.std.specs.Prelude.{Contains, ◌==◌, ◌&&◌, ◌||◌, nat_lt, take, drop, Option, None, Some, Result, Ok, Err, if◌then◌else◌}
use Rattle.std.specs.Option.{option_map}
use Rattle.std.specs.Str.{bytes_eq}
use Rattle.std.proofs.lemmas.Bool.{and_parts, eqb-true, true≢false}
use Rattle.std.proofs.lemmas.Slice.Eq.{bytes_eq-Decides}
use Rattle.sector_disk.specs.Lists.{Content}
use Rattle.btree_node.specs.Levels.{Pair}
use Rattle.cat_records.specs.declared.record.CatRecord.{CatRecord}
use Rattle.cat_records.specs.declared.record.CatRecord.TheVariants.{Folder, File, Thread}
use Rattle.cat_records.specs.declared.record.FileRecord.{FileRecord}
use Rattle.catalog.specs.Pairs.{value_at}
use Rattle.hard_links.specs.Identity.{file_or, identity_of}
use Rattle.hfs_language.specs.Written.{FitsPath}
use Rattle.hfs_language.specs.declared.refusal.Refusal.{Refusal}
use Rattle.hfs_language.specs.declared.refusal.Refusal.TheVariants as refusal
use Rattle.hfs_language.specs.declared.reply.Reply.{Reply}
use Rattle.hfs_language.specs.declared.reply.Reply.TheVariants as reply
use Rattle.hfs_model.specs.Extras.{is_link, sight_in}
use Rattle.hfs_model.specs.Kinds.{kind_step, kind_told, target_told}
use Rattle.hfs_model.specs.Plain.{is_node, link_bits}
use Rattle.hfs_model.specs.Step.{is_private_name, is_private_path, most_bytes, on, then_, to_file, to_read, unless}
use Rattle.hfs_model.specs.declared.kinds.KindEdit.TheVariants as edit
use Rattle.hfs_model.specs.declared.kinds.Sight.{Sight}
use Rattle.hfs_model.specs.declared.kinds.Sight.TheVariants as sight
use Rattle.hfs_model.specs.declared.plain.PlainNode.{PlainNode}
use Rattle.hfs_model.specs.declared.plain.PlainTree.{PlainTree}
use Rattle.hfs_volume.specs.Books.{SoundHasPlainTree}
use Rattle.hfs_volume.specs.Content.{VolumeState, attributes_of, records_of, volume_of}
use Rattle.hfs_volume.specs.Links.{node_name, private_id}
use Rattle.hfs_volume.specs.Records.{Placed, entries_of, is_empty, is_link_type, is_placed_at, placed_in, record_at}
use Rattle.hfs_volume.specs.TreeOf.{bytes_in, file_bytes, tree_of, valued}
use Rattle.hfs_volume.proofs.Flat.{found_some}
use Rattle.hfs_volume.proofs.Reaching.{IsFolder}
use Rattle.hfs_volume.proofs.Sides.{is_entry_of}
use Rattle.volume_base.specs.Lists.{lists_of}
use Rattle.volume_base.specs.Nodes.{file_node, node_reached}
use Rattle.volume_base.specs.Reaching.{named}
use Rattle.volume_base.specs.Reading.{HasFile, file_in}
use Rattle.volume_base.specs.Sighting.{HasFileOf, HasFolder, IsFileAs, IsFoundAs, file_told, is_link_mode, link_told, node_under, sight_of}
use Rattle.volume_base.specs.Standing.{HoldsTrees, IsSettled}
use Rattle.volume_base.specs.declared.nodes.Node.{Node}
use Rattle.volume_base.specs.declared.nodes.Node.TheVariants as node
use Rattle.volume_base.specs.declared.sighting.LinkRead.TheVariants as link
use Rattle.volume_base.specs.declared.volume.Volume.{Volume}
use Rattle.volume_base.proofs.Listed.{entries_are, nodes_are}
use Rattle.volume_base.proofs.NodeIs.{IsNode, file_same, folder_here, nothing_seen, sight_by, sight_same}
use Rattle.volume_base.proofs.Rising.{settled_is_plain, settled_sorted}
use Rattle.volume_base.proofs.Walked.{Agree}

-- ---- the record that was found

-- a record that is found under a name is that of an entry
record IsEntry (pairs : List Pair) (value : CatRecord) : Type 0 where
  entry : Placed
  stands : Contains (entries_of (placed_in pairs)) entry
  is : entry.value ≡ value

entry_there : (pairs : List Pair) (id : ℕ) (name : List ℕ) (value : CatRecord) → is_empty name ≡ false → value_at pairs id name ≡ Some value → IsEntry pairs value
entry_there pairs id name value some found = by_case (record_at (placed_in pairs) id name) refl found
  where
    by_case : (o : Option Placed) → record_at (placed_in pairs) id name ≡ o → option_map (λ (q : Placed). q.value) o ≡ Some value → IsEntry pairs value
    by_case None at is = absurd (let no : None ≡ Some value = is in cc no)
    by_case (Some p) at is =
        let it = found_some (is_placed_at id name) (placed_in pairs) p at in
        let tests = and_parts (p.parent == id) (bytes_eq p.name name) it.1 in
        let same : p.name ≡ name = (bytes_eq-Decides p.name name).0 tests.1 in
        record { entry = p; stands = is_entry_of (placed_in pairs) p it.0 (ap is_empty same ∙ some); is = let one : Some p.value ≡ Some value = is in cc one }

-- the file for which a record of one stands has its record too
identity_has : (pairs : List Pair) (private : ℕ) (file : FileRecord) → HasFile (placed_in pairs) file → HasFile (placed_in pairs) (identity_of pairs private file)
identity_has pairs private file has = by_link (is_link_type file.fields)
  where
    by_value : (o : Option CatRecord) → value_at pairs private (node_name file.fields.special) ≡ o → HasFile (placed_in pairs) (file_or file o)
    by_value None at = has
    by_value (Some (Folder f)) at = has
    by_value (Some (Thread f)) at = has
    by_value (Some (File f)) at = let it = entry_there pairs private (node_name file.fields.special) (File f) refl at in record { entry = it.entry; stands = it.stands; value = it.is }

    by_link : (b : Bool) → HasFile (placed_in pairs) (if b then file_or file (value_at pairs private (node_name file.fields.special)) else file)
    by_link false = has
    by_link true = by_value (value_at pairs private (node_name file.fields.special)) refl

-- so has one that is found under a name
found_has : (pairs : List Pair) (private : Option ℕ) (id : ℕ) (name : List ℕ) (found : Node) → is_empty name ≡ false → node_under pairs private id name ≡ Ok found → HasFileOf (placed_in pairs) found
found_has pairs private id name found some is = by_value (value_at pairs id name) refl is
  where
    by_private : (o : Option ℕ) (file : FileRecord) → HasFile (placed_in pairs) file → HasFileOf (placed_in pairs) (file_node pairs o file)
    by_private None file has = has
    by_private (Some p) file has = identity_has pairs p file has

    by_value : (o : Option CatRecord) → value_at pairs id name ≡ o → then_ (named o) (node_reached pairs private) ≡ Ok found → HasFileOf (placed_in pairs) found
    by_value None at it = absurd (let no : Err refusal.NotFound ≡ Ok found = it in cc no)
    by_value (Some (Thread f)) at it = absurd (let no : Err refusal.NotFound ≡ Ok found = it in cc no)
    by_value (Some (Folder f)) at it = subst (HasFileOf (placed_in pairs)) {x = node.Folder f} {y = found} (let one : Ok (node.Folder f) ≡ Ok found = it in cc one) tt
    by_value (Some (File f)) at it =
        let has = entry_there pairs id name (File f) some at in
        subst (HasFileOf (placed_in pairs)) {x = file_node pairs private f} {y = found} (let one : Ok (file_node pairs private f) ≡ Ok found = it in cc one) (by_private private f (record { entry = has.entry; stands = has.stands; value = has.is }))

-- ---- over a settled volume

-- what is seen where a folder or file is found, or nothing
abbrev pub seen_as : Content → Result Node Refusal → Sight
seen_as content (Ok found) = sight_of content found
seen_as content (Err why) = sight.Absent

-- of no bytes that are asked none are too many
read_none : (tree : PlainTree) (path : List (List ℕ)) → to_read tree path 0 ≡ to_file tree path
read_none tree path = by_result (to_file tree path)
  where
    by_result : (r : Result PlainNode Refusal) → then_ r (λ file. unless (nat_lt most_bytes 0) refusal.TooLarge file) ≡ r
    by_result (Ok node) = refl
    by_result (Err why) = refl

-- a file that was found is one of the tree
pub record IsFileFound (content : Content) (file : FileRecord) (said : Result PlainNode Refusal) : Type 0 where
  pub node : PlainNode
  pub is : said ≡ Ok node
  pub it : IsFileAs content file node

pub file_found : (content : Content) (file : FileRecord) (said : Result PlainNode Refusal) → IsFoundAs content (Ok file) said → IsFileFound content file said
file_found content file (Ok node) it = record { node = node; is = refl; it = it }
file_found content file (Err why) never = absurd never

pub why_found : (content : Content) (why : Refusal) (said : Result PlainNode Refusal) → IsFoundAs content (Err why) said → said ≡ Err why
why_found content why (Ok node) never = absurd never
why_found content why (Err other) same = ap Err (sym same)

module _ (law : SoundHasPlainTree) (v : Volume) (content : Content) (holds : HoldsTrees v content) (settled : IsSettled v content) where
  abbrev Stands : Node → PlainNode → Type 0
  Stands = IsNode (volume_of content) settled.sound (settled_sorted v content holds settled) (tree_of content) (entries_are content) (settled_is_plain law v content holds settled) (valued (bytes_in content) (attributes_of (volume_of content))) (bytes_in content) (nodes_are content)

  same_under : (id : ℕ) (name : List ℕ) → node_under (lists_of v content).catalog_pairs v.private id name ≡ node_under (volume_of content).catalog_pairs (private_id (records_of (volume_of content))) id name
  same_under id name = λ i. node_under (sym (ap (λ (l : VolumeState). l.catalog_pairs) settled.lists) i) (settled.private i) id name

  pub has_file : (id : ℕ) (name : List ℕ) (said : Result Node Refusal) (found : Node) → (is_empty name || ((id == 2) && is_private_name name)) ≡ false → said ≡ node_under (lists_of v content).catalog_pairs v.private id name → said ≡ Ok found
      → HasFileOf (records_of (volume_of content)) found
  has_file id name said found seen is ok = found_has (volume_of content).catalog_pairs (private_id (records_of (volume_of content))) id name found (some (is_empty name) seen) (sym (same_under id name) ∙ sym is ∙ ok)
    where
      some : (b : Bool) → (b || ((id == 2) && is_private_name name)) ≡ false → b ≡ false
      some false is_it = refl
      some true is_it = is_it

  -- ---- what stands under a name

  seen_alike : (said : Result Node Refusal) → seen_as content said ≡ sight_by (volume_of content) settled.sound (settled_sorted v content holds settled) (tree_of content) (entries_are content) (settled_is_plain law v content holds settled) (valued (bytes_in content) (attributes_of (volume_of content))) (bytes_in content) (nodes_are content) said
  seen_alike (Ok (node.Folder folder)) = refl
  seen_alike (Ok (node.File file linked)) = refl
  seen_alike (Err why) = refl

  pub sight_is : (id : ℕ) (name : List ℕ) (said : Result Node Refusal) → HasFolder (tree_of content) id → (is_empty name || ((id == 2) && is_private_name name)) ≡ false → said ≡ node_under (lists_of v content).catalog_pairs v.private id name
      → seen_as content said ≡ sight_in (tree_of content) id name
  sight_is id name said folder seen is =
      let found = found_some (is_node id) (tree_of content).nodes folder.0 folder.1 in
      let own = folder_here (volume_of content) settled.sound (settled_sorted v content holds settled) (tree_of content) (entries_are content) (settled_is_plain law v content holds settled) (valued (bytes_in content) (attributes_of (volume_of content))) (bytes_in content) (nodes_are content)
      folder.0 found.0 folder.2 in
      let here = subst (λ k. IsFolder (records_of (volume_of content)) (volume_of content).head.next_catalog_id settled.sound.entries.ids settled.sound.entries.rooted k) (eqb-true folder.0.id id found.1) own in
      let tests = parts (is_empty name) ((id == 2) && is_private_name name) seen in
      seen_alike said
      ∙ ap (sight_by (volume_of content) settled.sound (settled_sorted v content holds settled) (tree_of content) (entries_are content) (settled_is_plain law v content holds settled) (valued (bytes_in content) (attributes_of (volume_of content))) (bytes_in content) (nodes_are content)) (is ∙ same_under id name)
      ∙ sight_same (volume_of content) settled.sound (settled_sorted v content holds settled) (tree_of content) (entries_are content) (settled_is_plain law v content holds settled) (valued (bytes_in content) (attributes_of (volume_of content))) (bytes_in content) (nodes_are content) id name here tests.0 tests.1
    where
      parts : (a b : Bool) → (a || b) ≡ false → (a ≡ false) × (b ≡ false)
      parts false b is_it = (refl, is_it)
      parts true b is_it = absurd (true≢false is_it)

  pub absent_is : (id : ℕ) (name : List ℕ) → (is_empty name || ((id == 2) && is_private_name name)) ≡ true → sight.Absent ≡ sight_in (tree_of content) id name
  absent_is id name unseen =
      sym (nothing_seen (volume_of content) settled.sound (settled_sorted v content holds settled) (tree_of content) (entries_are content) (settled_is_plain law v content holds settled) (valued (bytes_in content) (attributes_of (volume_of content))) (bytes_in content) (nodes_are content) id name unseen)

  -- ---- the file of a path

  as_file : (linked : Bool) (file : FileRecord) (n : PlainNode) → Stands (node.File file linked) n → IsFileAs content file n
  as_file linked file n it = record {
    has = record { entry = it.entry; stands = it.stands; value = it.value };
    id = ap (λ (m : PlainNode). m.id) it.is;
    type_bits = ap (λ (m : PlainNode). m.type_bits) it.is;
    bytes = ap (λ (m : PlainNode). m.bytes) it.is;
    resource = ap (λ (m : PlainNode). m.resource) it.is;
  }

  found_as : (r : Result FileRecord Refusal) (s : Result PlainNode Refusal) → Agree (λ file n. Stands (node.File file true) n ⊎ Stands (node.File file false) n) r s → IsFoundAs content r s
  found_as (Ok file) (Ok n) (inl it) = as_file true file n it
  found_as (Ok file) (Ok n) (inr it) = as_file false file n it
  found_as (Err why) (Err other) same = same
  found_as (Ok file) (Err why) never = never
  found_as (Err why) (Ok n) never = never

  pub found_is : (path : List (List ℕ)) (long : ℕ) → is_private_path path ≡ false → FitsPath path → (said : Result FileRecord Refusal) → said ≡ file_in (lists_of v content).catalog_pairs v.private path long
      → IsFoundAs content said (to_read (tree_of content) path long)
  found_is path long not_own fits said is =
      subst (λ r. IsFoundAs content r (to_read (tree_of content) path long)) (sym (is ∙ (λ i. file_in (sym (ap (λ (l : VolumeState). l.catalog_pairs) settled.lists) i) (settled.private i) path long)))
      (found_as (file_in (volume_of content).catalog_pairs (private_id (records_of (volume_of content))) path long) (to_read (tree_of content) path long)
      (file_same (volume_of content) settled.sound (settled_sorted v content holds settled) (tree_of content) (entries_are content) (settled_is_plain law v content holds settled) (valued (bytes_in content) (attributes_of (volume_of content))) (bytes_in content) (nodes_are content) path long not_own fits))

-- ---- what `rread` answers

module _ (tree : PlainTree) (path : List (List ℕ)) (from long : ℕ) (not_own : is_private_path path ≡ false) where
  told_read : (said : Result PlainNode Refusal) → to_read tree path long ≡ said → (kind_told tree (edit.ResourceRead path from long)).0 ≡ (on tree said (λ file. (reply.Content (take long (drop from file.resource)), tree))).0
  told_read said is =
      ap (λ b. (if b then (reply.No refusal.Private, tree) else kind_step tree (edit.ResourceRead path from long)).0) not_own
      ∙ ap (λ r. (on tree r (λ file. (reply.Content (take long (drop from file.resource)), tree))).0) is

  pub told_resource : (content : Content) (file : FileRecord) (bytes : List ℕ) → IsFoundAs content (Ok file) (to_read tree path long) → bytes ≡ take long (drop from (file_bytes content file).resource_bytes)
      → reply.Content bytes ≡ (kind_told tree (edit.ResourceRead path from long)).0
  told_resource content file bytes found is =
      let it = file_found content file (to_read tree path long) found in
      ap reply.Content (is ∙ ap (λ (l : List ℕ). take long (drop from l)) (sym it.it.resource)) ∙ sym (told_read (Ok it.node) it.is)

  pub told_resource_why : (content : Content) (why : Refusal) → IsFoundAs content (Err why) (to_read tree path long) → reply.No why ≡ (kind_told tree (edit.ResourceRead path from long)).0
  told_resource_why content why found = sym (told_read (Err why) (why_found content why (to_read tree path long) found))

-- ---- what `readlink` answers

module _ (tree : PlainTree) (path : List (List ℕ)) (not_own : is_private_path path ≡ false) where
  told_by : (said : Result PlainNode Refusal) → to_read tree path 0 ≡ said → link_told tree path ≡ file_told said
  told_by said is = ap (λ b. if b then link.No refusal.NotFound else file_told (to_file tree path)) not_own ∙ ap file_told (sym (read_none tree path) ∙ is)

  pub told_target : (content : Content) (file : FileRecord) (bytes : List ℕ) → is_link_mode file.fields.mode ≡ true → IsFoundAs content (Ok file) (to_read tree path 0) → bytes ≡ take 65536 (drop 0 (file_bytes content file).data_bytes)
      → link.Target bytes ≡ link_told tree path
  told_target content file bytes mode found is =
      let it = file_found content file (to_read tree path 0) found in
      ap link.Target (is ∙ ap (λ (l : List ℕ). take most_bytes l) (sym it.it.bytes))
      ∙ sym (told_by (Ok it.node) it.is ∙ ap (λ b. if b then link.Target (target_told it.node) else link.NotLink) (ap (λ k. k == link_bits) it.it.type_bits ∙ mode))

  pub told_no_link : (content : Content) (file : FileRecord) → is_link_mode file.fields.mode ≡ false → IsFoundAs content (Ok file) (to_read tree path 0) → link.NotLink ≡ link_told tree path
  told_no_link content file mode found =
      let it = file_found content file (to_read tree path 0) found in
      sym (told_by (Ok it.node) it.is ∙ ap (λ b. if b then link.Target (target_told it.node) else link.NotLink) (ap (λ k. k == link_bits) it.it.type_bits ∙ mode))

  pub told_no_file : (content : Content) (why : Refusal) → IsFoundAs content (Err why) (to_read tree path 0) → link.No why ≡ link_told tree path
  told_no_file content why found = sym (told_by (Err why) (why_found content why (to_read tree path 0) found))
