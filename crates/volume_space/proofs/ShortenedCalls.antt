-- What the calls of `trunc` rest on where it puts no data: the file's record, the file that was shrunk last, and the load.
use Rattle.std.proofs.Common.{◌≡◌, ◌<◌, ◌≤◌, ℕ, ◌/◌, true, false, List, refl, sym, ◌∙◌, ap, subst, arith}
use Rattle.std.specs.Prelude.{Bool, ◌+◌, ◌||◌, IsTrue, length, nat_lt, Option, Some, None, Result, Ok, Err, if◌then◌else◌}
use Rattle.std.specs.Option.{option_map}
use Rattle.std.proofs.lemmas.Bool.{true≢false}
use Rattle.sector_disk.specs.Lists.{Content}
use Rattle.sector_disk.specs.Space.{Space}
use Rattle.cat_records.specs.declared.record.CatRecord.{CatRecord}
use Rattle.cat_records.specs.declared.record.CatRecord.TheVariants.{Folder, File, Thread}
use Rattle.catalog.specs.Pairs.{value_at}
use Rattle.hfs_language.specs.declared.command.Command.TheVariants as command
use Rattle.hfs_language.specs.declared.refusal.Refusal.{Refusal}
use Rattle.hfs_language.specs.declared.refusal.Refusal.TheVariants as refusal
use Rattle.hfs_language.specs.declared.reply.Facts.{Facts}
use Rattle.hfs_language.specs.declared.reply.Reply.TheVariants as reply
use Rattle.hfs_model.specs.Plain.{entries_in}
use Rattle.hfs_model.specs.Step.{Step, facts_of, is_private_path, most_size, on, resized, step, step_line, then_, to_node, to_trunc, unless}
use Rattle.hfs_model.specs.declared.plain.PlainNode.{PlainNode}
use Rattle.hfs_model.specs.declared.plain.PlainTree.{PlainTree}
use Rattle.hfs_volume.specs.Content.{VolumeState, records_of, volume_of}
use Rattle.hfs_volume.specs.Records.{Placed, entries_of, id_in, is_empty, is_file, is_placed_at, is_thread, record_at}
use Rattle.hfs_volume.specs.TreeOf.{bytes_in, tree_of}
use Rattle.hfs_volume.specs.Weight.{data_of, edits, free_blocks, weight}
use Rattle.hfs_volume.specs.declared.cost.Cost.TheVariants as cost
use Rattle.hfs_volume.proofs.Flat.{found_some, none_or_some, some_same}
use Rattle.hfs_volume.proofs.Hiding.{same_entry}
use Rattle.hfs_volume.proofs.Members.{each_of}
use Rattle.hfs_volume.proofs.Sides.{is_entry_of}
use Rattle.volume_base.specs.Changing.{catalog_node}
use Rattle.volume_base.specs.Lists.{lists_of}
use Rattle.volume_base.specs.Refusing.{against_trunc, facts_or}
use Rattle.volume_space.specs.Resizing.{with_size}
use Rattle.volume_base.specs.Service.{IsInService}
use Rattle.volume_base.specs.Standing.{IsSettled, IsStanding, StandsOver}
use Rattle.volume_base.specs.declared.entries.Entry.{Entry}
use Rattle.volume_base.specs.declared.volume.Volume.{Volume}
use Rattle.volume_base.proofs.FoundEntry.{IsThere}
use Rattle.volume_base.proofs.DataWeights.{trunc_weight}
use Rattle.volume_base.proofs.Loads.{counts}
use Rattle.volume_base.proofs.PlainFiles.{IsFileOf, file_of_node}
use Rattle.volume_base.proofs.Rising.{settled_sorted}
use Rattle.volume_space.proofs.Shortened.{trunc_file}

-- the record of a file can have another size
pub size_some : (moment size : ℕ) (rec : CatRecord) → is_file rec ≡ true → with_size moment size rec ≡ None → ⊥
size_some moment size (Folder folder) kind none = true≢false (sym kind)
size_some moment size (File file) kind none = cc none
size_some moment size (Thread thread) kind none = true≢false (sym kind)

-- ---- the file shrunk last

module _ (v : Volume) (last : Option ℕ) (space : Space) where
  abbrev then_last : Volume
  then_last = record v { shrunk = last }

  pub service_then : IsInService v space → IsInService (record v { shrunk = last }) space
  service_then was = record {
    extents = was.extents;
    catalog = was.catalog;
    attributes = was.attributes;
    fits = was.fits;
    least = was.least;
    most = was.most;
    map_inside = was.map_inside;
    map_long = was.map_long;
    marks = was.marks;
  }

  standing_then : IsStanding v space → IsStanding (record v { shrunk = last }) space
  standing_then was = record {
    trees = record { extents = was.trees.extents; catalog = was.trees.catalog; compare = was.trees.compare; attributes = was.trees.attributes };
    forks = record {
      extents = was.forks.extents;
      extents_per = was.forks.extents_per;
      catalog = was.forks.catalog;
      catalog_per = was.forks.catalog_per;
      attributes = was.forks.attributes;
      attributes_per = was.forks.attributes_per;
      map = was.forks.map;
      map_per = was.forks.map_per;
    };
    whole = was.whole;
    apart = was.apart;
    blocks = was.blocks;
    closed = was.closed;
    aside = was.aside;
    large = was.large;
    inside = was.inside;
    fit = was.fit;
    live = was.live;
  }

  pub stands_then : StandsOver v space → StandsOver (record v { shrunk = last }) space
  stands_then was = record { service = service_then was.service; stands = λ tells. standing_then (was.stands tells) }

pub settled_then : (v : Volume) (last : Option ℕ) (content : Content) → IsSettled v content → IsSettled (record v { shrunk = last }) content
settled_then v last content was = record { blocks = was.blocks; lists = was.lists; attributes = was.attributes; sound = was.sound; private = was.private }

-- ---- the file

-- the entry that was found by the CNID of the step's file is a file's
pub entry_file : (v : Volume) (a : Space) → StandsOver v a → IsTrue a.tells → IsSettled v a.content → (path : List (List ℕ)) (size : ℕ) (node : PlainNode) → to_trunc (tree_of a.content) path size ≡ Ok node
    → (id : ℕ) (entry : Entry) → node.id ≡ id → IsThere (lists_of v a.content).catalog_pairs id entry → is_file entry.rec ≡ true
unfolding tree_of
entry_file v a holds tells settled path size node allowed id entry number there =
    by_found (record_at (records_of (volume_of a.content)) entry.parent entry.name) refl (ap (λ (l : VolumeState). value_at l.catalog_pairs entry.parent entry.name) settled.lists ∙ there.value)
  where
    its : IsFileOf (volume_of a.content) (bytes_in a.content) node
    its =
        let is = trunc_file (tree_of a.content) path size node allowed in
        file_of_node (volume_of a.content) settled.sound (settled_sorted v a.content (holds.stands tells).trees settled) (bytes_in a.content) node is.0 is.1

    by_found : (o : Option Placed) → record_at (records_of (volume_of a.content)) entry.parent entry.name ≡ o → option_map (λ (p : Placed). p.value) o ≡ Some entry.rec → is_file entry.rec ≡ true
    by_found None found same = absurd (none_or_some entry.rec same)
    by_found (Some e) found same =
        let value : e.value ≡ entry.rec = some_same e.value entry.rec same in
        let here = found_some (is_placed_at entry.parent entry.name) (records_of (volume_of a.content)) e found in
        let named : is_empty e.name ≡ false = sym (each_of (λ (p : Placed). is_thread p.value ≡ is_empty p.name) (records_of (volume_of a.content)) settled.sound.entries.threads.kinds e here.0) ∙ ap is_thread value ∙ there.kind in
        let one : e ≡ its.entry = same_entry (volume_of a.content).head.next_catalog_id (entries_of (records_of (volume_of a.content))) settled.sound.entries.ids e its.entry
        (is_entry_of (records_of (volume_of a.content)) e here.0 named) its.stands
        (ap id_in value ∙ there.number ∙ sym number ∙ its.id ∙ sym (ap id_in its.value)) in
        ap is_file (sym value ∙ ap (λ (p : Placed). p.value) one ∙ its.value)

-- ---- the load

pub trunc_load : (v : Volume) (content : Content) → IsSettled v content → (capacity size : ℕ) (path : List (List ℕ)) (tree : PlainTree) → data_of tree (command.Trunc path size) ≡ None → (n : ℕ) (grow : List ℕ)
    → weight capacity (volume_of content) tree (command.Trunc path size) ≡ cost.Load n grow → catalog_node v ≤ n
trunc_load v content settled capacity size path tree none n grow is =
    omega (
      arith,
      counts (free_blocks (volume_of content)) capacity (volume_of content) (edits 0 0 0 1) n grow (sym (trunc_weight capacity (free_blocks (volume_of content)) (volume_of content) tree path size none) ∙ is),
      ap (λ (l : VolumeState). l.catalog_tree.shape.node_size / 512) settled.lists,
    )

-- ---- what the step refuses

abbrev facts_in : Facts → Result Facts Refusal → Facts
facts_in other (Ok told) = told
facts_in other (Err why) = other

abbrev refused_step : PlainTree → Refusal → Step
refused_step tree why = (reply.No why, tree)

abbrev why_in : Refusal → Result Facts Refusal → Refusal
why_in other (Ok told) = other
why_in other (Err why) = why

refused_by : (tree : PlainTree) (path : List (List ℕ)) (size : ℕ) (told : Facts) → Ok told ≡ facts_or (step_line tree (Ok (command.Stat path))).0 → (why : Refusal) → Some why ≡ against_trunc size told
    → (reply.No why ≡ (step_line tree (Ok (command.Trunc path size))).0) × (tree ≡ (step_line tree (Ok (command.Trunc path size))).1)
refused_by tree path size told is why stands = by_own (is_private_path path) is
  where
    of_size : (n : PlainNode) (b : Bool) → Some why ≡ (if b then Some refusal.TooLarge else None) → on tree (if b then Err refusal.TooLarge else Ok n) (λ file. (reply.Ok, resized file size tree)) ≡ (reply.No why, tree)
    of_size n true same = ap (λ (w : Refusal). refused_step tree w) (sym (some_same why refusal.TooLarge same))
    of_size n false same = absurd (none_or_some why (sym same))

    of_folder : (n : PlainNode) (entries : ℕ) (b : Bool) → Some why ≡ (if b then Some refusal.IsFolder else if nat_lt most_size size then Some refusal.TooLarge else None)
        → on tree (then_ (if b then Err refusal.IsFolder else Ok n) (unless (nat_lt most_size size) refusal.TooLarge)) (λ file. (reply.Ok, resized file size tree)) ≡ (reply.No why, tree)
    of_folder n entries true same = ap (λ (w : Refusal). refused_step tree w) (sym (some_same why refusal.IsFolder same))
    of_folder n entries false same = of_size n (nat_lt most_size size) same

    by_node : (r : Result PlainNode Refusal) → Ok told ≡ facts_or (on tree r (λ node. (reply.Facts (facts_of tree node), tree))).0
        → on tree (then_ (then_ r (λ node. unless node.folder refusal.IsFolder node)) (unless (nat_lt most_size size) refusal.TooLarge)) (λ file. (reply.Ok, resized file size tree)) ≡ (reply.No why, tree)
    by_node (Ok n) same = of_folder n (length (entries_in tree n.id)) n.folder (stands ∙ ap (against_trunc size) (ap (facts_in told) same))
    by_node (Err other) same = absurd (cc same)

    pair : (b : Bool) (s : Step) → s ≡ (reply.No why, tree) → (reply.No why ≡ s.0) × (tree ≡ s.1)
    pair b s is_it = (sym (ap (λ (x : Step). x.0) is_it), sym (ap (λ (x : Step). x.1) is_it))

    by_own : (b : Bool) → Ok told ≡ facts_or (if b || false then (reply.No refusal.Private, tree) else step tree (command.Stat path)).0
        → (reply.No why ≡ (if b || false then (reply.No refusal.Private, tree) else step tree (command.Trunc path size)).0) × (tree ≡ (if b || false then (reply.No refusal.Private, tree) else step tree (command.Trunc path size)).1)
    by_own true same = absurd (cc same)
    by_own false same = pair true (step tree (command.Trunc path size)) (by_node (to_node tree path) same)

pub refused_told : (tree : PlainTree) (path : List (List ℕ)) (size : ℕ) (told : Facts) → Ok told ≡ facts_or (step_line tree (Ok (command.Stat path))).0 → (why : Refusal) → Some why ≡ against_trunc size told
    → (reply.No why ≡ (step_line tree (Ok (command.Trunc path size))).0) × (tree ≡ (step_line tree (Ok (command.Trunc path size))).1)
refused_told tree path size told is why stands = refused_by tree path size told is why stands

-- a path that `stat` is refused for
pub refused_stat : (tree : PlainTree) (path : List (List ℕ)) (size : ℕ) (why : Refusal) → Err why ≡ facts_or (step_line tree (Ok (command.Stat path))).0
    → (reply.No why ≡ (step_line tree (Ok (command.Trunc path size))).0) × (tree ≡ (step_line tree (Ok (command.Trunc path size))).1)
refused_stat tree path size why is = by_own (is_private_path path) is
  where
    by_node : (r : Result PlainNode Refusal) → Err why ≡ facts_or (on tree r (λ node. (reply.Facts (facts_of tree node), tree))).0
        → on tree (then_ (then_ r (λ node. unless node.folder refusal.IsFolder node)) (unless (nat_lt most_size size) refusal.TooLarge)) (λ file. (reply.Ok, resized file size tree)) ≡ (reply.No why, tree)
    by_node (Ok n) same = absurd (cc same)
    by_node (Err other) same = ap (λ (w : Refusal). refused_step tree w) (sym (ap (why_in why) same))

    by_own : (b : Bool) → Err why ≡ facts_or (if b || false then (reply.No refusal.Private, tree) else step tree (command.Stat path)).0
        → (reply.No why ≡ (if b || false then (reply.No refusal.Private, tree) else step tree (command.Trunc path size)).0) × (tree ≡ (if b || false then (reply.No refusal.Private, tree) else step tree (command.Trunc path size)).1)
    by_own true same = (ap (λ (w : Refusal). reply.No w) (ap (why_in why) same), refl)
    by_own false same = let both = by_node (to_node tree path) same in (sym (ap (λ (x : Step). x.0) both), sym (ap (λ (x : Step). x.1) both))
