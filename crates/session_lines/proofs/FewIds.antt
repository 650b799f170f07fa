-- Ids stay few: a step draws as many as its weight counts, and a command for which there are too few is refused.
use Rattle.std.proofs.Common.{◌≡◌, ◌≤◌, ◌<◌, ◌+◌, ◌*◌, ◌^◌, ℕ, Bool, true, false, List, [], ◌∷◌, refl, sym, ◌∙◌, ap, subst, arith, eq-eqb, ⊎_elim}
use Rattle.std.specs.Prelude.{Contains, IsTrue, drop, take, length, ◌==◌, ◌&&◌, ◌||◌, is_some, nat_lt, not, slice_index, Option, Some, None, Result, Ok, Err, if◌then◌else◌}
use Rattle.std.specs.Option.{ok_or}
use Rattle.std.proofs.lemmas.Bool.{eqb-true, ltb-false, true≢false}
use Rattle.cat_records.specs.declared.record.CatRecord.{CatRecord}
use Rattle.cat_records.specs.declared.record.CatRecord.TheVariants.{Folder, File, Thread}
use Rattle.jnl_format.specs.Recovery.{Content}
use Rattle.hfs_language.specs.declared.command.Command.{Command}
use Rattle.hfs_language.specs.declared.command.Command.TheVariants as command
use Rattle.hfs_language.specs.declared.refusal.Refusal.{Refusal}
use Rattle.hfs_language.specs.declared.refusal.Refusal.TheVariants as refusal
use Rattle.hfs_language.specs.declared.reply.Reply.TheVariants as reply
use Rattle.hfs_model.specs.Plain.{is_at, is_node, names_of, node_at, without_entry, without_node}
use Rattle.hfs_model.specs.Step.{Place, Step, is_private, is_private_path, is_root, is_same_file, link_ids, linked, made, marked, moved, moved_over, on, only_reads, place, reached, refuses, removed, removed_folder, resized, root_entry, step, step_line, then_, to_attribute, to_folder, to_link, to_ln, to_make, to_mv, to_node, to_read, to_rm, to_rmdir, to_set, to_trunc, to_value, to_write, unless, unnamed, vacated, with_private, written}
use Rattle.hfs_model.specs.Kinds.{kind_refuses, kind_step, kind_told, made_link, path_of_edit, resource_written, to_symlink}
use Rattle.hfs_model.specs.declared.kinds.KindEdit.{KindEdit}
use Rattle.hfs_model.specs.declared.kinds.KindEdit.TheVariants as kinds
use Rattle.hfs_model.specs.declared.plain.PlainEntry.{PlainEntry}
use Rattle.hfs_model.specs.declared.plain.PlainNode.{PlainNode}
use Rattle.hfs_model.specs.declared.plain.PlainTree.{PlainTree}
use Rattle.hfs_volume.specs.declared.asked.Asked.{Asked}
use Rattle.hfs_volume.specs.declared.asked.Asked.TheVariants.{Kind, Plain}
use Rattle.hfs_volume.specs.Books.{IsGivenTree}
use Rattle.hfs_volume.specs.Content.{VolumeState, attributes_of, records_of, volume_of}
use Rattle.hfs_volume.specs.Sound.{IsSound}
use Rattle.hfs_volume.specs.declared.cost.Needs.{Needs}
use Rattle.hfs_volume.specs.declared.cost.Room.{Room}
use Rattle.hfs_volume.specs.declared.cost.ValueChange.{ValueChange}
use Rattle.hfs_volume.specs.Cost.{cost_of, cost_or, first_refusal, load_of, plan_of, resource_refusal, where_}
use Rattle.hfs_volume.specs.Records.{Attribute, Placed}
use Rattle.hfs_volume.specs.TreeOf.{bytes_in, empty_forks, is_linked, is_plain_file, is_plain_folder, node_in, plain_node, tree_in, tree_of, valued}
use Rattle.hfs_volume.specs.Weight.{Data, Edits, changes_nothing, data_of, edits, cut_cost, edits_of, folders_made, free_blocks, lacks_tree, ln_edits, mv_edits, over_edits, place_edits, rm_edits, rm_edits_at, rmdir_edits, needs_cut, needs_cut_in, needs_for, needs_in, room_with, values_of, weight, weight_with, with_values}
use Rattle.hfs_volume.specs.KindWeight.{fork_of_edit, kind_data_of, kind_edits_of, kind_only_reads, kind_weight, kind_weight_with}
use Rattle.hfs_volume.specs.Links.{private_id}
use Rattle.hfs_volume.specs.declared.cost.Cost.TheVariants as cost
use Rattle.hfs_volume.proofs.Flat.{found_some}
use Rattle.hfs_volume.proofs.Members.{in_one}
use Rattle.hfs_volume.proofs.NodesOf.{nodes_from}
use Rattle.hfs_volume.proofs.Reaching.{found_ok, ok_same, then_ok, unless_ok}
use Rattle.hfs_volume.proofs.Sharing.{linked_is, shared_is}
use Rattle.hfs_volume.proofs.Telling.{has_private_is, next_is, nodes_are}
use Rattle.volume_runs.specs.Run.{DoesLine, Entry, IsAnswered, IsDone, IsKindAnswered, IsKindDone, IsPlainServed, IsServed, IsServedBy, asked_by, puts_nothing}
use Rattle.session_lines.proofs.Owned.{mv_pair, pair_place}
use Rattle.session_lines.proofs.Places.{counted, placed, walked_to}
use Rattle.session_lines.proofs.Remains.{count_parts, few_at}

-- one id, unless it is there
abbrev drawn_if : Bool → ℕ
drawn_if there = if there then 0 else 1

-- ---- steps

module _ (tree : PlainTree) (given : IsGivenTree tree) (private : (node : PlainNode) → Contains tree.nodes node → node.linked ≡ true → tree.has_private ≡ true) where
  on_within : {X : Type 0} (ids : Result X Refusal → ℕ) (r : Result X Refusal) (next : X → Step) → ((x : X) → r ≡ Ok x → (next x).1.next_id ≤ tree.next_id + ids r) → (on tree r next).1.next_id ≤ tree.next_id + ids r
  on_within ids (Ok x) next has = has x refl
  on_within ids (Err why) next has = omega arith

  -- what a path reaches that isn't the root stands in the tree
  stands_there : (path : List (List ℕ)) (at : PlainEntry) → is_root path ≡ false → reached tree path ≡ Ok at → Contains tree.entries at
  stands_there [] at named is = absurd (true≢false named)
  stands_there (name ∷ path) at named is = walked_to tree path root_entry at name is

  -- a file that loses a name draws an id with its last one, where the private folder isn't there
  module _ (at : PlainEntry) (there : Contains tree.entries at) where
    abbrev less : PlainTree
    less = without_entry at.parent at.name tree

    node : PlainNode
    node = (given.plain.named at there).named.0

    node_is : node_at tree at.id ≡ Some node
    unfolding node
    node_is = (given.plain.named at there).named.1

    node_there : Contains tree.nodes node × ((node.id == at.id) ≡ true)
    node_there = found_some (is_node at.id) tree.nodes node node_is

    next_by : (b : Bool) → (names_of less at.id == 0) ≡ b → (removed at tree).next_id ≡ (if b then tree.next_id + drawn_if tree.has_private else tree.next_id)
    next_by true is = ap (λ c. (if c then with_private (without_node at.id less) else marked at.id less).next_id) is
    next_by false is = ap (λ c. (if c then with_private (without_node at.id less) else marked at.id less).next_id) is

    one_name : (names_of less at.id == 0) ≡ true → names_of tree node.id ≡ 1
    one_name is =
        let its : PlainEntry → Bool = λ e. e.id == at.id in
        let parts = count_parts its (is_at at.parent at.name) tree.entries in
        let few = few_at its at.parent at.name tree.entries given.plain.entries_sorted in
        let some = counted its tree.entries at there (eq-eqb at.id at.id refl) in
        ap (names_of tree) (eqb-true node.id at.id node_there.1) ∙ omega (arith, parts, few, some, eqb-true (names_of less at.id) 0 is)

    unlinked : tree.has_private ≡ false → (b : Bool) → node.linked ≡ b → node.linked ≡ false
    unlinked none true is = absurd (true≢false (sym (private node node_there.0 is) ∙ none))
    unlinked none false is = is

    lost : (several last : Edits) (only : ℕ → Edits) → (only 1).ids ≡ 1 → (removed at tree).next_id ≤ tree.next_id + (if nat_lt 1 (names_of tree node.id) then several else if node.linked then last else only (folders_made tree)).ids
    lost several last only one = by tree.has_private refl (names_of less at.id == 0) refl
      where
        by : (p : Bool) → tree.has_private ≡ p → (b : Bool) → (names_of less at.id == 0) ≡ b → (removed at tree).next_id ≤ tree.next_id + (if nat_lt 1 (names_of tree node.id) then several else if node.linked then last else only (folders_made tree)).ids
        by p has false is = omega (arith, next_by false is)
        by true has true is = omega (arith, next_by true is, ap drawn_if has)
        by false has true is =
            let ids : (if nat_lt 1 (names_of tree node.id) then several else if node.linked then last else only (folders_made tree)).ids ≡ 1 =
            ap (λ n. (if nat_lt 1 n then several else if node.linked then last else only (folders_made tree)).ids) (one_name is)
            ∙ ap (λ b. (if b then last else only (folders_made tree)).ids) (unlinked has node.linked refl) ∙ ap (λ b. (only (drawn_if b)).ids) has ∙ one in
            omega (arith, next_by true is, ap drawn_if has, ids)

  rm_within : (path : List (List ℕ)) (at : PlainEntry) → to_rm tree path ≡ Ok at → (removed at tree).next_id ≤ tree.next_id + (rm_edits tree (node_at tree at.id)).ids
  rm_within path at is =
      let first = then_ok (unless (is_root path) refusal.Root path) (λ named. then_ (reached tree named) (λ at. unless at.folder refusal.IsFolder at)) at is in
      let root = unless_ok (is_root path) refusal.Root path first.0 first.1 in
      let second = then_ok (reached tree first.0) (λ at. unless at.folder refusal.IsFolder at) at first.2 in
      let kind = unless_ok second.0.folder refusal.IsFolder second.0 at second.2 in
      let there = stands_there path at root.0 (ap (reached tree) root.1 ∙ second.1 ∙ ap (λ (e : PlainEntry). Ok e) kind.1) in
      subst (λ (o : Option PlainNode). (removed at tree).next_id ≤ tree.next_id + (rm_edits tree o).ids) (sym (node_is at there)) (lost at there (edits 0 2 0 4) (edits 0 5 0 4) (λ n. edits n (3 + 2 * n) 0 4) refl)

  mv_within : (from to : List (List ℕ)) (pair : PlainEntry × Place) → to_mv tree from to ≡ Ok pair → (moved_over pair.0 pair.1 tree).next_id ≤ tree.next_id + (place_edits tree pair.1.found).ids
  mv_within from to pair is = by_same (is_same_file pair.0 pair.1.found)
    where
      goal_is : place tree to ≡ Ok pair.1
      goal_is = (pair_place tree from to pair (mv_pair tree from to pair is).0).4

      by_found : (o : Option PlainEntry) → pair.1.found ≡ o → (vacated o tree).next_id ≤ tree.next_id + (place_edits tree o).ids
      by_found None found = omega arith
      by_found (Some gone) found =
          let there = (found_some (is_at pair.1.folder pair.1.name) tree.entries gone (sym (placed tree to pair.1 goal_is).1 ∙ found)).0 in
          subst (λ (o : Option PlainNode). (removed gone tree).next_id ≤ tree.next_id + (over_edits tree o).ids) (sym (node_is gone there)) (lost gone there (edits 0 5 0 6) (edits 0 8 0 6) (λ n. edits n (6 + 2 * n) 0 6) refl)

      by_same : (b : Bool) → (if b then tree else moved pair.0 pair.1 (vacated pair.1.found tree)).next_id ≤ tree.next_id + (place_edits tree pair.1.found).ids
      by_same true = omega arith
      by_same false = by_found pair.1.found refl

  ln_within : (from to : List (List ℕ)) (pair : PlainNode × Place) → to_link tree from to ≡ Ok pair → (linked pair.0 pair.1 tree).next_id ≤ tree.next_id + (if pair.0.linked then edits 1 2 0 4 else edits (2 + folders_made tree) (7 + 2 * folders_made tree) 0 4).ids
  ln_within from to pair is = by pair.0.linked refl
    where
      its : Contains tree.nodes pair.0
      its =
          let first = then_ok (to_ln tree from to) (λ named. then_ (ok_or (node_at tree named.0.id) refusal.NotFound) (λ file. Ok (file, named.1))) pair is in
          let second = then_ok (ok_or (node_at tree first.0.0.id) refusal.NotFound) (λ file. Ok (file, first.0.1)) pair first.2 in
          let same : second.0 ≡ pair.0 = ap (λ (p : PlainNode × Place). p.0) (ok_same (second.0, first.0.1) pair second.2) in
          subst (Contains tree.nodes) same (found_some (is_node first.0.0.id) tree.nodes second.0 (found_ok (node_at tree first.0.0.id) refusal.NotFound second.0 second.1)).0

      ids_of : Bool → ℕ
      ids_of b = (if b then edits 1 2 0 4 else edits (2 + folders_made tree) (7 + 2 * folders_made tree) 0 4).ids

      by : (b : Bool) → pair.0.linked ≡ b → (linked pair.0 pair.1 tree).next_id ≤ tree.next_id + (if pair.0.linked then edits 1 2 0 4 else edits (2 + folders_made tree) (7 + 2 * folders_made tree) 0 4).ids
      by true has =
          omega (arith, ap {B = ℕ} (λ b. if b then 1 else 2) has, ap (λ b. (if b then edits 1 2 0 4 else edits (2 + folders_made tree) (7 + 2 * folders_made tree) 0 4).ids) has, ap drawn_if (private pair.0 its has))
      by false has = omega (arith, ap {B = ℕ} (λ b. if b then 1 else 2) has, ap (λ b. (if b then edits 1 2 0 4 else edits (2 + folders_made tree) (7 + 2 * folders_made tree) 0 4).ids) has)

  written_next : (file : PlainNode) (from : ℕ) (value : List ℕ) → (written file from value tree).next_id ≡ tree.next_id
  written_next file from [] = refl
  written_next file from (byte ∷ value) = refl

  step_within : (asked : Command) → (step tree asked).1.next_id ≤ tree.next_id + (edits_of tree asked).ids
  step_within (command.Mkdir path) = on_within (λ r. 1) (to_make tree path) (λ at. (reply.Ok, made true at tree)) (λ at is. omega arith)
  step_within (command.Create path) = on_within (λ r. 1) (to_make tree path) (λ at. (reply.Ok, made false at tree)) (λ at is. omega arith)
  step_within (command.Rm path) = on_within (λ r. (rm_edits_at tree r).ids) (to_rm tree path) (λ at. (reply.Ok, removed at tree)) (λ at is. subst (λ r. (removed at tree).next_id ≤ tree.next_id + (rm_edits_at tree r).ids) (sym is) (rm_within path at is))
  step_within (command.Rmdir path) = on_within (λ r. (rmdir_edits tree r).ids) (to_rmdir tree path) (λ at. (reply.Ok, removed_folder at tree)) (λ at is. omega arith)
  step_within (command.Mv from to) = on_within (λ r. (mv_edits tree r).ids) (to_mv tree from to) (λ pair. (reply.Ok, moved_over pair.0 pair.1 tree)) (λ pair is. subst (λ r. (moved_over pair.0 pair.1 tree).next_id ≤ tree.next_id + (mv_edits tree r).ids) (sym is) (mv_within from to pair is))
  step_within (command.Ln from to) = on_within (λ r. (ln_edits tree r).ids) (to_link tree from to) (λ pair. (reply.Ok, linked pair.0 pair.1 tree)) (λ pair is. subst (λ r. (linked pair.0 pair.1 tree).next_id ≤ tree.next_id + (ln_edits tree r).ids) (sym is) (ln_within from to pair is))
  step_within (command.Write path from value) = on_within (λ r. 0) (to_write tree path from value) (λ file. (reply.Ok, written file from value tree)) (λ file is. omega (arith, written_next file from value))
  step_within (command.Read path from long) = on_within (λ r. 0) (to_read tree path long) _ (λ file is. omega arith)
  step_within (command.Trunc path size) = on_within (λ r. 0) (to_trunc tree path size) (λ file. (reply.Ok, resized file size tree)) (λ file is. omega arith)
  step_within (command.Ls path) = on_within (λ r. 0) (to_folder tree path) _ (λ file is. omega arith)
  step_within (command.Stat path) = on_within (λ r. 0) (to_node tree path) _ (λ file is. omega arith)
  step_within (command.Chmod path mode) = on_within (λ r. 0) (to_node tree path) _ (λ file is. omega arith)
  step_within (command.SetAttr path name value) = on_within (λ r. 0) (to_set tree path value) _ (λ file is. omega arith)
  step_within (command.GetAttr path name) = on_within (λ r. 0) (to_value tree path name) _ (λ file is. omega arith)
  step_within (command.DelAttr path name) = on_within (λ r. 0) (to_attribute tree path name) _ (λ file is. omega arith)
  step_within (command.LsAttr path) = on_within (λ r. 0) (to_node tree path) _ (λ file is. omega arith)
  step_within (command.At moment) = omega arith
  step_within command.Df = omega arith
  step_within command.Sync = omega arith

-- ---- a file with several names lies in the private folder

linked_private : (content : Content) (one : PlainNode) → Contains (tree_of content).nodes one → one.linked ≡ true → (tree_of content).has_private ≡ true
unfolding tree_of
linked_private content one there is =
    let records = records_of (volume_of content) in
    let it = nodes_from (valued (bytes_in content) (attributes_of (volume_of content))) (bytes_in content) records one (subst (λ (l : List PlainNode). Contains l one) (nodes_are (volume_of content) (bytes_in content)) there) in
    of_value it.entry it.entry.value it.has
  where
    of_value : (e : Placed) (v : CatRecord) → Contains (node_in (valued (bytes_in content) (attributes_of (volume_of content))) (records_of (volume_of content)) (bytes_in content) e v) one → (tree_in (volume_of content) (bytes_in content)).has_private ≡ true
    of_value e (Folder f) has = by (is_plain_folder (records_of (volume_of content)) e) has
      where
        by : (b : Bool) → Contains (if b then plain_node (valued (bytes_in content) (attributes_of (volume_of content))) f.fields true empty_forks false ∷ [] else []) one → (tree_in (volume_of content) (bytes_in content)).has_private ≡ true
        by true its = absurd (true≢false (sym is ∙ ap (λ (n : PlainNode). n.linked) (in_one (plain_node (valued (bytes_in content) (attributes_of (volume_of content))) f.fields true empty_forks false) one its)))
        by false none = absurd (omega (arith, none.1))
    of_value e (File f) has = by (is_plain_file (records_of (volume_of content)) e) has
      where
        by : (b : Bool) → Contains (if b then plain_node (valued (bytes_in content) (attributes_of (volume_of content))) f.fields false ((bytes_in content).file f) (is_linked (records_of (volume_of content)) e) ∷ [] else []) one → (tree_in (volume_of content) (bytes_in content)).has_private ≡ true
        by true its =
            let same = in_one (plain_node (valued (bytes_in content) (attributes_of (volume_of content))) f.fields false ((bytes_in content).file f) (is_linked (records_of (volume_of content)) e)) one its in
            let links = linked_is (records_of (volume_of content)) e (sym (ap (λ (n : PlainNode). n.linked) same) ∙ is) in
            has_private_is (volume_of content) (bytes_in content) ∙ ap is_some (shared_is (private_id (records_of (volume_of content))) _ e links.names).private_is
        by false none = absurd (omega (arith, none.1))
    of_value e (Thread t) has = absurd (omega (arith, has.1))

-- ---- the weight

none_there : (why : Option Refusal) (load : ℕ) (grow : List ℕ) (n : ℕ) (other : List ℕ) → cost_or why load grow ≡ cost.Load n other → why ≡ None
none_there None load grow n other is = refl
none_there (Some why) load grow n other is = absurd (let same : cost.Refused why ≡ cost.Load n other = is in cc same)

first_none : (b : Bool) (why : Refusal) (rest : List (Option Refusal)) → first_refusal (where_ b why ∷ rest) ≡ None → b ≡ false
first_none true why rest is = absurd (let some : Some why ≡ None = is in cc some)
first_none false why rest is = refl

few_of_cost : (needs : Needs) (room : Room) (n : ℕ) (grow : List ℕ) → cost_of needs room ≡ cost.Load n grow → room.next_id + needs.ids ≤ 4294967295
unfolding cost_of
few_of_cost needs room n grow is =
    let plan = plan_of needs room in
    let all : resource_refusal needs room plan ≡ None = none_there (resource_refusal needs room plan) (load_of needs room plan) plan.grow n grow is in
    ltb-false 4294967295 (room.next_id + needs.ids) (first_none (nat_lt 4294967295 (room.next_id + needs.ids)) (refusal.NoIds room.next_id) _ all)

needs_ids : (free : List Bool) (volume : VolumeState) (many : Edits) (has : Option Data) (change : Option ValueChange) → (with_values free change (needs_for free volume many has)).ids ≡ many.ids
needs_ids free volume many None None = refl
needs_ids free volume many None (Some change) = refl
needs_ids free volume many (Some has) None = refl
needs_ids free volume many (Some has) (Some change) = refl

room_next : (capacity : ℕ) (free : List Bool) (volume : VolumeState) → (room_with capacity free volume).next_id ≡ volume.head.next_catalog_id
unfolding room_with
room_next capacity free volume = refl

-- a command that is done takes ids that are there
module _ (capacity : ℕ) (volume : VolumeState) (tree : PlainTree) (asked : Command) where
  abbrev needs_here : Needs
  needs_here = with_values (free_blocks volume) (values_of volume tree asked) (needs_for (free_blocks volume) volume (edits_of tree asked) (data_of tree asked))

  abbrev room_here : Room
  room_here = room_with capacity (free_blocks volume) volume

  few_of_need : (n : ℕ) (grow : List ℕ) (b : Bool) → (if b then cost.Refused refusal.NoTree else cost_of needs_here room_here) ≡ cost.Load n grow → volume.head.next_catalog_id + (edits_of tree asked).ids ≤ 4294967295
  few_of_need n grow true refused = absurd (let same : cost.Refused refusal.NoTree ≡ cost.Load n grow = refused in cc same)
  few_of_need n grow false afforded = omega (arith, few_of_cost needs_here room_here n grow afforded, room_next capacity (free_blocks volume) volume, needs_ids (free_blocks volume) volume (edits_of tree asked) (data_of tree asked) (values_of volume tree asked))

  few_of_weight : (n : ℕ) (grow : List ℕ) → weight capacity volume tree asked ≡ cost.Load n grow → needs_cut volume (data_of tree asked) ≡ false → (only_reads asked || changes_nothing tree asked) ≡ false → volume.head.next_catalog_id + (edits_of tree asked).ids ≤ 4294967295
  unfolding weight_with
  few_of_weight n grow is no_cut changes = few_of_need n grow (lacks_tree volume asked) (sym (λ i. if changes i then cost.Load 0 (0 ∷ 0 ∷ 0 ∷ []) else if no_cut i then cut_cost (room_with capacity (free_blocks volume) volume) else if lacks_tree volume asked then cost.Refused refusal.NoTree else cost_of needs_here room_here) ∙ is)

-- ---- commands on links and resource forks

kind_needs_ids : (kind : ℕ) (free : List Bool) (volume : VolumeState) (many : Edits) (has : Option Data) → (needs_in kind free volume many has).ids ≡ many.ids
kind_needs_ids kind free volume many None = refl
kind_needs_ids kind free volume many (Some has) = refl

few_of_kind : (capacity : ℕ) (volume : VolumeState) (tree : PlainTree) (asked : KindEdit) (n : ℕ) (grow : List ℕ) → kind_weight capacity volume tree asked ≡ cost.Load n grow → needs_cut_in (fork_of_edit asked) volume (kind_data_of tree asked) ≡ false
    → kind_only_reads asked ≡ false → volume.head.next_catalog_id + (kind_edits_of asked).ids ≤ 4294967295
unfolding kind_weight_with
few_of_kind capacity volume tree asked n grow is no_cut changes =
    let needs = needs_in (fork_of_edit asked) (free_blocks volume) volume (kind_edits_of asked) (kind_data_of tree asked) in
    let room = room_with capacity (free_blocks volume) volume in
    let afforded : cost_of needs room ≡ cost.Load n grow = sym (λ i. if changes i then cost.Load 0 (0 ∷ 0 ∷ 0 ∷ []) else if no_cut i then cut_cost room else cost_of needs room) ∙ is in
    omega (arith, few_of_cost needs room n grow afforded, room_next capacity (free_blocks volume) volume, kind_needs_ids (fork_of_edit asked) (free_blocks volume) volume (kind_edits_of asked) (kind_data_of tree asked))

on_ids : {X : Type 0} (tree : PlainTree) (more : ℕ) (r : Result X Refusal) (next : X → Step) → ((x : X) → (next x).1.next_id ≤ tree.next_id + more) → (on tree r next).1.next_id ≤ tree.next_id + more
on_ids tree more (Ok x) next has = has x
on_ids tree more (Err why) next has = omega arith

written_ids : (tree : PlainTree) (file : PlainNode) (from : ℕ) (value : List ℕ) → (resource_written file from value tree).next_id ≤ tree.next_id + 0
written_ids tree file from [] = omega arith
written_ids tree file from (byte ∷ value) = omega arith

step_ids : (tree : PlainTree) (asked : KindEdit) → (kind_step tree asked).1.next_id ≤ tree.next_id + (kind_edits_of asked).ids
step_ids tree (kinds.Symlink path value) = on_ids tree 1 (to_symlink tree path value) (λ at. (reply.Ok, made_link at value tree)) (λ at. omega arith)
step_ids tree (kinds.ResourceWrite path from value) = on_ids tree 0 (to_write tree path from value) (λ file. (reply.Ok, resource_written file from value tree)) (λ file. written_ids tree file from value)
step_ids tree (kinds.ResourceRead path from long) = on_ids tree 0 (to_read tree path long) (λ (file : PlainNode). (reply.Content (take long (drop from file.resource)), tree)) (λ file. omega arith)

kind_within : (tree : PlainTree) (asked : KindEdit) → (kind_told tree asked).1.next_id ≤ tree.next_id + (kind_edits_of asked).ids
kind_within tree asked = by (is_private_path (path_of_edit asked))
  where
    by : (b : Bool) → (if b then (reply.No refusal.Private, tree) else kind_step tree asked).1.next_id ≤ tree.next_id + (kind_edits_of asked).ids
    by true = omega arith
    by false = step_ids tree asked

-- ---- an entry

module _ (given_of : (content : Content) → IsSound content → IsGivenTree (tree_of content)) where
  next_of_tree : (content : Content) → (tree_of content).next_id ≡ (volume_of content).head.next_catalog_id
  unfolding tree_of
  next_of_tree content = next_is (volume_of content) (bytes_in content)

  same_few : (old new : Content) → new ≡ old → (tree_of old).next_id < 2 ^ 32 → (tree_of new).next_id < 2 ^ 32
  same_few old new same low = subst (λ (c : Content). (tree_of c).next_id < 2 ^ 32) (sym same) low

  line_within : (old : Content) → IsSound old → (asked : Command) → (step_line (tree_of old) (Ok asked)).1.next_id ≤ (tree_of old).next_id + (edits_of (tree_of old) asked).ids
  line_within old sound asked = by (is_private asked)
    where
      by : (b : Bool) → (if b then (reply.No refusal.Private, tree_of old) else step (tree_of old) asked).1.next_id ≤ (tree_of old).next_id + (edits_of (tree_of old) asked).ids
      by true = omega arith
      by false = step_within (tree_of old) (given_of old sound) (linked_private old) asked

  pub few_behind : (capacity : ℕ) (entry : Entry) → IsServed capacity entry → (tree_of entry.before).next_id < 2 ^ 32 → (tree_of entry.after).next_id < 2 ^ 32
  few_behind capacity entry served low = of_own entry.own served.is
    where
      done : (asked : Command) → tree_of entry.after ≡ (step_line (tree_of entry.before) (Ok asked)).1 → IsDone capacity asked entry.before entry.after → (b : Bool) → (only_reads asked || changes_nothing (tree_of entry.before) asked) ≡ b → (tree_of entry.after).next_id < 2 ^ 32
      done asked tree_is is true reads = same_few entry.before entry.after (is.reads reads) low
      done asked tree_is is false changes =
          omega (arith, few_of_weight capacity (volume_of entry.before) (tree_of entry.before) asked is.load (0 ∷ 0 ∷ 0 ∷ []) is.affords is.no_surplus changes, next_of_tree entry.before, line_within entry.before served.sound_before asked, ap (λ (t : PlainTree). t.next_id) tree_is)

      of_line : (r : Result Command Refusal) → tree_of entry.after ≡ (step_line (tree_of entry.before) r).1 → DoesLine capacity r entry.before entry.after → (tree_of entry.after).next_id < 2 ^ 32
      of_line (Err why) tree_is same = same_few entry.before entry.after same low
      of_line (Ok asked) tree_is does = by (refuses (tree_of entry.before) (Ok asked)) refl
        where
          by : (b : Bool) → refuses (tree_of entry.before) (Ok asked) ≡ b → (tree_of entry.after).next_id < 2 ^ 32
          by true is = same_few entry.before entry.after (does.0 is) low
          by false is = done asked tree_is (does.1 is) (only_reads asked || changes_nothing (tree_of entry.before) asked) refl

      kind_done : (asked : KindEdit) → tree_of entry.after ≡ (kind_told (tree_of entry.before) asked).1 → IsKindDone capacity asked entry.before entry.after → (b : Bool) → kind_only_reads asked ≡ b → (tree_of entry.after).next_id < 2 ^ 32
      kind_done asked tree_is is true reads = same_few entry.before entry.after (is.reads (subst (λ (b : Bool). IsTrue (b || puts_nothing asked)) (sym reads) refl)) low
      kind_done asked tree_is is false changes =
          omega (arith, few_of_kind capacity (volume_of entry.before) (tree_of entry.before) asked is.load (0 ∷ 0 ∷ 0 ∷ []) is.affords is.no_surplus changes, next_of_tree entry.before, kind_within (tree_of entry.before) asked, ap (λ (t : PlainTree). t.next_id) tree_is)

      of_kind : (asked : KindEdit) → IsKindAnswered capacity asked entry → (tree_of entry.after).next_id < 2 ^ 32
      of_kind asked answered = by (kind_refuses (tree_of entry.before) asked) refl
        where
          by : (b : Bool) → kind_refuses (tree_of entry.before) asked ≡ b → (tree_of entry.after).next_id < 2 ^ 32
          by true is = same_few entry.before entry.after (answered.refused is) low
          by false is = kind_done asked answered.tree (answered.does is) (kind_only_reads asked) refl

      of_plain : IsPlainServed capacity entry → (tree_of entry.after).next_id < 2 ^ 32
      of_plain is =
          ⊎_elim (λ (answered : IsAnswered capacity entry). of_line (asked_by entry) answered.tree answered.does)
          (λ lacks. ⊎_elim (λ lacks_one. same_few entry.before entry.after lacks_one.same low) (λ short. same_few entry.before entry.after short.same low) lacks) is

      of_own : (own : Option Asked) → IsServedBy capacity own entry → (tree_of entry.after).next_id < 2 ^ 32
      of_own None is = of_plain is
      of_own (Some (Plain asked)) is = of_plain is
      of_own (Some (Kind asked)) is =
          ⊎_elim (λ (answered : IsKindAnswered capacity asked entry). of_kind asked answered)
          (λ lacks. ⊎_elim (λ lacks_one. same_few entry.before entry.after lacks_one.same low) (λ short. same_few entry.before entry.after short.same low) lacks) is
