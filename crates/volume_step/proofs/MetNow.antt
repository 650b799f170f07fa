-- A command whose edits can be made now is done.
use Rattle.std.proofs.Common.{◌≡◌, ◌⊎◌, ◌≤◌, ℕ, ◌+◌, ◌*◌, Bool, true, false, List, inl, inr, refl, sym, ◌∙◌, ap, subst, arith}
use Rattle.std.specs.Prelude.{IsTrue, nat_lt, None, Option, Result, Some, Ok, Err, if◌then◌else◌, ◌==◌, length, not}
use Rattle.std.proofs.lemmas.Bool.{true≢false}
use Rattle.alloc_bitmap.specs.declared.bitmap.Bitmap.{Bitmap}
use Rattle.jnl_format.specs.Recovery.{Content}
use Rattle.sector_disk.specs.Space.{Space}
use Rattle.hfs_language.specs.declared.command.Command.{Command}
use Rattle.hfs_language.specs.declared.command.Command.TheVariants as command
use Rattle.hfs_language.specs.declared.reply.Change.{Change}
use Rattle.hfs_language.specs.declared.reply.Reply.{Reply}
use Rattle.hfs_language.specs.declared.reply.Reply.TheVariants as reply
use Rattle.hfs_language.specs.declared.refusal.Refusal.{Refusal}
use Rattle.hfs_language.specs.declared.refusal.Refusal.TheVariants as refusal
use Rattle.hfs_model.specs.Plain.{IsPlainTree, names_of, entries_in, node_at}
use Rattle.hfs_model.specs.Step.{Place, is_private, is_refusal, is_root, linked, on, only_reads, reached, refuses, removed, removed_folder, step, step_line, then_, to_link, to_mv, to_rm, to_rmdir, unless}
use Rattle.hfs_model.specs.declared.plain.PlainEntry.{PlainEntry}
use Rattle.hfs_model.specs.declared.plain.PlainNode.{PlainNode}
use Rattle.hfs_model.specs.declared.plain.PlainTree.{PlainTree}
use Rattle.hfs_volume.specs.Content.{VolumeState, has_attributes, volume_of}
use Rattle.hfs_volume.specs.Cost.{cost_of}
use Rattle.hfs_volume.specs.Sound.{IsSound}
use Rattle.hfs_volume.specs.TreeOf.{tree_of}
use Rattle.hfs_volume.specs.Weight.{Edits, edits, edits_of, folders_made, ln_edits, mv_edits, over_edits, place_edits, rm_edits, rm_edits_at, rmdir_edits, room_with, attribute_count, removed_values, values_of, values_of_node, with_values}
use Rattle.tree_weights.specs.Cutting.{TreesHoldThree}
use Rattle.tree_weights.specs.Weights.{GrowsByEnough, LoadIsOfParts, LoadSaysEnough}
use Rattle.volume_base.specs.Attributing.{set_answer}
use Rattle.volume_base.specs.Fitting.{AreMet, is_met, needs_of, takable_in, AreMetValued, IsMetNow, needs_of_values, takable_of}
use Rattle.volume_base.specs.Looking.{ReadsVolume}
use Rattle.volume_base.specs.Room.{capacity_of}
use Rattle.volume_base.specs.Standing.{IsSettled, IsStanding}
use Rattle.volume_base.specs.Values.{values_owned}
use Rattle.volume_base.specs.declared.volume.Volume.{Volume}
use Rattle.hfs_volume.proofs.Vacating.{moving_is}
use Rattle.volume_base.proofs.MovedOver.{stands}
use Rattle.volume_base.proofs.Refused.{reached_kind}
use Rattle.volume_step.specs.Steps.{Affords, IsDoneOk, takes_none}
use Rattle.volume_step.specs.declared.outcome.Outcome.TheVariants as outcome
use Rattle.volume_step.proofs.Done.{has_tree, line_ok, moves_one, reached_rm, reply_set, step_fine}
use Rattle.volume_step.proofs.Fewer.{fewer_met}
use Rattle.attributes.specs.Owned.{names_of as attribute_names}
use Rattle.hfs_volume.specs.Books.{SoundHasPlainTree}
use Rattle.hfs_volume.specs.declared.cost.ValueChange.{ValueChange}
use Rattle.volume_base.specs.Removing.{IsLeaving, owned_at}
use Rattle.volume_base.specs.declared.removing.Leaving.{Leaving}
use Rattle.volume_base.specs.declared.value_changes.OwnedValues.{OwnedValues}
use Rattle.volume_base.proofs.BareLoads.{owner_count, owner_values}

-- ---- what is answered

pub done_ok : (said : Reply) (changes : List Change) → said ≡ reply.Ok → IsDoneOk (outcome.Answered said changes)
done_ok said changes is = subst (λ (r : Reply). IsDoneOk (outcome.Answered r changes)) (sym is) tt

-- the step's reply, behind reads, where it refuses nothing
pub replied : (capacity : ℕ) (asked : Command) (before mid : Content) → mid ≡ before → only_reads asked ≡ false → Affords capacity asked before → (said : Reply) (changes : List Change) → said ≡ (step_line (tree_of mid) (Ok asked)).0 → IsDoneOk (outcome.Answered said changes)
replied capacity asked before mid same unread affords said changes is = done_ok said changes (is ∙ ap (λ (k : Content). (step_line (tree_of k) (Ok asked)).0) same ∙ line_ok (tree_of before) asked unread affords.no_refusal)

-- `setattr` has a reply of its own where there is no attributes file, which has a weight that is no load
pub set_fine : (capacity : ℕ) (path : List (List ℕ)) (name value : List ℕ) (v : Volume) (before : Content) → IsSettled v before → Affords capacity (command.SetAttr path name value) before → (said : Reply)
    → said ≡ set_answer (has_attributes v.header) (step_line (tree_of before) (Ok (command.SetAttr path name value))).0 → said ≡ reply.Ok
set_fine capacity path name value v before settled affords said is =
    reply_set (has_attributes v.header) said (step_line (tree_of before) (Ok (command.SetAttr path name value))).0 (sym (ap (λ (l : VolumeState). has_attributes l.head) settled.lists) ∙ has_tree capacity before path name value affords) is
    ∙ line_ok (tree_of before) (command.SetAttr path name value) refl affords.no_refusal

-- ---- what is met

-- behind reads it is met still
pub met_still : (v w : Volume) (a b : Space) → ReadsVolume v w a b → IsTrue a.tells → (asked : Edits) → AreMet asked v a → AreMet asked w b
met_still v w a b reads tells asked met =
    subst (λ (k : ℕ × Bitmap × Content × ℕ). is_met (cost_of (needs_of asked) (room_with k.0 (takable_in k.1) (volume_of k.2))) k.3 ≡ true) {x = (capacity_of v, v.map, a.content, a.spare)} {y = (capacity_of w, w.map, b.content, b.spare)}
    (λ i. (sym reads.keeps.capacity i, sym reads.keeps.map i, sym (reads.looks.content tells) i, sym reads.looks.spare i)) met

-- Edits are no more than others, of each kind; of the attributes as many, or none.
pub record AreFewer (few many : Edits) : Type 0 where
  pub ids : few.ids ≤ many.ids
  pub catalog : few.catalog ≤ many.catalog
  pub attributes : (few.attributes ≡ many.attributes) ⊎ (few.attributes ≡ 0)
  pub updates : few.updates ≤ many.updates

-- they are met where those are
pub fewer_are : LoadSaysEnough → LoadIsOfParts → GrowsByEnough → TreesHoldThree → (v : Volume) (a : Space) → IsSound a.content → (few many : Edits) → AreFewer few many → AreMet many v a → AreMet few v a
fewer_are says of_parts enough three v a sound few many fewer met =
    fewer_met says of_parts enough few (needs_of many) (room_with (capacity_of v) (takable_in v.map) (volume_of a.content)) a.spare
    (three a.content (capacity_of v) 1 (takable_in v.map) sound.trees (omega arith) (λ two. absurd (omega (arith, two)))) fewer.ids fewer.catalog fewer.attributes fewer.updates met

-- ---- the edits of commands that their step doesn't refuse

-- `rmdir`: a folder, and its attributes
pub removes_one : (tree : PlainTree) (path : List (List ℕ)) → refuses tree (Ok (command.Rmdir path)) ≡ false → (entry : PlainEntry) × (to_rmdir tree path ≡ Ok entry)
removes_one tree path is = by (to_rmdir tree path) refl (step_fine tree (command.Rmdir path) is)
  where
    by : (r : Result PlainEntry Refusal) → to_rmdir tree path ≡ r → is_refusal (on tree r (λ at. (reply.Ok, removed_folder at tree))).0 ≡ false → (entry : PlainEntry) × (to_rmdir tree path ≡ Ok entry)
    by (Ok entry) found fine = (entry, found)
    by (Err why) found fine = absurd (true≢false fine)

-- what may be removed is a folder
removed_is : (tree : PlainTree) (path : List (List ℕ)) (entry : PlainEntry) → to_rmdir tree path ≡ Ok entry → entry.folder ≡ true
removed_is tree path entry is = by_root (is_root path) is
  where
    by_empty : (at : PlainEntry) (b : Bool) → unless b refusal.NotEmpty at ≡ Ok entry → at ≡ entry
    by_empty at true same = absurd (let none : Err refusal.NotEmpty ≡ Ok entry = same in cc none)
    by_empty at false same = cc same

    by_kind : (at : PlainEntry) (f : Bool) → at.folder ≡ f → then_ (unless (not f) refusal.NotFolder at) (λ folder. unless (not (length (entries_in tree folder.id) == 0)) refusal.NotEmpty folder) ≡ Ok entry → entry.folder ≡ true
    by_kind at false here same = absurd (let none : Err refusal.NotFolder ≡ Ok entry = same in cc none)
    by_kind at true here same = sym (ap (λ (e : PlainEntry). e.folder) (by_empty at (not (length (entries_in tree at.id) == 0)) same)) ∙ here

    by_reached : (r : Result PlainEntry Refusal) → then_ r (λ at. then_ (unless (not at.folder) refusal.NotFolder at) (λ folder. unless (not (length (entries_in tree folder.id) == 0)) refusal.NotEmpty folder)) ≡ Ok entry → entry.folder ≡ true
    by_reached (Ok at) same = by_kind at at.folder refl same
    by_reached (Err why) same = absurd (let none : Err why ≡ Ok entry = same in cc none)

    by_root : (b : Bool)
        → then_ (unless b refusal.Root path) (λ named. then_ (reached tree named) (λ at. then_ (unless (not at.folder) refusal.NotFolder at) (λ folder. unless (not (length (entries_in tree folder.id) == 0)) refusal.NotEmpty folder))) ≡ Ok entry
        → entry.folder ≡ true
    by_root true same = absurd (let none : Err refusal.Root ≡ Ok entry = same in cc none)
    by_root false same = by_reached (reached tree path) same

-- its removal is met by the numbers of its attributes and their values
pub removal_met : SoundHasPlainTree → (v : Volume) (a : Space) → IsStanding v a → IsSettled v a.content → (path : List (List ℕ)) (entry : PlainEntry) → to_rmdir (tree_of a.content) path ≡ Ok entry → (owned : OwnedValues) → owned ≡ owned_at entry.id (volume_of a.content)
    → IsMetNow (command.Rmdir path) v a → AreMetValued (edits 0 2 owned.count 1) owned.change v a
removal_met law v a was settled path entry allowed owned owned_is met =
    subst (λ (o : OwnedValues). AreMetValued (edits 0 2 o.count 1) o.change v a) (sym owned_is)
    (subst (λ (k : ℕ × Option ValueChange). is_met (cost_of (with_values (takable_of v) k.1 (needs_of (edits 0 2 k.0 1))) (room_with (capacity_of v) (takable_of v) (volume_of a.content))) a.spare ≡ true)
    {x = (attribute_count (node_at (tree_of a.content) entry.id), values_of_node (volume_of a.content) (node_at (tree_of a.content) entry.id))} {y = (length (attribute_names entry.id (volume_of a.content).attribute_pairs), Some (values_owned (volume_of a.content) entry.id))}
    (λ i. (owner_count law v a was settled leaving entry.name is_leaving i, owner_values law v a was settled leaving entry.name is_leaving i))
    (subst (λ (r : Result PlainEntry Refusal). is_met (cost_of (with_values (takable_of v) (removed_values (volume_of a.content) (tree_of a.content) r) (needs_of (rmdir_edits (tree_of a.content) r))) (room_with (capacity_of v) (takable_of v) (volume_of a.content))) a.spare ≡ true) allowed met))
  where
    leaving : Leaving
    leaving = record { parent = entry.parent; id = entry.id }

    is_leaving : IsLeaving (tree_of a.content) leaving entry.name
    is_leaving = record { path = path; allowed = allowed ∙ (λ i. Ok (record { parent = entry.parent; name = entry.name; folder = removed_is (tree_of a.content) path entry allowed i; id = entry.id })) }

-- no block is taken for it
pub removal_takes : (volume : VolumeState) (tree : PlainTree) (path : List (List ℕ)) → takes_none (values_of volume tree (command.Rmdir path)) ≡ true
removal_takes volume tree path = by (to_rmdir tree path)
  where
    by_node : (o : Option PlainNode) → takes_none (values_of_node volume o) ≡ true
    by_node None = refl
    by_node (Some node) = refl

    by : (r : Result PlainEntry Refusal) → takes_none (removed_values volume tree r) ≡ true
    by (Ok at) = by_node (node_at tree at.id)
    by (Err why) = refl

-- `ln`: those of a name, and more
link_kinds : (tree : PlainTree) (b : Bool) → AreFewer (edits 1 2 0 1) (if b then edits 1 2 0 4 else edits (2 + folders_made tree) (7 + 2 * folders_made tree) 0 4)
link_kinds tree true = record { ids = omega arith; catalog = omega arith; attributes = inl refl; updates = omega arith }
link_kinds tree false = record { ids = omega arith; catalog = omega arith; attributes = inl refl; updates = omega arith }

pub link_fewer : (tree : PlainTree) (from to : List (List ℕ)) → refuses tree (Ok (command.Ln from to)) ≡ false → AreFewer (edits 1 2 0 1) (edits_of tree (command.Ln from to))
link_fewer tree from to is = by (to_link tree from to) (step_fine tree (command.Ln from to) is)
  where
    by : (r : Result (PlainNode × Place) Refusal) → is_refusal (on tree r (λ pair. (reply.Ok, linked pair.0 pair.1 tree))).0 ≡ false → AreFewer (edits 1 2 0 1) (ln_edits tree r)
    by (Ok pair) fine = link_kinds tree pair.0.linked
    by (Err why) fine = absurd (true≢false fine)

-- `rm`: those of a name, and more
pub loses_one : (tree : PlainTree) (path : List (List ℕ)) → refuses tree (Ok (command.Rm path)) ≡ false → (entry : PlainEntry) × (to_rm tree path ≡ Ok entry)
loses_one tree path is = by (to_rm tree path) refl (step_fine tree (command.Rm path) is)
  where
    by : (r : Result PlainEntry Refusal) → to_rm tree path ≡ r → is_refusal (on tree r (λ at. (reply.Ok, removed at tree))).0 ≡ false → (entry : PlainEntry) × (to_rm tree path ≡ Ok entry)
    by (Ok entry) found fine = (entry, found)
    by (Err why) found fine = absurd (true≢false fine)

pub not_root : (tree : PlainTree) (path : List (List ℕ)) (entry : PlainEntry) → to_rm tree path ≡ Ok entry → is_root path ≡ false
not_root tree path entry is = by (is_root path) is
  where
    by : (b : Bool) → then_ (if b then Err refusal.Root else Ok path) (λ named. then_ (reached tree named) (λ at. unless at.folder refusal.IsFolder at)) ≡ Ok entry → b ≡ false
    by true same = absurd (cc same)
    by false same = refl

loss_kinds : (tree : PlainTree) (b c : Bool) → AreFewer (edits 0 2 0 1) (if b then edits 0 2 0 4 else if c then edits 0 5 0 4 else edits (folders_made tree) (3 + 2 * folders_made tree) 0 4)
loss_kinds tree true c = record { ids = omega arith; catalog = omega arith; attributes = inl refl; updates = omega arith }
loss_kinds tree false true = record { ids = omega arith; catalog = omega arith; attributes = inl refl; updates = omega arith }
loss_kinds tree false false = record { ids = omega arith; catalog = omega arith; attributes = inl refl; updates = omega arith }

pub loss_fewer : (tree : PlainTree) (plain : IsPlainTree tree) (path : List (List ℕ)) (entry : PlainEntry) → to_rm tree path ≡ Ok entry → AreFewer (edits 0 2 0 1) (edits_of tree (command.Rm path))
loss_fewer tree plain path entry is =
    let kind = reached_kind tree plain path entry (reached_rm tree path entry is) in
    subst (λ (r : Result PlainEntry Refusal). AreFewer (edits 0 2 0 1) (rm_edits_at tree r)) (sym is)
    (subst (λ (o : Option PlainNode). AreFewer (edits 0 2 0 1) (rm_edits tree o)) (sym kind.1) (loss_kinds tree (nat_lt 1 (names_of tree kind.0.id)) kind.0.linked))

-- `mv`: those of a name that moves, and more where a file stands there
over_kinds : (tree : PlainTree) (b c : Bool) → AreFewer (edits 0 3 0 3) (if b then edits 0 5 0 6 else if c then edits 0 8 0 6 else edits (folders_made tree) (6 + 2 * folders_made tree) 0 6)
over_kinds tree true c = record { ids = omega arith; catalog = omega arith; attributes = inl refl; updates = omega arith }
over_kinds tree false true = record { ids = omega arith; catalog = omega arith; attributes = inl refl; updates = omega arith }
over_kinds tree false false = record { ids = omega arith; catalog = omega arith; attributes = inl refl; updates = omega arith }

pub move_fewer : (tree : PlainTree) (plain : IsPlainTree tree) (from to : List (List ℕ)) → refuses tree (Ok (command.Mv from to)) ≡ false → AreFewer (edits 0 3 0 3) (edits_of tree (command.Mv from to))
move_fewer tree plain from to fine =
    let it = moves_one tree from to fine in
    subst (λ (r : Result (PlainEntry × Place) Refusal). AreFewer (edits 0 3 0 3) (mv_edits tree r)) (sym it.1) (by it.0 it.1 it.0.1.found refl)
  where
    by : (pair : PlainEntry × Place) → to_mv tree from to ≡ Ok pair → (o : Option PlainEntry) → pair.1.found ≡ o → AreFewer (edits 0 3 0 3) (place_edits tree pair.1.found)
    by pair allowed None free = subst (λ (o : Option PlainEntry). AreFewer (edits 0 3 0 3) (place_edits tree o)) (sym free) (record { ids = omega arith; catalog = omega arith; attributes = inl refl; updates = omega arith })
    by pair allowed (Some other) stood =
        let kind = reached_kind tree plain to other (stands tree from to pair (moving_is tree from to pair allowed).is_pair other stood) in
        subst (λ (o : Option PlainEntry). AreFewer (edits 0 3 0 3) (place_edits tree o)) (sym stood)
        (subst (λ (o : Option PlainNode). AreFewer (edits 0 3 0 3) (over_edits tree o)) (sym kind.1) (over_kinds tree (nat_lt 1 (names_of tree kind.0.id)) kind.0.linked))

pub opens_fewer : AreFewer (edits 1 2 0 1) (edits 1 5 0 4)
opens_fewer = record { ids = omega arith; catalog = omega arith; attributes = inl refl; updates = omega arith }

-- the edits of an entry are met where those of a folder with its attributes are
pub entry_met : LoadSaysEnough → LoadIsOfParts → GrowsByEnough → TreesHoldThree → (v : Volume) (a : Space) → IsSound a.content → (many : ℕ) (change : ValueChange) → AreMetValued (edits 0 2 many 1) change v a → AreMet (edits 0 2 0 1) v a
entry_met says of_parts enough three v a sound many change met =
    fewer_met says of_parts enough (edits 0 2 0 1) (needs_of_values (takable_of v) (edits 0 2 many 1) change) (room_with (capacity_of v) (takable_of v) (volume_of a.content)) a.spare
    (three a.content (capacity_of v) 1 (takable_of v) sound.trees (omega arith) (λ two. absurd (omega (arith, two)))) (omega arith) (omega arith) (inr refl) (omega arith) met
