-- What `setattr` answers, by what it came to; and the room that it has by its cost.
use Rattle.std.proofs.Common.{◌≡◌, ◌≤◌, ℕ, ◌+◌, Bool, true, false, List, length, not, refl, sym, ◌∙◌, ap, subst}
use Rattle.std.specs.Prelude.{IsTrue, IfNone, IfSome, Option, None, Some, Result, Ok, Err, if◌then◌else◌}
use Rattle.alloc_bitmap.specs.Map.{BlockMap}
use Rattle.hfs_language.specs.declared.command.Command.TheVariants as command
use Rattle.hfs_language.specs.declared.refusal.Refusal.{Refusal}
use Rattle.hfs_language.specs.declared.refusal.Refusal.TheVariants as refusal
use Rattle.hfs_language.specs.declared.reply.Reply.{Reply}
use Rattle.hfs_language.specs.declared.reply.Reply.TheVariants as reply
use Rattle.hfs_model.specs.Step.{is_private_path, is_refusal, most_attribute, refuses, step, step_line, to_node, to_set}
use Rattle.hfs_model.specs.declared.plain.PlainNode.{PlainNode}
use Rattle.hfs_model.specs.declared.plain.PlainTree.{PlainTree}
use Rattle.hfs_volume.specs.Content.{VolumeState, has_attributes, volume_of}
use Rattle.hfs_volume.specs.Cost.{cost_of}
use Rattle.hfs_volume.specs.TreeOf.{tree_of}
use Rattle.hfs_volume.specs.Weight.{blocks_for_value, edits, needs_for, room_with, runs_for, set_value, value_change, values_of, weight_with, with_values}
use Rattle.hfs_volume.specs.declared.cost.Cost.TheVariants as cost
use Rattle.hfs_volume.specs.declared.cost.ValueChange.{ValueChange}
use Rattle.hfs_volume.proofs.Flat.{some_same}
use Rattle.sector_disk.specs.Lists.{Content}
use Rattle.sector_disk.specs.Space.{Space}
use Rattle.volume_header.specs.declared.header.VolumeHeader.{VolumeHeader}
use Rattle.volume_base.specs.Attributing.{set_answer}
use Rattle.volume_base.specs.Fitting.{AreMetValued, IsMetNow, is_met, needs_of, takable_in, wants}
use Rattle.volume_base.specs.Frame.{Serves}
use Rattle.volume_base.specs.Looking.{ReadsVolume}
use Rattle.volume_base.specs.Weighing.{needs_of_change}
use Rattle.volume_base.specs.declared.volume.Volume.{Volume}
use Rattle.volume_base.proofs.OwnedTold.{set_allowed, set_by, set_tree}
use Rattle.volume_base.proofs.ValueFitted.{value_asked}
use Rattle.volume_values.specs.Valuing.{HasSet, SetsAs}
use Rattle.volume_values.proofs.DeleteAnswers.{met_still}

-- ---- whether it can be done now

module _ (v : Volume) (a : Space) (path : List (List ℕ)) (name value : List ℕ) (node : PlainNode) (found : to_set (tree_of a.content) path value ≡ Ok node) (id : ℕ) (same : node.id ≡ id) where
  abbrev change_on : ValueChange
  change_on = value_change (volume_of a.content) id name (blocks_for_value (volume_of a.content).head.block_size (length value))

  value_is : values_of (volume_of a.content) (tree_of a.content) (command.SetAttr path name value) ≡ Some change_on
  value_is = ap (set_value (volume_of a.content) name (length value)) found ∙ ap (λ n. Some (value_change (volume_of a.content) n name (blocks_for_value (volume_of a.content).head.block_size (length value)))) same

  -- that a command can be done says that its edits can
  pub set_met : (change : ValueChange) → change ≡ change_on → IsMetNow (command.SetAttr path name value) v a → AreMetValued (wants 0 0 2 1) change v a
  set_met change is met =
      subst (λ (o : Option ValueChange). is_met (cost_of (with_values (takable_in v.map) o (needs_of (wants 0 0 2 1))) (room_with v.capacity (takable_in v.map) (volume_of a.content))) a.spare ≡ true) (value_is ∙ ap Some (sym is)) met

  -- and what it weighs is what they cost
  pub set_weighed : IsTrue (has_attributes (volume_of a.content).head) → (capacity : ℕ) (free : List Bool) (n : ℕ) (grow : List ℕ) → weight_with capacity free (volume_of a.content) (tree_of a.content) (command.SetAttr path name value) ≡ cost.Load n grow
      → cost_of (needs_of_change (value_asked 0 2) change_on (runs_for change_on.blocks free)) (room_with capacity free (volume_of a.content)) ≡ cost.Load n grow
  unfolding weight_with
  set_weighed has capacity free n grow is =
      sym (ap (λ b. if not b then cost.Refused refusal.NoTree else cost_of (with_values free (values_of (volume_of a.content) (tree_of a.content) (command.SetAttr path name value)) (needs_for free (volume_of a.content) (edits 0 0 2 1) None)) (room_with capacity free (volume_of a.content))) has
      ∙ ap (λ (o : Option ValueChange). cost_of (with_values free o (needs_for free (volume_of a.content) (edits 0 0 2 1) None)) (room_with capacity free (volume_of a.content))) value_is) ∙ is

-- ---- what is answered

module _ (path : List (List ℕ)) (name value : List ℕ) (old mid new : Volume) (a b c : Space) (reads : ReadsVolume old mid a b) (tells : IsTrue a.tells) where
  -- reads before it change nothing of what it came to
  pub sets_behind : (said : Option Reply) → SetsAs path name value said mid new b c → SetsAs path name value said old new a c
  sets_behind None it = (it.0 ∙ reads.looks.content tells, it.1, λ met. it.2 (met_still (command.SetAttr path name value) old mid a b reads tells met), it.3)
  sets_behind (Some said) it = (
    it.0 ∙ (λ i. set_answer (has_attributes (reads.keeps.header i)) (step_line (tree_of (reads.looks.content tells i)) (Ok (command.SetAttr path name value))).0),
    λ refusal. it.1 refusal ∙ reads.looks.content tells,
    λ done. (
      (it.2 done).0 ∙ ap (λ (k : Content). (step (tree_of k) (command.SetAttr path name value)).1) (reads.looks.content tells),
      subst (λ (k : Content). HasSet path name value k c.content) (reads.looks.content tells) (it.2 done).1,
    ),
    it.3,
  )

module _ (path : List (List ℕ)) (name value : List ℕ) (old new : Volume) (a c : Space) where
  pub set_lists : (said : Option Reply) → SetsAs path name value said old new a c → said ≡ Some reply.Ok → HasSet path name value a.content c.content
  set_lists None it is = absurd (let no : None ≡ Some reply.Ok = is in cc no)
  set_lists (Some said) it is = (it.2 (some_same said reply.Ok is)).1

  pub set_refuses : (said : Option Reply) → SetsAs path name value said old new a c → IfSome said (λ reply. is_refusal reply ≡ true → c.content ≡ a.content)
  set_refuses None it = tt
  set_refuses (Some said) it = it.1

  pub set_waits : (said : Option Reply) → SetsAs path name value said old new a c → IfNone said (c.content ≡ a.content)
  set_waits None it = it.0
  set_waits (Some said) it = tt

  pub set_unmet : (said : Option Reply) → SetsAs path name value said old new a c → IfNone said (IsMetNow (command.SetAttr path name value) old a → ⊥)
  set_unmet None it = it.2
  set_unmet (Some said) it = tt

  pub set_serves : (said : Option Reply) → SetsAs path name value said old new a c → Serves new c
  set_serves None it = it.1
  set_serves (Some said) it = it.3

  pub set_reply : (said : Option Reply) → SetsAs path name value said old new a c → IfSome said (λ reply. reply ≡ set_answer (has_attributes old.header) (step_line (tree_of a.content) (Ok (command.SetAttr path name value))).0)
  set_reply None it = tt
  set_reply (Some said) it = it.0

  module _ (not_own : is_private_path path ≡ false) where
    -- a refusal leaves the tree, and all else is done
    pub set_tree_is : IsTrue (has_attributes old.header) → (said : Option Reply) → SetsAs path name value said old new a c
        → IfSome said (λ reply. tree_of c.content ≡ (step_line (tree_of a.content) (Ok (command.SetAttr path name value))).1)
    set_tree_is has None it = tt
    set_tree_is has (Some said) it = by_set (to_set (tree_of a.content) path value) refl
      where
        by_set : (r : Result PlainNode Refusal) → to_set (tree_of a.content) path value ≡ r → tree_of c.content ≡ (step_line (tree_of a.content) (Ok (command.SetAttr path name value))).1
        by_set (Ok node) is =
            let line = ap (λ (s : Reply × PlainTree). s.0) (set_by (tree_of a.content) path name value not_own (Ok node) is) in
            (it.2 (it.0 ∙ ap (λ b. set_answer b (step_line (tree_of a.content) (Ok (command.SetAttr path name value))).0) has ∙ line)).0 ∙ set_tree (tree_of a.content) path name value not_own
        by_set (Err why) is =
            let line = set_by (tree_of a.content) path name value not_own (Err why) is in
            ap (λ (k : Content). tree_of k) (it.1 (ap is_refusal (it.0 ∙ ap (λ b. set_answer b (step_line (tree_of a.content) (Ok (command.SetAttr path name value))).0) has ∙ ap (λ (s : Reply × PlainTree). s.0) line)))
            ∙ sym (ap (λ (s : Reply × PlainTree). s.1) line)

    pub set_waiting : (node : PlainNode) → to_node (tree_of a.content) path ≡ Ok node → (said : Option Reply) → SetsAs path name value said old new a c
        → IfNone said (refuses (tree_of a.content) (Ok (command.SetAttr path name value)) ≡ false)
    set_waiting node found None it =
        ap (λ (s : Reply × PlainTree). is_refusal s.0) (set_by (tree_of a.content) path name value not_own (Ok node) (set_allowed (tree_of a.content) path name value not_own node found it.3))
    set_waiting node found (Some said) it = tt
