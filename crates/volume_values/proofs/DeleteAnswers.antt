-- What `delattr` answers, by what it came to; and the room that it has by its cost.
use Rattle.std.proofs.Common.{◌≡◌, ◌≤◌, ℕ, ◌+◌, Bool, true, false, List, refl, sym, ◌∙◌, ap, subst}
use Rattle.std.specs.Prelude.{IsTrue, IfNone, IfOk, IfSome, Option, None, Some, Result, Ok, Err, OnOk}
use Rattle.alloc_bitmap.specs.Map.{BlockMap, free_of}
use Rattle.hfs_language.specs.declared.command.Command.{Command}
use Rattle.hfs_language.specs.declared.command.Command.TheVariants as command
use Rattle.hfs_language.specs.declared.reply.Reply.{Reply}
use Rattle.hfs_language.specs.declared.reply.Reply.TheVariants as reply
use Rattle.hfs_model.specs.Step.{is_private_path, is_refusal, refuses, step, step_line, to_attribute}
use Rattle.hfs_model.specs.declared.plain.PlainAttribute.{PlainAttribute}
use Rattle.hfs_model.specs.declared.plain.PlainNode.{PlainNode}
use Rattle.hfs_model.specs.declared.plain.PlainTree.{PlainTree}
use Rattle.hfs_volume.specs.Content.{VolumeState, volume_of}
use Rattle.hfs_volume.specs.Cost.{cost_of}
use Rattle.hfs_volume.specs.TreeOf.{tree_of}
use Rattle.hfs_volume.specs.Weight.{deleted_value, edits, edits_of, needs_for, room_with, runs_for, value_change, values_of, weight_with, with_values}
use Rattle.hfs_volume.specs.declared.cost.Cost.{Cost}
use Rattle.hfs_volume.specs.declared.cost.Cost.TheVariants as cost
use Rattle.hfs_volume.specs.declared.cost.ValueChange.{ValueChange}
use Rattle.sector_disk.specs.Lists.{Content}
use Rattle.sector_disk.specs.Space.{Space}
use Rattle.volume_base.specs.Fitting.{AreMetValued, IsMetNow, is_met, needs_of, takable_in, wants}
use Rattle.volume_base.specs.Frame.{Serves}
use Rattle.volume_base.specs.Looking.{ReadsVolume}
use Rattle.volume_base.specs.Standing.{IsSettled, StandsOver}
use Rattle.volume_base.specs.Weighing.{needs_of_change}
use Rattle.volume_base.specs.declared.volume.Volume.{Volume}
use Rattle.volume_base.proofs.OwnedTold.{delete_replied, delete_tree}
use Rattle.volume_base.proofs.ValueFitted.{value_asked}
use Rattle.volume_values.specs.Valuing.{DeletesAs, HasDeleted}

-- what holds of an answer holds of what follows from it
pub if_ok : {T E : Type 0} {P Q : T → Type 0} (q : Result T E) → IfOk q P → ((x : T) → P x → Q x) → IfOk q Q
if_ok (Ok x) holds follows = follows x holds
if_ok (Err e) holds follows = tt

pub on_ok_of : {T E : Type 0} {P : T → Type 0} {Q : Type 0} (q : Result T E) → IfOk q P → ((x : T) → P x → Q) → OnOk q Q
on_ok_of (Ok x) holds follows = follows x holds
on_ok_of (Err e) holds follows = tt

-- behind an answer it serves where it stands and is settled
pub serves_from : {T E : Type 0} (q : Result T E) (w : Volume) (c : Space) → OnOk q (StandsOver w c) → (IsTrue c.tells → OnOk q (IsSettled w c.content)) → OnOk q (Serves w c)
serves_from (Ok x) w c stands settled = record { stands = stands; settled = settled }
serves_from (Err e) w c stands settled = tt

-- ---- whether it can be done now

abbrev MetBy : Command → BlockMap → ℕ → Content → ℕ → Type 0
MetBy asked m capacity content spare =
    is_met (cost_of (with_values (takable_in m) (values_of (volume_of content) (tree_of content) asked) (needs_of (edits_of (tree_of content) asked))) (room_with capacity (takable_in m) (volume_of content))) spare ≡ true

-- behind reads it can be done as it could before
pub met_still : (asked : Command) (v w : Volume) (a b : Space) → ReadsVolume v w a b → IsTrue a.tells → IsMetNow asked v a → IsMetNow asked w b
met_still asked v w a b reads tells met =
    subst (λ (k : (BlockMap × ℕ) × (Content × ℕ)). MetBy asked k.0.0 k.0.1 k.1.0 k.1.1) {x = ((v.map, v.capacity), (a.content, a.spare))} {y = ((w.map, w.capacity), (b.content, b.spare))}
    (λ i. ((sym reads.keeps.map i, sym reads.keeps.capacity i), (sym (reads.looks.content tells) i, sym reads.looks.spare i))) met

module _ (v : Volume) (a : Space) (path : List (List ℕ)) (name : List ℕ) (node : PlainNode) (attribute : PlainAttribute) (found : to_attribute (tree_of a.content) path name ≡ Ok (node, attribute)) (id : ℕ) (same : node.id ≡ id) where
  value_is : values_of (volume_of a.content) (tree_of a.content) (command.DelAttr path name) ≡ Some (value_change (volume_of a.content) id name 0)
  value_is = ap (deleted_value (volume_of a.content) name) found ∙ ap (λ n. Some (value_change (volume_of a.content) n name 0)) same

  -- that a command can be done says that its edits can
  pub met_edits : (change : ValueChange) → change ≡ value_change (volume_of a.content) id name 0 → IsMetNow (command.DelAttr path name) v a → AreMetValued (wants 0 0 1 1) change v a
  met_edits change is met =
      subst (λ (o : Option ValueChange). is_met (cost_of (with_values (takable_in v.map) o (needs_of (wants 0 0 1 1))) (room_with v.capacity (takable_in v.map) (volume_of a.content))) a.spare ≡ true) (value_is ∙ ap Some (sym is)) met

  -- and what it weighs is what they cost
  pub weighed : (capacity : ℕ) (free : List Bool) (n : ℕ) (grow : List ℕ) → weight_with capacity free (volume_of a.content) (tree_of a.content) (command.DelAttr path name) ≡ cost.Load n grow
      → cost_of (needs_of_change (value_asked 0 1) (value_change (volume_of a.content) id name 0) (runs_for 0 free)) (room_with capacity free (volume_of a.content)) ≡ cost.Load n grow
  unfolding weight_with
  weighed capacity free n grow is = sym (ap (λ (o : Option ValueChange). cost_of (with_values free o (needs_for free (volume_of a.content) (edits 0 0 1 1) None)) (room_with capacity free (volume_of a.content))) value_is) ∙ is

-- ---- what is answered

module _ (path : List (List ℕ)) (name : List ℕ) (old mid new : Volume) (a b c : Space) (reads : ReadsVolume old mid a b) (tells : IsTrue a.tells) where
  -- reads before it change nothing of what it came to
  pub deletes_behind : (said : Option Reply) → DeletesAs path name said mid new b c → DeletesAs path name said old new a c
  deletes_behind None it = (it.0 ∙ reads.looks.content tells, it.1, λ met. it.2 (met_still (command.DelAttr path name) old mid a b reads tells met))
  deletes_behind (Some said) it = (
    it.0,
    it.1 ∙ ap (λ (k : Content). (step (tree_of k) (command.DelAttr path name)).1) (reads.looks.content tells),
    subst (λ (k : Content). HasDeleted path name k c.content) (reads.looks.content tells) it.2,
    it.3,
  )

module _ (path : List (List ℕ)) (name : List ℕ) (old new : Volume) (a c : Space) where
  pub delete_lists : (said : Option Reply) → DeletesAs path name said old new a c → said ≡ Some reply.Ok → HasDeleted path name a.content c.content
  delete_lists None it is = absurd (let no : None ≡ Some reply.Ok = is in cc no)
  delete_lists (Some said) it is = it.2

  pub delete_refused : (said : Option Reply) → DeletesAs path name said old new a c → IfSome said (λ reply. is_refusal reply ≡ true → c.content ≡ a.content)
  delete_refused None it = tt
  delete_refused (Some said) it = λ refusal. absurd (let no : is_refusal reply.Ok ≡ true = ap is_refusal (sym it.0) ∙ refusal in cc no)

  pub delete_waits : (said : Option Reply) → DeletesAs path name said old new a c → IfNone said (c.content ≡ a.content)
  delete_waits None it = it.0
  delete_waits (Some said) it = tt

  pub delete_unmet : (said : Option Reply) → DeletesAs path name said old new a c → IfNone said (IsMetNow (command.DelAttr path name) old a → ⊥)
  delete_unmet None it = it.2
  delete_unmet (Some said) it = tt

  pub delete_serves : (said : Option Reply) → DeletesAs path name said old new a c → Serves new c
  delete_serves None it = it.1
  delete_serves (Some said) it = it.3

  module _ (not_own : is_private_path path ≡ false) (node : PlainNode) (attribute : PlainAttribute) (found : to_attribute (tree_of a.content) path name ≡ Ok (node, attribute)) where
    pub delete_reply : (said : Option Reply) → DeletesAs path name said old new a c → IfSome said (λ reply. reply ≡ (step_line (tree_of a.content) (Ok (command.DelAttr path name))).0)
    delete_reply None it = tt
    delete_reply (Some said) it = it.0 ∙ delete_replied (tree_of a.content) path name not_own node attribute found

    pub delete_tree_is : (said : Option Reply) → DeletesAs path name said old new a c → IfSome said (λ reply. tree_of c.content ≡ (step_line (tree_of a.content) (Ok (command.DelAttr path name))).1)
    delete_tree_is None it = tt
    delete_tree_is (Some said) it = it.1 ∙ delete_tree (tree_of a.content) path name not_own

    pub delete_waiting : (said : Option Reply) → IfNone said (refuses (tree_of a.content) (Ok (command.DelAttr path name)) ≡ false)
    delete_waiting None = ap is_refusal (sym (delete_replied (tree_of a.content) path name not_own node attribute found))
    delete_waiting (Some said) = tt
