-- A command on a link or a fork that changed nothing: it was refused, a resource was missing for it, it read alone, or it put no byte.
use Rattle.std.proofs.Common.{◌≡◌, ◌⊎◌, ℕ, Bool, true, false, List, [], ◌∷◌, length, inl, inr, refl, sym, ◌∙◌, ap, subst}
use Rattle.std.specs.Prelude.{Option, Result, Ok, Err, Some, None, take, drop, if◌then◌else◌}
use Rattle.std.proofs.lemmas.Bool.{true≢false}
use Rattle.jnl_format.specs.Recovery.{Content}
use Rattle.hfs_language.specs.declared.refusal.Refusal.{Refusal}
use Rattle.hfs_language.specs.declared.refusal.Refusal.TheVariants as refusal
use Rattle.hfs_language.specs.declared.reply.Change.{Change}
use Rattle.hfs_language.specs.declared.reply.Reply.{Reply}
use Rattle.hfs_language.specs.declared.reply.Reply.TheVariants as reply
use Rattle.hfs_model.specs.Kinds.{kind_refuses, kind_step, kind_told, made_link, path_of_edit, resource_written, to_symlink}
use Rattle.hfs_model.specs.Step.{Step, is_private_path, is_refusal, on, to_file, to_read, to_write}
use Rattle.hfs_model.specs.declared.kinds.KindEdit.{KindEdit}
use Rattle.hfs_model.specs.declared.kinds.KindEdit.TheVariants as edit
use Rattle.hfs_model.specs.declared.plain.PlainNode.{PlainNode}
use Rattle.hfs_model.specs.declared.plain.PlainTree.{PlainTree}
use Rattle.hfs_volume.specs.declared.asked.Asked.TheVariants.{Kind}
use Rattle.hfs_volume.specs.Content.{volume_of}
use Rattle.hfs_volume.specs.Data.{PutsInForkOf}
use Rattle.hfs_volume.specs.KindWeight.{fork_of_edit, kind_data_of, kind_weight, kind_weight_with, resource_data}
use Rattle.hfs_volume.specs.Sound.{IsSound}
use Rattle.hfs_volume.specs.TreeOf.{tree_of}
use Rattle.hfs_volume.specs.Weight.{Data, needs_cut_in}
use Rattle.hfs_volume.specs.declared.cost.Cost.TheVariants as cost
use Rattle.volume_runs.specs.Run.{IsKindAnswered, IsKindDone, KindLacksResource, is_ok}
use Rattle.volume_step.proofs.Kept.{grows_none, keeps_none, values_same}
use Rattle.volume_step.specs.declared.outcome.Outcome.TheVariants as outcome
use Rattle.volume_links.specs.Steps.{KindAffords, KindStepsTo}

-- ---- refusals keep the tree

kept_on : {X : Type 0} (tree : PlainTree) (r : Result X Refusal) (next : X → Step) → ((x : X) → is_refusal (next x).0 ≡ false) → is_refusal (on tree r next).0 ≡ true → (on tree r next).1 ≡ tree
kept_on tree (Ok x) next never is = absurd (true≢false (sym is ∙ never x))
kept_on tree (Err why) next never is = refl

kept_step : (tree : PlainTree) (asked : KindEdit) → is_refusal (kind_step tree asked).0 ≡ true → (kind_step tree asked).1 ≡ tree
kept_step tree (edit.Symlink path value) is = kept_on tree (to_symlink tree path value) (λ at. (reply.Ok, made_link at value tree)) (λ at. refl) is
kept_step tree (edit.ResourceWrite path from value) is = kept_on tree (to_write tree path from value) (λ file. (reply.Ok, resource_written file from value tree)) (λ file. refl) is
kept_step tree (edit.ResourceRead path from long) is = kept_on tree (to_read tree path long) (λ file. (reply.Content (take long (drop from file.resource)), tree)) (λ file. refl) is

abbrev no_changes : List Change
no_changes = []

pub refusal_keeps : (tree : PlainTree) (asked : KindEdit) → kind_refuses tree asked ≡ true → (kind_told tree asked).1 ≡ tree
refusal_keeps tree asked is = by (is_private_path (path_of_edit asked)) is
  where
    by : (b : Bool) → is_refusal (if b then (reply.No refusal.Private, tree) else kind_step tree asked).0 ≡ true → (if b then (reply.No refusal.Private, tree) else kind_step tree asked).1 ≡ tree
    by true so = refl
    by false so = kept_step tree asked so

module _ (capacity number : ℕ) (asked : KindEdit) (before after : Content) (same : after ≡ before) (sound : IsSound before) where
  sound_after : IsSound after
  sound_after = subst IsSound (sym same) sound

  -- a refusal, by the step or for want of a resource
  pub refused_kind : (why : Refusal) → (reply.No why ≡ (kind_told (tree_of before) asked).0) ⊎ ((kind_refuses (tree_of before) asked ≡ false) × (kind_weight capacity (volume_of before) (tree_of before) asked ≡ cost.Refused why))
      → KindStepsTo (outcome.Answered (reply.No why) []) capacity number asked before after
  refused_kind why (inl told) line =
      let refuses : kind_refuses (tree_of before) asked ≡ true = sym (ap is_refusal told) in
      let answered : IsKindAnswered capacity asked (record { line = line; own = Some (Kind asked); reply = reply.No why; before = before; after = after }) = record {
        reply_is = told;
        tree = ap tree_of same ∙ sym (refusal_keeps (tree_of before) asked refuses);
        refused = λ yes. same;
        does = λ no. absurd (true≢false (sym refuses ∙ no));
      } in
      record { served = record { served = record { sound_before = sound; sound_after = sound_after; is = inl answered }; told = refl }; decided = inl answered }
  refused_kind why (inr lacks) line =
      let missing : KindLacksResource capacity asked (record { line = line; own = Some (Kind asked); reply = reply.No why; before = before; after = after }) = record { no_refusal = lacks.0; why = why; weighs = lacks.1; reply_is = refl; same = same } in
      record { served = record { served = record { sound_before = sound; sound_after = sound_after; is = inr (inl missing) }; told = refl }; decided = inr missing }

  -- a step that keeps the tree, with an answer that is no refusal and of which watchers are told nothing
  quiet : (said : Reply) → said ≡ (kind_told (tree_of before) asked).0 → (kind_told (tree_of before) asked).1 ≡ tree_of before → (line : List ℕ) → IsKindDone capacity asked before before
      → IsKindAnswered capacity asked (record { line = line; own = Some (Kind asked); reply = said; before = before; after = after })
  quiet said is keeps line done = record {
    reply_is = is;
    tree = ap tree_of same ∙ sym keeps;
    refused = λ yes. same;
    does = λ no. subst (IsKindDone capacity asked before) (sym same) done;
  }

-- nothing was changed
still_done : (capacity : ℕ) (asked : KindEdit) (before : Content) (load : ℕ) → kind_weight capacity (volume_of before) (tree_of before) asked ≡ cost.Load load (0 ∷ 0 ∷ 0 ∷ []) → kind_data_of (tree_of before) asked ≡ None → IsKindDone capacity asked before before
still_done capacity asked before load affords no_data = record {
  load = load;
  affords = affords;
  no_surplus = ap (needs_cut_in (fork_of_edit asked) (volume_of before)) no_data;
  grows = grows_none (volume_of before) (volume_of before) (keeps_none (volume_of before)).forks;
  forks = subst (λ (o : Option Data). PutsInForkOf (fork_of_edit asked) o (volume_of before) (volume_of before)) (sym no_data) (λ id kind user. refl);
  values = values_same (volume_of before) (volume_of before) (keeps_none (volume_of before));
  reads = λ reads. refl;
}

-- ---- `rread`

module _ (capacity number : ℕ) (path : List (List ℕ)) (from long : ℕ) (before after : Content) (same : after ≡ before) (sound : IsSound before) where
  abbrev reading : KindEdit
  reading = edit.ResourceRead path from long

  kept_read : (kind_told (tree_of before) (edit.ResourceRead path from long)).1 ≡ tree_of before
  kept_read = by (is_private_path path)
    where
      by_file : (r : Result PlainNode Refusal) → (on (tree_of before) r (λ file. (reply.Content (take long (drop from file.resource)), tree_of before))).1 ≡ tree_of before
      by_file (Ok file) = refl
      by_file (Err why) = refl

      by : (b : Bool) → (if b then (reply.No refusal.Private, tree_of before) else kind_step (tree_of before) (edit.ResourceRead path from long)).1 ≡ tree_of before
      by true = refl
      by false = by_file (to_read (tree_of before) path long)

  weight_read : kind_weight capacity (volume_of before) (tree_of before) (edit.ResourceRead path from long) ≡ cost.Load 0 (0 ∷ 0 ∷ 0 ∷ [])
  unfolding kind_weight_with
  weight_read = refl

  -- it was answered
  pub read_steps : (said : Reply) → said ≡ (kind_told (tree_of before) (edit.ResourceRead path from long)).0 → KindStepsTo (outcome.Answered said []) capacity number (edit.ResourceRead path from long) before after
  read_steps said is line =
      let answered = quiet capacity number reading before after same sound said is kept_read line (still_done capacity reading before 0 weight_read refl) in
      record { served = record { served = record { sound_before = sound; sound_after = sound_after capacity number reading before after same sound; is = inl answered }; told = by_reply said }; decided = inl answered }
    where
      by_reply : (r : Reply) → no_changes ≡ (if is_ok r then no_changes else no_changes)
      by_reply reply.Ok = refl
      by_reply (reply.No why) = refl
      by_reply (reply.Listing list) = refl
      by_reply (reply.Facts facts) = refl
      by_reply (reply.Content bytes) = refl
      by_reply (reply.Gauge gauge) = refl

-- ---- `rwrite` of no byte

module _ (capacity number : ℕ) (path : List (List ℕ)) (from : ℕ) (before : Content) (sound : IsSound before) (affords : KindAffords capacity (edit.ResourceWrite path from []) before) where
  abbrev writing : KindEdit
  writing = edit.ResourceWrite path from []

  no_data : kind_data_of (tree_of before) (edit.ResourceWrite path from []) ≡ None
  no_data = by (to_file (tree_of before) path)
    where
      by : (r : Result PlainNode Refusal) → resource_data from 0 r ≡ None
      by (Ok file) = refl
      by (Err why) = refl

  done_nothing : (reply.Ok ≡ (kind_told (tree_of before) (edit.ResourceWrite path from [])).0) × ((kind_told (tree_of before) (edit.ResourceWrite path from [])).1 ≡ tree_of before)
  done_nothing = by (is_private_path path) affords.no_refusal
    where
      by_file : (r : Result PlainNode Refusal) → is_refusal (on (tree_of before) r (λ file. (reply.Ok, resource_written file from [] (tree_of before)))).0 ≡ false
          → (reply.Ok ≡ (on (tree_of before) r (λ file. (reply.Ok, resource_written file from [] (tree_of before)))).0) × ((on (tree_of before) r (λ file. (reply.Ok, resource_written file from [] (tree_of before)))).1 ≡ tree_of before)
      by_file (Ok file) fine = (refl, refl)
      by_file (Err why) fine = absurd (true≢false fine)

      by : (b : Bool) → is_refusal (if b then (reply.No refusal.Private, tree_of before) else kind_step (tree_of before) (edit.ResourceWrite path from [])).0 ≡ false
          → (reply.Ok ≡ (if b then (reply.No refusal.Private, tree_of before) else kind_step (tree_of before) (edit.ResourceWrite path from [])).0) × ((if b then (reply.No refusal.Private, tree_of before) else kind_step (tree_of before) (edit.ResourceWrite path from [])).1 ≡ tree_of before)
      by true fine = absurd (true≢false fine)
      by false fine = by_file (to_write (tree_of before) path from []) fine

  nothing_steps : KindStepsTo (outcome.Answered reply.Ok []) capacity number (edit.ResourceWrite path from []) before before
  nothing_steps line =
      let answered = quiet capacity number writing before before refl sound reply.Ok done_nothing.0 done_nothing.1 line (still_done capacity writing before affords.load affords.affords no_data) in
      record { served = record { served = record { sound_before = sound; sound_after = sound; is = inl answered }; told = refl }; decided = inl answered }

-- it puts nothing, and is answered
pub nothing_put : (capacity number : ℕ) (path : List (List ℕ)) (from : ℕ) (value : List ℕ) (before : Content) → IsSound before → KindAffords capacity (edit.ResourceWrite path from value) before → length value ≡ 0
    → KindStepsTo (outcome.Answered reply.Ok []) capacity number (edit.ResourceWrite path from value) before before
nothing_put capacity number path from [] before sound affords none = nothing_steps capacity number path from before sound affords
nothing_put capacity number path from (byte ∷ value) before sound affords none = absurd (cc none)
