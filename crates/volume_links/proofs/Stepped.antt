-- An `rwrite` of some bytes that was done: its entry is one of a run, and this is what it tells watchers.
use Rattle.std.proofs.Common.{◌≡◌, ◌<◌, ℕ, inl, false, List, [], ◌∷◌, length, refl, sym, ◌∙◌, ap, subst, arith}
use Rattle.std.specs.Prelude.{◌==◌, Option, Some, Ok}
use Rattle.std.proofs.lemmas.Bool.{ne_eqb, true≢false}
use Rattle.jnl_format.specs.Recovery.{Content}
use Rattle.hfs_language.specs.declared.reply.Change.{Change}
use Rattle.hfs_language.specs.declared.reply.ChangeKind.TheVariants as change
use Rattle.hfs_language.specs.declared.reply.Reply.TheVariants as reply
use Rattle.hfs_model.specs.Kinds.{kind_told}
use Rattle.hfs_language.specs.declared.refusal.Refusal.TheVariants as refusal
use Rattle.hfs_model.specs.Step.{Step, is_private_path, reached, to_file, to_node, unless}
use Rattle.hfs_model.specs.declared.plain.PlainEntry.{PlainEntry}
use Rattle.hfs_model.specs.declared.plain.PlainNode.{PlainNode}
use Rattle.hfs_model.specs.declared.plain.PlainTree.{PlainTree}
use Rattle.hfs_volume.proofs.Reaching.{then_ok, unless_ok}
use Rattle.hfs_model.specs.declared.kinds.KindEdit.{KindEdit}
use Rattle.hfs_model.specs.declared.kinds.KindEdit.TheVariants as edit
use Rattle.hfs_volume.specs.declared.asked.Asked.TheVariants.{Kind}
use Rattle.hfs_volume.specs.Content.{volume_of}
use Rattle.hfs_volume.specs.Data.{PutsInForkOf}
use Rattle.hfs_volume.specs.Forks.{resource_kind}
use Rattle.hfs_volume.specs.Sound.{IsSound}
use Rattle.hfs_volume.specs.TreeOf.{tree_of}
use Rattle.hfs_volume.specs.Weight.{Data, needs_cut_in}
use Rattle.volume_runs.specs.Run.{Entry, IsKindAnswered, IsKindDone}
use Rattle.volume_runs.specs.Told.{kind_changes_of, of_entry}
use Rattle.volume_header.specs.Refusal.{is_locked}
use Rattle.volume_space.proofs.Rewritten.{flags_are, journal_is, numbers_are, trees_stay, values_stay}
use Rattle.volume_step.specs.Steps.{KeepsJournal}
use Rattle.volume_step.specs.declared.outcome.Outcome.{Outcome}
use Rattle.volume_step.specs.declared.outcome.Outcome.TheVariants as outcome
use Rattle.volume_step.proofs.Done.{reached_node}
use Rattle.volume_links.specs.Resources.{HasResourceData, IsResourceOf}
use Rattle.volume_links.specs.Steps.{IsKindStepped, KindAffords, KindStepsNow, KindStepsTo}
use Rattle.volume_links.specs.declared.resources.Resource.{Resource}
use Rattle.volume_links.proofs.FoundForks.{told_done}
use Rattle.volume_links.proofs.Weighed.{file_is}

module _ (capacity number : ℕ) (path : List (List ℕ)) (from : ℕ) (value : List ℕ) (before after : Content) (sound_before : IsSound before) (sound_after : IsSound after) (fork : Resource) (it : IsResourceOf (tree_of before) path from value fork) (some : 0 < length value)
    (affords : KindAffords capacity (edit.ResourceWrite path from value) before) (tree : tree_of after ≡ (kind_told (tree_of before) (edit.ResourceWrite path from value)).1) (lists : HasResourceData (edit.ResourceWrite path from value) before after)
  where
    not_empty : (length value == 0) ≡ false
    not_empty = ne_eqb (length value) 0 (λ same. absurd (omega (arith, some, same)))

    done : IsKindDone capacity (edit.ResourceWrite path from value) before after
    done = record {
      load = affords.load;
      affords = affords.affords;
      no_surplus = ap (needs_cut_in resource_kind (volume_of before)) lists.is_asked ∙ lists.no_cut;
      grows = trees_stay lists.put.id resource_kind _ _ lists.fresh (volume_of before) (volume_of after) lists.rewrites lists.user;
      forks = subst (λ (o : Option Data). PutsInForkOf resource_kind o (volume_of before) (volume_of after)) (sym lists.is_asked) lists.forks;
      values = values_stay lists.put.id resource_kind _ _ lists.fresh (volume_of before) (volume_of after) lists.rewrites lists.user;
      reads = λ reads. absurd (true≢false (sym reads ∙ not_empty));
    }

    abbrev entry : List ℕ → Entry
    entry line = record { line = line; own = Some (Kind (edit.ResourceWrite path from value)); reply = reply.Ok; before = before; after = after }

    answered : (line : List ℕ) → IsKindAnswered capacity (edit.ResourceWrite path from value) (record { line = line; own = Some (Kind (edit.ResourceWrite path from value)); reply = reply.Ok; before = before; after = after })
    answered line = record {
      reply_is = sym (ap (λ (s : Step). s.0) (told_done (tree_of before) path from value it.not_own it.file it.allowed));
      tree = tree;
      refused = λ yes. absurd (true≢false (sym yes ∙ affords.no_refusal));
      does = λ no. done;
    }

    -- what it changed is what watchers are told
    pub resource_steps : (changes : List Change) → changes ≡ kind_changes_of number (tree_of before) (edit.ResourceWrite path from value) → (line : List ℕ)
        → IsKindStepped capacity number changes (edit.ResourceWrite path from value) (record { line = line; own = Some (Kind (edit.ResourceWrite path from value)); reply = reply.Ok; before = before; after = after })
    resource_steps changes told line = record {
      served = record { served = record { sound_before = sound_before; sound_after = sound_after; is = inl (answered line) }; told = told };
      decided = inl (answered line);
    }

    -- the journal lies where it lay
    pub resource_place : KeepsJournal before after
    unfolding volume_of
    resource_place = record {
      journal = journal_is lists.put.id resource_kind _ _ lists.fresh (volume_of before) (volume_of after) lists.rewrites lists.user;
      locked = ap is_locked (flags_are lists.put.id resource_kind _ _ lists.fresh (volume_of before) (volume_of after) lists.rewrites lists.user);
      heading = numbers_are lists.put.id resource_kind _ _ lists.fresh (volume_of before) (volume_of after) lists.rewrites lists.user;
    }

-- ---- what watchers are told

-- the file is reached
reached_file : (tree : PlainTree) (path : List (List ℕ)) (file : PlainNode) → to_file tree path ≡ Ok file → (entry : PlainEntry) × (reached tree path ≡ Ok entry)
reached_file tree path file is =
    let own = then_ok (to_node tree path) (λ n. unless n.folder refusal.IsFolder n) file is in
    reached_node tree path file (own.1 ∙ ap (λ (n : PlainNode). Ok n) (unless_ok own.0.folder refusal.IsFolder own.0 file own.2).1)

content_of : (number : ℕ) (tree : PlainTree) (path : List (List ℕ)) (from : ℕ) (value : List ℕ) → 0 < length value → kind_changes_of number tree (edit.ResourceWrite path from value) ≡ of_entry number change.Content (reached tree path)
content_of number tree path from [] some = absurd (omega (arith, some))
content_of number tree path from (byte ∷ value) some = refl

module _ (number : ℕ) (tree : PlainTree) (path : List (List ℕ)) (from : ℕ) (value : List ℕ) (some : 0 < length value) (fork : Resource) (it : IsResourceOf tree path from value fork) (changes : List Change) where
  -- a change of the file's content
  pub content_told : (is_private_path path ≡ false → (entry : PlainEntry) → reached tree path ≡ Ok entry → changes ≡ of_entry number change.Content (Ok entry)) → changes ≡ kind_changes_of number tree (edit.ResourceWrite path from value)
  content_told told =
      let at = reached_file tree path it.file (file_is tree path from value fork it) in
      told it.not_own at.0 at.1 ∙ sym (content_of number tree path from value some ∙ ap (of_entry number change.Content) at.1)

-- what ahead of which nothing went is what a command may come to
pub now_steps : (it : Outcome) (capacity number : ℕ) (asked : KindEdit) (before after : Content) → KindStepsNow it capacity number asked before after → KindStepsTo it capacity number asked before after
now_steps (outcome.Answered said changes) capacity number asked before after is = is
now_steps outcome.CommitFirst capacity number asked before after is = is
now_steps outcome.Again capacity number asked before after is = absurd is
