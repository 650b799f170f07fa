-- What a command came to, as the entry of whichever line spells it.
use Rattle.std.proofs.Common.{◌≡◌, ◌⊎◌, ⊎_elim, ℕ, Bool, true, false, List, [], ◌∷◌, inl, inr, refl, sym, ◌∙◌, ap, subst}
use Rattle.std.specs.Prelude.{◌||◌, IsTrue, None, Result, Ok, Err, drop, map, take, if◌then◌else◌, Option, Some}
use Rattle.std.proofs.lemmas.Bool.{true≢false}
use Rattle.jnl_format.specs.Recovery.{Content}
use Rattle.volume_header.specs.Refusal.{is_locked}
use Rattle.hfs_language.specs.declared.command.Command.{Command}
use Rattle.hfs_language.specs.declared.command.Command.TheVariants as command
use Rattle.hfs_language.specs.declared.refusal.Refusal.{Refusal}
use Rattle.hfs_language.specs.declared.refusal.Refusal.TheVariants as refusal
use Rattle.hfs_language.specs.declared.reply.Change.{Change}
use Rattle.hfs_language.specs.declared.reply.Reply.{Reply}
use Rattle.hfs_language.specs.declared.reply.Reply.TheVariants as reply
use Rattle.hfs_model.specs.Step.{Place, Step, facts_of, is_private, is_refusal, linked, listed, listed_attribute, made, marked, moved_over, on, only_reads, refuses, removed, removed_folder, resized, step, step_line, to_attribute, to_folder, to_link, to_make, to_mv, to_node, to_read, to_rm, to_rmdir, to_set, to_trunc, to_value, to_write, written}
use Rattle.hfs_model.specs.Plain.{entries_in, with_attribute, with_changed, with_mode, without_attribute}
use Rattle.hfs_model.specs.declared.plain.PlainAttribute.{PlainAttribute}
use Rattle.hfs_model.specs.declared.plain.PlainEntry.{PlainEntry}
use Rattle.hfs_model.specs.declared.plain.PlainNode.{PlainNode}
use Rattle.hfs_model.specs.declared.plain.PlainTree.{PlainTree}
use Rattle.hfs_volume.specs.declared.asked.Asked.{Asked}
use Rattle.hfs_volume.specs.declared.asked.Asked.TheVariants.{Kind, Plain}
use Rattle.hfs_volume.specs.Content.{VolumeState, volume_of}
use Rattle.hfs_volume.specs.Cost.{cost_of}
use Rattle.hfs_volume.specs.Data.{PutsInFork, PutsInValues}
use Rattle.volume_runs.specs.Run.{DoesLine, Entry, IsAnswered, IsDone, LacksResource, is_ok, reply_to, spelled, IsServedBy, asked_in, wanted_in}
use Rattle.hfs_volume.specs.Sound.{IsSound}
use Rattle.volume_runs.specs.Told.{changes_asked, changes_of}
use Rattle.hfs_volume.specs.TreeOf.{tree_of}
use Rattle.hfs_volume.specs.Weight.{changes_nothing, cut_cost, data_of, edits_of, free_blocks, lacks_tree, needs_cut, needs_for, room_with, values_of, weight, weight_with, with_values}
use Rattle.hfs_volume.specs.declared.cost.Cost.TheVariants as cost
use Rattle.volume_step.specs.Steps.{Affords, IsJudged, KeepsJournal, StepsTo}
use Rattle.volume_step.specs.declared.judging.Verdict.TheVariants as verdict
use Rattle.volume_step.specs.declared.outcome.Outcome.TheVariants as outcome
use Rattle.volume_step.proofs.Kept.{KeepsForks, grows_none, keeps_none}

-- ---- steps

-- but for `df`, the reply is the step's
pub reply_step : (capacity : ℕ) (content : Content) (asked : Command) → only_reads asked ≡ false → reply_to capacity content (Ok asked) ≡ (step_line (tree_of content) (Ok asked)).0
reply_step capacity content (command.Mkdir path) unread = refl
reply_step capacity content (command.Create path) unread = refl
reply_step capacity content (command.Rm path) unread = refl
reply_step capacity content (command.Rmdir path) unread = refl
reply_step capacity content (command.Mv from to) unread = refl
reply_step capacity content (command.Ln from to) unread = refl
reply_step capacity content (command.Write path from value) unread = refl
reply_step capacity content (command.Trunc path size) unread = refl
reply_step capacity content (command.Chmod path mode) unread = refl
reply_step capacity content (command.SetAttr path name value) unread = refl
reply_step capacity content (command.DelAttr path name) unread = refl
reply_step capacity content (command.At moment) unread = refl
reply_step capacity content (command.Read path from long) unread = absurd (true≢false unread)
reply_step capacity content (command.Ls path) unread = absurd (true≢false unread)
reply_step capacity content (command.Stat path) unread = absurd (true≢false unread)
reply_step capacity content (command.GetAttr path name) unread = absurd (true≢false unread)
reply_step capacity content (command.LsAttr path) unread = absurd (true≢false unread)
reply_step capacity content command.Df unread = absurd (true≢false unread)
reply_step capacity content command.Sync unread = absurd (true≢false unread)

-- what a step comes to: a refusal, which keeps the tree, or another tree
abbrev pub IsStep : PlainTree → Step → Type 0
IsStep tree it = ((why : Refusal) × (it ≡ (reply.No why, tree))) ⊎ ((new : PlainTree) × (it ≡ (reply.Ok, new)))

on_is : {X : Type 0} (tree : PlainTree) (new : X → PlainTree) (r : Result X Refusal) → IsStep tree (on tree r (λ x. (reply.Ok, new x)))
on_is tree new (Ok x) = inr (new x, refl)
on_is tree new (Err why) = inl (why, refl)

pub step_is : (tree : PlainTree) (asked : Command) → only_reads asked ≡ false → IsStep tree (step tree asked)
step_is tree (command.Mkdir path) unread = on_is tree (λ (at : Place). made true at tree) (to_make tree path)
step_is tree (command.Create path) unread = on_is tree (λ (at : Place). made false at tree) (to_make tree path)
step_is tree (command.Rm path) unread = on_is tree (λ (at : PlainEntry). removed at tree) (to_rm tree path)
step_is tree (command.Rmdir path) unread = on_is tree (λ (at : PlainEntry). removed_folder at tree) (to_rmdir tree path)
step_is tree (command.Mv from to) unread = on_is tree (λ (pair : PlainEntry × Place). moved_over pair.0 pair.1 tree) (to_mv tree from to)
step_is tree (command.Ln from to) unread = on_is tree (λ (pair : PlainNode × Place). linked pair.0 pair.1 tree) (to_link tree from to)
step_is tree (command.Write path from value) unread = on_is tree (λ (file : PlainNode). written file from value tree) (to_write tree path from value)
step_is tree (command.Trunc path size) unread = on_is tree (λ (file : PlainNode). resized file size tree) (to_trunc tree path size)
step_is tree (command.Chmod path mode) unread = on_is tree (λ (node : PlainNode). marked node.id (with_changed node.id (with_mode mode) tree)) (to_node tree path)
step_is tree (command.SetAttr path name value) unread = on_is tree (λ (node : PlainNode). marked node.id (with_changed node.id (with_attribute name value) tree)) (to_set tree path value)
step_is tree (command.DelAttr path name) unread = on_is tree (λ (pair : PlainNode × PlainAttribute). marked pair.0.id (with_changed pair.0.id (without_attribute name) tree)) (to_attribute tree path name)
step_is tree (command.At moment) unread = inr (record tree { moment = moment }, refl)
step_is tree (command.Read path from long) unread = absurd (true≢false unread)
step_is tree (command.Ls path) unread = absurd (true≢false unread)
step_is tree (command.Stat path) unread = absurd (true≢false unread)
step_is tree (command.GetAttr path name) unread = absurd (true≢false unread)
step_is tree (command.LsAttr path) unread = absurd (true≢false unread)
step_is tree command.Df unread = absurd (true≢false unread)
step_is tree command.Sync unread = absurd (true≢false unread)

pub line_is : (tree : PlainTree) (asked : Command) → only_reads asked ≡ false → IsStep tree (step_line tree (Ok asked))
line_is tree asked unread = by (is_private asked)
  where
    by : (b : Bool) → IsStep tree (if b then (reply.No refusal.Private, tree) else step tree asked)
    by true = inl (refusal.Private, refl)
    by false = step_is tree asked unread

pub line_kept : (tree : PlainTree) (asked : Command) → only_reads asked ≡ false → refuses tree (Ok asked) ≡ true → (step_line tree (Ok asked)).1 ≡ tree
line_kept tree asked unread is = elim (line_is tree asked unread) [
  | inl it ↦ ap (λ (s : Step). s.1) it.1
  | inr it ↦ absurd (true≢false (sym is ∙ ap (λ (s : Step). is_refusal s.0) it.1))
]

-- commands that read keep it too
read_is : {X : Type 0} (tree : PlainTree) (said : X → Reply) (r : Result X Refusal) → (on tree r (λ x. (said x, tree))).1 ≡ tree
read_is tree said (Ok x) = refl
read_is tree said (Err why) = refl

reads_kept : (tree : PlainTree) (asked : Command) → only_reads asked ≡ true → (step tree asked).1 ≡ tree
reads_kept tree (command.Read path from long) is = read_is tree (λ (file : PlainNode). reply.Content (take long (drop from file.bytes))) (to_read tree path long)
reads_kept tree (command.Ls path) is = read_is tree (λ (folder : PlainNode). reply.Listing (map listed (entries_in tree folder.id))) (to_folder tree path)
reads_kept tree (command.Stat path) is = read_is tree (λ (node : PlainNode). reply.Facts (facts_of tree node)) (to_node tree path)
reads_kept tree (command.GetAttr path name) is = read_is tree (λ (pair : PlainNode × PlainAttribute). reply.Content pair.1.value) (to_value tree path name)
reads_kept tree (command.LsAttr path) is = read_is tree (λ (node : PlainNode). reply.Listing (map listed_attribute node.attributes)) (to_node tree path)
reads_kept tree command.Df is = refl
reads_kept tree command.Sync is = refl
reads_kept tree (command.Mkdir path) is = absurd (true≢false (sym is))
reads_kept tree (command.Create path) is = absurd (true≢false (sym is))
reads_kept tree (command.Rm path) is = absurd (true≢false (sym is))
reads_kept tree (command.Rmdir path) is = absurd (true≢false (sym is))
reads_kept tree (command.Mv from to) is = absurd (true≢false (sym is))
reads_kept tree (command.Ln from to) is = absurd (true≢false (sym is))
reads_kept tree (command.Write path from value) is = absurd (true≢false (sym is))
reads_kept tree (command.Trunc path size) is = absurd (true≢false (sym is))
reads_kept tree (command.Chmod path mode) is = absurd (true≢false (sym is))
reads_kept tree (command.SetAttr path name value) is = absurd (true≢false (sym is))
reads_kept tree (command.DelAttr path name) is = absurd (true≢false (sym is))
reads_kept tree (command.At moment) is = absurd (true≢false (sym is))

pub read_line_kept : (tree : PlainTree) (asked : Command) → only_reads asked ≡ true → (step_line tree (Ok asked)).1 ≡ tree
read_line_kept tree asked reads = by (is_private asked)
  where
    by : (b : Bool) → (if b then (reply.No refusal.Private, tree) else step tree asked).1 ≡ tree
    by true = refl
    by false = reads_kept tree asked reads

-- they put no data, and tell watchers nothing
pub no_data : (tree : PlainTree) (asked : Command) → only_reads asked ≡ true → data_of tree asked ≡ None
no_data tree (command.Read path from long) is = refl
no_data tree (command.Ls path) is = refl
no_data tree (command.Stat path) is = refl
no_data tree (command.GetAttr path name) is = refl
no_data tree (command.LsAttr path) is = refl
no_data tree command.Df is = refl
no_data tree command.Sync is = refl
no_data tree (command.Mkdir path) is = absurd (true≢false (sym is))
no_data tree (command.Create path) is = absurd (true≢false (sym is))
no_data tree (command.Rm path) is = absurd (true≢false (sym is))
no_data tree (command.Rmdir path) is = absurd (true≢false (sym is))
no_data tree (command.Mv from to) is = absurd (true≢false (sym is))
no_data tree (command.Ln from to) is = absurd (true≢false (sym is))
no_data tree (command.Write path from value) is = absurd (true≢false (sym is))
no_data tree (command.Trunc path size) is = absurd (true≢false (sym is))
no_data tree (command.Chmod path mode) is = absurd (true≢false (sym is))
no_data tree (command.SetAttr path name value) is = absurd (true≢false (sym is))
no_data tree (command.DelAttr path name) is = absurd (true≢false (sym is))
no_data tree (command.At moment) is = absurd (true≢false (sym is))

no_changes : (line : ℕ) (tree : PlainTree) (asked : Command) → only_reads asked ≡ true → [] ≡ changes_of line tree asked
no_changes line tree (command.Read path from long) is = refl
no_changes line tree (command.Ls path) is = refl
no_changes line tree (command.Stat path) is = refl
no_changes line tree (command.GetAttr path name) is = refl
no_changes line tree (command.LsAttr path) is = refl
no_changes line tree command.Df is = refl
no_changes line tree command.Sync is = refl
no_changes line tree (command.Mkdir path) is = absurd (true≢false (sym is))
no_changes line tree (command.Create path) is = absurd (true≢false (sym is))
no_changes line tree (command.Rm path) is = absurd (true≢false (sym is))
no_changes line tree (command.Rmdir path) is = absurd (true≢false (sym is))
no_changes line tree (command.Mv from to) is = absurd (true≢false (sym is))
no_changes line tree (command.Ln from to) is = absurd (true≢false (sym is))
no_changes line tree (command.Write path from value) is = absurd (true≢false (sym is))
no_changes line tree (command.Trunc path size) is = absurd (true≢false (sym is))
no_changes line tree (command.Chmod path mode) is = absurd (true≢false (sym is))
no_changes line tree (command.SetAttr path name value) is = absurd (true≢false (sym is))
no_changes line tree (command.DelAttr path name) is = absurd (true≢false (sym is))
no_changes line tree (command.At moment) is = absurd (true≢false (sym is))

-- ---- entries

-- what watchers are told of a reply
abbrev pub changes_told : ℕ → PlainTree → Command → Reply → List Change
changes_told number tree asked said = if is_ok said then changes_of number tree asked else []

-- What an entry may be: the contents are sound, and it is answered as its step, or a resource is missing.
pub record IsDecided (capacity : ℕ) (entry : Entry) : Type 0 where
  pub sound_before : IsSound entry.before
  pub sound_after : IsSound entry.after
  pub is : IsAnswered capacity entry ⊎ LacksResource capacity entry

-- what an entry may be, of a command that a line spells
pub record Comes (capacity : ℕ) (asked : Command) (said : Reply) (before after : Content) : Type 0 where
  pub is : (own : Option Asked) (line : List ℕ) → asked_in own line ≡ Ok asked → IsDecided capacity (record { line = line; own = own; reply = said; before = before; after = after })

-- a command of the plain language is served as one
served_by : (capacity : ℕ) (own : Option Asked) (line : List ℕ) (asked : Command) (entry : Entry) → asked_in own line ≡ Ok asked → IsAnswered capacity entry ⊎ LacksResource capacity entry → IsServedBy capacity own entry
served_by capacity None line asked entry spells it = ⊎_elim (λ one. inl one) (λ two. inr (inl two)) it
served_by capacity (Some (Plain other)) line asked entry spells it = ⊎_elim (λ one. inl one) (λ two. inr (inl two)) it
served_by capacity (Some (Kind other)) line asked entry spells it = absurd (let no : Err refusal.BadCommand ≡ Ok asked = spells in cc no)

wanted_is : (own : Option Asked) (line : List ℕ) (asked : Command) → asked_in own line ≡ Ok asked → wanted_in own line ≡ Some (Plain asked)
wanted_is None line asked spells = ap spelled spells
wanted_is (Some (Plain other)) line asked spells = ap (λ (r : Result Command Refusal). spelled r) spells
wanted_is (Some (Kind other)) line asked spells = absurd (let no : Err refusal.BadCommand ≡ Ok asked = spells in cc no)

module _ (capacity number : ℕ) (asked : Command) (said : Reply) (before after : Content) where
  -- with what watchers are told
  pub steps : Comes capacity asked said before after → (changes : List Change) → changes ≡ changes_told number (tree_of before) asked said → StepsTo (outcome.Answered said changes) capacity number asked before after
  steps comes changes told own line spells =
      let it = comes.is own line spells in
      record {
        served = record {
          served = record { sound_before = it.sound_before; sound_after = it.sound_after; is = served_by capacity own line asked (record { line = line; own = own; reply = said; before = before; after = after }) spells it.is };
          told = told ∙ sym (ap (λ (it : Option Asked). if is_ok said then changes_asked number (tree_of before) it else []) (wanted_is own line asked spells));
        };
        decided = it.is;
      }

-- a command that reads leaves every value its blocks
values_read : (tree : PlainTree) (asked : Command) (volume : VolumeState) → only_reads asked ≡ true → PutsInValues tree asked volume volume
values_read tree (command.Mkdir p) volume reads = λ id name. refl
values_read tree (command.Create p) volume reads = λ id name. refl
values_read tree (command.Rm p) volume reads = λ id name. refl
values_read tree (command.Rmdir p) volume reads = absurd (true≢false (sym reads))
values_read tree (command.Mv p q) volume reads = λ id name. refl
values_read tree (command.Ln p q) volume reads = λ id name. refl
values_read tree (command.Write p n v) volume reads = λ id name. refl
values_read tree (command.Trunc p n) volume reads = λ id name. refl
values_read tree (command.Read p n m) volume reads = λ id name. refl
values_read tree (command.Ls p) volume reads = λ id name. refl
values_read tree (command.Stat p) volume reads = λ id name. refl
values_read tree (command.Chmod p m) volume reads = λ id name. refl
values_read tree (command.SetAttr p n v) volume reads = absurd (true≢false (sym reads))
values_read tree (command.GetAttr p n) volume reads = λ id name. refl
values_read tree (command.DelAttr p n) volume reads = absurd (true≢false (sym reads))
values_read tree (command.LsAttr p) volume reads = λ id name. refl
values_read tree (command.At n) volume reads = λ id name. refl
values_read tree command.Df volume reads = λ id name. refl
values_read tree command.Sync volume reads = λ id name. refl

-- a command that reads weighs nothing
weighs_nothing : (capacity : ℕ) (content : Content) (asked : Command) → only_reads asked ≡ true → weight capacity (volume_of content) (tree_of content) asked ≡ cost.Load 0 (0 ∷ 0 ∷ 0 ∷ [])
unfolding weight_with
weighs_nothing capacity content asked reads = ap (λ b. if b || changes_nothing (tree_of content) asked then cost.Load 0 (0 ∷ 0 ∷ 0 ∷ []) else (if needs_cut (volume_of content) (data_of (tree_of content) asked) then cut_cost (room_with capacity (free_blocks (volume_of content)) (volume_of content))
    else if lacks_tree (volume_of content) asked then cost.Refused refusal.NoTree
    else cost_of (with_values (free_blocks (volume_of content)) (values_of (volume_of content) (tree_of content) asked) (needs_for (free_blocks (volume_of content)) (volume_of content) (edits_of (tree_of content) asked) (data_of (tree_of content) asked))) (room_with capacity (free_blocks (volume_of content)) (volume_of content)))) reads

module _ (capacity : ℕ) (asked : Command) (before : Content) (sound : IsSound before) where
  -- a refusal, of the step or for want of a resource
  pub refused : (why : Refusal) → only_reads asked ≡ false → IsJudged (verdict.Refused why) capacity asked before → Comes capacity asked (reply.No why) before before
  refused why no_read (inl is) = record {
    is = λ own line spells. record {
      sound_before = sound;
      sound_after = sound;
      is = inl (record {
        reply_is = is ∙ sym (reply_step capacity before asked no_read) ∙ sym (ap (reply_to capacity before) spells);
        tree = sym (line_kept (tree_of before) asked no_read (sym (ap is_refusal is))) ∙ sym (ap (λ r. (step_line (tree_of before) r).1) spells);
        does = subst (λ r. DoesLine capacity r before before) (sym spells) (λ refused_it. refl, λ not_refused. absurd (true≢false (ap is_refusal is ∙ not_refused)));
      });
    };
  }
  refused why no_read (inr lacks) = record {
    is = λ own line spells. record {
      sound_before = sound;
      sound_after = sound;
      is = inr (record { asked = asked; is_asked = spells; no_refusal = lacks.0; why = why; weighs = lacks.1; reply_is = refl; same = refl });
    };
  }

  -- a command that reads
  pub tells : (said : Reply) → only_reads asked ≡ true → said ≡ reply_to capacity before (Ok asked) → Comes capacity asked said before before
  tells said reads is = record {
    is = λ own line spells. record {
      sound_before = sound;
      sound_after = sound;
      is = inl (record {
        reply_is = is ∙ sym (ap (reply_to capacity before) spells);
        tree = sym (read_line_kept (tree_of before) asked reads) ∙ sym (ap (λ r. (step_line (tree_of before) r).1) spells);
        does = subst (λ r. DoesLine capacity r before before) (sym spells) (λ refused_it. refl, λ not_refused. done);
      });
    };
  }
    where
      done : IsDone capacity asked before before
      done = record {
        load = 0;
        affords = weighs_nothing capacity before asked reads;
        no_surplus = ap (needs_cut (volume_of before)) (no_data (tree_of before) asked reads);
        grows = grows_none (volume_of before) (volume_of before) (keeps_none (volume_of before)).forks;
        forks = subst (λ d. PutsInFork d (volume_of before) (volume_of before)) (sym (no_data (tree_of before) asked reads)) (λ id kind other. refl);
        values = values_read (tree_of before) asked (volume_of before) reads;
        reads = λ _. refl;
      }

  pub quiet : (number : ℕ) (said : Reply) → only_reads asked ≡ true → [] ≡ changes_told number (tree_of before) asked said
  quiet number said reads = by (is_ok said)
    where
      by : (b : Bool) → [] ≡ (if b then changes_of number (tree_of before) asked else [])
      by true = no_changes number (tree_of before) asked reads
      by false = refl

-- a command that was done, and puts no data
pub done_as : (capacity : ℕ) (asked : Command) (said : Reply) (before after : Content) → IsSound before → IsSound after → only_reads asked ≡ false → (IsTrue (only_reads asked || changes_nothing (tree_of before) asked) → after ≡ before) → data_of (tree_of before) asked ≡ None → Affords capacity asked before
    → said ≡ (step_line (tree_of before) (Ok asked)).0 → tree_of after ≡ (step_line (tree_of before) (Ok asked)).1 → KeepsForks (volume_of before) (volume_of after) → PutsInValues (tree_of before) asked (volume_of before) (volume_of after) → Comes capacity asked said before after
done_as capacity asked said before after sound_before sound_after no_read still no_put affords reply_is tree keeps values = record {
  is = λ own line spells. record {
    sound_before = sound_before;
    sound_after = sound_after;
    is = inl (record {
      reply_is = reply_is ∙ sym (reply_step capacity before asked no_read) ∙ sym (ap (reply_to capacity before) spells);
      tree = tree ∙ sym (ap (λ r. (step_line (tree_of before) r).1) spells);
      does = subst (λ r. DoesLine capacity r before after) (sym spells) (
        λ refused_it. absurd (true≢false (sym refused_it ∙ affords.no_refusal)),
        λ not_refused. record {
          load = affords.load;
          affords = affords.affords;
          no_surplus = ap (needs_cut (volume_of before)) no_put;
          grows = grows_none (volume_of before) (volume_of after) keeps;
          forks = subst (λ d. PutsInFork d (volume_of before) (volume_of after)) (sym no_put) (λ id kind other. keeps.blocks id kind);
          values = values;
          reads = still;
        },
      );
    });
  };
}

-- ---- the journal's place

pub journal_kept : (before after : Content) → KeepsForks (volume_of before) (volume_of after) → KeepsJournal before after
unfolding volume_of
journal_kept before after keeps = record { journal = keeps.journal; locked = ap is_locked keeps.flags; heading = keeps.same }
