-- Commands that were done: what they answer, and what watchers are told.
use Rattle.std.proofs.Common.{◌≡◌, ℕ, Bool, true, false, List, [], ◌∷◌, inl, inr, refl, sym, ◌∙◌, ap, subst}
use Rattle.std.specs.Prelude.{◌||◌, ◌==◌, length, not, IsTrue, None, Result, Ok, Err, if◌then◌else◌}
use Rattle.std.specs.Option.{ok_or}
use Rattle.std.proofs.lemmas.Bool.{true≢false}
use Rattle.alloc_bitmap.specs.declared.bitmap.Bitmap.{Bitmap}
use Rattle.jnl_format.specs.Recovery.{Content}
use Rattle.hfs_language.specs.declared.command.Command.{Command}
use Rattle.hfs_language.specs.declared.command.Command.TheVariants as command
use Rattle.hfs_language.specs.declared.refusal.Refusal.{Refusal}
use Rattle.hfs_language.specs.declared.refusal.Refusal.TheVariants as refusal
use Rattle.hfs_language.specs.declared.reply.Change.{Change}
use Rattle.hfs_language.specs.declared.reply.ChangeKind.TheVariants as change
use Rattle.hfs_language.specs.declared.reply.Reply.{Reply}
use Rattle.hfs_language.specs.declared.reply.Reply.TheVariants as reply
use Rattle.hfs_model.specs.Plain.{attribute_at, entries_in, node_at}
use Rattle.hfs_model.specs.Step.{Place, Step, is_private, is_private_path, is_refusal, is_root, is_same_file, moved, moved_over, on, only_reads, reached, refuses, step, step_line, then_, to_attribute, to_make, to_mv, to_node, to_rm, to_rmdir, unless, vacated}
use Rattle.hfs_model.specs.declared.plain.PlainAttribute.{PlainAttribute}
use Rattle.hfs_model.specs.declared.plain.PlainEntry.{PlainEntry}
use Rattle.hfs_model.specs.declared.plain.PlainNode.{PlainNode}
use Rattle.hfs_model.specs.declared.plain.PlainTree.{PlainTree}
use Rattle.hfs_volume.specs.Attributing.{at_moment}
use Rattle.hfs_volume.specs.Commands.{ChangesMode}
use Rattle.hfs_volume.specs.Content.{VolumeState, has_attributes, volume_of}
use Rattle.hfs_volume.specs.Data.{PutsInValues}
use Rattle.hfs_volume.specs.Cost.{cost_of}
use Rattle.volume_runs.specs.Run.{reply_to}
use Rattle.hfs_volume.specs.Sound.{IsSound, IsSoundVolume}
use Rattle.volume_runs.specs.Told.{changes_of, of_entry, of_made, of_moved, of_pair}
use Rattle.hfs_volume.specs.TreeOf.{tree_of}
use Rattle.hfs_volume.specs.Weight.{changes_nothing, data_of, edits, free_blocks, needs_for, moves_onto_itself, room_with, values_of, weight_with, with_values}
use Rattle.hfs_volume.specs.declared.cost.Cost.TheVariants as cost
use Rattle.volume_base.specs.Attributing.{set_answer}
use Rattle.volume_names.specs.Making.{Makes}
use Rattle.volume_names.specs.Moving.{HasMoved, TakesPlace}
use Rattle.volume_names.specs.Losing.{HasLost, LosesName}
use Rattle.volume_names.specs.Removing.{HasRemoved}
use Rattle.volume_base.specs.Holding.{HoldsOn}
use Rattle.volume_base.specs.Standing.{IsSettled}
use Rattle.volume_base.specs.declared.volume.Volume.{Volume}
use Rattle.volume_values.specs.Valuing.{HasDeleted, HasSet}
use Rattle.volume_step.specs.Steps.{Affords, IsJudged, KeepsJournal, StepsTo}
use Rattle.volume_step.specs.declared.judging.Verdict.TheVariants as verdict
use Rattle.volume_step.specs.declared.outcome.Outcome.{Outcome}
use Rattle.volume_step.specs.declared.outcome.Outcome.TheVariants as outcome
use Rattle.volume_step.proofs.Kept.{Keeps, KeepsForks, delete_keeps, keeps_both, keeps_none, mode_keeps, moment_keeps, set_keeps, values_same}
use Rattle.volume_step.proofs.KeptEntries.{last_keeps, link_keeps, lost_keeps, made_keeps, moved_keeps, opened_keeps, removed_keeps}
use Rattle.volume_step.proofs.Idle.{works_unread}
use Rattle.volume_step.proofs.Served.{changes_told, done_as, journal_kept, line_is, quiet, refused, steps, tells}

-- ---- a volume whose bits are as they were

pub holds_kept : (committed : Content) (v w : Volume) → w.map ≡ v.map → HoldsOn committed v → HoldsOn committed w
holds_kept committed v w same was = subst (λ (m : Bitmap). HoldsIn m) (sym same) was
  where
    HoldsIn : Bitmap → Type 0
    HoldsIn m = HoldsOn committed (record v { map = m })

-- ---- steps that aren't refused

pub line_ok : (tree : PlainTree) (asked : Command) → only_reads asked ≡ false → refuses tree (Ok asked) ≡ false → (step_line tree (Ok asked)).0 ≡ reply.Ok
line_ok tree asked unread is = elim (line_is tree asked unread) [
  | inl it ↦ absurd (true≢false (sym (ap (λ (s : Step). is_refusal s.0) it.1) ∙ is))
  | inr it ↦ ap (λ (s : Step). s.0) it.1
]

-- nor do they name the volume's own
pub line_free : (tree : PlainTree) (asked : Command) → refuses tree (Ok asked) ≡ false → is_private asked ≡ false
line_free tree asked is = by (is_private asked) is
  where
    by : (b : Bool) → is_refusal (if b then (reply.No refusal.Private, tree) else step tree asked).0 ≡ false → b ≡ false
    by true same = absurd (true≢false same)
    by false same = refl

-- nor does the step itself refuse it
pub step_fine : (tree : PlainTree) (asked : Command) → refuses tree (Ok asked) ≡ false → is_refusal (step tree asked).0 ≡ false
step_fine tree asked is = by (is_private asked) is
  where
    by : (b : Bool) → is_refusal (if b then (reply.No refusal.Private, tree) else step tree asked).0 ≡ false → is_refusal (step tree asked).0 ≡ false
    by true same = absurd (true≢false same)
    by false same = same

pub or_none : (b : Bool) → (b || false) ≡ false → b ≡ false
or_none true is = is
or_none false is = refl

-- what stands for a folder or file was reached
pub reached_node : (tree : PlainTree) (path : List (List ℕ)) (node : PlainNode) → to_node tree path ≡ Ok node → (entry : PlainEntry) × (reached tree path ≡ Ok entry)
reached_node tree path node is = by (reached tree path) refl is
  where
    by : (r : Result PlainEntry Refusal) → reached tree path ≡ r → then_ r (λ at. ok_or (node_at tree at.id) refusal.NotFound) ≡ Ok node → (entry : PlainEntry) × (reached tree path ≡ Ok entry)
    by (Ok entry) found same = (entry, found)
    by (Err why) found same = absurd (cc same)

-- ---- `at`

module _ (capacity number moment : ℕ) (before after : Content) (sound_before : IsSound before) (sound_after : IsSound after) (affords : Affords capacity (command.At moment) before) (said : Reply)
    (reply_is : said ≡ (step_line (tree_of before) (Ok (command.At moment))).0) (tree : tree_of after ≡ (step_line (tree_of before) (Ok (command.At moment))).1) (lists : volume_of after ≡ at_moment moment (volume_of before))
  where
    at_keeps : Keeps (volume_of before) (volume_of after)
    at_keeps = subst (λ (l : VolumeState). Keeps (volume_of before) l) (sym lists) (moment_keeps moment (volume_of before))

    pub at_steps : (changes : List Change) → changes ≡ [] → StepsTo (outcome.Answered said changes) capacity number (command.At moment) before after
    at_steps changes none = steps capacity number (command.At moment) said before after (done_as capacity (command.At moment) said before after sound_before sound_after refl (λ rests. absurd (true≢false (sym rests))) refl affords reply_is tree at_keeps.forks (values_same (volume_of before) (volume_of after) at_keeps)) changes
        (none ∙ ap (λ r. changes_told number (tree_of before) (command.At moment) r) (sym reply_is))

    pub at_place : KeepsJournal before after
    at_place = journal_kept before after at_keeps.forks

-- ---- `chmod`

module _ (capacity number : ℕ) (path : List (List ℕ)) (rights : ℕ) (before after : Content) (sound_before : IsSound before) (sound_after : IsSound after) (affords : Affords capacity (command.Chmod path rights) before) (said : Reply)
    (reply_is : said ≡ (step_line (tree_of before) (Ok (command.Chmod path rights))).0) (tree : tree_of after ≡ (step_line (tree_of before) (Ok (command.Chmod path rights))).1)
    (lists : said ≡ reply.Ok → (node : PlainNode) × (to_node (tree_of before) path ≡ Ok node) × ChangesMode node.id rights (volume_of before) (volume_of after))
  where
    is_fine : said ≡ reply.Ok
    is_fine = reply_is ∙ line_ok (tree_of before) (command.Chmod path rights) refl affords.no_refusal

    chmod_keeps : Keeps (volume_of before) (volume_of after)
    chmod_keeps = let it = lists is_fine in mode_keeps it.0.id rights (volume_of before) (volume_of after) it.2

    pub chmod_steps : (changes : List Change) → (is_private_path path ≡ false → (entry : PlainEntry) → reached (tree_of before) path ≡ Ok entry → changes ≡ of_entry number change.Mode (Ok entry))
        → StepsTo (outcome.Answered said changes) capacity number (command.Chmod path rights) before after
    chmod_steps changes told =
        let it = lists is_fine in
        let at = reached_node (tree_of before) path it.0 it.1 in
        steps capacity number (command.Chmod path rights) said before after (done_as capacity (command.Chmod path rights) said before after sound_before sound_after refl (λ rests. absurd (true≢false (sym rests))) refl affords reply_is tree chmod_keeps.forks (values_same (volume_of before) (volume_of after) chmod_keeps)) changes
        (told (or_none (is_private_path path) (line_free (tree_of before) (command.Chmod path rights) affords.no_refusal)) at.0 at.1 ∙ ap (of_entry number change.Mode) (sym at.1) ∙ ap (λ r. changes_told number (tree_of before) (command.Chmod path rights) r) (sym is_fine))

    pub chmod_place : KeepsJournal before after
    chmod_place = journal_kept before after chmod_keeps.forks

-- ---- commands that read

module _ (capacity number : ℕ) (asked : Command) (before after : Content) (same : after ≡ before) where
  pub read_steps : IsSound before → only_reads asked ≡ true → (said : Reply) → said ≡ reply_to capacity before (Ok asked) → (changes : List Change) → changes ≡ [] → StepsTo (outcome.Answered said changes) capacity number asked before after
  read_steps sound reads said is changes none =
      subst (λ (k : Content). StepsTo (outcome.Answered said changes) capacity number asked before k) (sym same)
      (steps capacity number asked said before before (tells capacity asked before sound said reads is) changes (none ∙ quiet capacity asked before sound number said reads))

  -- and answers that change nothing
  pub refused_steps : IsSound before → only_reads asked ≡ false → (why : Refusal) → IsJudged (verdict.Refused why) capacity asked before → (it : Outcome) → it ≡ outcome.Answered (reply.No why) [] → StepsTo it capacity number asked before after
  refused_steps sound unread why is it it_is =
      subst (λ (o : Outcome). StepsTo o capacity number asked before after) (sym it_is)
      (subst (λ (k : Content). StepsTo (outcome.Answered (reply.No why) []) capacity number asked before k) (sym same)
      (steps capacity number asked (reply.No why) before before (refused capacity asked before sound why unread is) [] refl))

pub same_place : (before after : Content) → after ≡ before → KeepsJournal before after
same_place before after same = subst (KeepsJournal before) (sym same) (journal_kept before before (keeps_none (volume_of before)).forks)

-- ---- a command that was done, whichever it is

module _ (capacity number : ℕ) (asked : Command) (before after : Content) (sound_before : IsSound before) (sound_after : IsSound after) (affords : Affords capacity asked before) (said : Reply) (works : (only_reads asked || changes_nothing (tree_of before) asked) ≡ false) (no_put : data_of (tree_of before) asked ≡ None)
    (reply_is : said ≡ (step_line (tree_of before) (Ok asked)).0) (tree : tree_of after ≡ (step_line (tree_of before) (Ok asked)).1)
  where
    pub said_ok : said ≡ reply.Ok
    said_ok = reply_is ∙ line_ok (tree_of before) asked (works_unread (tree_of before) asked works) affords.no_refusal

    pub done_steps : KeepsForks (volume_of before) (volume_of after) → PutsInValues (tree_of before) asked (volume_of before) (volume_of after) → (changes : List Change) → changes ≡ changes_of number (tree_of before) asked → StepsTo (outcome.Answered said changes) capacity number asked before after
    done_steps keeps values changes told =
        steps capacity number asked said before after (done_as capacity asked said before after sound_before sound_after (works_unread (tree_of before) asked works) (λ rests. absurd (true≢false (sym rests ∙ works))) no_put affords reply_is tree keeps values) changes
        (told ∙ ap (λ r. changes_told number (tree_of before) asked r) (sym said_ok))

pub free_path : (path : List (List ℕ)) → (is_private_path path || false) ≡ false → is_private_path path ≡ false
free_path path is = or_none (is_private_path path) is

pub first_free : (a b : Bool) → (a || (b || false)) ≡ false → (a ≡ false) × (b ≡ false)
first_free true b is = absurd (true≢false is)
first_free false true is = absurd (true≢false is)
first_free false false is = (refl, refl)

-- ---- `setattr` and `delattr`

-- an attribute is set in an attributes file alone
pub has_tree : (capacity : ℕ) (before : Content) (path : List (List ℕ)) (name value : List ℕ) → Affords capacity (command.SetAttr path name value) before → has_attributes (volume_of before).head ≡ true
unfolding weight_with
has_tree capacity before path name value affords = by (has_attributes (volume_of before).head) affords.affords
  where
    by : (b : Bool) → (if not b then cost.Refused refusal.NoTree else cost_of (with_values (free_blocks (volume_of before)) (values_of (volume_of before) (tree_of before) (command.SetAttr path name value)) (needs_for (free_blocks (volume_of before)) (volume_of before) (edits 0 0 2 1) None)) (room_with capacity (free_blocks (volume_of before)) (volume_of before))) ≡ cost.Load affords.load (0 ∷ 0 ∷ 0 ∷ []) → b ≡ true
    by true is = refl
    by false is = absurd (let none : cost.Refused refusal.NoTree ≡ cost.Load affords.load (0 ∷ 0 ∷ 0 ∷ []) = is in cc none)

pub reply_set : (has : Bool) (said r : Reply) → has ≡ true → said ≡ set_answer has r → said ≡ r
reply_set true said r has is = is
reply_set false said r has is = absurd (true≢false (sym has))

reached_attribute : (tree : PlainTree) (path : List (List ℕ)) (name : List ℕ) (pair : PlainNode × PlainAttribute) → to_attribute tree path name ≡ Ok pair → (entry : PlainEntry) × (reached tree path ≡ Ok entry)
reached_attribute tree path name pair is = by (to_node tree path) refl is
  where
    by : (r : Result PlainNode Refusal) → to_node tree path ≡ r → then_ r (λ node. then_ (ok_or (attribute_at node name) refusal.NoAttribute) (λ attribute. Ok (node, attribute))) ≡ Ok pair → (entry : PlainEntry) × (reached tree path ≡ Ok entry)
    by (Ok node) found same = reached_node tree path node found
    by (Err why) found same = absurd (cc same)

module _ (capacity number : ℕ) (path : List (List ℕ)) (name value : List ℕ) (v : Volume) (before after : Content) (settled : IsSettled v before) (sound_before : IsSound before) (sound_after : IsSound after) (affords : Affords capacity (command.SetAttr path name value) before)
    (said : Reply) (reply_is : said ≡ set_answer (has_attributes v.header) (step_line (tree_of before) (Ok (command.SetAttr path name value))).0)
    (tree : IsTrue (has_attributes v.header) → tree_of after ≡ (step_line (tree_of before) (Ok (command.SetAttr path name value))).1)
    (lists : said ≡ reply.Ok → HasSet path name value before after)
  where
    has : has_attributes v.header ≡ true
    has = sym (ap (λ (l : VolumeState). has_attributes l.head) settled.lists) ∙ has_tree capacity before path name value affords

    plain : said ≡ (step_line (tree_of before) (Ok (command.SetAttr path name value))).0
    plain = reply_set (has_attributes v.header) said _ has reply_is

    fine : said ≡ reply.Ok
    fine = said_ok capacity number (command.SetAttr path name value) before after sound_before sound_after affords said refl refl plain (tree has)

    keeps : KeepsForks (volume_of before) (volume_of after)
    keeps = let it = lists fine in set_keeps it.node.id name value (volume_of before) (volume_of after) it.sets

    pub set_steps : (changes : List Change) → (is_private_path path ≡ false → (entry : PlainEntry) → reached (tree_of before) path ≡ Ok entry → changes ≡ of_entry number change.Attribute (Ok entry))
        → StepsTo (outcome.Answered said changes) capacity number (command.SetAttr path name value) before after
    set_steps changes told =
        let it = lists fine in
        let at = reached_node (tree_of before) path it.node it.found in
        done_steps capacity number (command.SetAttr path name value) before after sound_before sound_after affords said refl refl plain (tree has) keeps it.values changes
        (told (free_path path (line_free (tree_of before) (command.SetAttr path name value) affords.no_refusal)) at.0 at.1 ∙ ap (of_entry number change.Attribute) (sym at.1))

    pub set_place : KeepsJournal before after
    set_place = journal_kept before after keeps

module _ (capacity number : ℕ) (path : List (List ℕ)) (name : List ℕ) (before after : Content) (sound_before : IsSound before) (sound_after : IsSound after) (affords : Affords capacity (command.DelAttr path name) before)
    (said : Reply) (reply_is : said ≡ (step_line (tree_of before) (Ok (command.DelAttr path name))).0) (tree : tree_of after ≡ (step_line (tree_of before) (Ok (command.DelAttr path name))).1)
    (lists : said ≡ reply.Ok → HasDeleted path name before after)
  where
    fine_delete : said ≡ reply.Ok
    fine_delete = said_ok capacity number (command.DelAttr path name) before after sound_before sound_after affords said refl refl reply_is tree

    keeps_delete : KeepsForks (volume_of before) (volume_of after)
    keeps_delete = let it = lists fine_delete in delete_keeps it.node.id name (volume_of before) (volume_of after) it.deletes

    pub delete_steps : (changes : List Change) → (is_private_path path ≡ false → (entry : PlainEntry) → reached (tree_of before) path ≡ Ok entry → changes ≡ of_entry number change.Attribute (Ok entry))
        → StepsTo (outcome.Answered said changes) capacity number (command.DelAttr path name) before after
    delete_steps changes told =
        let it = lists fine_delete in
        let at = reached_attribute (tree_of before) path name (it.node, it.attribute) it.found in
        done_steps capacity number (command.DelAttr path name) before after sound_before sound_after affords said refl refl reply_is tree keeps_delete it.values changes
        (told (free_path path (line_free (tree_of before) (command.DelAttr path name) affords.no_refusal)) at.0 at.1 ∙ ap (of_entry number change.Attribute) (sym at.1))

    pub delete_place : KeepsJournal before after
    delete_place = journal_kept before after keeps_delete

-- ---- `mkdir` and `create`

module _ (capacity number : ℕ) (path : List (List ℕ)) (before after : Content) (sound_before : IsSound before) (sound_after : IsSound after) (said : Reply) where
  module _ (affords : Affords capacity (command.Mkdir path) before) (reply_is : said ≡ (step_line (tree_of before) (Ok (command.Mkdir path))).0) (tree : tree_of after ≡ (step_line (tree_of before) (Ok (command.Mkdir path))).1)
      (lists : said ≡ reply.Ok → Makes true path before after)
    where
      fine_folder : said ≡ reply.Ok
      fine_folder = said_ok capacity number (command.Mkdir path) before after sound_before sound_after affords said refl refl reply_is tree

      keeps_folder : Keeps (volume_of before) (volume_of after)
      keeps_folder = let it = lists fine_folder in made_keeps true it.place (volume_of before) (volume_of after) sound_before.volume sound_after.volume it.named it.makes

      pub mkdir_steps : (changes : List Change) → (is_private_path path ≡ false → (at : Place) → to_make (tree_of before) path ≡ Ok at → changes ≡ of_made number (tree_of before) (Ok at))
          → StepsTo (outcome.Answered said changes) capacity number (command.Mkdir path) before after
      mkdir_steps changes told =
          let it = lists fine_folder in
          done_steps capacity number (command.Mkdir path) before after sound_before sound_after affords said refl refl reply_is tree keeps_folder.forks (values_same (volume_of before) (volume_of after) keeps_folder) changes
          (told (free_path path (line_free (tree_of before) (command.Mkdir path) affords.no_refusal)) it.place it.allowed ∙ ap (of_made number (tree_of before)) (sym it.allowed))

      pub mkdir_place : KeepsJournal before after
      mkdir_place = journal_kept before after keeps_folder.forks

  module _ (affords : Affords capacity (command.Create path) before) (reply_is : said ≡ (step_line (tree_of before) (Ok (command.Create path))).0) (tree : tree_of after ≡ (step_line (tree_of before) (Ok (command.Create path))).1)
      (lists : said ≡ reply.Ok → Makes false path before after)
    where
      fine_file : said ≡ reply.Ok
      fine_file = said_ok capacity number (command.Create path) before after sound_before sound_after affords said refl refl reply_is tree

      keeps_file : Keeps (volume_of before) (volume_of after)
      keeps_file = let it = lists fine_file in made_keeps false it.place (volume_of before) (volume_of after) sound_before.volume sound_after.volume it.named it.makes

      pub create_steps : (changes : List Change) → (is_private_path path ≡ false → (at : Place) → to_make (tree_of before) path ≡ Ok at → changes ≡ of_made number (tree_of before) (Ok at))
          → StepsTo (outcome.Answered said changes) capacity number (command.Create path) before after
      create_steps changes told =
          let it = lists fine_file in
          done_steps capacity number (command.Create path) before after sound_before sound_after affords said refl refl reply_is tree keeps_file.forks (values_same (volume_of before) (volume_of after) keeps_file) changes
          (told (free_path path (line_free (tree_of before) (command.Create path) affords.no_refusal)) it.place it.allowed ∙ ap (of_made number (tree_of before)) (sym it.allowed))

      pub create_place : KeepsJournal before after
      create_place = journal_kept before after keeps_file.forks

-- ---- `rmdir`

abbrev entry_or : PlainEntry → Result PlainEntry Refusal → PlainEntry
entry_or other (Ok entry) = entry
entry_or other (Err why) = other

-- a folder that may be removed was reached
reached_rmdir : (tree : PlainTree) (path : List (List ℕ)) (entry : PlainEntry) → to_rmdir tree path ≡ Ok entry → reached tree path ≡ Ok entry
reached_rmdir tree path entry is = by_root (is_root path) is
  where
    by_empty : (at : PlainEntry) (b : Bool) → unless b refusal.NotEmpty at ≡ Ok entry → at ≡ entry
    by_empty at true same = absurd (let none : Err refusal.NotEmpty ≡ Ok entry = same in cc none)
    by_empty at false same = ap (entry_or at) same

    by_kind : (at : PlainEntry) (b : Bool) → then_ (unless b refusal.NotFolder at) (λ folder. unless (not (length (entries_in tree folder.id) == 0)) refusal.NotEmpty folder) ≡ Ok entry → at ≡ entry
    by_kind at true same = absurd (let none : Err refusal.NotFolder ≡ Ok entry = same in cc none)
    by_kind at false same = by_empty at (not (length (entries_in tree at.id) == 0)) same

    by_reached : (r : Result PlainEntry Refusal) → reached tree path ≡ r
        → then_ r (λ at. then_ (unless (not at.folder) refusal.NotFolder at) (λ folder. unless (not (length (entries_in tree folder.id) == 0)) refusal.NotEmpty folder)) ≡ Ok entry → reached tree path ≡ Ok entry
    by_reached (Ok at) found same = found ∙ ap Ok (by_kind at (not at.folder) same)
    by_reached (Err why) found same = absurd (let none : Err why ≡ Ok entry = same in cc none)

    by_root : (b : Bool)
        → then_ (unless b refusal.Root path) (λ named. then_ (reached tree named) (λ at. then_ (unless (not at.folder) refusal.NotFolder at) (λ folder. unless (not (length (entries_in tree folder.id) == 0)) refusal.NotEmpty folder))) ≡ Ok entry
        → reached tree path ≡ Ok entry
    by_root true same = absurd (let none : Err refusal.Root ≡ Ok entry = same in cc none)
    by_root false same = by_reached (reached tree path) refl same

module _ (capacity number : ℕ) (path : List (List ℕ)) (before after : Content) (sound_before : IsSound before) (sound_after : IsSound after) (affords : Affords capacity (command.Rmdir path) before)
    (said : Reply) (reply_is : said ≡ (step_line (tree_of before) (Ok (command.Rmdir path))).0) (tree : tree_of after ≡ (step_line (tree_of before) (Ok (command.Rmdir path))).1) (lists : said ≡ reply.Ok → HasRemoved path before after)
  where
    fine_removed : said ≡ reply.Ok
    fine_removed = said_ok capacity number (command.Rmdir path) before after sound_before sound_after affords said refl refl reply_is tree

    keeps_removed : KeepsForks (volume_of before) (volume_of after)
    keeps_removed =
        let it = lists fine_removed in
        removed_keeps it.entry.id (volume_of before) (volume_of after) it.takes.removes it.takes.folder

    pub remove_steps : (changes : List Change) → (is_private_path path ≡ false → (entry : PlainEntry) → reached (tree_of before) path ≡ Ok entry → changes ≡ of_entry number change.Removed (Ok entry))
        → StepsTo (outcome.Answered said changes) capacity number (command.Rmdir path) before after
    remove_steps changes told =
        let it = lists fine_removed in
        done_steps capacity number (command.Rmdir path) before after sound_before sound_after affords said refl refl reply_is tree keeps_removed it.values changes
        (told (free_path path (line_free (tree_of before) (command.Rmdir path) affords.no_refusal)) it.entry (reached_rmdir (tree_of before) path it.entry it.allowed) ∙ ap (of_entry number change.Removed) (sym it.allowed))

    pub remove_place : KeepsJournal before after
    remove_place = journal_kept before after keeps_removed

-- ---- `rm`

-- a file that may be removed was reached
pub reached_rm : (tree : PlainTree) (path : List (List ℕ)) (entry : PlainEntry) → to_rm tree path ≡ Ok entry → reached tree path ≡ Ok entry
reached_rm tree path entry is = by_root (is_root path) is
  where
    by_kind : (at : PlainEntry) (b : Bool) → unless b refusal.IsFolder at ≡ Ok entry → at ≡ entry
    by_kind at true same = absurd (let none : Err refusal.IsFolder ≡ Ok entry = same in cc none)
    by_kind at false same = ap (entry_or at) same

    by_reached : (r : Result PlainEntry Refusal) → reached tree path ≡ r → then_ r (λ at. unless at.folder refusal.IsFolder at) ≡ Ok entry → reached tree path ≡ Ok entry
    by_reached (Ok at) found same = found ∙ ap Ok (by_kind at at.folder same)
    by_reached (Err why) found same = absurd (let none : Err why ≡ Ok entry = same in cc none)

    by_root : (b : Bool) → then_ (unless b refusal.Root path) (λ named. then_ (reached tree named) (λ at. unless at.folder refusal.IsFolder at)) ≡ Ok entry → reached tree path ≡ Ok entry
    by_root true same = absurd (let none : Err refusal.Root ≡ Ok entry = same in cc none)
    by_root false same = by_reached (reached tree path) refl same

-- a file that lost a name keeps what it has
keeps_name : (before after : Content) → IsSound before → (entry : PlainEntry) → LosesName entry before after → Keeps (volume_of before) (volume_of after)
keeps_name before after sound entry (inl loses) =
    keeps_both (volume_of before) loses.opened (volume_of after) (opened_keeps (volume_of before) loses.opened loses.opens) (lost_keeps entry loses.opened (volume_of after) loses.sound loses.there loses.removes)
keeps_name before after sound entry (inr (inl unlinks)) = link_keeps entry (volume_of before) (volume_of after) sound.volume unlinks.removes
keeps_name before after sound entry (inr (inr last)) = last_keeps entry (volume_of before) (volume_of after) sound.volume last.removes

module _ (capacity number : ℕ) (path : List (List ℕ)) (before after : Content) (sound_before : IsSound before) (sound_after : IsSound after) (affords : Affords capacity (command.Rm path) before)
    (said : Reply) (reply_is : said ≡ (step_line (tree_of before) (Ok (command.Rm path))).0) (tree : tree_of after ≡ (step_line (tree_of before) (Ok (command.Rm path))).1) (lists : said ≡ reply.Ok → HasLost path before after)
  where
    fine_lost : said ≡ reply.Ok
    fine_lost = said_ok capacity number (command.Rm path) before after sound_before sound_after affords said refl refl reply_is tree

    keeps_lost : Keeps (volume_of before) (volume_of after)
    keeps_lost = let it = lists fine_lost in keeps_name before after sound_before it.entry it.loses

    pub lose_steps : (changes : List Change) → (is_private_path path ≡ false → (entry : PlainEntry) → reached (tree_of before) path ≡ Ok entry → changes ≡ of_entry number change.Removed (Ok entry))
        → StepsTo (outcome.Answered said changes) capacity number (command.Rm path) before after
    lose_steps changes told =
        let it = lists fine_lost in
        done_steps capacity number (command.Rm path) before after sound_before sound_after affords said refl refl reply_is tree keeps_lost.forks (values_same (volume_of before) (volume_of after) keeps_lost) changes
        (told (free_path path (line_free (tree_of before) (command.Rm path) affords.no_refusal)) it.entry (reached_rm (tree_of before) path it.entry it.allowed) ∙ ap (of_entry number change.Removed) (sym it.allowed))

    pub lose_place : KeepsJournal before after
    lose_place = journal_kept before after keeps_lost.forks

-- ---- `mv`

-- what may be moved, where the step doesn't refuse it
pub moves_one : (tree : PlainTree) (from to : List (List ℕ)) → refuses tree (Ok (command.Mv from to)) ≡ false → (pair : PlainEntry × Place) × (to_mv tree from to ≡ Ok pair)
moves_one tree from to is = by (to_mv tree from to) refl (step_fine tree (command.Mv from to) is)
  where
    by : (r : Result (PlainEntry × Place) Refusal) → to_mv tree from to ≡ r → is_refusal (on tree r (λ pair. (reply.Ok, moved_over pair.0 pair.1 tree))).0 ≡ false → (pair : PlainEntry × Place) × (to_mv tree from to ≡ Ok pair)
    by (Ok pair) found fine = (pair, found)
    by (Err why) found fine = absurd (true≢false fine)

module _ (capacity number : ℕ) (from to : List (List ℕ)) (before after : Content) (sound_before : IsSound before) (sound_after : IsSound after) (affords : Affords capacity (command.Mv from to) before)
    (moves : changes_nothing (tree_of before) (command.Mv from to) ≡ false)
    (said : Reply) (reply_is : said ≡ (step_line (tree_of before) (Ok (command.Mv from to))).0) (tree : tree_of after ≡ (step_line (tree_of before) (Ok (command.Mv from to))).1) (lists : said ≡ reply.Ok → HasMoved from to before after)
  where
    fine_move : said ≡ reply.Ok
    fine_move = said_ok capacity number (command.Mv from to) before after sound_before sound_after affords said moves refl reply_is tree

    keeps_place : (old new : Content) → IsSoundVolume (volume_of old) → TakesPlace from to old new → Keeps (volume_of old) (volume_of new)
    keeps_place old new sound it = moved_keeps it.entry it.place (volume_of old) (volume_of new) sound it.named it.moves

    keeps_moved : HasMoved from to before after → Keeps (volume_of before) (volume_of after)
    keeps_moved (inl takes) = keeps_place before after sound_before.volume takes
    keeps_moved (inr (inl over)) =
        keeps_both (volume_of before) (volume_of over.between) (volume_of after) (keeps_name before over.between sound_before over.loses.entry over.loses.loses) (keeps_place over.between after over.sound over.takes)
    keeps_moved (inr (inr stays)) = subst (λ (c : Content). Keeps (volume_of before) (volume_of c)) (sym stays.same) (keeps_none (volume_of before))

    keeps_move : Keeps (volume_of before) (volume_of after)
    keeps_move = keeps_moved (lists fine_move)

    pub move_steps : (changes : List Change) → (is_private_path from ≡ false → is_private_path to ≡ false → (pair : PlainEntry × Place) → to_mv (tree_of before) from to ≡ Ok pair → changes ≡ of_moved number (Ok pair))
        → StepsTo (outcome.Answered said changes) capacity number (command.Mv from to) before after
    move_steps changes told =
        let it = moves_one (tree_of before) from to affords.no_refusal in
        let free = first_free (is_private_path from) (is_private_path to) (line_free (tree_of before) (command.Mv from to) affords.no_refusal) in
        done_steps capacity number (command.Mv from to) before after sound_before sound_after affords said moves refl reply_is tree keeps_move.forks (values_same (volume_of before) (volume_of after) keeps_move) changes
        (told free.0 free.1 it.0 it.1 ∙ ap (of_moved number) (sym it.1))

    pub move_place : KeepsJournal before after
    move_place = journal_kept before after keeps_move.forks

-- ---- `mv` of a file onto itself

module _ (number : ℕ) (from to : List (List ℕ)) (before : Content) (fine : refuses (tree_of before) (Ok (command.Mv from to)) ≡ false) (changes : List Change)
    (told : is_private_path from ≡ false → is_private_path to ≡ false → (pair : PlainEntry × Place) → to_mv (tree_of before) from to ≡ Ok pair → changes ≡ of_moved number (Ok pair))
  where
    itself_is : (pair : PlainEntry × Place) × ((to_mv (tree_of before) from to ≡ Ok pair) × (changes ≡ of_moved number (Ok pair)))
    itself_is =
        let it = moves_one (tree_of before) from to fine in
        let free = first_free (is_private_path from) (is_private_path to) (line_free (tree_of before) (command.Mv from to) fine) in
        (it.0, (it.1, told free.0 free.1 it.0 it.1))

    same_is : changes_nothing (tree_of before) (command.Mv from to) ≡ is_same_file itself_is.0.0 itself_is.0.1.found
    same_is = ap moves_onto_itself itself_is.1.0

    count_is : (length (if is_same_file itself_is.0.0 itself_is.0.1.found then [] else of_pair number change.Moved (Ok itself_is.0)) == 0) ≡ (length changes == 0)
    count_is = ap (λ (l : List Change). length l == 0) (sym itself_is.1.1)

    -- it is one exactly where watchers are told nothing
    pub quiet_still : (length changes == 0) ≡ true → changes_nothing (tree_of before) (command.Mv from to) ≡ true
    quiet_still none = same_is ∙ by (is_same_file itself_is.0.0 itself_is.0.1.found) (count_is ∙ none)
      where
        by : (b : Bool) → (length (if b then [] else of_pair number change.Moved (Ok itself_is.0)) == 0) ≡ true → b ≡ true
        by true is = refl
        by false is = absurd (true≢false (sym is))

    pub told_moves : (length changes == 0) ≡ false → changes_nothing (tree_of before) (command.Mv from to) ≡ false
    told_moves some = same_is ∙ by (is_same_file itself_is.0.0 itself_is.0.1.found) (count_is ∙ some)
      where
        by : (b : Bool) → (length (if b then [] else of_pair number change.Moved (Ok itself_is.0)) == 0) ≡ false → b ≡ false
        by true is = absurd (true≢false is)
        by false is = refl

    module _ (capacity : ℕ) (sound : IsSound before) (affords : Affords capacity (command.Mv from to) before) (still : changes_nothing (tree_of before) (command.Mv from to) ≡ true) where
      tree_still : tree_of before ≡ (step_line (tree_of before) (Ok (command.Mv from to))).1
      tree_still = sym (
          ap (λ b. (if b then (reply.No refusal.Private, tree_of before) else step (tree_of before) (command.Mv from to)).1) (line_free (tree_of before) (command.Mv from to) fine)
          ∙ ap (λ r. (on (tree_of before) r (λ (pair : PlainEntry × Place). (reply.Ok, moved_over pair.0 pair.1 (tree_of before)))).1) itself_is.1.0
          ∙ ap (λ b. if b then tree_of before else moved itself_is.0.0 itself_is.0.1 (vacated itself_is.0.1.found (tree_of before))) (sym same_is ∙ still)
          )

      -- it is answered with ok, and nothing is done
      pub still_steps : StepsTo (outcome.Answered reply.Ok changes) capacity number (command.Mv from to) before before
      still_steps =
          steps capacity number (command.Mv from to) reply.Ok before before
          (done_as capacity (command.Mv from to) reply.Ok before before sound sound refl (λ rests. refl) refl affords (sym (line_ok (tree_of before) (command.Mv from to) refl fine)) tree_still (keeps_none (volume_of before)).forks (λ id name. refl))
          changes (itself_is.1.1 ∙ ap (of_moved number) (sym itself_is.1.0))
