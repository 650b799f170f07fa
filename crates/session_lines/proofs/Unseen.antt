-- Entries at which users see nothing, one behind the other; and looks.
use Rattle.std.proofs.Common.{◌≡◌, ◌⊎◌, ◌≤◌, ℕ, zero, suc, Bool, true, false, List, [], ◌∷◌, ◌++◌, length, take, inl, inr, refl, sym, ◌∙◌, ap, subst, arith}
use Rattle.std.specs.Prelude.{IsTrue, Option, Some, None, Result, Ok, Err, if◌then◌else◌}
use Rattle.std.specs.Option.{ok_or}
use Rattle.jnl_format.specs.Recovery.{Content}
use Rattle.hfs_language.specs.declared.command.Command.{Command}
use Rattle.hfs_language.specs.declared.command.Command.TheVariants as command
use Rattle.hfs_language.specs.declared.refusal.Refusal.{Refusal}
use Rattle.hfs_language.specs.declared.refusal.Refusal.TheVariants as refusal
use Rattle.hfs_language.specs.declared.reply.Reply.{Reply}
use Rattle.hfs_language.specs.declared.reply.Reply.TheVariants as reply
use Rattle.hfs_model.specs.Step.{only_reads, step_line}
use Rattle.hfs_model.specs.declared.plain.PlainTree.{PlainTree}
use Rattle.hfs_volume.specs.Content.{volume_of}
use Rattle.hfs_volume.specs.TreeOf.{tree_of}
use Rattle.hfs_volume.specs.Weight.{weight, weight_with}
use Rattle.hfs_volume.specs.declared.cost.Cost.{Cost}
use Rattle.hfs_volume.specs.declared.cost.Cost.TheVariants as cost
use Rattle.volume_runs.specs.Run.{Entry, IsAnswered, IsServed, LacksMemory, LacksResource, asked_by, content_after, reply_to, tree_after}
use Rattle.open_files.specs.Keeping.{seen}
use Rattle.open_files.specs.Machine.{tree_by}
use Rattle.open_files.specs.declared.act.OpenFile.{OpenFile}
use Rattle.session_lines.specs.declared.stages.Stage.{Stage}
use Rattle.session_lines.specs.Ahead.{IsQuiet}
use Rattle.session_lines.specs.Following.{Follows, does, skips, stays}
use Rattle.session_lines.specs.Skipping.{IsSkipped}
use Rattle.session_lines.specs.Stages.{command_at, heard_at}
use Rattle.session_lines.specs.Made.{AreMade, SeesAs, look_made, none_made, none_skipped, one_made}
use Rattle.session_lines.proofs.Looks.{look}
use Rattle.session_lines.proofs.Trees.{looked_same, served_tree}
use Rattle.session_lines.proofs.Plains.{served_plainly}

-- ---- one behind the other

pub quiet_none : (tree : PlainTree) → IsQuiet tree [] [] [] tree
unfolding content_after
quiet_none tree = record { made = none_made; leads = λ start same. same; unseen = λ start same count some. ap (λ t. seen t) (none_taken start count ∙ same) }
  where
    none_taken : (start : Content) (count : ℕ) → tree_after start (take count []) ≡ tree_of start
    none_taken start zero = refl
    none_taken start (suc count) = refl

-- what is seen at the first of the entries, and at those behind it
unseen_more : (tree : PlainTree) (entry : Entry) (run : List Entry) → seen (tree_of entry.after) ≡ seen tree
    → ((start : Content) → tree_of start ≡ tree_of entry.after → (count : ℕ) → count ≤ length run → SeesAs start (take count run) (tree_of entry.after))
    → (start : Content) → tree_of start ≡ tree → (count : ℕ) → count ≤ length (entry ∷ run) → SeesAs start (take count (entry ∷ run)) tree
unfolding content_after
unseen_more tree entry run sees later start same zero some = ap (λ t. seen t) same
unseen_more tree entry run sees later start same (suc count) some = later entry.after refl count (omega (arith, some)) ∙ sees

module _ (tree : PlainTree) (entry : Entry) (asked : Command) (run : List Entry) (did : List Command) (replies : List Reply) (to : PlainTree) (asks : asked_by entry ≡ Ok asked) where
  -- a look is made first
  pub quiet_look : IsTrue (only_reads asked) → tree_of entry.after ≡ tree → IsQuiet tree run did replies to → IsQuiet tree (entry ∷ run) did replies to
  unfolding content_after
  quiet_look reads same quiet = record {
    made = look_made entry asked run did replies asks reads quiet.made;
    leads = λ start was. quiet.leads entry.after same;
    unseen = unseen_more tree entry run (ap (λ t. seen t) same)
        (λ start was count some. quiet.unseen start (was ∙ same) count some ∙ ap (λ t. seen t) (sym same));
  }

  -- or a command of which users see nothing
  pub quiet_command : seen (tree_of entry.after) ≡ seen tree → IsQuiet (tree_of entry.after) run did replies to → IsQuiet tree (entry ∷ run) (asked ∷ did) (entry.reply ∷ replies) to
  unfolding content_after
  quiet_command sees quiet = record {
    made = one_made entry asked run did replies asks quiet.made;
    leads = λ start was. quiet.leads entry.after refl;
    unseen = unseen_more tree entry run sees (λ start was count some. quiet.unseen start was count some);
  }

-- or one that isn't done at all
pub quiet_skip : (tree : PlainTree) (why : Refusal) (asked : Command) (run : List Entry) (did : List Command) (replies : List Reply) (to : PlainTree) → IsSkipped why → IsQuiet tree run did replies to → IsQuiet tree run (asked ∷ did) (reply.No why ∷ replies) to
quiet_skip tree why asked run did replies to skipped quiet = record { made = none_skipped why asked run did replies skipped quiet.made; leads = quiet.leads; unseen = quiet.unseen }

-- ---- a look

module _ (capacity : ℕ) (entry : Entry) (own : Command) (asks : asked_by entry ≡ Ok own) (served : IsServed capacity entry)
    (free : (why : Refusal) → weight capacity (volume_of entry.before) (tree_of entry.before) own ≡ cost.Refused why → ⊥)
  where
    abbrev command_or : Command → Result Command Refusal → Command
    command_or other (Ok asked) = asked
    command_or other (Err why) = other

    -- a command for which nothing but memory is ever missing is told its step's reply, or that memory is missing
    pub free_told : (entry.reply ≡ reply_to capacity entry.before (Ok own)) ⊎ (entry.reply ≡ reply.No refusal.OutOfMemory)
    free_told = by (served_plainly capacity entry own asks served)
      where
        by : IsAnswered capacity entry ⊎ (LacksResource capacity entry ⊎ LacksMemory capacity entry) → (entry.reply ≡ reply_to capacity entry.before (Ok own)) ⊎ (entry.reply ≡ reply.No refusal.OutOfMemory)
        by (inl answered) = inl (subst (λ (a : Result Command Refusal). entry.reply ≡ reply_to capacity entry.before a) asks answered.reply_is)
        by (inr (inl lacks)) =
            let same : lacks.asked ≡ own = ap (command_or lacks.asked) (sym lacks.is_asked ∙ asks) in
            absurd (free lacks.why (subst (λ (a : Command). weight capacity (volume_of entry.before) (tree_of entry.before) a ≡ cost.Refused lacks.why) same lacks.weighs))
        by (inr (inr lacks)) = inr lacks.reply_is

module _ (capacity : ℕ) (entry : Entry) (path : List (List ℕ)) where
  look_free : (why : Refusal) → weight capacity (volume_of entry.before) (tree_of entry.before) (command.Stat path) ≡ cost.Refused why → ⊥
  unfolding weight_with
  look_free why is = cc is

  list_free : (why : Refusal) → weight capacity (volume_of entry.before) (tree_of entry.before) (command.Ls path) ≡ cost.Refused why → ⊥
  unfolding weight_with
  list_free why is = cc is

  -- a listing is told what stands there, or that memory is missing
  pub list_told : asked_by entry ≡ Ok (command.Ls path) → IsServed capacity entry → (entry.reply ≡ (step_line (tree_of entry.before) (Ok (command.Ls path))).0) ⊎ (entry.reply ≡ reply.No refusal.OutOfMemory)
  list_told asks served = free_told capacity entry (command.Ls path) asks served list_free

module _ (capacity : ℕ) (entry : Entry) (path : List (List ℕ)) (asks : asked_by entry ≡ Ok (command.Stat path)) (served : IsServed capacity entry) where
  -- it is told what stands there, or that memory is missing
  pub look_told : (entry.reply ≡ look (tree_of entry.before) path) ⊎ (entry.reply ≡ reply.No refusal.OutOfMemory)
  look_told = free_told capacity entry (command.Stat path) asks served (look_free capacity entry path)

  pub look_same : tree_of entry.after ≡ tree_of entry.before
  look_same = ap (λ (c : Content). tree_of c) (looked_same capacity entry (command.Stat path) asks refl served)

-- ---- a stage that looks at a path

-- The look was told what stands there, or it isn't done, or memory is missing; and from there the entries lead on.
pub record Looked (handles : List OpenFile) (tree : PlainTree) (stage : Stage) (path : List (List ℕ)) (run : List Entry) (to : Stage) : Type 0 where
  pub said : Reply
  pub rest : List Entry
  pub says : (said ≡ look tree path) ⊎ ((why : Refusal) × IsSkipped why × (said ≡ reply.No why))
  pub follows : Follows handles tree (heard_at handles stage said) rest to
  pub quiet : (did : List Command) (replies : List Reply) (last : PlainTree) → IsQuiet tree rest did replies last → IsQuiet tree run did replies last

abbrev asked_or : Command → Option Command → Command
asked_or other None = other
asked_or other (Some asked) = asked

pub looked_at : (handles : List OpenFile) (tree : PlainTree) (stage : Stage) (path : List (List ℕ)) (run : List Entry) (to : Stage) → command_at stage ≡ Some (command.Stat path) → command_at to ≡ None → Follows handles tree stage run to → Looked handles tree stage path run to
looked_at handles tree stage path [] to at ends (stays _ _) = absurd (cc (sym at ∙ ends))
looked_at handles tree stage path (entry ∷ run) to at ends (does _ _ _ _ _ capacity asked is asks before served rest) =
    let same : asked ≡ command.Stat path = ap (asked_or asked) (sym is ∙ at) in
    let look_asks : asked_by entry ≡ Ok (command.Stat path) = asks ∙ ap (λ (a : Command). Ok a) same in
    let after : tree_of entry.after ≡ tree = look_same capacity entry path look_asks served ∙ before in
    record {
      said = entry.reply;
      rest = run;
      says = told (look_told capacity entry path look_asks served);
      follows = subst (λ (t : PlainTree). Follows handles t (heard_at handles stage entry.reply) run to) after rest;
      quiet = λ did replies last quiet. quiet_look tree entry (command.Stat path) run did replies last look_asks refl after quiet;
    }
  where
    told : (entry.reply ≡ look (tree_of entry.before) path) ⊎ (entry.reply ≡ reply.No refusal.OutOfMemory) → (entry.reply ≡ look tree path) ⊎ ((why : Refusal) × IsSkipped why × (entry.reply ≡ reply.No why))
    told (inl is) = inl (is ∙ ap (λ (t : PlainTree). look t path) before)
    told (inr short) = inr (refusal.OutOfMemory, refl, short)
looked_at handles tree stage path run to at ends (skips _ _ _ _ asked why is skipped rest) =
    record { said = reply.No why; rest = run; says = inr (why, skipped, refl); follows = rest; quiet = λ did replies last quiet. quiet }
