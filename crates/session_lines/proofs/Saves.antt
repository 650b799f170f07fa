-- The stages of a line that takes a name away: what they come to is what the machine does ahead of the line's own command.
use Rattle.std.proofs.Common.{◌≡◌, ◌⊎◌, ◌≤◌, ℕ, zero, suc, Bool, true, false, List, [], ◌∷◌, ◌++◌, length, take, inl, inr, refl, sym, ◌∙◌, ap, subst, arith, ⊎_elim}
use Rattle.std.specs.Prelude.{Contains, ◌==◌, ◌&&◌, ◌||◌, not, is_some, Option, Some, None, Result, Ok, Err, if◌then◌else◌}
use Rattle.std.specs.Option.{ok_or}
use Rattle.std.proofs.lemmas.Bool.{eqb-true, true≢false}
use Rattle.hfs_language.specs.declared.command.Command.{Command}
use Rattle.hfs_language.specs.declared.command.Command.TheVariants as command
use Rattle.hfs_language.specs.declared.refusal.Refusal.{Refusal}
use Rattle.hfs_language.specs.declared.refusal.Refusal.TheVariants as refusal
use Rattle.hfs_language.specs.declared.reply.Facts.{Facts}
use Rattle.hfs_language.specs.declared.reply.Reply.{Reply}
use Rattle.hfs_language.specs.declared.reply.Reply.TheVariants as reply
use Rattle.hfs_model.specs.Plain.{entry_at, is_at, is_node, names_of, node_at}
use Rattle.hfs_model.specs.Step.{child, facts_of, is_private_path, is_refusal, on, reached, refuses, removed, root_entry, step, step_line, then_, to_node, unless, walk}
use Rattle.hfs_model.specs.declared.plain.PlainEntry.{PlainEntry}
use Rattle.hfs_model.specs.declared.plain.PlainNode.{PlainNode}
use Rattle.hfs_model.specs.declared.plain.PlainTree.{PlainTree}
use Rattle.hfs_volume.specs.TreeOf.{tree_of}
use Rattle.hfs_volume.proofs.Flat.{found_some}
use Rattle.hfs_volume.proofs.Members.{at_front}
use Rattle.hfs_volume.proofs.Reaching.{found_ok, if_ok, ok_same, then_ok}
use Rattle.volume_runs.specs.Run.{Entry, IsServed, asked_by, content_after, tree_after}
use Rattle.open_files.specs.Handles.{is_held}
use Rattle.open_files.specs.Keeping.{is_kept, keeping_entry, keeping_path, kept_path, saves, saves_by, seen, seen_names}
use Rattle.open_files.specs.Machine.{Machine, Taken, saves_for, saves_taken, taken_by, taken_entry, tree_by}
use Rattle.open_files.specs.declared.act.OpenFile.{OpenFile}
use Rattle.open_files.proofs.Releasing.{and_false}
use Rattle.open_files.proofs.Saving.{Keeps}
use Rattle.session_lines.specs.declared.stages.Stage.{Stage}
use Rattle.session_lines.specs.declared.stages.Stage.TheVariants as stage
use Rattle.session_lines.specs.Ahead.{Ahead, AreDone, IsQuiet, NotLooked, all_done, one_refused, trees_by}
use Rattle.session_lines.specs.Following.{Follows, does, skips, stays}
use Rattle.session_lines.specs.Owning.{IsOwnTree}
use Rattle.session_lines.specs.Skipping.{IsSkipped}
use Rattle.session_lines.specs.Stages.{command_at, heard_at, is_skip, unless_refused}
use Rattle.session_lines.proofs.Keeping.{folder_kind, keeps, link_unseen, made_keeps, make_done, make_unseen, new_folder}
use Rattle.session_lines.proofs.Looks.{absent_told, kept_told, look, look_is, names_seen, none_there, not_kept_told, there_told}
use Rattle.session_lines.proofs.Unseen.{Looked, looked_at, quiet_command, quiet_none, quiet_skip}
use Rattle.session_lines.proofs.Trees.{served_tree}

-- a stage that asks for nothing is the last one
pub ended : (handles : List OpenFile) (tree : PlainTree) (from : Stage) (run : List Entry) (to : Stage) → command_at from ≡ None → Follows handles tree from run to → (run ≡ []) × (to ≡ from)
ended handles tree from [] to none (stays _ _) = (refl, refl)
ended handles tree from (entry ∷ run) to none (does _ _ _ _ _ capacity asked is asks before served rest) = absurd (cc (sym is ∙ none))
ended handles tree from run to none (skips _ _ _ _ asked why is skipped rest) = absurd (cc (sym is ∙ none))

pub skip_is : (why : Refusal) → IsSkipped why → is_skip why ≡ true
skip_is why short = ap is_skip short

-- ---- a command of Save

-- with one more in front, which was done
ahead_more : (tree : PlainTree) (entry : Entry) (run : List Entry) (first : Command) (asked : List Command) (to : Stage) → asked_by entry ≡ Ok first → is_refusal entry.reply ≡ false → tree_of entry.after ≡ tree_by tree first entry.reply
    → seen (tree_of entry.after) ≡ seen tree → Ahead (tree_of entry.after) run asked to → Ahead tree (entry ∷ run) (first ∷ asked) to
ahead_more tree entry run first asked to asks done leads sees (all_done _ replies are quiet) =
    all_done (first ∷ asked) (entry.reply ∷ replies) (done, are)
    (subst (λ (t : PlainTree). IsQuiet tree (entry ∷ run) (first ∷ asked) (entry.reply ∷ replies) (trees_by t asked replies)) leads
    (quiet_command tree entry first run asked replies (trees_by (tree_of entry.after) asked replies) asks sees quiet))
ahead_more tree entry run first _ to asks done leads sees (one_refused asked rest replies last why are quiet) =
    one_refused (first ∷ asked) rest (entry.reply ∷ replies) last why (done, are)
    (subst (λ (t : PlainTree). IsQuiet tree (entry ∷ run) (first ∷ asked ++ last ∷ []) (entry.reply ∷ replies ++ reply.No why ∷ []) (trees_by t asked replies)) leads
    (quiet_command tree entry first run (asked ++ last ∷ []) (replies ++ reply.No why ∷ []) (trees_by (tree_of entry.after) asked replies) asks sees quiet))

abbrev asked_or : Command → Option Command → Command
asked_or other None = other
asked_or other (Some asked) = asked

-- a reply that is a refusal
refused_is : (said : Reply) → is_refusal said ≡ true → (why : Refusal) × (said ≡ reply.No why)
refused_is (reply.No why) is = (why, refl)
refused_is reply.Ok is = absurd (cc is)
refused_is (reply.Listing names) is = absurd (cc is)
refused_is (reply.Facts facts) is = absurd (cc is)
refused_is (reply.Content bytes) is = absurd (cc is)
refused_is (reply.Gauge gauge) is = absurd (cc is)

goes_on : (next : Stage) (said : Reply) → is_refusal said ≡ false → unless_refused next said ≡ next
goes_on next (reply.No why) is = absurd (cc is)
goes_on next reply.Ok is = refl
goes_on next (reply.Listing names) is = refl
goes_on next (reply.Facts facts) is = refl
goes_on next (reply.Content bytes) is = refl
goes_on next (reply.Gauge gauge) is = refl

module _ (handles : List OpenFile) (tree : PlainTree) (here next : Stage) (first : Command) (asked : List Command) (asks : command_at here ≡ Some first) (hears : (said : Reply) → heard_at handles here said ≡ unless_refused next said)
    (unseen : seen (step_line tree (Ok first)).1 ≡ seen tree)
  where
    -- a stage that does it; behind it the others come to what they come to, unless a look comes first
    pub saves_on : (run : List Entry) (to : Stage) → command_at to ≡ None → Follows handles tree here run to
        → ((entry : Entry) (rest : List Entry) → tree_of entry.after ≡ (step_line tree (Ok first)).1 → Follows handles (tree_of entry.after) next rest to → Ahead (tree_of entry.after) rest asked to)
        → Ahead tree run (first ∷ asked) to
    saves_on [] to ends (stays _ _) behind = absurd (cc (sym asks ∙ ends))
    saves_on run to ends (skips _ _ _ _ one why is skipped rest) behind =
        let last = ended handles tree (stage.Says (reply.No why)) run to refl (subst (λ (s : Stage). Follows handles tree s run to) (hears (reply.No why)) rest) in
        subst (λ (s : Stage). Ahead tree run (first ∷ asked) s) (sym last.1)
        (subst (λ (r : List Entry). Ahead tree r (first ∷ asked) (stage.Says (reply.No why))) (sym last.0)
        (one_refused [] asked [] first why tt (quiet_skip tree why first [] [] [] tree skipped (quiet_none tree))))
    saves_on (entry ∷ run) to ends (does _ _ _ _ _ capacity one is one_asks before served rest) behind = by (is_refusal entry.reply) refl
      where
        its : asked_by entry ≡ Ok first
        its = one_asks ∙ ap (λ (a : Command). Ok a) (ap (asked_or one) (sym is ∙ asks))

        leads : tree_of entry.after ≡ tree_by tree first entry.reply
        leads = served_tree capacity entry first its served ∙ ap (λ (t : PlainTree). tree_by t first entry.reply) before

        by : (b : Bool) → is_refusal entry.reply ≡ b → Ahead tree (entry ∷ run) (first ∷ asked) to
        by true refused =
            let why = refused_is entry.reply refused in
            let last = ended handles (tree_of entry.after) (stage.Says (reply.No why.0)) run to refl (subst (λ (s : Stage). Follows handles (tree_of entry.after) s run to) (hears entry.reply ∙ ap (unless_refused next) why.1) rest) in
            let same : tree_of entry.after ≡ tree = leads ∙ ap (λ b. if b then tree else (step_line tree (Ok first)).1) refused in
            let quiet : IsQuiet tree (entry ∷ []) (first ∷ []) (entry.reply ∷ []) tree = quiet_command tree entry first [] [] [] tree its (ap (λ t. seen t) same) (subst (λ (t : PlainTree). IsQuiet (tree_of entry.after) [] [] [] t) same (quiet_none (tree_of entry.after))) in
            subst (λ (s : Stage). Ahead tree (entry ∷ run) (first ∷ asked) s) (sym last.1)
            (subst (λ (r : List Entry). Ahead tree (entry ∷ r) (first ∷ asked) (stage.Says (reply.No why.0))) (sym last.0)
            (one_refused [] asked [] first why.0 tt (subst (λ (r : Reply). IsQuiet tree (entry ∷ []) (first ∷ []) (r ∷ []) tree) why.1 quiet)))
        by false done =
            let same : tree_of entry.after ≡ (step_line tree (Ok first)).1 = leads ∙ ap (λ b. if b then tree else (step_line tree (Ok first)).1) done in
            ahead_more tree entry run first asked to its done leads (ap (λ t. seen t) same ∙ unseen) (behind entry run same (subst (λ (s : Stage). Follows handles (tree_of entry.after) s run to) (hears entry.reply ∙ goes_on next entry.reply done) rest))

-- ---- behind a look

ahead_quiet : (tree : PlainTree) (run rest : List Entry) → ((did : List Command) (replies : List Reply) (last : PlainTree) → IsQuiet tree rest did replies last → IsQuiet tree run did replies last)
    → (asked : List Command) (to : Stage) → Ahead tree rest asked to → Ahead tree run asked to
ahead_quiet tree run rest quiet asked to (all_done _ replies are its) = all_done asked replies are (quiet asked replies (trees_by tree asked replies) its)
ahead_quiet tree run rest quiet _ to (one_refused asked others replies last why are its) = one_refused asked others replies last why are (quiet (asked ++ last ∷ []) (replies ++ reply.No why ∷ []) (trees_by tree asked replies) its)

module _ (handles : List OpenFile) (tree : PlainTree) (here : Stage) (path : List (List ℕ)) (run : List Entry) (to : Stage) (looked : Looked handles tree here path run to) where
  pub ahead_looked : (asked : List Command) → Ahead tree looked.rest asked to → Ahead tree run asked to
  ahead_looked asked ahead = ahead_quiet tree run looked.rest looked.quiet asked to ahead

  pub later_looked : NotLooked tree looked.rest to → NotLooked tree run to
  later_looked later = record { why = later.why; skipped = later.skipped; says = later.says; quiet = looked.quiet [] [] tree later.quiet }

  pub not_looked : (why : Refusal) → IsSkipped why → looked.said ≡ reply.No why → heard_at handles here (reply.No why) ≡ stage.Says (reply.No why) → NotLooked tree run to
  not_looked why skipped said hears =
      let last = ended handles tree (stage.Says (reply.No why)) looked.rest to refl (subst (λ (s : Stage). Follows handles tree s looked.rest to) (ap (heard_at handles here) said ∙ hears) looked.follows) in
      record {
        why = why;
        skipped = skipped;
        says = last.1;
        quiet = looked.quiet [] [] tree (subst (λ (r : List Entry). IsQuiet tree r [] [] tree) (sym last.0) (quiet_none tree));
      }

  -- nothing is to be done ahead
  pub nothing_ahead : heard_at handles here looked.said ≡ stage.Does → Ahead tree run [] to
  nothing_ahead hears =
      let last = ended handles tree stage.Does looked.rest to refl (subst (λ (s : Stage). Follows handles tree s looked.rest to) hears looked.follows) in
      subst (λ (s : Stage). Ahead tree run [] s) (sym last.1) (all_done [] [] tt (looked.quiet [] [] tree (subst (λ (r : List Entry). IsQuiet tree r [] [] tree) (sym last.0) (quiet_none tree))))

-- ---- the stages of Save

module _ (handles : List OpenFile) (path : List (List ℕ)) (id : ℕ) where
  -- the file gets a name in the keeping folder
  pub linking : (tree : PlainTree) (folder : PlainEntry) → Keeps tree folder → (run : List Entry) (to : Stage) → command_at to ≡ None → Follows handles tree (stage.Linking path id) run to → Ahead tree run (command.Ln path (kept_path id) ∷ []) to
  linking tree folder keeps_it run to ends follows =
      saves_on handles tree (stage.Linking path id) stage.Does (command.Ln path (kept_path id)) [] refl (λ said. refl) (link_unseen tree path id folder keeps_it) run to ends follows
      (λ entry rest same later.
      let last = ended handles (tree_of entry.after) stage.Does rest to refl later in
      subst (λ (s : Stage). Ahead (tree_of entry.after) rest [] s) (sym last.1) (subst (λ (r : List Entry). Ahead (tree_of entry.after) r [] stage.Does) (sym last.0) (all_done [] [] tt (quiet_none (tree_of entry.after)))))

  -- the folder is made first
  pub making : (tree : PlainTree) → IsOwnTree tree → keeping_entry tree ≡ None → (run : List Entry) (to : Stage) → command_at to ≡ None → Follows handles tree (stage.Making path id) run to
      → Ahead tree run (command.Mkdir keeping_path ∷ command.Ln path (kept_path id) ∷ []) to
  making tree is absent run to ends follows =
      saves_on handles tree (stage.Making path id) (stage.Linking path id) (command.Mkdir keeping_path) (command.Ln path (kept_path id) ∷ []) refl (λ said. refl) (make_unseen tree is absent) run to ends follows
      (λ entry rest same later.
      linking (tree_of entry.after) (new_folder tree is absent) (subst (λ (t : PlainTree). Keeps t (new_folder tree is absent)) (sym (same ∙ ap (λ s. s.1) (make_done tree is absent))) (made_keeps tree is absent)) rest to ends later)

  -- by whether the folder is there
  pub saving : (tree : PlainTree) → IsOwnTree tree → is_kept tree id ≡ false → (run : List Entry) (to : Stage) → command_at to ≡ None → Follows handles tree (stage.Saving path id) run to → Ahead tree run (saves tree path id) to ⊎ NotLooked tree run to
  saving tree is not_kept run to ends follows = by (looked_at handles tree (stage.Saving path id) keeping_path run to refl ends follows)
    where
      by : Looked handles tree (stage.Saving path id) keeping_path run to → Ahead tree run (saves tree path id) to ⊎ NotLooked tree run to
      by looked = told looked.says
        where
          these : (there : Bool) → is_some (keeping_entry tree) ≡ there → saves tree path id ≡ saves_by there false path id
          these there is_there = (λ i. saves_by (is_there i) (not_kept i) path id)

          told : (looked.said ≡ look tree keeping_path) ⊎ ((why : Refusal) × IsSkipped why × (looked.said ≡ reply.No why)) → Ahead tree run (saves tree path id) to ⊎ NotLooked tree run to
          told (inr skip) = inr (not_looked handles tree (stage.Saving path id) keeping_path run to looked skip.0 skip.1 skip.2 (ap (λ b. if b then stage.Says (reply.No skip.0) else stage.Making path id) (skip_is skip.0 skip.1)))
          told (inl same) = there (keeping_entry tree) refl
            where
              there : (o : Option PlainEntry) → keeping_entry tree ≡ o → Ahead tree run (saves tree path id) to ⊎ NotLooked tree run to
              there (Some folder) found =
                  let facts = there_told tree is folder found in
                  let next : Follows handles tree (stage.Linking path id) looked.rest to = subst (λ (r : Reply). Follows handles tree (heard_at handles (stage.Saving path id) r) looked.rest to) (same ∙ facts.1) looked.follows in
                  inl (subst (λ (l : List Command). Ahead tree run l to) (sym (these true (ap is_some found)))
                  (ahead_looked handles tree (stage.Saving path id) keeping_path run to looked (command.Ln path (kept_path id) ∷ []) (linking tree folder (keeps tree is folder found) looked.rest to ends next)))
              there None absent =
                  let next : Follows handles tree (stage.Making path id) looked.rest to = subst (λ (r : Reply). Follows handles tree (heard_at handles (stage.Saving path id) r) looked.rest to) (same ∙ absent_told tree is absent) looked.follows in
                  inl (subst (λ (l : List Command). Ahead tree run l to) (sym (these false (ap is_some absent)))
                  (ahead_looked handles tree (stage.Saving path id) keeping_path run to looked (command.Mkdir keeping_path ∷ command.Ln path (kept_path id) ∷ []) (making tree is absent looked.rest to ends next)))

-- ---- a name of a file that is open

pub if_same : {X : Type 0} (b : Bool) (x : X) → (if b then x else x) ≡ x
if_same true x = refl
if_same false x = refl

module _ (handles : List OpenFile) (tree : PlainTree) (is : IsOwnTree tree) (path : List (List ℕ)) (node : PlainNode) (here : node_at tree node.id ≡ Some node) (kind : node.folder ≡ false) where
  abbrev wanted : Bool → List Command
  wanted last = if last then saves tree path node.id else []

  links_are : (facts_of tree node).links ≡ names_of tree node.id
  links_are = ap (λ b. if b then 0 else names_of tree node.id) kind

  -- what is kept is saved already
  kept_saves : is_kept tree node.id ≡ true → saves tree path node.id ≡ []
  kept_saves kept_is = by (keeping_entry tree) refl
    where
      by : (o : Option PlainEntry) → keeping_entry tree ≡ o → saves tree path node.id ≡ []
      by None none = absurd (true≢false (sym kept_is ∙ none_there tree is node.id none))
      by (Some folder) found = λ i. saves_by (is_some (found i)) (kept_is i) path node.id

  pub losing : (run : List Entry) (to : Stage) → command_at to ≡ None → Follows handles tree (stage.Losing path (facts_of tree node)) run to → Ahead tree run (wanted (seen_names tree node.id == 1)) to ⊎ NotLooked tree run to
  losing run to ends follows = by (looked_at handles tree (stage.Losing path (facts_of tree node)) (kept_path node.id) run to refl ends follows)
    where
      by : Looked handles tree (stage.Losing path (facts_of tree node)) (kept_path node.id) run to → Ahead tree run (wanted (seen_names tree node.id == 1)) to ⊎ NotLooked tree run to
      by looked = told looked.says
        where
          hears : Reply → Stage
          hears said = heard_at handles (stage.Losing path (facts_of tree node)) said

          lonely : (b : Bool) → (seen_names tree node.id == 1) ≡ b → is_kept tree node.id ≡ false → looked.said ≡ reply.No refusal.NotFound → Ahead tree run (wanted b) to ⊎ NotLooked tree run to
          lonely true one not_kept said =
              let links : ((facts_of tree node).links == 1) ≡ true = ap (λ n. n == 1) (links_are ∙ sym (names_seen tree is node.id node here kind not_kept)) ∙ one in
              let next : Follows handles tree (stage.Saving path node.id) looked.rest to =
              subst (λ (s : Stage). Follows handles tree s looked.rest to) (ap hears said ∙ ap (λ b. if b then stage.Saving path node.id else stage.Does) links) looked.follows in
              ⊎_elim (λ ahead. inl (ahead_looked handles tree (stage.Losing path (facts_of tree node)) (kept_path node.id) run to looked (saves tree path node.id) ahead))
              (λ not. inr (later_looked handles tree (stage.Losing path (facts_of tree node)) (kept_path node.id) run to looked not)) (saving handles path node.id tree is not_kept looked.rest to ends next)
          lonely false others not_kept said =
              let links : ((facts_of tree node).links == 1) ≡ false = ap (λ n. n == 1) (links_are ∙ sym (names_seen tree is node.id node here kind not_kept)) ∙ others in
              inl (nothing_ahead handles tree (stage.Losing path (facts_of tree node)) (kept_path node.id) run to looked (ap hears said ∙ ap (λ b. if b then stage.Saving path node.id else stage.Does) links))

          looked_up : (b : Bool) → is_kept tree node.id ≡ b → looked.said ≡ look tree (kept_path node.id) → Ahead tree run (wanted (seen_names tree node.id == 1)) to ⊎ NotLooked tree run to
          looked_up true kept_is same =
              let none : wanted (seen_names tree node.id == 1) ≡ [] = ap (λ (l : List Command). if (seen_names tree node.id == 1) then l else []) (kept_saves kept_is) ∙ if_same (seen_names tree node.id == 1) [] in
              let facts = kept_told tree is node.id kept_is in
              inl (subst (λ (l : List Command). Ahead tree run l to) (sym none)
              (nothing_ahead handles tree (stage.Losing path (facts_of tree node)) (kept_path node.id) run to looked (ap hears (same ∙ facts.1))))
          looked_up false not_kept same = lonely (seen_names tree node.id == 1) refl not_kept (same ∙ not_kept_told tree is node.id not_kept)

          told : (looked.said ≡ look tree (kept_path node.id)) ⊎ ((why : Refusal) × IsSkipped why × (looked.said ≡ reply.No why)) → Ahead tree run (wanted (seen_names tree node.id == 1)) to ⊎ NotLooked tree run to
          told (inr skip) =
              inr (not_looked handles tree (stage.Losing path (facts_of tree node)) (kept_path node.id) run to looked skip.0 skip.1 skip.2
              (ap (λ b. if b then stage.Says (reply.No skip.0) else (if (facts_of tree node).links == 1 then stage.Saving path node.id else stage.Does)) (skip_is skip.0 skip.1)))
          told (inl same) = looked_up (is_kept tree node.id) refl same

-- ---- `rm`

module _ (machine : Machine) (is : IsOwnTree machine.tree) (path : List (List ℕ)) where
  abbrev tree : PlainTree
  tree = machine.tree

  walk_there : (path : List (List ℕ)) (from at : PlainEntry) → walk tree from path ≡ Ok at → (at ≡ from) ⊎ Contains tree.entries at
  walk_there [] from at same = inl (sym (ok_same from at same))
  walk_there (name ∷ path) from at same =
      let first = then_ok (child tree from name) (λ next. walk tree next path) at same in
      ⊎_elim
      (λ (it : at ≡ first.0). inr (subst (λ (e : PlainEntry). Contains tree.entries e) (sym it)
      (found_some (is_at from.id name) tree.entries first.0 (found_ok (entry_at tree from.id name) refusal.NotFound first.0 (if_ok from.folder (ok_or (entry_at tree from.id name) refusal.NotFound) refusal.NotFolder first.0 first.1).1)).0))
      (λ there. inr there) (walk_there path first.0 at first.2)

  pub walk_fails : (path : List (List ℕ)) (from : PlainEntry) (why : Refusal) → walk tree from path ≡ Err why → is_skip why ≡ false
  walk_fails [] from why is = absurd (cc is)
  walk_fails (name ∷ path) from why is = by from.folder (entry_at tree from.id name) (λ next fails. walk_fails path next why fails) is
    where
      err_or : Refusal → Result PlainEntry Refusal → Refusal
      err_or other (Ok entry) = other
      err_or other (Err it) = it

      skips_not : (other : Refusal) → is_skip other ≡ false → ◌≡◌ {A = Result PlainEntry Refusal} (Err other) (Err why) → is_skip why ≡ false
      skips_not other isnt same = ap (λ (r : Result PlainEntry Refusal). is_skip (err_or why r)) (sym same) ∙ isnt

      by : (b : Bool) (o : Option PlainEntry) → ((next : PlainEntry) → walk tree next path ≡ Err why → is_skip why ≡ false) → then_ (if b then ok_or o refusal.NotFound else Err refusal.NotFolder) (λ next. walk tree next path) ≡ Err why → is_skip why ≡ false
      by true (Some next) later is = later next is
      by true None later is = skips_not refusal.NotFound refl is
      by false o later is = skips_not refusal.NotFolder refl is

  -- what a path reaches has its folder or file
  pub node_of : (at : PlainEntry) → reached tree path ≡ Ok at → (node : PlainNode) × (node_at tree at.id ≡ Some node) × (node.folder ≡ at.folder)
  node_of at found = ⊎_elim
      (λ (same : at ≡ root_entry). let root = is.plain.root in (root.0, ap (λ (e : PlainEntry). node_at tree e.id) same ∙ root.1, root.2 ∙ sym (ap (λ (e : PlainEntry). e.folder) same)))
      (λ there. (is.plain.named at there).named) (walk_there path root_entry at found)

  abbrev looks : Stage
  looks = stage.Taking path

  none_wanted : taken_by tree (command.Rm path) ≡ None → saves_for machine (command.Rm path) ≡ []
  none_wanted none = ap (λ (o : Option Taken). if refuses tree (Ok (command.Rm path)) then [] else saves_taken machine o) none ∙ if_same (refuses tree (Ok (command.Rm path))) []

  abbrev taken_here : PlainEntry → Taken
  taken_here at = record { path = path; id = at.id }

  -- a file that it reaches is what `rm` takes a name of
  taken_is : (at : PlainEntry) → reached tree path ≡ Ok at → taken_by tree (command.Rm path) ≡ (if at.folder then None else Some (taken_here at))
  taken_is at found = ap (taken_entry path) found

  not_refused : (at : PlainEntry) → is_private_path path ≡ false → reached tree path ≡ Ok at → at.folder ≡ false → refuses tree (Ok (command.Rm path)) ≡ false
  not_refused at own found kind =
      ap (λ b. is_refusal (if b || false then (reply.No refusal.Private, tree) else step tree (command.Rm path)).0) own ∙ by path found
    where
      by : (p : List (List ℕ)) → reached tree p ≡ Ok at → is_refusal (step tree (command.Rm p)).0 ≡ false
      by [] same = absurd (true≢false (ap (λ (e : PlainEntry). e.folder) (ok_same root_entry at same) ∙ kind))
      by (name ∷ p) same =
          ap (λ (r : Result PlainEntry Refusal). is_refusal (on tree (then_ r (λ at. unless at.folder refusal.IsFolder at)) (λ at. (reply.Ok, removed at tree))).0) same
          ∙ ap (λ b. is_refusal (on tree (if b then Err refusal.IsFolder else Ok at) (λ at. (reply.Ok, removed at tree))).0) kind

  pub and_true : (b : Bool) → (b && true) ≡ b
  and_true true = refl
  and_true false = refl

  wanted_is : (at : PlainEntry) → is_private_path path ≡ false → reached tree path ≡ Ok at → at.folder ≡ false → (held : Bool) → is_held machine.handles at.id ≡ held
      → saves_for machine (command.Rm path) ≡ (if (seen_names tree at.id == 1) && held then saves tree path at.id else [])
  wanted_is at own found kind held is_held_is =
      ap (λ b. if b then [] else saves_taken machine (taken_by tree (command.Rm path))) (not_refused at own found kind) ∙ ap (saves_taken machine) (taken_is at found ∙ ap (λ b. if b then None else Some (taken_here at)) kind)
      ∙ ap (λ b. if (seen_names tree at.id == 1) && b then saves tree path at.id else []) is_held_is

  -- What the looks at a name that `rm` takes come to is what the machine does ahead of it.
  pub taking : (run : List Entry) (to : Stage) → command_at to ≡ None → Follows machine.handles tree (stage.Taking path) run to → Ahead tree run (saves_for machine (command.Rm path)) to ⊎ NotLooked tree run to
  taking run to ends follows = by (looked_at machine.handles tree (stage.Taking path) path run to refl ends follows)
    where
      by : Looked machine.handles tree (stage.Taking path) path run to → Ahead tree run (saves_for machine (command.Rm path)) to ⊎ NotLooked tree run to
      by looked = told looked.says
        where
          hears : Reply → Stage
          hears said = heard_at machine.handles (stage.Taking path) said

          nothing : saves_for machine (command.Rm path) ≡ [] → hears looked.said ≡ stage.Does → Ahead tree run (saves_for machine (command.Rm path)) to ⊎ NotLooked tree run to
          nothing none does_it = inl (subst (λ (l : List Command). Ahead tree run l to) (sym none) (nothing_ahead machine.handles tree (stage.Taking path) path run to looked does_it))

          file : (at : PlainEntry) (node : PlainNode) → is_private_path path ≡ false → reached tree path ≡ Ok at → node_at tree at.id ≡ Some node → node.folder ≡ at.folder → at.folder ≡ false → looked.said ≡ reply.Facts (facts_of tree node) → (held : Bool)
              → is_held machine.handles at.id ≡ held → Ahead tree run (saves_for machine (command.Rm path)) to ⊎ NotLooked tree run to
          file at node own found here kinds kind said false held =
              let number : node.id ≡ at.id = eqb-true node.id at.id (found_some (is_node at.id) tree.nodes node here).1 in
              nothing (wanted_is at own found kind false held ∙ ap (λ b. if b then saves tree path at.id else []) (and_false (seen_names tree at.id == 1)))
              (ap hears said ∙ (λ i. if not ((kinds ∙ kind) i) && is_held machine.handles (number i) then stage.Losing path (facts_of tree node) else stage.Does) ∙ ap (λ b. if b then stage.Losing path (facts_of tree node) else stage.Does) held)
          file at node own found here kinds kind said true held =
              let number : node.id ≡ at.id = eqb-true node.id at.id (found_some (is_node at.id) tree.nodes node here).1 in
              let next : Follows machine.handles tree (stage.Losing path (facts_of tree node)) looked.rest to =
              subst (λ (s : Stage). Follows machine.handles tree s looked.rest to)
              (ap hears said ∙ (λ i. if not ((kinds ∙ kind) i) && is_held machine.handles (number i) then stage.Losing path (facts_of tree node) else stage.Does) ∙ ap (λ b. if b then stage.Losing path (facts_of tree node) else stage.Does) held) looked.follows in
              let want : (if (seen_names tree node.id == 1) then saves tree path node.id else []) ≡ saves_for machine (command.Rm path) =
              (λ i. if (seen_names tree (number i) == 1) then saves tree path (number i) else []) ∙ ap (λ b. if b then saves tree path at.id else []) (sym (and_true (seen_names tree at.id == 1))) ∙ sym (wanted_is at own found kind true held) in
              ⊎_elim
              (λ ahead. inl (subst (λ (l : List Command). Ahead tree run l to) want
              (ahead_looked machine.handles tree (stage.Taking path) path run to looked (if (seen_names tree node.id == 1) then saves tree path node.id else []) ahead)))
              (λ not. inr (later_looked machine.handles tree (stage.Taking path) path run to looked not))
              (losing machine.handles tree is path node (ap (λ n. node_at tree n) number ∙ here) (kinds ∙ kind) looked.rest to ends next)

          entry : is_private_path path ≡ false → looked.said ≡ (on tree (to_node tree path) (λ node. (reply.Facts (facts_of tree node), tree))).0 → (r : Result PlainEntry Refusal) → reached tree path ≡ r → Ahead tree run (saves_for machine (command.Rm path)) to ⊎ NotLooked tree run to
          entry own said (Err why) found =
              nothing (none_wanted (ap (taken_entry path) found))
              (ap hears (said ∙ ap (λ (r : Result PlainEntry Refusal). (on tree (then_ r (λ at. ok_or (node_at tree at.id) refusal.NotFound)) (λ node. (reply.Facts (facts_of tree node), tree))).0) found)
              ∙ ap (λ b. if b then stage.Says (reply.No why) else stage.Does) (walk_fails path root_entry why found))
          entry own said (Ok at) found = kinds at.folder refl
            where
              its : (node : PlainNode) × (node_at tree at.id ≡ Some node) × (node.folder ≡ at.folder)
              its = node_of at found

              facts : looked.said ≡ reply.Facts (facts_of tree its.0)
              facts =
                  said ∙ ap (λ (r : Result PlainEntry Refusal). (on tree (then_ r (λ at. ok_or (node_at tree at.id) refusal.NotFound)) (λ node. (reply.Facts (facts_of tree node), tree))).0) found
                  ∙ ap (λ (o : Option PlainNode). (on tree (ok_or o refusal.NotFound) (λ node. (reply.Facts (facts_of tree node), tree))).0) its.1

              kinds : (b : Bool) → at.folder ≡ b → Ahead tree run (saves_for machine (command.Rm path)) to ⊎ NotLooked tree run to
              kinds true folder =
                  nothing (none_wanted (taken_is at found ∙ ap (λ b. if b then None else Some (taken_here at)) folder))
                  (ap hears facts ∙ ap (λ b. if not b && is_held machine.handles its.0.id then stage.Losing path (facts_of tree its.0) else stage.Does) (its.2 ∙ folder))
              kinds false kind = file at its.0 own found its.1 its.2 kind facts (is_held machine.handles at.id) refl

          own_path : (b : Bool) → is_private_path path ≡ b → looked.said ≡ look tree path → Ahead tree run (saves_for machine (command.Rm path)) to ⊎ NotLooked tree run to
          own_path true private said =
              nothing (ap (λ b. if is_refusal (if b || false then (reply.No refusal.Private, tree) else step tree (command.Rm path)).0 then [] else saves_taken machine (taken_by tree (command.Rm path))) private)
              (ap hears (said ∙ ap (λ b. (if b || false then (reply.No refusal.Private, tree) else step tree (command.Stat path)).0) private))
          own_path false own said = entry own (said ∙ look_is tree path own) (reached tree path) refl

          told : (looked.said ≡ look tree path) ⊎ ((why : Refusal) × IsSkipped why × (looked.said ≡ reply.No why)) → Ahead tree run (saves_for machine (command.Rm path)) to ⊎ NotLooked tree run to
          told (inr skip) =
              inr (not_looked machine.handles tree (stage.Taking path) path run to looked skip.0 skip.1 skip.2 (ap (λ b. if b then stage.Says (reply.No skip.0) else stage.Does) (skip_is skip.0 skip.1)))
          told (inl same) = own_path (is_private_path path) refl same
