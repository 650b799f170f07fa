-- The stages of a move: what they come to is what the machine does ahead of it.
use Rattle.std.proofs.Common.{◌≡◌, ◌⊎◌, ℕ, Bool, true, false, List, [], ◌∷◌, inl, inr, refl, sym, ◌∙◌, ap, subst, ⊎_elim}
use Rattle.std.specs.Prelude.{◌==◌, ◌&&◌, ◌||◌, not, Option, Some, None, Result, Ok, Err, if◌then◌else◌}
use Rattle.std.specs.Option.{ok_or}
use Rattle.std.proofs.lemmas.Bool.{eqb-true, true≢false}
use Rattle.hfs_language.specs.declared.command.Command.{Command}
use Rattle.hfs_language.specs.declared.command.Command.TheVariants as command
use Rattle.hfs_language.specs.declared.refusal.Refusal.{Refusal}
use Rattle.hfs_language.specs.declared.refusal.Refusal.TheVariants as refusal
use Rattle.hfs_language.specs.declared.reply.Reply.{Reply}
use Rattle.hfs_language.specs.declared.reply.Reply.TheVariants as reply
use Rattle.hfs_model.specs.Plain.{is_node, node_at}
use Rattle.hfs_model.specs.Step.{Place, facts_of, is_below, is_private_path, is_refusal, is_root, moved_over, on, place, reached, refuses, root_entry, stands_in_way, step, then_, to_mv, to_node, unless}
use Rattle.hfs_model.specs.declared.plain.PlainEntry.{PlainEntry}
use Rattle.hfs_model.specs.declared.plain.PlainNode.{PlainNode}
use Rattle.hfs_model.specs.declared.plain.PlainTree.{PlainTree}
use Rattle.hfs_volume.proofs.Flat.{found_some}
use Rattle.hfs_volume.proofs.Members as members
use Rattle.hfs_volume.proofs.Reaching.{found_ok, ok_same, then_ok}
use Rattle.volume_runs.specs.Run.{Entry}
use Rattle.open_files.specs.Handles.{is_held}
use Rattle.open_files.specs.Keeping.{saves, seen_names}
use Rattle.open_files.specs.Machine.{Machine, Taken, replaced, saves_for, saves_taken, taken_by, taken_entry}
use Rattle.open_files.proofs.Releasing.{and_false}
use Rattle.session_lines.specs.declared.stages.Stage.{Stage}
use Rattle.session_lines.specs.declared.stages.Stage.TheVariants as stage
use Rattle.session_lines.specs.Ahead.{Ahead, NotLooked}
use Rattle.session_lines.specs.Following.{Follows}
use Rattle.session_lines.specs.Owning.{IsOwnTree}
use Rattle.session_lines.specs.Skipping.{IsSkipped}
use Rattle.session_lines.specs.Stages.{command_at, heard_at, takes}
use Rattle.session_lines.proofs.Looks.{look, look_is}
use Rattle.session_lines.proofs.Moves.{found_there, not_inside, reached_there}
use Rattle.session_lines.proofs.Saves.{ahead_looked, and_true, if_same, later_looked, losing, node_of, not_looked, nothing_ahead, skip_is, walk_fails}
use Rattle.session_lines.proofs.Unseen.{Looked, looked_at}

-- what stages come to ahead of this command, or a look isn't done
abbrev pub Comes : Machine → Command → List Entry → Stage → Type 0
Comes machine asked run to = Ahead machine.tree run (saves_for machine asked) to ⊎ NotLooked machine.tree run to

-- ---- behind a look

module _ (machine : Machine) (is : IsOwnTree machine.tree) (asked : Command) (here : Stage) (path : List (List ℕ)) (run : List Entry) (to : Stage) (ends : command_at to ≡ None) (looked : Looked machine.handles machine.tree here path run to) where
  -- nothing is to be done ahead
  pub nothing_more : saves_for machine asked ≡ [] → heard_at machine.handles here looked.said ≡ stage.Does → Comes machine asked run to
  nothing_more none does_it = inl (subst (λ (l : List Command). Ahead machine.tree run l to) (sym none) (nothing_ahead machine.handles machine.tree here path run to looked does_it))

  -- the look isn't done
  pub skipped_here : (why : Refusal) → IsSkipped why → looked.said ≡ reply.No why → heard_at machine.handles here (reply.No why) ≡ stage.Says (reply.No why) → Comes machine asked run to
  skipped_here why skipped said hears = inr (not_looked machine.handles machine.tree here path run to looked why skipped said hears)

  -- what comes behind the look
  pub comes_behind : Comes machine asked looked.rest to → Comes machine asked run to
  comes_behind (inl ahead) = inl (ahead_looked machine.handles machine.tree here path run to looked (saves_for machine asked) ahead)
  comes_behind (inr later) = inr (later_looked machine.handles machine.tree here path run to looked later)

  -- a file loses the name that was looked at
  module _ (target : List (List ℕ)) (id : ℕ) (node : PlainNode) (there : node_at machine.tree id ≡ Some node) (kind : node.folder ≡ false)
      (hears : heard_at machine.handles here looked.said ≡ takes machine.handles target (facts_of machine.tree node))
      (want : saves_for machine asked ≡ (if (seen_names machine.tree id == 1) && is_held machine.handles id then saves machine.tree target id else []))
    where
      number : node.id ≡ id
      number = eqb-true node.id id (found_some (is_node id) machine.tree.nodes node there).1

      abbrev by : Bool → Stage
      by b = if b then stage.Losing target (facts_of machine.tree node) else stage.Does

      hears_by : heard_at machine.handles here looked.said ≡ by (is_held machine.handles id)
      hears_by = hears ∙ (λ i. if not (kind i) && is_held machine.handles (number i) then stage.Losing target (facts_of machine.tree node) else stage.Does)

      abbrev wanted : Bool → List Command
      wanted b = if (seen_names machine.tree id == 1) && b then saves machine.tree target id else []

      pub loses : Comes machine asked run to
      loses = by_held (is_held machine.handles id) refl
        where
          by_held : (held : Bool) → is_held machine.handles id ≡ held → Comes machine asked run to
          by_held false held = nothing_more (want ∙ ap wanted held ∙ ap (λ b. if b then saves machine.tree target id else []) (and_false (seen_names machine.tree id == 1))) (hears_by ∙ ap by held)
          by_held true held =
              let next : Follows machine.handles machine.tree (stage.Losing target (facts_of machine.tree node)) looked.rest to =
              subst (λ (s : Stage). Follows machine.handles machine.tree s looked.rest to) (hears_by ∙ ap by held) looked.follows in
              let these : (if (seen_names machine.tree node.id == 1) then saves machine.tree target node.id else []) ≡ saves_for machine asked =
              (λ i. if (seen_names machine.tree (number i) == 1) then saves machine.tree target (number i) else []) ∙ ap (λ b. if b then saves machine.tree target id else []) (sym (and_true machine is target (seen_names machine.tree id == 1)))
              ∙ sym (want ∙ ap wanted held) in
              ⊎_elim (λ ahead. comes_behind (inl (subst (λ (l : List Command). Ahead machine.tree looked.rest l to) these ahead))) (λ later. comes_behind (inr later))
              (losing machine.handles machine.tree is target node (ap (λ n. node_at machine.tree n) number ∙ there) kind looked.rest to ends next)

-- ---- a move

module _ (machine : Machine) (is : IsOwnTree machine.tree) (from target : List (List ℕ)) where
  abbrev tree : PlainTree
  tree = machine.tree

  abbrev asked : Command
  asked = command.Mv from target

  private_root : (p : List (List ℕ)) (at : PlainEntry) → reached tree p ≡ Ok at → at.folder ≡ false → is_root p ≡ false
  private_root [] at found kind = absurd (true≢false (ap (λ (e : PlainEntry). e.folder) (ok_same root_entry at found) ∙ kind))
  private_root (name ∷ p) at found kind = refl

  root_kind : (p : List (List ℕ)) (at : PlainEntry) → is_root p ≡ true → reached tree p ≡ Ok at → at.folder ≡ true
  root_kind [] at root found = sym (ap (λ (e : PlainEntry). e.folder) (ok_same root_entry at found))
  root_kind (name ∷ p) at root found = absurd (true≢false (sym root))

  there_is : (p : List (List ℕ)) → is_root p ≡ false → reached tree p ≡ then_ (place tree p) (found_there tree)
  there_is [] root = absurd (true≢false root)
  there_is (name ∷ p) root = reached_there tree name p

  not_root : (p : List (List ℕ)) (why : Refusal) → reached tree p ≡ Err why → is_root p ≡ false
  not_root [] why found = absurd (cc found)
  not_root (name ∷ p) why found = refl

  no_name : taken_by tree asked ≡ None → saves_for machine asked ≡ []
  no_name none = ap (λ (o : Option Taken). if refuses tree (Ok asked) then [] else saves_taken machine o) none ∙ if_same (refuses tree (Ok asked)) []

  either_true : (a b : Bool) → b ≡ true → (a || b) ≡ true
  either_true true b is = refl
  either_true false b is = is

  -- ---- what it takes, by what both paths reach

  abbrev judged : PlainEntry × Place → Result (PlainEntry × Place) Refusal
  judged pair = then_ (unless (stands_in_way pair.0 pair.1.found) refusal.Exists pair) (unless (is_below target from) refusal.Inside)

  abbrev taken_pair : Result (PlainEntry × Place) Refusal → Option Taken
  taken_pair r = taken_entry target (then_ (then_ r judged) (λ pair. replaced pair.0.id pair.1.found))

  abbrev pair_of : Bool → Result (PlainEntry × Place) Refusal
  pair_of b = then_ (unless b refusal.Root from) (λ named. then_ (reached tree named) (λ at. then_ (place tree target) (λ goal. Ok (at, goal))))

  -- the root is no goal
  root_goal : is_root target ≡ true → taken_by tree asked ≡ None
  root_goal root = ap (λ b. taken_pair (pair_of b)) (either_true (is_root from) (is_root target) root)

  -- nothing is moved
  none_moved : (why : Refusal) → reached tree from ≡ Err why → taken_by tree asked ≡ None
  none_moved why found = by (is_root from || is_root target)
    where
      by : (b : Bool) → taken_pair (pair_of b) ≡ None
      by true = refl
      by false = ap (λ (r : Result PlainEntry Refusal). taken_pair (then_ r (λ at. then_ (place tree target) (λ goal. Ok (at, goal))))) found

  module _ (at : PlainEntry) (found : reached tree from ≡ Ok at) where
    abbrev at_goal : Place → PlainEntry × Place
    at_goal goal = (at, goal)

    abbrev goal_pair : Result Place Refusal → Result (PlainEntry × Place) Refusal
    goal_pair r = then_ r (λ goal. Ok (at_goal goal))

    abbrev taken_at : Bool → Option Taken
    taken_at b = taken_pair (then_ (unless b refusal.Root from) (λ named. goal_pair (place tree target)))

    named_is : (b : Bool) → taken_pair (pair_of b) ≡ taken_at b
    named_is true = refl
    named_is false = ap (λ (r : Result PlainEntry Refusal). taken_pair (then_ r (λ at. then_ (place tree target) (λ goal. Ok (at, goal))))) found

    taken_by_place : (is_root from || is_root target) ≡ false → taken_by tree asked ≡ taken_pair (goal_pair (place tree target))
    taken_by_place roots = named_is (is_root from || is_root target) ∙ ap taken_at roots

    -- what a goal with this in its place gives
    abbrev of_goal : Place → Bool → Bool → Option PlainEntry → Option Taken
    of_goal goal way below o = taken_entry target (then_ (then_ (unless way refusal.Exists (at_goal goal)) (unless below refusal.Inside)) (λ pair. replaced pair.0.id o))

    goal_is : (goal : Place) → taken_pair (goal_pair (Ok goal)) ≡ of_goal goal (stands_in_way at goal.found) (is_below target from) goal.found
    goal_is goal = by (stands_in_way at goal.found) (is_below target from)
      where
        by : (a b : Bool) → taken_entry target (then_ (then_ (unless a refusal.Exists (at_goal goal)) (unless b refusal.Inside)) (λ pair. replaced pair.0.id pair.1.found)) ≡ of_goal goal a b goal.found
        by true b = refl
        by false true = refl
        by false false = refl

    -- a folder is moved
    folder_moved : at.folder ≡ true → taken_by tree asked ≡ None
    folder_moved kind = named_is (is_root from || is_root target) ∙ by_root (is_root from || is_root target)
      where
        by_found : (goal : Place) (o : Option PlainEntry) (b : Bool) → of_goal goal (stands_in_way at o) b o ≡ None
        by_found goal None true = refl
        by_found goal None false = refl
        by_found goal (Some other) b = ap (λ k. of_goal goal (k || other.folder) b (Some other)) kind

        by_place : (r : Result Place Refusal) → taken_pair (goal_pair r) ≡ None
        by_place (Err why) = refl
        by_place (Ok goal) = goal_is goal ∙ by_found goal goal.found (is_below target from)

        by_root : (b : Bool) → taken_at b ≡ None
        by_root true = refl
        by_root false = by_place (place tree target)

    module _ (kind : at.folder ≡ false) where
      roots : is_root target ≡ false → (is_root from || is_root target) ≡ false
      roots root = ap (λ b. b || is_root target) (private_root from at found kind) ∙ root

      -- nothing stands at the goal
      none_there : (why : Refusal) → reached tree target ≡ Err why → taken_by tree asked ≡ None
      none_there why reaches = taken_by_place (roots (not_root target why reaches)) ∙ by_place (place tree target) (sym (there_is target (not_root target why reaches)) ∙ reaches)
        where
          by_found : (goal : Place) (o : Option PlainEntry) (b : Bool) → ok_or o refusal.NotFound ≡ Err why → of_goal goal (stands_in_way at o) b o ≡ None
          by_found goal None true reaches = refl
          by_found goal None false reaches = refl
          by_found goal (Some other) b reaches = absurd (cc reaches)

          by_place : (r : Result Place Refusal) → then_ r (found_there tree) ≡ Err why → taken_pair (goal_pair r) ≡ None
          by_place (Err other) reaches = refl
          by_place (Ok goal) reaches = goal_is goal ∙ by_found goal goal.found (is_below target from) reaches

      module _ (other : PlainEntry) (reaches : reached tree target ≡ Ok other) (root : is_root target ≡ false) where
        its : (goal : Place) × (place tree target ≡ Ok goal) × (goal.found ≡ Some other)
        its =
            let goal = then_ok (place tree target) (found_there tree) other (sym (there_is target root) ∙ reaches) in
            (goal.0, goal.1, found_ok goal.0.found refusal.NotFound other goal.2)

        taken_is : taken_by tree asked ≡ of_goal its.0 (at.folder || other.folder) (is_below target from) (Some other)
        taken_is = taken_by_place (roots root) ∙ ap (λ (r : Result Place Refusal). taken_pair (goal_pair r)) its.1 ∙ goal_is its.0 ∙ ap (λ (o : Option PlainEntry). of_goal its.0 (stands_in_way at o) (is_below target from) o) its.2

        -- a folder stands there
        folder_there : other.folder ≡ true → taken_by tree asked ≡ None
        folder_there folder = taken_is ∙ (λ i. of_goal its.0 (kind i || folder i) (is_below target from) (Some other))

        module _ (file : other.folder ≡ false) where
          free_way : taken_by tree asked ≡ taken_entry target (replaced at.id (Some other))
          free_way = taken_is ∙ (λ i. of_goal its.0 (kind i || file i) (not_inside tree from target at other found kind reaches i) (Some other))

          -- it is the file that is moved, by another name
          same_there : (other.id == at.id) ≡ true → taken_by tree asked ≡ None
          same_there same = free_way ∙ ap (λ b. taken_entry target (if b then Err refusal.NotFound else Ok other)) same

          -- it is another file
          file_there : (other.id == at.id) ≡ false → taken_by tree asked ≡ Some (record { path = target; id = other.id })
          file_there another = free_way ∙ ap (λ b. taken_entry target (if b then Err refusal.NotFound else Ok other)) another ∙ ap (λ b. if b then None else Some (record { path = target; id = other.id })) file

          moves : to_mv tree from target ≡ Ok (at_goal its.0)
          moves =
              ap (λ b. then_ (pair_of b) judged) (roots root) ∙ ap (λ (r : Result PlainEntry Refusal). then_ (then_ r (λ at. then_ (place tree target) (λ goal. Ok (at, goal)))) judged) found
              ∙ ap (λ (r : Result Place Refusal). then_ (goal_pair r) judged) its.1
              ∙ ap (λ (o : Option PlainEntry). then_ (unless (stands_in_way at o) refusal.Exists (at_goal its.0)) (unless (is_below target from) refusal.Inside)) its.2
              ∙ (λ i. then_ (unless (kind i || file i) refusal.Exists (at_goal its.0)) (unless (not_inside tree from target at other found kind reaches i) refusal.Inside))

          not_refused : is_private_path from ≡ false → is_private_path target ≡ false → refuses tree (Ok asked) ≡ false
          not_refused own own_too =
              (λ i. is_refusal (if own i || (own_too i || false) then (reply.No refusal.Private, tree) else step tree asked).0)
              ∙ ap (λ (r : Result (PlainEntry × Place) Refusal). is_refusal (on tree r (λ pair. (reply.Ok, moved_over pair.0 pair.1 tree))).0) moves

          wanted_is : is_private_path from ≡ false → is_private_path target ≡ false → (other.id == at.id) ≡ false
              → saves_for machine asked ≡ (if (seen_names tree other.id == 1) && is_held machine.handles other.id then saves tree target other.id else [])
          wanted_is own own_too another = ap (λ b. if b then [] else saves_taken machine (taken_by tree asked)) (not_refused own own_too) ∙ ap (saves_taken machine) (file_there another)

  -- ---- the look at the goal

  module _ (at : PlainEntry) (found : reached tree from ≡ Ok at) (kind : at.folder ≡ false) (own : is_private_path from ≡ false) where
    abbrev here : Stage
    here = stage.Replacing at.id target

    replacing : (run : List Entry) (to : Stage) → command_at to ≡ None → Follows machine.handles tree here run to → Comes machine asked run to
    replacing run to ends follows = by (looked_at machine.handles tree here target run to refl ends follows)
      where
        by : Looked machine.handles tree here target run to → Comes machine asked run to
        by looked = told looked.says
          where
            hears : Reply → Stage
            hears said = heard_at machine.handles here said

            nothing : saves_for machine asked ≡ [] → hears looked.said ≡ stage.Does → Comes machine asked run to
            nothing none does_it = nothing_more machine is asked here target run to ends looked none does_it

            facts_told : (other : PlainEntry) → reached tree target ≡ Ok other → looked.said ≡ (on tree (to_node tree target) (λ node. (reply.Facts (facts_of tree node), tree))).0 → (node : PlainNode) → node_at tree other.id ≡ Some node → looked.said ≡ reply.Facts (facts_of tree node)
            facts_told other reaches said node there =
                said ∙ ap (λ (r : Result PlainEntry Refusal). (on tree (then_ r (λ at. ok_or (node_at tree at.id) refusal.NotFound)) (λ node. (reply.Facts (facts_of tree node), tree))).0) reaches
                ∙ ap (λ (o : Option PlainNode). (on tree (ok_or o refusal.NotFound) (λ node. (reply.Facts (facts_of tree node), tree))).0) there

            -- what stands there, by its node
            stands : (other : PlainEntry) → reached tree target ≡ Ok other → is_private_path target ≡ false → (node : PlainNode) → node_at tree other.id ≡ Some node → node.folder ≡ other.folder → looked.said ≡ reply.Facts (facts_of tree node) → Comes machine asked run to
            stands other reaches own_too node there kinds said = by_kind other.folder refl
              where
                number : node.id ≡ other.id
                number = eqb-true node.id other.id (found_some (is_node other.id) tree.nodes node there).1

                behind : Bool → Bool → Stage
                behind same folder = if same then stage.Does else (if not folder && is_held machine.handles node.id then stage.Losing target (facts_of tree node) else stage.Does)

                heard : hears looked.said ≡ behind (node.id == at.id) node.folder
                heard = ap hears said

                folder_here : (same : Bool) → behind same true ≡ stage.Does
                folder_here true = refl
                folder_here false = refl

                by_same : (same : Bool) → (other.id == at.id) ≡ same → other.folder ≡ false → (root : is_root target ≡ false) → Comes machine asked run to
                by_same true same file root = nothing (no_name (same_there at found kind other reaches root file same)) (heard ∙ ap (λ b. behind b node.folder) (ap (λ n. n == at.id) number ∙ same))
                by_same false same file root =
                    loses machine is asked here target run to ends looked target other.id node there (kinds ∙ file) (heard ∙ ap (λ b. behind b node.folder) (ap (λ n. n == at.id) number ∙ same))
                    (wanted_is at found kind other reaches root file own own_too same)

                by_root : (b : Bool) → is_root target ≡ b → other.folder ≡ true → Comes machine asked run to
                by_root true root folder = nothing (no_name (root_goal root)) (heard ∙ ap (λ b. behind (node.id == at.id) b) (kinds ∙ folder) ∙ folder_here (node.id == at.id))
                by_root false root folder = nothing (no_name (folder_there at found kind other reaches root folder)) (heard ∙ ap (λ b. behind (node.id == at.id) b) (kinds ∙ folder) ∙ folder_here (node.id == at.id))

                by_kind : (b : Bool) → other.folder ≡ b → Comes machine asked run to
                by_kind true folder = by_root (is_root target) refl folder
                by_kind false file = by_same (other.id == at.id) refl file (private_root target other reaches file)

            entry : is_private_path target ≡ false → looked.said ≡ (on tree (to_node tree target) (λ node. (reply.Facts (facts_of tree node), tree))).0 → (r : Result PlainEntry Refusal) → reached tree target ≡ r → Comes machine asked run to
            entry own_too said (Err why) reaches =
                nothing (no_name (none_there at found kind why reaches))
                (ap hears (said ∙ ap (λ (r : Result PlainEntry Refusal). (on tree (then_ r (λ at. ok_or (node_at tree at.id) refusal.NotFound)) (λ node. (reply.Facts (facts_of tree node), tree))).0) reaches)
                ∙ ap (λ b. if b then stage.Says (reply.No why) else stage.Does) (walk_fails machine is target target root_entry why reaches))
            entry own_too said (Ok other) reaches =
                let its = node_of machine is target other reaches in
                stands other reaches own_too its.0 its.1 its.2 (facts_told other reaches said its.0 its.1)

            own_path : (b : Bool) → is_private_path target ≡ b → looked.said ≡ look tree target → Comes machine asked run to
            own_path true private said =
                nothing
                ((λ i. if is_refusal (if own i || (private i || false) then (reply.No refusal.Private, tree) else step tree asked).0 then [] else saves_taken machine (taken_by tree asked)))
                (ap hears (said ∙ ap (λ b. (if b || false then (reply.No refusal.Private, tree) else step tree (command.Stat target)).0) private))
            own_path false own_too said = entry own_too (said ∙ look_is tree target own_too) (reached tree target) refl

            told : (looked.said ≡ look tree target) ⊎ ((why : Refusal) × IsSkipped why × (looked.said ≡ reply.No why)) → Comes machine asked run to
            told (inr skip) = skipped_here machine is asked here target run to ends looked skip.0 skip.1 skip.2 (ap (λ b. if b then stage.Says (reply.No skip.0) else stage.Does) (skip_is skip.0 skip.1))
            told (inl same) = own_path (is_private_path target) refl same

  -- ---- the look at what is moved

  -- What the looks at both paths of a move come to is what the machine does ahead of it.
  pub moving : (run : List Entry) (to : Stage) → command_at to ≡ None → Follows machine.handles tree (stage.Moving from target) run to → Comes machine asked run to
  moving run to ends follows = by (looked_at machine.handles tree (stage.Moving from target) from run to refl ends follows)
    where
      by : Looked machine.handles tree (stage.Moving from target) from run to → Comes machine asked run to
      by looked = told looked.says
        where
          hears : Reply → Stage
          hears said = heard_at machine.handles (stage.Moving from target) said

          nothing : saves_for machine asked ≡ [] → hears looked.said ≡ stage.Does → Comes machine asked run to
          nothing none does_it = nothing_more machine is asked (stage.Moving from target) from run to ends looked none does_it

          entry : is_private_path from ≡ false → looked.said ≡ (on tree (to_node tree from) (λ node. (reply.Facts (facts_of tree node), tree))).0 → (r : Result PlainEntry Refusal) → reached tree from ≡ r → Comes machine asked run to
          entry own said (Err why) found =
              nothing (no_name (none_moved why found))
              (ap hears (said ∙ ap (λ (r : Result PlainEntry Refusal). (on tree (then_ r (λ at. ok_or (node_at tree at.id) refusal.NotFound)) (λ node. (reply.Facts (facts_of tree node), tree))).0) found)
              ∙ ap (λ b. if b then stage.Says (reply.No why) else stage.Does) (walk_fails machine is from from root_entry why found))
          entry own said (Ok at) found = kinds at.folder refl
            where
              its : (node : PlainNode) × (node_at tree at.id ≡ Some node) × (node.folder ≡ at.folder)
              its = node_of machine is from at found

              number : its.0.id ≡ at.id
              number = eqb-true its.0.id at.id (found_some (is_node at.id) tree.nodes its.0 its.1).1

              facts : looked.said ≡ reply.Facts (facts_of tree its.0)
              facts =
                  said ∙ ap (λ (r : Result PlainEntry Refusal). (on tree (then_ r (λ at. ok_or (node_at tree at.id) refusal.NotFound)) (λ node. (reply.Facts (facts_of tree node), tree))).0) found
                  ∙ ap (λ (o : Option PlainNode). (on tree (ok_or o refusal.NotFound) (λ node. (reply.Facts (facts_of tree node), tree))).0) its.1

              behind : Bool → ℕ → Stage
              behind folder id = if folder then stage.Does else stage.Replacing id target

              kinds : (b : Bool) → at.folder ≡ b → Comes machine asked run to
              kinds true folder = nothing (no_name (folder_moved at found folder)) (ap hears facts ∙ ap (λ b. behind b its.0.id) (its.2 ∙ folder))
              kinds false file =
                  comes_behind machine is asked (stage.Moving from target) from run to ends looked
                  (replacing at found file own looked.rest to ends (subst (λ (s : Stage). Follows machine.handles tree s looked.rest to) (ap hears facts ∙ (λ i. behind ((its.2 ∙ file) i) (number i))) looked.follows))

          own_path : (b : Bool) → is_private_path from ≡ b → looked.said ≡ look tree from → Comes machine asked run to
          own_path true private said =
              nothing (ap (λ b. if is_refusal (if b || (is_private_path target || false) then (reply.No refusal.Private, tree) else step tree asked).0 then [] else saves_taken machine (taken_by tree asked)) private)
              (ap hears (said ∙ ap (λ b. (if b || false then (reply.No refusal.Private, tree) else step tree (command.Stat from)).0) private))
          own_path false own said = entry own (said ∙ look_is tree from own) (reached tree from) refl

          told : (looked.said ≡ look tree from) ⊎ ((why : Refusal) × IsSkipped why × (looked.said ≡ reply.No why)) → Comes machine asked run to
          told (inr skip) = skipped_here machine is asked (stage.Moving from target) from run to ends looked skip.0 skip.1 skip.2 (ap (λ b. if b then stage.Says (reply.No skip.0) else stage.Does) (skip_is skip.0 skip.1))
          told (inl same) = own_path (is_private_path from) refl same
