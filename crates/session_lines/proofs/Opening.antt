-- A stage whose look is the last one; and a file that is to be opened.
use Rattle.std.proofs.Common.{◌≡◌, ◌⊎◌, ℕ, Bool, true, false, List, [], inl, inr, refl, sym, ◌∙◌, ap, subst}
use Rattle.std.specs.Prelude.{◌||◌, Option, Some, None, Result, Ok, Err, if◌then◌else◌}
use Rattle.hfs_language.specs.declared.command.Command.TheVariants as command
use Rattle.hfs_language.specs.declared.refusal.Refusal.{Refusal}
use Rattle.hfs_language.specs.declared.refusal.Refusal.TheVariants as refusal
use Rattle.hfs_language.specs.declared.reply.Facts.{Facts}
use Rattle.hfs_language.specs.declared.reply.Reply.{Reply}
use Rattle.hfs_language.specs.declared.reply.Reply.TheVariants as reply
use Rattle.hfs_model.specs.Step.{facts_of, is_private_path, on, step, then_, to_node, unless}
use Rattle.hfs_model.specs.declared.plain.PlainNode.{PlainNode}
use Rattle.hfs_model.specs.declared.plain.PlainTree.{PlainTree}
use Rattle.volume_runs.specs.Run.{Entry}
use Rattle.open_files.specs.Keeping.{is_keeping_path}
use Rattle.open_files.specs.Machine.{to_open}
use Rattle.open_files.specs.declared.act.OpenFile.{OpenFile}
use Rattle.session_lines.specs.declared.stages.Stage.{Stage}
use Rattle.session_lines.specs.declared.stages.Stage.TheVariants as stage
use Rattle.session_lines.specs.Ahead.{IsQuiet}
use Rattle.session_lines.specs.Following.{Follows}
use Rattle.session_lines.specs.Skipping.{IsSkipped}
use Rattle.session_lines.specs.Stages.{command_at, found_to_open, heard_at}
use Rattle.session_lines.proofs.Looks.{look, look_is}
use Rattle.session_lines.proofs.Unseen.{Looked, looked_at, quiet_none}
use Rattle.session_lines.proofs.Saves.{ended}

-- what the last look of a line says, or why it isn't done
pub record LooksLast (tree : PlainTree) (path : List (List ℕ)) (next : Reply → Stage) (run : List Entry) (to : Stage) : Type 0 where
  pub said : Reply
  pub says : (said ≡ look tree path) ⊎ ((why : Refusal) × IsSkipped why × (said ≡ reply.No why))
  pub last : to ≡ next said
  pub quiet : IsQuiet tree run [] [] tree

pub looks_last : (handles : List OpenFile) (tree : PlainTree) (here : Stage) (path : List (List ℕ)) (next : Reply → Stage) → ((said : Reply) → heard_at handles here said ≡ next said) → ((said : Reply) → command_at (next said) ≡ None)
    → (run : List Entry) (to : Stage) → command_at here ≡ Some (command.Stat path) → command_at to ≡ None → Follows handles tree here run to → LooksLast tree path next run to
looks_last handles tree here path next hears final run to at ends follows =
    let looked = looked_at handles tree here path run to at ends follows in
    let last = ended handles tree (next looked.said) looked.rest to (final looked.said) (subst (λ (s : Stage). Follows handles tree s looked.rest to) (hears looked.said) looked.follows) in
    record {
      said = looked.said;
      says = looked.says;
      last = last.1;
      quiet = looked.quiet [] [] tree (subst (λ (r : List Entry). IsQuiet tree r [] [] tree) (sym last.0) (quiet_none tree));
    }

-- ---- `open`

opens_last : (said : Reply) → command_at (found_to_open said) ≡ None
opens_last (reply.Facts facts) = by facts.folder
  where
    by : (b : Bool) → command_at (if b then stage.Says (reply.No refusal.IsFolder) else stage.Opens facts.id) ≡ None
    by true = refl
    by false = refl
opens_last reply.Ok = refl
opens_last (reply.Listing names) = refl
opens_last (reply.Content bytes) = refl
opens_last (reply.Gauge gauge) = refl
opens_last (reply.No why) = refl

pub opening : (handles : List OpenFile) (tree : PlainTree) (path : List (List ℕ)) (run : List Entry) (to : Stage) → command_at to ≡ None → Follows handles tree (stage.Opening path) run to → LooksLast tree path found_to_open run to
opening handles tree path run to ends follows = looks_last handles tree (stage.Opening path) path found_to_open (λ said. refl) opens_last run to refl ends follows

-- what the machine opens, or why it doesn't
abbrev pub opened_at : Result PlainNode Refusal → Stage
opened_at (Ok node) = stage.Opens node.id
opened_at (Err why) = stage.Says (reply.No why)

pub opens_as : (tree : PlainTree) (path : List (List ℕ)) → is_keeping_path path ≡ false → found_to_open (look tree path) ≡ opened_at (to_open tree path)
opens_as tree path other = by_own (is_private_path path) refl
  where
    by_folder : (b : Bool) (id : ℕ) (node : PlainNode) → (if b then stage.Says (reply.No refusal.IsFolder) else stage.Opens node.id) ≡ opened_at (if b then Err refusal.IsFolder else Ok node)
    by_folder true id node = refl
    by_folder false id node = refl

    by_node : (r : Result PlainNode Refusal) → found_to_open (on tree r (λ node. (reply.Facts (facts_of tree node), tree))).0 ≡ opened_at (then_ r (λ node. unless node.folder refusal.IsFolder node))
    by_node (Ok node) = by_folder node.folder node.id node
    by_node (Err why) = refl

    by_own : (b : Bool) → is_private_path path ≡ b → found_to_open (look tree path) ≡ opened_at (to_open tree path)
    by_own true own =
        ap (λ b. found_to_open (if b || false then (reply.No refusal.Private, tree) else step tree (command.Stat path)).0) own
        ∙ sym (ap (λ b. opened_at (if b then Err refusal.Private else (if is_keeping_path path then Err refusal.Private else then_ (to_node tree path) (λ node. unless node.folder refusal.IsFolder node)))) own)
    by_own false own =
        ap found_to_open (look_is tree path own) ∙ by_node (to_node tree path)
        ∙ sym (ap (λ b. opened_at (if b then Err refusal.Private else then_ (to_node tree path) (λ node. unless node.folder refusal.IsFolder node))) other)
        ∙ sym (ap (λ b. opened_at (if b then Err refusal.Private else (if is_keeping_path path then Err refusal.Private else then_ (to_node tree path) (λ node. unless node.folder refusal.IsFolder node)))) own)
