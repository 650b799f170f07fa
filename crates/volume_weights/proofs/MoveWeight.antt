-- What a move weighs.
use Rattle.std.proofs.Common.{◌≡◌, ℕ, Bool, true, false, List, refl, sym, ◌∙◌, ap}
use Rattle.std.specs.Prelude.{◌||◌, None, Ok, Err}
use Rattle.hfs_language.specs.declared.command.Command.TheVariants as command
use Rattle.hfs_language.specs.declared.refusal.Refusal.{Refusal}
use Rattle.hfs_language.specs.declared.refusal.Refusal.TheVariants as refusal
use Rattle.hfs_language.specs.declared.reply.Reply.TheVariants as reply
use Rattle.hfs_model.specs.Step.{Place, is_private_path, is_root, step_line, to_mv}
use Rattle.hfs_model.specs.declared.plain.PlainEntry.{PlainEntry}
use Rattle.hfs_model.specs.declared.plain.PlainTree.{PlainTree}
use Rattle.hfs_volume.specs.Content.{VolumeState}
use Rattle.hfs_volume.specs.Weight.{free_blocks, weight, weight_with}
use Rattle.volume_base.specs.Weighing.{edits_weighed, joined, refused_or, weighed}
use Rattle.volume_base.specs.declared.weighing.Weight.TheVariants as answer
use Rattle.volume_base.proofs.Loads.{free_move_weight}
use Rattle.volume_base.proofs.Routed.{moved_line, mv_private_line, mv_refused_line, mv_root_line}

module _ (capacity : ℕ) (takable : List Bool) (volume : VolumeState) (tree : PlainTree) (from to : List (List ℕ)) where
  -- what the step refuses
  why_not : (why : Refusal) → reply.No why ≡ (step_line tree (Ok (command.Mv from to))).0 → answer.Refused why ≡ weighed capacity takable volume tree (command.Mv from to)
  why_not why is = ap (λ said. refused_or said (joined (weight capacity volume tree (command.Mv from to)) (weight_with capacity takable volume tree (command.Mv from to)))) is

  pub move_private : (is_private_path from || (is_private_path to || false)) ≡ true → answer.Refused refusal.Private ≡ weighed capacity takable volume tree (command.Mv from to)
  move_private own = why_not refusal.Private (mv_private_line tree from to own).0

  module _ (not_own : is_private_path from ≡ false) (goal_not_own : is_private_path to ≡ false) where
    pub move_root : (is_root from || is_root to) ≡ true → answer.Refused refusal.Root ≡ weighed capacity takable volume tree (command.Mv from to)
    move_root root = why_not refusal.Root (mv_root_line tree from to not_own goal_not_own root).0

    pub move_refused : (why : Refusal) → to_mv tree from to ≡ Err why → answer.Refused why ≡ weighed capacity takable volume tree (command.Mv from to)
    move_refused why is = why_not why (mv_refused_line tree from to why not_own goal_not_own is).0

    pub move_allowed : (pair : PlainEntry × Place) → to_mv tree from to ≡ Ok pair → pair.1.found ≡ None → edits_weighed capacity takable volume (record { ids = 0; catalog = 3; attributes = 0; updates = 3 }) ≡ weighed capacity takable volume tree (command.Mv from to)
    move_allowed pair is none =
        (λ i. joined (sym (free_move_weight capacity (free_blocks volume) volume tree from to pair is none) i) (sym (free_move_weight capacity takable volume tree from to pair is none) i))
        ∙ ap (λ said. refused_or said (joined (weight capacity volume tree (command.Mv from to)) (weight_with capacity takable volume tree (command.Mv from to)))) (moved_line tree from to pair not_own goal_not_own is).0
