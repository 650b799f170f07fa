-- What the removal of a folder weighs.
use Rattle.std.proofs.Common.{◌≡◌, ◌<◌, ◌≤◌, ◌+◌, ℕ, Bool, true, false, List, [], ◌∷◌, length, refl, sym, ◌∙◌, ap, subst, arith}
use Rattle.std.specs.Prelude.{◌==◌, IsTrue, None, Option, Some, Result, Ok, Err, if◌then◌else◌}
use Rattle.std.proofs.lemmas.List.{length-map}
use Rattle.attributes.specs.Owned.{count_of, names_of}
use Rattle.btree_file.specs.Standing.{pairs_in}
use Rattle.btree_file.specs.State.{sectors_of_tree}
use Rattle.btree_node.specs.Levels.{Pair}
use Rattle.hfs_language.specs.declared.command.Command.TheVariants as command
use Rattle.hfs_language.specs.declared.refusal.Refusal.{Refusal}
use Rattle.hfs_language.specs.declared.refusal.Refusal.TheVariants as refusal
use Rattle.hfs_language.specs.declared.reply.ListedName.{ListedName}
use Rattle.hfs_language.specs.declared.reply.Reply.TheVariants as reply
use Rattle.hfs_model.specs.Plain.{node_at}
use Rattle.hfs_model.specs.Sorted.{kept}
use Rattle.hfs_model.specs.Step.{is_private_path, step_line, to_rmdir}
use Rattle.hfs_model.specs.declared.plain.PlainEntry.{PlainEntry}
use Rattle.hfs_model.specs.declared.plain.PlainTree.{PlainTree}
use Rattle.hfs_volume.specs.Content.{VolumeState, has_attributes}
use Rattle.hfs_volume.specs.Cost.{cost_of}
use Rattle.hfs_volume.specs.Records.{Attribute, attribute_of}
use Rattle.hfs_volume.specs.Weight.{attribute_count, edits, free_blocks, needs_for, removed_values, rmdir_edits, room_with, values_of_node, weight, weight_with, with_values}
use Rattle.hfs_volume.specs.declared.cost.ValueChange.{ValueChange}
use Rattle.sector_disk.specs.Lists.{Content}
use Rattle.volume_base.specs.Lists.{lists_of}
use Rattle.volume_base.specs.Owning.{attributes_in, listed_name}
use Rattle.volume_base.specs.Weighing.{edits_weighed, joined, refused_or, values_weighed, weighed}
use Rattle.volume_base.specs.declared.value_changes.OwnedValues.{OwnedValues}
use Rattle.volume_base.specs.declared.weighing.Weight.{Weight}
use Rattle.volume_base.specs.declared.volume.Volume.{Volume}
use Rattle.volume_base.specs.declared.weighing.Weight.TheVariants as answer
use Rattle.volume_base.proofs.LeavingFound.{private_line, refused_line, removed_line, root_line}

-- the root isn't removed
pub removed_some : (tree : PlainTree) (path : List (List ℕ)) (entry : PlainEntry) → length path ≡ 0 → to_rmdir tree path ≡ Ok entry → ⊥
removed_some tree [] entry none is = let never : Err refusal.Root ≡ Ok entry = is in cc never
removed_some tree (name ∷ path) entry none is = omega (arith, none)

-- ---- the weight

module _ (capacity : ℕ) (takable : List Bool) (volume : VolumeState) (tree : PlainTree) (path : List (List ℕ)) where
  -- what the step refuses
  why_not : (why : Refusal) → reply.No why ≡ (step_line tree (Ok (command.Rmdir path))).0 → answer.Refused why ≡ weighed capacity takable volume tree (command.Rmdir path)
  why_not why is = ap (λ said. refused_or said (joined (weight capacity volume tree (command.Rmdir path)) (weight_with capacity takable volume tree (command.Rmdir path)))) is

  pub removal_private : is_private_path path ≡ true → answer.Refused refusal.Private ≡ weighed capacity takable volume tree (command.Rmdir path)
  removal_private own = why_not refusal.Private (private_line tree path own).0

  pub removal_root : length path ≡ 0 → answer.Refused refusal.Root ≡ weighed capacity takable volume tree (command.Rmdir path)
  removal_root none = why_not refusal.Root (root_line tree path none).0

  module _ (not_own : is_private_path path ≡ false) where
    pub removal_refused : (why : Refusal) → to_rmdir tree path ≡ Err why → answer.Refused why ≡ weighed capacity takable volume tree (command.Rmdir path)
    removal_refused why is = why_not why (refused_line tree path why not_own is).0

    module _ (at : PlainEntry) (allowed : to_rmdir tree path ≡ Ok at) where
      abbrev removal_costs : Result PlainEntry Refusal → Weight
      removal_costs found =
          joined (cost_of (with_values (free_blocks volume) (removed_values volume tree found) (needs_for (free_blocks volume) volume (rmdir_edits tree found) None)) (room_with capacity (free_blocks volume) volume))
          (cost_of (with_values takable (removed_values volume tree found) (needs_for takable volume (rmdir_edits tree found) None)) (room_with capacity takable volume))

      removal_weighs : removal_costs (to_rmdir tree path) ≡ joined (weight capacity volume tree (command.Rmdir path)) (weight_with capacity takable volume tree (command.Rmdir path))
      unfolding weight_with
      removal_weighs = refl

      -- of so many attributes, and of their values
      abbrev owned_costs : ℕ → Option ValueChange → Weight
      owned_costs many change =
          joined (cost_of (with_values (free_blocks volume) change (needs_for (free_blocks volume) volume (edits 0 2 many 1) None)) (room_with capacity (free_blocks volume) volume))
          (cost_of (with_values takable change (needs_for takable volume (edits 0 2 many 1) None)) (room_with capacity takable volume))

      pub removal_allowed : (owned : OwnedValues) → attribute_count (node_at tree at.id) ≡ owned.count → values_of_node volume (node_at tree at.id) ≡ Some owned.change
          → values_weighed capacity takable volume (record { ids = 0; catalog = 2; attributes = owned.count; updates = 1 }) owned.change ≡ weighed capacity takable volume tree (command.Rmdir path)
      removal_allowed owned counted changed =
          (λ i. owned_costs (sym counted i) (sym changed i)) ∙ sym (ap removal_costs allowed) ∙ removal_weighs
          ∙ ap (λ said. refused_or said (joined (weight capacity volume tree (command.Rmdir path)) (weight_with capacity takable volume tree (command.Rmdir path)))) (removed_line tree path at not_own allowed).0

-- values of which none goes and none comes weigh nothing
pub nothing_changed : (capacity : ℕ) (takable : List Bool) (volume : VolumeState) (many : ℕ)
    → edits_weighed capacity takable volume (record { ids = 0; catalog = 2; attributes = many; updates = 1 })
    ≡ values_weighed capacity takable volume (record { ids = 0; catalog = 2; attributes = many; updates = 1 }) (record { records = 0; freed = 0; blocks = 0 })
nothing_changed capacity takable volume many =
    let more : many ≡ many + 0 + 0 = omega arith in
    λ i. joined (cost_of (record { ids = 0; edits = 0 ∷ 2 ∷ more i ∷ []; updates = 1; new_blocks = 0; old_blocks = 0; runs = 0 }) (room_with capacity (free_blocks volume) volume))
    (cost_of (record { ids = 0; edits = 0 ∷ 2 ∷ more i ∷ []; updates = 1; new_blocks = 0; old_blocks = 0; runs = 0 }) (room_with capacity takable volume))
