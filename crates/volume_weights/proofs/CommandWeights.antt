-- What commands weigh that change one folder or file.
use Rattle.std.proofs.Common.{◌≡◌, ◌<◌, ◌≤◌, ℕ, Bool, true, false, List, [], ◌∷◌, length, refl, sym, ◌∙◌, ap, subst}
use Rattle.std.specs.Prelude.{IsTrue, not, None, Result, Ok, Err, if◌then◌else◌}
use Rattle.sector_disk.specs.Lists.{Content}
use Rattle.hfs_language.specs.declared.command.Command.TheVariants as command
use Rattle.hfs_language.specs.declared.refusal.Refusal.{Refusal}
use Rattle.hfs_language.specs.declared.refusal.Refusal.TheVariants as refusal
use Rattle.hfs_language.specs.declared.reply.Reply.{Reply}
use Rattle.hfs_language.specs.declared.reply.Reply.TheVariants as reply
use Rattle.hfs_model.specs.Step.{Place, is_private_path, most_attribute, step_line, to_attribute, to_make, to_node, to_set}
use Rattle.hfs_model.specs.declared.plain.PlainAttribute.{PlainAttribute}
use Rattle.hfs_model.specs.declared.plain.PlainNode.{PlainNode}
use Rattle.hfs_model.specs.declared.plain.PlainTree.{PlainTree}
use Rattle.hfs_volume.specs.Content.{VolumeState, has_attributes}
use Rattle.hfs_volume.specs.Cost.{cost_of}
use Rattle.hfs_volume.specs.Weight.{blocks_for_value, deleted_value, edits, free_blocks, needs_for, room_with, set_value, value_change, weight, weight_with, with_values}
use Rattle.hfs_volume.specs.declared.cost.Cost.{Cost}
use Rattle.hfs_volume.specs.declared.cost.Cost.TheVariants as cost
use Rattle.volume_base.specs.Making.{making}
use Rattle.volume_base.specs.Weighing.{edits_weighed, joined, refused_or, values_weighed, weighed}
use Rattle.volume_base.specs.declared.weighing.Weight.{Weight}
use Rattle.volume_base.specs.declared.weighing.Weight.TheVariants as answer
use Rattle.volume_base.proofs.OwnedTold.{delete_private, delete_refused, delete_replied, set_allowed, set_private, set_refused, set_replied, set_too_large}
use Rattle.volume_base.proofs.Sited.{made_line, private_line, refused_line, root_line}
use Rattle.volume_base.proofs.ToNode.{mode_private, mode_refused, mode_replied}

module _ (capacity : ℕ) (takable : List Bool) (volume : VolumeState) (tree : PlainTree) where
  pub at_weighed : (moment : ℕ) → edits_weighed capacity takable volume (record { ids = 0; catalog = 0; attributes = 0; updates = 0 }) ≡ weighed capacity takable volume tree (command.At moment)
  unfolding weight_with
  at_weighed moment = refl

  module _ (path : List (List ℕ)) (rights : ℕ) where
    -- what the step refuses
    chmod_why : (why : Refusal) → reply.No why ≡ (step_line tree (Ok (command.Chmod path rights))).0 → answer.Refused why ≡ weighed capacity takable volume tree (command.Chmod path rights)
    chmod_why why is = ap (λ said. refused_or said (joined (weight capacity volume tree (command.Chmod path rights)) (weight_with capacity takable volume tree (command.Chmod path rights)))) is

    pub chmod_private : is_private_path path ≡ true → answer.Refused refusal.Private ≡ weighed capacity takable volume tree (command.Chmod path rights)
    chmod_private own = chmod_why refusal.Private (mode_private tree path rights own).0

    pub chmod_refused : is_private_path path ≡ false → (why : Refusal) → to_node tree path ≡ Err why → answer.Refused why ≡ weighed capacity takable volume tree (command.Chmod path rights)
    chmod_refused not_own why is = chmod_why why (mode_refused tree path rights not_own why is).0

    chmod_costs : edits_weighed capacity takable volume (record { ids = 0; catalog = 0; attributes = 0; updates = 1 }) ≡ joined (weight capacity volume tree (command.Chmod path rights)) (weight_with capacity takable volume tree (command.Chmod path rights))
    unfolding weight_with
    chmod_costs = refl

    pub chmod_allowed : is_private_path path ≡ false → (node : PlainNode) → to_node tree path ≡ Ok node
        → edits_weighed capacity takable volume (record { ids = 0; catalog = 0; attributes = 0; updates = 1 }) ≡ weighed capacity takable volume tree (command.Chmod path rights)
    chmod_allowed not_own node is =
        chmod_costs
        ∙ ap (λ said. refused_or said (joined (weight capacity volume tree (command.Chmod path rights)) (weight_with capacity takable volume tree (command.Chmod path rights)))) (mode_replied tree path rights not_own node is)

  module _ (path : List (List ℕ)) (name value : List ℕ) where
    set_why : (why : Refusal) → reply.No why ≡ (step_line tree (Ok (command.SetAttr path name value))).0 → answer.Refused why ≡ weighed capacity takable volume tree (command.SetAttr path name value)
    set_why why is = ap (λ said. refused_or said (joined (weight capacity volume tree (command.SetAttr path name value)) (weight_with capacity takable volume tree (command.SetAttr path name value)))) is

    pub setattr_private : is_private_path path ≡ true → answer.Refused refusal.Private ≡ weighed capacity takable volume tree (command.SetAttr path name value)
    setattr_private own = set_why refusal.Private (set_private tree path name value true own).0

    pub setattr_refused : is_private_path path ≡ false → (why : Refusal) → to_node tree path ≡ Err why → answer.Refused why ≡ weighed capacity takable volume tree (command.SetAttr path name value)
    setattr_refused not_own why is = set_why why (set_refused tree path name value not_own true why is).0

    -- what it costs where these blocks are free, by the owner of the attribute
    abbrev set_cost : List Bool → Result PlainNode Refusal → Cost
    set_cost free owner = cost_of (with_values free (set_value volume name (length value) owner) (needs_for free volume (edits 0 0 2 1) None)) (room_with capacity free volume)

    -- and in a volume with or without an attributes file
    abbrev set_costs : Bool → Result PlainNode Refusal → Weight
    set_costs has owner =
        joined (if not has then cost.Refused refusal.NoTree else set_cost (free_blocks volume) owner) (if not has then cost.Refused refusal.NoTree else set_cost takable owner)

    module _ (not_own : is_private_path path ≡ false) (node : PlainNode) (is : to_node tree path ≡ Ok node) where
      pub setattr_too_large : most_attribute < length value → answer.Refused refusal.AttributeTooLarge ≡ weighed capacity takable volume tree (command.SetAttr path name value)
      setattr_too_large long = set_why refusal.AttributeTooLarge (set_too_large tree path name value not_own true node is long).0

      -- the step doesn't refuse it
      replied : length value ≤ most_attribute → set_costs (has_attributes volume.head) (to_set tree path value) ≡ weighed capacity takable volume tree (command.SetAttr path name value)
      unfolding weight_with
      replied long = ap (λ said. refused_or said (joined (weight capacity volume tree (command.SetAttr path name value)) (weight_with capacity takable volume tree (command.SetAttr path name value)))) (set_replied tree path name value not_own true refl node is long)

      pub setattr_lacks : length value ≤ most_attribute → has_attributes volume.head ≡ false → answer.Refused refusal.NoTree ≡ weighed capacity takable volume tree (command.SetAttr path name value)
      setattr_lacks long none = sym (ap (λ b. set_costs b (to_set tree path value)) none) ∙ replied long

      pub setattr_allowed : length value ≤ most_attribute → has_attributes volume.head ≡ true
          → values_weighed capacity takable volume (record { ids = 0; catalog = 0; attributes = 2; updates = 1 }) (value_change volume node.id name (blocks_for_value volume.head.block_size (length value)))
          ≡ weighed capacity takable volume tree (command.SetAttr path name value)
      setattr_allowed long has =
          sym (ap (set_costs (has_attributes volume.head)) (set_allowed tree path name value not_own node is long) ∙ ap (λ b. set_costs b (Ok node)) has)
          ∙ replied long

  module _ (path : List (List ℕ)) (name : List ℕ) where
    delete_why : (why : Refusal) → reply.No why ≡ (step_line tree (Ok (command.DelAttr path name))).0 → answer.Refused why ≡ weighed capacity takable volume tree (command.DelAttr path name)
    delete_why why is = ap (λ said. refused_or said (joined (weight capacity volume tree (command.DelAttr path name)) (weight_with capacity takable volume tree (command.DelAttr path name)))) is

    pub delattr_private : is_private_path path ≡ true → answer.Refused refusal.Private ≡ weighed capacity takable volume tree (command.DelAttr path name)
    delattr_private own = delete_why refusal.Private (delete_private tree path name own).0

    pub delattr_refused : is_private_path path ≡ false → (why : Refusal) → to_node tree path ≡ Err why → answer.Refused why ≡ weighed capacity takable volume tree (command.DelAttr path name)
    delattr_refused not_own why is = delete_why why (delete_refused tree path name not_own why is).0

    pub delattr_missing : reply.No refusal.NoAttribute ≡ (step_line tree (Ok (command.DelAttr path name))).0 → answer.Refused refusal.NoAttribute ≡ weighed capacity takable volume tree (command.DelAttr path name)
    delattr_missing is = delete_why refusal.NoAttribute is

    abbrev delete_costs : Result (PlainNode × PlainAttribute) Refusal → Weight
    delete_costs found =
        joined (cost_of (with_values (free_blocks volume) (deleted_value volume name found) (needs_for (free_blocks volume) volume (edits 0 0 1 1) None)) (room_with capacity (free_blocks volume) volume))
        (cost_of (with_values takable (deleted_value volume name found) (needs_for takable volume (edits 0 0 1 1) None)) (room_with capacity takable volume))

    delete_weighs : delete_costs (to_attribute tree path name) ≡ joined (weight capacity volume tree (command.DelAttr path name)) (weight_with capacity takable volume tree (command.DelAttr path name))
    unfolding weight_with
    delete_weighs = refl

    pub delattr_allowed : is_private_path path ≡ false → (node : PlainNode) (attribute : PlainAttribute) → to_attribute tree path name ≡ Ok (node, attribute)
        → values_weighed capacity takable volume (record { ids = 0; catalog = 0; attributes = 1; updates = 1 }) (value_change volume node.id name 0) ≡ weighed capacity takable volume tree (command.DelAttr path name)
    delattr_allowed not_own node attribute is =
        sym (ap delete_costs is) ∙ delete_weighs
        ∙ ap (λ said. refused_or said (joined (weight capacity volume tree (command.DelAttr path name)) (weight_with capacity takable volume tree (command.DelAttr path name)))) (delete_replied tree path name not_own node attribute is)

  module _ (path : List (List ℕ)) where
    make_why : (folder : Bool) (why : Refusal) → reply.No why ≡ (step_line tree (Ok (making folder path))).0 → answer.Refused why ≡ weighed capacity takable volume tree (making folder path)
    make_why folder why is = ap (λ said. refused_or said (joined (weight capacity volume tree (making folder path)) (weight_with capacity takable volume tree (making folder path)))) is

    pub make_private : (folder : Bool) → is_private_path path ≡ true → answer.Refused refusal.Private ≡ weighed capacity takable volume tree (making folder path)
    make_private folder own = make_why folder refusal.Private (private_line tree path folder own).0

    pub make_root : (folder : Bool) → length path ≡ 0 → answer.Refused refusal.Root ≡ weighed capacity takable volume tree (making folder path)
    make_root folder none = make_why folder refusal.Root (root_line tree path folder none).0

    pub make_refused : (folder : Bool) → is_private_path path ≡ false → (why : Refusal) → to_make tree path ≡ Err why → answer.Refused why ≡ weighed capacity takable volume tree (making folder path)
    make_refused folder not_own why is = make_why folder why (refused_line tree path folder why not_own is).0

    make_costs : (folder : Bool) → edits_weighed capacity takable volume (record { ids = 1; catalog = 2; attributes = 0; updates = 1 }) ≡ joined (weight capacity volume tree (making folder path)) (weight_with capacity takable volume tree (making folder path))
    unfolding weight_with
    make_costs true = refl
    make_costs false = refl

    pub make_allowed : (folder : Bool) → is_private_path path ≡ false → (at : Place) → to_make tree path ≡ Ok at
        → edits_weighed capacity takable volume (record { ids = 1; catalog = 2; attributes = 0; updates = 1 }) ≡ weighed capacity takable volume tree (making folder path)
    make_allowed folder not_own at is =
        make_costs folder
        ∙ ap (λ said. refused_or said (joined (weight capacity volume tree (making folder path)) (weight_with capacity takable volume tree (making folder path)))) (made_line tree path folder at not_own is).0
