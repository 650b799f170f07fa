-- What `write` and `trunc` weigh that put no data: the update of a record.
use Rattle.std.proofs.Common.{◌≡◌, ◌≤◌, ℕ, Bool, List, [], ◌∷◌, length, refl, sym, ◌∙◌, ap}
use Rattle.std.specs.Prelude.{Option, Some, None, Ok, if◌then◌else◌}
use Rattle.hfs_language.specs.declared.command.Command.TheVariants as command
use Rattle.hfs_language.specs.declared.reply.Facts.{Facts}
use Rattle.hfs_language.specs.declared.reply.Reply.{Reply}
use Rattle.hfs_language.specs.declared.reply.Reply.TheVariants as reply
use Rattle.hfs_model.specs.Step.{Step, step_line}
use Rattle.hfs_model.specs.declared.plain.PlainTree.{PlainTree}
use Rattle.hfs_volume.specs.Content.{VolumeState}
use Rattle.hfs_volume.specs.Cost.{cost_of}
use Rattle.hfs_volume.specs.Weight.{Data, cut_cost, data_of, edits, free_blocks, needs_cut, needs_for, room_with, weight, weight_with}
use Rattle.volume_base.specs.Refusing.{against_trunc, against_write, facts_or}
use Rattle.volume_base.specs.Weighing.{edits_weighed, joined, refused_or, weighed}
use Rattle.volume_base.proofs.ToldFile.{empty_data, empty_line, short_data, told_node, trunc_line, trunc_told, write_told}

-- the update of a record, and the data that is put
pub trunc_weight : (capacity : ℕ) (free : List Bool) (volume : VolumeState) (tree : PlainTree) (path : List (List ℕ)) (size : ℕ) → data_of tree (command.Trunc path size) ≡ None
    → weight_with capacity free volume tree (command.Trunc path size) ≡ cost_of (needs_for free volume (edits 0 0 0 1) None) (room_with capacity free volume)
unfolding weight_with
trunc_weight capacity free volume tree path size none =
    ap (λ (d : Option Data). if needs_cut volume d then cut_cost (room_with capacity free volume) else cost_of (needs_for free volume (edits 0 0 0 1) d) (room_with capacity free volume)) none

write_weight : (capacity : ℕ) (free : List Bool) (volume : VolumeState) (tree : PlainTree) (path : List (List ℕ)) (from : ℕ) (value : List ℕ) → data_of tree (command.Write path from value) ≡ None
    → weight_with capacity free volume tree (command.Write path from value) ≡ cost_of (needs_for free volume (edits 0 0 0 1) None) (room_with capacity free volume)
unfolding weight_with
write_weight capacity free volume tree path from value none =
    ap (λ (d : Option Data). if needs_cut volume d then cut_cost (room_with capacity free volume) else cost_of (needs_for free volume (edits 0 0 0 1) d) (room_with capacity free volume)) none

module _ (capacity : ℕ) (takable : List Bool) (volume : VolumeState) (tree : PlainTree) (path : List (List ℕ)) (told : Facts) (is : Ok told ≡ facts_or (step_line tree (Ok (command.Stat path))).0) where
  pub size_weighed : (size : ℕ) → None ≡ against_trunc size told → size ≤ told.size
      → edits_weighed capacity takable volume (record { ids = 0; catalog = 0; attributes = 0; updates = 1 }) ≡ weighed capacity takable volume tree (command.Trunc path size)
  size_weighed size none short =
      let it = told_node tree path told is in
      let about = trunc_told tree path told it size none in
      let no_data = short_data tree path told it.node about.0 size short in
      sym (λ i. joined (trunc_weight capacity (free_blocks volume) volume tree path size no_data i) (trunc_weight capacity takable volume tree path size no_data i))
      ∙ sym (ap (λ (s : Step). refused_or s.0 (joined (weight capacity volume tree (command.Trunc path size)) (weight_with capacity takable volume tree (command.Trunc path size)))) (trunc_line tree path told it.node about.0 size about.1))

  pub value_weighed : (from : ℕ) (value : List ℕ) → None ≡ against_write from (length value) told → length value ≡ 0
      → edits_weighed capacity takable volume (record { ids = 0; catalog = 0; attributes = 0; updates = 1 }) ≡ weighed capacity takable volume tree (command.Write path from value)
  value_weighed from value none empty =
      let it = told_node tree path told is in
      let about = write_told tree path told it from value none in
      let no_data = empty_data tree path told it.node about.0 from value empty in
      sym (λ i. joined (write_weight capacity (free_blocks volume) volume tree path from value no_data i) (write_weight capacity takable volume tree path from value no_data i))
      ∙ sym (ap (λ (s : Step). refused_or s.0 (joined (weight capacity volume tree (command.Write path from value)) (weight_with capacity takable volume tree (command.Write path from value)))) (empty_line tree path told it.node about.0 from value empty about.1))
