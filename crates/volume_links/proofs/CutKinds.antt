-- A cut of blocks past the size of a resource fork, as a step of the `rwrite` that puts data into the fork.
use Rattle.std.proofs.Common.{◌≡◌, ◌<◌, ℕ, ◌+◌, ◌==◌, ◌&&◌, Bool, true, false, List, [], ◌∷◌, length, inl, inr, refl, sym, ◌∙◌, ap}
use Rattle.std.specs.Prelude.{Option, None, Some, Ok, if◌then◌else◌}
use Rattle.std.proofs.lemmas.Bool.{true≢false}
use Rattle.jnl_format.specs.Recovery.{Content}
use Rattle.sector_disk.specs.Space.{Space}
use Rattle.hfs_language.specs.declared.reply.Reply.TheVariants as reply
use Rattle.hfs_model.specs.Step.{size_written, to_file}
use Rattle.hfs_model.specs.declared.kinds.KindEdit.TheVariants as edit
use Rattle.hfs_model.specs.declared.plain.PlainNode.{PlainNode}
use Rattle.hfs_volume.specs.Content.{VolumeState, volume_of}
use Rattle.hfs_volume.specs.Forks.{resource_kind}
use Rattle.hfs_volume.specs.KindWeight.{kind_data_of, kind_edits_of, kind_weight, kind_weight_with, resource_data}
use Rattle.hfs_volume.specs.Cost.{cost_of}
use Rattle.hfs_volume.specs.Reclaim.{CutsSurplus}
use Rattle.hfs_volume.specs.Sound.{IsSound}
use Rattle.hfs_volume.specs.TreeOf.{tree_of}
use Rattle.hfs_volume.specs.Weight.{Data, cut_cost, free_blocks, has_surplus_in, needs_cut_in, needs_in, room_with}
use Rattle.hfs_volume.specs.declared.asked.Asked.TheVariants.{Kind}
use Rattle.volume_base.specs.Room.{capacity_of}
use Rattle.volume_base.specs.declared.volume.Volume.{Volume}
use Rattle.volume_runs.specs.Rest.{cut_puts, file_written}
use Rattle.volume_runs.specs.Run.{KindLacksResource}
use Rattle.volume_space.specs.CuttingAhead.{CutsAhead, CutsPast, IsShortCut, cuts_first}
use Rattle.volume_space.specs.declared.cutting_ahead.CutAhead.{CutAhead}
use Rattle.volume_space.specs.declared.cutting_ahead.CutAhead.TheVariants as ahead
use Rattle.volume_step.specs.Steps.{KeepsJournal, outcome_of}
use Rattle.volume_step.specs.declared.outcome.Outcome.TheVariants as outcome
use Rattle.volume_step.proofs.CutSteps.{end_past}
use Rattle.volume_step.proofs.Done.{same_place}
use Rattle.volume_step.proofs.Reclaimed.{cut_place}
use Rattle.volume_links.specs.Steps.{KindStepsTo, KindWaitsForCut}
use Rattle.volume_links.specs.Wanting.{KindLacksRoomToCut}

-- the data that an `rwrite` of so many bytes puts into a file
abbrev put_of : PlainNode → ℕ → ℕ → Data
put_of node from long = record { id = node.id; old_size = length node.resource; new_size = size_written (length node.resource) from long; from = from; end = from + long }

-- where a cut goes ahead of it, the fork gets longer and has blocks past its size
first_of : (volume : VolumeState) (node : PlainNode) (from long : ℕ) (b : Bool) → (long == 0) ≡ b → needs_cut_in resource_kind volume (if◌then◌else◌ {A = Option Data} b None (Some (put_of node from long))) ≡ true
    → (cuts_first resource_kind volume node.id (length node.resource) (from + long) ≡ true) × (file_written (if◌then◌else◌ {A = Option Data} b None (Some (put_of node from long))) ≡ Some node.id)
first_of volume node from long true none needs = absurd (true≢false (sym needs))
first_of volume node from long false some needs = (ap (λ b. b && has_surplus_in resource_kind volume node.id (length node.resource)) (sym (end_past (length node.resource) from long some)) ∙ needs, refl)

module _ (path : List (List ℕ)) (from : ℕ) (value : List ℕ) (before : Content) (waits : KindWaitsForCut before (edit.ResourceWrite path from value)) where
  first_is : (node : PlainNode) → to_file (tree_of before) path ≡ Ok node
      → (cuts_first resource_kind (volume_of before) node.id (length node.resource) (from + length value) ≡ true) × (file_written (kind_data_of (tree_of before) (edit.ResourceWrite path from value)) ≡ Some node.id)
  first_is node file =
      let it = first_of (volume_of before) node from (length value) (length value == 0) refl (sym (ap (λ r. needs_cut_in resource_kind (volume_of before) (resource_data from (length value) r)) file) ∙ waits.1) in
      (it.0, ap (λ r. file_written (resource_data from (length value) r)) file ∙ it.1)

  weighs_cut : (capacity : ℕ) → kind_weight capacity (volume_of before) (tree_of before) (edit.ResourceWrite path from value) ≡ cut_cost (room_with capacity (free_blocks (volume_of before)) (volume_of before))
  unfolding kind_weight_with
  weighs_cut capacity =
      ap (λ b. if b then cut_cost (room_with capacity (free_blocks (volume_of before)) (volume_of before))
      else cost_of (needs_in resource_kind (free_blocks (volume_of before)) (volume_of before) (kind_edits_of (edit.ResourceWrite path from value)) (kind_data_of (tree_of before) (edit.ResourceWrite path from value))) (room_with capacity (free_blocks (volume_of before)) (volume_of before))) waits.1

  module _ (capacity number : ℕ) (after : Content) (sound : IsSound before) where
    cuts_surplus : (id : ℕ) → CutsPast capacity resource_kind id before after → IsSound after → CutsSurplus capacity before after
    cuts_surplus id past sound_after = record {
      id = id;
      load = past.affords.load;
      grow = 0 ∷ 0 ∷ 0 ∷ [];
      affords = past.affords.affords;
      kind = resource_kind;
      cuts = past.cuts.alone;
      keeps = record { sound = sound_after; tree = past.cuts.tree };
    }

    pub cut_steps : (came : CutAhead) → IsSound after → CutsAhead came capacity resource_kind path (from + length value) before after → KindStepsTo (outcome_of came) capacity number (edit.ResourceWrite path from value) before after
    unfolding cuts_surplus
    cut_steps ahead.NotNeeded sound_after (node, file, (first, same)) = absurd (true≢false (sym (first_is node file).0 ∙ first))
    cut_steps ahead.Made sound_after (node, file, (first, past)) =
        inl (record { no_refusal = waits.0; needs = waits.1; cuts = cuts_surplus node.id past sound_after; file = (first_is node file).1; fork = refl })
    cut_steps ahead.CommitFirst sound_after (node, file, (first, same)) = same
    cut_steps (ahead.Refused why) sound_after (node, file, (first, (same, costs))) = λ line. record {
      served = record { served = record { sound_before = sound; sound_after = sound_after; is = inr (inl (lacks line)) }; told = refl };
      decided = inr (lacks line);
    }
      where
        lacks : (line : List ℕ) → KindLacksResource capacity (edit.ResourceWrite path from value) (record { line = line; own = Some (Kind (edit.ResourceWrite path from value)); reply = reply.No why; before = before; after = after })
        lacks line = record { no_refusal = waits.0; why = why; weighs = weighs_cut capacity ∙ costs; reply_is = refl; same = same }

    pub cut_places : (came : CutAhead) → CutsAhead came capacity resource_kind path (from + length value) before after → KeepsJournal before after
    cut_places ahead.NotNeeded (node, file, (first, same)) = same_place before after same
    cut_places ahead.Made (node, file, (first, past)) = cut_place before after past.cuts.keeps
    cut_places ahead.CommitFirst (node, file, (first, same)) = same_place before after same
    cut_places (ahead.Refused why) (node, file, (first, (same, costs))) = same_place before after same

    short_by : (spare : ℕ) (came : CutAhead) → CutsAhead came capacity resource_kind path (from + length value) before after → IsShortCut came capacity spare (volume_of before) → outcome_of came ≡ outcome.CommitFirst
        → spare < cut_puts (room_with capacity (free_blocks (volume_of before)) (volume_of before))
    short_by spare ahead.NotNeeded (node, file, (first, same)) short commits = absurd (true≢false (sym (first_is node file).0 ∙ first))
    short_by spare ahead.Made came short commits = absurd (let no : outcome.Again ≡ outcome.CommitFirst = commits in cc no)
    short_by spare ahead.CommitFirst came short commits = short
    short_by spare (ahead.Refused why) came short commits = absurd (let no : outcome.Answered (reply.No why) [] ≡ outcome.CommitFirst = commits in cc no)

-- a commit comes first only where there is too little room for the cut
pub cut_wants : (v : Volume) (a : Space) (path : List (List ℕ)) (from : ℕ) (value : List ℕ) → KindWaitsForCut a.content (edit.ResourceWrite path from value) → (number : ℕ) (after : Content) → IsSound a.content → (came : CutAhead)
    → CutsAhead came (capacity_of v) resource_kind path (from + length value) a.content after → IsShortCut came (capacity_of v) a.spare (volume_of a.content) → outcome_of came ≡ outcome.CommitFirst → KindLacksRoomToCut v a (edit.ResourceWrite path from value)
cut_wants v a path from value waits number after sound came was short commits = record { needs = waits.1; room = short_by path from value a.content waits (capacity_of v) number after sound a.spare came was short commits }

-- a command that reads waits for no cut
pub read_waits : (content : Content) (path : List (List ℕ)) (from long : ℕ) → KindWaitsForCut content (edit.ResourceRead path from long) → ⊥
read_waits content path from long waits = true≢false (sym waits.1)
