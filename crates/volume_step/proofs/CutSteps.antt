-- A cut of blocks past a file's size, as a step of the command that puts data into the file.
use Rattle.std.proofs.Common.{◌≡◌, ◌<◌, ℕ, ◌+◌, ◌==◌, ◌&&◌, Bool, true, false, [], ◌∷◌, length, inl, inr, refl, sym, ◌∙◌, ap, subst, arith}
use Rattle.std.specs.Prelude.{nat_lt, Option, None, Some, Result, Ok, Err, if◌then◌else◌}
use Rattle.std.proofs.lemmas.Bool.{le-ltb, true≢false}
use Rattle.sector_disk.specs.Lists.{Content}
use Rattle.hfs_language.specs.declared.command.Command.{Command}
use Rattle.hfs_language.specs.declared.command.Command.TheVariants as command
use Rattle.hfs_language.specs.declared.refusal.Refusal.{Refusal}
use Rattle.hfs_model.specs.Step.{only_reads, size_written, to_file}
use Rattle.hfs_model.specs.declared.plain.PlainNode.{PlainNode}
use Rattle.hfs_model.specs.declared.plain.PlainTree.{PlainTree}
use Rattle.hfs_volume.specs.Content.{VolumeState, volume_of}
use Rattle.hfs_volume.specs.Forks.{data_kind}
use Rattle.hfs_volume.specs.Reclaim.{CutsSurplus}
use Rattle.hfs_volume.specs.Sound.{IsSound}
use Rattle.hfs_volume.specs.TreeOf.{tree_of}
use Rattle.hfs_volume.specs.Weight.{Data, data_of, free_blocks, grown_data, has_surplus, needs_cut, room_with, written_data}
use Rattle.hfs_volume.specs.declared.cost.Cost.TheVariants as cost
use Rattle.hfs_volume.proofs.Flat.{none_or_some, some_same}
use Rattle.volume_runs.specs.Rest.{cut_puts, file_written}
use Rattle.volume_space.specs.CuttingAhead.{CutsAhead, CutsPast, IsShortCut, cuts_first}
use Rattle.volume_weights.specs.DataWeighing.{WaitsForCut}
use Rattle.volume_space.specs.declared.cutting_ahead.CutAhead.{CutAhead}
use Rattle.volume_space.specs.declared.cutting_ahead.CutAhead.TheVariants as ahead
use Rattle.volume_step.specs.Steps.{KeepsJournal, ShrinksAs, StepsTo, data_end, data_path, outcome_of}
use Rattle.volume_step.specs.declared.outcome.Outcome.{Outcome}
use Rattle.volume_step.specs.declared.outcome.Outcome.TheVariants as outcome
use Rattle.hfs_language.specs.declared.reply.Reply.TheVariants as reply
use Rattle.volume_step.proofs.Done.{refused_steps, same_place}
use Rattle.volume_step.proofs.Loaded.{cut_weighs}
use Rattle.volume_step.proofs.Reclaimed.{cut_place}

-- ---- the data that a command puts

-- it ends past the file's end exactly where the file gets longer
pub end_past : (size from long : ℕ) → (long == 0) ≡ false → nat_lt size (size_written size from long) ≡ nat_lt size (from + long)
end_past size from long some = ap (λ b. nat_lt size (if b then size else if nat_lt size (from + long) then from + long else size)) some ∙ by (nat_lt size (from + long)) refl
  where
    by : (b : Bool) → nat_lt size (from + long) ≡ b → nat_lt size (if b then from + long else size) ≡ b
    by true more = more
    by false less = le-ltb size size (omega arith)

written_first : (volume : VolumeState) (node : PlainNode) (from long end : ℕ) (b : Bool) → (long == 0) ≡ b → (if b then None else Some (from + long)) ≡ Some end
    → needs_cut volume (if◌then◌else◌ {A = Option Data} b None (Some (record { id = node.id; old_size = length node.bytes; new_size = size_written (length node.bytes) from long; from = from; end = from + long }))) ≡ cuts_first data_kind volume node.id (length node.bytes) end
written_first volume node from long end true none is = absurd (none_or_some end is)
written_first volume node from long end false some is =
    ap (λ b. b && has_surplus volume node.id (length node.bytes)) (end_past (length node.bytes) from long some ∙ ap (nat_lt (length node.bytes)) (some_same (from + long) end is))

grown_first : (volume : VolumeState) (node : PlainNode) (size : ℕ) (b : Bool) → nat_lt (length node.bytes) size ≡ b
    → needs_cut volume (if◌then◌else◌ {A = Option Data} b (Some (record { id = node.id; old_size = length node.bytes; new_size = size; from = length node.bytes; end = size })) None) ≡ b && has_surplus volume node.id (length node.bytes)
grown_first volume node size true more = ap (λ b. b && has_surplus volume node.id (length node.bytes)) more
grown_first volume node size false less = refl

-- a cut goes first exactly where data up to the command's end makes its file longer, and the file has blocks past its size
pub needs_first : (volume : VolumeState) (tree : PlainTree) (asked : Command) (end : ℕ) → data_end asked ≡ Some end → (node : PlainNode) → to_file tree (data_path asked) ≡ Ok node
    → needs_cut volume (data_of tree asked) ≡ cuts_first data_kind volume node.id (length node.bytes) end
needs_first volume tree (command.Write path from value) end is node file = ap (λ r. needs_cut volume (written_data from (length value) r)) file ∙ written_first volume node from (length value) end (length value == 0) refl is
needs_first volume tree (command.Trunc path size) end is node file =
    ap (λ r. needs_cut volume (grown_data size r)) file ∙ grown_first volume node size (nat_lt (length node.bytes) size) refl ∙ ap (λ n. nat_lt (length node.bytes) n && has_surplus volume node.id (length node.bytes)) (some_same size end is)
needs_first volume tree (command.Mkdir p) end is node file = absurd (none_or_some end is)
needs_first volume tree (command.Create p) end is node file = absurd (none_or_some end is)
needs_first volume tree (command.Rm p) end is node file = absurd (none_or_some end is)
needs_first volume tree (command.Rmdir p) end is node file = absurd (none_or_some end is)
needs_first volume tree (command.Mv p q) end is node file = absurd (none_or_some end is)
needs_first volume tree (command.Ln p q) end is node file = absurd (none_or_some end is)
needs_first volume tree (command.Read p n m) end is node file = absurd (none_or_some end is)
needs_first volume tree (command.Ls p) end is node file = absurd (none_or_some end is)
needs_first volume tree (command.Stat p) end is node file = absurd (none_or_some end is)
needs_first volume tree (command.Chmod p m) end is node file = absurd (none_or_some end is)
needs_first volume tree (command.SetAttr p n v) end is node file = absurd (none_or_some end is)
needs_first volume tree (command.GetAttr p n) end is node file = absurd (none_or_some end is)
needs_first volume tree (command.DelAttr p n) end is node file = absurd (none_or_some end is)
needs_first volume tree (command.LsAttr p) end is node file = absurd (none_or_some end is)
needs_first volume tree (command.At n) end is node file = absurd (none_or_some end is)
needs_first volume tree command.Df end is node file = absurd (none_or_some end is)
needs_first volume tree command.Sync end is node file = absurd (none_or_some end is)

-- a command that puts no data
no_end : (tree : PlainTree) (asked : Command) → data_end asked ≡ None → data_of tree asked ≡ None
no_end tree (command.Write path from value) is = by (length value == 0) refl is (to_file tree path)
  where
    by : (b : Bool) → (length value == 0) ≡ b → (if b then None else Some (from + length value)) ≡ None → (r : Result PlainNode Refusal) → written_data from (length value) r ≡ None
    by true none same (Ok file) = ap (λ b. if◌then◌else◌ {A = Option Data} b None (Some (record { id = file.id; old_size = length file.bytes; new_size = size_written (length file.bytes) from (length value); from = from; end = from + length value }))) none
    by true none same (Err why) = refl
    by false some same r = absurd (none_or_some (from + length value) (sym same))
no_end tree (command.Trunc path size) is = absurd (none_or_some size (sym is))
no_end tree (command.Mkdir p) is = refl
no_end tree (command.Create p) is = refl
no_end tree (command.Rm p) is = refl
no_end tree (command.Rmdir p) is = refl
no_end tree (command.Mv p q) is = refl
no_end tree (command.Ln p q) is = refl
no_end tree (command.Read p n m) is = refl
no_end tree (command.Ls p) is = refl
no_end tree (command.Stat p) is = refl
no_end tree (command.Chmod p m) is = refl
no_end tree (command.SetAttr p n v) is = refl
no_end tree (command.GetAttr p n) is = refl
no_end tree (command.DelAttr p n) is = refl
no_end tree (command.LsAttr p) is = refl
no_end tree (command.At n) is = refl
no_end tree command.Df is = refl
no_end tree command.Sync is = refl

-- the file that is cut is the one that the command puts data into
put_id : (put : Data) (volume : VolumeState) (b : Bool) → needs_cut volume (if◌then◌else◌ {A = Option Data} b (Some put) None) ≡ true → file_written (if◌then◌else◌ {A = Option Data} b (Some put) None) ≡ Some put.id
put_id put volume true needs = refl
put_id put volume false needs = absurd (true≢false (sym needs))

empty_id : (put : Data) (volume : VolumeState) (b : Bool) → needs_cut volume (if◌then◌else◌ {A = Option Data} b None (Some put)) ≡ true → file_written (if◌then◌else◌ {A = Option Data} b None (Some put)) ≡ Some put.id
empty_id put volume true needs = absurd (true≢false (sym needs))
empty_id put volume false needs = refl

file_cut : (volume : VolumeState) (tree : PlainTree) (asked : Command) → needs_cut volume (data_of tree asked) ≡ true → (node : PlainNode) → to_file tree (data_path asked) ≡ Ok node → file_written (data_of tree asked) ≡ Some node.id
file_cut volume tree (command.Write path from value) needs node file =
    ap (λ r. file_written (written_data from (length value) r)) file
    ∙ empty_id (record { id = node.id; old_size = length node.bytes; new_size = size_written (length node.bytes) from (length value); from = from; end = from + length value }) volume (length value == 0)
    (sym (ap (λ r. needs_cut volume (written_data from (length value) r)) file) ∙ needs)
file_cut volume tree (command.Trunc path size) needs node file =
    ap (λ r. file_written (grown_data size r)) file
    ∙ put_id (record { id = node.id; old_size = length node.bytes; new_size = size; from = length node.bytes; end = size }) volume (nat_lt (length node.bytes) size) (sym (ap (λ r. needs_cut volume (grown_data size r)) file) ∙ needs)
file_cut volume tree (command.Mkdir p) needs node file = absurd (true≢false (sym needs))
file_cut volume tree (command.Create p) needs node file = absurd (true≢false (sym needs))
file_cut volume tree (command.Rm p) needs node file = absurd (true≢false (sym needs))
file_cut volume tree (command.Rmdir p) needs node file = absurd (true≢false (sym needs))
file_cut volume tree (command.Mv p q) needs node file = absurd (true≢false (sym needs))
file_cut volume tree (command.Ln p q) needs node file = absurd (true≢false (sym needs))
file_cut volume tree (command.Read p n m) needs node file = absurd (true≢false (sym needs))
file_cut volume tree (command.Ls p) needs node file = absurd (true≢false (sym needs))
file_cut volume tree (command.Stat p) needs node file = absurd (true≢false (sym needs))
file_cut volume tree (command.Chmod p m) needs node file = absurd (true≢false (sym needs))
file_cut volume tree (command.SetAttr p n v) needs node file = absurd (true≢false (sym needs))
file_cut volume tree (command.GetAttr p n) needs node file = absurd (true≢false (sym needs))
file_cut volume tree (command.DelAttr p n) needs node file = absurd (true≢false (sym needs))
file_cut volume tree (command.LsAttr p) needs node file = absurd (true≢false (sym needs))
file_cut volume tree (command.At n) needs node file = absurd (true≢false (sym needs))
file_cut volume tree command.Df needs node file = absurd (true≢false (sym needs))
file_cut volume tree command.Sync needs node file = absurd (true≢false (sym needs))

-- ---- the cut

-- blocks of its data fork past its size were cut
surplus_cut : (capacity id : ℕ) (before after : Content) → CutsPast capacity data_kind id before after → IsSound after → (cuts : CutsSurplus capacity before after) × (cuts.id ≡ id) × (cuts.kind ≡ data_kind)
surplus_cut capacity id before after past sound_after = (
  record {
    id = id;
    load = past.affords.load;
    grow = 0 ∷ 0 ∷ 0 ∷ [];
    affords = past.affords.affords;
    kind = data_kind;
    cuts = past.cuts.alone;
    keeps = record { sound = sound_after; tree = past.cuts.tree };
  },
  refl,
  refl,
)

-- it puts data
pub never_dry : (asked : Command) (before : Content) → WaitsForCut before asked → data_end asked ≡ None → ⊥
never_dry asked before waits none = true≢false (sym waits.1 ∙ ap (needs_cut (volume_of before)) (no_end (tree_of before) asked none))

module _ (capacity number : ℕ) (asked : Command) (before after : Content) (waits : WaitsForCut before asked) where
  pub dry_steps : data_end asked ≡ None → (it : Outcome) → StepsTo it capacity number asked before after
  dry_steps none it = absurd (never_dry asked before waits none)

  module _ (unread : only_reads asked ≡ false) (sound : IsSound before) (end : ℕ) (is : data_end asked ≡ Some end) where
    pub steps_by : (came : CutAhead) → IsSound after → CutsAhead came capacity data_kind (data_path asked) end before after → StepsTo (outcome_of came) capacity number asked before after
    steps_by ahead.NotNeeded sound_after (node, file, (first, same)) =
        absurd (true≢false (sym waits.1 ∙ needs_first (volume_of before) (tree_of before) asked end is node file ∙ first))
    steps_by ahead.Made sound_after (node, file, (first, past)) =
        let cut = surplus_cut capacity node.id before after past sound_after in
        inl (record { no_refusal = waits.0; needs = waits.1; cuts = cut.0; file = file_cut (volume_of before) (tree_of before) asked waits.1 node file ∙ ap Some (sym cut.1); fork = cut.2 })
    steps_by ahead.CommitFirst sound_after (node, file, (first, same)) = same
    steps_by (ahead.Refused why) sound_after (node, file, (first, (same, costs))) =
        refused_steps capacity number asked before after same sound unread why (inr (waits.0, cut_weighs capacity (free_blocks (volume_of before)) (volume_of before) (tree_of before) asked unread waits.1 ∙ costs)) (outcome_of (ahead.Refused why)) refl

    pub place_by : (came : CutAhead) → IsSound after → CutsAhead came capacity data_kind (data_path asked) end before after → KeepsJournal before after
    place_by ahead.NotNeeded sound_after (node, file, (first, same)) = same_place before after same
    place_by ahead.Made sound_after (node, file, (first, past)) = cut_place before after past.cuts.keeps
    place_by ahead.CommitFirst sound_after (node, file, (first, same)) = same_place before after same
    place_by (ahead.Refused why) sound_after (node, file, (first, (same, costs))) = same_place before after same

  -- the file that was shrunk last
  pub cut_shrinks : (old new : Option ℕ) → new ≡ old → (came : CutAhead) (it : Outcome) → it ≡ outcome_of came → ShrinksAs it asked before old new
  cut_shrinks old new same came it it_is = subst (λ (o : Outcome). ShrinksAs o asked before old new) (sym it_is) (by came)
    where
      by : (c : CutAhead) → ShrinksAs (outcome_of c) asked before old new
      by ahead.NotNeeded = same
      by ahead.Made = same
      by ahead.CommitFirst = same
      by (ahead.Refused why) = same

-- a commit comes first only where there is too little room for the cut
pub short_by : (capacity : ℕ) (asked : Command) (before after : Content) (spare : ℕ) → WaitsForCut before asked → (end : ℕ) → data_end asked ≡ Some end → (came : CutAhead) → CutsAhead came capacity data_kind (data_path asked) end before after → IsShortCut came capacity spare (volume_of before) → outcome_of came ≡ outcome.CommitFirst
    → spare < cut_puts (room_with capacity (free_blocks (volume_of before)) (volume_of before))
short_by capacity asked before after spare waits end is ahead.NotNeeded (node, file, (first, same)) short commits = absurd (true≢false (sym waits.1 ∙ needs_first (volume_of before) (tree_of before) asked end is node file ∙ first))
short_by capacity asked before after spare waits end is ahead.Made came short commits = absurd (let no : outcome.Again ≡ outcome.CommitFirst = commits in cc no)
short_by capacity asked before after spare waits end is ahead.CommitFirst came short commits = short
short_by capacity asked before after spare waits end is (ahead.Refused why) came short commits = absurd (let no : outcome.Answered (reply.No why) [] ≡ outcome.CommitFirst = commits in cc no)
