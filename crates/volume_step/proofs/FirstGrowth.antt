-- The tree that grows ahead of a command is the first of those that its load of the blocks that may be taken counts.
use Rattle.std.proofs.Common.{◌≡◌, ℕ, ◌==◌, ◌&&◌, Bool, true, false, not, List, [], ◌∷◌, refl, sym, ◌∙◌, ap, subst}
use Rattle.std.specs.Prelude.{◌||◌, nat_lt, slice_index, Ok, Option, None, Some, if◌then◌else◌}
use Rattle.std.proofs.lemmas.Bool.{and_parts, eqb-true}
use Rattle.jnl_format.specs.Recovery.{Content}
use Rattle.hfs_language.specs.declared.command.Command.{Command}
use Rattle.hfs_language.specs.declared.reply.Reply.{Reply}
use Rattle.hfs_language.specs.declared.reply.Reply.TheVariants as reply
use Rattle.hfs_model.specs.Step.{only_reads, step_line}
use Rattle.hfs_model.specs.declared.plain.PlainTree.{PlainTree}
use Rattle.hfs_volume.specs.Content.{VolumeState, volume_of}
use Rattle.hfs_volume.specs.Cost.{load_refusal}
use Rattle.hfs_volume.specs.TreeOf.{tree_of}
use Rattle.hfs_volume.specs.Weight.{Data, changes_nothing, cut_load, data_of, free_blocks, needs_cut, room_with, weight_with}
use Rattle.hfs_volume.specs.declared.cost.Cost.{Cost}
use Rattle.hfs_volume.specs.declared.cost.Cost.TheVariants as cost
use Rattle.volume_base.specs.Weighing.{joined, refused_or, weighed}
use Rattle.volume_base.specs.declared.weighing.Weight.{Weight}
use Rattle.volume_base.specs.declared.weighing.Weight.TheVariants as answer
use Rattle.volume_space.specs.declared.ahead.WhichTree.TheVariants as which
use Rattle.volume_step.specs.Steps.{GrowsTheFirst, IsTaken, IsTakenAlike, verdict_of}
use Rattle.volume_step.specs.declared.judging.Verdict.{Verdict}
use Rattle.volume_step.specs.declared.judging.Verdict.TheVariants as verdict
use Rattle.volume_step.proofs.Idle.{idle_load}
use Rattle.volume_step.proofs.Judged.{first_attributes, first_catalog, first_extents, none, some}
use Rattle.volume_step.proofs.Loaded.{cut_none, cut_weighs}
use Rattle.volume_step.proofs.Ready.{grows_same}
use Rattle.volume_step.proofs.ReadyData.{data_growth, data_weight}

-- ---- as much grows, whichever blocks count as free

module _ (capacity : ℕ) (one other : List Bool) (volume : VolumeState) (tree : PlainTree) (asked : Command) (unread : only_reads asked ≡ false) (n m : ℕ) (grow more : List ℕ) (is : weight_with capacity one volume tree asked ≡ cost.Load n grow)
    (also : weight_with capacity other volume tree asked ≡ cost.Load m more)
  where
    cut_flat : (free : List Bool) (s : ℕ) (list : List ℕ) → needs_cut volume (data_of tree asked) ≡ true → weight_with capacity free volume tree asked ≡ cost.Load s list → list ≡ 0 ∷ 0 ∷ 0 ∷ []
    cut_flat free s list needs costs =
        cut_none (load_refusal (cut_load (room_with capacity free volume)) (room_with capacity free volume).capacity) (cut_load (room_with capacity free volume)) s list (sym (cut_weighs capacity free volume tree asked unread needs) ∙ costs)

    edits_alike : data_of tree asked ≡ None → slice_index grow 2 ≡ slice_index more 2 → grow ≡ more
    edits_alike no_data third = by (only_reads asked || changes_nothing tree asked) refl
      where
        by : (b : Bool) → (only_reads asked || changes_nothing tree asked) ≡ b → grow ≡ more
        by true idle = (idle_load capacity one volume tree asked idle n grow is).1 ∙ sym (idle_load capacity other volume tree asked idle m more also).1
        by false works = grows_same capacity one other volume tree asked works no_data n m grow more is also third

    data_alike : (put : Data) → data_of tree asked ≡ Some put → needs_cut volume (data_of tree asked) ≡ false → slice_index grow 0 ≡ slice_index more 0 → grow ≡ more
    data_alike put puts uncut same =
        data_growth capacity one volume put n grow (sym (data_weight capacity one volume tree asked put puts (ap (needs_cut volume) (sym puts) ∙ uncut)) ∙ is)
        ∙ (λ i. same i ∷ 0 ∷ 0 ∷ [])
        ∙ sym (data_growth capacity other volume put m more (sym (data_weight capacity other volume tree asked put puts (ap (needs_cut volume) (sym puts) ∙ uncut)) ∙ also))

    grow_alike : slice_index grow 0 ≡ slice_index more 0 → slice_index grow 2 ≡ slice_index more 2 → grow ≡ more
    grow_alike same third = by (needs_cut volume (data_of tree asked)) refl (data_of tree asked) refl
      where
        by : (b : Bool) → needs_cut volume (data_of tree asked) ≡ b → (d : Option Data) → data_of tree asked ≡ d → grow ≡ more
        by true needs d puts = cut_flat one n grow needs is ∙ sym (cut_flat other m more needs also)
        by false uncut None puts = edits_alike puts third
        by false uncut (Some put) puts = data_alike put puts uncut same

-- ---- the verdict

module _ (capacity : ℕ) (takable free : List Bool) (content : Content) (asked : Command) (spare : ℕ) (unread : only_reads asked ≡ false) (n : ℕ) (grow : List ℕ) (costs : weight_with capacity takable (volume_of content) (tree_of content) asked ≡ cost.Load n grow) where
  by_grow : GrowsTheFirst (verdict_of (answer.Load n grow) spare) grow
  by_grow = by (slice_index grow 0 == 0) (slice_index grow 1 == 0) (slice_index grow 2 == 0) refl refl refl
    where
      by_spare : (b : Bool) → GrowsTheFirst (if b then verdict.CommitFirst else verdict.Fits) grow
      by_spare true = tt
      by_spare false = tt

      by : (x y z : Bool) → (slice_index grow 0 == 0) ≡ x → (slice_index grow 1 == 0) ≡ y → (slice_index grow 2 == 0) ≡ z
          → GrowsTheFirst (if not x then verdict.Grows which.Extents (slice_index grow 0) else if not y then verdict.Grows which.Catalog (slice_index grow 1) else if not z then verdict.Grows which.Attributes (slice_index grow 2) else (if nat_lt spare n then verdict.CommitFirst else verdict.Fits)) grow
      by false y z one two three_ = (some (slice_index grow 0) one, first_extents grow (some (slice_index grow 0) one))
      by true false z one two three_ = (some (slice_index grow 1) two, first_catalog grow (none (slice_index grow 0) one) (some (slice_index grow 1) two))
      by true true false one two three_ = (some (slice_index grow 2) three_, first_attributes grow (none (slice_index grow 0) one) (none (slice_index grow 1) two))
      by true true true one two three_ = by_spare (nat_lt spare n)

  of_costs : (one : Cost) → weight_with capacity free (volume_of content) (tree_of content) asked ≡ one → GrowsTheFirst (verdict_of (joined one (cost.Load n grow)) spare) grow
  of_costs (cost.Refused why) is = tt
  of_costs (cost.Load m more) is = by ((slice_index more 0 == slice_index grow 0) && (slice_index more 2 == slice_index grow 2)) refl
    where
      by : (b : Bool) → ((slice_index more 0 == slice_index grow 0) && (slice_index more 2 == slice_index grow 2)) ≡ b → GrowsTheFirst (verdict_of (if b then answer.Load n more else answer.CommitFirst) spare) grow
      by true same =
          let parts = and_parts (slice_index more 0 == slice_index grow 0) (slice_index more 2 == slice_index grow 2) same in
          subst (λ (l : List ℕ). GrowsTheFirst (verdict_of (answer.Load n l) spare) grow)
          (sym (grow_alike capacity free takable (volume_of content) (tree_of content) asked unread m n more grow is costs (eqb-true (slice_index more 0) (slice_index grow 0) parts.0) (eqb-true (slice_index more 2) (slice_index grow 2) parts.1))) by_grow
      by false same = tt

  of_reply : (said : Reply) (weighs : Weight) → GrowsTheFirst (verdict_of weighs spare) grow → GrowsTheFirst (verdict_of (refused_or said weighs) spare) grow
  of_reply (reply.No why) weighs goes = tt
  of_reply reply.Ok weighs goes = goes
  of_reply (reply.Listing list) weighs goes = goes
  of_reply (reply.Facts facts) weighs goes = goes
  of_reply (reply.Content bytes) weighs goes = goes
  of_reply (reply.Gauge gauge) weighs goes = goes

  first_of : GrowsTheFirst (verdict_of (refused_or (step_line (tree_of content) (Ok asked)).0 (joined (weight_with capacity free (volume_of content) (tree_of content) asked) (weight_with capacity takable (volume_of content) (tree_of content) asked))) spare) grow
  first_of =
      of_reply (step_line (tree_of content) (Ok asked)).0 (joined (weight_with capacity free (volume_of content) (tree_of content) asked) (weight_with capacity takable (volume_of content) (tree_of content) asked))
      (subst (λ (k : Cost). GrowsTheFirst (verdict_of (joined (weight_with capacity free (volume_of content) (tree_of content) asked) k) spare) grow) (sym costs) (of_costs (weight_with capacity free (volume_of content) (tree_of content) asked) refl))

pub first_weight : (capacity : ℕ) (takable : List Bool) (content : Content) (asked : Command) (spare : ℕ) → only_reads asked ≡ false → (n : ℕ) (grow : List ℕ) → weight_with capacity takable (volume_of content) (tree_of content) asked ≡ cost.Load n grow
    → (weighs : Weight) → weighs ≡ weighed capacity takable (volume_of content) (tree_of content) asked → GrowsTheFirst (verdict_of weighs spare) grow
first_weight capacity takable content asked spare unread n grow costs weighs is = subst (λ (w : Weight). GrowsTheFirst (verdict_of w spare) grow) (sym is) (first_of capacity takable (free_blocks (volume_of content)) content asked spare unread n grow costs)

-- a cut may come first
pub taken_alike : (it : Verdict) (grow : List ℕ) → IsTaken it grow → IsTakenAlike it grow
taken_alike (verdict.Refused why) grow is = tt
taken_alike verdict.CutFirst grow is = tt
taken_alike verdict.CommitFirst grow is = is
taken_alike (verdict.Grows tree more) grow is = is
taken_alike verdict.Fits grow is = is
