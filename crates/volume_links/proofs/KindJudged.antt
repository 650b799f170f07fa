-- A verdict on a command on a link or a fork stands by what the command weighs.
use Rattle.std.proofs.Common.{◌≡◌, ◌<◌, ℕ, Bool, true, false, List, [], ◌∷◌, inl, inr, refl, sym, ◌∙◌, ap, subst}
use Rattle.std.specs.Prelude.{◌&&◌, ◌==◌, nat_lt, not, Option, None, Some, slice_index, if◌then◌else◌}
use Rattle.jnl_format.specs.Recovery.{Content}
use Rattle.hfs_language.specs.declared.refusal.Refusal.{Refusal}
use Rattle.hfs_language.specs.declared.reply.Reply.{Reply}
use Rattle.hfs_language.specs.declared.reply.Reply.TheVariants as reply
use Rattle.hfs_model.specs.Kinds.{kind_refuses, kind_told}
use Rattle.hfs_model.specs.Step.{is_refusal}
use Rattle.hfs_model.specs.declared.kinds.KindEdit.{KindEdit}
use Rattle.hfs_volume.specs.Content.{volume_of}
use Rattle.hfs_volume.specs.Cost.{cost_of, cost_or, load_refusal}
use Rattle.hfs_volume.specs.KindWeight.{fork_of_edit, kind_data_of, kind_edits_of, kind_only_reads, kind_weight, kind_weight_with}
use Rattle.hfs_volume.specs.Reclaim.{first_growth}
use Rattle.hfs_volume.specs.TreeOf.{tree_of}
use Rattle.hfs_volume.specs.Weight.{cut_cost, cut_load, free_blocks, needs_cut_in, needs_in, room_with}
use Rattle.hfs_volume.specs.declared.cost.Cost.{Cost}
use Rattle.hfs_volume.specs.declared.cost.Cost.TheVariants as cost
use Rattle.hfs_volume.specs.declared.cost.Needs.{Needs}
use Rattle.hfs_volume.specs.declared.cost.Room.{Room}
use Rattle.volume_base.specs.Weighing.{joined, refused_or}
use Rattle.volume_base.specs.declared.weighing.Weight.{Weight}
use Rattle.volume_base.specs.declared.weighing.Weight.TheVariants as answer
use Rattle.volume_space.specs.Growing.{alone}
use Rattle.volume_space.specs.declared.ahead.WhichTree.{WhichTree}
use Rattle.volume_space.specs.declared.ahead.WhichTree.TheVariants as which
use Rattle.volume_step.specs.Steps.{verdict_of}
use Rattle.volume_step.specs.declared.judging.Verdict.TheVariants as verdict
use Rattle.volume_step.proofs.Judged.{first_attributes, first_catalog, first_extents, none, some, three_of}
use Rattle.volume_links.specs.Judging.{IsKindJudged, KindWaitsForGrowth}
use Rattle.volume_links.specs.Steps.{kind_weighed}

abbrev grow_in : List ℕ → Cost → List ℕ
grow_in other (cost.Load n grow) = grow
grow_in other (cost.Refused why) = other

abbrev pub IsThree : List ℕ → Type 0
IsThree grow = grow ≡ slice_index grow 0 ∷ slice_index grow 1 ∷ slice_index grow 2 ∷ []

three_cut : (room : Room) (s : ℕ) (grow : List ℕ) → cut_cost room ≡ cost.Load s grow → IsThree grow
three_cut room s grow is = by (load_refusal (cut_load room) room.capacity) is
  where
    by : (refused : Option Refusal) → cost_or refused (cut_load room) (0 ∷ 0 ∷ 0 ∷ []) ≡ cost.Load s grow → IsThree grow
    by None it = subst IsThree (ap (grow_in grow) it) refl
    by (Some why) it = absurd (let none_ : cost.Refused why ≡ cost.Load s grow = it in cc none_)

three_choice : (reads cut : Bool) (room : Room) (needs : Needs) (s : ℕ) (grow : List ℕ) → (if reads then cost.Load 0 (0 ∷ 0 ∷ 0 ∷ []) else if cut then cut_cost room else cost_of needs room) ≡ cost.Load s grow → IsThree grow
three_choice true cut room needs s grow is = subst IsThree (ap (grow_in grow) is) refl
three_choice false true room needs s grow is = three_cut room s grow is
three_choice false false room needs s grow is = three_of needs room s grow is

-- a load has three numbers of nodes, whichever blocks count as free
pub kind_three : (capacity : ℕ) (free : List Bool) (content : Content) (asked : KindEdit) (s : ℕ) (grow : List ℕ) → kind_weight_with capacity free (volume_of content) (tree_of content) asked ≡ cost.Load s grow → IsThree grow
unfolding kind_weight_with
kind_three capacity free content asked s grow is =
    three_choice (kind_only_reads asked) (needs_cut_in (fork_of_edit asked) (volume_of content) (kind_data_of (tree_of content) asked)) (room_with capacity free (volume_of content))
    (needs_in (fork_of_edit asked) free (volume_of content) (kind_edits_of asked) (kind_data_of (tree_of content) asked)) s grow is

-- one that isn't to be cut first isn't
pub not_cut : (b : Bool) → (b ≡ true → ⊥) → b ≡ false
not_cut true never = absurd (never refl)
not_cut false never = refl

module _ (capacity : ℕ) (takable : List Bool) (content : Content) (asked : KindEdit) (spare : ℕ)
    (uncut : kind_refuses (tree_of content) asked ≡ false → needs_cut_in (fork_of_edit asked) (volume_of content) (kind_data_of (tree_of content) asked) ≡ false)
  where
    -- of the trees that are to grow the first grows, or none is to
    of_load : kind_refuses (tree_of content) asked ≡ false → (s t : ℕ) (grow : List ℕ) → kind_weight capacity (volume_of content) (tree_of content) asked ≡ cost.Load s grow → IsKindJudged (verdict_of (answer.Load t grow) spare) capacity asked content
    of_load fine s t grow is = by (slice_index grow 0 == 0) (slice_index grow 1 == 0) (slice_index grow 2 == 0) refl refl refl
      where
        waits : (tree : WhichTree) (more : ℕ) → 0 < more → first_growth grow ≡ alone tree more → KindWaitsForGrowth tree more capacity asked content
        waits tree more any first = record { no_refusal = fine; uncut = uncut fine; load = s; grow = grow; weighs = is; some = any; first = first }

        by_spare : (b : Bool) → grow ≡ 0 ∷ 0 ∷ 0 ∷ [] → IsKindJudged (if b then verdict.CommitFirst else verdict.Fits) capacity asked content
        by_spare true all = (fine, uncut fine)
        by_spare false all = (record { no_refusal = fine; load = s; affords = is ∙ ap (cost.Load s) all }, uncut fine)

        by : (x y z : Bool) → (slice_index grow 0 == 0) ≡ x → (slice_index grow 1 == 0) ≡ y → (slice_index grow 2 == 0) ≡ z
            → IsKindJudged (if not x then verdict.Grows which.Extents (slice_index grow 0) else if not y then verdict.Grows which.Catalog (slice_index grow 1) else if not z then verdict.Grows which.Attributes (slice_index grow 2) else (if nat_lt spare t then verdict.CommitFirst else verdict.Fits)) capacity asked content
        by false y z one two three_ = waits which.Extents (slice_index grow 0) (some (slice_index grow 0) one) (first_extents grow (some (slice_index grow 0) one))
        by true false z one two three_ = waits which.Catalog (slice_index grow 1) (some (slice_index grow 1) two) (first_catalog grow (none (slice_index grow 0) one) (some (slice_index grow 1) two))
        by true true false one two three_ = waits which.Attributes (slice_index grow 2) (some (slice_index grow 2) three_) (first_attributes grow (none (slice_index grow 0) one) (none (slice_index grow 1) two))
        by true true true one two three_ =
            by_spare (nat_lt spare t) (kind_three capacity (free_blocks (volume_of content)) content asked s grow is ∙ (λ i. none (slice_index grow 0) one i ∷ none (slice_index grow 1) two i ∷ none (slice_index grow 2) three_ i ∷ []))

    of_costs : kind_refuses (tree_of content) asked ≡ false → (one other : Cost) → kind_weight capacity (volume_of content) (tree_of content) asked ≡ one → IsKindJudged (verdict_of (joined one other) spare) capacity asked content
    of_costs fine (cost.Refused why) other is = inr (fine, is)
    of_costs fine (cost.Load s grow) (cost.Refused why) is = (fine, uncut fine)
    of_costs fine (cost.Load s grow) (cost.Load t more) is = by ((slice_index grow 0 == slice_index more 0) && (slice_index grow 2 == slice_index more 2))
      where
        by : (b : Bool) → IsKindJudged (verdict_of (if b then answer.Load t grow else answer.CommitFirst) spare) capacity asked content
        by true = of_load fine s t grow is
        by false = (fine, uncut fine)

    of_reply : (said : Reply) → (kind_told (tree_of content) asked).0 ≡ said → (one other : Cost) → kind_weight capacity (volume_of content) (tree_of content) asked ≡ one → IsKindJudged (verdict_of (refused_or said (joined one other)) spare) capacity asked content
    of_reply (reply.No why) is one other same = inl (sym is)
    of_reply reply.Ok is one other same = of_costs (ap is_refusal is) one other same
    of_reply (reply.Listing list) is one other same = of_costs (ap is_refusal is) one other same
    of_reply (reply.Facts facts) is one other same = of_costs (ap is_refusal is) one other same
    of_reply (reply.Content bytes) is one other same = of_costs (ap is_refusal is) one other same
    of_reply (reply.Gauge gauge) is one other same = of_costs (ap is_refusal is) one other same

    pub kind_judged : (weighs : Weight) → weighs ≡ kind_weighed capacity takable (volume_of content) (tree_of content) asked → IsKindJudged (verdict_of weighs spare) capacity asked content
    kind_judged weighs is = subst (λ (w : Weight). IsKindJudged (verdict_of w spare) capacity asked content) (sym is)
        (of_reply (kind_told (tree_of content) asked).0 refl (kind_weight capacity (volume_of content) (tree_of content) asked) (kind_weight_with capacity takable (volume_of content) (tree_of content) asked) refl)
