-- A verdict stands by what the command weighs.
use Rattle.std.proofs.Common.{◌≡◌, ◌<◌, ℕ, zero, suc, Bool, true, false, List, [], ◌∷◌, inl, inr, refl, sym, ◌∙◌, ap, subst, arith}
use Rattle.std.specs.Prelude.{◌&&◌, ◌==◌, ◌||◌, nat_lt, not, is_some, IfSome, Option, None, Some, Ok, slice_index, if◌then◌else◌}
use Rattle.std.proofs.lemmas.Bool.{eqb-true, le-ltb, lt-ltb, true≢false}
use Rattle.jnl_format.specs.Recovery.{Content}
use Rattle.hfs_language.specs.declared.command.Command.{Command}
use Rattle.hfs_language.specs.declared.refusal.Refusal.{Refusal}
use Rattle.hfs_language.specs.declared.refusal.Refusal.TheVariants as refusal
use Rattle.hfs_language.specs.declared.reply.Reply.{Reply}
use Rattle.hfs_language.specs.declared.reply.Reply.TheVariants as reply
use Rattle.hfs_model.specs.Step.{is_refusal, only_reads, refuses, step_line}
use Rattle.hfs_volume.specs.Content.{volume_of}
use Rattle.hfs_volume.specs.Cost.{cost_of, cost_or, load_of, load_refusal, plan_of, resource_refusal}
use Rattle.hfs_volume.specs.Reclaim.{first_growth}
use Rattle.hfs_volume.specs.TreeOf.{tree_of}
use Rattle.hfs_volume.specs.Weight.{changes_nothing, cut_cost, cut_load, data_of, edits_of, free_blocks, lacks_tree, needs_cut, needs_for, room_with, values_of, weight, weight_with, with_values}
use Rattle.hfs_volume.specs.declared.cost.Cost.{Cost}
use Rattle.hfs_volume.specs.declared.cost.Cost.TheVariants as cost
use Rattle.hfs_volume.specs.declared.cost.Needs.{Needs}
use Rattle.hfs_volume.specs.declared.cost.Room.{Room}
use Rattle.volume_base.specs.Weighing.{joined, refused_or, weighed}
use Rattle.volume_base.specs.declared.weighing.Weight.{Weight}
use Rattle.volume_base.specs.declared.weighing.Weight.TheVariants as answer
use Rattle.volume_space.specs.Growing.{alone}
use Rattle.volume_space.specs.declared.ahead.WhichTree.{WhichTree}
use Rattle.volume_space.specs.declared.ahead.WhichTree.TheVariants as which
use Rattle.volume_step.specs.Steps.{IsCutFirst, IsJudged, WaitsForGrowth, verdict_of}
use Rattle.volume_step.specs.declared.judging.Verdict.TheVariants as verdict

-- ---- three numbers

abbrev grow_in : List ℕ → Cost → List ℕ
grow_in other (cost.Load n grow) = grow
grow_in other (cost.Refused why) = other

-- a list of three
abbrev IsThree : List ℕ → Type 0
IsThree grow = grow ≡ slice_index grow 0 ∷ slice_index grow 1 ∷ slice_index grow 2 ∷ []

three_or : (refused : Option Refusal) (load s : ℕ) (a b c : ℕ) (grow : List ℕ) → cost_or refused load (a ∷ b ∷ c ∷ []) ≡ cost.Load s grow → IsThree grow
three_or None load s a b c grow is = subst IsThree (ap (grow_in grow) is) refl
three_or (Some why) load s a b c grow is = absurd (let none : cost.Refused why ≡ cost.Load s grow = is in cc none)

pub three_of : (needs : Needs) (room : Room) (s : ℕ) (grow : List ℕ) → cost_of needs room ≡ cost.Load s grow → IsThree grow
unfolding cost_of
three_of needs room s grow is = three_or (resource_refusal needs room (plan_of needs room)) (load_of needs room (plan_of needs room)) s _ _ _ grow is

three_cut : (room : Room) (s : ℕ) (grow : List ℕ) → cut_cost room ≡ cost.Load s grow → IsThree grow
three_cut room s grow is = three_or (load_refusal (cut_load room) room.capacity) (cut_load room) s 0 0 0 grow is

three_choice : (reads cut lacks : Bool) (room : Room) (needs : Needs) (s : ℕ) (grow : List ℕ) → (if reads then cost.Load 0 (0 ∷ 0 ∷ 0 ∷ []) else if cut then cut_cost room else if lacks then cost.Refused refusal.NoTree else cost_of needs room) ≡ cost.Load s grow → IsThree grow
three_choice true cut lacks room needs s grow is = subst IsThree (ap (grow_in grow) is) refl
three_choice false true lacks room needs s grow is = three_cut room s grow is
three_choice false false true room needs s grow is = absurd (let none : cost.Refused refusal.NoTree ≡ cost.Load s grow = is in cc none)
three_choice false false false room needs s grow is = three_of needs room s grow is

pub three : (capacity : ℕ) (content : Content) (asked : Command) (s : ℕ) (grow : List ℕ) → weight capacity (volume_of content) (tree_of content) asked ≡ cost.Load s grow → IsThree grow
unfolding weight_with
three capacity content asked s grow is =
    three_choice (only_reads asked || changes_nothing (tree_of content) asked) (needs_cut (volume_of content) (data_of (tree_of content) asked)) (lacks_tree (volume_of content) asked) (room_with capacity (free_blocks (volume_of content)) (volume_of content))
    (with_values (free_blocks (volume_of content)) (values_of (volume_of content) (tree_of content) asked) (needs_for (free_blocks (volume_of content)) (volume_of content) (edits_of (tree_of content) asked) (data_of (tree_of content) asked))) s grow is

pub some : (n : ℕ) → (n == 0) ≡ false → 0 < n
some zero is = absurd (true≢false is)
some (suc n) is = omega arith

pub none : (n : ℕ) → (n == 0) ≡ true → n ≡ 0
none n is = eqb-true n 0 is

-- a weight that was told
pub weight_found : (said : Option Weight) (found is : Weight) → said ≡ Some found → IfSome said (λ weighs. weighs ≡ is) → found ≡ is
weight_found said found is same told = subst (λ (o : Option Weight). IfSome o (λ weighs. weighs ≡ is)) same told

-- nothing was told of its weight
pub not_weighed : {P : Type 0} (said : Option Weight) → said ≡ None → (is_some said ≡ false → P) → P
not_weighed said none told = told (ap is_some none)

-- ---- the first of the trees that are to grow

pub first_extents : (grow : List ℕ) → 0 < slice_index grow 0 → first_growth grow ≡ alone which.Extents (slice_index grow 0)
first_extents grow any = ap (λ b. if b then slice_index grow 0 ∷ 0 ∷ 0 ∷ [] else if nat_lt 0 (slice_index grow 1) then 0 ∷ slice_index grow 1 ∷ 0 ∷ [] else 0 ∷ 0 ∷ slice_index grow 2 ∷ []) (lt-ltb 0 (slice_index grow 0) any)

pub first_catalog : (grow : List ℕ) → slice_index grow 0 ≡ 0 → 0 < slice_index grow 1 → first_growth grow ≡ alone which.Catalog (slice_index grow 1)
first_catalog grow nothing any =
    (λ i. if le-ltb 0 (slice_index grow 0) (omega (arith, nothing)) i then slice_index grow 0 ∷ 0 ∷ 0 ∷ [] else if lt-ltb 0 (slice_index grow 1) any i then 0 ∷ slice_index grow 1 ∷ 0 ∷ [] else 0 ∷ 0 ∷ slice_index grow 2 ∷ [])

pub first_attributes : (grow : List ℕ) → slice_index grow 0 ≡ 0 → slice_index grow 1 ≡ 0 → first_growth grow ≡ alone which.Attributes (slice_index grow 2)
first_attributes grow nothing none_too =
    (λ i. if le-ltb 0 (slice_index grow 0) (omega (arith, nothing)) i then slice_index grow 0 ∷ 0 ∷ 0 ∷ [] else if le-ltb 0 (slice_index grow 1) (omega (arith, none_too)) i then 0 ∷ slice_index grow 1 ∷ 0 ∷ [] else 0 ∷ 0 ∷ slice_index grow 2 ∷ [])

-- ---- the verdict

module _ (capacity : ℕ) (takable : List Bool) (content : Content) (asked : Command) (spare : ℕ) where
  -- of the trees that are to grow the first grows, or none is to
  of_load : refuses (tree_of content) (Ok asked) ≡ false → (s t : ℕ) (grow : List ℕ) → weight capacity (volume_of content) (tree_of content) asked ≡ cost.Load s grow → IsJudged (verdict_of (answer.Load t grow) spare) capacity asked content
  of_load fine s t grow is = by (slice_index grow 0 == 0) (slice_index grow 1 == 0) (slice_index grow 2 == 0) refl refl refl
    where
      waits : (tree : WhichTree) (more : ℕ) → 0 < more → first_growth grow ≡ alone tree more → WaitsForGrowth tree more capacity asked content
      waits tree more any first = record { no_refusal = fine; load = s; grow = grow; weighs = is; some = any; first = first }

      by_spare : (b : Bool) → grow ≡ 0 ∷ 0 ∷ 0 ∷ [] → IsJudged (if b then verdict.CommitFirst else verdict.Fits) capacity asked content
      by_spare true all = tt
      by_spare false all = record { no_refusal = fine; load = s; affords = is ∙ ap (cost.Load s) all }

      by : (x y z : Bool) → (slice_index grow 0 == 0) ≡ x → (slice_index grow 1 == 0) ≡ y → (slice_index grow 2 == 0) ≡ z
          → IsJudged (if not x then verdict.Grows which.Extents (slice_index grow 0) else if not y then verdict.Grows which.Catalog (slice_index grow 1) else if not z then verdict.Grows which.Attributes (slice_index grow 2) else (if nat_lt spare t then verdict.CommitFirst else verdict.Fits)) capacity asked content
      by false y z one two three_ = waits which.Extents (slice_index grow 0) (some (slice_index grow 0) one) (first_extents grow (some (slice_index grow 0) one))
      by true false z one two three_ = waits which.Catalog (slice_index grow 1) (some (slice_index grow 1) two) (first_catalog grow (none (slice_index grow 0) one) (some (slice_index grow 1) two))
      by true true false one two three_ = waits which.Attributes (slice_index grow 2) (some (slice_index grow 2) three_) (first_attributes grow (none (slice_index grow 0) one) (none (slice_index grow 1) two))
      by true true true one two three_ =
          by_spare (nat_lt spare t) (three capacity content asked s grow is ∙ (λ i. none (slice_index grow 0) one i ∷ none (slice_index grow 1) two i ∷ none (slice_index grow 2) three_ i ∷ []))

  of_costs : refuses (tree_of content) (Ok asked) ≡ false → (one other : Cost) → weight capacity (volume_of content) (tree_of content) asked ≡ one → IsJudged (verdict_of (joined one other) spare) capacity asked content
  of_costs fine (cost.Refused why) other is = inr (fine, is)
  of_costs fine (cost.Load s grow) (cost.Refused why) is = tt
  of_costs fine (cost.Load s grow) (cost.Load t more) is = by ((slice_index grow 0 == slice_index more 0) && (slice_index grow 2 == slice_index more 2))
    where
      by : (b : Bool) → IsJudged (verdict_of (if b then answer.Load t grow else answer.CommitFirst) spare) capacity asked content
      by true = of_load fine s t grow is
      by false = tt

  of_reply : (said : Reply) → (step_line (tree_of content) (Ok asked)).0 ≡ said → (one other : Cost) → weight capacity (volume_of content) (tree_of content) asked ≡ one → IsJudged (verdict_of (refused_or said (joined one other)) spare) capacity asked content
  of_reply (reply.No why) is one other same = inl (sym is)
  of_reply reply.Ok is one other same = of_costs (ap is_refusal is) one other same
  of_reply (reply.Listing list) is one other same = of_costs (ap is_refusal is) one other same
  of_reply (reply.Facts facts) is one other same = of_costs (ap is_refusal is) one other same
  of_reply (reply.Content bytes) is one other same = of_costs (ap is_refusal is) one other same
  of_reply (reply.Gauge gauge) is one other same = of_costs (ap is_refusal is) one other same

  pub judged : IsJudged (verdict_of (weighed capacity takable (volume_of content) (tree_of content) asked) spare) capacity asked content
  judged = of_reply (step_line (tree_of content) (Ok asked)).0 refl (weight capacity (volume_of content) (tree_of content) asked) (weight_with capacity takable (volume_of content) (tree_of content) asked) refl

  pub judged_weight : (weighs : Weight) → weighs ≡ weighed capacity takable (volume_of content) (tree_of content) asked → IsJudged (verdict_of weighs spare) capacity asked content
  judged_weight weighs is = subst (λ (w : Weight). IsJudged (verdict_of w spare) capacity asked content) (sym is) judged

  -- blocks past the file's size are cut first, where its step doesn't refuse it
  pub cut_or_refused : (weighs : Weight) → weighs ≡ weighed capacity takable (volume_of content) (tree_of content) asked → (refuses (tree_of content) (Ok asked) ≡ false → ⊥) → IsCutFirst (verdict_of weighs spare)
  cut_or_refused weighs is never = subst (λ (w : Weight). IsCutFirst (verdict_of w spare)) (sym is) (by (step_line (tree_of content) (Ok asked)).0 refl)
    where
      by : (said : Reply) → (step_line (tree_of content) (Ok asked)).0 ≡ said
          → IsCutFirst (verdict_of (refused_or said (joined (weight capacity (volume_of content) (tree_of content) asked) (weight_with capacity takable (volume_of content) (tree_of content) asked))) spare)
      by (reply.No why) same = tt
      by reply.Ok same = absurd (never (ap is_refusal same))
      by (reply.Listing list) same = absurd (never (ap is_refusal same))
      by (reply.Facts facts) same = absurd (never (ap is_refusal same))
      by (reply.Content bytes) same = absurd (never (ap is_refusal same))
      by (reply.Gauge gauge) same = absurd (never (ap is_refusal same))
