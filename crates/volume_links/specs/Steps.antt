-- What a command on a symbolic link or a resource fork came to, on a volume in service.
use Rattle.std.specs.Prelude.{◌≡◌, ◌⊎◌, ℕ, Bool, true, false, List, [], ◌∷◌, Some, if◌then◌else◌}
use Rattle.jnl_format.specs.Recovery.{Content}
use Rattle.hfs_language.specs.declared.reply.Change.{Change}
use Rattle.hfs_model.specs.Kinds.{kind_refuses, kind_told}
use Rattle.hfs_model.specs.declared.kinds.KindEdit.{KindEdit}
use Rattle.hfs_model.specs.declared.plain.PlainTree.{PlainTree}
use Rattle.hfs_volume.specs.declared.asked.Asked.TheVariants.{Kind}
use Rattle.hfs_volume.specs.Content.{VolumeState, volume_of}
use Rattle.hfs_volume.specs.KindWeight.{fork_of_edit, kind_data_of, kind_weight, kind_weight_with}
use Rattle.hfs_volume.specs.TreeOf.{tree_of}
use Rattle.hfs_volume.specs.declared.cost.Cost.TheVariants as cost
use Rattle.hfs_volume.specs.Weight.{needs_cut_in}
use Rattle.volume_base.specs.Weighing.{joined, refused_or}
use Rattle.hfs_language.specs.declared.refusal.Refusal.TheVariants as refusal
use Rattle.volume_base.specs.DataWeighing.{target_weighed}
use Rattle.volume_base.specs.declared.weighing.Weight.{Weight}
use Rattle.volume_base.specs.declared.weighing.Weight.TheVariants as answer
use Rattle.volume_runs.specs.Kinds.{GoesFirst}
use Rattle.volume_runs.specs.Run.{Entry, IsKindAnswered, KindLacksResource}
use Rattle.volume_step.specs.Steps.{IsServedAs}
use Rattle.volume_step.specs.declared.outcome.Outcome.{Outcome}
use Rattle.volume_step.specs.declared.outcome.Outcome.TheVariants as outcome

-- An entry of a command's step: it is answered as its step, or a resource is missing for it; memory isn't.
pub record IsKindStepped (capacity number : ℕ) (changes : List Change) (asked : KindEdit) (entry : Entry) : Type 0 where
  pub served : IsServedAs capacity number changes entry
  pub decided : IsKindAnswered capacity asked entry ⊎ KindLacksResource capacity asked entry

-- what a command came to: its entry is one of a run, whatever line asked for it; or nothing was changed; or a cut, the growth of a tree or zero
-- blocks went first
abbrev pub KindStepsTo : Outcome → ℕ → ℕ → KindEdit → Content → Content → Type 0
KindStepsTo (outcome.Answered reply changes) capacity number asked before after =
    (line : List ℕ) → IsKindStepped capacity number changes asked (record { line = line; own = Some (Kind asked); reply = reply; before = before; after = after })
KindStepsTo outcome.CommitFirst capacity number asked before after = after ≡ before
KindStepsTo outcome.Again capacity number asked before after = GoesFirst capacity asked before after

-- what a command comes to ahead of which nothing goes: it was answered, or nothing was changed
abbrev pub KindStepsNow : Outcome → ℕ → ℕ → KindEdit → Content → Content → Type 0
KindStepsNow (outcome.Answered reply changes) capacity number asked before after =
    (line : List ℕ) → IsKindStepped capacity number changes asked (record { line = line; own = Some (Kind asked); reply = reply; before = before; after = after })
KindStepsNow outcome.CommitFirst capacity number asked before after = after ≡ before
KindStepsNow outcome.Again capacity number asked before after = ⊥

-- The step doesn't refuse the command, and nothing is missing for it; no tree has to grow.
pub record KindAffords (capacity : ℕ) (asked : KindEdit) (content : Content) : Type 0 where
  pub no_refusal : kind_refuses (tree_of content) asked ≡ false
  pub load : ℕ
  pub affords : kind_weight capacity (volume_of content) (tree_of content) asked ≡ cost.Load load (0 ∷ 0 ∷ 0 ∷ [])

-- what a command weighs on a volume with these lists and this tree, where these blocks may be taken
abbrev pub kind_weighed : ℕ → List Bool → VolumeState → PlainTree → KindEdit → Weight
kind_weighed capacity takable volume tree asked = refused_or (kind_told tree asked).0 (joined (kind_weight capacity volume tree asked) (kind_weight_with capacity takable volume tree asked))

-- the step doesn't refuse the command, but blocks past the size of the fork that it puts data into go first
abbrev pub KindWaitsForCut : Content → KindEdit → Type 0
KindWaitsForCut content asked = (kind_refuses (tree_of content) asked ≡ false) × (needs_cut_in (fork_of_edit asked) (volume_of content) (kind_data_of (tree_of content) asked) ≡ true)

-- what a link of so many bytes weighs where it may be made, if its value is the text of a link
abbrev pub site_weighed : Bool → ℕ → List Bool → VolumeState → ℕ → Weight
site_weighed good capacity takable volume long = if good then target_weighed capacity takable volume long else answer.Refused refusal.BadTarget
