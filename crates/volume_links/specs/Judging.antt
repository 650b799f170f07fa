-- Whether a command on a symbolic link or a resource fork may be done now.
use Rattle.std.specs.Prelude.{◌≡◌, ◌⊎◌, ◌<◌, ℕ, List, [], ◌∷◌, false}
use Rattle.sector_disk.specs.Space.{Space}
use Rattle.jnl_format.specs.Recovery.{Content}
use Rattle.hfs_language.specs.declared.reply.Reply.TheVariants as reply
use Rattle.hfs_model.specs.Kinds.{kind_refuses, kind_told}
use Rattle.hfs_model.specs.declared.kinds.KindEdit.{KindEdit}
use Rattle.hfs_volume.specs.Content.{volume_of}
use Rattle.hfs_volume.specs.KindWeight.{fork_of_edit, kind_data_of, kind_weight}
use Rattle.hfs_volume.specs.Reclaim.{first_growth}
use Rattle.hfs_volume.specs.TreeOf.{tree_of}
use Rattle.hfs_volume.specs.Weight.{needs_cut_in}
use Rattle.hfs_volume.specs.declared.cost.Cost.TheVariants as cost
use Rattle.volume_base.specs.declared.volume.Volume.{Volume}
use Rattle.volume_space.specs.Growing.{alone}
use Rattle.volume_space.specs.declared.ahead.WhichTree.{WhichTree}
use Rattle.volume_step.specs.declared.judging.Verdict.{Verdict}
use Rattle.volume_step.specs.declared.judging.Verdict.TheVariants as verdict
use Rattle.volume_links.specs.Steps.{KindAffords, KindWaitsForCut}
use Rattle.volume_links.specs.Wanting.{KindFitsNow, KindLacksNow, KindLacksRoomForLoad}

-- The step doesn't refuse the command, and nothing is missing for it, but trees have to grow ahead of it, of which this is the first, by so many
-- nodes.
pub record KindWaitsForGrowth (tree : WhichTree) (more capacity : ℕ) (asked : KindEdit) (content : Content) : Type 0 where
  pub no_refusal : kind_refuses (tree_of content) asked ≡ false
  pub uncut : needs_cut_in (fork_of_edit asked) (volume_of content) (kind_data_of (tree_of content) asked) ≡ false
  pub load : ℕ
  pub grow : List ℕ
  pub weighs : kind_weight capacity (volume_of content) (tree_of content) asked ≡ cost.Load load grow
  pub some : 0 < more
  pub first : first_growth grow ≡ alone tree more

-- the verdict stands
abbrev pub IsKindJudged : Verdict → ℕ → KindEdit → Content → Type 0
IsKindJudged (verdict.Refused why) capacity asked content =
    (reply.No why ≡ (kind_told (tree_of content) asked).0) ⊎ ((kind_refuses (tree_of content) asked ≡ false) × (kind_weight capacity (volume_of content) (tree_of content) asked ≡ cost.Refused why))
IsKindJudged verdict.CutFirst capacity asked content = KindWaitsForCut content asked
IsKindJudged verdict.CommitFirst capacity asked content = (kind_refuses (tree_of content) asked ≡ false) × (needs_cut_in (fork_of_edit asked) (volume_of content) (kind_data_of (tree_of content) asked) ≡ false)
IsKindJudged (verdict.Grows tree more) capacity asked content = KindWaitsForGrowth tree more capacity asked content
IsKindJudged verdict.Fits capacity asked content = KindAffords capacity asked content × (needs_cut_in (fork_of_edit asked) (volume_of content) (kind_data_of (tree_of content) asked) ≡ false)

-- what a verdict says of the blocks that may be taken and of the room: a commit is wanted for what is missing now; of the trees that grow, this is the first,
-- or there is too little room; or there is room for all, and no tree grows
abbrev pub KindIsWeighedNow : Verdict → Volume → Space → KindEdit → Type 0
KindIsWeighedNow verdict.CommitFirst volume space asked = KindLacksNow volume space asked
KindIsWeighedNow (verdict.Grows tree more) volume space asked = KindLacksRoomForLoad volume space asked ⊎ ((grow : List ℕ) × (first_growth grow ≡ alone tree more) × KindFitsNow grow volume space asked)
KindIsWeighedNow verdict.Fits volume space asked = KindFitsNow (0 ∷ 0 ∷ 0 ∷ []) volume space asked
KindIsWeighedNow it volume space asked = Unit {0}
