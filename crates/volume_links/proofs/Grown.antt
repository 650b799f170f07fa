-- The growth of a tree ahead of a command on a link or a fork: what it comes to.
use Rattle.std.proofs.Common.{◌≡◌, ℕ, List, inl, inr, sym, subst}
use Rattle.jnl_format.specs.Recovery.{Content}
use Rattle.hfs_model.specs.declared.kinds.KindEdit.{KindEdit}
use Rattle.hfs_volume.specs.Content.{volume_of}
use Rattle.hfs_volume.specs.Reclaim.{GrowsTrees}
use Rattle.volume_runs.specs.Kinds.{KindGrowsFirst}
use Rattle.volume_space.specs.Growing.{GoesAhead, GrowsAhead}
use Rattle.volume_space.specs.declared.ahead.Growth.{Growth}
use Rattle.volume_space.specs.declared.ahead.Growth.TheVariants as growing
use Rattle.volume_space.specs.declared.ahead.WhichTree.{WhichTree}
use Rattle.volume_step.specs.Steps.{grown}
use Rattle.volume_step.specs.declared.outcome.Outcome.{Outcome}
use Rattle.volume_step.proofs.GrowthSteps.{some_nodes}
use Rattle.volume_links.specs.Judging.{KindWaitsForGrowth}
use Rattle.volume_links.specs.Steps.{KindStepsTo}

module _ (tree : WhichTree) (more capacity number : ℕ) (asked : KindEdit) (before after : Content) (waits : KindWaitsForGrowth tree more capacity asked before) where
  grown_kind : GrowsAhead tree more before after → KindGrowsFirst capacity asked before after
  grown_kind ahead = record {
    no_refusal = waits.no_refusal;
    load = waits.load;
    grow = waits.grow;
    affords = waits.weighs;
    some = some_nodes tree more waits.grow waits.first waits.some;
    grows = subst (λ (l : List ℕ). GrowsTrees l (volume_of before) (volume_of after)) (sym waits.first) ahead.grows;
    files = ahead.files;
    values = ahead.values;
    keeps = ahead.keeps;
  }

  by_growth : (went : Growth) → GoesAhead went tree more before after → KindStepsTo (grown went) capacity number asked before after
  by_growth growing.Grown ahead = inr (inl (grown_kind ahead))
  by_growth growing.CommitFirst ahead = ahead

  pub growth_kind_steps : (went : Growth) → GoesAhead went tree more before after → (it : Outcome) → it ≡ grown went → KindStepsTo it capacity number asked before after
  growth_kind_steps went ahead it is = subst (λ (o : Outcome). KindStepsTo o capacity number asked before after) (sym is) (by_growth went ahead)
