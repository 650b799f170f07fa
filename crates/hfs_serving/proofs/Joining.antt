-- What calls add to a stretch within a batch, without entries of their own.
use Rattle.std.proofs.Common.{[], ℕ, List, sym, subst}
use Rattle.std.specs.Prelude.{Option}
use Rattle.std.proofs.lemmas.List.{append-nil}
use Rattle.hfs_volume.specs.declared.asked.Asked.{Asked}
use Rattle.sector_disk.specs.Space.{Space}
use Rattle.jnl_format.specs.Recovery.{Content}
use Rattle.volume_runs.specs.Run.{Entry, IsRunFrom, shrunk_in}
use Rattle.hfs_serving.specs.Outside.{Outside}
use Rattle.hfs_serving.specs.Runs.{Leads}
use Rattle.hfs_serving.specs.Serving.{Commits, Goes, MayCommit, Stops, Touches}
use Rattle.hfs_serving.proofs.Batches.{commit_goes, commit_stops, goes_as, stops_as, touch_stops}

module _ (capacity : ℕ) (shrunk : Option ℕ) (committed from : Content) (old : Outside) (run : List Entry) (middle between : Content) (space : Space) (mid : Outside) {asked : Option Asked} (goes : Goes capacity shrunk asked committed from old run middle between space mid) where
  abbrev here : Option ℕ
  here = shrunk_in shrunk run

  stops_here : (new : Outside) → Stops capacity here middle between mid [] new → Stops capacity shrunk committed from old run new
  stops_here new stops =
      subst (λ (r : List Entry). Stops capacity shrunk committed from old r new) (append-nil run)
      (stops_as capacity shrunk committed from old run [] middle between space mid goes new stops (subst (λ (r : List Entry). IsRunFrom capacity shrunk from r) (sym (append-nil run)) goes.leads.run_is))

  -- a fault while sectors were put and spilled
  pub touch_stops_here : (new : Space) (after : Outside) → Touches middle space mid new after → Stops capacity shrunk committed from old run after
  touch_stops_here new after touches = stops_here after (touch_stops capacity here middle between mid space goes.below goes.reads new after touches)

  -- a commit, early or at the end
  pub commit_goes_here : (new : Space) (after : Outside) → Commits space mid new after → Goes capacity shrunk asked committed from old run between between new after
  commit_goes_here new after commits =
      subst (λ (r : List Entry). Goes capacity shrunk asked committed from old r between between new after) (append-nil run)
      (goes_as capacity shrunk committed from old run [] middle between space mid goes between between new after (commit_goes capacity here middle between mid space goes.below goes.reads new after commits)
      (subst (λ (r : List Entry). Leads capacity shrunk asked from r between) (sym (append-nil run)) goes.leads))

  pub commit_stops_here : (after : Outside) → MayCommit space mid after → Stops capacity shrunk committed from old run after
  commit_stops_here after may = stops_here after (commit_stops capacity here middle between mid space goes.below goes.reads after may)
