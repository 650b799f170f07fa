-- The begin of a run: the header's mark of a mount is put, and committed.
use Rattle.std.proofs.Common.{ℕ, [], inl, inr, refl, ◌∙◌}
use Rattle.std.specs.Prelude.{Option, None}
use Rattle.sector_disk.specs.Space.{Space}
use Rattle.sector_disk.proofs.Passing.{both_pass, passes_with}
use Rattle.jnl_format.specs.Recovery.{Content}
use Rattle.volume_runs.specs.Rest.{TidiesFor, no_step, one_step}
use Rattle.hfs_serving.specs.Beginning.{BeginsRun, IsMarkedMounted, MayBegin}
use Rattle.hfs_serving.specs.Going.{Knowing, Stands, Stays}
use Rattle.hfs_serving.specs.Outside.{Outside}
use Rattle.hfs_serving.specs.Runs.{Crashes}
use Rattle.hfs_serving.specs.Serving.{Commits, IsDurable, MayCommit, Touches}
use Rattle.hfs_serving.specs.Stages.{MayTurn, Turns}
use Rattle.hfs_serving.proofs.Agreeing.{committed_below, stands_durable, stands_either, touched_below}
use Rattle.hfs_serving.proofs.Leading.{place_none}
use Rattle.hfs_serving.proofs.Staging.{tidy_stage_crashes, tidy_stage_serves}

module _ (capacity : ℕ) (knows : Knowing) (start : Content) (shrunk : Option ℕ) (space : Space) (before : Outside) (stands : Stands knows start start shrunk space before) (new : Space) (mid : Outside) (touches : Touches start space before new mid) where
  below_put : IsDurable start new
  below_put = touched_below start space stands.below before new mid touches

  same_turn : MayTurn start start before mid
  same_turn = record {
    time = passes_with before.clock mid.clock _ _ touches.time (λ recovered told p. (inl (stands_durable start new below_put recovered p.0), p.1));
    leaves = λ recovered left. inl (stands_durable start new below_put recovered (touches.leaves recovered left));
    told = touches.told;
  }

  -- a fault while it was put
  pub mark_put_stops : Crashes capacity shrunk start before [] [] 0 mid
  mark_put_stops = tidy_stage_crashes capacity shrunk start start before mid same_turn (no_step start) (place_none start)

  pub put_may : MayBegin start before mid
  put_may = record { begun = start; marked = inl refl; place = place_none start; may = same_turn }

  module _ (knows_mid : Knowing) (marked : IsMarkedMounted knows_mid start start shrunk new) where
    -- it was put, and the volume stands for it
    pub marked_stands : Stands knows_mid start marked.begun shrunk new mid
    marked_stands = record { known = marked.known; below = below_put; reads = marked.reads; heads = marked.heads; leaves = touches.leaves }

    tidies : TidiesFor capacity shrunk None start marked.begun
    tidies = one_step start marked.begun marked.begun (inr (inr (inr (inr marked.marks)))) (no_step marked.begun)

    module _ (after : Outside) (commit : MayCommit new mid after) where
      begun_turn : MayTurn start marked.begun before after
      begun_turn = record {
        time =
            both_pass before.clock mid.clock after.clock _ _ _ touches.time commit.time (λ recovered told p. (inl (stands_durable start new below_put recovered p.0), p.1))
            (λ recovered told p. (stands_either start marked.begun new below_put marked.reads recovered p.0, p.1 ∙ touches.told));
        leaves = λ recovered left. stands_either start marked.begun new below_put marked.reads recovered (commit.leaves recovered left);
        told = commit.told ∙ touches.told;
      }

      pub begun_may : MayBegin start before after
      begun_may = record { begun = marked.begun; marked = inr marked.marks; place = marked.place; may = begun_turn }

      -- a commit of it, whatever ended it
      pub mark_stops : Crashes capacity shrunk start before [] [] 0 after
      mark_stops = tidy_stage_crashes capacity shrunk start marked.begun before after begun_turn tidies marked.place

    pub mark_begins : (knows_new : Knowing) (last : Space) (after : Outside) → Commits new mid last after → Stays knows_new marked.begun marked.begun shrunk last → BeginsRun capacity knows_new start shrunk before last after
    mark_begins knows_new last after commits stays =
        let below = committed_below marked.begun new mid last after marked.reads commits in
        let turns : Turns start marked.begun before after = record {
          may = begun_turn after commits.may;
          leaves = λ recovered left. stands_durable marked.begun last below recovered (commits.leaves recovered left);
        } in
        record {
          begun = marked.begun;
          marks = marked.marks;
          place = marked.place;
          turns = turns;
          serves = tidy_stage_serves capacity shrunk start marked.begun before after turns tidies marked.place;
          stands = record { known = stays.known; below = below; reads = stays.reads; heads = stays.heads; leaves = commits.leaves };
        }
