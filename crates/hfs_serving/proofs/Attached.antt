-- A volume that came into service, and the begin of a run behind it.
use Rattle.std.proofs.Common.{◌≡◌, ℕ, [], inl, inr, ⊎_elim, refl, ◌∙◌, ap, subst}
use Rattle.std.specs.Prelude.{None}
use Rattle.sector_disk.specs.Space.{Space}
use Rattle.sector_disk.proofs.Passing.{both_pass, passes_with}
use Rattle.jnl_format.specs.Recovery.{Content}
use Rattle.hfs_volume.specs.Content.{VolumeState}
use Rattle.hfs_volume.specs.Reclaim.{MarksHeader, mounted_header}
use Rattle.volume_runs.specs.Rest.{no_step, one_step}
use Rattle.hfs_serving.specs.Attaching.{MayAttach}
use Rattle.hfs_serving.specs.Beginning.{BeginsRun, MayBegin}
use Rattle.hfs_serving.specs.Going.{Knowing, Stands, Stays}
use Rattle.hfs_serving.specs.Outside.{Outside}
use Rattle.hfs_serving.specs.Readying.{IsVersioned}
use Rattle.hfs_serving.specs.Runs.{Crashes, KeepsPlace, Serves, SetsVersion}
use Rattle.hfs_serving.specs.Serving.{IsDurable, Touches}
use Rattle.hfs_serving.specs.Stages.{MayTurn, Turns}
use Rattle.hfs_serving.proofs.Agreeing.{stands_durable, touched_below}
use Rattle.hfs_serving.proofs.Leading.{place_both, place_none}
use Rattle.hfs_serving.proofs.Readied.{may_on, turns_on}
use Rattle.hfs_serving.proofs.Staging.{mark_stage_crashes, tidy_stage_crashes, tidy_stage_serves, version_stage_crashes, version_stage_serves}

-- ---- it came into service

module _ (now : Content) (space : Space) (before : Outside) (may : MayAttach now space before) (new : Space) (after : Outside) (touches : Touches now space before new after) where
  below_read : IsDurable now new
  below_read = touched_below now space may.below before new after touches

  turn_read : Turns now now before after
  turn_read = record {
    may = record {
      time = passes_with before.clock after.clock _ _ touches.time (λ recovered told p. (inl (stands_durable now new below_read recovered p.0), p.1));
      leaves = λ recovered left. inl (stands_durable now new below_read recovered (touches.leaves recovered left));
      told = touches.told;
    };
    leaves = λ recovered left. stands_durable now new below_read recovered (touches.leaves recovered left);
  }

  pub attach_stops : MayBegin now before after
  attach_stops = record { begun = now; marked = inl refl; place = place_none now; may = turn_read.may }

  pub attach_stands : (knows : Knowing) → Stays knows now now None new → Stands knows now now None new after
  attach_stands knows stays = record { known = stays.known; below = below_read; reads = stays.reads; heads = stays.heads; leaves = touches.leaves }

  -- and then the run was begun, or not
  module _ (last : Outside) where
    pub attach_may : MayBegin now after last → MayBegin now before last
    attach_may begin = record { begun = begin.begun; marked = begin.marked; place = begin.place; may = may_on now begin.begun before after last turn_read begin.may }

    pub attach_begins : (capacity : ℕ) (knows : Knowing) (ended : Space) → BeginsRun capacity knows now None after ended last → BeginsRun capacity knows now None before ended last
    attach_begins capacity knows ended begins =
        let turns = turns_on now begins.begun before after last turn_read begins.turns in
        record {
          begun = begins.begun;
          marks = begins.marks;
          place = begins.place;
          turns = turns;
          serves = tidy_stage_serves capacity None now begins.begun before last turns (one_step now begins.begun begins.begun (inr (inr (inr (inr begins.marks)))) (no_step begins.begun)) begins.place;
          stands = begins.stands;
        }

-- ---- behind the version

-- the mark says the version anyway
mark_from : (start version begun : Content) → SetsVersion start version → MarksHeader version begun → MarksHeader start begun
mark_from start version begun sets marks = record {
  volume = marks.volume ∙ ap (λ (v : VolumeState). record v { head = mounted_header v.head }) sets.volume;
  keeps = record { sound = marks.keeps.sound; tree = marks.keeps.tree ∙ sets.keeps.tree };
}

module _ (capacity : ℕ) (start now : Content) (first mid : Outside) (place : KeepsPlace start now) (turns : Turns start now first mid) where
  -- ended before the first line
  module _ (last : Outside) where
    version_stops : SetsVersion start now → MayBegin now mid last → Crashes capacity None start first [] [] 0 last
    version_stops sets begin = ⊎_elim
        (λ (same : begin.begun ≡ now).
        let still : MayTurn now now mid last = subst (λ (x : Content). MayTurn now x mid last) same begin.may in
        mark_stage_crashes capacity None start now first last (turn_still still) (inr (inl sets)) place)
        (λ marks.
        let mark = mark_from start now begin.begun sets marks in
        version_stage_crashes capacity None start now begin.begun first mid last turns sets place (one_step start begin.begun begin.begun (inr (inr (inr (inr mark)))) (no_step begin.begun)) (place_both start now begin.begun place begin.place) begin.may)
        begin.marked
      where
        turn_still : MayTurn now now mid last → MayTurn start now first last
        turn_still still = record {
          time = both_pass first.clock mid.clock last.clock _ _ _ turns.may.time still.time (λ recovered told p. p) (λ recovered told p. (inr (⊎_elim (λ a. a) (λ b. b) p.0), p.1 ∙ turns.may.told));
          leaves = λ recovered left. inr (⊎_elim (λ a. a) (λ b. b) (still.leaves recovered left));
          told = still.told ∙ turns.may.told;
        }

    same_stops : now ≡ start → MayBegin now mid last → Crashes capacity None start first [] [] 0 last
    same_stops same begin = by (subst (λ (x : Content). Turns start x first mid) same turns) (subst (λ (x : Content). MayBegin x mid last) same begin)
      where
        by : Turns start start first mid → MayBegin start mid last → Crashes capacity None start first [] [] 0 last
        by stays begins = ⊎_elim
            (λ (still : begins.begun ≡ start). tidy_stage_crashes capacity None start start first last (may_on start start first mid last stays (subst (λ (x : Content). MayTurn start x mid last) still begins.may)) (no_step start) (place_none start))
            (λ marks. tidy_stage_crashes capacity None start begins.begun first last (may_on start begins.begun first mid last stays begins.may) (one_step start begins.begun begins.begun (inr (inr (inr (inr marks)))) (no_step begins.begun)) begins.place)
            begins.marked

    pub mount_stops : IsVersioned start now → MayBegin now mid last → Crashes capacity None start first [] [] 0 last
    mount_stops (inl same) begin = same_stops same begin
    mount_stops (inr sets) begin = version_stops sets begin

  -- or the run was begun
  module _ (knows : Knowing) (space : Space) (last : Outside) (begins : BeginsRun capacity knows now None mid space last) where
    same_serves : now ≡ start → Serves capacity None start first [] [] begins.begun last
    same_serves same =
        tidy_stage_serves capacity None start begins.begun first last
        (turns_on start begins.begun first mid last (subst (λ (x : Content). Turns start x first mid) same turns) (subst (λ (x : Content). Turns x begins.begun mid last) same begins.turns))
        (one_step start begins.begun begins.begun (inr (inr (inr (inr (subst (λ (x : Content). MarksHeader x begins.begun) same begins.marks))))) (no_step begins.begun)) (subst (λ (x : Content). KeepsPlace x begins.begun) same begins.place)

    version_serves : SetsVersion start now → Serves capacity None start first [] [] begins.begun last
    version_serves sets =
        version_stage_serves capacity None start now begins.begun first mid last turns sets place (one_step start begins.begun begins.begun (inr (inr (inr (inr (mark_from start now begins.begun sets begins.marks))))) (no_step begins.begun))
        (place_both start now begins.begun place begins.place) begins.turns

    pub mount_serves : IsVersioned start now → Serves capacity None start first [] [] begins.begun last
    mount_serves (inl same) = same_serves same
    mount_serves (inr sets) = version_serves sets
