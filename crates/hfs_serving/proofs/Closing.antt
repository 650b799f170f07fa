-- The end of a run: the mark is put, and committed.
use Rattle.std.proofs.Common.{◌⊎◌, ℕ, inl, inr, ⊎_elim, refl, ◌∙◌}
use Rattle.std.specs.Prelude.{Option}
use Rattle.sector_disk.specs.Space.{Space}
use Rattle.sector_disk.proofs.Passing.{both_pass, passes_with}
use Rattle.jnl_format.specs.Recovery.{Content}
use Rattle.hfs_serving.specs.Closing.{Finishes, IsClosed, MayFinish}
use Rattle.hfs_serving.specs.Going.{Knowing, Stands}
use Rattle.hfs_serving.specs.Outside.{Outside}
use Rattle.hfs_serving.specs.Serving.{Commits, IsDurable, IsRead, IsServing, MayCommit, Touches}
use Rattle.hfs_serving.specs.Stages.{MayTurn}
use Rattle.hfs_serving.proofs.Agreeing.{committed_below, committed_reads, stands_durable, stands_either, touched_below}
use Rattle.hfs_serving.proofs.Leading.{place_none}

-- what a commit leaves is served between two batches
pub serving_behind : (now : Content) (old : Space) (before : Outside) (new : Space) (after : Outside) → IsRead now old → Commits old before new after → IsServing now new after
serving_behind now old before new after reads commits =
    record { below = committed_below now old before new after reads commits; reads = committed_reads now old before new after reads commits; leaves = commits.leaves }

module _ (knows : Knowing) (now : Content) (shrunk : Option ℕ) (space : Space) (before : Outside) (stands : Stands knows now now shrunk space before) (new : Space) (mid : Outside) (touches : Touches now space before new mid) where
  below_new : IsDurable now new
  below_new = touched_below now space stands.below before new mid touches

  -- a fault while it was put
  pub put_stops : MayFinish now before mid
  put_stops = record {
    ended = now;
    marked = inl refl;
    place = place_none now;
    may = record {
      time = passes_with before.clock mid.clock _ _ touches.time (λ recovered told p. (inl (stands_durable now new below_new recovered p.0), p.1));
      leaves = λ recovered left. inl (stands_durable now new below_new recovered (touches.leaves recovered left));
      told = touches.told;
    };
  }

  module _ (knows_new : Knowing) (closed : IsClosed knows_new now now shrunk new) where
    -- it was put, and the volume stands for it
    pub closed_stands : Stands knows_new now closed.ended shrunk new mid
    closed_stands = record { known = closed.known; below = below_new; reads = closed.reads; heads = closed.heads; leaves = touches.leaves }

    module _ (after : Outside) (commit : MayCommit new mid after) where
      turn : MayTurn now closed.ended before after
      turn = record {
        time =
            both_pass before.clock mid.clock after.clock _ _ _ touches.time commit.time (λ recovered told p. (inl (stands_durable now new below_new recovered p.0), p.1))
            (λ recovered told p. (stands_either now closed.ended new below_new closed.reads recovered p.0, p.1 ∙ touches.told));
        leaves = λ recovered left. stands_either now closed.ended new below_new closed.reads recovered (commit.leaves recovered left);
        told = commit.told ∙ touches.told;
      }

      -- a commit of it, whatever ended it
      pub commit_finishes : MayFinish now before after
      commit_finishes = record { ended = closed.ended; marked = inr (inr closed.sets); place = closed.place; may = turn }

    pub finishes : (last : Space) (after : Outside) → Commits new mid last after → Finishes now before after
    finishes last after commits = record {
      ended = closed.ended;
      sets = closed.sets;
      place = closed.place;
      turns = record {
        may = turn after commits.may;
        leaves = λ recovered left. stands_durable closed.ended last (committed_below closed.ended new mid last after closed.reads commits) recovered (commits.leaves recovered left);
      };
    }

    -- and it is served between two batches
    pub finishes_there : (last : Space) (after : Outside) → Commits new mid last after → (finishes : Finishes now before after) × IsServing finishes.ended last after
    unfolding finishes
    finishes_there last after commits = (finishes last after commits, serving_behind closed.ended new mid last after closed.reads commits)

-- ---- behind it

-- a commit of nothing leaves what stood there
pub still_turns : (now : Content) (space : Space) (before after : Outside) → IsServing now space before → MayCommit space before after → MayTurn now now before after
still_turns now space before after serving may = record {
  time = passes_with before.clock after.clock _ _ may.time (λ recovered told p. (inl (one_of (stands_either now now space serving.below serving.reads recovered p.0)), p.1));
  leaves = λ recovered left. inl (one_of (stands_either now now space serving.below serving.reads recovered (may.leaves recovered left)));
  told = may.told;
}
  where
    one_of : {A : Type 0} → A ⊎ A → A
    one_of (inl x) = x
    one_of (inr x) = x

-- one stage of the end behind the other
pub finish_on : (now : Content) (before mid after : Outside) (finishes : Finishes now before mid) → MayTurn finishes.ended finishes.ended mid after → MayFinish now before after
finish_on now before mid after finishes may = record {
  ended = finishes.ended;
  marked = inr (inr finishes.sets);
  place = finishes.place;
  may = record {
    time =
        both_pass before.clock mid.clock after.clock _ _ _ finishes.turns.may.time may.time (λ recovered told p. p) (λ recovered told p. (⊎_elim (λ is. inr is) (λ is. inr is) p.0, p.1 ∙ finishes.turns.may.told));
    leaves = λ recovered left. ⊎_elim (λ is. inr is) (λ is. inr is) (may.leaves recovered left);
    told = may.told ∙ finishes.turns.may.told;
  };
}

-- the same where nothing failed
pub finish_done : (now : Content) (before mid after : Outside) (finishes : Finishes now before mid) (space last : Space) → IsServing finishes.ended space mid → Commits space mid last after → Finishes now before after
finish_done now before mid after finishes space last serving commits =
    record {
      ended = finishes.ended;
      sets = finishes.sets;
      place = finishes.place;
      turns = record {
        may = record {
          time =
              both_pass before.clock mid.clock after.clock _ _ _ finishes.turns.may.time (still_turns finishes.ended space mid after serving commits.may).time (λ recovered told p. p)
              (λ recovered told p. (⊎_elim (λ is. inr is) (λ is. inr is) p.0, p.1 ∙ finishes.turns.may.told));
          leaves = λ recovered left. ⊎_elim (λ is. inr is) (λ is. inr is) ((still_turns finishes.ended space mid after serving commits.may).leaves recovered left);
          told = commits.may.told ∙ finishes.turns.may.told;
        };
        leaves = λ recovered left. stands_durable finishes.ended last (committed_below finishes.ended space mid last after serving.reads commits) recovered (commits.leaves recovered left);
      };
    }
