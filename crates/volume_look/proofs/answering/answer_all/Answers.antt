use Rattle.std.proofs.Common.{◌∙◌, arith}
use Rattle.std.proofs.lemmas.Result.{err_from_is_err_and}
use Rattle.volume_base.proofs.Seeing.{cause_on}
use Rattle.volume_look.proofs.Going.{goes_both, goes_none, right_then}
use Rattle.volume_look.proofs.Talks.{each_both}
use Rattle.volume_look.proofs.answering.answer_all.Goals as goal

pub loop-init : goal.loop-init
loop-init g c = record {
  goes = goes_none c.args.volume.now (g.P.SectorView.space c.args.space.now) (g.A.Asker.state c.args.asker.now) c.requires.stands c.requires.settled;
  below = g.met.P.SectorView.follows_refl c.args.space.now;
}

pub answer_next-requires : goal.answer_next-requires
answer_next-requires g c = record { serves = record { stands = c.loop.invariant.goes.stands; settled = c.loop.invariant.goes.settled } }

pub returns-in_err-answer_next-clause-right : goal.returns-in_err-answer_next-clause-right
returns-in_err-answer_next-clause-right g c =
    right_then c.args.volume.now (g.P.SectorView.space c.args.space.now) (g.A.Asker.state c.args.asker.now) c.loop.volume (g.P.SectorView.space c.loop.space) (g.A.Asker.state c.loop.asker) c.loop.invariant.goes (g.A.Asker.state c.answer_next.new.asker) c.answer_next.ensures.right

pub returns-in_err-answer_next-clause-below : goal.returns-in_err-answer_next-clause-below
returns-in_err-answer_next-clause-below g c = g.met.P.SectorView.follows_trans c.args.space.now c.loop.space c.answer_next.new.space c.loop.invariant.below c.answer_next.ensures.looked.edits.ran.below

pub returns-in_err-answer_next-clause-cause : goal.returns-in_err-answer_next-clause-cause
returns-in_err-answer_next-clause-cause g c =
    let p = err_from_is_err_and c.from_residual.result c.from_residual.ensures.1 in
    cause_on c.in_err-answer_next.field-0.0 p.0 (g.P.SectorView.space c.args.space.now).faults (g.P.SectorView.space c.loop.space).faults (g.P.SectorView.space c.answer_next.new.space).faults c.from_residual.result p.1 p.2 c.loop.invariant.goes.faults c.in_err-answer_next.ensures.looked.edits.ran.cause

pub returns-then-not-branch-clause-right : goal.returns-then-not-branch-clause-right
returns-then-not-branch-clause-right g c =
    right_then c.args.volume.now (g.P.SectorView.space c.args.space.now) (g.A.Asker.state c.args.asker.now) c.loop.volume (g.P.SectorView.space c.loop.space) (g.A.Asker.state c.loop.asker) c.loop.invariant.goes (g.A.Asker.state c.answer_next.new.asker) c.answer_next.ensures.right

pub returns-then-not-branch-clause-ends : goal.returns-then-not-branch-clause-ends
returns-then-not-branch-clause-ends g c told =
    let goes = c.loop.invariant.goes in
    let there = goes.told ∙ told in
    record {
      each = each_both (g.A.Asker.state c.args.asker.now) (g.A.Asker.state c.loop.asker) (g.A.Asker.state c.answer_next.new.asker) (goes.each told) (c.in_ok-answer_next.ensures.each there);
      ended = c.in_ok-answer_next.ensures.ended there c.if-not-branch.true;
    }

pub returns-then-not-branch-clause-below : goal.returns-then-not-branch-clause-below
returns-then-not-branch-clause-below g c = g.met.P.SectorView.follows_trans c.args.space.now c.loop.space c.answer_next.new.space c.loop.invariant.below c.answer_next.ensures.looked.edits.ran.below

pub returns-then-not-branch-clause-cause : goal.returns-then-not-branch-clause-cause
returns-then-not-branch-clause-cause g c = record { later = omega (arith, c.loop.invariant.goes.faults, c.answer_next.ensures.looked.edits.ran.cause.later); failed = tt }

pub loop-preserved : goal.loop-preserved
loop-preserved g c =
    let e = c.answer_next.ensures in
    record {
      goes = goes_both c.args.volume.now (g.P.SectorView.space c.args.space.now) (g.A.Asker.state c.args.asker.now) c.loop.volume (g.P.SectorView.space c.loop.space) (g.A.Asker.state c.loop.asker) c.loop.invariant.goes
          c.answer_next.new.volume (g.P.SectorView.space c.answer_next.new.space) (g.A.Asker.state c.answer_next.new.asker)
          (record {
            stands = e.looked.stands;
            settled = e.serves.settled;
            tells = e.looked.reads.looks.same.tells;
            content = e.looked.reads.looks.content;
            capacity = e.looked.reads.keeps.capacity;
            names = e.looked.reads.looks.same.names;
            faults = e.looked.edits.ran.cause.later;
            told = e.told;
            right = e.right;
            each = c.in_ok-answer_next.ensures.each;
          });
      below = g.met.P.SectorView.follows_trans c.args.space.now c.loop.space c.answer_next.new.space c.loop.invariant.below e.looked.edits.ran.below;
    }

pub returns-clause-right : goal.returns-clause-right
returns-clause-right g c = c.loop.invariant.goes.right

pub returns-clause-below : goal.returns-clause-below
returns-clause-below g c = c.loop.invariant.below

pub returns-clause-cause : goal.returns-clause-cause
returns-clause-cause g c = record { later = c.loop.invariant.goes.faults; failed = tt }

pub returns-in_err-answer_next-clause-names : goal.returns-in_err-answer_next-clause-names
returns-in_err-answer_next-clause-names g c = c.answer_next.ensures.looked.reads.looks.same.names ∙ c.loop.invariant.goes.names

pub returns-then-not-branch-clause-names : goal.returns-then-not-branch-clause-names
returns-then-not-branch-clause-names g c = c.answer_next.ensures.looked.reads.looks.same.names ∙ c.loop.invariant.goes.names

pub returns-clause-names : goal.returns-clause-names
returns-clause-names g c = c.loop.invariant.goes.names
