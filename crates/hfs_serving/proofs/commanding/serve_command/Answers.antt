use Rattle.std.proofs.Common.{refl, sym, ◌∙◌, subst, arith}
use Rattle.std.specs.Prelude.{Bool, Some, IsTrue}
use Rattle.hfs_serving.specs.Going.{GoesRested, ahead_of}
use Rattle.hfs_serving.proofs.Tries.{tried_answers, tried_left, tried_waits}
use Rattle.hfs_serving.proofs.Going.{left_line, may_be_left, memory_stops_tidy, on_err, rested_ahead, rested_both, rested_left, rested_looks, rested_own, stands_there, tidy_stops, waiting_line}
use Rattle.std.proofs.lemmas.Result.{err_from_is_err_and}
use Rattle.hfs_serving.proofs.Numbering.{no_trouble}
use Rattle.hfs_serving.proofs.Causes.{counts_both, counts_none, fine_stop, handed_stop}
use Rattle.hfs_serving.proofs.Caused.{causes_more, commits_on, four_most, is_waiting, is_wanted, no_commit, none_passed, room_made, short_commit}
use Rattle.hfs_serving.specs.Commits.{WantsAt}
use Rattle.hfs_serving.proofs.commanding.serve_command.Goals as goal

pub loop-init : goal.loop-init
loop-init g c = record {
  counts = counts_none _ _;
  anchor = refl;
  tells = refl;
  serves = λ capacity serves taken. (serves, taken);
  waiting = λ may. (may, refl);
  caused = λ tells. no_commit _ _ _ _ (omega arith);
  goes = λ tells capacity committed now shrunk begun own line spelled rests.
      let space = g.G.SectorView.space c.args.base.now in (
        refl,
        rested_ahead capacity shrunk committed now (g.G.Ground.outside begun) c.args.may_wait own line (g.V.Volume.knows c.args.volume.now space capacity) space (g.G.Ground.outside c.args.base.now) rests,
      );
}

pub attempt-requires-clause-serves : goal.attempt-requires-clause-serves
attempt-requires-clause-serves g c =
    let there = c.requires.serves in
    let still = c.loop.invariant.serves there.0 there.1 there.2 in
    (there.0, still.0, still.1)

pub attempt-requires-clause-stands : goal.attempt-requires-clause-stands
attempt-requires-clause-stands g c tells_there =
    let tells = subst (λ t. IsTrue t) c.loop.invariant.tells tells_there in
    let is = c.requires.rests tells in
    let space = g.G.SectorView.space c.loop.base in
    let goes = (c.loop.invariant.goes tells is.0 is.1 is.2 is.3 is.4 is.5 is.6 is.7 is.8).1 in
    (is.0, goes.tidy.last, goes.tidy.next, is.3, stands_there is.0 is.3 is.1 is.2 (g.G.Ground.outside is.4) (g.V.Volume.knows c.loop.volume space is.0) space (g.G.Ground.outside c.loop.base) goes.tidy)

pub returns-in_err-step-clause-stops : goal.returns-in_err-step-clause-stops
returns-in_err-step-clause-stops g c tells capacity committed now shrunk begun own line spelled rests =
    let old = g.G.Ground.outside begun in
    let space = g.G.SectorView.space c.loop.base in
    let mid = g.G.Ground.outside c.loop.base in
    let knows = g.V.Volume.knows c.loop.volume space capacity in
    let both = c.loop.invariant.goes tells capacity committed now shrunk begun own line spelled rests in
    let goes = both.1 in
    let tells_there = c.loop.invariant.tells ∙ tells in
    let there = stands_there capacity shrunk committed now old knows space mid goes.tidy in
    on_err c.from_residual.result
    (tidy_stops capacity shrunk committed now old knows space mid goes.tidy (g.G.Ground.outside c.attempt.new.base) (c.in_err-step.ensures.stops tells_there capacity goes.tidy.last goes.tidy.next shrunk there))

pub returns-then-is_answered-clause-goes : goal.returns-then-is_answered-clause-goes
returns-then-is_answered-clause-goes g c tells capacity committed now shrunk begun own line spelled rests =
    let old = g.G.Ground.outside begun in
    let space = g.G.SectorView.space c.loop.base in
    let mid = g.G.Ground.outside c.loop.base in
    let knows = g.V.Volume.knows c.loop.volume space capacity in
    let both = c.loop.invariant.goes tells capacity committed now shrunk begun own line spelled rests in
    let goes = rested_own capacity shrunk committed now old c.loop.may_wait own line knows space mid both.1 in
    let tells_there = c.loop.invariant.tells ∙ tells in
    let there = stands_there capacity shrunk committed now old knows space mid goes.tidy in
    let new = g.G.SectorView.space c.attempt.new.base in
    let after = g.G.Ground.outside c.attempt.new.base in
    let knows_new = g.V.Volume.knows c.attempt.new.volume new capacity in
    let tries = c.in_ok-step.ensures.tries tells_there capacity goes.tidy.last goes.tidy.next shrunk there own line spelled in
    let does = tried_answers capacity shrunk committed now old knows space mid own line goes knows_new c.args.number _ _ new after c.in_ok-step.step (sym c.is_answered.ensures ∙ c.if-is_answered.true) tries in
    (does.0, does.1, subst (λ h. g.H.Hearer.hears h does.0 does.1 c.attempt.new.heard) both.0 does.2, does.3)

pub returns-then-is_answered-clause-still : goal.returns-then-is_answered-clause-still
returns-then-is_answered-clause-still g c capacity serves taken =
    let was = c.loop.invariant.serves capacity serves taken in
    c.in_ok-step.ensures.still capacity was.0 was.1

pub returns-then-is_answered-clause-tells : goal.returns-then-is_answered-clause-tells
returns-then-is_answered-clause-tells g c = c.in_ok-step.ensures.tells ∙ c.loop.invariant.tells

pub returns-then-waits-clause-goes : goal.returns-then-waits-clause-goes
returns-then-waits-clause-goes g c tells capacity committed now shrunk begun own line spelled rests =
    let old = g.G.Ground.outside begun in
    let space = g.G.SectorView.space c.loop.base in
    let mid = g.G.Ground.outside c.loop.base in
    let knows = g.V.Volume.knows c.loop.volume space capacity in
    let both = c.loop.invariant.goes tells capacity committed now shrunk begun own line spelled rests in
    let waits = sym c.waits.ensures ∙ c.if-waits.true in
    let goes = subst (λ (b : Bool). GoesRested capacity (ahead_of b own line) knows committed now shrunk old space mid) (may_be_left c.in_ok-step.step c.loop.may_wait waits) both.1 in
    let tells_there = c.loop.invariant.tells ∙ tells in
    let there = stands_there capacity shrunk committed now old knows space mid goes.tidy in
    let new = g.G.SectorView.space c.attempt.new.base in
    let after = g.G.Ground.outside c.attempt.new.base in
    let knows_new = g.V.Volume.knows c.attempt.new.volume new capacity in
    let tries = tried_waits capacity knows_new goes.tidy.last goes.tidy.next shrunk c.args.number own line _ _ space mid new after c.in_ok-step.step c.loop.may_wait waits (c.in_ok-step.ensures.tries tells_there capacity goes.tidy.last goes.tidy.next shrunk there own line spelled) in
    let left = waiting_line capacity knows_new goes.tidy.last goes.tidy.next shrunk new c.args.number own line _ _ c.in_ok-step.step c.loop.may_wait waits tries.1 in
    let rested = rested_looks capacity shrunk committed now old knows space mid goes knows_new new after tries.0 left.1 in
    (left.0 ∙ both.0, rested.tidy)

pub returns-then-waits-clause-still : goal.returns-then-waits-clause-still
returns-then-waits-clause-still g c capacity serves taken =
    let was = c.loop.invariant.serves capacity serves taken in
    c.in_ok-step.ensures.still capacity was.0 was.1

pub returns-then-waits-clause-tells : goal.returns-then-waits-clause-tells
returns-then-waits-clause-tells g c = c.in_ok-step.ensures.tells ∙ c.loop.invariant.tells

pub make_room-requires-clause-serves : goal.make_room-requires-clause-serves
make_room-requires-clause-serves g c =
    let there = c.requires.serves in
    let was = c.loop.invariant.serves there.0 there.1 there.2 in
    let still = c.in_ok-step.ensures.still there.0 was.0 was.1 in
    (there.0, still.0, still.1)

pub make_room-requires-clause-stands : goal.make_room-requires-clause-stands
make_room-requires-clause-stands g c tells_new =
    let tells = subst (λ t. IsTrue t) (c.in_ok-step.ensures.tells ∙ c.loop.invariant.tells) tells_new in
    let is = c.requires.rests tells in
    let capacity = is.0 in
    let committed = is.1 in
    let now = is.2 in
    let shrunk = is.3 in
    let begun = is.4 in
    let own = is.5 in
    let line = is.6 in
    let spelled = is.7 in
    let rests = is.8 in
    let old = g.G.Ground.outside begun in
    let space = g.G.SectorView.space c.loop.base in
    let mid = g.G.Ground.outside c.loop.base in
    let knows = g.V.Volume.knows c.loop.volume space capacity in
    let both = c.loop.invariant.goes tells capacity committed now shrunk begun own line spelled rests in
    let goes = rested_own capacity shrunk committed now old c.loop.may_wait own line knows space mid both.1 in
    let tells_there = c.loop.invariant.tells ∙ tells in
    let there = stands_there capacity shrunk committed now old knows space mid goes.tidy in
    let new = g.G.SectorView.space c.attempt.new.base in
    let after = g.G.Ground.outside c.attempt.new.base in
    let knows_new = g.V.Volume.knows c.attempt.new.volume new capacity in
    let other = sym c.is_answered.ensures ∙ c.if-is_answered.false in
    let tries = tried_left capacity knows_new goes.tidy.last goes.tidy.next shrunk c.args.number own line _ _ space mid new after c.in_ok-step.step other (c.in_ok-step.ensures.tries tells_there capacity goes.tidy.last goes.tidy.next shrunk there own line spelled) in
    let left = left_line capacity knows_new goes.tidy.last goes.tidy.next shrunk new c.args.number own line _ _ c.in_ok-step.step other tries.1 in
    let rested = rested_left capacity shrunk committed now old knows space mid goes knows_new new after tries.0 left.1 in
    (capacity, rested.tidy.last, rested.tidy.next, shrunk, stands_there capacity shrunk committed now old knows_new new after rested.tidy)

pub returns-in_err-make_room-clause-stops : goal.returns-in_err-make_room-clause-stops
returns-in_err-make_room-clause-stops g c tells capacity committed now shrunk begun own line spelled rests =
    let old = g.G.Ground.outside begun in
    let space = g.G.SectorView.space c.loop.base in
    let mid = g.G.Ground.outside c.loop.base in
    let knows = g.V.Volume.knows c.loop.volume space capacity in
    let both = c.loop.invariant.goes tells capacity committed now shrunk begun own line spelled rests in
    let goes = rested_own capacity shrunk committed now old c.loop.may_wait own line knows space mid both.1 in
    let tells_there = c.loop.invariant.tells ∙ tells in
    let there = stands_there capacity shrunk committed now old knows space mid goes.tidy in
    let new = g.G.SectorView.space c.attempt.new.base in
    let after = g.G.Ground.outside c.attempt.new.base in
    let knows_new = g.V.Volume.knows c.attempt.new.volume new capacity in
    let other = sym c.is_answered.ensures ∙ c.if-is_answered.false in
    let tries = tried_left capacity knows_new goes.tidy.last goes.tidy.next shrunk c.args.number own line _ _ space mid new after c.in_ok-step.step other (c.in_ok-step.ensures.tries tells_there capacity goes.tidy.last goes.tidy.next shrunk there own line spelled) in
    let left = left_line capacity knows_new goes.tidy.last goes.tidy.next shrunk new c.args.number own line _ _ c.in_ok-step.step other tries.1 in
    let rested = rested_left capacity shrunk committed now old knows space mid goes knows_new new after tries.0 left.1 in
    on_err c.from_residual-in_err-make_room.result
    (tidy_stops capacity shrunk committed now old knows_new new after rested.tidy (g.G.Ground.outside c.make_room.new.base)
    (c.in_err-make_room.ensures.stops (c.in_ok-step.ensures.tells ∙ tells_there) capacity rested.tidy.last rested.tidy.next shrunk (stands_there capacity shrunk committed now old knows_new new after rested.tidy)))

pub loop-preserved : goal.loop-preserved
loop-preserved g c = record {
  counts = counts_both (counts_both c.loop.invariant.counts c.attempt.ensures.faults.counts) c.make_room.ensures.faults.counts;
  anchor = c.make_room.ensures.anchor ∙ c.attempt.ensures.anchor ∙ c.loop.invariant.anchor;
  tells = c.in_ok-make_room.ensures.tells ∙ c.in_ok-step.ensures.tells ∙ c.loop.invariant.tells;
  serves = λ capacity serves taken.
      let was = c.loop.invariant.serves capacity serves taken in
      let still = c.in_ok-step.ensures.still capacity was.0 was.1 in
      c.in_ok-make_room.ensures.still capacity still.0 still.1;
  waiting = λ may. absurd (cc may);
  caused = λ tells.
      let other = sym c.is_answered.ensures ∙ c.if-is_answered.false in
      commits_on _ 0 0 0 _ _ _ _ (c.loop.invariant.caused tells) (omega arith)
      (room_made _ (g.G.SectorView.space c.loop.base).barriers (g.G.SectorView.space c.attempt.new.base).barriers (g.G.SectorView.space c.make_room.new.base).barriers c.in_ok-step.step c.wants_commit.result other (λ wanted. is_wanted c.in_ok-step.step (sym c.wants_commit.ensures ∙ wanted)) (c.in_ok-step.ensures.wanted (c.loop.invariant.tells ∙ tells)) c.in_ok-step.ensures.barriers c.make_room.ensures.barriers) (omega arith);
  goes = λ tells capacity committed now shrunk begun own line spelled rests.
      let old = g.G.Ground.outside begun in
      let space = g.G.SectorView.space c.loop.base in
      let mid = g.G.Ground.outside c.loop.base in
      let knows = g.V.Volume.knows c.loop.volume space capacity in
      let both = c.loop.invariant.goes tells capacity committed now shrunk begun own line spelled rests in
      let goes = rested_own capacity shrunk committed now old c.loop.may_wait own line knows space mid both.1 in
      let tells_there = c.loop.invariant.tells ∙ tells in
      let there = stands_there capacity shrunk committed now old knows space mid goes.tidy in
      let new = g.G.SectorView.space c.attempt.new.base in
      let after = g.G.Ground.outside c.attempt.new.base in
      let knows_new = g.V.Volume.knows c.attempt.new.volume new capacity in
      let other = sym c.is_answered.ensures ∙ c.if-is_answered.false in
      let tries = tried_left capacity knows_new goes.tidy.last goes.tidy.next shrunk c.args.number own line _ _ space mid new after c.in_ok-step.step other (c.in_ok-step.ensures.tries tells_there capacity goes.tidy.last goes.tidy.next shrunk there own line spelled) in
      let left = left_line capacity knows_new goes.tidy.last goes.tidy.next shrunk new c.args.number own line _ _ c.in_ok-step.step other tries.1 in
      let rested = rested_left capacity shrunk committed now old knows space mid goes knows_new new after tries.0 left.1 in
      let end = g.G.SectorView.space c.make_room.new.base in (
        left.0 ∙ both.0,
        rested_both capacity shrunk committed now old knows_new new after rested (g.V.Volume.knows c.make_room.new.volume end capacity) end (g.G.Ground.outside c.make_room.new.base)
            (c.in_ok-make_room.ensures.goes (c.in_ok-step.ensures.tells ∙ tells_there) capacity rested.tidy.last rested.tidy.next shrunk (stands_there capacity shrunk committed now old knows_new new after rested.tidy)),
      );
}

-- a command that comes to no end
pub returns-clause-stops : goal.returns-clause-stops
returns-clause-stops g c tells capacity committed now shrunk begun own line spelled rests =
    let space = g.G.SectorView.space c.loop.base in
    let both = c.loop.invariant.goes tells capacity committed now shrunk begun own line spelled rests in
    memory_stops_tidy capacity shrunk committed now (g.G.Ground.outside begun) (g.V.Volume.knows c.loop.volume space capacity) space (g.G.Ground.outside c.loop.base) both.1.tidy

pub returns-in_err-step-clause-faults : goal.returns-in_err-step-clause-faults
returns-in_err-step-clause-faults g c =
    let p = err_from_is_err_and c.from_residual.result c.from_residual.ensures.1 in
    handed_stop (c.loop.invariant.counts) ⊥ _ p.0 c.from_residual.result c.in_err-step.ensures.faults p.1 p.2

pub returns-then-is_answered-clause-faults : goal.returns-then-is_answered-clause-faults
returns-then-is_answered-clause-faults g c =
    fine_stop (counts_both c.loop.invariant.counts c.attempt.ensures.faults.counts) ⊥ _

pub returns-then-waits-clause-faults : goal.returns-then-waits-clause-faults
returns-then-waits-clause-faults g c =
    fine_stop (counts_both c.loop.invariant.counts c.attempt.ensures.faults.counts) ⊥ _

pub returns-in_err-make_room-clause-faults : goal.returns-in_err-make_room-clause-faults
returns-in_err-make_room-clause-faults g c =
    let p = err_from_is_err_and c.from_residual-in_err-make_room.result c.from_residual-in_err-make_room.ensures.1 in
    handed_stop (counts_both c.loop.invariant.counts c.attempt.ensures.faults.counts) ⊥ _ p.0 c.from_residual-in_err-make_room.result c.in_err-make_room.ensures.faults p.1 p.2

pub returns-clause-faults : goal.returns-clause-faults
returns-clause-faults g c = record { counts = c.loop.invariant.counts; disk = λ is. absurd (cc is); sink = λ is. absurd (cc is); source = λ is. absurd (cc is) }

pub returns-in_err-step-clause-no_many : goal.returns-in_err-step-clause-no_many
returns-in_err-step-clause-no_many g c is =
    let p = err_from_is_err_and c.from_residual.result c.from_residual.ensures.1 in
    no_trouble _ p.0 c.from_residual.result p.1 p.2 is

pub returns-in_err-make_room-clause-no_many : goal.returns-in_err-make_room-clause-no_many
returns-in_err-make_room-clause-no_many g c is =
    let p = err_from_is_err_and c.from_residual-in_err-make_room.result c.from_residual-in_err-make_room.ensures.1 in
    no_trouble _ p.0 c.from_residual-in_err-make_room.result p.1 p.2 is

pub returns-then-is_answered-clause-caused : goal.returns-then-is_answered-clause-caused
returns-then-is_answered-clause-caused g c tells =
    commits_on _ 0 1 1 _ _ _ _ (c.loop.invariant.caused tells) (omega arith) (short_commit _ (g.G.SectorView.space c.loop.base).barriers _ (omega (arith, c.in_ok-step.ensures.barriers, four_most c.in_ok-step.step))) (omega arith)

pub returns-then-is_answered-clause-left : goal.returns-then-is_answered-clause-left
returns-then-is_answered-clause-left g c tells is = absurd (cc is)

pub returns-then-waits-clause-caused : goal.returns-then-waits-clause-caused
returns-then-waits-clause-caused g c tells =
    let other = sym c.is_answered.ensures ∙ c.if-is_answered.false in
    commits_on _ 0 0 1 _ _ _ _ (c.loop.invariant.caused tells) (omega arith) (no_commit _ _ (g.G.SectorView.space c.loop.base).barriers _ (omega (arith, c.in_ok-step.ensures.barriers, none_passed c.in_ok-step.step other))) (omega arith)

pub returns-then-waits-clause-left : goal.returns-then-waits-clause-left
returns-then-waits-clause-left g c tells is =
    let waits = sym c.waits.ensures ∙ c.if-waits.true in
    let waiting = c.loop.invariant.waiting (may_be_left c.in_ok-step.step c.loop.may_wait waits) in (
      waiting.0,
      subst (λ n. WantsAt g.V.Volume.wants g.G.SectorView.space (Some c.args.asked.now) n) waiting.1 (c.in_ok-step.ensures.wanted (c.loop.invariant.tells ∙ tells) (is_waiting c.in_ok-step.step c.loop.may_wait waits)),
    )

pub returns-in_err-step-clause-caused : goal.returns-in_err-step-clause-caused
returns-in_err-step-clause-caused g c tells = commits_on _ 0 1 1 _ _ _ _ (c.loop.invariant.caused tells) (omega arith) (short_commit _ (g.G.SectorView.space c.loop.base).barriers _ (omega (arith, c.attempt.ensures.most))) (omega arith)

pub returns-in_err-make_room-clause-caused : goal.returns-in_err-make_room-clause-caused
returns-in_err-make_room-clause-caused g c tells =
    let other = sym c.is_answered.ensures ∙ c.if-is_answered.false in
    commits_on _ 0 0 1 _ _ _ _ (c.loop.invariant.caused tells) (omega arith)
    (room_made _ (g.G.SectorView.space c.loop.base).barriers (g.G.SectorView.space c.attempt.new.base).barriers (g.G.SectorView.space c.make_room.new.base).barriers c.in_ok-step.step c.wants_commit.result other (λ wanted. is_wanted c.in_ok-step.step (sym c.wants_commit.ensures ∙ wanted)) (c.in_ok-step.ensures.wanted (c.loop.invariant.tells ∙ tells)) c.in_ok-step.ensures.barriers c.make_room.ensures.barriers) (omega arith)

pub returns-clause-caused : goal.returns-clause-caused
returns-clause-caused g c tells = causes_more _ 0 1 _ _ (c.loop.invariant.caused tells) (omega arith)
