use Rattle.std.proofs.Common.{◌∙◌, subst, arith}
use Rattle.std.specs.Prelude.{IsTrue}
use Rattle.hfs_volume.specs.declared.asked.Asked.TheVariants.{Plain}
use Rattle.volume_runs.specs.Run.{shrunk_in}
use Rattle.hfs_serving.proofs.Caused.{causes_more, commits_on}
use Rattle.hfs_serving.proofs.Going.{on_err}
use Rattle.hfs_serving.proofs.Hearing.{err_then}
use Rattle.hfs_serving.proofs.Tries.{if_ok}
use Rattle.session_lines.proofs.Acted.{act_own, act_says, act_stops, errand_asks, own_stops}
use Rattle.session_lines.proofs.Stretches.{stands_went, went_so_far}
use Rattle.session_lines.proofs.Judged.{own_tells, told_plain}
use Rattle.session_lines.proofs.acting.act.Goals as goal

pub do_own-requires-clause-stands : goal.do_own-requires-clause-stands
do_own-requires-clause-stands g c tells_there =
    let tells = subst (λ t. IsTrue t) c.in_ok-go_on.ensures.tells tells_there in
    let there = c.requires.stands tells in
    let space = g.G.SectorView.space c.go_on.new.base in
    let went = c.in_ok-go_on.ensures.goes tells there.0 there.1 there.2 there.3 there.4 in (
      there.0,
      went.last,
      went.next,
      shrunk_in there.3 went.run,
      stands_went there.0 there.3 there.1 there.2 (g.G.Ground.outside c.args.base.now) c.args.table.now c.args.stage c.go_on.new.stage (g.V.Volume.knows c.go_on.new.volume space there.0) space (g.G.Ground.outside c.go_on.new.base) went,
    )

pub returns-in_err-go_on-clause-stops : goal.returns-in_err-go_on-clause-stops
returns-in_err-go_on-clause-stops g c tells capacity committed now shrunk stands line comes =
    on_err c.from_residual.result
    (act_stops capacity shrunk committed now (g.G.Ground.outside c.args.base.now) c.args.number line c.args.table.now c.args.command c.args.stage comes (g.G.Ground.outside c.go_on.new.base)
    (c.in_err-go_on.ensures.stops tells capacity committed now shrunk stands))

pub returns-then-is_last-clause-goes : goal.returns-then-is_last-clause-goes
returns-then-is_last-clause-goes g c tells capacity committed now shrunk stands line comes =
    let old = g.G.Ground.outside c.args.base.now in
    let space = g.G.SectorView.space c.go_on.new.base in
    let mid = g.G.Ground.outside c.go_on.new.base in
    let knows = g.V.Volume.knows c.go_on.new.volume space capacity in
    let went = c.in_ok-go_on.ensures.goes tells capacity committed now shrunk stands in
    let new = g.G.SectorView.space c.do_own.new.base in
    let tells_there = c.in_ok-go_on.ensures.tells ∙ tells in
    act_own capacity shrunk committed now old c.args.number line c.args.table.now c.args.command c.args.stage comes c.step_keeps_trees.ensures c.ids_stay_few.ensures c.go_on.new.stage c.in_ok-go_on.ensures.ended knows space mid went c.do_own.result
    (g.V.Volume.knows c.do_own.new.volume new capacity) new (g.G.Ground.outside c.do_own.new.base) c.args.told.now c.do_own.new.told
    (c.do_own.ensures.goes tells_there capacity went.last went.next (shrunk_in shrunk went.run) (stands_went capacity shrunk committed now old c.args.table.now c.args.stage c.go_on.new.stage knows space mid went)) (c.is_last.ensures c.if-is_last.true)
    (if_ok _ _ c.do_own.result (λ answered left is. (c.waits-may_wait.ensures (left is).0).1) (c.do_own.ensures.left tells_there))

pub returns-then-is_last-clause-stops : goal.returns-then-is_last-clause-stops
returns-then-is_last-clause-stops g c tells capacity committed now shrunk stands line comes =
    let old = g.G.Ground.outside c.args.base.now in
    let space = g.G.SectorView.space c.go_on.new.base in
    let mid = g.G.Ground.outside c.go_on.new.base in
    let knows = g.V.Volume.knows c.go_on.new.volume space capacity in
    let went = c.in_ok-go_on.ensures.goes tells capacity committed now shrunk stands in
    err_then c.do_own.result
    (λ stopped. own_stops capacity shrunk committed now old c.args.number line c.args.table.now c.args.command c.args.stage comes c.step_keeps_trees.ensures c.ids_stay_few.ensures c.go_on.new.stage c.in_ok-go_on.ensures.ended knows space mid went (g.G.Ground.outside c.do_own.new.base) stopped)
    (c.do_own.ensures.stops (c.in_ok-go_on.ensures.tells ∙ tells) capacity went.last went.next (shrunk_in shrunk went.run) (stands_went capacity shrunk committed now old c.args.table.now c.args.stage c.go_on.new.stage knows space mid went))

pub returns-then-is_last-clause-caused : goal.returns-then-is_last-clause-caused
returns-then-is_last-clause-caused g c tells =
    commits_on _ 144 9 153 _ _ _ _ (c.in_ok-go_on.ensures.caused tells) (omega arith) (c.do_own.ensures.caused (c.in_ok-go_on.ensures.tells ∙ tells)) (omega arith)

pub returns-then-is_last-clause-left : goal.returns-then-is_last-clause-left
returns-then-is_last-clause-left g c tells line comes =
    if_ok _ _ c.do_own.result
    (λ answered left is.
    let it = left is in
    ((c.waits-may_wait.ensures it.0).0, record { asked = Plain c.args.command; is_of = errand_asks c.args.table.now line c.args.command c.args.stage comes; passed = it.1; wanted = it.2 }))
    (c.do_own.ensures.left (c.in_ok-go_on.ensures.tells ∙ tells))

pub returns-in_err-tell-in-Some-clause-stops : goal.returns-in_err-tell-in-Some-clause-stops
returns-in_err-tell-in-Some-clause-stops g c tells capacity committed now shrunk stands line comes =
    let old = g.G.Ground.outside c.args.base.now in
    let space = g.G.SectorView.space c.go_on.new.base in
    let mid = g.G.Ground.outside c.go_on.new.base in
    let knows = g.V.Volume.knows c.go_on.new.volume space capacity in
    let went = c.in_ok-go_on.ensures.goes tells capacity committed now shrunk stands in
    on_err c.from_residual-in_err-tell-in-Some.result
    (act_stops capacity shrunk committed now old c.args.number line c.args.table.now c.args.command c.args.stage comes mid (went_so_far capacity shrunk committed now old c.args.table.now c.args.stage c.go_on.new.stage knows space mid went))

pub returns-in-Some-clause-goes : goal.returns-in-Some-clause-goes
returns-in-Some-clause-goes g c tells capacity committed now shrunk stands line comes =
    let old = g.G.Ground.outside c.args.base.now in
    let space = g.G.SectorView.space c.go_on.new.base in
    let mid = g.G.Ground.outside c.go_on.new.base in
    let knows = g.V.Volume.knows c.go_on.new.volume space capacity in
    let went = c.in_ok-go_on.ensures.goes tells capacity committed now shrunk stands in
    act_says capacity shrunk committed now old c.args.number line c.args.table.now c.args.command c.args.stage comes c.step_keeps_trees.ensures c.ids_stay_few.ensures c.go_on.new.stage c.in_ok-go_on.ensures.ended knows space mid went c.in-Some.reply c.in-Some.ensures
    c.in_ok-tell-in-Some.field-0 c.args.told.now c.tell.new.told c.in_ok-tell-in-Some.ensures.told

pub returns-clause-stops : goal.returns-clause-stops
returns-clause-stops g c tells capacity committed now shrunk stands line comes =
    let old = g.G.Ground.outside c.args.base.now in
    let space = g.G.SectorView.space c.go_on.new.base in
    let mid = g.G.Ground.outside c.go_on.new.base in
    let knows = g.V.Volume.knows c.go_on.new.volume space capacity in
    let went = c.in_ok-go_on.ensures.goes tells capacity committed now shrunk stands in
    act_stops capacity shrunk committed now old c.args.number line c.args.table.now c.args.command c.args.stage comes mid (went_so_far capacity shrunk committed now old c.args.table.now c.args.stage c.go_on.new.stage knows space mid went)

pub returns-in_err-go_on-clause-caused : goal.returns-in_err-go_on-clause-caused
returns-in_err-go_on-clause-caused g c tells = causes_more _ 144 153 _ _ (c.in_err-go_on.ensures.caused tells) (omega arith)

pub returns-in_err-tell-in-Some-clause-caused : goal.returns-in_err-tell-in-Some-clause-caused
returns-in_err-tell-in-Some-clause-caused g c tells = causes_more _ 144 153 _ _ (c.in_ok-go_on.ensures.caused tells) (omega arith)

pub returns-clause-caused : goal.returns-clause-caused
returns-clause-caused g c tells = causes_more _ 144 153 _ _ (c.in_ok-go_on.ensures.caused tells) (omega arith)

pub returns-then-is_last-clause-plain : goal.returns-then-is_last-clause-plain
returns-then-is_last-clause-plain g c tells capacity committed now shrunk stands =
    let old = g.G.Ground.outside c.args.base.now in
    let space = g.G.SectorView.space c.go_on.new.base in
    let mid = g.G.Ground.outside c.go_on.new.base in
    let knows = g.V.Volume.knows c.go_on.new.volume space capacity in
    let went = c.in_ok-go_on.ensures.goes tells capacity committed now shrunk stands in
    let new = g.G.SectorView.space c.do_own.new.base in
    if_ok _ _ c.do_own.result
    (own_tells capacity (g.V.Volume.knows c.do_own.new.volume new capacity) went.last went.next (shrunk_in shrunk went.run) mid (Plain c.args.command) c.args.told.now c.do_own.new.told new (g.G.Ground.outside c.do_own.new.base))
    (c.do_own.ensures.goes (c.in_ok-go_on.ensures.tells ∙ tells) capacity went.last went.next (shrunk_in shrunk went.run) (stands_went capacity shrunk committed now old c.args.table.now c.args.stage c.go_on.new.stage knows space mid went))

pub returns-in-Some-clause-plain : goal.returns-in-Some-clause-plain
returns-in-Some-clause-plain g c tells capacity committed now shrunk stands is = told_plain c.in-Some.reply c.in_ok-tell-in-Some.field-0 c.args.told.now c.tell.new.told c.in_ok-tell-in-Some.ensures.told
