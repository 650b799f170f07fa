use Rattle.std.proofs.Common.{ℕ, List, sym, ◌∙◌, subst, arith}
use Rattle.std.specs.Prelude.{IsTrue, None, Option, Some, false}
use Rattle.hfs_serving.specs.Going.{line_if}
use Rattle.hfs_serving.proofs.Caused.{no_commit}
use Rattle.hfs_serving.proofs.Going.{on_err}
use Rattle.hfs_serving.proofs.Hearing.{err_then}
use Rattle.hfs_serving.proofs.Speeches.{stops_unspoken}
use Rattle.hfs_serving.proofs.Tries.{if_ok}
use Rattle.open_files.specs.declared.act.SessionReply.{SessionReply}
use Rattle.session_lines.specs.Turns.{BrokenSessions, spoke_at}
use Rattle.session_lines.specs.Writing.{IsJudged, written_by}
use Rattle.session_lines.proofs.Judged.{data_writes, line_behind, refused_line, stops_behind, tells_on, tells_refused}
use Rattle.session_lines.proofs.Looked.{looked_stops, stands_looked}
use Rattle.session_lines.proofs.writing.act_unless_compressed.Goals as goal

pub act-requires-clause-stands : goal.act-requires-clause-stands
act-requires-clause-stands g c tells_there =
    let tells = subst (λ t. IsTrue t) c.judge_command.ensures.tells tells_there in
    let at = c.requires.stands tells in
    let space = g.G.SectorView.space c.judge_command.new.base in
    let judged = c.in_ok-reply.ensures.goes tells at.0 at.1 at.2 at.3 at.4 in (
      at.0,
      at.1,
      at.2,
      at.3,
      stands_looked at.0 at.3 at.1 at.2 (g.G.Ground.outside c.args.base.now) (g.V.Volume.knows c.judge_command.new.volume space at.0) space (g.G.Ground.outside c.judge_command.new.base) judged.looked,
    )

pub returns-in_err-reply-clause-stops : goal.returns-in_err-reply-clause-stops
returns-in_err-reply-clause-stops g c tells capacity committed now shrunk stands line comes =
    on_err c.from_residual.result (
      false,
      stops_unspoken capacity shrunk committed now (g.G.Ground.outside c.args.base.now) (g.G.Ground.outside c.judge_command.new.base) c.args.number (spoke_at c.args.table.now) BrokenSessions (λ start all spoke. spoke.spoken)
          (c.in_err-reply.ensures.stops tells capacity committed now shrunk stands),
    )

pub returns-in_err-tell-in-Some-clause-stops : goal.returns-in_err-tell-in-Some-clause-stops
returns-in_err-tell-in-Some-clause-stops g c tells capacity committed now shrunk stands line comes =
    let old = g.G.Ground.outside c.args.base.now in
    let space = g.G.SectorView.space c.judge_command.new.base in
    let mid = g.G.Ground.outside c.judge_command.new.base in
    let knows = g.V.Volume.knows c.judge_command.new.volume space capacity in
    let judged = c.in_ok-reply.ensures.goes tells capacity committed now shrunk stands in
    on_err c.from_residual-in_err-tell-in-Some.result (
      false,
      stops_unspoken capacity shrunk committed now old mid c.args.number (spoke_at c.args.table.now) BrokenSessions (λ start all spoke. spoke.spoken) (looked_stops capacity shrunk committed now old knows space mid judged.looked),
    )

pub returns-in_ok-tell-in-Some-clause-goes : goal.returns-in_ok-tell-in-Some-clause-goes
returns-in_ok-tell-in-Some-clause-goes g c tells capacity committed now shrunk stands line comes =
    let old = g.G.Ground.outside c.args.base.now in
    let space = g.G.SectorView.space c.judge_command.new.base in
    let mid = g.G.Ground.outside c.judge_command.new.base in
    let knows = g.V.Volume.knows c.judge_command.new.volume space capacity in
    let judged = c.in_ok-reply.ensures.goes tells capacity committed now shrunk stands in
    refused_line capacity shrunk committed now old knows space mid judged.looked c.args.number line c.args.table.now c.step_keeps_trees.ensures c.ids_stay_few.ensures (written_by c.args.command) (data_writes c.args.table.now line c.args.command c.args.stage comes) c.in-Some.reply (subst (λ (o : Option SessionReply). IsJudged now (written_by c.args.command) o) c.in-Some.is judged.judged)
    c.in_ok-tell-in-Some.field-0 _ _ c.in_ok-tell-in-Some.ensures.told

pub returns-in_ok-tell-in-Some-clause-judged : goal.returns-in_ok-tell-in-Some-clause-judged
returns-in_ok-tell-in-Some-clause-judged g c tells capacity committed now shrunk stands path is served =
    let old = g.G.Ground.outside c.args.base.now in
    let space = g.G.SectorView.space c.judge_command.new.base in
    let mid = g.G.Ground.outside c.judge_command.new.base in
    let knows = g.V.Volume.knows c.judge_command.new.volume space capacity in
    let judged = c.in_ok-reply.ensures.goes tells capacity committed now shrunk stands in
    tells_refused now path c.in-Some.reply (subst (λ (w : Option (List (List ℕ))). IsJudged now w (Some c.in-Some.reply)) is (subst (λ (o : Option SessionReply). IsJudged now (written_by c.args.command) o) c.in-Some.is judged.judged)) c.in_ok-tell-in-Some.field-0 _ _ c.in_ok-tell-in-Some.ensures.told

pub returns-in-None-clause-goes : goal.returns-in-None-clause-goes
returns-in-None-clause-goes g c tells capacity committed now shrunk stands line comes =
    let old = g.G.Ground.outside c.args.base.now in
    let space = g.G.SectorView.space c.judge_command.new.base in
    let mid = g.G.Ground.outside c.judge_command.new.base in
    let knows = g.V.Volume.knows c.judge_command.new.volume space capacity in
    let judged = c.in_ok-reply.ensures.goes tells capacity committed now shrunk stands in
    let there = stands_looked capacity shrunk committed now old knows space mid judged.looked in
    let tells_there = c.judge_command.ensures.tells ∙ tells in
    let new = g.G.SectorView.space c.act.new.base in
    let end = g.G.Ground.outside c.act.new.base in
    if_ok _ _ c.act.result
    (λ served its.
    line_behind capacity shrunk committed now old knows space mid judged.looked c.args.number (spoke_at c.args.table.now) (spoke_at c.args.table.now) line c.args.told.now c.act.new.told served (g.V.Volume.knows c.act.new.volume new capacity) new end its)
    (c.act.ensures.goes tells_there capacity committed now shrunk there line comes)

pub returns-in-None-clause-stops : goal.returns-in-None-clause-stops
returns-in-None-clause-stops g c tells capacity committed now shrunk stands line comes =
    let old = g.G.Ground.outside c.args.base.now in
    let space = g.G.SectorView.space c.judge_command.new.base in
    let mid = g.G.Ground.outside c.judge_command.new.base in
    let knows = g.V.Volume.knows c.judge_command.new.volume space capacity in
    let judged = c.in_ok-reply.ensures.goes tells capacity committed now shrunk stands in
    let there = stands_looked capacity shrunk committed now old knows space mid judged.looked in
    let tells_there = c.judge_command.ensures.tells ∙ tells in
    let new = g.G.SectorView.space c.act.new.base in
    let end = g.G.Ground.outside c.act.new.base in
    err_then c.act.result
    (λ its. (its.0, stops_behind capacity shrunk committed now old knows space mid judged.looked c.args.number (spoke_at c.args.table.now) BrokenSessions (line_if its.0 line) end its.1))
    (c.act.ensures.stops tells_there capacity committed now shrunk there line comes)

pub returns-in-None-clause-judged : goal.returns-in-None-clause-judged
returns-in-None-clause-judged g c tells capacity committed now shrunk stands path is =
    let old = g.G.Ground.outside c.args.base.now in
    let space = g.G.SectorView.space c.judge_command.new.base in
    let mid = g.G.Ground.outside c.judge_command.new.base in
    let knows = g.V.Volume.knows c.judge_command.new.volume space capacity in
    let judged = c.in_ok-reply.ensures.goes tells capacity committed now shrunk stands in
    let there = stands_looked capacity shrunk committed now old knows space mid judged.looked in
    let tells_there = c.judge_command.ensures.tells ∙ tells in
    let new = g.G.SectorView.space c.act.new.base in
    let end = g.G.Ground.outside c.act.new.base in
    if_ok _ _ c.act.result
    (λ served own is_served. tells_on now path (subst (λ (w : Option (List (List ℕ))). IsJudged now w None) is (subst (λ (o : Option SessionReply). IsJudged now (written_by c.args.command) o) c.in-None.is judged.judged)) c.args.told.now c.act.new.told (own is_served))
    (c.act.ensures.plain tells_there capacity committed now shrunk there)

pub returns-in-None-clause-left : goal.returns-in-None-clause-left
returns-in-None-clause-left g c tells line comes =
    c.act.ensures.left (c.judge_command.ensures.tells ∙ tells) line comes

pub returns-in_err-reply-clause-caused : goal.returns-in_err-reply-clause-caused
returns-in_err-reply-clause-caused g c tells =
    no_commit _ 153 _ _ (omega (arith, c.judge_command.ensures.barriers))

pub returns-in_err-tell-in-Some-clause-caused : goal.returns-in_err-tell-in-Some-clause-caused
returns-in_err-tell-in-Some-clause-caused g c tells =
    no_commit _ 153 _ _ (omega (arith, c.judge_command.ensures.barriers))

pub returns-in_ok-tell-in-Some-clause-caused : goal.returns-in_ok-tell-in-Some-clause-caused
returns-in_ok-tell-in-Some-clause-caused g c tells =
    no_commit _ 153 _ _ (omega (arith, c.judge_command.ensures.barriers))
