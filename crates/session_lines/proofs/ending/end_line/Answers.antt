use Rattle.std.proofs.Common.{Bool, ◌∙◌, ap}
use Rattle.hfs_serving.proofs.Going.{on_err}
use Rattle.hfs_serving.specs.Said.{joined}
use Rattle.hfs_language.specs.declared.reply.Reply.TheVariants as reply
use Rattle.open_files.specs.declared.act.SessionReply.TheVariants as told
use Rattle.session_lines.specs.Said.{text_told, told_if}
use Rattle.session_lines.proofs.Closed.{err_more, ok_both}
use Rattle.session_lines.proofs.ClosedLines.{end_stops, ended_line, stops_untold, told_short}
use Rattle.session_lines.proofs.ending.end_line.Goals as goal

pub returns-in_err-tell-clause-stops : goal.returns-in_err-tell-clause-stops
returns-in_err-tell-clause-stops g c tells capacity committed now shrunk stands line comes =
    on_err c.from_residual.result (stops_untold capacity shrunk committed now (g.G.Ground.outside c.args.base.now) c.args.number line c.args.table.now _ (g.G.SectorView.space c.args.base.now) stands)

pub returns-then-branch-clause-goes : goal.returns-then-branch-clause-goes
returns-then-branch-clause-goes g c tells capacity committed now shrunk stands line comes =
    let old = g.G.Ground.outside c.args.base.now in
    let space = g.G.SectorView.space c.close_all.new.base in
    let new = g.G.Ground.outside c.close_all.new.base in
    let knows = g.V.Volume.knows c.close_all.new.volume space capacity in
    ok_both _ _ _ c.close_all.result
    (λ some none.
    ended_line capacity shrunk committed now old c.args.number line c.args.table.now c.args.session comes c.step_keeps_trees.ensures c.ids_stay_few.ensures c.close_all.new.table knows space new c.args.told.now c.tell.new.told
    (c.in_ok-tell.ensures.told ∙ ap (λ (whole : Bool). joined c.args.told.now (text_told (told_if whole (told.Plain reply.Ok)))) c.if-branch.true) some none) (c.close_all.ensures.goes tells capacity committed now shrunk stands) c.close_all.ensures.all

pub returns-then-branch-clause-stops : goal.returns-then-branch-clause-stops
returns-then-branch-clause-stops g c tells capacity committed now shrunk stands line comes =
    err_more _ _ c.close_all.result
    (end_stops capacity shrunk committed now (g.G.Ground.outside c.args.base.now) c.args.number line c.args.table.now c.args.session comes c.step_keeps_trees.ensures c.ids_stay_few.ensures (g.G.Ground.outside c.close_all.new.base))
    (c.close_all.ensures.stops tells capacity committed now shrunk stands)

pub returns-clause-goes : goal.returns-clause-goes
returns-clause-goes g c tells capacity committed now shrunk stands line comes =
    told_short capacity shrunk committed now (g.G.Ground.outside c.args.base.now) c.args.number line c.args.table.now _ (g.G.SectorView.space c.args.base.now) stands comes.0 c.step_keeps_trees.ensures c.ids_stay_few.ensures c.args.told.now c.tell.new.told
    (c.in_ok-tell.ensures.told ∙ ap (λ (whole : Bool). joined c.args.told.now (text_told (told_if whole (told.Plain reply.Ok)))) c.if-branch.false)
