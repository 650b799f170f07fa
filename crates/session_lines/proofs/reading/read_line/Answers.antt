use Rattle.hfs_serving.proofs.Going.{on_err}
use Rattle.session_lines.proofs.ClosedLines.{stops_nothing}
use Rattle.session_lines.proofs.ReadLines.{read_line, read_untold}
use Rattle.session_lines.proofs.reading.read_line.Goals as goal

pub returns-in_err-reply-clause-stops : goal.returns-in_err-reply-clause-stops
returns-in_err-reply-clause-stops g c tells capacity committed now shrunk number stands line =
    on_err c.from_residual.result
    (stops_nothing capacity shrunk committed now (g.G.Ground.outside c.args.base.now) number line c.args.table.now (g.G.Ground.outside c.read.new.base) (c.in_err-reply.ensures.stops tells capacity committed now shrunk stands))

pub returns-in_err-tell-clause-stops : goal.returns-in_err-tell-clause-stops
returns-in_err-tell-clause-stops g c tells capacity committed now shrunk number stands line =
    on_err c.from_residual-in_err-tell.result
    (read_untold capacity shrunk committed now (g.G.Ground.outside c.args.base.now) number line c.args.table.now _ _ _ _ _ _ _ (c.in_ok-reply.ensures.goes tells capacity committed now shrunk stands))

pub returns-clause-goes : goal.returns-clause-goes
returns-clause-goes g c tells capacity committed now shrunk number stands line comes =
    read_line capacity shrunk committed now (g.G.Ground.outside c.args.base.now) number line c.args.table.now c.step_keeps_trees.ensures c.ids_stay_few.ensures c.args.id c.args.from c.args.length comes _ _ _ _
    (c.in_ok-reply.ensures.goes tells capacity committed now shrunk stands) _ _ _ c.in_ok-tell.ensures.told
