use Rattle.hfs_serving.proofs.Going.{on_err}
use Rattle.session_lines.proofs.AskedLines.{asked_line, asked_stops, end_stops}
use Rattle.session_lines.proofs.asking.ask_line.Goals as goal

pub returns-in_err-go_on-clause-stops : goal.returns-in_err-go_on-clause-stops
returns-in_err-go_on-clause-stops g c tells capacity committed now shrunk stands line comes =
    on_err c.from_residual.result
    (asked_stops capacity shrunk committed now (g.G.Ground.outside c.args.base.now) c.args.number line c.args.table.now c.args.session c.args.stage comes (g.G.Ground.outside c.go_on.new.base) (c.in_err-go_on.ensures.stops tells capacity committed now shrunk stands))

pub returns-in_err-tell_end-clause-stops : goal.returns-in_err-tell_end-clause-stops
returns-in_err-tell_end-clause-stops g c tells capacity committed now shrunk stands line comes =
    let space = g.G.SectorView.space c.go_on.new.base in
    on_err c.from_residual-in_err-tell_end.result
    (end_stops capacity shrunk committed now (g.G.Ground.outside c.args.base.now) c.args.number line c.args.table.now c.args.session c.args.stage comes c.go_on.new.stage (g.V.Volume.knows c.go_on.new.volume space capacity) space (g.G.Ground.outside c.go_on.new.base)
    (c.in_ok-go_on.ensures.goes tells capacity committed now shrunk stands))

pub returns-clause-goes : goal.returns-clause-goes
returns-clause-goes g c tells capacity committed now shrunk stands line comes =
    let space = g.G.SectorView.space c.go_on.new.base in
    let end = c.in_ok-tell_end.ensures.told in
    asked_line capacity shrunk committed now (g.G.Ground.outside c.args.base.now) c.args.number line c.args.table.now c.args.session c.args.stage comes c.go_on.new.stage (g.V.Volume.knows c.go_on.new.volume space capacity) space (g.G.Ground.outside c.go_on.new.base)
    (c.in_ok-go_on.ensures.goes tells capacity committed now shrunk stands) c.step_keeps_trees.ensures c.ids_stay_few.ensures c.in_ok-go_on.ensures.ended end.0 c.tell_end.new.table end.1 c.args.told.now c.tell_end.new.told end.2
