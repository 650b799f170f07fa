use Rattle.std.specs.Prelude.{false}
use Rattle.hfs_serving.proofs.Going.{on_err}
use Rattle.hfs_serving.proofs.Speeches.{stops_unspoken}
use Rattle.session_lines.specs.Turns.{BrokenSessions, spoke_at}
use Rattle.session_lines.proofs.KindLines.{look_told}
use Rattle.session_lines.proofs.Looked.{looked_stops}
use Rattle.session_lines.proofs.linking.look_line.Goals as goal

pub returns-in_err-reply-clause-stops : goal.returns-in_err-reply-clause-stops
returns-in_err-reply-clause-stops g c tells capacity committed now shrunk number stands line =
    on_err c.from_residual.result (
      false,
      stops_unspoken capacity shrunk committed now (g.G.Ground.outside c.args.base.now) (g.G.Ground.outside c.look_for.new.base) number (spoke_at c.args.table.now) BrokenSessions (λ start all spoke. spoke.spoken)
          (c.in_err-reply.ensures.stops tells capacity committed now shrunk stands),
    )

pub returns-in_err-tell-clause-stops : goal.returns-in_err-tell-clause-stops
returns-in_err-tell-clause-stops g c tells capacity committed now shrunk number stands line =
    let old = g.G.Ground.outside c.args.base.now in
    let new = g.G.SectorView.space c.look_for.new.base in
    let after = g.G.Ground.outside c.look_for.new.base in
    let knows = g.V.Volume.knows c.look_for.new.volume new capacity in
    on_err c.from_residual-in_err-tell.result (
      false,
      stops_unspoken capacity shrunk committed now old after number (spoke_at c.args.table.now) BrokenSessions (λ start all spoke. spoke.spoken)
          (looked_stops capacity shrunk committed now old knows new after (c.in_ok-reply.ensures.goes tells capacity committed now shrunk stands).looked),
    )

pub returns-clause-goes : goal.returns-clause-goes
returns-clause-goes g c tells capacity committed now shrunk number stands line comes =
    look_told capacity shrunk committed now (g.G.Ground.outside c.args.base.now) number line c.args.table.now c.ids_stay_few.ensures c.args.look.now comes _ _ _ _ (c.in_ok-reply.ensures.goes tells capacity committed now shrunk stands) _ _ _ c.in_ok-tell.ensures.told
