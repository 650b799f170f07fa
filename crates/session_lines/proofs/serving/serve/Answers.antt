use Rattle.hfs_serving.proofs.Going.{on_err}
use Rattle.session_lines.proofs.ClosedLines.{stops_untold}
use Rattle.session_lines.proofs.KindErrands.{as_either, as_kind, as_session}
use Rattle.session_lines.proofs.Judged.{plainly, writing_as}
use Rattle.session_lines.proofs.KindLines.{says_either}
use Rattle.session_lines.proofs.serving.serve.Goals as goal

pub returns-in_err-tell-in-Says-clause-stops : goal.returns-in_err-tell-in-Says-clause-stops
returns-in_err-tell-in-Says-clause-stops g c tells capacity committed now shrunk stands =
    on_err c.from_residual.result (stops_untold capacity shrunk committed now (g.G.Ground.outside c.args.base.now) c.args.number c.args.line.now c.args.table.now _ (g.G.SectorView.space c.args.base.now) stands)

pub returns-in_ok-tell-in-Says-clause-goes : goal.returns-in_ok-tell-in-Says-clause-goes
returns-in_ok-tell-in-Says-clause-goes g c tells capacity committed now shrunk stands =
    says_either capacity shrunk committed now (g.G.Ground.outside c.args.base.now) c.args.number c.args.line.now c.args.table.now c.step_keeps_trees.ensures c.ids_stay_few.ensures c.in-Says.reply (as_either c.args.table.now c.args.line.now c.errand_of.result _ c.in-Says.is c.errand_of.ensures.comes) _ (g.G.SectorView.space c.args.base.now) stands _ _ _
    c.in_ok-tell-in-Says.ensures.told

pub returns-in_ok-ask_line-in-Asks-clause-goes : goal.returns-in_ok-ask_line-in-Asks-clause-goes
returns-in_ok-ask_line-in-Asks-clause-goes g c tells capacity committed now shrunk stands =
    c.in_ok-ask_line-in-Asks.ensures.goes tells capacity committed now shrunk stands c.args.line.now (as_session c.args.table.now c.args.line.now c.errand_of.result _ c.in-Asks.is (λ never. never) c.errand_of.ensures.comes)

pub returns-in_ok-close_line-in-Closes-clause-goes : goal.returns-in_ok-close_line-in-Closes-clause-goes
returns-in_ok-close_line-in-Closes-clause-goes g c tells capacity committed now shrunk stands =
    c.in_ok-close_line-in-Closes.ensures.goes tells capacity committed now shrunk stands c.args.line.now (as_session c.args.table.now c.args.line.now c.errand_of.result _ c.in-Closes.is (λ never. never) c.errand_of.ensures.comes)

pub returns-in_ok-end_line-in-Ends-clause-goes : goal.returns-in_ok-end_line-in-Ends-clause-goes
returns-in_ok-end_line-in-Ends-clause-goes g c tells capacity committed now shrunk stands =
    c.in_ok-end_line-in-Ends.ensures.goes tells capacity committed now shrunk stands c.args.line.now (as_session c.args.table.now c.args.line.now c.errand_of.result _ c.in-Ends.is (λ never. never) c.errand_of.ensures.comes)

pub returns-in_ok-read_line-in-Reads-clause-goes : goal.returns-in_ok-read_line-in-Reads-clause-goes
returns-in_ok-read_line-in-Reads-clause-goes g c tells capacity committed now shrunk stands =
    c.in_ok-read_line-in-Reads.ensures.goes tells capacity committed now shrunk c.args.number stands c.args.line.now (as_session c.args.table.now c.args.line.now c.errand_of.result _ c.in-Reads.is (λ never. never) c.errand_of.ensures.comes)

pub returns-in-Does-clause-goes : goal.returns-in-Does-clause-goes
returns-in-Does-clause-goes g c tells capacity committed now shrunk stands = c.act_unless_compressed.ensures.goes tells capacity committed now shrunk stands c.args.line.now (as_session c.args.table.now c.args.line.now c.errand_of.result _ c.in-Does.is (λ never. never) c.errand_of.ensures.comes)

pub returns-in-Does-clause-stops : goal.returns-in-Does-clause-stops
returns-in-Does-clause-stops g c tells capacity committed now shrunk stands = c.act_unless_compressed.ensures.stops tells capacity committed now shrunk stands c.args.line.now (as_session c.args.table.now c.args.line.now c.errand_of.result _ c.in-Does.is (λ never. never) c.errand_of.ensures.comes)

pub returns-in-Does-clause-left : goal.returns-in-Does-clause-left
returns-in-Does-clause-left g c tells = c.act_unless_compressed.ensures.left tells c.args.line.now (as_session c.args.table.now c.args.line.now c.errand_of.result _ c.in-Does.is (λ never. never) c.errand_of.ensures.comes)

pub returns-in-Edits-clause-goes : goal.returns-in-Edits-clause-goes
returns-in-Edits-clause-goes g c tells capacity committed now shrunk stands =
    c.edit_unless_compressed.ensures.goes tells capacity committed now shrunk stands c.args.line.now (as_kind c.args.table.now c.args.line.now c.errand_of.result _ c.in-Edits.is (λ never. never) c.errand_of.ensures.comes)

pub returns-in-Edits-clause-stops : goal.returns-in-Edits-clause-stops
returns-in-Edits-clause-stops g c tells capacity committed now shrunk stands = c.edit_unless_compressed.ensures.stops tells capacity committed now shrunk stands c.args.line.now

pub returns-in-Edits-clause-left : goal.returns-in-Edits-clause-left
returns-in-Edits-clause-left g c tells = c.edit_unless_compressed.ensures.left tells c.args.line.now (as_kind c.args.table.now c.args.line.now c.errand_of.result _ c.in-Edits.is (λ never. never) c.errand_of.ensures.comes)

pub returns-in_ok-look_line-in-Looks-clause-goes : goal.returns-in_ok-look_line-in-Looks-clause-goes
returns-in_ok-look_line-in-Looks-clause-goes g c tells capacity committed now shrunk stands =
    c.in_ok-look_line-in-Looks.ensures.goes tells capacity committed now shrunk c.args.number stands c.args.line.now (as_kind c.args.table.now c.args.line.now c.errand_of.result _ c.in-Looks.is (λ never. never) c.errand_of.ensures.comes)

pub returns-in_ok-ask_line-in-Asks-clause-judged : goal.returns-in_ok-ask_line-in-Asks-clause-judged
returns-in_ok-ask_line-in-Asks-clause-judged g c tells capacity committed now shrunk stands path writes apart = absurd (writing_as c.args.table.now c.args.line.now path writes apart c.errand_of.result _ c.in-Asks.is c.errand_of.ensures.comes)

pub returns-in_ok-read_line-in-Reads-clause-judged : goal.returns-in_ok-read_line-in-Reads-clause-judged
returns-in_ok-read_line-in-Reads-clause-judged g c tells capacity committed now shrunk stands path writes apart = absurd (writing_as c.args.table.now c.args.line.now path writes apart c.errand_of.result _ c.in-Reads.is c.errand_of.ensures.comes)

pub returns-in_ok-close_line-in-Closes-clause-judged : goal.returns-in_ok-close_line-in-Closes-clause-judged
returns-in_ok-close_line-in-Closes-clause-judged g c tells capacity committed now shrunk stands path writes apart = absurd (writing_as c.args.table.now c.args.line.now path writes apart c.errand_of.result _ c.in-Closes.is c.errand_of.ensures.comes)

pub returns-in_ok-end_line-in-Ends-clause-judged : goal.returns-in_ok-end_line-in-Ends-clause-judged
returns-in_ok-end_line-in-Ends-clause-judged g c tells capacity committed now shrunk stands path writes apart = absurd (writing_as c.args.table.now c.args.line.now path writes apart c.errand_of.result _ c.in-Ends.is c.errand_of.ensures.comes)

pub returns-in_ok-look_line-in-Looks-clause-judged : goal.returns-in_ok-look_line-in-Looks-clause-judged
returns-in_ok-look_line-in-Looks-clause-judged g c tells capacity committed now shrunk stands path writes apart = absurd (writing_as c.args.table.now c.args.line.now path writes apart c.errand_of.result _ c.in-Looks.is c.errand_of.ensures.comes)

pub returns-in-Does-clause-judged : goal.returns-in-Does-clause-judged
returns-in-Does-clause-judged g c tells capacity committed now shrunk stands path writes apart = c.act_unless_compressed.ensures.judged tells capacity committed now shrunk stands path (writing_as c.args.table.now c.args.line.now path writes apart c.errand_of.result _ c.in-Does.is c.errand_of.ensures.comes)

pub returns-in-Edits-clause-judged : goal.returns-in-Edits-clause-judged
returns-in-Edits-clause-judged g c tells capacity committed now shrunk stands path writes apart = c.edit_unless_compressed.ensures.judged tells capacity committed now shrunk stands path (writing_as c.args.table.now c.args.line.now path writes apart c.errand_of.result _ c.in-Edits.is c.errand_of.ensures.comes)

pub returns-in_ok-tell-in-Says-clause-judged : goal.returns-in_ok-tell-in-Says-clause-judged
returns-in_ok-tell-in-Says-clause-judged g c tells capacity committed now shrunk stands path writes apart is =
    plainly c.in-Says.reply (writing_as c.args.table.now c.args.line.now path writes apart c.errand_of.result _ c.in-Says.is c.errand_of.ensures.comes) now path _ _ _ c.in_ok-tell-in-Says.ensures.told
