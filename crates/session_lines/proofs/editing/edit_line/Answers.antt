use Rattle.std.proofs.Common.{◌≡◌, refl}
use Rattle.std.specs.Prelude.{Bool, IsTrue, false, not, true}
use Rattle.hfs_volume.specs.declared.asked.Asked.TheVariants.{Kind}
use Rattle.hfs_serving.proofs.Hearing.{err_then}
use Rattle.hfs_serving.proofs.Speeches.{stops_unspoken}
use Rattle.hfs_serving.proofs.Tries.{if_ok}
use Rattle.session_lines.specs.Turns.{BrokenSessions, spoke_at}
use Rattle.session_lines.proofs.KindLines.{edit_does, kind_asks}
use Rattle.session_lines.proofs.Judged.{own_tells}
use Rattle.session_lines.proofs.editing.edit_line.Goals as goal

pub returns-clause-goes : goal.returns-clause-goes
returns-clause-goes g c tells capacity committed now shrunk stands line comes =
    let space = g.G.SectorView.space c.do_own.new.base in
    let mid = g.G.Ground.outside c.do_own.new.base in
    let knows = g.V.Volume.knows c.do_own.new.volume space capacity in
    if_ok _ _ c.do_own.result
    (λ served own. edit_does capacity shrunk committed now (g.G.Ground.outside c.args.base.now) c.args.number line c.args.table.now c.args.edit comes c.ids_stay_few.ensures c.sound_content_has_tree.ensures served knows space mid c.args.told.now c.do_own.new.told own)
    (c.do_own.ensures.goes tells capacity committed now shrunk stands)

pub returns-clause-stops : goal.returns-clause-stops
returns-clause-stops g c tells capacity committed now shrunk stands line =
    err_then c.do_own.result
    (λ stopped. (false, stops_unspoken capacity shrunk committed now (g.G.Ground.outside c.args.base.now) (g.G.Ground.outside c.do_own.new.base) c.args.number (spoke_at c.args.table.now) BrokenSessions (λ start all spoke. spoke.spoken) stopped))
    (c.do_own.ensures.stops tells capacity committed now shrunk stands)

not_first : (first : Bool) → IsTrue (not first) → first ≡ false
not_first true is = absurd (cc is)
not_first false is = refl

pub returns-clause-left : goal.returns-clause-left
returns-clause-left g c tells line comes =
    if_ok _ _ c.do_own.result
    (λ served left is.
    let it = left is in
    (not_first c.args.first it.0, record { asked = Kind c.args.edit; is_of = kind_asks line c.args.edit comes; passed = it.1; wanted = it.2 }))
    (c.do_own.ensures.left tells)

pub returns-clause-plain : goal.returns-clause-plain
returns-clause-plain g c tells capacity committed now shrunk stands =
    let space = g.G.SectorView.space c.do_own.new.base in
    if_ok _ _ c.do_own.result
    (own_tells capacity (g.V.Volume.knows c.do_own.new.volume space capacity) committed now shrunk (g.G.Ground.outside c.args.base.now) (Kind c.args.edit) c.args.told.now c.do_own.new.told space (g.G.Ground.outside c.do_own.new.base))
    (c.do_own.ensures.goes tells capacity committed now shrunk stands)
