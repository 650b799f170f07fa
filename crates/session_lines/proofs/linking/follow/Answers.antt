use Rattle.std.proofs.Common.{sym, subst}
use Rattle.open_files.specs.declared.act.SessionReply.{SessionReply}
use Rattle.session_lines.specs.declared.errands.Look.TheVariants as look
use Rattle.session_lines.specs.Lookings.{HasSeen}
use Rattle.session_lines.proofs.Looked.{looked_stops, path_seen, short_seen}
use Rattle.session_lines.proofs.linking.follow.Goals as goal

pub returns-in-Ok-clause-goes : goal.returns-in-Ok-clause-goes
returns-in-Ok-clause-goes g c tells capacity committed now shrunk stands =
    let old = g.G.Ground.outside c.args.base.now in
    let space = g.G.SectorView.space c.args.base.now in
    let new = g.G.SectorView.space c.walk_along.new.base in
    let after = g.G.Ground.outside c.walk_along.new.base in
    let knows = g.V.Volume.knows c.args.volume.now space capacity in
    let knows_new = g.V.Volume.knows c.walk_along.new.volume new capacity in
    let looked = c.walk_along.ensures.goes tells capacity committed now shrunk stands in
    subst (λ (r : SessionReply). HasSeen (look.Follow c.args.path.now) capacity knows_new committed now shrunk old new after r) (sym c.followed.ensures)
    (path_seen capacity shrunk committed now old knows_new new after looked c.args.path.now c.in-Ok.answer (c.in-Ok.ensures.leads tells capacity committed now shrunk stands))

pub returns-in-Err-Memory-clause-goes : goal.returns-in-Err-Memory-clause-goes
returns-in-Err-Memory-clause-goes g c tells capacity committed now shrunk stands =
    let old = g.G.Ground.outside c.args.base.now in
    let space = g.G.SectorView.space c.args.base.now in
    let new = g.G.SectorView.space c.walk_along.new.base in
    let after = g.G.Ground.outside c.walk_along.new.base in
    let knows = g.V.Volume.knows c.args.volume.now space capacity in
    let knows_new = g.V.Volume.knows c.walk_along.new.volume new capacity in
    let looked = c.walk_along.ensures.goes tells capacity committed now shrunk stands in
    short_seen capacity shrunk committed now old knows_new new after looked (look.Follow c.args.path.now)

pub returns-in-Err-Disk-clause-stops : goal.returns-in-Err-Disk-clause-stops
returns-in-Err-Disk-clause-stops g c tells capacity committed now shrunk stands =
    let old = g.G.Ground.outside c.args.base.now in
    let space = g.G.SectorView.space c.args.base.now in
    let new = g.G.SectorView.space c.walk_along.new.base in
    let after = g.G.Ground.outside c.walk_along.new.base in
    let knows = g.V.Volume.knows c.args.volume.now space capacity in
    let knows_new = g.V.Volume.knows c.walk_along.new.volume new capacity in
    let looked = c.walk_along.ensures.goes tells capacity committed now shrunk stands in
    looked_stops capacity shrunk committed now old knows_new new after looked
