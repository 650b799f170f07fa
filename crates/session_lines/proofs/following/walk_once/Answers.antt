use Rattle.std.proofs.Common.{Ok, Err, sym, ◌∙◌, ap}
use Rattle.hfs_volume.specs.TreeOf.{tree_of}
use Rattle.link_kinds.specs.Walks.{leads}
use Rattle.session_lines.proofs.Looked.{looked_none}
use Rattle.session_lines.proofs.Within.{leads_ended, leads_further}
use Rattle.session_lines.proofs.following.walk_once.Goals as goal

pub returns-in_err-copy_path-in-Done-clause-goes : goal.returns-in_err-copy_path-in-Done-clause-goes
returns-in_err-copy_path-in-Done-clause-goes g c tells capacity committed now shrunk stands = looked_none capacity shrunk committed now (g.G.Ground.outside c.args.base.now) _ (g.G.SectorView.space c.args.base.now) stands

pub returns-in-Done-clause-goes : goal.returns-in-Done-clause-goes
returns-in-Done-clause-goes g c tells capacity committed now shrunk stands = looked_none capacity shrunk committed now (g.G.Ground.outside c.args.base.now) _ (g.G.SectorView.space c.args.base.now) stands

pub returns-in-Done-clause-leads : goal.returns-in-Done-clause-leads
returns-in-Done-clause-leads g c tells capacity committed now shrunk stands path plain fits on =
    let walk = c.args.walk in
    leads_ended (tree_of now) path walk on (Ok c.in_ok-copy_path-in-Done.field-0) (λ look. ap (leads look walk.more walk.way walk.left) c.in-Done.ensures ∙ ap Ok (sym c.in_ok-copy_path-in-Done.ensures))

pub returns-in-No-clause-goes : goal.returns-in-No-clause-goes
returns-in-No-clause-goes g c tells capacity committed now shrunk stands = looked_none capacity shrunk committed now (g.G.Ground.outside c.args.base.now) _ (g.G.SectorView.space c.args.base.now) stands

pub returns-in-No-clause-leads : goal.returns-in-No-clause-leads
returns-in-No-clause-leads g c tells capacity committed now shrunk stands path plain fits on =
    let walk = c.args.walk in
    leads_ended (tree_of now) path walk on (Err c.in-No.why) (λ look. ap (leads look walk.more walk.way walk.left) c.in-No.ensures)

pub returns-clause-leads : goal.returns-clause-leads
returns-clause-leads g c tells capacity committed now shrunk stands path plain fits on =
    leads_further (tree_of now) plain path fits c.args.walk c.in_ok-further.further on c.in-Look.parent c.in-Look.name.now c.in_ok-found-in-Look.found c.in-Look.ensures (c.in_ok-found-in-Look.ensures.sight tells capacity committed now shrunk stands)
    c.in_ok-further.ensures.leads
