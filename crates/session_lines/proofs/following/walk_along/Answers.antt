use Rattle.std.proofs.Common.{refl, ◌∙◌, subst}
use Rattle.std.specs.Prelude.{IsTrue}
use Rattle.hfs_volume.specs.TreeOf.{tree_of}
use Rattle.hfs_serving.proofs.Causes.{counts_both, counts_none}
use Rattle.session_lines.specs.Lookings.{StepsOn}
use Rattle.session_lines.proofs.Looked.{looked_both, looked_none, stands_looked}
use Rattle.session_lines.proofs.Within.{leads_begun}
use Rattle.session_lines.proofs.following.walk_along.Goals as goal

pub loop-further-init : goal.loop-further-init
loop-further-init g c = record {
  counts = counts_none _ _;
  anchor = refl;
  tells = refl;
  barriers = refl;
  serves = λ capacity serves taken. (serves, taken);
  goes = λ tells capacity committed now shrunk stands. looked_none capacity shrunk committed now _ _ _ stands;
  leads = λ tells capacity committed now shrunk stands plain. leads_begun (tree_of now) c.args.path.now c.in_ok-walk.walk c.in_ok-walk.ensures;
}

pub returns-in_err-walk-clause-goes : goal.returns-in_err-walk-clause-goes
returns-in_err-walk-clause-goes g c tells capacity committed now shrunk stands = looked_none capacity shrunk committed now (g.G.Ground.outside c.args.base.now) _ (g.G.SectorView.space c.args.base.now) stands

pub walk_once-requires-clause-serves : goal.walk_once-requires-clause-serves
walk_once-requires-clause-serves g c =
    let there = c.requires.serves in
    let still = c.loop-further.invariant.serves there.0 there.1 there.2 in
    (there.0, still.0, still.1)

pub walk_once-requires-clause-stands : goal.walk_once-requires-clause-stands
walk_once-requires-clause-stands g c tells_there =
    let tells = subst (λ t. IsTrue t) c.loop-further.invariant.tells tells_there in
    let there = c.requires.stands tells in
    let space = g.G.SectorView.space c.loop-further.base in
    let looked = c.loop-further.invariant.goes tells there.0 there.1 there.2 there.3 there.4 in
    (there.0, there.1, there.2, there.3, stands_looked there.0 there.3 there.1 there.2 (g.G.Ground.outside c.args.base.now) (g.V.Volume.knows c.loop-further.volume space there.0) space (g.G.Ground.outside c.loop-further.base) looked)

pub returns-in_err-further-clause-goes : goal.returns-in_err-further-clause-goes
returns-in_err-further-clause-goes g c tells capacity committed now shrunk stands =
    let old = g.G.Ground.outside c.args.base.now in
    let space = g.G.SectorView.space c.loop-further.base in
    let mid = g.G.Ground.outside c.loop-further.base in
    let knows = g.V.Volume.knows c.loop-further.volume space capacity in
    let looked = c.loop-further.invariant.goes tells capacity committed now shrunk stands in
    let new = g.G.SectorView.space c.walk_once.new.base in
    looked_both capacity shrunk committed now old knows space mid looked (g.V.Volume.knows c.walk_once.new.volume new capacity) new (g.G.Ground.outside c.walk_once.new.base)
    (c.walk_once.ensures.goes (c.loop-further.invariant.tells ∙ tells) capacity committed now shrunk (stands_looked capacity shrunk committed now old knows space mid looked))

pub returns-in-End-clause-goes : goal.returns-in-End-clause-goes
returns-in-End-clause-goes g c tells capacity committed now shrunk stands =
    let old = g.G.Ground.outside c.args.base.now in
    let space = g.G.SectorView.space c.loop-further.base in
    let mid = g.G.Ground.outside c.loop-further.base in
    let knows = g.V.Volume.knows c.loop-further.volume space capacity in
    let looked = c.loop-further.invariant.goes tells capacity committed now shrunk stands in
    let new = g.G.SectorView.space c.walk_once.new.base in
    looked_both capacity shrunk committed now old knows space mid looked (g.V.Volume.knows c.walk_once.new.volume new capacity) new (g.G.Ground.outside c.walk_once.new.base)
    (c.walk_once.ensures.goes (c.loop-further.invariant.tells ∙ tells) capacity committed now shrunk (stands_looked capacity shrunk committed now old knows space mid looked))

pub returns-in-End-clause-leads : goal.returns-in-End-clause-leads
returns-in-End-clause-leads g c tells capacity committed now shrunk stands plain =
    let old = g.G.Ground.outside c.args.base.now in
    let space = g.G.SectorView.space c.loop-further.base in
    let mid = g.G.Ground.outside c.loop-further.base in
    let knows = g.V.Volume.knows c.loop-further.volume space capacity in
    let looked = c.loop-further.invariant.goes tells capacity committed now shrunk stands in
    subst (StepsOn (tree_of now) c.args.path.now) c.in-End.is
    (c.in_ok-further.ensures.leads (c.loop-further.invariant.tells ∙ tells) capacity committed now shrunk (stands_looked capacity shrunk committed now old knows space mid looked) c.args.path.now plain c.requires.fits (c.loop-further.invariant.leads tells capacity committed now shrunk stands plain))

pub loop-further-preserved : goal.loop-further-preserved
loop-further-preserved g c = record {
  counts = counts_both c.loop-further.invariant.counts c.walk_once.ensures.faults.counts;
  anchor = c.walk_once.ensures.anchor ∙ c.loop-further.invariant.anchor;
  tells = c.walk_once.ensures.tells ∙ c.loop-further.invariant.tells;
  barriers = c.walk_once.ensures.barriers ∙ c.loop-further.invariant.barriers;
  serves = λ capacity serves taken. let was = c.loop-further.invariant.serves capacity serves taken in c.walk_once.ensures.still capacity was.0 was.1;
  goes = λ tells capacity committed now shrunk stands.
      let old = g.G.Ground.outside c.args.base.now in
      let space = g.G.SectorView.space c.loop-further.base in
      let mid = g.G.Ground.outside c.loop-further.base in
      let knows = g.V.Volume.knows c.loop-further.volume space capacity in
      let looked = c.loop-further.invariant.goes tells capacity committed now shrunk stands in
      let new = g.G.SectorView.space c.walk_once.new.base in
      looked_both capacity shrunk committed now old knows space mid looked (g.V.Volume.knows c.walk_once.new.volume new capacity) new (g.G.Ground.outside c.walk_once.new.base)
      (c.walk_once.ensures.goes (c.loop-further.invariant.tells ∙ tells) capacity committed now shrunk (stands_looked capacity shrunk committed now old knows space mid looked));
  leads = λ tells capacity committed now shrunk stands plain.
      let old = g.G.Ground.outside c.args.base.now in
      let space = g.G.SectorView.space c.loop-further.base in
      let mid = g.G.Ground.outside c.loop-further.base in
      let knows = g.V.Volume.knows c.loop-further.volume space capacity in
      let looked = c.loop-further.invariant.goes tells capacity committed now shrunk stands in
      subst (StepsOn (tree_of now) c.args.path.now) c.in-On.is
      (c.in_ok-further.ensures.leads (c.loop-further.invariant.tells ∙ tells) capacity committed now shrunk (stands_looked capacity shrunk committed now old knows space mid looked) c.args.path.now plain c.requires.fits (c.loop-further.invariant.leads tells capacity committed now shrunk stands plain));
}
