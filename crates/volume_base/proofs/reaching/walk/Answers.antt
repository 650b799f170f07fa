use Rattle.std.proofs.Common.{◌∙◌, arith}
use Rattle.btree_file.specs.Standing.{pairs_in}
use Rattle.btree_file.specs.State.{sectors_of_tree}
use Rattle.volume_base.proofs.Over.{reads_both, pairs_read}
use Rattle.volume_base.proofs.Paths.{goes_on}
use Rattle.volume_base.proofs.reaching.walk.Goals as goal

pub loop-name-preserved : goal.loop-name-preserved
loop-name-preserved g c =
    let old = g.P.SectorView.space c.args.space.now in
    let now = g.P.SectorView.space c.loop-name.space in
    let later = g.P.SectorView.space c.child.new.space in
    let inv = c.loop-name.invariant in
    record {
      found = λ tells.
          let pairs = pairs_in (sectors_of_tree c.args.tree.now) old.content in
          inv.found tells ∙ goes_on pairs (pairs_in (sectors_of_tree c.loop-name.tree) now.content) c.loop-name.at c.in-Ok.next _ c.args.path.now c.loop-name.name-index c.in_ok-next.field-0
          (pairs_read c.args.tree.now c.loop-name.tree old now tells inv.reads) (omega (arith, c.loop-name-test.true)) c.name-item.is (c.in_ok-next.ensures.found (inv.reads.looks.same.tells ∙ tells)) c.in-Ok.is;
      over = c.child.ensures.over;
      reads = reads_both c.args.tree.now c.loop-name.tree c.child.new.tree old now later inv.reads c.child.ensures.reads;
      later = omega (arith, inv.later, c.child.ensures.cause.later);
      below = g.met.P.SectorView.follows_trans c.args.space.now c.loop-name.space c.child.new.space inv.below c.child.ensures.below;
    }
