use Rattle.std.proofs.Common.{◌≡◌, subst, arith}
use Rattle.btree_edit.specs.Rising.{Climbs}
use Rattle.btree_edit.proofs.Outcomes.{on_ok_both}
use Rattle.btree_edit.proofs.Settling.{rises_emptied, rises_kept}
use Rattle.btree_edit.proofs.roots.finish_at_root.Goals as goal

pub returns-then-end-eq0-clause-crowns : goal.returns-then-end-eq0-clause-crowns
returns-then-end-eq0-clause-crowns g c = λ tells start records small some wide climbs.
    let s = g.N.NodeStore.state c.args.store.now in
    let clears = c.clear_shape.ensures in
    rises_emptied g.K.KeyOrder.MAX g.met.K.KeyOrder.key_length g.met.K.KeyOrder.key_most start s records c.args.shape.now c.clear_shape.new.shape c.args.end.left c.args.end.budget c.args.desk.now
    (subst (λ n. Climbs g.K.KeyOrder.is_key g.K.KeyOrder.cmp g.K.KeyOrder.MAX start s records c.args.shape.now n c.args.end.left c.args.desk.now c.args.end.budget) c.if-end-eq0.true climbs) some clears.depth clears.root clears.first clears.last

pub returns-then-end-eq2-clause-crowns : goal.returns-then-end-eq2-clause-crowns
returns-then-end-eq2-clause-crowns g c = λ tells start records small some wide climbs.
    let s = g.N.NodeStore.state c.args.store.now in
    c.add_root.ensures.raises tells start records c.args.end.left c.args.end.budget
    (subst (λ n. Climbs g.K.KeyOrder.is_key g.K.KeyOrder.cmp g.K.KeyOrder.MAX start s records c.args.shape.now n c.args.end.left c.args.desk.now c.args.end.budget) c.if-end-eq2.true climbs) some wide

pub returns-clause-crowns : goal.returns-clause-crowns
returns-clause-crowns g c = λ tells start records small some wide climbs.
    let s = g.N.NodeStore.state c.args.store.now in
    let one : c.args.end.count ≡ 1 = omega (arith, climbs.most, c.if-end-eq0.false, c.if-end-eq2.false) in
    c.drop_single_child_roots.ensures.lowers tells start records small c.requires.depth
    (rises_kept g.K.KeyOrder.MAX g.met.K.KeyOrder.key_length g.met.K.KeyOrder.key_most start s records c.args.shape.now c.args.end.left c.args.end.budget c.args.desk.now
    (subst (λ n. Climbs g.K.KeyOrder.is_key g.K.KeyOrder.cmp g.K.KeyOrder.MAX start s records c.args.shape.now n c.args.end.left c.args.desk.now c.args.end.budget) one climbs) some)

pub returns-then-end-eq0-clause-thick : goal.returns-then-end-eq0-clause-thick
returns-then-end-eq0-clause-thick g c = λ tells start records small some wide climbs deep. absurd (omega (arith, deep, c.clear_shape.ensures.depth))

pub returns-then-end-eq2-clause-thick : goal.returns-then-end-eq2-clause-thick
returns-then-end-eq2-clause-thick g c = λ tells start records small some wide climbs.
    let s = g.N.NodeStore.state c.args.store.now in
    on_ok_both c.add_root.result (λ higher rises deep. omega (arith, rises.bounds.two some (omega (arith, climbs.depth, higher)))) c.add_root.ensures.higher
    (c.add_root.ensures.raises tells start records c.args.end.left c.args.end.budget
    (subst (λ n. Climbs g.K.KeyOrder.is_key g.K.KeyOrder.cmp g.K.KeyOrder.MAX start s records c.args.shape.now n c.args.end.left c.args.desk.now c.args.end.budget) c.if-end-eq2.true climbs) some wide)

pub returns-clause-thick : goal.returns-clause-thick
returns-clause-thick g c = λ tells start records small some wide climbs.
    let s = g.N.NodeStore.state c.args.store.now in
    let one : c.args.end.count ≡ 1 = omega (arith, climbs.most, c.if-end-eq0.false, c.if-end-eq2.false) in
    c.drop_single_child_roots.ensures.thick tells start records small c.requires.depth
    (rises_kept g.K.KeyOrder.MAX g.met.K.KeyOrder.key_length g.met.K.KeyOrder.key_most start s records c.args.shape.now c.args.end.left c.args.end.budget c.args.desk.now
    (subst (λ n. Climbs g.K.KeyOrder.is_key g.K.KeyOrder.cmp g.K.KeyOrder.MAX start s records c.args.shape.now n c.args.end.left c.args.desk.now c.args.end.budget) one climbs) some)
