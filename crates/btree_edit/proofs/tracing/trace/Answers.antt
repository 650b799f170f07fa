use Rattle.std.proofs.Common.{◌≡◌, ◌≢◌, ◌<◌, ◌≤◌, ◌-◌, [], length, get_or, sym, ap, subst, arith}
use Rattle.std.specs.declared.cmp.Ordering.TheVariants.{Equal}
use Rattle.btree_node.specs.Node.{items}
use Rattle.btree_node.specs.Levels.{key_of}
use Rattle.btree_edit.specs.Reading.{IsPlace}
use Rattle.btree_edit.specs.Way.{stop_at, LeadsWay}
use Rattle.btree_edit.proofs.Outcomes.{bare_pairs}
use Rattle.btree_edit.proofs.TracedKeys.{traced_key, traced_none}
use Rattle.btree_edit.proofs.tracing.trace.Goals as goal

pub returns-then-not-branch-clause-absent : goal.returns-then-not-branch-clause-absent
returns-then-not-branch-clause-absent g c = λ tells no has.
    let s = g.N.NodeStore.state c.args.store.now in
    absurd (omega (arith, has.1, ap length (bare_pairs s (c.requires.tree tells) (c.in_ok-find_path.ensures.none tells c.if-not-branch.true))))

pub returns-clause-way : goal.returns-clause-way
returns-clause-way g c = λ tells yes. c.in_ok-find_path.ensures.way tells c.if-not-branch.false

pub returns-clause-there : goal.returns-clause-there
returns-clause-there g c = λ yes. c.in_ok-find_path.ensures.there c.if-not-branch.false

pub returns-clause-found : goal.returns-clause-found
returns-clause-found g c = λ tells yes.
    let s = g.N.NodeStore.state c.args.store.now in
    let t = c.requires.tree tells in
    let path = c.find_path.new.desk.path in
    let at = (stop_at c.find_path.new.desk.path (c.shape-shape.result.depth - 1)).at in
    let way : LeadsWay g.K.KeyOrder.cmp c.args.key.now s path = c.in_ok-find_path.ensures.way tells c.if-not-branch.false in
    let into : c.find_path.new.desk.node ≡ s.nodes (stop_at path (s.shape.depth - 1)).node = c.in_ok-find_path.ensures.leaf tells c.if-not-branch.false in
    traced_key g.K.KeyOrder.is_key g.K.KeyOrder.cmp g.met.K.KeyOrder.total g.met.K.KeyOrder.key_length s t.levels t.ordered c.args.key.now (stop_at path (s.shape.depth - 1)).node way.some way.leads at
    (c.is_before-has_key.ensures.some yes) (subst (λ l. at ≤ length (items l)) into (c.is_before-has_key.ensures.within yes))
    (subst (λ l. g.K.KeyOrder.cmp (key_of (get_or (items l) (at - 1) [])) c.args.key.now ≡ Equal) into (c.is_before-has_key.ensures.equal yes))

pub returns-clause-absent : goal.returns-clause-absent
returns-clause-absent g c = λ tells no.
    let s = g.N.NodeStore.state c.args.store.now in
    let t = c.requires.tree tells in
    let path = c.find_path.new.desk.path in
    let at = (stop_at c.find_path.new.desk.path (c.shape-shape.result.depth - 1)).at in
    let leaf = (stop_at c.find_path.new.desk.path (s.shape.depth - 1)).node in
    let way : LeadsWay g.K.KeyOrder.cmp c.args.key.now s path = c.in_ok-find_path.ensures.way tells c.if-not-branch.false in
    let into : c.find_path.new.desk.node ≡ s.nodes leaf = c.in_ok-find_path.ensures.leaf tells c.if-not-branch.false in
    let deep : s.shape.depth ≡ c.shape-shape.result.depth = ap (λ h. h.depth) (sym c.shape-shape.ensures) in
    traced_none g.K.KeyOrder.is_key g.K.KeyOrder.cmp g.met.K.KeyOrder.total g.met.K.KeyOrder.key_length s t.levels t.ordered c.args.key.now leaf way.some way.leads at
    (subst (λ d. IsPlace g.K.KeyOrder.cmp c.args.key.now (items (s.nodes leaf)) (stop_at path (d - 1)).at) deep way.place)
    (subst (λ l. 0 < at → at ≤ length (items l) → g.K.KeyOrder.is_key (key_of (get_or (items l) (at - 1) [])) → g.K.KeyOrder.cmp (key_of (get_or (items l) (at - 1) [])) c.args.key.now ≢ Equal) into (c.is_before-has_key.ensures.unlike no))
