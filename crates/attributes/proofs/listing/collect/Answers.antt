use Rattle.std.proofs.Common.{◌≤◌, ◌+◌, ◌∷◌, ◌++◌, [], ℕ, List, length, refl, sym, ◌∙◌, ap, subst, arith}
use Rattle.std.specs.Prelude.{IsTrue, IsSome, ◌==◌, if◌then◌else◌}
use Rattle.btree_node.specs.Keys.{IsAttrKey, attr_file, attr_start, attr_units}
use Rattle.btree_node.specs.Tree.{pairs_of}
use Rattle.btree_node.specs.declared.store.TreeShape.{TreeShape}
use Rattle.btree_edit.specs.Desk.{IsDeskOf}
use Rattle.btree_edit.specs.Walking.{StepsOn}
use Rattle.btree_edit.proofs.Repeated.{reads_both, reads_none}
use Rattle.attributes.proofs.Lists.{not_both}
use Rattle.attributes.proofs.Places.{tree_ascends, tree_keys}
use Rattle.attributes.proofs.Walks.{Gathers, begins, ends, ends_loaded, ends_past, goes_on, leaves_them}
use Rattle.attributes.proofs.listing.collect.Goals as goal

pub loop-passed-init : goal.loop-passed-init
loop-passed-init g c =
    let s = g.N.NodeStore.state c.args.store.now in
    let now = g.N.NodeStore.state c.seek.new.store in
    record {
      within = omega arith;
      desk = c.seek.ensures.desk;
      well_formed = c.in_ok-first.ensures.well_formed (subst IsSome (sym c.in-Some.is) refl);
      pairs = λ tells. c.seek.ensures.pairs tells;
      tree = λ tells. c.seek.ensures.tree tells;
      gathers = λ tells. subst (Gathers c.args.id c.args.start.now s now c.seek.new.desk c.in-Some.first 0) (sym c.new-names.ensures)
          (begins c.args.id c.args.start.now s (tree_ascends s (c.requires.tree tells)) (c.requires.form tells) c.requires.before.0 c.requires.before.1 now c.seek.new.desk c.in-Some.first c.in_ok-first.field-0
          c.in-Some.is (c.seek.ensures.pairs tells) c.seek.ensures.reads.loads (c.in_ok-first.ensures.seeks tells));
      reads = reads_both s.shape.depth 0 (s.shape.depth + 0) c.seek.ensures.reads (reads_none now) (omega arith);
      later = c.seek.ensures.cause.later;
      below = c.seek.ensures.below;
    }

pub loop-passed-preserved : goal.loop-passed-preserved
loop-passed-preserved g c =
    let s = g.N.NodeStore.state c.args.store.now in
    let now = g.N.NodeStore.state c.loop-passed.store in
    let new = g.N.NodeStore.state c.step.new.store in
    let known = c.loop-passed.invariant in
    let tells_now : IsTrue s.tells → IsTrue now.tells = λ tells. known.reads.same.tells ∙ tells in
    record {
      within = omega (arith, c.loop-passed-test.true);
      desk = subst (λ n. IsDeskOf n c.step.new.desk) known.reads.same.node_size c.step.ensures.desk;
      well_formed = c.in_ok-on.ensures.well_formed (subst IsSome (sym c.in-Some-2.is) refl);
      pairs = λ tells. c.step.ensures.pairs (tells_now tells) ∙ known.pairs tells;
      tree = λ tells. c.step.ensures.tree (tells_now tells);
      gathers = λ tells.
          let gathers = known.gathers tells in
          let own = (c.is_key_of.ensures.0 c.if-not-is_key_of.false).1 in
          goes_on c.args.id c.args.start.now s (tree_ascends s (c.requires.tree tells)) (c.requires.form tells) c.requires.before.0 c.requires.before.1 now c.loop-passed.desk c.loop-passed.at c.loop-passed._passed c.loop-passed.names gathers
          new c.step.new.desk (c.step.ensures.pairs (tells_now tells) ∙ known.pairs tells) c.in-Some-2.on c.in_ok-on.field-0 c.push_name.new.names c.in-Some-2.is
          (c.in_ok-on.ensures.steps (tells_now tells) (gathers.first + c.loop-passed._passed) gathers.stands) (sym (ap attr_file c.key.ensures) ∙ own)
          (c.in_ok-push_name.ensures ∙ ap (λ (l : List ℕ). c.loop-passed.names ++ (if attr_start l == 0 then attr_units l ∷ [] else [])) c.key-in-loop-passed.ensures)
          (s.shape.depth + c.loop-passed._passed) known.reads tells (c.in_ok-on.ensures.loads (tells_now tells) (gathers.first + c.loop-passed._passed) gathers.stands (subst IsSome (sym c.in-Some-2.is) refl));
      reads = reads_both (s.shape.depth + c.loop-passed._passed) 1 (s.shape.depth + (c.loop-passed._passed + 1)) known.reads c.step.ensures.reads (omega arith);
      later = omega (arith, known.later, c.step.ensures.cause.later);
      below = g.met.N.NodeStore.follows_trans c.args.store.now c.loop-passed.store c.step.new.store known.below c.step.ensures.below;
    }

pub returns-in_default-2-clause-listed : goal.returns-in_default-2-clause-listed
returns-in_default-2-clause-listed g c tells =
    let s = g.N.NodeStore.state c.args.store.now in
    let now = g.N.NodeStore.state c.loop-passed.store in
    let new = g.N.NodeStore.state c.step.new.store in
    let known = c.loop-passed.invariant in
    let tells_now : IsTrue now.tells = known.reads.same.tells ∙ tells in
    let gathers = known.gathers tells in
    ends c.args.id c.args.start.now s (tree_ascends s (c.requires.tree tells)) (c.requires.form tells) c.requires.before.0 c.requires.before.1 now c.loop-passed.desk c.loop-passed.at c.loop-passed._passed c.loop-passed.names gathers
    new c.step.new.desk (c.step.ensures.pairs tells_now ∙ known.pairs tells) c.in_ok-on.field-0 c.in_default-2.is (c.in_ok-on.ensures.steps tells_now (gathers.first + c.loop-passed._passed) gathers.stands)

pub returns-then-not-is_key_of-clause-listed : goal.returns-then-not-is_key_of-clause-listed
returns-then-not-is_key_of-clause-listed g c tells =
    let s = g.N.NodeStore.state c.args.store.now in
    let now = g.N.NodeStore.state c.loop-passed.store in
    let new = g.N.NodeStore.state c.step.new.store in
    let known = c.loop-passed.invariant in
    let tells_now : IsTrue now.tells = known.reads.same.tells ∙ tells in
    let gathers = known.gathers tells in
    let same = c.step.ensures.pairs tells_now ∙ known.pairs tells in
    let steps = c.in_ok-on.ensures.steps tells_now (gathers.first + c.loop-passed._passed) gathers.stands in
    let holds = (subst (StepsOn new c.step.new.desk (gathers.first + c.loop-passed._passed)) c.in-Some-2.is steps).0 in
    let key = subst IsAttrKey (sym (c.key.ensures ∙ holds.key)) (tree_keys new (c.step.ensures.tree tells_now) (gathers.first + c.loop-passed._passed) holds.inside) in
    leaves_them c.args.id c.args.start.now s (tree_ascends s (c.requires.tree tells)) (c.requires.form tells) c.requires.before.0 c.requires.before.1 now c.loop-passed.desk c.loop-passed.at c.loop-passed._passed c.loop-passed.names gathers
    new c.step.new.desk same c.in-Some-2.on c.in_ok-on.field-0 c.in-Some-2.is steps
    (λ file. not_both c.is_key_of.result c.if-not-is_key_of.true (c.is_key_of.ensures.1 (key, ap attr_file c.key.ensures ∙ file)))

pub returns-in_err-on-clause-reads : goal.returns-in_err-on-clause-reads
returns-in_err-on-clause-reads g c =
    let s = g.N.NodeStore.state c.args.store.now in
    reads_both (s.shape.depth + c.loop-passed._passed) 1 (s.shape.depth + s.shape.leaf_records) c.loop-passed.invariant.reads c.step.ensures.reads (omega (arith, c.loop-passed-test.true, ap (λ (h : TreeShape). h.leaf_records) c.shape-many.ensures))

pub returns-in_default-2-clause-reads : goal.returns-in_default-2-clause-reads
returns-in_default-2-clause-reads g c =
    let s = g.N.NodeStore.state c.args.store.now in
    reads_both (s.shape.depth + c.loop-passed._passed) 1 (s.shape.depth + s.shape.leaf_records) c.loop-passed.invariant.reads c.step.ensures.reads (omega (arith, c.loop-passed-test.true, ap (λ (h : TreeShape). h.leaf_records) c.shape-many.ensures))

pub returns-then-not-is_key_of-clause-reads : goal.returns-then-not-is_key_of-clause-reads
returns-then-not-is_key_of-clause-reads g c =
    let s = g.N.NodeStore.state c.args.store.now in
    reads_both (s.shape.depth + c.loop-passed._passed) 1 (s.shape.depth + s.shape.leaf_records) c.loop-passed.invariant.reads c.step.ensures.reads (omega (arith, c.loop-passed-test.true, ap (λ (h : TreeShape). h.leaf_records) c.shape-many.ensures))

pub returns-in_err-push_name-clause-reads : goal.returns-in_err-push_name-clause-reads
returns-in_err-push_name-clause-reads g c =
    let s = g.N.NodeStore.state c.args.store.now in
    reads_both (s.shape.depth + c.loop-passed._passed) 1 (s.shape.depth + s.shape.leaf_records) c.loop-passed.invariant.reads c.step.ensures.reads (omega (arith, c.loop-passed-test.true, ap (λ (h : TreeShape). h.leaf_records) c.shape-many.ensures))

pub returns-in_default-2-clause-leaves : goal.returns-in_default-2-clause-leaves
returns-in_default-2-clause-leaves g c tells =
    let s = g.N.NodeStore.state c.args.store.now in
    let now = g.N.NodeStore.state c.loop-passed.store in
    let known = c.loop-passed.invariant in
    ends_loaded c.args.id c.args.start.now s (tree_ascends s (c.requires.tree tells)) (c.requires.form tells) c.requires.before.0 c.requires.before.1 now c.loop-passed.desk c.loop-passed.at c.loop-passed._passed c.loop-passed.names (known.gathers tells)
    (g.N.NodeStore.state c.step.new.store) c.step.new.desk (c.step.ensures.pairs (known.reads.same.tells ∙ tells) ∙ known.pairs tells) c.step.ensures.reads.loads

pub returns-then-not-is_key_of-clause-leaves : goal.returns-then-not-is_key_of-clause-leaves
returns-then-not-is_key_of-clause-leaves g c tells =
    let s = g.N.NodeStore.state c.args.store.now in
    let now = g.N.NodeStore.state c.loop-passed.store in
    let known = c.loop-passed.invariant in
    ends_loaded c.args.id c.args.start.now s (tree_ascends s (c.requires.tree tells)) (c.requires.form tells) c.requires.before.0 c.requires.before.1 now c.loop-passed.desk c.loop-passed.at c.loop-passed._passed c.loop-passed.names (known.gathers tells)
    (g.N.NodeStore.state c.step.new.store) c.step.new.desk (c.step.ensures.pairs (known.reads.same.tells ∙ tells) ∙ known.pairs tells) c.step.ensures.reads.loads

pub returns-clause-leaves : goal.returns-clause-leaves
returns-clause-leaves g c tells =
    let s = g.N.NodeStore.state c.args.store.now in
    let now = g.N.NodeStore.state c.loop-passed.store in
    let known = c.loop-passed.invariant in
    ends_loaded c.args.id c.args.start.now s (tree_ascends s (c.requires.tree tells)) (c.requires.form tells) c.requires.before.0 c.requires.before.1 now c.loop-passed.desk c.loop-passed.at c.loop-passed._passed c.loop-passed.names (known.gathers tells)
    now c.loop-passed.desk (known.pairs tells) (omega arith)

pub returns-clause-listed : goal.returns-clause-listed
returns-clause-listed g c tells =
    let s = g.N.NodeStore.state c.args.store.now in
    let now = g.N.NodeStore.state c.loop-passed.store in
    let known = c.loop-passed.invariant in
    let gathers = known.gathers tells in
    let past : length (pairs_of s) ≤ gathers.first + c.loop-passed._passed =
    omega (arith, c.loop-passed-test.false, ap (λ (h : TreeShape). h.leaf_records) c.shape-many.ensures, (c.requires.tree tells).header.leaf_records) in
    ends_past c.args.id c.args.start.now s (tree_ascends s (c.requires.tree tells)) (c.requires.form tells) c.requires.before.0 c.requires.before.1 now c.loop-passed.desk c.loop-passed.at c.loop-passed._passed c.loop-passed.names gathers now c.loop-passed.desk (known.pairs tells) past
