use Rattle.std.proofs.Common.{◌≤◌, ◌+◌, ◌++◌, [], length, refl, sym, ◌∙◌, ap, subst, arith}
use Rattle.std.specs.Prelude.{IsTrue, IsSome, slice_index_or}
use Rattle.btree_node.specs.Keys.{IsAttrKey, attr_file, attr_units}
use Rattle.btree_node.specs.Tree.{pairs_of}
use Rattle.btree_node.specs.declared.store.TreeShape.{TreeShape}
use Rattle.btree_edit.specs.Desk.{IsDeskOf}
use Rattle.btree_edit.specs.Walking.{StepsOn}
use Rattle.btree_edit.proofs.Repeated.{reads_both, reads_none}
use Rattle.attributes.proofs.Held.{pair_extents}
use Rattle.attributes.proofs.Lists.{not_both}
use Rattle.attributes.proofs.Places.{tree_ascends, tree_keys, under_from, under_parts}
use Rattle.attributes.proofs.Walks.{follow_begins, follow_ends, follow_few, follow_leaves, follow_on, follow_past, key_is_, value_is_}
use Rattle.attributes.proofs.finding.push_further.Goals as goal

pub loop-passed-init : goal.loop-passed-init
loop-passed-init g c =
    let s = g.N.NodeStore.state c.args.store.now in
    let now = g.N.NodeStore.state c.seek.new.store in
    record {
      within = omega arith;
      desk = c.seek.ensures.desk;
      well_formed = c.in_ok-first.ensures.well_formed (subst IsSome (sym c.in-Some.is) refl);
      pairs = λ tells. c.seek.ensures.pairs tells;
      tree = λ tells. c.seek.ensures.tree tells;
      follows = λ tells. follow_begins c.args.key.now s (tree_ascends s (c.requires.tree tells)) c.requires.start c.args.list.now now c.seek.new.desk c.in-Some.first c.in_ok-first.field-0
          c.in-Some.is (c.seek.ensures.pairs tells) (c.in_ok-first.ensures.seeks tells);
      reads = reads_both s.shape.depth 0 (s.shape.depth + 0) c.seek.ensures.reads (reads_none now) (omega arith);
      later = c.seek.ensures.cause.later;
      below = c.seek.ensures.below;
    }

pub loop-passed-preserved : goal.loop-passed-preserved
loop-passed-preserved g c =
    let s = g.N.NodeStore.state c.args.store.now in
    let now = g.N.NodeStore.state c.loop-passed.store in
    let new = g.N.NodeStore.state c.step.new.store in
    let known = c.loop-passed.invariant in
    let tells_now : IsTrue s.tells → IsTrue now.tells = λ tells. known.reads.same.tells ∙ tells in
    record {
      within = omega (arith, c.loop-passed-test.true);
      desk = subst (λ n. IsDeskOf n c.step.new.desk) known.reads.same.node_size c.step.ensures.desk;
      well_formed = c.in_ok-on.ensures.well_formed (subst IsSome (sym c.in-Some-2.is) refl);
      pairs = λ tells. c.step.ensures.pairs (tells_now tells) ∙ known.pairs tells;
      tree = λ tells. c.step.ensures.tree (tells_now tells);
      follows = λ tells.
          let follows = known.follows tells in
          let same = c.step.ensures.pairs (tells_now tells) ∙ known.pairs tells in
          let steps = c.in_ok-on.ensures.steps (tells_now tells) (follows.first + c.loop-passed._passed) follows.stands in
          let holds = (subst (StepsOn new c.step.new.desk (follows.first + c.loop-passed._passed)) c.in-Some-2.is steps).0 in
          let key = key_is_ c.args.key.now s (tree_ascends s (c.requires.tree tells)) c.requires.start c.args.list.now now c.loop-passed.desk c.loop-passed.at c.loop-passed._passed c.loop-passed.list follows new c.step.new.desk same holds in
          let value = value_is_ c.args.key.now s (tree_ascends s (c.requires.tree tells)) c.requires.start c.args.list.now now c.loop-passed.desk c.loop-passed.at c.loop-passed._passed c.loop-passed.list follows new c.step.new.desk same holds in
          let is = c.is_key_of_name.ensures.0 c.if-not-is_key_of_name.false in
          let pair = slice_index_or (pairs_of s) (follows.first + c.loop-passed._passed) ([], []) in
          follow_on c.args.key.now s (tree_ascends s (c.requires.tree tells)) c.requires.start c.args.list.now now c.loop-passed.desk c.loop-passed.at c.loop-passed._passed c.loop-passed.list follows new c.step.new.desk same c.in-Some-2.on c.in_ok-on.field-0 c.push_record.new.list c.in-Some-2.is steps
          (under_from c.args.key.now pair (sym (ap attr_file (c.key.ensures ∙ key)) ∙ is.1) (sym (ap attr_units (c.key.ensures ∙ key)) ∙ is.2))
          (c.in_ok-push_record.ensures ∙ ap (λ l. c.loop-passed.list ++ l) (pair_extents pair c.value.result.now (c.value.ensures ∙ value)));
      reads = reads_both (s.shape.depth + c.loop-passed._passed) 1 (s.shape.depth + (c.loop-passed._passed + 1)) known.reads c.step.ensures.reads (omega arith);
      later = omega (arith, known.later, c.step.ensures.cause.later);
      below = g.met.N.NodeStore.follows_trans c.args.store.now c.loop-passed.store c.step.new.store known.below c.step.ensures.below;
    }

pub returns-in_default-2-clause-added : goal.returns-in_default-2-clause-added
returns-in_default-2-clause-added g c tells =
    let s = g.N.NodeStore.state c.args.store.now in
    let now = g.N.NodeStore.state c.loop-passed.store in
    let new = g.N.NodeStore.state c.step.new.store in
    let known = c.loop-passed.invariant in
    let tells_now : IsTrue now.tells = known.reads.same.tells ∙ tells in
    let follows = known.follows tells in
    follow_ends c.args.key.now s (tree_ascends s (c.requires.tree tells)) c.requires.start c.args.list.now now c.loop-passed.desk c.loop-passed.at c.loop-passed._passed c.loop-passed.list follows new c.step.new.desk (c.step.ensures.pairs tells_now ∙ known.pairs tells) c.in_ok-on.field-0 c.in_default-2.is (c.in_ok-on.ensures.steps tells_now (follows.first + c.loop-passed._passed) follows.stands)

pub returns-then-not-is_key_of_name-clause-added : goal.returns-then-not-is_key_of_name-clause-added
returns-then-not-is_key_of_name-clause-added g c tells =
    let s = g.N.NodeStore.state c.args.store.now in
    let now = g.N.NodeStore.state c.loop-passed.store in
    let new = g.N.NodeStore.state c.step.new.store in
    let known = c.loop-passed.invariant in
    let tells_now : IsTrue now.tells = known.reads.same.tells ∙ tells in
    let follows = known.follows tells in
    let same = c.step.ensures.pairs tells_now ∙ known.pairs tells in
    let steps = c.in_ok-on.ensures.steps tells_now (follows.first + c.loop-passed._passed) follows.stands in
    let holds = (subst (StepsOn new c.step.new.desk (follows.first + c.loop-passed._passed)) c.in-Some-2.is steps).0 in
    let valid = subst IsAttrKey (sym (c.key.ensures ∙ holds.key)) (tree_keys new (c.step.ensures.tree tells_now) (follows.first + c.loop-passed._passed) holds.inside) in
    let key = key_is_ c.args.key.now s (tree_ascends s (c.requires.tree tells)) c.requires.start c.args.list.now now c.loop-passed.desk c.loop-passed.at c.loop-passed._passed c.loop-passed.list follows new c.step.new.desk same holds in
    follow_leaves c.args.key.now s (tree_ascends s (c.requires.tree tells)) c.requires.start c.args.list.now now c.loop-passed.desk c.loop-passed.at c.loop-passed._passed c.loop-passed.list follows new c.step.new.desk same c.in-Some-2.on c.in_ok-on.field-0 c.in-Some-2.is steps
    (λ under.
    let parts = under_parts c.args.key.now (slice_index_or (pairs_of s) (follows.first + c.loop-passed._passed) ([], [])) under in
    not_both c.is_key_of_name.result c.if-not-is_key_of_name.true (c.is_key_of_name.ensures.1 (valid, ap attr_file (c.key.ensures ∙ key) ∙ parts.0, ap attr_units (c.key.ensures ∙ key) ∙ parts.1)))

pub returns-in_err-on-clause-reads : goal.returns-in_err-on-clause-reads
returns-in_err-on-clause-reads g c =
    let s = g.N.NodeStore.state c.args.store.now in
    reads_both (s.shape.depth + c.loop-passed._passed) 1 (s.shape.depth + s.shape.leaf_records) c.loop-passed.invariant.reads c.step.ensures.reads (omega (arith, c.loop-passed-test.true, ap (λ (h : TreeShape). h.leaf_records) c.shape-many.ensures))

pub returns-in_default-2-clause-reads : goal.returns-in_default-2-clause-reads
returns-in_default-2-clause-reads g c =
    let s = g.N.NodeStore.state c.args.store.now in
    reads_both (s.shape.depth + c.loop-passed._passed) 1 (s.shape.depth + s.shape.leaf_records) c.loop-passed.invariant.reads c.step.ensures.reads (omega (arith, c.loop-passed-test.true, ap (λ (h : TreeShape). h.leaf_records) c.shape-many.ensures))

pub returns-then-not-is_key_of_name-clause-reads : goal.returns-then-not-is_key_of_name-clause-reads
returns-then-not-is_key_of_name-clause-reads g c =
    let s = g.N.NodeStore.state c.args.store.now in
    reads_both (s.shape.depth + c.loop-passed._passed) 1 (s.shape.depth + s.shape.leaf_records) c.loop-passed.invariant.reads c.step.ensures.reads (omega (arith, c.loop-passed-test.true, ap (λ (h : TreeShape). h.leaf_records) c.shape-many.ensures))

pub returns-in_err-push_record-clause-reads : goal.returns-in_err-push_record-clause-reads
returns-in_err-push_record-clause-reads g c =
    let s = g.N.NodeStore.state c.args.store.now in
    reads_both (s.shape.depth + c.loop-passed._passed) 1 (s.shape.depth + s.shape.leaf_records) c.loop-passed.invariant.reads c.step.ensures.reads (omega (arith, c.loop-passed-test.true, ap (λ (h : TreeShape). h.leaf_records) c.shape-many.ensures))

pub returns-in_default-2-clause-loads : goal.returns-in_default-2-clause-loads
returns-in_default-2-clause-loads g c tells =
    let s = g.N.NodeStore.state c.args.store.now in
    let now = g.N.NodeStore.state c.loop-passed.store in
    let known = c.loop-passed.invariant in
    let few = follow_few c.args.key.now s (tree_ascends s (c.requires.tree tells)) c.requires.start c.args.list.now now c.loop-passed.desk c.loop-passed.at c.loop-passed._passed c.loop-passed.list (known.follows tells) (g.N.NodeStore.state c.step.new.store) c.step.new.desk (c.step.ensures.pairs (known.reads.same.tells ∙ tells) ∙ known.pairs tells) in
    omega (arith, few, known.reads.loads, c.step.ensures.reads.loads)

pub returns-then-not-is_key_of_name-clause-loads : goal.returns-then-not-is_key_of_name-clause-loads
returns-then-not-is_key_of_name-clause-loads g c tells =
    let s = g.N.NodeStore.state c.args.store.now in
    let now = g.N.NodeStore.state c.loop-passed.store in
    let known = c.loop-passed.invariant in
    let few = follow_few c.args.key.now s (tree_ascends s (c.requires.tree tells)) c.requires.start c.args.list.now now c.loop-passed.desk c.loop-passed.at c.loop-passed._passed c.loop-passed.list (known.follows tells) (g.N.NodeStore.state c.step.new.store) c.step.new.desk (c.step.ensures.pairs (known.reads.same.tells ∙ tells) ∙ known.pairs tells) in
    omega (arith, few, known.reads.loads, c.step.ensures.reads.loads)

pub returns-clause-added : goal.returns-clause-added
returns-clause-added g c tells =
    let s = g.N.NodeStore.state c.args.store.now in
    let now = g.N.NodeStore.state c.loop-passed.store in
    let known = c.loop-passed.invariant in
    let follows = known.follows tells in
    let past : length (pairs_of s) ≤ follows.first + c.loop-passed._passed =
    omega (arith, c.loop-passed-test.false, ap (λ (h : TreeShape). h.leaf_records) c.shape-many.ensures, (c.requires.tree tells).header.leaf_records) in
    follow_past c.args.key.now s (tree_ascends s (c.requires.tree tells)) c.requires.start c.args.list.now now c.loop-passed.desk c.loop-passed.at c.loop-passed._passed c.loop-passed.list follows now c.loop-passed.desk (known.pairs tells) past

pub returns-clause-loads : goal.returns-clause-loads
returns-clause-loads g c tells =
    let s = g.N.NodeStore.state c.args.store.now in
    let now = g.N.NodeStore.state c.loop-passed.store in
    let known = c.loop-passed.invariant in
    let few = follow_few c.args.key.now s (tree_ascends s (c.requires.tree tells)) c.requires.start c.args.list.now now c.loop-passed.desk c.loop-passed.at c.loop-passed._passed c.loop-passed.list (known.follows tells) now c.loop-passed.desk (known.pairs tells) in
    omega (arith, few, known.reads.loads)
