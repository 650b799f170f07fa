use Rattle.std.proofs.Common.{◌+◌, ◌∙◌, ℕ, arith, rules, sym, ap, subst}
use Rattle.std.specs.Prelude.{IsTrue, IsSome, Option, codes}
use Rattle.btree_node.specs.Keys.{IsCatalogKey, catalog_cmp}
use Rattle.btree_node.specs.Node.{IsNode}
use Rattle.btree_edit.specs.Desk.{IsDeskOf}
use Rattle.btree_edit.specs.Walking.{Seeks, StepsOn}
use Rattle.btree_edit.proofs.Repeated.{reads_none, reads_both}
use Rattle.cat_records.specs.Records.{is_catalog}
use Rattle.catalog.specs.Children.{child_under}
use Rattle.catalog.specs.Pairs.{IsKeyOf}
use Rattle.volume_space.proofs.BehindTemp.{Searches, begins, ends, goes_on, held_is_key, held_is_spelled, stops}
use Rattle.volume_space.proofs.temp_names.search_behind.Goals as goal

pub loop-passed-init : goal.loop-passed-init
loop-passed-init g c =
    let s = g.N.NodeStore.state c.args.store.now in
    let next = g.N.NodeStore.state c.seek.new.store in
    let key = c.as_slice.result.now in
    record {
      searches = λ tells. begins c.args.folder key s next c.seek.new.desk c.in-Some.at
          (subst (λ k. IsKeyOf c.args.folder (codes "temp") k) (sym c.as_slice.ensures) c.in_ok-key.ensures)
          (c.seek.ensures.pairs tells) (c.seek.ensures.tree tells) (subst (λ at. Seeks catalog_cmp key next c.seek.new.desk at) c.in-Some.is (c.in_ok-at.ensures.seeks tells));
      many = ap (λ shape. shape.leaf_records) c.shape-many.ensures;
      desk = c.seek.ensures.desk;
      well_formed = (subst (λ o. IsSome o → IsNode c.seek.new.desk.node) c.in-Some.is c.in_ok-at.ensures.well_formed) (search rules);
      reads = reads_both s.shape.depth 0 (s.shape.depth + 0) c.seek.ensures.reads (reads_none next) (omega arith);
      later = c.seek.ensures.cause.later;
      below = c.seek.ensures.below;
    }

pub returns-in_err-on-clause-reads : goal.returns-in_err-on-clause-reads
returns-in_err-on-clause-reads g c =
    let s = g.N.NodeStore.state c.args.store.now in
    reads_both (s.shape.depth + c.loop-passed._passed) 1 (s.shape.depth + s.shape.leaf_records) c.loop-passed.invariant.reads c.step.ensures.reads (omega (arith, c.loop-passed-test.true, c.loop-passed.invariant.many))

pub returns-in_default-2-clause-reads : goal.returns-in_default-2-clause-reads
returns-in_default-2-clause-reads g c =
    let s = g.N.NodeStore.state c.args.store.now in
    reads_both (s.shape.depth + c.loop-passed._passed) 1 (s.shape.depth + s.shape.leaf_records) c.loop-passed.invariant.reads c.step.ensures.reads (omega (arith, c.loop-passed-test.true, c.loop-passed.invariant.many))

pub returns-in_err-child-clause-reads : goal.returns-in_err-child-clause-reads
returns-in_err-child-clause-reads g c =
    let s = g.N.NodeStore.state c.args.store.now in
    reads_both (s.shape.depth + c.loop-passed._passed) 1 (s.shape.depth + s.shape.leaf_records) c.loop-passed.invariant.reads c.step.ensures.reads (omega (arith, c.loop-passed-test.true, c.loop-passed.invariant.many))

pub returns-in_default-3-clause-reads : goal.returns-in_default-3-clause-reads
returns-in_default-3-clause-reads g c =
    let s = g.N.NodeStore.state c.args.store.now in
    reads_both (s.shape.depth + c.loop-passed._passed) 1 (s.shape.depth + s.shape.leaf_records) c.loop-passed.invariant.reads c.step.ensures.reads (omega (arith, c.loop-passed-test.true, c.loop-passed.invariant.many))

pub returns-in_default-2-clause-found : goal.returns-in_default-2-clause-found
returns-in_default-2-clause-found g c tells =
    let s = g.N.NodeStore.state c.args.store.now in
    let now = g.N.NodeStore.state c.loop-passed.store in
    let next = g.N.NodeStore.state c.step.new.store in
    let inv = c.loop-passed.invariant in
    let it = inv.searches tells in
    let place = it.start + c.loop-passed._passed in
    let tells_now : IsTrue now.tells = inv.reads.same.tells ∙ tells in
    let steps = subst (λ on. StepsOn next c.step.new.desk place on) c.in_default-2.is (c.in_ok-on.ensures.steps tells_now place it.stands) in
    ends c.args.folder s now c.loop-passed.desk c.loop-passed.at c.loop-passed._passed c.loop-passed.found it next c.step.new.desk (c.step.ensures.pairs tells_now) steps

pub returns-in_default-3-clause-found : goal.returns-in_default-3-clause-found
returns-in_default-3-clause-found g c tells =
    let s = g.N.NodeStore.state c.args.store.now in
    let now = g.N.NodeStore.state c.loop-passed.store in
    let next = g.N.NodeStore.state c.step.new.store in
    let inv = c.loop-passed.invariant in
    let it = inv.searches tells in
    let place = it.start + c.loop-passed._passed in
    let tells_now : IsTrue now.tells = inv.reads.same.tells ∙ tells in
    let steps = subst (λ on. StepsOn next c.step.new.desk place on) c.in-Some-2.is (c.in_ok-on.ensures.steps tells_now place it.stands) in
    let kept = c.step.ensures.pairs tells_now in
    let tree = c.step.ensures.tree tells_now in
    let key_is = c.key-in-loop-passed.ensures in
    let value_is = c.value.ensures in
    let is_key = held_is_key c.args.folder s now c.loop-passed.desk c.loop-passed.at c.loop-passed._passed c.loop-passed.found it next c.step.new.desk c.in-Some-2.on kept tree steps in
    let spelled = held_is_spelled c.args.folder s now c.loop-passed.desk c.loop-passed.at c.loop-passed._passed c.loop-passed.found it next c.step.new.desk c.in-Some-2.on kept tree steps (c.requires.spelled tells) in
    let found = c.in_ok-child.ensures.child (subst IsCatalogKey (sym key_is) is_key) (subst (λ v. IsTrue (is_catalog v)) (sym value_is) spelled) in
    let child_is = ap (λ k. child_under c.args.folder k c.step.new.desk.held.value) (sym key_is) ∙ ap (λ v. child_under c.args.folder c.key-in-loop-passed.result.now v) (sym value_is) ∙ sym found in
    stops c.args.folder s now c.loop-passed.desk c.loop-passed.at c.loop-passed._passed c.loop-passed.found it next c.step.new.desk c.in-Some-2.on kept tree steps (child_is ∙ c.in_default-3.is)

pub loop-passed-preserved : goal.loop-passed-preserved
loop-passed-preserved g c =
    let s = g.N.NodeStore.state c.args.store.now in
    let now = g.N.NodeStore.state c.loop-passed.store in
    let next = g.N.NodeStore.state c.step.new.store in
    let inv = c.loop-passed.invariant in
    record {
      searches = λ tells.
          let it = inv.searches tells in
          let place = it.start + c.loop-passed._passed in
          let tells_now : IsTrue now.tells = inv.reads.same.tells ∙ tells in
          let steps = subst (λ on. StepsOn next c.step.new.desk place on) c.in-Some-2.is (c.in_ok-on.ensures.steps tells_now place it.stands) in
          let kept = c.step.ensures.pairs tells_now in
          let tree = c.step.ensures.tree tells_now in
          let key_is = c.key-in-loop-passed.ensures in
          let value_is = c.value.ensures in
          let is_key = held_is_key c.args.folder s now c.loop-passed.desk c.loop-passed.at c.loop-passed._passed c.loop-passed.found it next c.step.new.desk c.in-Some-2.on kept tree steps in
          let spelled = held_is_spelled c.args.folder s now c.loop-passed.desk c.loop-passed.at c.loop-passed._passed c.loop-passed.found it next c.step.new.desk c.in-Some-2.on kept tree steps (c.requires.spelled tells) in
          let found = c.in_ok-child.ensures.child (subst IsCatalogKey (sym key_is) is_key) (subst (λ v. IsTrue (is_catalog v)) (sym value_is) spelled) in
          let child_is = ap (λ k. child_under c.args.folder k c.step.new.desk.held.value) (sym key_is) ∙ ap (λ v. child_under c.args.folder c.key-in-loop-passed.result.now v) (sym value_is) ∙ sym found in
          subst (λ (o : Option ℕ). Searches c.args.folder s next c.step.new.desk c.in-Some-2.on (c.loop-passed._passed + 1) o) (sym c.found_next-found.ensures) (goes_on c.args.folder s now c.loop-passed.desk c.loop-passed.at c.loop-passed._passed c.loop-passed.found it next c.step.new.desk c.in-Some-2.on kept tree steps c.in-Some-3.child (child_is ∙ c.in-Some-3.is));
      many = inv.many;
      desk = subst (λ n. IsDeskOf n c.step.new.desk) inv.reads.same.node_size c.step.ensures.desk;
      well_formed = (subst (λ o. IsSome o → IsNode c.step.new.desk.node) c.in-Some-2.is c.in_ok-on.ensures.well_formed) (search rules);
      reads = reads_both (s.shape.depth + c.loop-passed._passed) 1 (s.shape.depth + (c.loop-passed._passed + 1)) inv.reads c.step.ensures.reads (omega arith);
      later = omega (arith, inv.later, c.step.ensures.cause.later);
      below = g.met.N.NodeStore.follows_trans c.args.store.now c.loop-passed.store c.step.new.store inv.below c.step.ensures.below;
    }
