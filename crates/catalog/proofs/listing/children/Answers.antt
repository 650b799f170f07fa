use Rattle.std.proofs.Common.{◌≡◌, ◌≤◌, ◌<◌, ◌+◌, ◌++◌, ◌∷◌, [], length, ◌∙◌, arith, rules, sym, ap, subst, refl}
use Rattle.std.specs.Prelude.{IsTrue, IsSome, Some, None}
use Rattle.std.proofs.lemmas.List.{length-append}
use Rattle.btree_node.specs.Keys.{IsCatalogKey, catalog_cmp}
use Rattle.btree_node.specs.Node.{IsNode}
use Rattle.btree_node.specs.Tree.{pairs_of}
use Rattle.btree_edit.specs.Desk.{IsDeskOf}
use Rattle.btree_edit.specs.Walking.{Seeks, StepsOn}
use Rattle.btree_edit.proofs.Repeated.{reads_none, reads_both}
use Rattle.cat_records.specs.Records.{is_catalog}
use Rattle.catalog.specs.Children.{child_under}
use Rattle.catalog.specs.Pairs.{IsKeyOf}
use Rattle.catalog.proofs.FolderLists.{Gathers, begins, gathered_all, ends, held_is_key, held_is_spelled, stops, goes_on, ends_loaded}
use Rattle.catalog.proofs.listing.children.Goals as goal

pub loop-passed-init : goal.loop-passed-init
loop-passed-init g c =
    let s = g.N.NodeStore.state c.args.store.now in
    let next = g.N.NodeStore.state c.seek.new.store in
    let key = c.as_slice.result.now in
    record {
      gathers = λ tells. subst (λ l. Gathers c.args.parent s next c.seek.new.desk c.in-Some.at 0 l) (sym c.new-children.ensures)
          (begins c.args.parent key s next c.seek.new.desk c.in-Some.at
          (subst (λ k. IsKeyOf c.args.parent [] k) (sym c.as_slice.ensures) (subst (λ l. IsKeyOf c.args.parent l c.in_ok-key.key) c.new.ensures c.in_ok-key.ensures))
          (c.seek.ensures.pairs tells) (c.seek.ensures.tree tells) c.seek.ensures.reads.loads (subst (λ at. Seeks catalog_cmp key next c.seek.new.desk at) c.in-Some.is (c.in_ok-at.ensures.seeks tells)));
      many = ap (λ shape. shape.leaf_records) c.shape-many.ensures;
      listed = ap length c.new-children.ensures;
      desk = c.seek.ensures.desk;
      well_formed = (subst (λ o. IsSome o → IsNode c.seek.new.desk.node) c.in-Some.is c.in_ok-at.ensures.well_formed) (search rules);
      reads = reads_both s.shape.depth 0 (s.shape.depth + 0) c.seek.ensures.reads (reads_none next) (omega arith);
      later = c.seek.ensures.cause.later;
      below = c.seek.ensures.below;
    }

pub returns-in_err-on-clause-reads : goal.returns-in_err-on-clause-reads
returns-in_err-on-clause-reads g c =
    let s = g.N.NodeStore.state c.args.store.now in
    reads_both (s.shape.depth + c.loop-passed._passed) 1 (s.shape.depth + s.shape.leaf_records) c.loop-passed.invariant.reads c.step.ensures.reads (omega (arith, c.loop-passed-test.true, c.loop-passed.invariant.many))

pub returns-in_default-2-clause-reads : goal.returns-in_default-2-clause-reads
returns-in_default-2-clause-reads g c =
    let s = g.N.NodeStore.state c.args.store.now in
    reads_both (s.shape.depth + c.loop-passed._passed) 1 (s.shape.depth + s.shape.leaf_records) c.loop-passed.invariant.reads c.step.ensures.reads (omega (arith, c.loop-passed-test.true, c.loop-passed.invariant.many))

pub returns-in_err-child-clause-reads : goal.returns-in_err-child-clause-reads
returns-in_err-child-clause-reads g c =
    let s = g.N.NodeStore.state c.args.store.now in
    reads_both (s.shape.depth + c.loop-passed._passed) 1 (s.shape.depth + s.shape.leaf_records) c.loop-passed.invariant.reads c.step.ensures.reads (omega (arith, c.loop-passed-test.true, c.loop-passed.invariant.many))

pub returns-in_default-3-clause-reads : goal.returns-in_default-3-clause-reads
returns-in_default-3-clause-reads g c =
    let s = g.N.NodeStore.state c.args.store.now in
    reads_both (s.shape.depth + c.loop-passed._passed) 1 (s.shape.depth + s.shape.leaf_records) c.loop-passed.invariant.reads c.step.ensures.reads (omega (arith, c.loop-passed-test.true, c.loop-passed.invariant.many))

pub returns-in_err-push-clause-reads : goal.returns-in_err-push-clause-reads
returns-in_err-push-clause-reads g c =
    let s = g.N.NodeStore.state c.args.store.now in
    reads_both (s.shape.depth + c.loop-passed._passed) 1 (s.shape.depth + s.shape.leaf_records) c.loop-passed.invariant.reads c.step.ensures.reads (omega (arith, c.loop-passed-test.true, c.loop-passed.invariant.many))

pub returns-in_default-2-clause-listed : goal.returns-in_default-2-clause-listed
returns-in_default-2-clause-listed g c tells =
    let s = g.N.NodeStore.state c.args.store.now in
    let now = g.N.NodeStore.state c.loop-passed.store in
    let next = g.N.NodeStore.state c.step.new.store in
    let inv = c.loop-passed.invariant in
    let gathers = inv.gathers tells in
    let place = gathers.start + c.loop-passed._passed in
    let tells_now : IsTrue now.tells = inv.reads.same.tells ∙ tells in
    let steps = subst (λ on. StepsOn next c.step.new.desk place on) c.in_default-2.is (c.in_ok-on.ensures.steps tells_now place gathers.stands) in
    ends c.args.parent s now c.loop-passed.desk c.loop-passed.at c.loop-passed._passed c.loop-passed.children gathers next c.step.new.desk (c.step.ensures.pairs tells_now) steps

pub returns-in_default-3-clause-listed : goal.returns-in_default-3-clause-listed
returns-in_default-3-clause-listed g c tells =
    let s = g.N.NodeStore.state c.args.store.now in
    let now = g.N.NodeStore.state c.loop-passed.store in
    let next = g.N.NodeStore.state c.step.new.store in
    let inv = c.loop-passed.invariant in
    let gathers = inv.gathers tells in
    let place = gathers.start + c.loop-passed._passed in
    let tells_now : IsTrue now.tells = inv.reads.same.tells ∙ tells in
    let steps = subst (λ on. StepsOn next c.step.new.desk place on) c.in-Some-2.is (c.in_ok-on.ensures.steps tells_now place gathers.stands) in
    let kept = c.step.ensures.pairs tells_now in
    let tree = c.step.ensures.tree tells_now in
    let key_is = c.key-in-loop-passed.ensures in
    let value_is = c.value.ensures in
    let is_key = held_is_key c.args.parent s now c.loop-passed.desk c.loop-passed.at c.loop-passed._passed c.loop-passed.children gathers next c.step.new.desk c.in-Some-2.on kept tree steps in
    let spelled = held_is_spelled c.args.parent s now c.loop-passed.desk c.loop-passed.at c.loop-passed._passed c.loop-passed.children gathers next c.step.new.desk c.in-Some-2.on kept tree steps (c.requires.spelled tells) in
    let found = c.in_ok-child.ensures.child (subst IsCatalogKey (sym key_is) is_key) (subst (λ v. IsTrue (is_catalog v)) (sym value_is) spelled) in
    let child_is = ap (λ k. child_under c.args.parent k c.step.new.desk.held.value) (sym key_is) ∙ ap (λ v. child_under c.args.parent c.key-in-loop-passed.result.now v) (sym value_is) ∙ sym found in
    stops c.args.parent s now c.loop-passed.desk c.loop-passed.at c.loop-passed._passed c.loop-passed.children gathers next c.step.new.desk c.in-Some-2.on kept tree steps (child_is ∙ c.in_default-3.is)

pub loop-passed-preserved : goal.loop-passed-preserved
loop-passed-preserved g c =
    let s = g.N.NodeStore.state c.args.store.now in
    let now = g.N.NodeStore.state c.loop-passed.store in
    let next = g.N.NodeStore.state c.step.new.store in
    let inv = c.loop-passed.invariant in
    record {
      gathers = λ tells.
          let gathers = inv.gathers tells in
          let place = gathers.start + c.loop-passed._passed in
          let tells_now : IsTrue now.tells = inv.reads.same.tells ∙ tells in
          let steps = subst (λ on. StepsOn next c.step.new.desk place on) c.in-Some-2.is (c.in_ok-on.ensures.steps tells_now place gathers.stands) in
          let kept = c.step.ensures.pairs tells_now in
          let tree = c.step.ensures.tree tells_now in
          let key_is = c.key-in-loop-passed.ensures in
          let value_is = c.value.ensures in
          let is_key = held_is_key c.args.parent s now c.loop-passed.desk c.loop-passed.at c.loop-passed._passed c.loop-passed.children gathers next c.step.new.desk c.in-Some-2.on kept tree steps in
          let spelled = held_is_spelled c.args.parent s now c.loop-passed.desk c.loop-passed.at c.loop-passed._passed c.loop-passed.children gathers next c.step.new.desk c.in-Some-2.on kept tree steps (c.requires.spelled tells) in
          let found = c.in_ok-child.ensures.child (subst IsCatalogKey (sym key_is) is_key) (subst (λ v. IsTrue (is_catalog v)) (sym value_is) spelled) in
          let child_is = ap (λ k. child_under c.args.parent k c.step.new.desk.held.value) (sym key_is) ∙ ap (λ v. child_under c.args.parent c.key-in-loop-passed.result.now v) (sym value_is) ∙ sym found in
          subst (λ l. Gathers c.args.parent s next c.step.new.desk c.in-Some-2.on (c.loop-passed._passed + 1) l) (sym c.in_ok-push.ensures.added) (goes_on c.args.parent s now c.loop-passed.desk c.loop-passed.at c.loop-passed._passed c.loop-passed.children gathers next c.step.new.desk c.in-Some-2.on kept tree steps c.in-Some-3.child (child_is ∙ c.in-Some-3.is)
          (s.shape.depth + c.loop-passed._passed) inv.reads tells (c.in_ok-on.ensures.loads tells_now place gathers.stands (subst IsSome (sym c.in-Some-2.is) refl)));
      many = inv.many;
      listed = omega (arith, ap length c.in_ok-push.ensures.added, length-append c.loop-passed.children (c.in-Some-3.child ∷ []), inv.listed);
      desk = subst (λ n. IsDeskOf n c.step.new.desk) inv.reads.same.node_size c.step.ensures.desk;
      well_formed = (subst (λ o. IsSome o → IsNode c.step.new.desk.node) c.in-Some-2.is c.in_ok-on.ensures.well_formed) (search rules);
      reads = reads_both (s.shape.depth + c.loop-passed._passed) 1 (s.shape.depth + (c.loop-passed._passed + 1)) inv.reads c.step.ensures.reads (omega arith);
      later = omega (arith, inv.later, c.step.ensures.cause.later);
      below = g.met.N.NodeStore.follows_trans c.args.store.now c.loop-passed.store c.step.new.store inv.below c.step.ensures.below;
    }

pub returns-in_default-2-clause-leaves : goal.returns-in_default-2-clause-leaves
returns-in_default-2-clause-leaves g c tells =
    ends_loaded c.args.parent (g.N.NodeStore.state c.args.store.now) (g.N.NodeStore.state c.loop-passed.store) c.loop-passed.desk c.loop-passed.at c.loop-passed._passed c.loop-passed.children (c.loop-passed.invariant.gathers tells) (g.N.NodeStore.state c.step.new.store)
    c.step.ensures.reads.loads

pub returns-in_default-3-clause-leaves : goal.returns-in_default-3-clause-leaves
returns-in_default-3-clause-leaves g c tells =
    ends_loaded c.args.parent (g.N.NodeStore.state c.args.store.now) (g.N.NodeStore.state c.loop-passed.store) c.loop-passed.desk c.loop-passed.at c.loop-passed._passed c.loop-passed.children (c.loop-passed.invariant.gathers tells) (g.N.NodeStore.state c.step.new.store)
    c.step.ensures.reads.loads

pub returns-clause-leaves : goal.returns-clause-leaves
returns-clause-leaves g c tells =
    ends_loaded c.args.parent (g.N.NodeStore.state c.args.store.now) (g.N.NodeStore.state c.loop-passed.store) c.loop-passed.desk c.loop-passed.at c.loop-passed._passed c.loop-passed.children (c.loop-passed.invariant.gathers tells) (g.N.NodeStore.state c.loop-passed.store)
    (omega arith)
