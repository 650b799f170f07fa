use Rattle.std.proofs.Common.{◌*◌, length, sym, subst, arith}
use Rattle.std.specs.Prelude.{IsTrue}
use Rattle.btree_edit.specs.Desk.{IsDeskOf}
use Rattle.btree_edit.specs.Editing.{CostsAtMost, edit_writes}
use Rattle.btree_edit.specs.Edits.{TakesEdits, TakesAtMost}
use Rattle.btree_edit.proofs.Repeated.{same_store_both}
use Rattle.overflow.specs.declared.changes.Change.TheVariants.{Remove}
use Rattle.overflow.proofs.Costs.{change_room, one_more_made, none_made, takes_failed, costs_failed}
use Rattle.overflow.proofs.Steps.{none_changed, next_fits, one_more_changed, all_made}
use Rattle.overflow.proofs.storing.make_changes.Goals as goal

pub loop-change-init : goal.loop-change-init
loop-change-init g c =
    let s = g.N.NodeStore.state c.args.store.now in
    record {
      desk = c.requires.desk;
      made = none_made c.args.changes.now s;
      told = λ tells. none_changed c.args.id c.args.fork c.args.changes.now s (c.requires.tree tells) (c.requires.values tells) (c.requires.fits tells);
      later = omega arith;
      below = g.met.N.NodeStore.follows_refl c.args.store.now;
    }

pub make_change-requires-clause-fits : goal.make_change-requires-clause-fits
make_change-requires-clause-fits g c tells_now =
    let s = g.N.NodeStore.state c.args.store.now in
    let now = g.N.NodeStore.state c.loop-change.store in
    let tells : IsTrue s.tells = subst IsTrue c.loop-change.invariant.made.same.tells tells_now in
    next_fits c.args.id c.args.fork c.args.changes.now c.loop-change.change-index (Remove 0) s now c.loop-change-test.true (c.loop-change.invariant.told tells)

pub make_change-requires-clause-room : goal.make_change-requires-clause-room
make_change-requires-clause-room g c =
    change_room c.args.changes.now c.loop-change.change-index (Remove 0) (g.N.NodeStore.state c.args.store.now) (g.N.NodeStore.state c.loop-change.store) c.loop-change-test.true c.loop-change.invariant.made c.requires.room

pub returns-in_err-make_change-clause-takes : goal.returns-in_err-make_change-clause-takes
returns-in_err-make_change-clause-takes g c =
    takes_failed c.args.changes.now c.loop-change.change-index (g.N.NodeStore.state c.args.store.now) (g.N.NodeStore.state c.loop-change.store) (g.N.NodeStore.state c.make_change.new.store)
    c.loop-change-test.true c.loop-change.invariant.made c.make_change.ensures.takes

pub returns-in_err-make_change-clause-light : goal.returns-in_err-make_change-clause-light
returns-in_err-make_change-clause-light g c tells light =
    costs_failed c.args.changes.now c.loop-change.change-index (Remove 0) (g.N.NodeStore.state c.args.store.now) (g.N.NodeStore.state c.loop-change.store) (g.N.NodeStore.state c.make_change.new.store)
    c.loop-change-test.true c.loop-change.invariant.made tells light c.make_change.ensures.light

pub returns-in_err-make_change-clause-same : goal.returns-in_err-make_change-clause-same
returns-in_err-make_change-clause-same g c = same_store_both c.loop-change.invariant.made.same c.make_change.ensures.same

pub returns-in_err-make_change-clause-below : goal.returns-in_err-make_change-clause-below
returns-in_err-make_change-clause-below g c = g.met.N.NodeStore.follows_trans c.args.store.now c.loop-change.store c.make_change.new.store c.loop-change.invariant.below c.make_change.ensures.below

pub loop-change-preserved : goal.loop-change-preserved
loop-change-preserved g c =
    let s = g.N.NodeStore.state c.args.store.now in
    let now = g.N.NodeStore.state c.loop-change.store in
    let next = g.N.NodeStore.state c.make_change.new.store in
    let before = c.loop-change.invariant in
    record {
      desk = subst (λ n. IsDeskOf n c.make_change.new.desk) before.made.same.node_size c.make_change.ensures.desk;
      made = one_more_made c.args.changes.now c.loop-change.change-index (Remove 0) s now next c.loop-change-test.true before.made c.make_change.ensures.same c.in_ok-make_change.ensures.edits c.make_change.ensures.light c.in_ok-make_change.ensures.kept;
      told = λ tells.
          let tells_now : IsTrue now.tells = subst IsTrue (sym before.made.same.tells) tells in
          one_more_changed c.args.id c.args.fork c.args.changes.now c.loop-change.change-index (Remove 0) s now c.loop-change-test.true (before.told tells) next
          (c.in_ok-make_change.ensures.tree tells_now) (c.in_ok-make_change.ensures.values tells_now) (c.in_ok-make_change.ensures.records tells_now) (c.in_ok-make_change.ensures.others tells_now) (c.in_ok-make_change.ensures.header tells_now);
      later = omega (arith, before.later, c.make_change.ensures.cause.later);
      below = g.met.N.NodeStore.follows_trans c.args.store.now c.loop-change.store c.make_change.new.store before.below c.make_change.ensures.below;
    }

pub returns-clause-records : goal.returns-clause-records
returns-clause-records g c tells =
    all_made c.args.id c.args.fork c.args.changes.now c.loop-change.change-index (g.N.NodeStore.state c.args.store.now) (g.N.NodeStore.state c.loop-change.store) (omega (arith, c.loop-change-test.false)) (c.loop-change.invariant.told tells)

pub returns-clause-others : goal.returns-clause-others
returns-clause-others g c tells = (c.loop-change.invariant.told tells).others

pub returns-clause-values : goal.returns-clause-values
returns-clause-values g c tells = (c.loop-change.invariant.told tells).values

pub returns-clause-header : goal.returns-clause-header
returns-clause-header g c tells says = (c.loop-change.invariant.told tells).header says

pub returns-clause-edits : goal.returns-clause-edits
returns-clause-edits g c =
    subst (λ n. TakesEdits n 10 (g.N.NodeStore.state c.args.store.now) (g.N.NodeStore.state c.loop-change.store)) {x = c.loop-change.change-index} {y = length c.args.changes.now}
    (omega (arith, c.loop-change-test.false, c.loop-change.auto.change-index-end)) c.loop-change.invariant.made.edits

pub returns-clause-takes : goal.returns-clause-takes
returns-clause-takes g c =
    subst (λ n. TakesAtMost n 10 (g.N.NodeStore.state c.args.store.now) (g.N.NodeStore.state c.loop-change.store)) {x = c.loop-change.change-index} {y = length c.args.changes.now}
    (omega (arith, c.loop-change-test.false, c.loop-change.auto.change-index-end)) c.loop-change.invariant.made.edits.takes

pub returns-clause-light : goal.returns-clause-light
returns-clause-light g c tells light =
    subst (λ n. CostsAtMost (n * edit_writes (g.N.NodeStore.state c.args.store.now).shape.depth) 0 (g.N.NodeStore.state c.args.store.now) (g.N.NodeStore.state c.loop-change.store)) {x = c.loop-change.change-index} {y = length c.args.changes.now}
    (omega (arith, c.loop-change-test.false, c.loop-change.auto.change-index-end)) (c.loop-change.invariant.made.light tells light).0
