use Rattle.std.proofs.Common.{sym, ◌∙◌, ap, subst, arith}
use Rattle.std.specs.Prelude.{IsTrue}
use Rattle.btree_node.specs.Keys.{attr_cmp, attr_file, attr_units}
use Rattle.btree_edit.specs.Desk.{Finds}
use Rattle.attributes.specs.Values.{AreValued, records_at, value_at}
use Rattle.attributes.proofs.Answers.{if_ok, on_ok}
use Rattle.attributes.proofs.BeforeEdits.{pairs_read, tree_read}
use Rattle.attributes.proofs.Held.{holds_same}
use Rattle.attributes.proofs.Told.{no_key_no_value}
use Rattle.attributes.proofs.finding.value_under.Goals as goal

pub returns-in-Absent-clause-found : goal.returns-in-Absent-clause-found
returns-in-Absent-clause-found g c tells =
    let s = g.N.NodeStore.state c.args.store.now in
    let finds = subst (Finds attr_cmp c.args.key.now s c.look.new.desk) c.in-Absent.is (c.in_ok-look.ensures.found tells) in
    sym (no_key_no_value c.args.key.now s (c.requires.tree tells) (c.requires.form tells) c.requires.start finds.0)

pub value_held-requires-clause-tree : goal.value_held-requires-clause-tree
value_held-requires-clause-tree g c tells_read =
    let s = g.N.NodeStore.state c.args.store.now in
    let tells : IsTrue s.tells = sym c.look.ensures.reads.same.tells ∙ tells_read in
    tree_read _ s (g.N.NodeStore.state c.look.new.store) c.look.ensures.reads tells (g.met.N.NodeStore.well_formed c.args.store.now).total (c.requires.tree tells)

pub value_held-requires-clause-form : goal.value_held-requires-clause-form
value_held-requires-clause-form g c tells_read =
    let s = g.N.NodeStore.state c.args.store.now in
    let tells : IsTrue s.tells = sym c.look.ensures.reads.same.tells ∙ tells_read in
    subst AreValued (sym (pairs_read _ s (g.N.NodeStore.state c.look.new.store) c.look.ensures.reads tells (g.met.N.NodeStore.well_formed c.args.store.now).total (c.requires.tree tells))) (c.requires.form tells)

pub value_held-requires-clause-held : goal.value_held-requires-clause-held
value_held-requires-clause-held g c tells_read =
    let s = g.N.NodeStore.state c.args.store.now in
    let read = g.N.NodeStore.state c.look.new.store in
    let tells : IsTrue s.tells = sym c.look.ensures.reads.same.tells ∙ tells_read in
    let same = pairs_read _ s read c.look.ensures.reads tells (g.met.N.NodeStore.well_formed c.args.store.now).total (c.requires.tree tells) in
    let finds = subst (Finds attr_cmp c.args.key.now s c.look.new.desk) c.in-At.is (c.in_ok-look.ensures.found tells) in
    (finds.1.0, holds_same c.look.new.desk s read (sym same) finds.1.0 finds.1.1, finds.0)

pub returns-in-At-clause-found : goal.returns-in-At-clause-found
returns-in-At-clause-found g c tells =
    let s = g.N.NodeStore.state c.args.store.now in
    let read = g.N.NodeStore.state c.look.new.store in
    let same = pairs_read _ s read c.look.ensures.reads tells (g.met.N.NodeStore.well_formed c.args.store.now).total (c.requires.tree tells) in
    if_ok c.value_held.result (λ found is. is ∙ ap (λ l. value_at l (attr_file c.args.key.now) (attr_units c.args.key.now)) same) (c.value_held.ensures.found (c.look.ensures.reads.same.tells ∙ tells))

pub returns-in-At-clause-loads : goal.returns-in-At-clause-loads
returns-in-At-clause-loads g c tells =
    let s = g.N.NodeStore.state c.args.store.now in
    let read = g.N.NodeStore.state c.look.new.store in
    let same = pairs_read _ s read c.look.ensures.reads tells (g.met.N.NodeStore.well_formed c.args.store.now).total (c.requires.tree tells) in
    on_ok c.value_held.result (λ few. omega (arith, few, c.look.ensures.reads.loads, ap (λ h. h.depth) c.look.ensures.reads.shape, ap (λ l. records_at l (attr_file c.args.key.now) (attr_units c.args.key.now)) same))
    (c.value_held.ensures.loads (c.look.ensures.reads.same.tells ∙ tells))
