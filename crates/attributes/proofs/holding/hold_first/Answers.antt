use Rattle.std.proofs.Common.{◌≡◌, ℕ, List, sym, ◌∙◌, subst}
use Rattle.std.specs.Prelude.{IsTrue, ◌↔◌}
use Rattle.btree_node.specs.Keys.{IsAttrKey, attr_cmp, attr_file, attr_units}
use Rattle.btree_edit.specs.Desk.{Finds, HasKey}
use Rattle.attributes.specs.Dropping.{is_named}
use Rattle.attributes.proofs.Answers.{if_ok}
use Rattle.attributes.proofs.BeforeEdits.{pairs_read, tree_read}
use Rattle.attributes.proofs.Held.{found_first, held_same}
use Rattle.attributes.proofs.holding.hold_first.Goals as goal

pub returns-in-At-clause-first : goal.returns-in-At-clause-first
returns-in-At-clause-first g c tells =
    let s = g.N.NodeStore.state c.args.store.now in
    let finds = subst (Finds attr_cmp c.args.key.now s c.look.new.desk) c.in-At.is (c.in_ok-look.ensures.found tells) in
    found_first c.args.key.now s c.look.new.desk (c.requires.tree tells) c.requires.start finds.1.0 finds.1.1 finds.0 c.is_key_of_name.result
    (subst (λ (l : List ℕ). IsTrue c.is_key_of_name.result ↔ (IsAttrKey l × (attr_file l ≡ attr_file c.args.key.now) × (attr_units l ≡ attr_units c.args.key.now))) c.key.ensures c.is_key_of_name.ensures)

pub hold_later-requires-clause-tree : goal.hold_later-requires-clause-tree
hold_later-requires-clause-tree g c tells_read =
    let s = g.N.NodeStore.state c.args.store.now in
    let tells : IsTrue s.tells = sym c.look.ensures.reads.same.tells ∙ tells_read in
    tree_read _ s (g.N.NodeStore.state c.look.new.store) c.look.ensures.reads tells (g.met.N.NodeStore.well_formed c.args.store.now).total (c.requires.tree tells)

pub hold_later-requires-clause-absent : goal.hold_later-requires-clause-absent
hold_later-requires-clause-absent g c tells_read =
    let s = g.N.NodeStore.state c.args.store.now in
    let tells : IsTrue s.tells = sym c.look.ensures.reads.same.tells ∙ tells_read in
    let finds = subst (Finds attr_cmp c.args.key.now s c.look.new.desk) c.in-Absent.is (c.in_ok-look.ensures.found tells) in
    let same = pairs_read _ s (g.N.NodeStore.state c.look.new.store) c.look.ensures.reads tells (g.met.N.NodeStore.well_formed c.args.store.now).total (c.requires.tree tells) in
    subst (λ l. HasKey attr_cmp c.args.key.now l → ⊥) (sym same) finds.0

pub returns-in-Absent-clause-first : goal.returns-in-Absent-clause-first
returns-in-Absent-clause-first g c tells =
    let s = g.N.NodeStore.state c.args.store.now in
    let read = g.N.NodeStore.state c.look.new.store in
    let same = pairs_read _ s read c.look.ensures.reads tells (g.met.N.NodeStore.well_formed c.args.store.now).total (c.requires.tree tells) in
    if_ok c.hold_later.result (held_same (is_named (attr_file c.args.key.now) (attr_units c.args.key.now)) c.hold_later.new.desk read s same) (c.hold_later.ensures.first (c.look.ensures.reads.same.tells ∙ tells))
