use Rattle.std.proofs.Common.{◌≡◌, ℕ, List, subst}
use Rattle.std.specs.Prelude.{IsTrue, ◌↔◌}
use Rattle.btree_node.specs.Keys.{IsAttrKey, attr_file}
use Rattle.attributes.proofs.Held.{none_owned_first, owned_first}
use Rattle.attributes.proofs.Owned.{none_next, some_next}
use Rattle.attributes.proofs.holding.hold_owned.Goals as goal

pub returns-then-not-branch-clause-first : goal.returns-then-not-branch-clause-first
returns-then-not-branch-clause-first g c tells =
    let s = g.N.NodeStore.state c.args.store.now in
    none_owned_first c.args.id c.args.start.now s c.next.new.desk (c.requires.tree tells) (c.requires.form tells) c.requires.before.0 c.requires.before.1
    (none_next c.args.start.now s c.next.new.desk c.in_ok-next.field-0 c.if-not-branch.true (c.in_ok-next.ensures.next tells))

pub returns-clause-first : goal.returns-clause-first
returns-clause-first g c tells =
    let s = g.N.NodeStore.state c.args.store.now in
    let next = some_next c.args.start.now s c.next.new.desk c.in_ok-next.field-0 c.if-not-branch.false (c.in_ok-next.ensures.next tells) in
    owned_first c.args.id c.args.start.now s c.next.new.desk (c.requires.tree tells) (c.requires.form tells) c.requires.before.0 c.requires.before.1 next.0 next.1 next.2 c.is_key_of.result
    (subst (λ (l : List ℕ). IsTrue c.is_key_of.result ↔ (IsAttrKey l × (attr_file l ≡ c.args.id))) c.key.ensures c.is_key_of.ensures)
