use Rattle.std.proofs.Common.{◌≡◌, ℕ, List, subst}
use Rattle.std.specs.Prelude.{IsTrue, ◌↔◌}
use Rattle.btree_node.specs.Keys.{IsAttrKey, attr_file, attr_units}
use Rattle.attributes.proofs.Held.{later_first, none_first}
use Rattle.attributes.proofs.Owned.{none_next, some_next}
use Rattle.attributes.proofs.holding.hold_later.Goals as goal

pub returns-then-not-branch-clause-first : goal.returns-then-not-branch-clause-first
returns-then-not-branch-clause-first g c tells =
    let s = g.N.NodeStore.state c.args.store.now in
    none_first c.args.key.now s c.next.new.desk (c.requires.tree tells) c.requires.start (c.requires.absent tells) (none_next c.args.key.now s c.next.new.desk c.in_ok-next.field-0 c.if-not-branch.true (c.in_ok-next.ensures.next tells))

pub returns-clause-first : goal.returns-clause-first
returns-clause-first g c tells =
    let s = g.N.NodeStore.state c.args.store.now in
    let next = some_next c.args.key.now s c.next.new.desk c.in_ok-next.field-0 c.if-not-branch.false (c.in_ok-next.ensures.next tells) in
    later_first c.args.key.now s c.next.new.desk (c.requires.tree tells) c.requires.start (c.requires.absent tells) next.0 next.1 next.2 c.is_key_of_name.result
    (subst (λ (l : List ℕ). IsTrue c.is_key_of_name.result ↔ (IsAttrKey l × (attr_file l ≡ attr_file c.args.key.now) × (attr_units l ≡ attr_units c.args.key.now))) c.key.ensures c.is_key_of_name.ensures)
