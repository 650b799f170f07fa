use Rattle.std.proofs.Common.{◌∙◌, ap, subst}
use Rattle.std.specs.Option.{option_map}
use Rattle.btree_node.specs.Keys.{extent_cmp}
use Rattle.btree_edit.specs.Desk.{FindsNext}
use Rattle.overflow.specs.Records.{under}
use Rattle.overflow.proofs.Finding.{next_found, none_found}
use Rattle.overflow.proofs.Pairs.{tree_ascends}
use Rattle.overflow.proofs.loading.next_record.Goals as goal

pub returns-then-not-branch-clause-found : goal.returns-then-not-branch-clause-found
returns-then-not-branch-clause-found g c tells =
    let s = g.N.NodeStore.state c.args.store.now in
    none_found c.args.id c.args.fork c.args.start c.key_of-key.result s c.next.new.desk c.key_of-key.ensures (tree_ascends s (c.requires.tree tells))
    (subst (λ b. FindsNext extent_cmp c.key_of-key.result s c.next.new.desk b) c.if-not-branch.true (c.in_ok-next.ensures.next tells))

pub returns-clause-found : goal.returns-clause-found
returns-clause-found g c tells =
    let s = g.N.NodeStore.state c.args.store.now in
    ap (option_map (under c.args.id c.args.fork)) c.take_record.ensures
    ∙ next_found c.args.id c.args.fork c.args.start c.key_of-key.result s c.next.new.desk c.key_of-key.ensures (c.requires.tree tells) (c.requires.values tells) (tree_ascends s (c.requires.tree tells))
    (subst (λ b. FindsNext extent_cmp c.key_of-key.result s c.next.new.desk b) c.if-not-branch.false (c.in_ok-next.ensures.next tells))
