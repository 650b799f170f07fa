use Rattle.std.proofs.Common.{◌≡◌, sym, ◌∙◌, subst}
use Rattle.btree_node.specs.Tree.{pairs_of}
use Rattle.hard_links.specs.Numbers.{FindsFree}
use Rattle.hard_links.proofs.Dense.{not_all_taken}
use Rattle.hard_links.proofs.numbers.free_of_all.Goals as goal

pub returns-in-None-clause-first : goal.returns-in-None-clause-first
returns-in-None-clause-first g c tells =
    let s = g.N.NodeStore.state c.args.store.now in
    absurd (not_all_taken s c.args.private c.args.word.now (c.requires.tree tells) (c.requires.few tells)
    (subst (λ found. FindsFree (pairs_of s) c.args.private c.args.word.now 1 found) c.in-None.is (c.in_ok-number.ensures.found tells)))
