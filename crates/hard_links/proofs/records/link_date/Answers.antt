use Rattle.std.proofs.Common.{sym, ◌∙◌, ap}
use Rattle.btree_node.specs.Tree.{pairs_of}
use Rattle.catalog.specs.Pairs.{value_at}
use Rattle.hard_links.specs.Linking.{created_in}
use Rattle.hard_links.proofs.records.link_date.Goals as goal

pub returns-clause-date : goal.returns-clause-date
returns-clause-date g c tells =
    let pairs = pairs_of (g.N.NodeStore.state c.args.store.now) in
    c.created_in.ensures ∙ ap created_in (c.in_ok-found.ensures.found tells) ∙ ap (λ l. created_in (value_at pairs 2 l)) c.in_ok-name.ensures.name
