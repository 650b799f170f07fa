use Rattle.std.proofs.Common.{sym, ◌∙◌, ap, subst}
use Rattle.btree_node.specs.Keys.{IsCatalogKey, catalog_parent, catalog_units}
use Rattle.btree_node.specs.Tree.{pairs_of}
use Rattle.catalog.specs.Pairs.{value_at}
use Rattle.catalog.proofs.Answers.{ok_is}
use Rattle.catalog.proofs.finding.lookup.Goals as goal

pub record_under-requires-clause-key : goal.record_under-requires-clause-key
record_under-requires-clause-key g c = subst IsCatalogKey (sym c.as_slice.ensures) c.in_ok-key.ensures.is_key

pub returns-clause-found : goal.returns-clause-found
returns-clause-found g c tells =
    let pairs = pairs_of (g.N.NodeStore.state c.args.store.now) in
    let key = c.as_slice.result.now in
    let parent_is = ap catalog_parent c.as_slice.ensures ∙ c.in_ok-key.ensures.parent_is in
    let name_is = ap catalog_units c.as_slice.ensures ∙ c.in_ok-key.ensures.name_is in
    ok_is c.record_under.result (value_at pairs (catalog_parent key) (catalog_units key)) (value_at pairs c.args.parent c.args.name.now) (c.record_under.ensures.found tells)
    (ap (λ n. value_at pairs n (catalog_units key)) parent_is ∙ ap (λ l. value_at pairs c.args.parent l) name_is)
