use Rattle.std.proofs.Common.{◌≡◌, ◌∙◌, ap, arith, sym, subst}
use Rattle.btree_node.specs.Keys.{IsAttrKey, attr_file, attr_start, attr_units}
use Rattle.btree_node.specs.Tree.{pairs_of}
use Rattle.attributes.specs.Values.{records_at, value_at}
use Rattle.attributes.proofs.Answers.{if_ok, on_ok}
use Rattle.attributes.proofs.finding.value_of.Goals as goal

pub value_under-requires-clause-key : goal.value_under-requires-clause-key
value_under-requires-clause-key g c = subst IsAttrKey (sym c.as_slice.ensures) c.in_ok-key.ensures.is_key

pub value_under-requires-clause-start : goal.value_under-requires-clause-start
value_under-requires-clause-start g c = ap attr_start c.as_slice.ensures ∙ c.in_ok-key.ensures.start_is

pub returns-clause-found : goal.returns-clause-found
returns-clause-found g c tells =
    let s = g.N.NodeStore.state c.args.store.now in
    let file : attr_file c.as_slice.result.now ≡ c.args.id = ap attr_file c.as_slice.ensures ∙ c.in_ok-key.ensures.id_is in
    let name : attr_units c.as_slice.result.now ≡ c.args.name.now = ap attr_units c.as_slice.ensures ∙ c.in_ok-key.ensures.name_is in
    if_ok c.value_under.result (λ found is. is ∙ (λ i. value_at (pairs_of s) (file i) (name i))) (c.value_under.ensures.found tells)

pub returns-clause-loads : goal.returns-clause-loads
returns-clause-loads g c tells =
    let s = g.N.NodeStore.state c.args.store.now in
    let file : attr_file c.as_slice.result.now ≡ c.args.id = ap attr_file c.as_slice.ensures ∙ c.in_ok-key.ensures.id_is in
    let name : attr_units c.as_slice.result.now ≡ c.args.name.now = ap attr_units c.as_slice.ensures ∙ c.in_ok-key.ensures.name_is in
    let many : records_at (pairs_of s) (attr_file c.as_slice.result.now) (attr_units c.as_slice.result.now) ≡ records_at (pairs_of s) c.args.id c.args.name.now = λ i. records_at (pairs_of s) (file i) (name i) in
    on_ok c.value_under.result (λ few. omega (arith, few, many)) (c.value_under.ensures.loads tells)
