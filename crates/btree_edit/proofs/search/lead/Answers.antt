use Rattle.std.proofs.Common.{◌≡◌, ◌⊎◌, ◌∙◌, List, ℕ, [], length, sym, ap, subst, arith, true, false}
use Rattle.std.specs.Prelude.{IfSome, IfNone}
use Rattle.std.proofs.lemmas.Bool.{true≢false}
use Rattle.btree_node.specs.Node.{IsNodeOf, items}
use Rattle.btree_node.specs.Tree.{kind_at}
use Rattle.btree_edit.specs.Reading.{HasNoKey, IsLead}
use Rattle.btree_edit.proofs.Fitting.{size_least}
use Rattle.btree_edit.proofs.search.lead.Goals as goal

pub step_in-requires-clause-size : goal.step_in-requires-clause-size
step_in-requires-clause-size g c =
    let s = g.N.NodeStore.state c.args.store.now in
    omega (arith, size_least s.shape.node_size (g.met.N.NodeStore.well_formed c.args.store.now).node_size, c.in-Some.ensures.size)

pub returns-in-Some-clause-step : goal.returns-in-Some-clause-step
returns-in-Some-clause-step g c = λ tells.
    subst (λ (l : List ℕ). IfSome c.step_in.result (λ step. IsLead g.K.KeyOrder.cmp c.args.key.now (items l) step)) (c.in-Some.ensures.value tells) c.step_in.ensures.step

pub returns-in-Some-clause-none : goal.returns-in-Some-clause-none
returns-in-Some-clause-none g c = λ tells inside node low.
    let value = c.in-Some.ensures.value tells in
    subst (λ (l : List ℕ). IfNone c.step_in.result (HasNoKey g.K.KeyOrder.is_key (items l) ⊎ (items l ≡ []))) value
    (c.step_in.ensures.none (subst (λ (l : List ℕ). IsNodeOf (kind_at c.args.height) c.args.height l) (sym value) node))

pub returns-then-not-branch-clause-none : goal.returns-then-not-branch-clause-none
returns-then-not-branch-clause-none g c = λ tells inside node low. absurd (true≢false (sym (c.in_ok-read_node.ensures.sound tells inside node low) ∙ c.if-not-branch.true))

pub returns-clause-step : goal.returns-clause-step
returns-clause-step g c = λ tells.
    let yes : c.in_ok-read_node.field-0 ≡ true = c.if-not-branch.false in
    subst (λ (l : List ℕ). IfSome c.step.result (λ step. IsLead g.K.KeyOrder.cmp c.args.key.now (items l) step)) (c.bytes.ensures.value ∙ c.in_ok-read_node.ensures.value tells yes) c.step.ensures.step

pub returns-clause-none : goal.returns-clause-none
returns-clause-none g c = λ tells inside node low.
    let yes : c.in_ok-read_node.field-0 ≡ true = c.if-not-branch.false in
    subst (λ (l : List ℕ). IfNone c.step.result (HasNoKey g.K.KeyOrder.is_key (items l) ⊎ (items l ≡ []))) (c.bytes.ensures.value ∙ c.in_ok-read_node.ensures.value tells yes) c.step.ensures.none
