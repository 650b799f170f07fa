use Rattle.std.proofs.Common.{◌≡◌, ◌+◌, ◌-◌, ◌^◌, ◌++◌, refl, sym, ◌∙◌, ap, subst}
use Rattle.std.specs.Prelude.{slice_index_or, [], min}
use Rattle.btree_node.specs.Keys.{IsAttrKey}
use Rattle.btree_node.specs.Tree.{pairs_of}
use Rattle.attributes.specs.Dropping.{HoldsFirst, counted, extents_of_pair}
use Rattle.attributes.specs.Owned.{is_of}
use Rattle.attributes.proofs.Held.{counted_is, pair_extents}
use Rattle.attributes.proofs.dropping.next_owned.Goals as goal

pub returns-then-not-branch-clause-found : goal.returns-then-not-branch-clause-found
returns-then-not-branch-clause-found g c tells =
    let s = g.N.NodeStore.state c.args.store.now in
    (subst (HoldsFirst (is_of c.args.id) s c.hold_owned.new.desk) c.if-not-branch.true (c.in_ok-hold_owned.ensures.first tells), refl)

pub returns-clause-found : goal.returns-clause-found
returns-clause-found g c tells =
    let s = g.N.NodeStore.state c.args.store.now in
    let held = subst (HoldsFirst (is_of c.args.id) s c.hold_owned.new.desk) c.if-not-branch.false (c.in_ok-hold_owned.ensures.first tells) in
    let pair = slice_index_or (pairs_of s) held.0 ([], []) in
    let count : c.saturating_add-gone.result ≡ counted c.args.gone.now.count pair =
    c.saturating_add-gone.ensures ∙ ap (λ n. min (c.args.gone.now.count + n) (2 ^ 32 - 1)) c.one_if_first.ensures ∙ counted_is c.args.gone.now.count pair c.key.result.now (c.key.ensures ∙ held.1.key) in
    let blocks : c.push_record.new.list ≡ c.args.gone.now.blocks ++ extents_of_pair pair =
    c.in_ok-push_record.ensures ∙ ap (λ l. c.args.gone.now.blocks ++ l) (pair_extents pair c.value.result.now (c.value.ensures ∙ held.1.value)) in
    (held.0, held.2, sym (c.in_ok-own.ensures ∙ c.key-2.ensures ∙ held.1.key), (λ i. record { count = count i; blocks = blocks i }))

pub returns-clause-key : goal.returns-clause-key
returns-clause-key g c = subst IsAttrKey (sym (c.in_ok-own.ensures ∙ c.key-2.ensures)) (c.in_ok-hold_owned.ensures.key c.if-not-branch.false)

pub one_if_first-requires : goal.one_if_first-requires
one_if_first-requires g c = subst IsAttrKey (sym c.key.ensures) (c.in_ok-hold_owned.ensures.key c.if-not-branch.false)
