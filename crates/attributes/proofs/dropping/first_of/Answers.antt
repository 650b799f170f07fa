use Rattle.std.proofs.Common.{◌++◌, refl, sym, ◌∙◌, ap, subst}
use Rattle.std.specs.Prelude.{slice_index_or, []}
use Rattle.btree_node.specs.Keys.{IsAttrKey, attr_file, attr_units}
use Rattle.btree_node.specs.Tree.{pairs_of}
use Rattle.attributes.specs.Dropping.{HoldsFirst, is_named}
use Rattle.attributes.proofs.Held.{pair_extents}
use Rattle.attributes.proofs.dropping.first_of.Goals as goal

pub returns-then-not-branch-clause-found : goal.returns-then-not-branch-clause-found
returns-then-not-branch-clause-found g c tells =
    let s = g.N.NodeStore.state c.args.store.now in
    (subst (HoldsFirst (is_named (attr_file c.args.key.now) (attr_units c.args.key.now)) s c.hold_first.new.desk) c.if-not-branch.true (c.in_ok-hold_first.ensures.first tells), refl)

pub returns-clause-found : goal.returns-clause-found
returns-clause-found g c tells =
    let s = g.N.NodeStore.state c.args.store.now in
    let held = subst (HoldsFirst (is_named (attr_file c.args.key.now) (attr_units c.args.key.now)) s c.hold_first.new.desk) c.if-not-branch.false (c.in_ok-hold_first.ensures.first tells) in
    let pair = slice_index_or (pairs_of s) held.0 ([], []) in
    (held.0, held.2, sym (c.in_ok-own.ensures ∙ c.key.ensures ∙ held.1.key), c.in_ok-push_record.ensures ∙ ap (λ l. c.args.blocks.now ++ l) (pair_extents pair c.value.result.now (c.value.ensures ∙ held.1.value)))

pub returns-clause-key : goal.returns-clause-key
returns-clause-key g c = subst IsAttrKey (sym (c.in_ok-own.ensures ∙ c.key.ensures)) (c.in_ok-hold_first.ensures.key c.if-not-branch.false)
