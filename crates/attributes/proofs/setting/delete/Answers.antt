use Rattle.std.proofs.Common.{◌++◌, ◌∙◌, ap, sym}
use Rattle.btree_node.specs.Tree.{pairs_of}
use Rattle.attributes.specs.Values.{extents_at}
use Rattle.attributes.proofs.Firsts.{no_value, value_there}
use Rattle.attributes.proofs.Lists.{no_length}
use Rattle.attributes.proofs.Places.{tree_ascends, rising_sorted}
use Rattle.attributes.proofs.Framing.{edits_ok, edits_err}
use Rattle.attributes.proofs.setting.delete.Goals as goal

pub returns-then-branch-eq0-clause-answer : goal.returns-then-branch-eq0-clause-answer
returns-then-branch-eq0-clause-answer g c tells =
    let s = g.N.NodeStore.state c.args.store.now in
    no_value c.args.id c.args.name.now (pairs_of s) (no_length _ (sym (c.in_ok-drop_name.ensures.count tells) ∙ c.if-branch-eq0.true))

pub returns-then-branch-eq0-clause-sorted : goal.returns-then-branch-eq0-clause-sorted
returns-then-branch-eq0-clause-sorted g c tells =
    let new = g.N.NodeStore.state c.drop_name.new.store in
    rising_sorted (pairs_of new) (tree_ascends new (c.in_ok-drop_name.ensures.frame.tree tells))

pub returns-clause-answer : goal.returns-clause-answer
returns-clause-answer g c tells =
    let s = g.N.NodeStore.state c.args.store.now in (
      value_there c.args.id c.args.name.now (pairs_of s) (tree_ascends s (c.requires.ready.tree tells)) (c.requires.form tells) (λ none. c.if-branch-eq0.false (c.in_ok-drop_name.ensures.count tells ∙ none)),
      c.in_ok-drop_name.ensures.blocks tells ∙ ap (λ l. l ++ extents_at (pairs_of s) c.args.id c.args.name.now) c.new-blocks.ensures,
    )

pub returns-clause-sorted : goal.returns-clause-sorted
returns-clause-sorted g c tells =
    let new = g.N.NodeStore.state c.drop_name.new.store in
    rising_sorted (pairs_of new) (tree_ascends new (c.in_ok-drop_name.ensures.frame.tree tells))

pub returns-in_err-drop_name-clause-frame : goal.returns-in_err-drop_name-clause-frame
returns-in_err-drop_name-clause-frame g c = edits_err _ c.from_residual.ensures.1 c.in_err-drop_name.ensures.frame

pub returns-then-branch-eq0-clause-frame : goal.returns-then-branch-eq0-clause-frame
returns-then-branch-eq0-clause-frame g c = edits_ok c.in_ok-drop_name.ensures.frame

pub returns-clause-frame : goal.returns-clause-frame
returns-clause-frame g c = edits_ok c.in_ok-drop_name.ensures.frame
