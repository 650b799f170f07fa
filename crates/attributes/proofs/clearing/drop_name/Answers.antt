use Rattle.std.proofs.Common.{◌≡◌, ◌≤◌, ◌++◌, length, sym, ◌∙◌, ap, subst, arith}
use Rattle.btree_node.specs.Keys.{IsAttrKey, attr_file, attr_start, attr_units}
use Rattle.btree_node.specs.Tree.{pairs_of}
use Rattle.hfs_model.specs.Sorted.{kept}
use Rattle.hfs_volume.specs.Changes.{DropsAttribute}
use Rattle.hfs_volume.specs.Values.{is_record_of}
use Rattle.attributes.specs.Dropping.{is_named}
use Rattle.attributes.specs.Values.{extents_at}
use Rattle.attributes.proofs.Answers.{if_ok, on_ok}
use Rattle.attributes.proofs.Firsts.{dropped_valued}
use Rattle.attributes.proofs.Removing.{kept_extents}
use Rattle.attributes.proofs.Framing.{edits_none, edits_upto}
use Rattle.attributes.proofs.clearing.drop_name.Goals as goal

pub drop_under-requires-clause-form : goal.drop_under-requires-clause-form
drop_under-requires-clause-form g c tells = (c.requires.form tells).each

pub drop_under-requires-clause-key : goal.drop_under-requires-clause-key
drop_under-requires-clause-key g c = subst IsAttrKey (sym c.as_slice.ensures) c.in_ok-key.ensures.is_key

pub drop_under-requires-clause-start : goal.drop_under-requires-clause-start
drop_under-requires-clause-start g c = ap attr_start c.as_slice.ensures ∙ c.in_ok-key.ensures.start_is

pub drop_under-requires-clause-few : goal.drop_under-requires-clause-few
drop_under-requires-clause-few g c tells =
    let s = g.N.NodeStore.state c.args.store.now in
    let file : attr_file c.as_slice.result.now ≡ c.args.id = ap attr_file c.as_slice.ensures ∙ c.in_ok-key.ensures.id_is in
    let name : attr_units c.as_slice.result.now ≡ c.args.name.now = ap attr_units c.as_slice.ensures ∙ c.in_ok-key.ensures.name_is in
    subst (λ n. length (kept (is_named n (attr_units c.as_slice.result.now)) (pairs_of s)) ≤ c.args.most) (sym file)
    (subst (λ l. length (kept (is_named c.args.id l) (pairs_of s)) ≤ c.args.most) (sym name) (c.requires.few tells))

pub returns-clause-count : goal.returns-clause-count
returns-clause-count g c tells =
    let s = g.N.NodeStore.state c.args.store.now in
    let file : attr_file c.as_slice.result.now ≡ c.args.id = ap attr_file c.as_slice.ensures ∙ c.in_ok-key.ensures.id_is in
    let name : attr_units c.as_slice.result.now ≡ c.args.name.now = ap attr_units c.as_slice.ensures ∙ c.in_ok-key.ensures.name_is in
    if_ok c.drop_under.result (λ count is. is ∙ (λ i. length (kept (is_named (file i) (name i)) (pairs_of s)))) (c.drop_under.ensures.count tells)

pub returns-clause-blocks : goal.returns-clause-blocks
returns-clause-blocks g c tells =
    let s = g.N.NodeStore.state c.args.store.now in
    let file : attr_file c.as_slice.result.now ≡ c.args.id = ap attr_file c.as_slice.ensures ∙ c.in_ok-key.ensures.id_is in
    let name : attr_units c.as_slice.result.now ≡ c.args.name.now = ap attr_units c.as_slice.ensures ∙ c.in_ok-key.ensures.name_is in
    on_ok c.drop_under.result (λ all. all.added ∙ ap (λ l. c.args.blocks.now ++ l) (kept_extents (is_record_of (attr_file c.as_slice.result.now) (attr_units c.as_slice.result.now)) (pairs_of s) ∙ (λ i. extents_at (pairs_of s) (file i) (name i)))) (c.drop_under.ensures.dropped tells)

pub returns-clause-dropped : goal.returns-clause-dropped
returns-clause-dropped g c tells =
    let s = g.N.NodeStore.state c.args.store.now in
    let new = g.N.NodeStore.state c.drop_under.new.store in
    let file : attr_file c.as_slice.result.now ≡ c.args.id = ap attr_file c.as_slice.ensures ∙ c.in_ok-key.ensures.id_is in
    let name : attr_units c.as_slice.result.now ≡ c.args.name.now = ap attr_units c.as_slice.ensures ∙ c.in_ok-key.ensures.name_is in
    on_ok c.drop_under.result (λ all. subst (λ n. DropsAttribute n c.args.name.now (pairs_of s) (pairs_of new)) file (subst (λ l. DropsAttribute (attr_file c.as_slice.result.now) l (pairs_of s) (pairs_of new)) name all.left)) (c.drop_under.ensures.dropped tells)

pub returns-clause-form : goal.returns-clause-form
returns-clause-form g c tells =
    let s = g.N.NodeStore.state c.args.store.now in
    let new = g.N.NodeStore.state c.drop_under.new.store in
    on_ok c.drop_under.result (λ all. dropped_valued (attr_file c.as_slice.result.now) (attr_units c.as_slice.result.now) (pairs_of s) (pairs_of new) all.left (c.requires.form tells)) (c.drop_under.ensures.dropped tells)

pub returns-in_err-key-clause-frame : goal.returns-in_err-key-clause-frame
returns-in_err-key-clause-frame g c = edits_upto c.args.most (edits_none g.N.NodeStore.state g.N.NodeStore.follows 266 c.args.store.now c.requires.ready g.met.N.NodeStore.follows_refl) (omega arith)
