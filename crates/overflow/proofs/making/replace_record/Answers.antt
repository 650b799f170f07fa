use Rattle.std.proofs.Common.{arith, refl, inl, inr, ap}
use Rattle.btree_node.specs.Tree.{pairs_of}
use Rattle.btree_edit.proofs.EditLaws.{takes_one, edits_one, room_for_one}
use Rattle.overflow.proofs.Editing.{replaced_records, replaced_all_others, has_value, once_is_light}
use Rattle.overflow.proofs.making.replace_record.Goals as goal

pub replace-requires-clause-depth : goal.replace-requires-clause-depth
replace-requires-clause-depth g c tells =
    let s = g.N.NodeStore.state c.args.store.now in
    inl (has_value c.args.id c.args.fork c.args.one.start c.key_of-key.result c.key_of-key.ensures s (c.requires.tree tells) (pairs_of s) c.value_of-value.result c.value_of-value.ensures.long tells (c.requires.values tells) (c.requires.fits tells))

pub replace-requires-clause-free : goal.replace-requires-clause-free
replace-requires-clause-free g c tells =
    let s = g.N.NodeStore.state c.args.store.now in
    inl (has_value c.args.id c.args.fork c.args.one.start c.key_of-key.result c.key_of-key.ensures s (c.requires.tree tells) (pairs_of s) c.value_of-value.result c.value_of-value.ensures.long tells (c.requires.values tells) (c.requires.fits tells))

pub replace-requires-clause-room : goal.replace-requires-clause-room
replace-requires-clause-room g c tells =
    let s = g.N.NodeStore.state c.args.store.now in
    elim (c.requires.room tells) [
      | inl edit ↦ inr (room_for_one 0 10 s (λ _. edit) tells).room
      | inr light ↦ inr light
    ]

pub returns-in_err-replace-clause-light : goal.returns-in_err-replace-clause-light
returns-in_err-replace-clause-light g c tells =
    let s = g.N.NodeStore.state c.args.store.now in
    let has = has_value c.args.id c.args.fork c.args.one.start c.key_of-key.result c.key_of-key.ensures s (c.requires.tree tells) (pairs_of s) c.value_of-value.result c.value_of-value.ensures.long tells (c.requires.values tells) (c.requires.fits tells) in
    once_is_light s.shape.depth s (g.N.NodeStore.state c.replace.new.store) (c.replace.ensures.once has)

pub returns-clause-records : goal.returns-clause-records
returns-clause-records g c tells =
    let s = g.N.NodeStore.state c.args.store.now in
    replaced_records c.args.id c.args.fork c.args.one.start c.key_of-key.result c.key_of-key.ensures s (c.requires.tree tells) (pairs_of (g.N.NodeStore.state c.replace.new.store))
    c.args.one c.value_of-value.result (record { start_is = refl; extents = c.value_of-value.ensures.back }) c.in_ok-replace.field-0 (c.requires.fits tells) (c.in_ok-replace.ensures.answer tells) (c.in_ok-replace.ensures.pairs tells)

pub returns-clause-others : goal.returns-clause-others
returns-clause-others g c tells =
    let s = g.N.NodeStore.state c.args.store.now in
    replaced_all_others c.args.id c.args.fork c.args.one.start c.key_of-key.result c.key_of-key.ensures s (c.requires.tree tells) (pairs_of (g.N.NodeStore.state c.replace.new.store)) c.value_of-value.result c.in_ok-replace.field-0
    (c.in_ok-replace.ensures.pairs tells)

pub returns-clause-edits : goal.returns-clause-edits
returns-clause-edits g c =
    edits_one 10 (g.N.NodeStore.state c.args.store.now) (g.N.NodeStore.state c.replace.new.store) c.replace.ensures.does c.in_ok-replace.ensures.depth (omega (arith, c.in_ok-replace.ensures.records)) c.in_ok-replace.ensures.roots

pub returns-clause-takes : goal.returns-clause-takes
returns-clause-takes g c = takes_one 10 (g.N.NodeStore.state c.args.store.now) (g.N.NodeStore.state c.replace.new.store) c.replace.ensures.does

pub returns-clause-light : goal.returns-clause-light
returns-clause-light g c tells =
    let s = g.N.NodeStore.state c.args.store.now in
    let has = has_value c.args.id c.args.fork c.args.one.start c.key_of-key.result c.key_of-key.ensures s (c.requires.tree tells) (pairs_of s) c.value_of-value.result c.value_of-value.ensures.long tells (c.requires.values tells) (c.requires.fits tells) in
    once_is_light s.shape.depth s (g.N.NodeStore.state c.replace.new.store) (c.replace.ensures.once has)

pub returns-clause-kept : goal.returns-clause-kept
returns-clause-kept g c tells =
    let s = g.N.NodeStore.state c.args.store.now in
    let has = has_value c.args.id c.args.fork c.args.one.start c.key_of-key.result c.key_of-key.ensures s (c.requires.tree tells) (pairs_of s) c.value_of-value.result c.value_of-value.ensures.long tells (c.requires.values tells) (c.requires.fits tells) in
    omega (arith, ap (λ h. h.depth) (c.replace.ensures.kept has))
