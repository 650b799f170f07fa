use Rattle.std.proofs.Common.{◌/◌, length, min, sym, ◌∙◌, subst, ap, arith}
use Rattle.std.specs.Prelude.{IsTrue}
use Rattle.btree_node.specs.Tree.{pairs_of}
use Rattle.btree_edit.proofs.Repeated.{same_store_both}
use Rattle.fork_map.specs.Blocks.{blocks_of}
use Rattle.hfs_volume.specs.Forks.{in_use}
use Rattle.overflow.specs.Changes.{changes_to}
use Rattle.overflow.specs.Reading.{overflow_in_store}
use Rattle.overflow.specs.Records.{records_for}
use Rattle.overflow.proofs.Costs.{tree_read, pairs_read, same_read}
use Rattle.overflow.proofs.Cutting.{in_use_used}
use Rattle.overflow.proofs.Gathering.{values_read, records_read}
use Rattle.overflow.proofs.Pairs.{of_others_in}
use Rattle.overflow.proofs.Stored.{blocks_used, changes_room, all_takes, all_edits, all_light, changes_fit, changes_are_made}
use Rattle.overflow.proofs.Whole.{read_is_all, stored_gives, stored_goes_on}
use Rattle.overflow.proofs.storing.store_fork.Goals as goal

pub split-requires : goal.split-requires
split-requires g c = omega (arith, c.requires.few, blocks_used c.args.new.now, ap (λ l. length (blocks_of l)) (c.as_slice.ensures ∙ c.in_ok-used.ensures))

pub make_changes-requires-clause-tree : goal.make_changes-requires-clause-tree
make_changes-requires-clause-tree g c tells_now =
    let s = g.N.NodeStore.state c.args.store.now in
    let now = g.N.NodeStore.state c.read_records.new.store in
    let tells : IsTrue s.tells = subst IsTrue c.read_records.ensures.reads.1.same.tells tells_now in
    tree_read s now c.read_records.ensures.reads tells (g.met.N.NodeStore.well_formed c.args.store.now).total (c.requires.tree tells)

pub make_changes-requires-clause-values : goal.make_changes-requires-clause-values
make_changes-requires-clause-values g c tells_now =
    let s = g.N.NodeStore.state c.args.store.now in
    let now = g.N.NodeStore.state c.read_records.new.store in
    let tells : IsTrue s.tells = subst IsTrue c.read_records.ensures.reads.1.same.tells tells_now in
    values_read s now c.read_records.ensures.reads tells (g.met.N.NodeStore.well_formed c.args.store.now).total (c.requires.tree tells) (c.requires.values tells)

pub make_changes-requires-clause-fits : goal.make_changes-requires-clause-fits
make_changes-requires-clause-fits g c tells_now =
    let s = g.N.NodeStore.state c.args.store.now in
    let now = g.N.NodeStore.state c.read_records.new.store in
    let tells : IsTrue s.tells = subst IsTrue c.read_records.ensures.reads.1.same.tells tells_now in
    changes_fit s now c.args.id c.args.fork c.args.new.now c.in_ok-records.records.items c.deref-3.result.now
    (c.deref-3.ensures.value ∙ c.in_ok-changes.ensures ∙ (λ i. changes_to (c.deref.ensures.value i) ((c.deref-2.ensures.value ∙ c.in_ok-wanted.ensures ∙ ap records_for (c.as_slice.ensures ∙ c.in_ok-used.ensures)) i)))
    (λ tells. read_is_all c.args.id c.args.fork c.count_most-most.result c.shape-leaf_records.result.leaf_records (pairs_of s) c.args.old.now c.in_ok-records.records.items c.requires.file (c.requires.holds tells)
    (c.count_most-most.ensures ∙ ap (λ l. min (length l / 8) c.shape-leaf_records.result.leaf_records) c.as_slice-2.ensures)
    (omega (arith, (c.requires.tree tells).header.leaf_records, ap (λ h. h.leaf_records) c.shape-leaf_records.ensures)) (c.in_ok-records.ensures.records tells))
    c.read_records.ensures.reads c.read_records.ensures.cause.later
    (c.requires.tree tells) tells (records_read c.args.id c.args.fork s now c.read_records.ensures.reads tells (g.met.N.NodeStore.well_formed c.args.store.now).total (c.requires.tree tells))

pub make_changes-requires-clause-room : goal.make_changes-requires-clause-room
make_changes-requires-clause-room g c =
    let s = g.N.NodeStore.state c.args.store.now in
    let now = g.N.NodeStore.state c.read_records.new.store in
    changes_room s now c.args.id c.args.fork c.args.new.now c.in_ok-records.records.items c.deref-3.result.now
    (c.deref-3.ensures.value ∙ c.in_ok-changes.ensures ∙ (λ i. changes_to (c.deref.ensures.value i) ((c.deref-2.ensures.value ∙ c.in_ok-wanted.ensures ∙ ap records_for (c.as_slice.ensures ∙ c.in_ok-used.ensures)) i)))
    (λ tells. read_is_all c.args.id c.args.fork c.count_most-most.result c.shape-leaf_records.result.leaf_records (pairs_of s) c.args.old.now c.in_ok-records.records.items c.requires.file (c.requires.holds tells)
    (c.count_most-most.ensures ∙ ap (λ l. min (length l / 8) c.shape-leaf_records.result.leaf_records) c.as_slice-2.ensures)
    (omega (arith, (c.requires.tree tells).header.leaf_records, ap (λ h. h.leaf_records) c.shape-leaf_records.ensures)) (c.in_ok-records.ensures.records tells))
    c.read_records.ensures.reads c.read_records.ensures.cause.later c.requires.room

pub returns-in_err-make_changes-clause-takes : goal.returns-in_err-make_changes-clause-takes
returns-in_err-make_changes-clause-takes g c =
    let s = g.N.NodeStore.state c.args.store.now in
    let now = g.N.NodeStore.state c.read_records.new.store in
    all_takes s now c.args.id c.args.fork c.args.new.now c.in_ok-records.records.items c.deref-3.result.now
    (c.deref-3.ensures.value ∙ c.in_ok-changes.ensures ∙ (λ i. changes_to (c.deref.ensures.value i) ((c.deref-2.ensures.value ∙ c.in_ok-wanted.ensures ∙ ap records_for (c.as_slice.ensures ∙ c.in_ok-used.ensures)) i)))
    (λ tells. read_is_all c.args.id c.args.fork c.count_most-most.result c.shape-leaf_records.result.leaf_records (pairs_of s) c.args.old.now c.in_ok-records.records.items c.requires.file (c.requires.holds tells)
    (c.count_most-most.ensures ∙ ap (λ l. min (length l / 8) c.shape-leaf_records.result.leaf_records) c.as_slice-2.ensures)
    (omega (arith, (c.requires.tree tells).header.leaf_records, ap (λ h. h.leaf_records) c.shape-leaf_records.ensures)) (c.in_ok-records.ensures.records tells))
    c.read_records.ensures.reads c.read_records.ensures.cause.later (g.N.NodeStore.state c.make_changes.new.store) c.make_changes.ensures.takes

pub returns-in_err-make_changes-clause-light : goal.returns-in_err-make_changes-clause-light
returns-in_err-make_changes-clause-light g c tells light =
    let s = g.N.NodeStore.state c.args.store.now in
    let now = g.N.NodeStore.state c.read_records.new.store in
    all_light s now c.args.id c.args.fork c.args.new.now c.in_ok-records.records.items c.deref-3.result.now
    (c.deref-3.ensures.value ∙ c.in_ok-changes.ensures ∙ (λ i. changes_to (c.deref.ensures.value i) ((c.deref-2.ensures.value ∙ c.in_ok-wanted.ensures ∙ ap records_for (c.as_slice.ensures ∙ c.in_ok-used.ensures)) i)))
    (λ tells. read_is_all c.args.id c.args.fork c.count_most-most.result c.shape-leaf_records.result.leaf_records (pairs_of s) c.args.old.now c.in_ok-records.records.items c.requires.file (c.requires.holds tells)
    (c.count_most-most.ensures ∙ ap (λ l. min (length l / 8) c.shape-leaf_records.result.leaf_records) c.as_slice-2.ensures)
    (omega (arith, (c.requires.tree tells).header.leaf_records, ap (λ h. h.leaf_records) c.shape-leaf_records.ensures)) (c.in_ok-records.ensures.records tells))
    c.read_records.ensures.reads c.read_records.ensures.cause.later (g.N.NodeStore.state c.make_changes.new.store) tells light c.make_changes.ensures.light

pub returns-in_err-make_changes-clause-same : goal.returns-in_err-make_changes-clause-same
returns-in_err-make_changes-clause-same g c =
    let s = g.N.NodeStore.state c.args.store.now in
    let now = g.N.NodeStore.state c.read_records.new.store in
    same_store_both (same_read s now c.read_records.ensures.reads) c.make_changes.ensures.same

pub returns-clause-records : goal.returns-clause-records
returns-clause-records g c tells =
    let s = g.N.NodeStore.state c.args.store.now in
    let now = g.N.NodeStore.state c.read_records.new.store in
    let tells_now : IsTrue now.tells = subst IsTrue (sym c.read_records.ensures.reads.1.same.tells) tells in
    changes_are_made s now c.args.id c.args.fork c.args.new.now c.in_ok-records.records.items c.deref-3.result.now
    (c.deref-3.ensures.value ∙ c.in_ok-changes.ensures ∙ (λ i. changes_to (c.deref.ensures.value i) ((c.deref-2.ensures.value ∙ c.in_ok-wanted.ensures ∙ ap records_for (c.as_slice.ensures ∙ c.in_ok-used.ensures)) i)))
    (λ tells. read_is_all c.args.id c.args.fork c.count_most-most.result c.shape-leaf_records.result.leaf_records (pairs_of s) c.args.old.now c.in_ok-records.records.items c.requires.file (c.requires.holds tells)
    (c.count_most-most.ensures ∙ ap (λ l. min (length l / 8) c.shape-leaf_records.result.leaf_records) c.as_slice-2.ensures)
    (omega (arith, (c.requires.tree tells).header.leaf_records, ap (λ h. h.leaf_records) c.shape-leaf_records.ensures)) (c.in_ok-records.ensures.records tells))
    c.read_records.ensures.reads c.read_records.ensures.cause.later
    (c.requires.tree tells) tells (records_read c.args.id c.args.fork s now c.read_records.ensures.reads tells (g.met.N.NodeStore.well_formed c.args.store.now).total (c.requires.tree tells))
    (g.N.NodeStore.state c.make_changes.new.store) (c.in_ok-make_changes.ensures.records tells_now)

pub returns-clause-extents : goal.returns-clause-extents
returns-clause-extents g c tells =
    let s = g.N.NodeStore.state c.args.store.now in
    let now = g.N.NodeStore.state c.read_records.new.store in
    let tells_now : IsTrue now.tells = subst IsTrue (sym c.read_records.ensures.reads.1.same.tells) tells in
    stored_gives (overflow_in_store (g.N.NodeStore.state c.make_changes.new.store)) c.args.id c.args.fork (in_use c.args.new.now) c.requires.file (in_use_used c.args.new.now)
    (changes_are_made s now c.args.id c.args.fork c.args.new.now c.in_ok-records.records.items c.deref-3.result.now
    (c.deref-3.ensures.value ∙ c.in_ok-changes.ensures ∙ (λ i. changes_to (c.deref.ensures.value i) ((c.deref-2.ensures.value ∙ c.in_ok-wanted.ensures ∙ ap records_for (c.as_slice.ensures ∙ c.in_ok-used.ensures)) i)))
    (λ tells. read_is_all c.args.id c.args.fork c.count_most-most.result c.shape-leaf_records.result.leaf_records (pairs_of s) c.args.old.now c.in_ok-records.records.items c.requires.file (c.requires.holds tells)
    (c.count_most-most.ensures ∙ ap (λ l. min (length l / 8) c.shape-leaf_records.result.leaf_records) c.as_slice-2.ensures)
    (omega (arith, (c.requires.tree tells).header.leaf_records, ap (λ h. h.leaf_records) c.shape-leaf_records.ensures)) (c.in_ok-records.ensures.records tells))
    c.read_records.ensures.reads c.read_records.ensures.cause.later
    (c.requires.tree tells) tells (records_read c.args.id c.args.fork s now c.read_records.ensures.reads tells (g.met.N.NodeStore.well_formed c.args.store.now).total (c.requires.tree tells))
    (g.N.NodeStore.state c.make_changes.new.store) (c.in_ok-make_changes.ensures.records tells_now))

pub returns-clause-goes_on : goal.returns-clause-goes_on
returns-clause-goes_on g c tells =
    let s = g.N.NodeStore.state c.args.store.now in
    let now = g.N.NodeStore.state c.read_records.new.store in
    let tells_now : IsTrue now.tells = subst IsTrue (sym c.read_records.ensures.reads.1.same.tells) tells in
    stored_goes_on (overflow_in_store (g.N.NodeStore.state c.make_changes.new.store)) c.args.id c.args.fork (in_use c.args.new.now) c.requires.file (in_use_used c.args.new.now)
    (changes_are_made s now c.args.id c.args.fork c.args.new.now c.in_ok-records.records.items c.deref-3.result.now
    (c.deref-3.ensures.value ∙ c.in_ok-changes.ensures ∙ (λ i. changes_to (c.deref.ensures.value i) ((c.deref-2.ensures.value ∙ c.in_ok-wanted.ensures ∙ ap records_for (c.as_slice.ensures ∙ c.in_ok-used.ensures)) i)))
    (λ tells. read_is_all c.args.id c.args.fork c.count_most-most.result c.shape-leaf_records.result.leaf_records (pairs_of s) c.args.old.now c.in_ok-records.records.items c.requires.file (c.requires.holds tells)
    (c.count_most-most.ensures ∙ ap (λ l. min (length l / 8) c.shape-leaf_records.result.leaf_records) c.as_slice-2.ensures)
    (omega (arith, (c.requires.tree tells).header.leaf_records, ap (λ h. h.leaf_records) c.shape-leaf_records.ensures)) (c.in_ok-records.ensures.records tells))
    c.read_records.ensures.reads c.read_records.ensures.cause.later
    (c.requires.tree tells) tells (records_read c.args.id c.args.fork s now c.read_records.ensures.reads tells (g.met.N.NodeStore.well_formed c.args.store.now).total (c.requires.tree tells))
    (g.N.NodeStore.state c.make_changes.new.store) (c.in_ok-make_changes.ensures.records tells_now))

pub returns-clause-others : goal.returns-clause-others
returns-clause-others g c tells =
    let s = g.N.NodeStore.state c.args.store.now in
    let now = g.N.NodeStore.state c.read_records.new.store in
    let tells_now : IsTrue now.tells = subst IsTrue (sym c.read_records.ensures.reads.1.same.tells) tells in
    c.in_ok-make_changes.ensures.others tells_now ∙ ap (of_others_in c.args.id c.args.fork) (pairs_read s now c.read_records.ensures.reads tells (g.met.N.NodeStore.well_formed c.args.store.now).total (c.requires.tree tells))

pub returns-clause-values : goal.returns-clause-values
returns-clause-values g c tells =
    let s = g.N.NodeStore.state c.args.store.now in
    let now = g.N.NodeStore.state c.read_records.new.store in
    let tells_now : IsTrue now.tells = subst IsTrue (sym c.read_records.ensures.reads.1.same.tells) tells in
    c.in_ok-make_changes.ensures.values tells_now

pub returns-clause-header : goal.returns-clause-header
returns-clause-header g c tells says =
    let s = g.N.NodeStore.state c.args.store.now in
    let now = g.N.NodeStore.state c.read_records.new.store in
    let tells_now : IsTrue now.tells = subst IsTrue (sym c.read_records.ensures.reads.1.same.tells) tells in
    c.in_ok-make_changes.ensures.header tells_now ((c.read_records.ensures.reads.1.tree tells).header ∙ says ∙ sym c.read_records.ensures.reads.1.shape)

pub returns-clause-edits : goal.returns-clause-edits
returns-clause-edits g c =
    let s = g.N.NodeStore.state c.args.store.now in
    let now = g.N.NodeStore.state c.read_records.new.store in
    all_edits s now c.args.id c.args.fork c.args.new.now c.in_ok-records.records.items c.deref-3.result.now
    (c.deref-3.ensures.value ∙ c.in_ok-changes.ensures ∙ (λ i. changes_to (c.deref.ensures.value i) ((c.deref-2.ensures.value ∙ c.in_ok-wanted.ensures ∙ ap records_for (c.as_slice.ensures ∙ c.in_ok-used.ensures)) i)))
    (λ tells. read_is_all c.args.id c.args.fork c.count_most-most.result c.shape-leaf_records.result.leaf_records (pairs_of s) c.args.old.now c.in_ok-records.records.items c.requires.file (c.requires.holds tells)
    (c.count_most-most.ensures ∙ ap (λ l. min (length l / 8) c.shape-leaf_records.result.leaf_records) c.as_slice-2.ensures)
    (omega (arith, (c.requires.tree tells).header.leaf_records, ap (λ h. h.leaf_records) c.shape-leaf_records.ensures)) (c.in_ok-records.ensures.records tells))
    c.read_records.ensures.reads c.read_records.ensures.cause.later (g.N.NodeStore.state c.make_changes.new.store) c.in_ok-make_changes.ensures.edits

pub returns-clause-takes : goal.returns-clause-takes
returns-clause-takes g c =
    let s = g.N.NodeStore.state c.args.store.now in
    let now = g.N.NodeStore.state c.read_records.new.store in
    all_takes s now c.args.id c.args.fork c.args.new.now c.in_ok-records.records.items c.deref-3.result.now
    (c.deref-3.ensures.value ∙ c.in_ok-changes.ensures ∙ (λ i. changes_to (c.deref.ensures.value i) ((c.deref-2.ensures.value ∙ c.in_ok-wanted.ensures ∙ ap records_for (c.as_slice.ensures ∙ c.in_ok-used.ensures)) i)))
    (λ tells. read_is_all c.args.id c.args.fork c.count_most-most.result c.shape-leaf_records.result.leaf_records (pairs_of s) c.args.old.now c.in_ok-records.records.items c.requires.file (c.requires.holds tells)
    (c.count_most-most.ensures ∙ ap (λ l. min (length l / 8) c.shape-leaf_records.result.leaf_records) c.as_slice-2.ensures)
    (omega (arith, (c.requires.tree tells).header.leaf_records, ap (λ h. h.leaf_records) c.shape-leaf_records.ensures)) (c.in_ok-records.ensures.records tells))
    c.read_records.ensures.reads c.read_records.ensures.cause.later (g.N.NodeStore.state c.make_changes.new.store) c.make_changes.ensures.takes

pub returns-clause-light : goal.returns-clause-light
returns-clause-light g c tells light =
    let s = g.N.NodeStore.state c.args.store.now in
    let now = g.N.NodeStore.state c.read_records.new.store in
    all_light s now c.args.id c.args.fork c.args.new.now c.in_ok-records.records.items c.deref-3.result.now
    (c.deref-3.ensures.value ∙ c.in_ok-changes.ensures ∙ (λ i. changes_to (c.deref.ensures.value i) ((c.deref-2.ensures.value ∙ c.in_ok-wanted.ensures ∙ ap records_for (c.as_slice.ensures ∙ c.in_ok-used.ensures)) i)))
    (λ tells. read_is_all c.args.id c.args.fork c.count_most-most.result c.shape-leaf_records.result.leaf_records (pairs_of s) c.args.old.now c.in_ok-records.records.items c.requires.file (c.requires.holds tells)
    (c.count_most-most.ensures ∙ ap (λ l. min (length l / 8) c.shape-leaf_records.result.leaf_records) c.as_slice-2.ensures)
    (omega (arith, (c.requires.tree tells).header.leaf_records, ap (λ h. h.leaf_records) c.shape-leaf_records.ensures)) (c.in_ok-records.ensures.records tells))
    c.read_records.ensures.reads c.read_records.ensures.cause.later (g.N.NodeStore.state c.make_changes.new.store) tells light c.make_changes.ensures.light

pub returns-clause-same : goal.returns-clause-same
returns-clause-same g c =
    let s = g.N.NodeStore.state c.args.store.now in
    let now = g.N.NodeStore.state c.read_records.new.store in
    same_store_both (same_read s now c.read_records.ensures.reads) c.make_changes.ensures.same

pub returns-clause-below : goal.returns-clause-below
returns-clause-below g c =
    let s = g.N.NodeStore.state c.args.store.now in
    let now = g.N.NodeStore.state c.read_records.new.store in
    g.met.N.NodeStore.follows_trans c.args.store.now c.read_records.new.store c.make_changes.new.store c.read_records.ensures.below c.make_changes.ensures.below
