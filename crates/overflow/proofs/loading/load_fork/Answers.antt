use Rattle.std.proofs.Common.{◌≢◌, ◌≤◌, ◌++◌, length, ap, sym, ◌∙◌, arith}
use Rattle.std.proofs.lemmas.List.{append-nil}
use Rattle.btree_node.specs.Tree.{pairs_of}
use Rattle.hfs_volume.specs.Forks.{extents_of, extents_id, in_use}
use Rattle.overflow.specs.Reading.{overflow_in_store, used_in}
use Rattle.overflow.proofs.Whole.{own_record_alone, room_is_alone, loaded_is}
use Rattle.overflow.proofs.loading.load_fork.Goals as goal

pub returns-then-id-eq-EXTENTS_FILE-clause-found : goal.returns-then-id-eq-EXTENTS_FILE-clause-found
returns-then-id-eq-EXTENTS_FILE-clause-found g c tells =
    let overflow = overflow_in_store (g.N.NodeStore.state c.args.store.now) in
    let used = in_use c.args.rec.now.extents.extents in
    c.in_ok-push_used.ensures ∙ ap (λ l. l ++ used) c.new-list.ensures
    ∙ sym (ap (λ n. extents_of overflow n c.args.fork c.args.rec.now) {x = c.args.id} {y = extents_id} c.if-id-eq-EXTENTS_FILE.true ∙ own_record_alone overflow c.args.fork c.args.rec.now ∙ append-nil used)

pub returns-then-not-has_no_room-clause-found : goal.returns-then-not-has_no_room-clause-found
returns-then-not-has_no_room-clause-found g c tells =
    let overflow = overflow_in_store (g.N.NodeStore.state c.args.store.now) in
    let used = in_use c.args.rec.now.extents.extents in
    let other : c.args.id ≢ extents_id = c.if-id-eq-EXTENTS_FILE.false in
    c.in_ok-push_used.ensures ∙ ap (λ l. l ++ used) c.new-list.ensures
    ∙ sym (room_is_alone overflow c.args.id c.args.fork c.args.rec.now other (c.requires.goes_on tells) (sym c.has_no_room.ensures.full ∙ c.if-not-has_no_room.true) ∙ append-nil used)

pub returns-clause-found : goal.returns-clause-found
returns-clause-found g c tells =
    let s = g.N.NodeStore.state c.args.store.now in
    let used = in_use c.args.rec.now.extents.extents in
    let other : c.args.id ≢ extents_id = c.if-id-eq-EXTENTS_FILE.false in
    let enough : length (pairs_of s) ≤ c.shape-most.result.leaf_records = omega (arith, (c.requires.tree tells).header.leaf_records, ap (λ h. h.leaf_records) c.shape-most.ensures) in
    c.in_ok-push_records.ensures ∙ ap (λ l. c.push_used.new.list ++ used_in l) c.deref.ensures.value
    ∙ ap (λ l. l ++ used_in c.in_ok-records.records.items) (c.in_ok-push_used.ensures ∙ ap (λ l. l ++ used) c.new-list.ensures)
    ∙ loaded_is c.args.id c.args.fork c.shape-most.result.leaf_records (pairs_of s) c.args.rec.now c.in_ok-records.records.items other (c.requires.goes_on tells) (omega (arith, c.has_no_room.ensures.eight)) enough (c.in_ok-records.ensures.records tells)
