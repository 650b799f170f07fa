use Rattle.std.proofs.Common.{◌<◌, ◌-◌, ◌∷◌, [], ◌++◌, length, map, take, ap, sym, ◌∙◌, subst, arith}
use Rattle.std.specs.Prelude.{IsTrue}
use Rattle.std.proofs.lemmas.List.{length-append}
use Rattle.btree_edit.specs.Desk.{IsDeskOf}
use Rattle.btree_edit.proofs.Repeated.{reads_none}
use Rattle.hfs_model.specs.Sorted.{kept}
use Rattle.std.specs.List.{find}
use Rattle.overflow.specs.Reading.{is_behind, fork_records}
use Rattle.overflow.specs.Records.{under}
use Rattle.overflow.proofs.Costs.{tree_read}
use Rattle.overflow.proofs.Gathering.{reads_then, values_read, records_read, tree_rises, none_if_not, read_end, read_full, read_one}
use Rattle.overflow.proofs.loading.read_records.Goals as goal

pub loop-init : goal.loop-init
loop-init g c = record {
  desk = c.requires.desk;
  reads = (0, reads_none (g.N.NodeStore.state c.args.store.now));
  few = omega (arith, ap length c.new-records.ensures.items);
  found = λ tells.
      let records = kept (is_behind 0) (fork_records c.args.id c.args.fork (g.N.NodeStore.state c.args.store.now)) in
      ap (λ l. map (under c.args.id c.args.fork) l ++ take (c.args.most - 0) records) c.new-records.ensures.items ∙ ap (λ n. take n records) {x = c.args.most - 0} {y = c.args.most} (omega arith);
  later = omega arith;
  below = g.met.N.NodeStore.follows_refl c.args.store.now;
}

pub next_record-requires-clause-tree : goal.next_record-requires-clause-tree
next_record-requires-clause-tree g c tells_now =
    let s = g.N.NodeStore.state c.args.store.now in
    let now = g.N.NodeStore.state c.loop.store in
    let tells : IsTrue s.tells = subst IsTrue c.loop.invariant.reads.1.same.tells tells_now in
    tree_read s now c.loop.invariant.reads tells (g.met.N.NodeStore.well_formed c.args.store.now).total (c.requires.tree tells)

pub next_record-requires-clause-values : goal.next_record-requires-clause-values
next_record-requires-clause-values g c tells_now =
    let s = g.N.NodeStore.state c.args.store.now in
    let now = g.N.NodeStore.state c.loop.store in
    let tells : IsTrue s.tells = subst IsTrue c.loop.invariant.reads.1.same.tells tells_now in
    values_read s now c.loop.invariant.reads tells (g.met.N.NodeStore.well_formed c.args.store.now).total (c.requires.tree tells) (c.requires.values tells)

pub returns-in_err-one-clause-reads : goal.returns-in_err-one-clause-reads
returns-in_err-one-clause-reads g c = reads_then (g.N.NodeStore.state c.args.store.now) (g.N.NodeStore.state c.loop.store) (g.N.NodeStore.state c.next_record.new.store) _ c.loop.invariant.reads c.next_record.ensures.reads

pub returns-in_default-clause-reads : goal.returns-in_default-clause-reads
returns-in_default-clause-reads g c = reads_then (g.N.NodeStore.state c.args.store.now) (g.N.NodeStore.state c.loop.store) (g.N.NodeStore.state c.next_record.new.store) _ c.loop.invariant.reads c.next_record.ensures.reads

pub returns-in_err-add_record-clause-reads : goal.returns-in_err-add_record-clause-reads
returns-in_err-add_record-clause-reads g c = reads_then (g.N.NodeStore.state c.args.store.now) (g.N.NodeStore.state c.loop.store) (g.N.NodeStore.state c.next_record.new.store) _ c.loop.invariant.reads c.next_record.ensures.reads

pub returns-in_default-clause-few : goal.returns-in_default-clause-few
returns-in_default-clause-few g c = omega (arith, c.loop.invariant.few, c.loop.auto.counter-end)

pub returns-in_default-clause-records : goal.returns-in_default-clause-records
returns-in_default-clause-records g c tells =
    let s = g.N.NodeStore.state c.args.store.now in
    let now = g.N.NodeStore.state c.loop.store in
    let tells_now : IsTrue now.tells = subst IsTrue (sym c.loop.invariant.reads.1.same.tells) tells in
    let same = records_read c.args.id c.args.fork s now c.loop.invariant.reads tells (g.met.N.NodeStore.well_formed c.args.store.now).total (c.requires.tree tells) in
    read_end c.args.id c.args.fork (fork_records c.args.id c.args.fork s) (c.args.most - c.loop.counter) c.loop.start c.loop.records.items (take c.args.most (kept (is_behind 0) (fork_records c.args.id c.args.fork s)))
    c.in_ok-one.field-0 (none_if_not c.in_ok-one.field-0 c.in_default.not-Some) (c.in_ok-one.ensures.found tells_now ∙ ap (find (is_behind c.loop.start)) same) (c.loop.invariant.found tells)

pub loop-preserved : goal.loop-preserved
loop-preserved g c =
    let s = g.N.NodeStore.state c.args.store.now in
    let now = g.N.NodeStore.state c.loop.store in
    let next = g.N.NodeStore.state c.next_record.new.store in
    let inside : c.loop.counter < c.args.most = omega (arith, c.loop-test.true) in
    record {
      desk = subst (λ n. IsDeskOf n c.next_record.new.desk) c.loop.invariant.reads.1.same.node_size c.next_record.ensures.desk;
      reads = reads_then s now next _ c.loop.invariant.reads c.next_record.ensures.reads;
      few = omega (arith, c.loop.invariant.few, ap length c.in_ok-add_record.ensures, length-append c.loop.records.items (c.in-Some.one ∷ []));
      found = λ tells.
          let tells_now : IsTrue now.tells = subst IsTrue (sym c.loop.invariant.reads.1.same.tells) tells in
          let same = records_read c.args.id c.args.fork s now c.loop.invariant.reads tells (g.met.N.NodeStore.well_formed c.args.store.now).total (c.requires.tree tells) in
          read_one c.args.id c.args.fork (fork_records c.args.id c.args.fork s) c.args.most c.loop.counter c.loop.start c.loop.records.items c.add_record.new.records.items c.in-Some.one
          (take c.args.most (kept (is_behind 0) (fork_records c.args.id c.args.fork s))) c.in_ok-one.field-0 (tree_rises c.args.id c.args.fork s (c.requires.tree tells)) inside c.in-Some.is
          (c.in_ok-one.ensures.found tells_now ∙ ap (find (is_behind c.loop.start)) same) c.in_ok-add_record.ensures (c.loop.invariant.found tells);
      later = omega (arith, c.loop.invariant.later, c.next_record.ensures.cause.later);
      below = g.met.N.NodeStore.follows_trans c.args.store.now c.loop.store c.next_record.new.store c.loop.invariant.below c.next_record.ensures.below;
    }

pub returns-clause-records : goal.returns-clause-records
returns-clause-records g c tells =
    let s = g.N.NodeStore.state c.args.store.now in
    read_full c.args.id c.args.fork (fork_records c.args.id c.args.fork s) c.args.most c.loop.counter c.loop.start c.loop.records.items (take c.args.most (kept (is_behind 0) (fork_records c.args.id c.args.fork s)))
    (omega (arith, c.loop-test.false)) (c.loop.invariant.found tells)

pub returns-clause-few : goal.returns-clause-few
returns-clause-few g c = omega (arith, c.loop.invariant.few, c.loop.auto.counter-end)
