use Rattle.std.proofs.Common.{List, ◌&&◌, ◌∙◌, ◌<◌, ap, arith, inl, refl, length}
use Rattle.std.specs.Prelude.{IsTrue}
use Rattle.std.proofs.lemmas.Bool.{and_from}
use Rattle.jnl_store.specs.Journal.{are_open}
use Rattle.jnl_format.specs.declared.blocks.Home.{Home}
use Rattle.sector_disk.specs.Disk.{State, content}
use Rattle.jnl_format.specs.Recovery.{homes_of, replayed}
use Rattle.jnl_format.specs.Named.{IsNamed}
use Rattle.jnl_replay.specs.Plan.{journal_of}
use Rattle.jnl_store.specs.Batch.{names}
use Rattle.jnl_store.specs.Store.{KeepsOn, content_over, durable_of, is_kept}
use Rattle.jnl_store.specs.declared.store.Store.{Store}
use Rattle.jnl_store.proofs.Slots.{keeps_some, length-over, put_elsewhere, put_here}
use Rattle.jnl_store.specs.InUse.{keeps_lists}
use Rattle.jnl_store.proofs.SpacedPuts.{iff_same, kept_put, live_put, room_put, tells_put}
use Rattle.jnl_store.proofs.space_calls.SpaceSectorSpace.put.Goals as goal

pub invariant_of-self : goal.invariant_of-self
unfolding durable_of is_kept
invariant_of-self g c =
    let store = c.args.self.now.store.now in
    let disk = g.D.SectorDisk.state c.args.self.now.disk.now in
    let is = g.met.D.SectorDisk.well_formed c.args.self.now.disk.now in
    let old = content_over store (content disk) in
    let after = c.put.ensures.content (durable_of store (content disk)) in
    record {
      kept = λ none tells. let keeps = c.args.self.now.kept none tells in
          let open_at = c.requires.open (and_from disk.tells (keeps_lists store.plan disk.candidates store.batch.live && are_open store.plan disk.sectors store.batch.all && are_open store.plan disk.sectors store.batch.kept) tells keeps.ring.kept) in
          let inside : c.args.at < length old = omega (arith, length-over store disk is tells, c.requires.inside) in
          keeps_some store _ disk.sectors disk.candidates disk.candidates c.args.at _
          (record {
            kept = ap (λ (l : List Home). keeps_lists store.plan disk.candidates l && are_open store.plan disk.sectors c.put.new.self.all && are_open store.plan disk.sectors c.put.new.self.kept) c.put.ensures.live
                ∙ kept_put store.plan (keeps_lists store.plan disk.candidates store.batch.live) disk.sectors c.args.at store.batch.all c.put.new.self.all store.batch.kept c.put.new.self.kept c.put.ensures.names c.put.ensures.kept c.requires.inside open_at keeps.ring.kept;
            settled = keeps.ring.settled;
          })
          c.set.ensures.kept keeps.cached (put_here old _ c.args.at c.args.from.now after inside) (λ s apart. put_elsewhere old _ c.args.at s c.args.from.now (inl after) apart);
    }

pub returns-clause-puts : goal.returns-clause-puts
unfolding durable_of
returns-clause-puts g c tells =
    let store = c.args.self.now.store.now in
    let disk = g.D.SectorDisk.state c.args.self.now.disk.now in
    let j = journal_of store.plan in
    record {
      content = c.put.ensures.content (replayed j (content disk));
      durable = refl;
      spilled = λ s. iff_same _;
      live = λ s. live_put (names c.put.new.self.all s) (names store.batch.all s) (IsNamed (homes_of j (content disk)) s) s c.args.at (c.put.ensures.names s);
      closed = λ s. iff_same _;
    }

pub returns-clause-room : goal.returns-clause-room
returns-clause-room g c =
    let store = c.args.self.now.store.now in
    record {
      put = c.put.ensures.names;
      spare = room_put (names store.batch.all c.args.at) store.batch.room c.put.new.self.room (length store.batch.all) (length c.put.new.self.all) c.put.ensures.room c.put.ensures.count;
    }

pub returns-clause-same : goal.returns-clause-same
unfolding is_kept
returns-clause-same g c =
    let store = c.args.self.now.store.now in
    let disk = g.D.SectorDisk.state c.args.self.now.disk.now in
    record {
      tells =
          ap (λ (l : List Home). disk.tells && (keeps_lists store.plan disk.candidates l && are_open store.plan disk.sectors c.put.new.self.all && are_open store.plan disk.sectors c.put.new.self.kept)) c.put.ensures.live
          ∙ tells_put store.plan disk.tells (keeps_lists store.plan disk.candidates store.batch.live) disk.sectors c.args.at store.batch.all c.put.new.self.all store.batch.kept c.put.new.self.kept c.put.ensures.names c.put.ensures.kept c.requires.inside c.requires.open;
      names = refl;
      tells_left = refl;
      told = refl;
      sink_faults = refl;
      barriers = refl;
      sectors = refl;
    }

pub returns-clause-keeps : goal.returns-clause-keeps
unfolding durable_of is_kept
returns-clause-keeps g c keeps open_at =
    let store = c.args.self.now.store.now in
    let disk = g.D.SectorDisk.state c.args.self.now.disk.now in
    let is = g.met.D.SectorDisk.well_formed c.args.self.now.disk.now in
    let old = content_over store (content disk) in
    let after = c.put.ensures.content (durable_of store (content disk)) in
    let inside : c.args.at < length old = omega (arith, length-over store disk is keeps.0, c.requires.inside) in (
      keeps.0,
      keeps_some store _ disk.sectors disk.candidates disk.candidates c.args.at _
          (record {
            kept = ap (λ (l : List Home). keeps_lists store.plan disk.candidates l && are_open store.plan disk.sectors c.put.new.self.all && are_open store.plan disk.sectors c.put.new.self.kept) c.put.ensures.live
                ∙ kept_put store.plan (keeps_lists store.plan disk.candidates store.batch.live) disk.sectors c.args.at store.batch.all c.put.new.self.all store.batch.kept c.put.new.self.kept c.put.ensures.names c.put.ensures.kept c.requires.inside open_at keeps.1.ring.kept;
            settled = keeps.1.ring.settled;
          })
          c.set.ensures.kept keeps.1.cached (put_here old _ c.args.at c.args.from.now after inside) (λ s apart. put_elsewhere old _ c.args.at s c.args.from.now (inl after) apart),
    )

-- what tells a space
tells_of : (store : Store) (disk : State) → KeepsOn store disk → IsTrue (disk.tells && is_kept store disk.sectors disk.candidates)
tells_of store disk keeps = and_from disk.tells (is_kept store disk.sectors disk.candidates) keeps.0 keeps.1.ring.kept

pub returns-clause-below : goal.returns-clause-below
returns-clause-below g c =
    let store = c.args.self.now.store.now in
    let disk = g.D.SectorDisk.state c.args.self.now.disk.now in
    record {
      plan = refl;
      live = c.put.ensures.live;
      kept = c.put.ensures.kept;
      room = c.put.ensures.room;
      slots = c.set.ensures.others.0;
      same = record { tells = refl; tells_left = refl; names = refl; sectors = refl };
      sink = record { told = refl; faults = refl };
      barriers = refl;
      keeps = λ keeps. returns-clause-keeps g c keeps (c.requires.open (tells_of store disk keeps));
      later = omega arith;
      faults = inl refl;
    }
