use Rattle.std.proofs.Common.{refl, sym, ◌∙◌, ap, inl, inr}
use Rattle.std.proofs.lemmas.Bool.{and_from}
use Rattle.sector_disk.specs.Lists.{Content, sector}
use Rattle.jnl_store.specs.Batch.{Staged}
use Rattle.jnl_store.specs.Store.{durable_of, is_kept}
use Rattle.jnl_store.proofs.Slots.{cached_still, keeps_some}
use Rattle.jnl_store.proofs.space_calls.SpaceSectorView.get.Goals as goal

pub invariant_of-self-2 : goal.invariant_of-self-2
unfolding durable_of is_kept
invariant_of-self-2 g c =
    let store = c.args.self.now.store.now in
    let mid = c.fetch.new.self.store.now in
    let s0 = g.D.SectorDisk.state c.args.self.now.disk.now in
    let s1 = g.D.SectorDisk.state c.fetch.new.self.disk.now in
    record {
      kept = λ none tells. let keeps = c.fetch.new.self.kept none tells in
          let told = sym c.fetch.ensures.same.tells ∙ and_from s1.tells (is_kept mid s1.sectors s1.candidates) tells keeps.ring.kept in
          let same = (c.fetch.ensures.sectors told).content in
          keeps_some mid _ s1.sectors s1.candidates s1.candidates c.args.at _ (record { kept = keeps.ring.kept; settled = keeps.ring.settled }) c.set.ensures.kept keeps.cached
          (ap (λ (d : Content). sector d c.args.at) same ∙ sym (c.in_ok-fetch.ensures.value told)) (λ s apart. refl);
    }

pub returns-clause-sectors : goal.returns-clause-sectors
unfolding durable_of is_kept
returns-clause-sectors g c tells = c.fetch.ensures.sectors tells

pub returns-clause-time : goal.returns-clause-time
unfolding durable_of is_kept
returns-clause-time g c tells = c.fetch.ensures.time tells

pub returns-clause-same : goal.returns-clause-same
unfolding durable_of is_kept
returns-clause-same g c = c.fetch.ensures.same

pub returns-clause-keeps : goal.returns-clause-keeps
unfolding durable_of is_kept
returns-clause-keeps g c keeps =
    let store = c.args.self.now.store.now in
    let mid = c.fetch.new.self.store.now in
    let s0 = g.D.SectorDisk.state c.args.self.now.disk.now in
    let s1 = g.D.SectorDisk.state c.fetch.new.self.disk.now in
    let k = c.fetch.ensures.keeps (keeps.0, keeps.1.ring) in
    let told = and_from s0.tells (is_kept store s0.sectors s0.candidates) keeps.0 keeps.1.ring.kept in
    let same = (c.fetch.ensures.sectors told).content in (
      k.0,
      keeps_some mid _ s1.sectors s1.candidates s1.candidates c.args.at _ (record { kept = k.1.kept; settled = k.1.settled }) c.set.ensures.kept
          (cached_still store mid s0.candidates s1.candidates c.fetch.ensures.slots same keeps.1.cached) (ap (λ (d : Content). sector d c.args.at) same ∙ sym (c.in_ok-fetch.ensures.value told)) (λ s apart. refl),
    )

pub returns-clause-below : goal.returns-clause-below
returns-clause-below g c =
    let fetched = c.fetch.ensures.store in
    let reads = c.fetch.ensures.reads in
    record {
      plan = fetched.plan;
      live = ap (λ (b : Staged). b.live) fetched.batch;
      kept = ap (λ (b : Staged). b.kept) fetched.batch;
      room = ap (λ (b : Staged). b.room) fetched.batch;
      slots = c.set.ensures.others.0 ∙ fetched.slots;
      same = reads.same;
      sink = reads.sink;
      barriers = reads.barriers;
      keeps = λ keeps. returns-clause-keeps g c keeps;
      later = reads.faults;
      faults = inl c.in_ok-fetch.ensures.uncounted;
    }

pub returns-in_err-fetch-clause-keeps : goal.returns-in_err-fetch-clause-keeps
unfolding durable_of is_kept
returns-in_err-fetch-clause-keeps g c keeps =
    let store = c.args.self.now.store.now in
    let mid = c.fetch.new.self.store.now in
    let s0 = g.D.SectorDisk.state c.args.self.now.disk.now in
    let s1 = g.D.SectorDisk.state c.fetch.new.self.disk.now in
    let k = c.fetch.ensures.keeps (keeps.0, keeps.1.ring) in
    let told = and_from s0.tells (is_kept store s0.sectors s0.candidates) keeps.0 keeps.1.ring.kept in (
      k.0,
      record { ring = k.1; cached = cached_still store mid s0.candidates s1.candidates c.fetch.ensures.slots (c.fetch.ensures.sectors told).content keeps.1.cached },
    )

pub returns-in_err-fetch-clause-below : goal.returns-in_err-fetch-clause-below
returns-in_err-fetch-clause-below g c =
    let fetched = c.fetch.ensures.store in
    let reads = c.fetch.ensures.reads in
    record {
      plan = fetched.plan;
      live = ap (λ (b : Staged). b.live) fetched.batch;
      kept = ap (λ (b : Staged). b.kept) fetched.batch;
      room = ap (λ (b : Staged). b.room) fetched.batch;
      slots = fetched.slots;
      same = reads.same;
      sink = reads.sink;
      barriers = reads.barriers;
      keeps = λ keeps. returns-in_err-fetch-clause-keeps g c keeps;
      later = reads.faults;
      faults = inr c.in_err-fetch.ensures.cause.failed;
    }
