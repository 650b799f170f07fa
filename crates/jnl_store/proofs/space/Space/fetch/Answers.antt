use Rattle.std.proofs.Common.{◌≡◌, ◌⊎◌, ◌-◌, ◌<◌, inl, inr, length, refl, sym, ◌∙◌, ap, subst, arith}
use Rattle.std.specs.Prelude.{None, Some}
use Rattle.std.proofs.lemmas.List.{length-map}
use Rattle.sector_disk.specs.Clock.{TimePasses}
use Rattle.sector_disk.specs.Disk.{content}
use Rattle.sector_disk.specs.Lists.{last}
use Rattle.sector_disk.specs.Space.{AgreesOutside}
use Rattle.jnl_replay.specs.declared.plan.Plan.{Plan}
use Rattle.jnl_store.specs.Journal.{IsClosed, IsSpilled}
use Rattle.jnl_store.specs.Store.{durable_of}
use Rattle.jnl_format.specs.Recovery.{replayed}
use Rattle.jnl_replay.specs.Plan.{journal_of}
use Rattle.jnl_store.specs.SpaceLaws.{length-durable}
use Rattle.jnl_store.proofs.RingKept.{home_value, live_inside, live_value, on_disk, read_keeps}
use Rattle.jnl_store.proofs.SpacedSame.{keeps_same, sectors_same, space_same}
use Rattle.jnl_store.specs.Batch.{Staged, names}
use Rattle.jnl_store.specs.Newest.{newest}
use Rattle.jnl_store.proofs.Newest.{place_or}
use Rattle.jnl_store.specs.Cache.{Slots}
use Rattle.jnl_store.proofs.SpacedTime.{durable_is, mounted, mounts_durable, tells_parts}
use Rattle.jnl_store.proofs.space.Space.fetch.Goals as goal

pub returns-in-Some-clause-value : goal.returns-in-Some-clause-value
returns-in-Some-clause-value g c tells =
    let store = c.args.self.now.store.now in
    let disk = g.D.SectorDisk.state c.args.self.now.disk.now in
    let p = tells_parts store disk tells in
    c.in-Some.ensures (durable_of store (content disk)) (omega (arith, c.requires, length-durable store (content disk), length-map disk.candidates last, (g.met.D.SectorDisk.well_formed c.args.self.now.disk.now).size p.0))

pub returns-in-Ok-clause-time : goal.returns-in-Ok-clause-time
returns-in-Ok-clause-time g c tells =
    let store = c.args.self.now.store.now in
    let old = g.D.SectorDisk.state c.args.self.now.disk.now in
    let new = g.D.SectorDisk.state c.read_durable.new.disk in
    let k = read_keeps store.plan store.batch.live old new c.read_durable.ensures.reads.candidates (tells_parts store old tells).1 in
    mounts_durable store.plan old new (durable_of store (content new)) store.rest (g.met.D.SectorDisk.well_formed c.read_durable.new.disk) k.text (durable_is store (content new)) c.read_durable.ensures.reads.time

pub returns-in-Err-clause-sectors : goal.returns-in-Err-clause-sectors
returns-in-Err-clause-sectors g c tells =
    let s = c.count_fault.ensures in
    sectors_same _ _ c.args.self.now.store.now c.count_fault.new.self (g.D.SectorDisk.state c.args.self.now.disk.now) (g.D.SectorDisk.state c.read_durable.new.disk)
    (record { plan = s.plan; batch = s.batch; unsettled = s.unsettled; slots = ap (λ (l : Slots). length l) s.slots }) c.read_durable.ensures.reads.candidates

pub returns-in-Err-clause-time : goal.returns-in-Err-clause-time
returns-in-Err-clause-time g c tells =
    let store = c.args.self.now.store.now in
    let counted = c.count_fault.new.self in
    let old = g.D.SectorDisk.state c.args.self.now.disk.now in
    let new = g.D.SectorDisk.state c.read_durable.new.disk in
    let k = read_keeps store.plan store.batch.live old new c.read_durable.ensures.reads.candidates (tells_parts store old tells).1 in
    let durable = durable_of counted (content new) in
    subst (λ (p : Plan). TimePasses (mounted store.plan old.clock) (mounted p new.clock) (λ recovered told. AgreesOutside (λ s. IsSpilled p new.candidates s ⊎ IsClosed p s) durable recovered × (told ≡ new.told)))
    (sym c.count_fault.ensures.plan)
    (mounts_durable store.plan old new durable store.rest (g.met.D.SectorDisk.well_formed c.read_durable.new.disk) k.text (durable_is counted (content new) ∙ ap (λ (p : Plan). replayed (journal_of p) (content new)) c.count_fault.ensures.plan) c.read_durable.ensures.reads.time)

pub returns-in-Err-clause-same : goal.returns-in-Err-clause-same
returns-in-Err-clause-same g c =
    let s = c.count_fault.ensures in
    space_same _ _ c.args.self.now.store.now c.count_fault.new.self (g.D.SectorDisk.state c.args.self.now.disk.now) (g.D.SectorDisk.state c.read_durable.new.disk)
    (record { plan = s.plan; batch = s.batch; unsettled = s.unsettled; slots = ap (λ (l : Slots). length l) s.slots }) c.read_durable.ensures.reads.candidates c.read_durable.ensures.reads.same c.read_durable.ensures.reads.sink c.read_durable.ensures.reads.barriers

pub returns-in-Err-clause-keeps : goal.returns-in-Err-clause-keeps
returns-in-Err-clause-keeps g c keeps =
    let s = c.count_fault.ensures in
    keeps_same 0 0 c.args.self.now.store.now c.count_fault.new.self (g.D.SectorDisk.state c.args.self.now.disk.now) (g.D.SectorDisk.state c.read_durable.new.disk)
    (record { plan = s.plan; batch = s.batch; unsettled = s.unsettled; slots = ap (λ (l : Slots). length l) s.slots }) c.read_durable.ensures.reads.candidates c.read_durable.ensures.reads.same keeps

pub returns-in-Ok-clause-value : goal.returns-in-Ok-clause-value
unfolding durable_of
returns-in-Ok-clause-value g c tells =
    let store = c.args.self.now.store.now in
    let disk = g.D.SectorDisk.state c.args.self.now.disk.now in
    let is = g.met.D.SectorDisk.well_formed c.args.self.now.disk.now in
    let p = tells_parts store disk tells in
    let inside : c.args.at < length (content disk) = omega (arith, c.requires, length-map disk.candidates last, is.size p.0) in
    let put = c.in-None.ensures (durable_of store (content disk)) (omega (arith, c.requires, length-durable store (content disk), length-map disk.candidates last, is.size p.0)) in
    elim (place_or c.place_of-place.result) [
      | inl none ↦
          let at_home : newest store.batch.live c.args.at ≡ None = sym c.place_of-place.ensures ∙ none in
          c.in-Ok.ensures.home p.0 none ∙ sym (home_value store.plan store.rest store.batch.live disk is p.1 c.args.at inside at_home) ∙ sym put
      | inr some ↦
          let live : newest store.batch.live c.args.at ≡ Some some.0 = sym c.place_of-place.ensures ∙ some.1 in
          c.in-Ok.ensures.live p.0 some.0 some.1 (on_disk store.plan store.rest disk is p.0 p.1.text) (live_inside store.plan store.rest store.batch.live disk is p.1 c.args.at inside some.0 live)
          ∙ sym (live_value store.plan store.rest store.batch.live disk is p.1 c.args.at inside some.0 live) ∙ sym put
    ]

pub returns-in-Ok-clause-sectors : goal.returns-in-Ok-clause-sectors
returns-in-Ok-clause-sectors g c tells =
    let store = c.args.self.now.store.now in
    sectors_same _ _ store store (g.D.SectorDisk.state c.args.self.now.disk.now) (g.D.SectorDisk.state c.read_durable.new.disk) (record { plan = refl; batch = refl; unsettled = refl; slots = refl }) c.read_durable.ensures.reads.candidates

pub returns-in-Err-clause-room : goal.returns-in-Err-clause-room
returns-in-Err-clause-room g c = record {
  put = λ s. ap (λ (b : Staged). names b.all s) c.count_fault.ensures.batch;
  spare = ap (λ (b : Staged). b.room - length b.all) c.count_fault.ensures.batch;
}
