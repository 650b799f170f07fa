use Rattle.std.proofs.Common.{◌≡◌, ◌≢◌, ◌⊎◌, ◌<◌, ℕ, true, false, ◌&&◌, List, ◌∷◌, [], ◌++◌, inl, inr, length, length-set, refl, sym, ◌∙◌, ap, subst, arith}
use Rattle.std.specs.Prelude.{IsTrue, None}
use Rattle.std.proofs.lemmas.Bool.{and_from, and_parts, cases_Bool, true≢false}
use Rattle.sector_disk.specs.Clock.{TimePasses}
use Rattle.sector_disk.specs.Disk.{Candidates, IsDisk, State, content}
use Rattle.sector_disk.specs.Space.{AgreesOutside}
use Rattle.jnl_format.specs.Recovery.{replayed}
use Rattle.jnl_replay.specs.Plan.{journal_of}
use Rattle.jnl_replay.specs.declared.plan.Plan.{Plan}
use Rattle.jnl_store.specs.Batch.{names}
use Rattle.jnl_store.specs.InUse.{keeps_lists}
use Rattle.jnl_store.specs.Journal.{IsClosed, IsSpilled, are_open}
use Rattle.jnl_store.specs.Cache.{Slots, with_slot}
use Rattle.jnl_store.specs.Store.{IsLive, KeepsOn, content_over, durable_of, is_kept}
use Rattle.jnl_store.proofs.Slots.{keeps_none, keeps_some, length-over, put_elsewhere, put_here}
use Rattle.jnl_store.specs.declared.store.Store.{Store}
use Rattle.jnl_store.proofs.RingKept.{IsFree}
use Rattle.jnl_store.proofs.SpacedSame.{kept_same}
use Rattle.jnl_store.proofs.SpacedSpill.{Changes, changes_maybe, changes_one, free_of, kept_both, kept_spill, may_spill, spills, told_both}
use Rattle.jnl_store.proofs.SpacedTime.{durable_is, mounted, mounts_durable, tells_parts}
use Rattle.jnl_store.proofs.space_calls.SpaceSectorSpace.spill.Goals as goal

-- a sector that a space may spill is free
free_here : (store : Store) (disk : State) (at : ℕ) → at ≢ 2 → (IsTrue (disk.tells && is_kept store disk.sectors disk.candidates) → IsClosed store.plan at → ⊥) → (IsTrue (disk.tells && is_kept store disk.sectors disk.candidates) → IsLive store (content disk) at → ⊥)
    → IsTrue (disk.tells && is_kept store disk.sectors disk.candidates) → IsFree store.plan disk at
free_here store disk at no_header open_at idle tells = free_of store.plan store.rest disk at (open_at tells) no_header (λ named. idle tells (inr named))

-- what a space tells doesn't change by a write
told_same : (store : Store) (disk new : State) (at : ℕ) → IsDisk disk → IsDisk new → (IsTrue disk.tells → Changes at disk.candidates new.candidates) → at ≢ 2
    → (IsTrue (disk.tells && is_kept store disk.sectors disk.candidates) → IsClosed store.plan at → ⊥) → (IsTrue (disk.tells && is_kept store disk.sectors disk.candidates) → IsLive store (content disk) at → ⊥)
    → (disk.tells && is_kept store disk.sectors new.candidates) ≡ (disk.tells && is_kept store disk.sectors disk.candidates)
unfolding is_kept
told_same store disk new at had is changes no_header open_at idle =
    told_both disk.tells (keeps_lists store.plan new.candidates store.batch.live && are_open store.plan disk.sectors store.batch.all && are_open store.plan disk.sectors store.batch.kept) (keeps_lists store.plan disk.candidates store.batch.live && are_open store.plan disk.sectors store.batch.all && are_open store.plan disk.sectors store.batch.kept)
    (λ t. kept_both store.plan store.rest store.batch.live (are_open store.plan disk.sectors store.batch.all) (are_open store.plan disk.sectors store.batch.kept) disk new at had is (changes t)
    (λ was. free_of store.plan store.rest disk at (open_at (and_from disk.tells (keeps_lists store.plan disk.candidates store.batch.live && are_open store.plan disk.sectors store.batch.all && are_open store.plan disk.sectors store.batch.kept) t was)) no_header
    (λ named. idle (and_from disk.tells (keeps_lists store.plan disk.candidates store.batch.live && are_open store.plan disk.sectors store.batch.all && are_open store.plan disk.sectors store.batch.kept) t was) (inr named))))

pub invariant_of-self : goal.invariant_of-self
unfolding durable_of is_kept
invariant_of-self g c =
    let store = c.args.self.now.store.now in
    let disk = g.D.SectorDisk.state c.args.self.now.disk.now in
    let new = g.D.SectorDisk.state c.write.new.self in
    let is = g.met.D.SectorDisk.well_formed c.args.self.now.disk.now in
    let now_is = g.met.D.SectorDisk.well_formed c.write.new.self in
    let s = c.write.ensures.same in
    let unsettled : Store = record { plan = store.plan; batch = store.batch; unsettled = true; faults = store.faults; cache = store.cache; rest = store.rest; places = store.places } in
    let old = content_over store (content disk) in
    record {
      kept = λ none tells. let was = sym s.tells ∙ tells in
          let keeps = c.args.self.now.kept none was in
          let within : c.args.at < length disk.candidates = omega (arith, is.size was, c.requires.inside) in
          let changes = subst (λ (d : Candidates). Changes c.args.at disk.candidates d) (sym c.in-Ok.ensures.written) (changes_one disk.candidates c.args.at c.args.from.now within (is.each c.args.at within)) in
          let told = told_same store disk new c.args.at is now_is (λ t. changes) c.requires.no_header c.requires.open c.requires.idle in
          let told_old = and_from disk.tells (is_kept store disk.sectors disk.candidates) was keeps.ring.kept in
          let none_put : names store.batch.all c.args.at ≡ false = elim (cases_Bool (names store.batch.all c.args.at)) [ inl named ↦ absurd (c.requires.idle told_old (inl named)) | inr none ↦ none ] in
          let p = tells_parts store disk told_old in
          let made = spills 0 0 store unsettled refl refl disk new c.args.at c.args.from.now is p.0 c.requires.inside (c.requires.open told_old) none_put now_is p.1 (free_here store disk c.args.at c.requires.no_header c.requires.open c.requires.idle told_old) c.in-Ok.ensures.written in
          let inside : c.args.at < length old = omega (arith, length-over store disk is was, c.requires.inside) in
          keeps_some store _ new.sectors disk.candidates new.candidates c.args.at _
          (record {
            kept =
                ap (λ n. is_kept unsettled n new.candidates) s.sectors
                ∙ kept_same store unsettled disk.sectors new.candidates refl refl
                ∙ (and_parts disk.tells (is_kept store disk.sectors new.candidates) (told ∙ told_old)).1;
            settled = λ e. absurd (true≢false e);
          })
          c.set.ensures.kept keeps.cached (put_here old _ c.args.at c.args.from.now made.content inside) (λ q apart. put_elsewhere old _ c.args.at q c.args.from.now (inl made.content) apart);
    }

pub returns-in-Ok-clause-spills : goal.returns-in-Ok-clause-spills
unfolding durable_of is_kept
returns-in-Ok-clause-spills g c tells =
    let store = c.args.self.now.store.now in
    let disk = g.D.SectorDisk.state c.args.self.now.disk.now in
    let new : Store = record { plan = store.plan; batch = store.batch; unsettled = true; faults = store.faults; cache = store.cache; rest = store.rest; places = store.places } in
    let none : names store.batch.all c.args.at ≡ false = elim (cases_Bool (names store.batch.all c.args.at)) [ inl named ↦ absurd (c.requires.idle tells (inl named)) | inr none ↦ none ] in
    let p = tells_parts store disk tells in
    spills _ _ store new refl refl disk (g.D.SectorDisk.state c.write.new.self) c.args.at c.args.from.now (g.met.D.SectorDisk.well_formed c.args.self.now.disk.now)
    p.0 c.requires.inside (c.requires.open tells) none (g.met.D.SectorDisk.well_formed c.write.new.self) p.1 (free_here store disk c.args.at c.requires.no_header c.requires.open c.requires.idle tells) c.in-Ok.ensures.written

pub returns-in-Ok-clause-time : goal.returns-in-Ok-clause-time
unfolding durable_of is_kept
returns-in-Ok-clause-time g c tells =
    let store = c.args.self.now.store.now in
    let disk = g.D.SectorDisk.state c.args.self.now.disk.now in
    let new = g.D.SectorDisk.state c.write.new.self in
    let is = g.met.D.SectorDisk.well_formed c.args.self.now.disk.now in
    let now_is = g.met.D.SectorDisk.well_formed c.write.new.self in
    let p = tells_parts store disk tells in
    let within : c.args.at < length disk.candidates = omega (arith, is.size p.0, c.requires.inside) in
    let changes = subst (λ (d : Candidates). Changes c.args.at disk.candidates d) (sym c.in-Ok.ensures.written) (changes_one disk.candidates c.args.at c.args.from.now within (is.each c.args.at within)) in
    let k = kept_spill store.plan store.rest store.batch.live disk new c.args.at is now_is changes (free_here store disk c.args.at c.requires.no_header c.requires.open c.requires.idle tells) p.1 in
    mounts_durable store.plan disk new (durable_of store (content new)) store.rest now_is k.text (durable_is store (content new)) c.write.ensures.time

pub returns-in-Ok-clause-same : goal.returns-in-Ok-clause-same
unfolding is_kept
returns-in-Ok-clause-same g c =
    let store = c.args.self.now.store.now in
    let disk = g.D.SectorDisk.state c.args.self.now.disk.now in
    let new = g.D.SectorDisk.state c.write.new.self in
    let is = g.met.D.SectorDisk.well_formed c.args.self.now.disk.now in
    let s = c.write.ensures.same in
    let unsettled : Store = record { plan = store.plan; batch = store.batch; unsettled = true; faults = store.faults; cache = store.cache; rest = store.rest; places = store.places } in
    let changes = λ (t : IsTrue disk.tells). let within : c.args.at < length disk.candidates = omega (arith, is.size t, c.requires.inside) in
    subst (λ (d : Candidates). Changes c.args.at disk.candidates d) (sym c.in-Ok.ensures.written) (changes_one disk.candidates c.args.at c.args.from.now within (is.each c.args.at within)) in
    record {
      tells =
          ap (λ b. b && is_kept unsettled new.sectors new.candidates) s.tells
          ∙ ap (λ n. disk.tells && is_kept unsettled n new.candidates) s.sectors
          ∙ ap (λ b. disk.tells && b) (kept_same store unsettled disk.sectors new.candidates refl refl)
          ∙ told_same store disk new c.args.at is (g.met.D.SectorDisk.well_formed c.write.new.self) changes c.requires.no_header c.requires.open c.requires.idle;
      names = ap (λ (l : List ℕ). (c.args.self.now.store.ghost_name ∷ c.args.self.now.disk.ghost_name ∷ []) ++ l) s.names;
      tells_left = s.tells_left;
      told = c.write.ensures.sink.told;
      sink_faults = c.write.ensures.sink.faults;
      barriers = c.write.ensures.barriers;
      sectors = s.sectors;
    }

pub returns-in-Ok-clause-keeps : goal.returns-in-Ok-clause-keeps
unfolding durable_of is_kept
returns-in-Ok-clause-keeps g c keeps open_at =
    let store = c.args.self.now.store.now in
    let disk = g.D.SectorDisk.state c.args.self.now.disk.now in
    let new = g.D.SectorDisk.state c.write.new.self in
    let is = g.met.D.SectorDisk.well_formed c.args.self.now.disk.now in
    let now_is = g.met.D.SectorDisk.well_formed c.write.new.self in
    let s = c.write.ensures.same in
    let unsettled : Store = record { plan = store.plan; batch = store.batch; unsettled = true; faults = store.faults; cache = store.cache; rest = store.rest; places = store.places } in
    let old = content_over store (content disk) in
    let within : c.args.at < length disk.candidates = omega (arith, is.size keeps.0, c.requires.inside) in
    let changes = subst (λ (d : Candidates). Changes c.args.at disk.candidates d) (sym c.in-Ok.ensures.written) (changes_one disk.candidates c.args.at c.args.from.now within (is.each c.args.at within)) in
    let told = told_same store disk new c.args.at is now_is (λ t. changes) c.requires.no_header c.requires.open c.requires.idle in
    let told_old = and_from disk.tells (is_kept store disk.sectors disk.candidates) keeps.0 keeps.1.ring.kept in
    let none_put : names store.batch.all c.args.at ≡ false = elim (cases_Bool (names store.batch.all c.args.at)) [ inl named ↦ absurd (c.requires.idle told_old (inl named)) | inr none ↦ none ] in
    let p = tells_parts store disk told_old in
    let made = spills 0 0 store unsettled refl refl disk new c.args.at c.args.from.now is p.0 c.requires.inside (c.requires.open told_old) none_put now_is p.1 (free_here store disk c.args.at c.requires.no_header c.requires.open c.requires.idle told_old) c.in-Ok.ensures.written in
    let inside : c.args.at < length old = omega (arith, length-over store disk is keeps.0, c.requires.inside) in (
      s.tells ∙ keeps.0,
      keeps_some store _ new.sectors disk.candidates new.candidates c.args.at _
          (record {
            kept =
                ap (λ n. is_kept unsettled n new.candidates) s.sectors
                ∙ kept_same store unsettled disk.sectors new.candidates refl refl
                ∙ (and_parts disk.tells (is_kept store disk.sectors new.candidates) (told ∙ told_old)).1;
            settled = λ e. absurd (true≢false e);
          })
          c.set.ensures.kept keeps.1.cached (put_here old _ c.args.at c.args.from.now made.content inside) (λ q apart. put_elsewhere old _ c.args.at q c.args.from.now (inl made.content) apart),
    )

pub returns-in-Err-clause-unsure : goal.returns-in-Err-clause-unsure
unfolding Rattle.jnl_store.specs.Spaces.found is_kept durable_of
returns-in-Err-clause-unsure g c tells =
    let store = c.args.self.now.store.now in
    let disk = g.D.SectorDisk.state c.args.self.now.disk.now in
    let none : names store.batch.all c.args.at ≡ false = elim (cases_Bool (names store.batch.all c.args.at)) [ inl named ↦ absurd (c.requires.idle tells (inl named)) | inr none ↦ none ] in
    let p = tells_parts store disk tells in
    may_spill _ _ store c.count_fault.new.self c.count_fault.ensures.plan c.count_fault.ensures.batch disk (g.D.SectorDisk.state c.write.new.self) c.args.at c.args.from.now (g.met.D.SectorDisk.well_formed c.args.self.now.disk.now)
    p.0 c.requires.inside (c.requires.open tells) none (g.met.D.SectorDisk.well_formed c.write.new.self) p.1 (free_here store disk c.args.at c.requires.no_header c.requires.open c.requires.idle tells) c.in-Err.ensures.unsure

pub returns-in-Err-clause-time : goal.returns-in-Err-clause-time
unfolding durable_of
returns-in-Err-clause-time g c tells =
    let store = c.args.self.now.store.now in
    let counted = c.count_fault.new.self in
    let disk = g.D.SectorDisk.state c.args.self.now.disk.now in
    let new = g.D.SectorDisk.state c.write.new.self in
    let is = g.met.D.SectorDisk.well_formed c.args.self.now.disk.now in
    let now_is = g.met.D.SectorDisk.well_formed c.write.new.self in
    let p = tells_parts store disk tells in
    let within : c.args.at < length disk.candidates = omega (arith, is.size p.0, c.requires.inside) in
    let changes = changes_maybe disk.candidates new.candidates c.args.at c.args.from.now within (is.each c.args.at within) c.in-Err.ensures.unsure in
    let k = kept_spill store.plan store.rest store.batch.live disk new c.args.at is now_is changes (free_here store disk c.args.at c.requires.no_header c.requires.open c.requires.idle tells) p.1 in
    let durable = durable_of counted (content new) in
    subst (λ (p : Plan). TimePasses (mounted store.plan disk.clock) (mounted p new.clock) (λ recovered told. AgreesOutside (λ s. IsSpilled p new.candidates s ⊎ IsClosed p s) durable recovered × (told ≡ new.told)))
    (sym c.count_fault.ensures.plan)
    (mounts_durable store.plan disk new durable store.rest now_is k.text
    (durable_is counted (content new) ∙ ap (λ (p : Plan). replayed (journal_of p) (content new)) c.count_fault.ensures.plan) c.write.ensures.time)

pub returns-in-Err-clause-same : goal.returns-in-Err-clause-same
unfolding is_kept
returns-in-Err-clause-same g c =
    let store = c.args.self.now.store.now in
    let counted = c.count_fault.new.self in
    let disk = g.D.SectorDisk.state c.args.self.now.disk.now in
    let new = g.D.SectorDisk.state c.write.new.self in
    let is = g.met.D.SectorDisk.well_formed c.args.self.now.disk.now in
    let s = c.write.ensures.same in
    let changes = λ (t : IsTrue disk.tells). let within : c.args.at < length disk.candidates = omega (arith, is.size t, c.requires.inside) in
    changes_maybe disk.candidates new.candidates c.args.at c.args.from.now within (is.each c.args.at within) c.in-Err.ensures.unsure in
    record {
      tells =
          ap (λ b. b && is_kept counted new.sectors new.candidates) s.tells
          ∙ ap (λ n. disk.tells && is_kept counted n new.candidates) s.sectors
          ∙ ap (λ b. disk.tells && b) (kept_same store counted disk.sectors new.candidates c.count_fault.ensures.plan c.count_fault.ensures.batch)
          ∙ told_same store disk new c.args.at is (g.met.D.SectorDisk.well_formed c.write.new.self) changes c.requires.no_header c.requires.open c.requires.idle;
      names = ap (λ (l : List ℕ). (c.args.self.now.store.ghost_name ∷ c.args.self.now.disk.ghost_name ∷ []) ++ l) s.names;
      tells_left = s.tells_left;
      told = c.write.ensures.sink.told;
      sink_faults = c.write.ensures.sink.faults;
      barriers = c.write.ensures.barriers;
      sectors = s.sectors;
    }

pub returns-in-Err-clause-keeps : goal.returns-in-Err-clause-keeps
unfolding durable_of is_kept
returns-in-Err-clause-keeps g c keeps open_at =
    let store = c.args.self.now.store.now in
    let counted = c.count_fault.new.self in
    let disk = g.D.SectorDisk.state c.args.self.now.disk.now in
    let new = g.D.SectorDisk.state c.write.new.self in
    let is = g.met.D.SectorDisk.well_formed c.args.self.now.disk.now in
    let now_is = g.met.D.SectorDisk.well_formed c.write.new.self in
    let s = c.write.ensures.same in
    let old = content_over store (content disk) in
    let within : c.args.at < length disk.candidates = omega (arith, is.size keeps.0, c.requires.inside) in
    let changes = changes_maybe disk.candidates new.candidates c.args.at c.args.from.now within (is.each c.args.at within) c.in-Err.ensures.unsure in
    let told = told_same store disk new c.args.at is now_is (λ t. changes) c.requires.no_header c.requires.open c.requires.idle in
    let told_old = and_from disk.tells (is_kept store disk.sectors disk.candidates) keeps.0 keeps.1.ring.kept in
    let none_put : names store.batch.all c.args.at ≡ false = elim (cases_Bool (names store.batch.all c.args.at)) [ inl named ↦ absurd (c.requires.idle told_old (inl named)) | inr none ↦ none ] in
    let p = tells_parts store disk told_old in
    let made = may_spill 0 0 store counted c.count_fault.ensures.plan c.count_fault.ensures.batch disk new c.args.at c.args.from.now is
    p.0 c.requires.inside (c.requires.open told_old) none_put now_is p.1 (free_here store disk c.args.at c.requires.no_header c.requires.open c.requires.idle told_old) c.in-Err.ensures.unsure in (
      s.tells ∙ keeps.0,
      keeps_none store _ new.sectors disk.candidates new.candidates c.args.at
          (record {
            kept =
                kept_same store counted new.sectors new.candidates c.count_fault.ensures.plan c.count_fault.ensures.batch
                ∙ ap (λ n. is_kept store n new.candidates) s.sectors
                ∙ (and_parts disk.tells (is_kept store disk.sectors new.candidates) (told ∙ told_old)).1;
            settled = λ e. absurd (true≢false (sym c.count_fault.ensures.unsettled ∙ e));
          })
          (c.empty.ensures ∙ ap (λ (l : Slots). with_slot l c.args.at None) c.count_fault.ensures.slots)
          keeps.1.cached (λ q apart. put_elsewhere old _ c.args.at q c.args.from.now made.content apart),
    )

-- what tells a space
tells_of : (store : Store) (disk : State) → KeepsOn store disk → IsTrue (disk.tells && is_kept store disk.sectors disk.candidates)
tells_of store disk keeps = and_from disk.tells (is_kept store disk.sectors disk.candidates) keeps.0 keeps.1.ring.kept

pub returns-in-Ok-clause-below : goal.returns-in-Ok-clause-below
returns-in-Ok-clause-below g c =
    let store = c.args.self.now.store.now in
    let disk = g.D.SectorDisk.state c.args.self.now.disk.now in
    record {
      plan = refl;
      live = refl;
      kept = refl;
      room = refl;
      slots = c.set.ensures.others.0;
      same = c.write.ensures.same;
      sink = c.write.ensures.sink;
      barriers = c.write.ensures.barriers;
      keeps = λ keeps. returns-in-Ok-clause-keeps g c keeps (c.requires.open (tells_of store disk keeps));
      later = c.write.ensures.cause.later;
      faults = inl refl;
    }

pub returns-in-Err-clause-below : goal.returns-in-Err-clause-below
returns-in-Err-clause-below g c =
    let store = c.args.self.now.store.now in
    let disk = g.D.SectorDisk.state c.args.self.now.disk.now in
    record {
      plan = c.count_fault.ensures.plan;
      live = ap (λ b. b.live) c.count_fault.ensures.batch;
      kept = ap (λ b. b.kept) c.count_fault.ensures.batch;
      room = ap (λ b. b.room) c.count_fault.ensures.batch;
      slots = (ap (λ (l : Slots). length l) c.empty.ensures ∙ length-set _ _ _) ∙ ap (λ (l : Slots). length l) c.count_fault.ensures.slots;
      same = c.write.ensures.same;
      sink = c.write.ensures.sink;
      barriers = c.write.ensures.barriers;
      keeps = λ keeps. returns-in-Err-clause-keeps g c keeps (c.requires.open (tells_of store disk keeps));
      later = c.write.ensures.cause.later;
      faults = inr c.in-Err.ensures.cause.failed;
    }
