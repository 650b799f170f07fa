-- What a store keeps in its slots, as its calls leave it.
use Rattle.std.proofs.Common.{Bor, ◌≡◌, ◌≢◌, ◌⊎◌, ◌<◌, ◌%◌, ℕ, Bool, true, false, not, List, [], ◌∷◌, inl, inr, ⊎_elim, length, get_or, set, refl, sym, ◌∙◌, ap, subst, arith, eqb, length-set, get_or-set_same, get_or-set_other, replicate}
use Rattle.std.specs.Prelude.{Result, Ok, Err, OnOk, Option, None, Some, IfSome, IsTrue, MatchOption, nat_le, nat_lt, ◌&&◌, ◌||◌, ◌==◌, ◌/◌, ◌+◌, if◌then◌else◌}
use Rattle.std.proofs.lemmas.Bool.{and_parts, cases_Bool, cases_lt, eqb-true, eqb-false, true≢false, not-false}
use Rattle.std.proofs.lemmas.List.{get_or_past, length-map}
use Rattle.std.proofs.lemmas.Slice.Eq.{bytes_eq-Decides}
use Rattle.jnl_format.specs.declared.structures.Info.{Info}
use Rattle.jnl_replay.specs.declared.plan.Place.{Place}
use Rattle.sector_disk.specs.Lists.{Content, last, run_of, sector}
use Rattle.sector_disk.specs.Disk.{Candidates, CrashesLeave, IsDisk, IsImage, LeftNow, OnlyReads, SameSink, State, Untouched, content, content_of, only}
use Rattle.sector_disk.proofs.Passing.{both_pass}
use Rattle.sector_disk.specs.Space.{AgreesOutside}
use Rattle.jnl_format.specs.Named.{IsNamed}
use Rattle.jnl_format.specs.Recovery.{homes_of}
use Rattle.jnl_replay.specs.Plan.{journal_of}
use Rattle.jnl_replay.specs.declared.plan.Plan.{Plan}
use Rattle.jnl_store.specs.Batch.{AreOnce, Staged, bytes_of, is_dropped, is_same, names}
use Rattle.jnl_store.specs.Cache.{AreCached, AreRead, EachBecomes, EachReread, IsKept, IsRead, IsReread, KeepsRun, Slots, holds, slot_of, undone_slot, with_slot}
use Rattle.jnl_store.specs.Journal.{IsClosed, are_open, is_closed}
use Rattle.jnl_store.specs.Overlay.{overlay}
use Rattle.jnl_store.specs.SpaceLaws.{length-durable, length-overlay}
use Rattle.jnl_store.specs.Standing.{Checkpoints, MakesDurable, RingCheckpoints, RingDurable, StandsFor}
use Rattle.jnl_store.specs.Store.{IsRecalled, Keeps, KeepsOn, KeepsRing, KeepsRingOn, SameJournal, content_over, durable_of}
use Rattle.jnl_store.specs.declared.puts.Put.{Put}
use Rattle.jnl_store.specs.declared.store.Store.{Store}
use Rattle.jnl_store.proofs.Batches.{overlay-other}
use Rattle.jnl_store.proofs.Cached.{cached_each, cached_none, cached_same, cached_set, reread_same}
use Rattle.jnl_store.proofs.Images.{overlay_agrees}
use Rattle.jnl_store.proofs.RingHome.{own_stands}
use Rattle.jnl_store.proofs.Settling.{kept_parts, keeps_batch, lists_of, same_durable}
use Rattle.jnl_store.proofs.SpacedPuts.{open_named}

-- reads of two stores of one plan and the same puts
pub over_same : (old new : Store) (c : Content) → new.plan ≡ old.plan → new.batch.all ≡ old.batch.all → content_over new c ≡ content_over old c
over_same old new c plan all = ap (λ (l : List Put). overlay l (durable_of new c)) all ∙ ap (overlay old.batch.all) (same_durable new old c plan)

-- nothing that reads give changed, nor a slot
pub keeps_over : (old new : Store) (sectors : ℕ) (candidates : Candidates) → KeepsRing new sectors candidates → new.plan ≡ old.plan → new.batch.all ≡ old.batch.all → new.cache ≡ old.cache → Keeps old sectors candidates → Keeps new sectors candidates
keeps_over old new sectors candidates ring plan all cache k = record {
  ring = ring;
  cached = subst (λ (l : Slots). AreCached l (content_over new (content_of candidates))) (sym cache) (cached_same old.cache (content_over old (content_of candidates)) (content_over new (content_of candidates)) (sym (over_same old new (content_of candidates) plan all)) k.cached);
}

-- what the puts' bytes for a sector make of it
overlay_bytes : (puts : List Put) (s : ℕ) (c : Content) (o : Option (List ℕ)) → AreOnce puts → s < length c → bytes_of puts s ≡ o → MatchOption o (sector (overlay puts c) s ≡ sector c s) (λ b. sector (overlay puts c) s ≡ b)
overlay_bytes [] s c None once inside is = refl
overlay_bytes [] s c (Some b) once inside is = absurd (cc is)
overlay_bytes (p ∷ ps) s c o once inside is = elim (cases_Bool (eqb s p.at)) [
  | inl here ↦
      let at : s ≡ p.at = eqb-true s p.at here in
      let bytes : Some p.bytes ≡ o = sym (ap (λ b. if b then Some p.bytes else bytes_of ps s) here) ∙ is in
      let value : sector (overlay ps (set c p.at p.bytes)) s ≡ p.bytes = overlay-other ps (set c p.at p.bytes) s (ap (names ps) at ∙ once.0) ∙ ap (sector (set c p.at p.bytes)) at ∙ get_or-set_same c p.at p.bytes [] (omega (arith, inside, at)) in
      subst (λ (x : Option (List ℕ)). MatchOption x (sector (overlay ps (set c p.at p.bytes)) s ≡ sector c s) (λ b. sector (overlay ps (set c p.at p.bytes)) s ≡ b)) bytes value
  | inr apart ↦
      let later : bytes_of ps s ≡ o = sym (ap (λ b. if b then Some p.bytes else bytes_of ps s) apart) ∙ is in
      let other : sector (set c p.at p.bytes) s ≡ sector c s = get_or-set_other c p.at s p.bytes [] (eqb-false s p.at apart) in
      let h = overlay_bytes ps s (set c p.at p.bytes) o once.1 (omega (arith, inside, length-set c p.at p.bytes)) later in
      after o (sector (overlay ps (set c p.at p.bytes)) s) (sector (set c p.at p.bytes) s) (sector c s) other h
]
  where
    after : (o : Option (List ℕ)) (x y z : List ℕ) → y ≡ z → MatchOption o (x ≡ y) (λ b. x ≡ b) → MatchOption o (x ≡ z) (λ b. x ≡ b)
    after None x y z e h = h ∙ e
    after (Some b) x y z e h = h

same_option : (a b : Option (List ℕ)) → is_same a b ≡ true → a ≡ b
same_option None None h = refl
same_option None (Some b) h = absurd (cc h)
same_option (Some a) None h = absurd (cc h)
same_option (Some a) (Some b) h = ap (λ (l : List ℕ). Some l) ((bytes_eq-Decides a b).0 h)

both_values : (o : Option (List ℕ)) (x y z : List ℕ) → MatchOption o (x ≡ z) (λ b. x ≡ b) → MatchOption o (y ≡ z) (λ b. y ≡ b) → y ≡ x
both_values None x y z h g = g ∙ sym h
both_values (Some b) x y z h g = g ∙ sym h

-- an undo leaves a sector as it was where it doesn't drop its put
undone_same : (all kept : List Put) (s : ℕ) (c : Content) → AreOnce all → AreOnce kept → s < length c → is_dropped all kept s ≡ false → sector (overlay kept c) s ≡ sector (overlay all c) s
undone_same all kept s c once kept_once inside same =
    let e : bytes_of all s ≡ bytes_of kept s = same_option (bytes_of all s) (bytes_of kept s) (not-false (is_same (bytes_of all s) (bytes_of kept s)) same) in
    both_values (bytes_of kept s) (sector (overlay all c) s) (sector (overlay kept c) s) (sector c s) (overlay_bytes all s c (bytes_of kept s) once inside e) (overlay_bytes kept s c (bytes_of kept s) kept_once inside refl)

undone_some : (all kept : List Put) (slot : Option Put) (put : Put) → undone_slot all kept slot ≡ Some put → (slot ≡ Some put) × (is_dropped all kept put.at ≡ false)
undone_some all kept None put is = absurd (cc is)
undone_some all kept (Some p) put is = elim (cases_Bool (is_dropped all kept p.at)) [
  | inl dropped ↦ let none : None ≡ Some put = sym (ap (λ b. if b then (let o : Option Put = None in o) else Some p) dropped) ∙ is in absurd (cc none)
  | inr stays ↦ let same : Some p ≡ Some put = sym (ap (λ b. if b then (let o : Option Put = None in o) else Some p) stays) ∙ is in
      (same, subst (λ (q : Option Put). stays_of q) same stays)
]
  where
    stays_of : Option Put → Type 0
    stays_of None = Unit {0}
    stays_of (Some q) = is_dropped all kept q.at ≡ false

-- a sector that a slot keeps lies in the content
cached_inside : (slots : Slots) (c : Content) (k : ℕ) (put : Put) → AreCached slots c → k < length slots → get_or slots k None ≡ Some put → put.at < length c
cached_inside slots c k put are below is = elim (cases_lt put.at (length c)) [
  | inl inside ↦ inside
  | inr past ↦ absurd (omega (arith, put.whole, ap (λ (l : List ℕ). length l) (sym (are k put below is).1 ∙ get_or_past c put.at [] past)))
]

pub keeps_undone : (old new : Store) (sectors : ℕ) (candidates : Candidates) → KeepsRing new sectors candidates → new.plan ≡ old.plan → new.batch.all ≡ old.batch.kept → AreOnce old.batch.all × AreOnce old.batch.kept
    → EachBecomes (undone_slot old.batch.all old.batch.kept) old.cache new.cache → Keeps old sectors candidates → Keeps new sectors candidates
keeps_undone old new sectors candidates ring plan all once each k =
    let c = content_of candidates in
    let d = durable_of old c in
    let is : overlay old.batch.kept d ≡ content_over new c = sym (ap (λ (l : List Put). overlay l (durable_of new c)) all ∙ ap (overlay old.batch.kept) (same_durable new old c plan)) in
    record {
      ring = ring;
      cached = cached_same new.cache (overlay old.batch.kept d) (content_over new c) is
          (cached_each old.cache new.cache (overlay old.batch.all d) (overlay old.batch.kept d) k.cached each.0
          (λ i put below there.
          let s = undone_some old.batch.all old.batch.kept (get_or old.cache i None) put (sym (each.1 i below) ∙ there) in
          let inside : put.at < length d = omega (arith, cached_inside old.cache (overlay old.batch.all d) i put k.cached below s.0, length-overlay old.batch.all d) in
          (s.0, undone_same old.batch.all old.batch.kept put.at d once.0 once.1 inside s.1)));
    }

-- a put isn't of a sector of the journal
never_put : (plan : Plan) (sectors : ℕ) (puts : List Put) (s : ℕ) → are_open plan sectors puts ≡ true → IsClosed plan s → names puts s ≡ false
never_put plan sectors puts s free shut = elim (cases_Bool (names puts s)) [
  | inl named ↦
      let p = and_parts (nat_lt s sectors) (not (is_closed plan s)) (open_named plan sectors puts s free named) in
      absurd (true≢false (sym p.1 ∙ ap not shut))
  | inr none ↦ none
]

-- reads give of the journal's own sectors what the disk has there
pub own_over : (store : Store) (disk : State) → KeepsRingOn store disk → IsDisk disk → (s : ℕ) → IsClosed store.plan s → sector (content_over store (content disk)) s ≡ sector (content disk) s
unfolding durable_of
own_over store disk k is s shut =
    let stands = own_stands store.plan store.rest disk is (lists_of store disk k).text in
    let p = kept_parts store disk.sectors disk.candidates k.1.kept in
    overlay-other store.batch.all (durable_of store (content disk)) s (never_put store.plan disk.sectors store.batch.all s p.1 shut) ∙ stands.own s shut

-- what was read again into a slot of the journal
cached_reread : (plan : Plan) (slots new : Slots) (c d e : Content) → EachReread plan slots new → AreRead plan e new → AreCached slots c → ((s : ℕ) → (sector d s ≡ sector c s) ⊎ IsClosed plan s) → ((s : ℕ) → IsClosed plan s → sector d s ≡ sector e s) → AreCached new d
cached_reread plan slots new c d e each read are agrees own k put below there =
    let inside : k < length slots = omega (arith, below, each.0) in
    let p = was plan (get_or slots k None) put (subst (λ (o : Option Put). IsReread plan (get_or slots k None) o) there (each.1 k inside)) in
    let old = p.0 in
    let h = are k old inside p.1 in (
      ap (λ m. put.at % m) each.0 ∙ ap (λ n. n % length slots) p.2 ∙ h.0,
      elim (cases_Bool (is_closed plan put.at)) [
        | inl shut ↦ own put.at shut ∙ sym (subst (λ (o : Option Put). IsRead plan e o) there (read k below) shut)
        | inr free ↦
            let same : put ≡ old = p.3 (ap (is_closed plan) (sym p.2) ∙ free) in
            elim (agrees put.at) [
              | inl e ↦ e ∙ ap (λ (q : Put). sector c q.at) same ∙ h.1 ∙ ap (λ (q : Put). q.bytes) (sym same)
              | inr shut ↦ absurd (true≢false (sym shut ∙ free))
            ]
      ],
    )
  where
    was : (plan : Plan) (slot : Option Put) (put : Put) → IsReread plan slot (Some put) → (old : Put) × (slot ≡ Some old) × (put.at ≡ old.at) × (is_closed plan old.at ≡ false → put ≡ old)
    was plan None put none = absurd (cc none)
    was plan (Some old) put (now, is, at, same) =
        let e : put ≡ now = cc is in
        (old, refl, ap (λ (q : Put). q.at) e ∙ at, λ free. e ∙ same free)

-- slots that stand, over contents that are the same
cached_all : (slots new : Slots) (c d : Content) → new ≡ slots → AreCached slots c → ((s : ℕ) → sector d s ≡ sector c s) → AreCached new d
cached_all slots new c d same are all = subst (λ (l : Slots). AreCached l d) (sym same) (λ k put below there. let h = are k put below there in (h.0, all put.at ∙ h.1))

-- the journal's own sectors are those of the same journal
closed_still : (old mid : Store) (s : ℕ) → SameJournal old mid → is_closed mid.plan s ≡ is_closed old.plan s
closed_still old mid s j =
    ap (λ (i : Info). nat_le (i.offset / 512) s && nat_lt s (i.offset / 512 + i.size / 512) || s == mid.plan.place.info_sector) j.info
    ∙ ap (λ (p : Place). nat_le (old.plan.info.offset / 512) s && nat_lt s (old.plan.info.offset / 512 + old.plan.info.size / 512) || s == p.info_sector) j.place

reread_still : (old mid : Store) (slot new : Option Put) → SameJournal old mid → IsReread mid.plan slot new → IsReread old.plan slot new
reread_still old mid None new j is = is
reread_still old mid (Some put) new j (now, is, at, same) = (now, is, at, λ free. same (closed_still old mid put.at j ∙ free))

-- each slot names what it named, by the plan from before
pub each_still : (old mid : Store) (new : Slots) → SameJournal old mid → mid.cache ≡ old.cache → EachReread mid.plan mid.cache new → EachReread old.plan old.cache new
each_still old mid new j same each =
    let e = subst (λ (l : Slots). EachReread mid.plan l new) same each in
    (e.0, λ k below. reread_still old mid (get_or old.cache k None) (get_or new k None) j (e.1 k below))

pub each_same : (plan : Plan) (old new : Slots) → new ≡ old → EachReread plan old new
each_same plan old new same = subst (λ (l : Slots). EachReread plan old l) (sym same) (refl, λ k below. reread_same plan (get_or old k None))

-- reads after a stretch leave what it leaves
pub then_read : (s0 s1 s2 : State) (P : Content → Type 0) → CrashesLeave s0 s1 P → SameSink s0 s1 → OnlyReads s1 s2 → CrashesLeave s0 s2 P
then_read s0 s1 s2 P leaves sink reads = record {
  time = both_pass s0.clock s1.clock s2.clock _ (LeftNow s2) _ leaves.time reads.time (λ image told p. p)
      (λ image told p. (leaves.now image (subst (λ (d : Candidates). IsImage d image) reads.candidates p.0), p.1 ∙ reads.sink.told ∙ sink.told));
  now = λ image is. leaves.now image (subst (λ (d : Candidates). IsImage d image) reads.candidates is);
}

pub untouched_both : (s0 s1 s2 : State) → Untouched s0 s1 → Untouched s1 s2 → Untouched s0 s2
untouched_both s0 s1 s2 a b = record {
  same = record { tells = b.same.tells ∙ a.same.tells; tells_left = b.same.tells_left ∙ a.same.tells_left; names = b.same.names ∙ a.same.names; sectors = b.same.sectors ∙ a.same.sectors };
  sink = record { told = b.sink.told ∙ a.sink.told; faults = b.sink.faults ∙ a.sink.faults };
  candidates = b.candidates ∙ a.candidates;
  faults = b.faults ∙ a.faults;
  barriers = b.barriers ∙ a.barriers;
  moment = b.moment ∙ a.moment;
  left = λ t image told. (λ now. (a.left t image told).0 ((b.left t image told).0 now), λ was. (b.left t image told).1 ((a.left t image told).1 was));
}

-- The journal was written, if anything was to do, and then what slots keep of it was read again.
module _ (old mid new : Store) (s0 s1 s2 : State) (reads : OnlyReads s1 s2) (plan : new.plan ≡ mid.plan) (batch : new.batch ≡ mid.batch) (unsettled : new.unsettled ≡ mid.unsettled) (journal : SameJournal old mid) (is0 : IsDisk s0) (is2 : IsDisk s2)
    (kept : KeepsOn old s0) (same : mid.cache ≡ old.cache) (each : EachReread mid.plan mid.cache new.cache) (own : AreRead mid.plan (content s1) new.cache ⊎ (Untouched s0 s1 × (new.cache ≡ mid.cache))) where
  still : content s2 ≡ content s1
  still = ap content_of reads.candidates

  durable_now : durable_of mid (content s1) ≡ durable_of new (content s2)
  durable_now = sym (same_durable new mid (content s2) plan ∙ ap (durable_of mid) still)

  ring_now : KeepsRing mid s1.sectors s1.candidates → KeepsRing new s2.sectors s2.candidates
  ring_now k =
      subst (λ n. KeepsRing new n s2.candidates) (sym reads.same.sectors)
      (subst (λ (d : Candidates). KeepsRing new s1.sectors d) (sym reads.candidates)
      (keeps_batch mid new s1.sectors s1.candidates plan unsettled (ap (λ (b : Staged). b.live) batch) (inl (ap (λ (b : Staged). b.all) batch)) (inr (ap (λ (b : Staged). b.kept) batch)) k))

  shut_now : (s : ℕ) → is_closed new.plan s ≡ is_closed mid.plan s
  shut_now s = ap (λ (p : Plan). is_closed p s) plan

  cached_now : KeepsRingOn new s2 → AgreesOutside (IsClosed old.plan) (content_over old (content s0)) (content_over new (content s2)) → AreCached new.cache (content_over new (content s2))
  cached_now k over = elim own [
    | inl read ↦
        cached_reread mid.plan old.cache new.cache (content_over old (content s0)) (content_over new (content s2)) (content s1) (subst (λ (l : Slots). EachReread mid.plan l new.cache) same each) read kept.1.cached
        (λ s. ⊎_elim (λ e. inl e) (λ shut. inr (closed_still old mid s journal ∙ shut)) (over.each s))
        (λ s shut. own_over new s2 k is2 s (shut_now s ∙ shut) ∙ ap (λ (c : Content). sector c s) still)
    | inr stood ↦
        cached_all old.cache new.cache (content_over old (content s0)) (content_over new (content s2)) (stood.1 ∙ same) kept.1.cached
        (λ s. ⊎_elim (λ e. e)
        (λ shut. own_over new s2 k is2 s (shut_now s ∙ closed_still old mid s journal ∙ shut) ∙ ap (λ (c : Content). sector c s) (still ∙ ap content_of stood.0.candidates) ∙ sym (own_over old s0 (kept.0, kept.1.ring) is0 s shut))
        (over.each s))
  ]

  made : (target : Content) → (RingDurable old mid s0 s1 target → AgreesOutside (IsClosed old.plan) (content_over old (content s0)) (content_over new (content s2))) → RingDurable old mid s0 s1 target → MakesDurable old new s0 s2 target
  made target over r =
      let k : KeepsRingOn new s2 = (reads.same.tells ∙ r.keeps.0, ring_now r.keeps.1) in
      record {
        keeps = (k.0, record { ring = k.1; cached = cached_now k (over r) });
        settled = subst (λ (d : Candidates). d ≡ only (content_of d)) (sym reads.candidates) r.settled;
        stands = subst (λ (c : Content). StandsFor old.plan (content s0) c (durable_of new (content s2))) (sym still) (subst (λ (d : Content). StandsFor old.plan (content s0) (content s1) d) durable_now r.stands);
        agrees = subst (λ (d : Content). AgreesOutside (IsClosed old.plan) target d) durable_now r.agrees;
        live = λ s l. r.live s (⊎_elim
            (λ (put : names new.batch.all s ≡ true). inl (ap (λ (b : Staged). names b.all s) (sym batch) ∙ put))
            (λ named. inr (subst (λ (d : Content). IsNamed (homes_of (journal_of mid.plan) d) s) still (subst (λ (p : Plan). IsNamed (homes_of (journal_of p) (content s2)) s) plan named)))
            l);
      }

  -- after a commit
  pub made_durable : mid.batch.all ≡ [] → RingDurable old mid s0 s1 (content_over old (content s0)) → MakesDurable old new s0 s2 (content_over old (content s0))
  made_durable none r =
      let is : durable_of mid (content s1) ≡ content_over new (content s2) = durable_now ∙ sym (ap (λ (l : List Put). overlay l (durable_of new (content s2))) (ap (λ (b : Staged). b.all) batch ∙ none)) in
      made (content_over old (content s0)) (λ r. subst (λ (d : Content). AgreesOutside (IsClosed old.plan) (content_over old (content s0)) d) is r.agrees) r

  -- after a checkpoint
  pub made_home : mid.batch.all ≡ old.batch.all → RingCheckpoints old mid s0 s1 (durable_of old (content s0)) → Checkpoints old new s0 s2 (durable_of old (content s0))
  made_home all r =
      let is : overlay old.batch.all (durable_of mid (content s1)) ≡ content_over new (content s2) =
      ap (overlay old.batch.all) durable_now ∙ sym (ap (λ (l : List Put). overlay l (durable_of new (content s2))) (ap (λ (b : Staged). b.all) batch ∙ all)) in
      record {
        settles = made (durable_of old (content s0))
            (λ q. subst (λ (d : Content). AgreesOutside (IsClosed old.plan) (content_over old (content s0)) d) is (overlay_agrees old.batch.all (IsClosed old.plan) (durable_of old (content s0)) (durable_of mid (content s1)) q.agrees)) r.settles;
        empty = ap (λ (p : Plan). p.header.start) plan ∙ r.empty ∙ sym (ap (λ (p : Plan). p.header.end) plan);
        durable = sym durable_now ∙ r.durable ∙ sym still;
      }

-- what was read again, by what the flag says
pub own_by : {T E : Type 0} (result : Result T E) (idle : Bool) (A B : Type 0) → (idle ≡ false → OnOk result A) → (idle ≡ true → B) → OnOk result (A ⊎ B)
own_by (Ok x) idle A B read stood = elim (cases_Bool idle) [ inl quiet ↦ inr (stood quiet) | inr busy ↦ inl (read busy) ]
own_by (Err e) idle A B read stood = tt

pub on_ok : {T E : Type 0} (result : Result T E) (A B : Type 0) → OnOk result A → (A → B) → OnOk result B
on_ok (Ok x) A B a f = f a
on_ok (Err e) A B a f = tt

pub recalled_from : (store : Store) (at : ℕ) (result : Option (Bor (List ℕ))) → store.faults ≡ 0 → MatchOption result (holds store.cache at ≡ false) (λ bytes. (put : Put) × (slot_of store.cache at ≡ Some put) × (put.at ≡ at) × (bytes.now ≡ put.bytes))
    → MatchOption result (store.faults ≡ 0 → holds store.cache at ≡ false) (λ bytes. IsRecalled store at bytes.now)
recalled_from store at None none h = λ _. h
recalled_from store at (Some bytes) none (put, there, of, is) = record { none = none; put = put; there = there; of = of; is = is }

-- a sector was read, put or spilled: its slot keeps it, and no other sector changed
pub keeps_some : (old new : Store) (sectors : ℕ) (before after : Candidates) (at : ℕ) (bytes : List ℕ) → KeepsRing new sectors after → IsKept old.cache at bytes new.cache → AreCached old.cache (content_over old (content_of before)) → sector (content_over new (content_of after)) at ≡ bytes
    → ((s : ℕ) → s ≢ at → sector (content_over new (content_of after)) s ≡ sector (content_over old (content_of before)) s) → Keeps new sectors after
keeps_some old new sectors before after at bytes ring (put, of, same, cache) are value others = record {
  ring = ring;
  cached = subst (λ (l : Slots). AreCached l (content_over new (content_of after))) (sym cache)
      (cached_set old.cache (content_over old (content_of before)) (content_over new (content_of after)) at (Some put) are (λ p is. picked p is) others);
}
  where
    good : Option Put → Type 0
    good None = Unit {0}
    good (Some p) = (p.at ≡ at) × (sector (content_over new (content_of after)) at ≡ p.bytes)

    picked : (p : Put) → Some put ≡ Some p → (p.at ≡ at) × (sector (content_over new (content_of after)) at ≡ p.bytes)
    picked p is = subst good is (of, value ∙ sym same)

-- a spill of a sector failed: its slot is empty, and no other sector changed
pub keeps_none : (old new : Store) (sectors : ℕ) (before after : Candidates) (at : ℕ) → KeepsRing new sectors after → new.cache ≡ with_slot old.cache at None → AreCached old.cache (content_over old (content_of before))
    → ((s : ℕ) → s ≢ at → sector (content_over new (content_of after)) s ≡ sector (content_over old (content_of before)) s) → Keeps new sectors after
keeps_none old new sectors before after at ring cache are others = record {
  ring = ring;
  cached = subst (λ (l : Slots). AreCached l (content_over new (content_of after))) (sym cache)
      (cached_set old.cache (content_over old (content_of before)) (content_over new (content_of after)) at None are (λ p is. absurd (cc is)) others);
}

-- a content with one sector put, or as it was
pub put_here : (c d : Content) (at : ℕ) (value : List ℕ) → d ≡ set c at value → at < length c → sector d at ≡ value
put_here c d at value is inside = ap (λ (x : Content). sector x at) is ∙ get_or-set_same c at value [] inside

pub put_elsewhere : (c d : Content) (at s : ℕ) (value : List ℕ) → (d ≡ set c at value) ⊎ (d ≡ c) → s ≢ at → sector d s ≡ sector c s
put_elsewhere c d at s value (inl is) apart = ap (λ (x : Content). sector x s) is ∙ get_or-set_other c at s value [] apart
put_elsewhere c d at s value (inr is) apart = ap (λ (x : Content). sector x s) is

-- reads give as many sectors as the disk has
pub length-over : (store : Store) (disk : State) → IsDisk disk → IsTrue disk.tells → length (content_over store (content disk)) ≡ disk.sectors
length-over store disk is tells = length-overlay store.batch.all (durable_of store (content disk)) ∙ length-durable store (content disk) ∙ length-map disk.candidates last ∙ is.size tells

-- with empty slots a store keeps what it keeps of its journal
pub keeps_empty : (store : Store) (sectors : ℕ) (candidates : Candidates) (count : ℕ) → KeepsRing store sectors candidates → store.cache ≡ replicate count None → Keeps store sectors candidates
keeps_empty store sectors candidates count ring empty = record {
  ring = ring;
  cached = subst (λ (l : Slots). AreCached l (content_over store (content_of candidates))) (sym empty) (cached_none count (content_over store (content_of candidates)));
}

-- slots that are the same keep the same of a content that is the same
pub cached_still : (old new : Store) (before after : Candidates) → new.cache ≡ old.cache → content_over new (content_of after) ≡ content_over old (content_of before) → AreCached old.cache (content_over old (content_of before)) → AreCached new.cache (content_over new (content_of after))
cached_still old new before after cache same are =
    subst (λ (l : Slots). AreCached l (content_over new (content_of after))) (sym cache) (cached_same old.cache (content_over old (content_of before)) (content_over new (content_of after)) (sym same) are)

-- the bytes that slots side by side keep are those that reads give
pub run_held : (store : Store) (disk : State) (at many : ℕ) (result : Option (Bor (List ℕ))) → (store.faults ≡ 0 → IsTrue disk.tells → Keeps store disk.sectors disk.candidates) → IsTrue disk.tells → IfSome result (λ bytes. (store.faults ≡ 0) × KeepsRun store.cache at many bytes.now)
    → IfSome result (λ bytes. bytes.now ≡ run_of (content_over store (content disk)) at many)
run_held store disk at many None kept tells held = tt
run_held store disk at many (Some bytes) kept tells (none, run) = run (content_over store (content disk)) (kept none tells).cached
