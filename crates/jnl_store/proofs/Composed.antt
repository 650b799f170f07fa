-- A commit that may have checkpointed first.
use Rattle.std.proofs.Common.{◌≡◌, ◌⊎◌, ℕ, ◌*◌, ◌<◌, true, false, List, [], inl, inr, ⊎_elim, length, sym, ◌∙◌, ap, subst, arith}
use Rattle.std.specs.Prelude.{Result, Ok, Err, OnOk}
use Rattle.std.proofs.lemmas.Bool.{cases_lt}
use Rattle.std.proofs.lemmas.List.{get_or_past}
use Rattle.volume_header.specs.Header.{header_of}
use Rattle.volume_header.specs.Refusal.{header_refusal}
use Rattle.sector_disk.specs.Lists.{Content, sector}
use Rattle.sector_disk.specs.Disk.{State, Candidates, CrashesLeave, SameDisk, SameSink, Untouched, candidates_of, content, content_of, only}
use Rattle.sector_disk.specs.Space.{AgreesOutside}
use Rattle.sector_disk.proofs.Stages.{leaves_both, leaves_with, length-only}
use Rattle.jnl_format.specs.Info.{info_of, IsInfo}
use Rattle.jnl_format.specs.Recovery.{header_of_volume, homes_of, journaling_version, replayed}
use Rattle.jnl_format.specs.Named.{IsNamed}
use Rattle.jnl_format.specs.declared.structures.Info.{Info}
use Rattle.jnl_format.specs.Keeping.{KeepsHeader}
use Rattle.jnl_format.proofs.InfoBack.{no_info_block}
use Rattle.jnl_format.proofs.Recovering.{apart_sector}
use Rattle.jnl_format.specs.Keeping.{IsSame}
use Rattle.jnl_replay.specs.Plan.{journal_of}
use Rattle.jnl_replay.specs.declared.plan.Plan.{Plan}
use Rattle.jnl_store.specs.Appending.{MayAppend}
use Rattle.jnl_store.specs.InUse.{keeps_lists}
use Rattle.jnl_store.specs.Journal.{IsAtRest, IsClosed, IsSpilled, are_open}
use Rattle.jnl_store.specs.Overlay.{overlay}
use Rattle.jnl_store.specs.SpaceLaws.{length-durable}
use Rattle.jnl_store.specs.Standing.{RingCheckpoints, RingDurable, StandsFor, StandsForDurable, StandsForEither, StandsForOne}
use Rattle.jnl_store.specs.Batch.{names}
use Rattle.jnl_store.specs.Store.{IsLive, KeepsRing, KeepsRingOn, SameJournal, content_over, durable_of}
use Rattle.jnl_store.specs.declared.puts.Put.{Put}
use Rattle.jnl_store.specs.declared.store.Store.{Store}
use Rattle.jnl_store.proofs.Attached.{only_length}
use Rattle.jnl_store.proofs.Grown.{closed_over, stands_over}
use Rattle.jnl_store.proofs.Images.{agrees_both, agrees_with, closed_parts, overlay_agrees}
use Rattle.jnl_store.proofs.Journals.{HoldsJournal}
use Rattle.jnl_store.proofs.Quiet.{info_whole, rest_replayed}
use Rattle.jnl_store.proofs.Settling.{kept_from, kept_parts, lists_of}

-- with no list live, a store that settled has checkpointed
pub settled_empty : {T E : Type 0} (result : Result T E) (store new : Store) (s0 s1 : State) → store.plan.header.start ≡ store.plan.header.end → new.plan ≡ store.plan → OnOk result (RingDurable store new s0 s1 (durable_of store (content s0))) → OnOk result (RingCheckpoints store new s0 s1 (durable_of store (content s0)))
unfolding durable_of
settled_empty (Ok x) store new s0 s1 empty plan s =
    let at_end : new.plan.header.start ≡ new.plan.header.end = ap (λ (p : Plan). p.header.start) plan ∙ empty ∙ sym (ap (λ (p : Plan). p.header.end) plan) in
    let rest : IsAtRest new.plan = record { header = new.rest.header; least = new.rest.least; most = new.rest.most; whole = new.rest.whole; empty = at_end; old = new.rest.old } in
    record { settles = s; empty = at_end; durable = rest_replayed new.plan (content s1) rest }
settled_empty (Err e) store new s0 s1 empty plan s = tt

-- the volume header isn't a sector of the journal
pub two_open : (plan : Plan) (c : Content) → HoldsJournal plan c → IsClosed plan 2 → ⊥
two_open plan c h shut =
    let i = info_whole plan c h in
    ⊎_elim
    (λ inside. ⊎_elim (λ a. omega (arith, a, inside.0)) (λ b. omega (arith, b, inside.1)) (apart_sector (length c * 512) plan.place.info_sector plan.info 2 i i.no_header))
    (λ q. no_info_block (sector c 2) (length c) plan.place.info_sector h.place.accepted (subst (λ (v : Info). IsInfo (length c * 512) plan.place.info_sector v) (sym (ap (λ k. info_of (sector c k)) q ∙ h.info)) i))
    (closed_parts plan 2 shut)

none_spilled : (c : Content) (s : ℕ) → 1 < length (candidates_of (only c) s) → ⊥
none_spilled c s more = ⊎_elim (λ inside. omega (arith, more, only_length c s inside)) (λ past. omega (arith, more, ap length (get_or_past (only c) s [] (omega (arith, past, length-only c))))) (cases_lt s (length c))

module _ (store mid : Store) (s0 s1 : State) (kept : KeepsRingOn store s0) (same : SameDisk s0 s1) (j : SameJournal store mid) (all : mid.batch.all ≡ store.batch.all) (made : (Untouched s0 s1 × (mid ≡ store)) ⊎ RingCheckpoints store mid s0 s1 (durable_of store (content s0))) where
  pub keeps_mid : KeepsRingOn mid s1
  keeps_mid = ⊎_elim
      (λ u. subst (λ (st : Store). KeepsRingOn st s1) (sym u.1) (same.tells ∙ kept.0, subst (λ n. KeepsRing store n s1.candidates) (sym same.sectors) (subst (λ (d : Candidates). KeepsRing store s0.sectors d) (sym u.0.candidates) kept.1)))
      (λ c. c.settles.keeps) made

  pub agrees_mid : AgreesOutside (IsClosed store.plan) (durable_of store (content s0)) (durable_of mid (content s1))
  agrees_mid = ⊎_elim
      (λ u.
      let e : durable_of mid (content s1) ≡ durable_of store (content s0) = ap (λ (st : Store). durable_of st (content s1)) u.1 ∙ ap (λ (d : Candidates). durable_of store (content_of d)) u.0.candidates in
      record { size = ap length e; each = λ s. inl (ap (λ (d : Content). sector d s) e) })
      (λ c. c.settles.agrees) made

  size_mid : length (content s1) ≡ length (content s0)
  size_mid = sym (length-durable mid (content s1)) ∙ agrees_mid.size ∙ length-durable store (content s0)

  pub stands_mid : (image recovered : Content) → StandsFor mid.plan (content s1) image recovered → StandsFor store.plan (content s0) image recovered
  stands_mid image recovered st = ⊎_elim
      (λ u. subst (λ (d : Candidates). StandsFor store.plan (content_of d) image recovered) u.0.candidates (subst (λ (x : Store). StandsFor x.plan (content s1) image recovered) u.1 st))
      (λ c. stands_over store.plan mid.plan (content s0) (content s1) image recovered size_mid j.place j.info j.order j.blhdr (durable_of mid (content s1)) c.settles.stands st) made

  closed_mid : (s : ℕ) → IsClosed mid.plan s → IsClosed store.plan s
  closed_mid s shut = closed_over mid.plan store.plan s (sym j.place) (sym j.info) shut

  spilled_mid : (s : ℕ) → IsSpilled mid.plan s1.candidates s → IsSpilled store.plan s0.candidates s
  spilled_mid s sp = ⊎_elim
      (λ u. (subst (λ (d : Candidates). 1 < length (candidates_of d s)) u.0.candidates sp.0, λ shut. sp.1 (closed_over store.plan mid.plan s j.place j.info shut)))
      (λ c. absurd (none_spilled (content s1) s (subst (λ (d : Candidates). 1 < length (candidates_of d s)) c.settles.settled sp.0))) made

  target_mid : AgreesOutside (IsClosed store.plan) (content_over store (content s0)) (content_over mid (content s1))
  target_mid = subst (λ (l : List Put). AgreesOutside (IsClosed store.plan) (overlay store.batch.all (durable_of store (content s0))) (overlay l (durable_of mid (content s1)))) (sym all) (overlay_agrees store.batch.all (IsClosed store.plan) (durable_of store (content s0)) (durable_of mid (content s1)) agrees_mid)

  -- a transaction may follow
  pub ready_mid : KeepsHeader (durable_of store (content s0)) (content_over store (content s0)) → (header_of_volume (durable_of store (content s0))).last_mounted_version ≡ journaling_version → MayAppend mid.plan mid.batch.live mid.batch.all s1
  unfolding durable_of
  ready_mid header version =
      let p = kept_parts mid s1.sectors s1.candidates keeps_mid.1.kept in
      let open_two = two_open store.plan (content s0) (lists_of store s0 kept).text.journal.holds in
      let d0 = durable_of store (content s0) in
      let d1 = durable_of mid (content s1) in
      let o0 = content_over store (content s0) in
      let o1 = content_over mid (content s1) in
      let first : sector d1 2 ≡ sector d0 2 = ⊎_elim (λ e. e) (λ shut. absurd (open_two shut)) (agrees_mid.each 2) in
      let second : sector o1 2 ≡ sector o0 2 = ⊎_elim (λ e. e) (λ shut. absurd (open_two shut)) (target_mid.each 2) in
      record {
        tells = keeps_mid.0;
        kept = p.0;
        open_puts = p.1;
        volume = record {
          same = subst (λ (v : List ℕ). IsSame (header_of v) (header_of (sector o1 2))) (sym first) (subst (λ (v : List ℕ). IsSame (header_of (sector d0 2)) (header_of v)) (sym second) header.same);
          accepted = ap (λ (v : List ℕ). header_refusal (header_of v) (length d1)) second ∙ ap (λ n. header_refusal (header_of (sector o0 2)) n) agrees_mid.size ∙ header.accepted;
        };
        version = ap (λ (v : List ℕ). (header_of v).last_mounted_version) first ∙ version;
      }

  -- what a crash leaves in both
  pub crash_both : (s2 : State) → CrashesLeave s0 s1 (StandsForDurable store s0) → SameSink s0 s1 → CrashesLeave s1 s2 (StandsForOne mid.plan s1 (durable_of mid (content s1)) (content_over mid (content s1))) → CrashesLeave s0 s2 (StandsForEither store s0)
  crash_both s2 first sink second =
      leaves_both s0 s1 s2 (StandsForDurable store s0) (StandsForOne mid.plan s1 (durable_of mid (content s1)) (content_over mid (content s1))) (StandsForEither store s0) first sink second
      (λ image p. (p.0, p.1, inl p.2))
      (λ image q. (
        q.0,
        stands_mid image q.0 q.1,
        ⊎_elim
            (λ a. inl (agrees_both (λ s. IsSpilled store.plan s0.candidates s ⊎ IsClosed store.plan s) (durable_of store (content s0)) (durable_of mid (content s1)) q.0
            (agrees_with (IsClosed store.plan) (λ s. IsSpilled store.plan s0.candidates s ⊎ IsClosed store.plan s) (durable_of store (content s0)) (durable_of mid (content s1)) agrees_mid (λ s shut. inr shut))
            (agrees_with (λ s. IsSpilled mid.plan s1.candidates s ⊎ IsClosed mid.plan s) (λ s. IsSpilled store.plan s0.candidates s ⊎ IsClosed store.plan s) (durable_of mid (content s1)) q.0 a (λ s either. ⊎_elim (λ sp. inl (spilled_mid s sp)) (λ shut. inr (closed_mid s shut)) either))))
            (λ t. inr (agrees_both (IsClosed store.plan) (content_over store (content s0)) (content_over mid (content s1)) q.0 target_mid (agrees_with (IsClosed mid.plan) (IsClosed store.plan) (content_over mid (content s1)) q.0 t closed_mid)))
            q.2,
      ))

  live_mid : (s : ℕ) → IsLive mid (content s1) s → IsLive store (content s0) s
  live_mid s l = ⊎_elim
      (λ u. subst (λ (d : Candidates). IsLive store (content_of d) s) u.0.candidates (subst (λ (x : Store). IsLive x (content s1) s) u.1 l))
      (λ c. c.settles.live s l) made

  -- and what stands at the end
  pub settles_both : (new : Store) (s2 : State) → RingDurable mid new s1 s2 (content_over mid (content s1)) → RingDurable store new s0 s2 (content_over store (content s0))
  settles_both new s2 s = record {
    keeps = s.keeps;
    settled = s.settled;
    stands = stands_mid (content s2) (durable_of new (content s2)) s.stands;
    agrees = agrees_both (IsClosed store.plan) (content_over store (content s0)) (content_over mid (content s1)) (durable_of new (content s2)) target_mid (agrees_with (IsClosed mid.plan) (IsClosed store.plan) (content_over mid (content s1)) (durable_of new (content s2)) s.agrees closed_mid);
    live = λ k l. live_mid k (s.live k l);
  }

-- the same store with nothing put
pub keeps_cleared : (store cleared : Store) (disk : State) → cleared.plan ≡ store.plan → cleared.unsettled ≡ store.unsettled → cleared.batch.live ≡ store.batch.live → cleared.batch.all ≡ [] → cleared.batch.kept ≡ [] → KeepsRingOn store disk → KeepsRingOn cleared disk
keeps_cleared store cleared disk plan_is same live none none_kept k = (
  k.0,
  record {
    kept = kept_from cleared disk.sectors disk.candidates (ap (λ (p : Plan). keeps_lists p disk.candidates cleared.batch.live) plan_is ∙ ap (keeps_lists store.plan disk.candidates) live ∙ (kept_parts store disk.sectors disk.candidates k.1.kept).0)
        (ap (are_open cleared.plan disk.sectors) none) (ap (are_open cleared.plan disk.sectors) none_kept);
    settled = λ u. k.1.settled (sym same ∙ u);
  },
)

pub settles_cleared : {T E : Type 0} (result : Result T E) (store cleared new : Store) (s0 s1 : State) → cleared.plan ≡ store.plan → store.batch.all ≡ [] → cleared.batch.all ≡ [] → OnOk result (RingDurable cleared new s0 s1 (durable_of cleared (content s0))) → OnOk result (RingDurable store new s0 s1 (content_over store (content s0)))
unfolding durable_of
settles_cleared (Ok x) store cleared new s0 s1 plan_is none clear s =
    let same : durable_of cleared (content s0) ≡ content_over store (content s0) = ap (λ (p : Plan). replayed (journal_of p) (content s0)) plan_is ∙ sym (ap (λ (l : List Put). overlay l (durable_of store (content s0))) none) in
    record {
      keeps = s.keeps;
      settled = s.settled;
      stands = subst (λ (p : Plan). StandsFor p (content s0) (content s1) (durable_of new (content s1))) plan_is s.stands;
      agrees = subst (λ (p : Plan). AgreesOutside (IsClosed p) (content_over store (content s0)) (durable_of new (content s1))) plan_is (subst (λ (d : Content). AgreesOutside (IsClosed cleared.plan) d (durable_of new (content s1))) same s.agrees);
      live = λ k l. ⊎_elim
          (λ (put : names cleared.batch.all k ≡ true). absurd (let no : false ≡ true = ap (λ (l : List Put). names l k) (sym clear) ∙ put in cc no))
          (λ named. inr (subst (λ (p : Plan). IsNamed (homes_of (journal_of p) (content s0)) k) plan_is named))
          (s.live k l);
    }
settles_cleared (Err e) store cleared new s0 s1 plan_is none clear s = tt

pub crash_cleared : (store cleared : Store) (s0 s1 : State) → cleared.plan ≡ store.plan → CrashesLeave s0 s1 (StandsForDurable cleared s0) → CrashesLeave s0 s1 (StandsForEither store s0)
unfolding durable_of
crash_cleared store cleared s0 s1 plan_is leaves =
    leaves_with s0 s1 (StandsForDurable cleared s0) (StandsForEither store s0) leaves
    (λ image p.
    let q = subst (λ (pl : Plan). (r : Content) × StandsFor pl (content s0) image r × AgreesOutside (λ s. IsSpilled pl s0.candidates s ⊎ IsClosed pl s) (replayed (journal_of pl) (content s0)) r) plan_is p in
    (q.0, q.1, inl q.2))
