-- What a spill makes of a space.
use Rattle.std.proofs.Common.{◌≡◌, ◌≢◌, ◌⊎◌, ℕ, ◌/◌, ◌<◌, Bool, true, false, ◌&&◌, List, [], ◌∷◌, ◌++◌, inl, inr, ⊎_elim, length, set, refl, sym, ◌∙◌, ap, subst, arith, length-append, length-set, get_or-set_same, get_or-set_other}
use Rattle.std.specs.Cmp.{both_ways}
use Rattle.std.specs.Prelude.{IsTrue, ◌↔◌}
use Rattle.std.proofs.lemmas.Bool.{and_from, and_parts, cases_eq, cases_lt}
use Rattle.std.proofs.lemmas.List.{get_or-map, set_comm, set-get_or, set-set, set_past}
use Rattle.sector_disk.specs.Disk.{Candidates, IsDisk, MayHaveWritten, State, candidates_of, content, content_of, with_candidate}
use Rattle.sector_disk.specs.Lists.{Content, last}
use Rattle.sector_disk.specs.Space.{MayHaveSpilled, Spills}
use Rattle.sector_disk.proofs.Candidates.{content_of-with_candidate}
use Rattle.jnl_format.specs.Recovery.{homes_of, replayed, text_of, with_homes}
use Rattle.jnl_format.specs.Text.{bytes_at, text_homes}
use Rattle.jnl_format.specs.declared.blocks.Home.{Home}
use Rattle.jnl_format.specs.Named.{IsNamed}
use Rattle.jnl_ring.specs.Span.{sector_after}
use Rattle.jnl_ring.proofs.RingLaws.{in_journal}
use Rattle.jnl_ring.proofs.Wrap.{distance_short}
use Rattle.jnl_replay.specs.Plan.{journal_of}
use Rattle.jnl_replay.specs.declared.plan.Plan.{Plan}
use Rattle.jnl_store.specs.Batch.{Staged, names}
use Rattle.jnl_store.specs.InUse.{IsInUse, keeps_lists}
use Rattle.jnl_store.specs.Journal.{IsClosed, IsSpilled}
use Rattle.jnl_store.specs.Overlay.{overlay}
use Rattle.jnl_store.specs.Plan.{span_of}
use Rattle.jnl_store.specs.Spaces.{over}
use Rattle.jnl_store.specs.Store.{content_over, durable_of}
use Rattle.jnl_store.specs.declared.store.Store.{Store}
use Rattle.jnl_store.proofs.Batches.{overlay-apart}
use Rattle.jnl_store.proofs.Images.{closed_info, closed_own}
use Rattle.jnl_store.proofs.RingKept.{IsFree, KeepsLists, homes_same, kept_over, lists_from, lists_parts, text_same}
use Rattle.jnl_store.proofs.RingStages.{span_in_use, start_in}
use Rattle.jnl_store.proofs.SpacedSame.{closed_same, content_same, durable_same, homes_still, live_same}

-- the candidates of one sector alone changed, and there are several of them, or nothing changed
pub record Changes (at : ℕ) (old new : Candidates) : Type 0 where
  pub size : length new ≡ length old
  pub other : (s : ℕ) → s ≢ at → candidates_of new s ≡ candidates_of old s
  pub more : (1 < length (candidates_of new at)) ⊎ (new ≡ old)

here_is : (old : Candidates) (at : ℕ) (value : List ℕ) → at < length old → candidates_of (with_candidate old at value) at ≡ candidates_of old at ++ value ∷ []
here_is old at value inside = get_or-set_same old at (candidates_of old at ++ value ∷ []) [] inside

pub changes_one : (old : Candidates) (at : ℕ) (value : List ℕ) → at < length old → 0 < length (candidates_of old at) → Changes at old (with_candidate old at value)
changes_one old at value inside some = record {
  size = length-set old at (candidates_of old at ++ value ∷ []);
  other = λ s away. get_or-set_other old at s (candidates_of old at ++ value ∷ []) [] away;
  more = inl (omega (arith, some, ap length (here_is old at value inside), length-append (candidates_of old at) (value ∷ [])));
}

pub changes_maybe : (old new : Candidates) (at : ℕ) (value : List ℕ) → at < length old → 0 < length (candidates_of old at) → MayHaveWritten old at value new → Changes at old new
changes_maybe old new at value inside some (inl same) = record { size = ap length same; other = λ s away. ap (λ (d : Candidates). candidates_of d s) same; more = inr same }
changes_maybe old new at value inside some (inr (inl one)) = subst (Changes at old) (sym one) (changes_one old at value inside some)
changes_maybe old new at value inside some (inr (inr back)) =
    let once = changes_one old at value inside some in
    let mid = with_candidate old at value in
    let again = last (candidates_of old at) in
    let within_mid : at < length mid = omega (arith, inside, once.size) in
    subst (Changes at old) (sym back.1) (record {
      size = length-set mid at (candidates_of mid at ++ again ∷ []) ∙ once.size;
      other = λ s away. get_or-set_other mid at s (candidates_of mid at ++ again ∷ []) [] away ∙ once.other s away;
      more = inl
          (omega
          (arith, some, ap length (here_is mid at again within_mid), length-append (candidates_of mid at) (again ∷ []), ap length (here_is old at value inside), length-append (candidates_of old at) (value ∷ [])));
    })

-- a sector that isn't named may be set before or behind
with_homes_apart : (text : List ℕ) (homes : List Home) (c : Content) (at : ℕ) (value : List ℕ) → (IsNamed homes at → ⊥) → with_homes text homes (set c at value) ≡ set (with_homes text homes c) at value
with_homes_apart text [] c at value other = refl
with_homes_apart text (h ∷ hs) c at value other =
    ap (with_homes text hs) (sym (set_comm c h.sector at (bytes_at text h.place 512) value (λ e. other (inl e)))) ∙ with_homes_apart text hs (set c h.sector (bytes_at text h.place 512)) at value (λ named. other (inr named))

-- A sector that may be spilled is none that the journal has a part in.
pub free_of : (plan : Plan) (rest : IsInUse plan) (disk : State) (at : ℕ) → (IsClosed plan at → ⊥) → at ≢ 2 → (IsNamed (homes_of (journal_of plan) (content disk)) at → ⊥) → IsFree plan disk at
free_of plan rest disk at open_at no_header idle = record {
  volume = λ same. no_header (sym same);
  info = λ same. open_at (closed_info plan at (sym same));
  header = λ same. open_at (closed_own plan at (omega (arith, same)) (omega (arith, same, rest.least)));
  text = λ k less same.
      let short = distance_short plan.info.size plan.header.start plan.header.end rest.header.start_low rest.header.end_low rest.header.start_high rest.header.end_high in
      let there = in_journal (span_of plan) plan.header.start k (span_in_use plan rest) (start_in plan rest) rest.header.start_whole (omega (arith, less, short)) in
      open_at (closed_own plan at (omega (arith, same, there.0)) (omega (arith, same, there.1)));
  homes = idle;
}

-- A sector with several candidates is none of these, where all is kept.
several_free : (plan : Plan) (live : List Home) (disk : State) (at : ℕ) → KeepsLists plan live disk → 1 < length (candidates_of disk.candidates at) → IsFree plan disk at
several_free plan live disk at k several =
    let not_one : (s : ℕ) → length (candidates_of disk.candidates s) ≡ 1 → s ≢ at = λ s one same. omega (arith, several, subst (λ n. length (candidates_of disk.candidates n) ≡ 1) same one) in
    record {
      volume = not_one 2 k.text.journal.volume_one;
      info = not_one plan.place.info_sector k.text.journal.info_one;
      header = not_one (plan.info.offset / 512) k.text.journal.header_one;
      text = λ i less. not_one (sector_after (span_of plan) plan.header.start i) (k.text.stable i less);
      homes = λ named. not_one at (k.named at named) refl;
    }

-- what is live is kept by a spill
pub kept_spill : (plan : Plan) (rest : IsInUse plan) (live : List Home) (old new : State) (at : ℕ) → IsDisk old → IsDisk new → Changes at old.candidates new.candidates → IsFree plan old at → KeepsLists plan live old → KeepsLists plan live new
kept_spill plan rest live old new at had is changes free k = kept_over plan rest live old new had is at changes.size changes.other k free

-- what a space tells doesn't change by a spill
pub kept_both : (plan : Plan) (rest : IsInUse plan) (live : List Home) (all kept : Bool) (old new : State) (at : ℕ) → IsDisk old → IsDisk new → Changes at old.candidates new.candidates → (IsTrue (keeps_lists plan old.candidates live && all && kept) → IsFree plan old at)
    → (keeps_lists plan new.candidates live && all && kept) ≡ (keeps_lists plan old.candidates live && all && kept)
kept_both plan rest live all kept old new at had is changes free =
    let L = keeps_lists plan old.candidates live in
    let M = keeps_lists plan new.candidates live in
    both_ways (M && all && kept) (L && all && kept)
    (λ now.
    let p = and_parts (M && all) kept now in
    let q = and_parts M all p.0 in
    let back : L ≡ true = ⊎_elim
    (λ several. let k = lists_parts plan live new q.0 in lists_from plan live old (kept_over plan rest live new old is had at (sym changes.size) (λ s away. sym (changes.other s away)) k (several_free plan live new at k several)))
    (λ same. ap (λ (d : Candidates). keeps_lists plan d live) (sym same) ∙ q.0)
    changes.more in
    and_from (L && all) kept (and_from L all back q.1) p.1)
    (λ was.
    let p = and_parts (L && all) kept was in
    let q = and_parts L all p.0 in
    and_from (M && all) kept (and_from M all (lists_from plan live new (kept_spill plan rest live old new at had is changes (free was) (lists_parts plan live old q.0))) q.1) p.1)

pub told_both : (t a b : Bool) → (t ≡ true → a ≡ b) → (t && a) ≡ (t && b)
told_both true a b same = same refl
told_both false a b same = refl

more_still : (d : Candidates) (at : ℕ) (value : List ℕ) (s : ℕ) → 1 < length (candidates_of d s) → 1 < length (candidates_of (with_candidate d at value) s)
more_still d at value s more = elim (cases_lt at (length d)) [
  | inl inside ↦ elim (cases_eq s at) [
    | inl here ↦
        let same : candidates_of (with_candidate d at value) s ≡ candidates_of d at ++ value ∷ [] = ap (λ k. candidates_of (with_candidate d at value) k) here ∙ here_is d at value inside in
        omega (arith, more, ap length same, ap (λ k. length (candidates_of d k)) here, length-append (candidates_of d at) (value ∷ []))
    | inr other ↦ omega (arith, more, ap length (get_or-set_other d at s (candidates_of d at ++ value ∷ []) [] other))
  ]
  | inr past ↦ subst (λ (e : Candidates). 1 < length (candidates_of e s)) (sym (set_past d at (candidates_of d at ++ value ∷ []) past)) more
]

more_before : (d : Candidates) (at : ℕ) (value : List ℕ) (s : ℕ) → 1 < length (candidates_of (with_candidate d at value) s) → (1 < length (candidates_of d s)) ⊎ (s ≡ at)
more_before d at value s more = elim (cases_eq s at) [
  | inl here ↦ inr here
  | inr other ↦ inl (omega (arith, more, ap length (get_or-set_other d at s (candidates_of d at ++ value ∷ []) [] other)))
]

module _ (first second : ℕ) (old new : Store) (plan : new.plan ≡ old.plan) (batch : new.batch ≡ old.batch) (before after : State) (at : ℕ) (value : List ℕ) (is : IsDisk before) (tells : IsTrue before.tells) (inside : at < before.sectors)
    (open_at : IsClosed old.plan at → ⊥) (idle : names old.batch.all at ≡ false) (now_is : IsDisk after) (k : KeepsLists old.plan old.batch.live before) (free : IsFree old.plan before at) where
  within : at < length before.candidates
  within = omega (arith, inside, is.size tells)

  after_changes : after.candidates ≡ with_candidate before.candidates at value → Changes at before.candidates after.candidates
  after_changes written = subst (Changes at before.candidates) (sym written) (changes_one before.candidates at value within (is.each at within))

  text_still : after.candidates ≡ with_candidate before.candidates at value → text_of (journal_of old.plan) (content after) ≡ text_of (journal_of old.plan) (content before)
  text_still written = let ch = after_changes written in text_same old.plan old.rest old.batch.live before after is now_is at ch.size ch.other k free

  homes_kept : after.candidates ≡ with_candidate before.candidates at value → homes_of (journal_of new.plan) (content after) ≡ homes_of (journal_of old.plan) (content before)
  homes_kept written = let ch = after_changes written in ap (λ (p : Plan). homes_of (journal_of p) (content after)) plan ∙ homes_same old.plan old.rest old.batch.live before after is now_is at ch.size ch.other k free

  durable_set : after.candidates ≡ with_candidate before.candidates at value → content after ≡ set (content before) at value → durable_of new (content after) ≡ set (durable_of old (content before)) at value
  unfolding durable_of
  durable_set written now =
      ap (λ (p : Plan). replayed (journal_of p) (content after)) plan
      ∙ ap (λ (t : List ℕ). with_homes t (text_homes old.plan.header.order old.plan.header.blhdr t (length t) 0) (content after)) (text_still written)
      ∙ ap (with_homes (text_of (journal_of old.plan) (content before)) (homes_of (journal_of old.plan) (content before))) now
      ∙ with_homes_apart (text_of (journal_of old.plan) (content before)) (homes_of (journal_of old.plan) (content before)) (content before) at value free.homes

  content_set : after.candidates ≡ with_candidate before.candidates at value → content after ≡ set (content before) at value → content_over new (content after) ≡ set (content_over old (content before)) at value
  content_set written now =
      ap (λ (b : Staged). overlay b.all (durable_of new (content after))) batch ∙ ap (overlay old.batch.all) (durable_set written now) ∙ overlay-apart old.batch.all (durable_of old (content before)) at value idle

  spilled_with : (d : Candidates) (s : ℕ) → d ≡ with_candidate before.candidates at value → IsSpilled old.plan d s ↔ (IsSpilled old.plan before.candidates s ⊎ (s ≡ at))
  spilled_with d s written = (
    λ now. ⊎_elim (λ more. inl (more, now.1)) (λ here. inr here) (more_before before.candidates at value s (subst (λ (e : Candidates). 1 < length (candidates_of e s)) written now.0)),
    λ was. ⊎_elim
        (λ more. (subst (λ (e : Candidates). 1 < length (candidates_of e s)) (sym written) (more_still before.candidates at value s more.0), more.1))
        (λ here.
        let long : 1 < length (candidates_of (with_candidate before.candidates at value) at) = omega (arith, is.each at within, ap length (here_is before.candidates at value within), length-append (candidates_of before.candidates at) (value ∷ [])) in (
          subst (λ (e : Candidates). 1 < length (candidates_of e s)) (sym written) (subst (λ k. 1 < length (candidates_of (with_candidate before.candidates at value) k)) (sym here) long),
          λ shut. open_at (subst (IsClosed old.plan) here shut),
        ))
        was,
  )

  pub spills : after.candidates ≡ with_candidate before.candidates at value → Spills (over first second old before) at value (over first second new after)
  spills written =
      let now : content after ≡ set (content before) at value = ap content_of written ∙ content_of-with_candidate before.candidates at value in
      record {
        content = content_set written now;
        durable = durable_set written now;
        spilled = λ s. subst (λ (p : Plan). IsSpilled p after.candidates s ↔ (IsSpilled old.plan before.candidates s ⊎ (s ≡ at))) (sym plan) (spilled_with after.candidates s written);
        live = λ s. live_same old new (content before) (content after) s batch (homes_kept written);
        closed = λ s. closed_same old new s plan;
      }

  back_again : after.candidates ≡ with_candidate (with_candidate before.candidates at value) at (last (candidates_of before.candidates at)) → content after ≡ content before
  back_again back =
      ap content_of back ∙ content_of-with_candidate (with_candidate before.candidates at value) at (last (candidates_of before.candidates at))
      ∙ ap (λ (c : Content). set c at (last (candidates_of before.candidates at))) (content_of-with_candidate before.candidates at value)
      ∙ set-set (content before) at value (last (candidates_of before.candidates at))
      ∙ ap (λ (v : List ℕ). set (content before) at v) (sym (get_or-map last before.candidates at [] [] within)) ∙ set-get_or (content before) at []

  pub may_spill : MayHaveWritten before.candidates at value after.candidates → MayHaveSpilled (over first second old before) at value (over first second new after)
  may_spill (inl same) = record {
    content = inr (content_same old new (content before) (content after) plan batch (ap content_of same));
    durable = inr (durable_same old new (content before) (content after) plan (ap content_of same));
    spilled = λ s now. inl (subst (λ (p : Plan). IsSpilled p before.candidates s) plan (subst (λ (d : Candidates). IsSpilled new.plan d s) same now));
    still = λ s was. subst (λ (d : Candidates). IsSpilled new.plan d s) (sym same) (subst (λ (p : Plan). IsSpilled p before.candidates s) (sym plan) was);
    live = λ s. live_same old new (content before) (content after) s batch (homes_still old new (content before) (content after) plan (ap content_of same));
    closed = λ s. closed_same old new s plan;
  }
  may_spill (inr (inl one)) =
      let p = spills one in
      record { content = inl p.content; durable = inl (p.durable, (p.spilled at).1 (inr refl)); spilled = λ s now. (p.spilled s).0 now; still = λ s was. (p.spilled s).1 (inl was); live = p.live; closed = p.closed }
  may_spill (inr (inr back)) =
      let kept = back_again back.1 in
      let value_2 = last (candidates_of before.candidates at) in
      let mid = with_candidate before.candidates at value in
      record {
        content = inr (content_same old new (content before) (content after) plan batch kept);
        durable = inr (durable_same old new (content before) (content after) plan kept);
        spilled = λ s now.
            let n : IsSpilled old.plan after.candidates s = subst (λ (p : Plan). IsSpilled p after.candidates s) plan now in
            ⊎_elim (λ once. ⊎_elim (λ more. inl (more, n.1)) (λ here. inr here) (more_before before.candidates at value s once)) (λ here. inr here)
            (more_before mid at value_2 s (subst (λ (d : Candidates). 1 < length (candidates_of d s)) back.1 n.0));
        still = λ s was.
            subst (λ (p : Plan). IsSpilled p after.candidates s) (sym plan)
            (subst (λ (d : Candidates). 1 < length (candidates_of d s)) (sym back.1) (more_still mid at value_2 s (more_still before.candidates at value s was.0)), was.1);
        live = λ s. live_same old new (content before) (content after) s batch (homes_still old new (content before) (content after) plan kept);
        closed = λ s. closed_same old new s plan;
      }
