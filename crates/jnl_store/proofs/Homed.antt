-- A store after its live sectors were written home.
use Rattle.std.proofs.Common.{◌≡◌, ℕ, ◌/◌, ◌<◌, true, false, List, [], ◌∷◌, Contains, inl, inr, ⊎_elim, length, sym, ◌∙◌, ap, subst, arith, cond}
use Rattle.std.specs.Prelude.{IsTrue}
use Rattle.std.proofs.lemmas.Bool.{cases_eq}
use Rattle.sector_disk.specs.Lists.{Content, put_sectors, sector}
use Rattle.sector_disk.specs.Disk.{State, IsDisk, Mixes, SameDisk, candidates_of, content, content_of, only}
use Rattle.sector_disk.specs.Space.{AgreesOutside}
use Rattle.sector_disk.proofs.Candidates.{content_of-only}
use Rattle.sector_disk.proofs.Stages.{length-only}
use Rattle.jnl_format.specs.Recovery.{homes_of, replayed, text_of}
use Rattle.jnl_format.specs.Text.{text_homes}
use Rattle.jnl_format.specs.declared.blocks.Home.{Home}
use Rattle.jnl_format.specs.declared.structures.Info.{Info}
use Rattle.jnl_format.proofs.Mixing.{length-with_homes}
use Rattle.jnl_format.specs.Named.{IsNamed}
use Rattle.jnl_ring.proofs.Wrap.{distance_ahead}
use Rattle.jnl_replay.specs.Homing.{empty_header, initialised, with_empty_header}
use Rattle.jnl_replay.specs.Plan.{FitsPlan, journal_of}
use Rattle.jnl_replay.specs.declared.plan.Plan.{Plan}
use Rattle.jnl_replay.proofs.Stages.{empty_text}
use Rattle.jnl_store.specs.Batch.{Staged, names}
use Rattle.jnl_store.specs.InUse.{keeps_lists, used_of}
use Rattle.jnl_store.specs.Journal.{IsAtRest, IsClosed, are_open}
use Rattle.jnl_store.specs.Newest.{newest}
use Rattle.jnl_store.specs.Plan.{rested}
use Rattle.jnl_store.specs.Standing.{RingCheckpoints, StandsFor}
use Rattle.jnl_store.specs.Store.{KeepsRingOn, durable_of}
use Rattle.jnl_store.specs.declared.puts.Put.{Put}
use Rattle.jnl_store.specs.declared.store.Store.{Store}
use Rattle.jnl_store.proofs.AtRest.{rested_rests}
use Rattle.jnl_store.proofs.Commits.{own_image}
use Rattle.jnl_store.proofs.Journals.{KeepsJournal}
use Rattle.jnl_store.proofs.One.{length-one, one_else, one_here}
use Rattle.jnl_store.proofs.Quiet.{rest_text}
use Rattle.jnl_store.proofs.RingHome.{end_agrees, end_durable, end_keeps, end_stands}
use Rattle.jnl_store.proofs.RingKept.{KeepsLists, lists_from}
use Rattle.jnl_store.proofs.RingStages.{length-c}
use Rattle.jnl_store.proofs.Settling.{kept_from, kept_parts, lists_of}

-- a journal at rest names no home
rest_homes : (plan : Plan) → IsAtRest plan → (c : Content) → homes_of (journal_of plan) c ≡ []
rest_homes plan rest c = ap (λ (t : List ℕ). text_homes plan.header.order plan.header.blhdr t (length t) 0) (empty_text plan.info plan.header plan.fresh c rest.empty)

-- nothing is live in a journal at rest
pub rest_lists : (plan : Plan) → IsAtRest plan → (disk : State) → KeepsJournal plan disk.candidates → KeepsLists plan [] disk
rest_lists plan rest disk k =
    let homes = rest_homes plan rest (content disk) in
    let used : used_of plan ≡ 0 = distance_ahead plan.info.size plan.header.start plan.header.end (omega (arith, rest.empty)) ∙ omega (arith, rest.empty) in
    record {
      text = record {
        journal = k;
        lists = rest_text plan (content disk) rest;
        stable = λ i less. absurd (omega (arith, less, used));
      };
      named = λ s named. absurd (subst (λ (hs : List Home). IsNamed hs s) homes named);
      table = λ at inside. ap (λ (hs : List Home). newest hs at) (sym homes);
    }

-- a content with one sector replaced is an image while that is written
one_mixes : (c : Content) (at : ℕ) (value : List ℕ) → at < length c → Mixes (only c) at (value ∷ []) (put_sectors c at (value ∷ []))
one_mixes c at value inside = record {
  size = length-one c at value inside ∙ sym (length-only c);
  each = λ s below. elim (cases_eq s at) [
    | inl here ↦ inr (0, omega arith, omega (arith, here), ap (sector (put_sectors c at (value ∷ []))) here ∙ one_here c at value inside)
    | inr other ↦ inl (subst (λ (v : List ℕ). Contains (candidates_of (only c) s) v) (sym (one_else c at value inside s other)) ((own_image c).each s below))
  ];
}

open_rested : (plan : Plan) → plan.fresh ≡ false → (sectors : ℕ) (puts : List Put) → are_open plan sectors puts ≡ true → are_open (rested plan) sectors puts ≡ true
open_rested plan old sectors puts h =
    let info : (let i : Info = cond plan.fresh (initialised plan.info) plan.info in i) ≡ plan.info = ap (λ b. cond b (initialised plan.info) plan.info) old in
    ap (λ (i : Info). are_open (record { place = plan.place; info = i; header = (rested plan).header; fresh = false }) sectors puts) info ∙ h

pub settles_home : (store new : Store) (s0 s1 : State) → KeepsRingOn store s0 → IsDisk s0 → FitsPlan s0.sectors store.plan → SameDisk s0 s1 → s1.candidates ≡ only (with_empty_header store.plan (replayed (journal_of store.plan) (content s0))) → new.plan ≡ rested store.plan → new.batch ≡ record store.batch { live = [] }
    → RingCheckpoints store new s0 s1 (durable_of store (content s0))
unfolding durable_of
settles_home store new s0 s1 kept disk fits same settled plan_is batch_is =
    let plan = store.plan in
    let c0 = content s0 in
    let k = (lists_of store s0 kept).text in
    let r = replayed (journal_of plan) c0 in
    let e = with_empty_header plan r in
    let p = kept_parts store s0.sectors s0.candidates kept.1.kept in
    let is : content s1 ≡ e = ap content_of settled ∙ content_of-only e in
    let at_rest : IsAtRest (rested plan) = rested_rests plan s0.sectors fits in
    let journal : KeepsJournal (rested plan) s1.candidates = subst (KeepsJournal (rested plan)) (sym settled) (end_keeps plan store.rest s0 disk k fits kept.0) in
    let lists : IsTrue (keeps_lists new.plan s1.candidates new.batch.live) =
    ap (λ (q : Plan). keeps_lists q s1.candidates new.batch.live) plan_is ∙ ap (λ (b : Staged). keeps_lists (rested plan) s1.candidates b.live) batch_is ∙ lists_from (rested plan) [] s1 (rest_lists (rested plan) at_rest s1 journal) in
    let opens : (puts : List Put) → are_open plan s0.sectors puts ≡ true → are_open new.plan s1.sectors puts ≡ true = λ puts h. ap (λ (q : Plan). are_open q s1.sectors puts) plan_is ∙ ap (λ n. are_open (rested plan) n puts) same.sectors ∙ open_rested plan store.rest.old s0.sectors puts h in
    let durable : replayed (journal_of new.plan) (content s1) ≡ e = ap (λ (q : Plan). replayed (journal_of q) (content s1)) plan_is ∙ ap (replayed (journal_of (rested plan))) is ∙ end_durable plan store.rest s0 disk k fits kept.0 in
    let long : length r ≡ s0.sectors = length-with_homes (text_of (journal_of plan) c0) (homes_of (journal_of plan) c0) c0 ∙ length-c plan store.rest s0 disk k ∙ disk.size kept.0 in
    let m = one_mixes r (plan.info.offset / 512) (empty_header plan r) (omega (arith, long, fits.inside, fits.least)) in
    record {
      settles = record {
        keeps = (
          same.tells ∙ kept.0,
          record {
            kept = kept_from new s1.sectors s1.candidates lists (ap (λ (b : Staged). are_open new.plan s1.sectors b.all) batch_is ∙ opens store.batch.all p.1) (ap (λ (b : Staged). are_open new.plan s1.sectors b.kept) batch_is ∙ opens store.batch.kept p.2);
            settled = λ u. settled ∙ ap only (sym is);
          },
        );
        settled = settled ∙ ap only (sym is);
        stands = subst (λ (d : Content). StandsFor plan c0 d (replayed (journal_of new.plan) (content s1))) (sym is) (subst (λ (d : Content). StandsFor plan c0 e d) (sym durable) (end_stands plan store.rest s0 disk k fits kept.0 m));
        agrees = subst (λ (d : Content). AgreesOutside (IsClosed plan) r d) (sym durable) (end_agrees plan store.rest s0 disk k fits kept.0 m);
        live = λ s l. ⊎_elim
            (λ (put : names new.batch.all s ≡ true). inl (ap (λ (b : Staged). names b.all s) (sym batch_is) ∙ put))
            (λ named. absurd (subst (λ (hs : List Home). IsNamed hs s) (rest_homes (rested plan) at_rest (content s1)) (subst (λ (q : Plan). IsNamed (homes_of (journal_of q) (content s1)) s) plan_is named)))
            l;
      };
      empty = ap (λ (q : Plan). q.header.start) plan_is ∙ sym (ap (λ (q : Plan). q.header.end) plan_is);
      durable = durable ∙ sym is;
    }
