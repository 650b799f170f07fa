-- A store after a transaction was written behind its live lists, and after a checkpoint and a transaction.
use Rattle.std.proofs.Common.{◌≡◌, ℕ, ◌+◌, ◌-◌, ◌/◌, ◌≤◌, true, false, List, [], ◌++◌, length, drop, ⊎_elim, sym, ◌∙◌, ap, subst, arith}
use Rattle.sector_disk.specs.Lists.{Content, sector}
use Rattle.sector_disk.specs.Disk.{State, Candidates, IsDisk, SameDisk, candidates_of, content, content_of, only}
use Rattle.sector_disk.specs.Space.{AgreesOutside}
use Rattle.sector_disk.proofs.Candidates.{content_of-only}
use Rattle.volume_header.specs.Refusal.{header_refusal}
use Rattle.jnl_format.specs.Header.{header_bytes, header_spelled}
use Rattle.jnl_format.specs.Checksum.{checksum_of}
use Rattle.jnl_format.specs.Recovery.{header_of_volume, homes_of, replayed}
use Rattle.jnl_format.proofs.Headers.{drop_header}
use Rattle.jnl_format.proofs.Volumes.{same_as, same_parts}
use Rattle.jnl_format.specs.Keeping.{IsSame}
use Rattle.jnl_replay.specs.Plan.{FitsPlan, journal_of}
use Rattle.jnl_format.specs.Header.{IsHeader}
use Rattle.jnl_format.specs.declared.structures.Info.{Info}
use Rattle.jnl_replay.specs.declared.plan.Place.{Place}
use Rattle.jnl_replay.specs.declared.plan.Plan.{Plan}
use Rattle.jnl_store.specs.Appending.{IsAppended, MayAppend, longer, opened}
use Rattle.jnl_format.specs.Named.{IsNamed}
use Rattle.jnl_store.specs.Batch.{AreOnce, names}
use Rattle.jnl_store.specs.InUse.{keeps_lists, used_of}
use Rattle.jnl_store.specs.Journal.{IsClosed, are_open}
use Rattle.jnl_store.specs.Lists.{lists_homes, text_sectors}
use Rattle.jnl_store.specs.Newest.{newest, or_later}
use Rattle.jnl_store.specs.Overlay.{overlay}
use Rattle.jnl_store.specs.Standing.{RingDurable, StandsFor}
use Rattle.jnl_store.specs.Store.{KeepsRingOn, content_over, durable_of}
use Rattle.jnl_store.specs.declared.puts.Put.{Put}
use Rattle.jnl_store.specs.declared.store.Store.{Store}
use Rattle.jnl_store.proofs.Attached.{only_length}
use Rattle.jnl_store.proofs.Live.{same_from}
use Rattle.jnl_store.proofs.RingCommits.{Begins, begins, opened_agrees, opened_keeps, opened_size, opened_stands, opened_table, longer_inside, longer_named}
use Rattle.jnl_store.proofs.RingKept.{KeepsLists, lists_from}
use Rattle.jnl_store.proofs.Settling.{kept_from, lists_of}

pub closed_over : (old_plan new_plan : Plan) (s : ℕ) → new_plan.place ≡ old_plan.place → new_plan.info ≡ old_plan.info → IsClosed old_plan s → IsClosed new_plan s
closed_over old_plan new_plan s place info shut =
    subst (λ (i : Info). IsClosed (record new_plan { info = i }) s) (sym info) (subst (λ (p : Place). IsClosed (record new_plan { info = old_plan.info; place = p }) s) (sym place) shut)

pub settles_grown : (store new : Store) (s0 s1 : State) → KeepsRingOn store s0 → IsDisk s0 → SameDisk s0 s1 → MayAppend store.plan store.batch.live store.batch.all s0 → AreOnce store.batch.all → FitsPlan s0.sectors store.plan
    → used_of store.plan / 512 + text_sectors store.plan.header.blhdr (length store.batch.all) ≤ store.plan.info.size / 512 - 2 → IsAppended store.plan store.batch.all s0 s1 → new.plan ≡ longer store.plan store.batch.all → new.batch.all ≡ [] → new.batch.kept ≡ []
    → ((at : ℕ) → newest new.batch.live at ≡ or_later (newest (lists_homes store.plan.header.blhdr (used_of store.plan) 0 store.batch.all) at) (newest store.batch.live at)) → RingDurable store new s0 s1 (content_over store (content s0))
unfolding durable_of
settles_grown store new s0 s1 kept disk same may once fits room a plan_is none none_kept joined =
    let plan = store.plan in
    let puts = store.batch.all in
    let k = lists_of store s0 kept in
    let b : Begins plan puts s0 = begins plan store.batch.live puts s0 store.rest may disk once fits room in
    let e = opened plan puts a.listed in
    let is : content s1 ≡ e = ap content_of a.settled ∙ content_of-only e in
    let long : length e ≡ length (content s0) = opened_size plan puts s0 b a.listed a.whole a.puts_in ∙ a.puts_in.size in
    let text = opened_keeps plan puts s0 b a.listed a.whole a.puts_in s1 a.settled in
    let lists : KeepsLists (longer plan puts) new.batch.live s1 = record {
      text = text;
      named = λ s named. ap (λ (d : Candidates). length (candidates_of d s)) a.settled ∙ only_length e s (longer_inside plan puts s0 b a.listed a.whole a.puts_in s1 a.settled s named);
      table = λ at inside.
          let here : newest new.batch.live at ≡ newest (homes_of (journal_of (longer plan puts)) e) at = opened_table plan puts s0 b a.listed a.whole a.puts_in store.batch.live new.batch.live k.table joined at (omega (arith, inside, ap length is)) in
          here ∙ ap (λ (d : Content). newest (homes_of (journal_of (longer plan puts)) d) at) (sym is);
    } in
    let now : replayed (journal_of new.plan) (content s1) ≡ replayed (journal_of (longer plan puts)) e = ap (λ (q : Plan). replayed (journal_of q) (content s1)) plan_is ∙ ap (replayed (journal_of (longer plan puts))) is in
    record {
      keeps = (
        same.tells ∙ kept.0,
        record {
          kept = kept_from new s1.sectors s1.candidates (ap (λ (q : Plan). keeps_lists q s1.candidates new.batch.live) plan_is ∙ lists_from (longer plan puts) new.batch.live s1 lists) (ap (are_open new.plan s1.sectors) none) (ap (are_open new.plan s1.sectors) none_kept);
          settled = λ u. a.settled ∙ ap only (sym is);
        },
      );
      settled = a.settled ∙ ap only (sym is);
      stands = subst (λ (d : Content). StandsFor plan (content s0) d (replayed (journal_of new.plan) (content s1))) (sym is) (subst (λ (d : Content). StandsFor plan (content s0) e d) (sym now) (opened_stands plan puts s0 b a.listed a.whole a.puts_in));
      agrees = subst (λ (d : Content). AgreesOutside (IsClosed plan) (overlay puts (replayed (journal_of plan) (content s0))) d) (sym now) (opened_agrees plan puts s0 b a.listed a.whole a.puts_in);
      live = λ s l. ⊎_elim
          (λ (put : names new.batch.all s ≡ true). absurd (let no : false ≡ true = ap (λ (l : List Put). names l s) (sym none) ∙ put in cc no))
          (λ named. longer_named plan puts s0 b a.listed a.whole a.puts_in s1 a.settled s (subst (λ (q : Plan). IsNamed (homes_of (journal_of q) (content s1)) s) plan_is named))
          l;
    }

same_trans : (a b c : Content) → IsSame (header_of_volume a) (header_of_volume b) → IsSame (header_of_volume b) (header_of_volume c) → IsSame (header_of_volume a) (header_of_volume c)
same_trans a b c first second =
    same_parts (header_of_volume a) (header_of_volume c) (sym (same_as (header_of_volume a) (header_of_volume b) (header_of_volume c) first) ∙ same_from (header_of_volume b) (header_of_volume c) second)

-- an image that stands for something against a later content of the disk stands for it against an earlier one
pub stands_over : (old_plan new_plan : Plan) (c0 c1 image recovered : Content) → length c1 ≡ length c0 → new_plan.place ≡ old_plan.place → new_plan.info ≡ old_plan.info → new_plan.header.order ≡ old_plan.header.order → new_plan.header.blhdr ≡ old_plan.header.blhdr
    → (middle : Content) → StandsFor old_plan c0 c1 middle → StandsFor new_plan c1 image recovered → StandsFor old_plan c0 image recovered
stands_over old_plan new_plan c0 c1 image recovered size place info order blhdr middle first second =
    let offset : new_plan.info.offset ≡ old_plan.info.offset = ap (λ (i : Info). i.offset) info in
    let info_at : new_plan.place.info_sector ≡ old_plan.place.info_sector = ap (λ (p : Place). p.info_sector) place in
    record {
      stands = second.stands;
      volume = record { same = same_trans c0 c1 image first.volume.same second.volume.same; accepted = ap (λ n. header_refusal (header_of_volume image) n) (sym size) ∙ second.volume.accepted };
      info = subst (λ n. sector image n ≡ sector c1 n) info_at second.info ∙ first.info;
      header = second.header;
      form = record { whole = subst (λ n. IsHeader n second.header) (ap (λ (i : Info). i.size) info) second.form.whole; order = second.form.order ∙ order; blhdr = second.form.blhdr ∙ blhdr };
      spelled =
          subst (λ n. sector image (n / 512) ≡ header_bytes second.header ++ drop 44 (sector c1 (n / 512))) offset second.spelled
          ∙ ap (λ (v : List ℕ). header_bytes second.header ++ drop 44 v) first.spelled
          ∙ ap (λ (v : List ℕ). header_bytes second.header ++ v) (drop_header (checksum_of (header_spelled 0 first.header)) first.header (drop 44 (sector c0 (old_plan.info.offset / 512))));
      own = λ s shut. second.own s (closed_over old_plan new_plan s place info shut);
    }
