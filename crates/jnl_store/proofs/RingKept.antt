-- What the test of a journal in use says, fact by fact, and that it still says so where an open sector is written.
use Rattle.std.proofs.Common.{◌≡◌, ◌≢◌, ℕ, zero, suc, ◌+◌, ◌/◌, ◌<◌, ◌≤◌, Bool, true, ◌&&◌, List, [], ◌∷◌, inl, inr, length, refl, sym, ◌∙◌, ap, subst, arith}
use Rattle.std.specs.Prelude.{IsTrue, Option, None, Some, is_none}
use Rattle.std.specs.List.{list_all, range_with_len}
use Rattle.std.proofs.lemmas.Bool.{and_parts, and_from, cases_eq, eqb-true, eq-eqb}
use Rattle.std.proofs.lemmas.List.{length-map, length-take-le}
use Rattle.sector_disk.specs.Lists.{last, sector}
use Rattle.sector_disk.specs.Disk.{Candidates, State, IsDisk, candidates_of, content, content_of}
use Rattle.jnl_format.specs.Recovery.{homes_of, replayed, text_fault, text_of, volume_of}
use Rattle.jnl_format.specs.Ring.{bytes_from, journal_bytes}
use Rattle.jnl_format.specs.Text.{bytes_at, text_homes}
use Rattle.jnl_format.specs.declared.blocks.Home.{Home}
use Rattle.jnl_format.specs.declared.structures.JnlRefusal.{JnlRefusal}
use Rattle.jnl_format.specs.Named.{IsNamed}
use Rattle.jnl_ring.specs.Span.{IsOnDisk, sector_after}
use Rattle.jnl_ring.proofs.Bytes.{HasJournal, content_whole, length-journal}
use Rattle.jnl_ring.proofs.Wrap.{distance_short, length-from}
use Rattle.jnl_replay.specs.Plan.{journal_of}
use Rattle.jnl_replay.specs.declared.plan.Plan.{Plan}
use Rattle.jnl_store.specs.InUse.{IsInUse, has_lists, has_table, keeps_lists, no_spilled_is_named, text_is_stable, used_of}
use Rattle.jnl_store.specs.Journal.{has_one, keeps_journal}
use Rattle.jnl_store.specs.Newest.{is_same_place, newest}
use Rattle.jnl_store.specs.Plan.{span_of}
use Rattle.jnl_store.proofs.Journals.{keeps_from, keeps_parts}
use Rattle.jnl_store.proofs.Quiet.{volume_still}
use Rattle.jnl_store.proofs.Newest.{newest_inside, newest_none, newest_value, place_same, same_place}
use Rattle.jnl_store.proofs.RingStages.{KeepsText, end_in, good, has_content, length-c, ring_by, same_fault, span_in_use, start_in}
use Rattle.jnl_store.proofs.Changed.{content_at, still_kept}

-- all that is live in the journal of a plan
pub record KeepsLists (plan : Plan) (live : List Home) (disk : State) : Type 0 where
  pub text : KeepsText plan disk
  pub named : (s : ℕ) → IsNamed (homes_of (journal_of plan) (content disk)) s → length (candidates_of disk.candidates s) ≡ 1
  pub table : (at : ℕ) → at < length (content disk) → newest live at ≡ newest (homes_of (journal_of plan) (content disk)) at

range_each : (p : ℕ → Bool) (a n k : ℕ) → list_all p (range_with_len a n) ≡ true → a ≤ k → k < a + n → p k ≡ true
range_each p a zero k all low high = absurd (omega (arith, low, high))
range_each p a (suc n) k all low high =
    let q = and_parts (p a) (list_all p (range_with_len (a + 1) n)) all in
    elim (cases_eq k a) [
      | inl here ↦ ap p here ∙ q.0
      | inr later ↦ range_each p (a + 1) n k q.1 (omega (arith, low, later)) (omega (arith, high))
    ]

range_all : (p : ℕ → Bool) (a n : ℕ) → ((k : ℕ) → a ≤ k → k < a + n → p k ≡ true) → list_all p (range_with_len a n) ≡ true
range_all p a zero each = refl
range_all p a (suc n) each = and_from (p a) (list_all p (range_with_len (a + 1) n)) (each a (omega arith) (omega arith)) (range_all p (a + 1) n (λ k low high. each k (omega (arith, low)) (omega (arith, high))))

homes_each : (p : ℕ → Bool) (homes : List Home) (s : ℕ) → list_all (λ (h : Home). p h.sector) homes ≡ true → IsNamed homes s → p s ≡ true
homes_each p [] s all named = absurd named
homes_each p (h ∷ hs) s all (inl here) = ap p (sym here) ∙ (and_parts (p h.sector) (list_all (λ (g : Home). p g.sector) hs) all).0
homes_each p (h ∷ hs) s all (inr later) = homes_each p hs s (and_parts (p h.sector) (list_all (λ (g : Home). p g.sector) hs) all).1 later

homes_all : (p : ℕ → Bool) (homes : List Home) → ((s : ℕ) → IsNamed homes s → p s ≡ true) → list_all (λ (h : Home). p h.sector) homes ≡ true
homes_all p [] each = refl
homes_all p (h ∷ hs) each = and_from (p h.sector) (list_all (λ (g : Home). p g.sector) hs) (each h.sector (inl refl)) (homes_all p hs (λ s named. each s (inr named)))

none_is : (o : Option JnlRefusal) → is_none o ≡ true → o ≡ None
none_is None h = refl
none_is (Some x) h = absurd (cc h)

pub lists_parts : (plan : Plan) (live : List Home) (disk : State) → IsTrue (keeps_lists plan disk.candidates live) → KeepsLists plan live disk
unfolding keeps_lists
lists_parts plan live disk h =
    let d = disk.candidates in
    let c = content_of disk.candidates in
    let j = keeps_journal plan d in
    let p4 = and_parts (j && has_lists plan c && text_is_stable plan d && no_spilled_is_named plan d) (has_table plan c live) h in
    let p3 = and_parts (j && has_lists plan c && text_is_stable plan d) (no_spilled_is_named plan d) p4.0 in
    let p2 = and_parts (j && has_lists plan c) (text_is_stable plan d) p3.0 in
    let p1 = and_parts j (has_lists plan c) p2.0 in
    record {
      text = record {
        journal = keeps_parts plan d p1.0;
        lists = none_is (text_fault plan.place.info_sector plan.place.last_mounted (journal_of plan) c) p1.1;
        stable = λ k less. eqb-true (length (candidates_of d (sector_after (span_of plan) plan.header.start k))) 1 (range_each (λ i. has_one d (sector_after (span_of plan) plan.header.start i)) 0 (used_of plan / 512) k p2.1 (omega arith) (omega (arith, less)));
      };
      named = λ s named. eqb-true (length (candidates_of d s)) 1 (homes_each (has_one d) (homes_of (journal_of plan) c) s p3.1 named);
      table = λ at inside. same_place (newest live at) (newest (homes_of (journal_of plan) c) at) (range_each (λ i. is_same_place (newest live i) (newest (homes_of (journal_of plan) c) i)) 0 (length c) at p4.1 (omega arith) (omega (arith, inside)));
    }

pub lists_from : (plan : Plan) (live : List Home) (disk : State) → KeepsLists plan live disk → IsTrue (keeps_lists plan disk.candidates live)
unfolding keeps_lists
lists_from plan live disk k =
    let d = disk.candidates in
    let c = content_of disk.candidates in
    let j = keeps_journal plan d in
    and_from (j && has_lists plan c && text_is_stable plan d && no_spilled_is_named plan d) (has_table plan c live)
    (and_from (j && has_lists plan c && text_is_stable plan d) (no_spilled_is_named plan d)
    (and_from (j && has_lists plan c) (text_is_stable plan d)
    (and_from j (has_lists plan c) (keeps_from plan d k.text.journal) (ap (λ (o : Option JnlRefusal). is_none o) k.text.lists))
    (range_all (λ i. has_one d (sector_after (span_of plan) plan.header.start i)) 0 (used_of plan / 512) (λ i low high. eq-eqb (length (candidates_of d (sector_after (span_of plan) plan.header.start i))) 1 (k.text.stable i (omega (arith, high))))))
    (homes_all (has_one d) (homes_of (journal_of plan) c) (λ s named. eq-eqb (length (candidates_of d s)) 1 (k.named s named))))
    (range_all (λ i. is_same_place (newest live i) (newest (homes_of (journal_of plan) c) i)) 0 (length c) (λ i low high. place_same (newest live i) (newest (homes_of (journal_of plan) c) i) (k.table i (omega (arith, high)))))

-- the text of the live lists has as many bytes as are live
pub long_text : (plan : Plan) (rest : IsInUse plan) (disk : State) → IsDisk disk → KeepsText plan disk → length (text_of (journal_of plan) (content disk)) ≡ used_of plan
long_text plan rest disk is k =
    let h = rest.header in
    let has = has_content plan rest disk is k in
    let short = distance_short plan.info.size plan.header.start plan.header.end h.start_low h.end_low h.start_high h.end_high in
    let long = length-from (journal_bytes (content disk) (plan.info.offset / 512) plan.info.size) plan.info.size plan.header.start (length-journal (plan.info.offset / 512) plan.info.size (content disk) has) h.start_low h.start_high in
    length-take-le (used_of plan) (bytes_from (journal_bytes (content disk) (plan.info.offset / 512) plan.info.size) plan.header.start) (omega (arith, short, long))

-- what the table has for a sector: its bytes in the text, or none
module _ (plan : Plan) (rest : IsInUse plan) (live : List Home) (disk : State) (is : IsDisk disk) (k : KeepsLists plan live disk) (at : ℕ) (inside : at < length (content disk)) where
  pub live_value : (p : ℕ) → newest live at ≡ Some p → sector (replayed (journal_of plan) (content disk)) at ≡ bytes_at (text_of (journal_of plan) (content disk)) p 512
  live_value p some = newest_value (text_of (journal_of plan) (content disk)) (homes_of (journal_of plan) (content disk)) (content disk) at p inside (sym (k.table at inside) ∙ some)

  pub live_inside : (p : ℕ) → newest live at ≡ Some p → p + 512 ≤ used_of plan
  live_inside p some =
      let v = volume_of plan.place.info_sector (journal_of plan) (content disk) in
      let here = newest_inside v (text_of (journal_of plan) (content disk)) (homes_of (journal_of plan) (content disk)) at p (good plan rest disk is k.text) (sym (k.table at inside) ∙ some) in
      omega (arith, here, long_text plan rest disk is k.text)

  pub home_value : newest live at ≡ None → sector (replayed (journal_of plan) (content disk)) at ≡ sector (content disk) at
  home_value none = newest_none (text_of (journal_of plan) (content disk)) (homes_of (journal_of plan) (content disk)) (content disk) at (sym (k.table at inside) ∙ none)

-- the journal lies on the disk
pub on_disk : (plan : Plan) (rest : IsInUse plan) (disk : State) → IsDisk disk → IsTrue disk.tells → KeepsText plan disk → IsOnDisk (span_of plan) disk.sectors
on_disk plan rest disk is tells k = omega (arith, (has_content plan rest disk is k).fits, length-c plan rest disk is k, is.size tells)

-- a call that only reads leaves all as it is
pub read_keeps : (plan : Plan) (live : List Home) (old new : State) → new.candidates ≡ old.candidates → KeepsLists plan live old → KeepsLists plan live new
read_keeps plan live old new same k = lists_parts plan live new (subst (λ (d : Candidates). IsTrue (keeps_lists plan d live)) (sym same) (lists_from plan live old k))

-- A sector that the journal has no part in.
pub record IsFree (plan : Plan) (disk : State) (at : ℕ) : Type 0 where
  pub volume : 2 ≢ at
  pub info : plan.place.info_sector ≢ at
  pub header : plan.info.offset / 512 ≢ at
  pub text : (k : ℕ) → k < used_of plan / 512 → sector_after (span_of plan) plan.header.start k ≢ at
  pub homes : IsNamed (homes_of (journal_of plan) (content disk)) at → ⊥

-- where such a sector alone changes, all is kept
module _ (plan : Plan) (rest : IsInUse plan) (live : List Home) (old new : State) (had : IsDisk old) (is : IsDisk new) (at : ℕ) (size : length new.candidates ≡ length old.candidates) (other : (s : ℕ) → s ≢ at → candidates_of new.candidates s ≡ candidates_of old.candidates s)
    (k : KeepsLists plan live old) (free : IsFree plan old at) where
  same : (s : ℕ) → s ≢ at → sector (content new) s ≡ sector (content old) s
  same s away = content_at new.candidates s ∙ ap last (other s away) ∙ sym (content_at old.candidates s)

  long : length (content new) ≡ length (content old)
  long = length-map new.candidates last ∙ size ∙ sym (length-map old.candidates last)

  has_new : HasJournal (plan.info.offset / 512) plan.info.size (content new)
  has_new = record { whole = content_whole new is; fits = omega (arith, long, (has_content plan rest old had k.text).fits); sectors = rest.whole }

  pub text_same : text_of (journal_of plan) (content new) ≡ text_of (journal_of plan) (content old)
  text_same =
      ring_by (span_of plan) plan.header.start plan.header.end (content old) (content new) (span_in_use plan rest) (has_content plan rest old had k.text) has_new (start_in plan rest) (end_in plan rest) rest.header.start_whole rest.header.end_whole
      (λ i less. same (sector_after (span_of plan) plan.header.start i) (free.text i less))

  pub homes_same : homes_of (journal_of plan) (content new) ≡ homes_of (journal_of plan) (content old)
  homes_same = ap (λ (t : List ℕ). text_homes plan.header.order plan.header.blhdr t (length t) 0) text_same

  pub kept_over : KeepsLists plan live new
  kept_over = record {
    text = record {
      journal = still_kept plan at old.candidates new.candidates size other free.volume free.info free.header k.text.journal;
      lists =
          same_fault plan.place.info_sector plan.place.last_mounted (journal_of plan) (content old) (content new) long text_same (volume_still (content old) (content new) k.text.journal.holds.place.accepted (same 2 free.volume)).same
          ∙ k.text.lists;
      stable = λ i less. ap length (other (sector_after (span_of plan) plan.header.start i) (free.text i less)) ∙ k.text.stable i less;
    };
    named = λ s named.
        let was : IsNamed (homes_of (journal_of plan) (content old)) s = subst (λ (hs : List Home). IsNamed hs s) homes_same named in
        elim (cases_eq s at) [
          | inl here ↦ absurd (free.homes (subst (IsNamed (homes_of (journal_of plan) (content old))) here was))
          | inr away ↦ ap length (other s away) ∙ k.named s was
        ];
    table = λ s inside. k.table s (omega (arith, inside, long)) ∙ ap (λ (hs : List Home). newest hs s) (sym homes_same);
  }
