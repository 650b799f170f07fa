-- A content with a transaction in its journal stands for itself with the puts in place.
use Rattle.std.proofs.Common.{◌≡◌, ℕ, ◌+◌, ◌-◌, ◌/◌, ◌%◌, ◌^◌, ◌<◌, Bool, true, false, ◌&&◌, not, List, [], ◌∷◌, ◌++◌, inl, inr, length, length-set, get_or, get_or-set_same, set, take, drop, refl, sym, ◌∙◌, ap, arith, cond, eqb, ltb, length-take-le}
use Rattle.std.specs.Prelude.{None, Some, Ok, Option, is_none, All}
use Rattle.std.proofs.lemmas.Bool.{and_from, and_parts, cases_lt, eq-eqb, ltb-true, not-true}
use Rattle.std.proofs.lemmas.Bool.Decides.{nat_tests}
use Rattle.std.proofs.lemmas.List.{ext_get_or, get_or-take}
use Rattle.std.proofs.lemmas.List.Elements.{All-nil, All-cons}
use Rattle.volume_header.specs.Header.{header_of}
use Rattle.volume_header.specs.Refusal.{header_refusal}
use Rattle.volume_header.specs.declared.header.VolumeHeader.{VolumeHeader}
use Rattle.sector_disk.specs.Lists.{Content, sector}
use Rattle.sector_disk.specs.Space.{AgreesOutside}
use Rattle.jnl_format.specs.Header.{header_bytes}
use Rattle.jnl_format.specs.Ring.{bytes_from, distance, ring_text}
use Rattle.jnl_format.specs.Text.{bad_list, is_same_volume, keeps_volume}
use Rattle.jnl_format.specs.Recovery.{header_of_volume, journaling_version, info_in, text_of, volume_of}
use Rattle.jnl_format.specs.declared.blocks.Volume.{Volume}
use Rattle.jnl_format.specs.declared.structures.JnlRefusal.TheVariants.{ForeignJournal}
use Rattle.jnl_format.specs.Keeping.{KeepsHeader}
use Rattle.jnl_format.proofs.Volumes.{same_as}
use Rattle.jnl_format.specs.Keeping.{IsSame}
use Rattle.jnl_ring.specs.Span.{InBuffer, IsSpan, sector_after}
use Rattle.jnl_ring.specs.declared.span.Span.{Span}
use Rattle.jnl_ring.proofs.Bytes.{HasJournal, length-journal}
use Rattle.jnl_ring.proofs.RingLaws.{in_journal}
use Rattle.jnl_ring.proofs.Texts.{journal_in as bytes_in, ring_byte}
use Rattle.jnl_ring.proofs.Wrap.{distance_short, length-from}
use Rattle.jnl_replay.specs.Plan.{IsPlace, journal_of}
use Rattle.jnl_replay.specs.declared.plan.Plan.{Plan}
use Rattle.jnl_store.specs.Batch.{AreOnce, names}
use Rattle.jnl_store.specs.Journal.{IsAtRest, IsClosed, are_open, is_closed}
use Rattle.jnl_store.specs.Lists.{IsFitPut, IsForm, lists_text}
use Rattle.jnl_store.specs.Overlay.{overlay}
use Rattle.jnl_store.specs.Plan.{form_of, span_of, with_text}
use Rattle.jnl_store.specs.Standing.{IsInForm}
use Rattle.jnl_store.specs.declared.puts.Put.{Put}
use Rattle.jnl_store.proofs.Batches.{overlay-other}
use Rattle.jnl_store.proofs.Images.{closed_info, closed_own}
use Rattle.jnl_store.proofs.Journals.{HoldsJournal}
use Rattle.jnl_store.proofs.ListsLaws.{good_lists}
use Rattle.jnl_store.proofs.Quiet.{found_still}

-- the text is that of the sectors behind the journal header
module _ (span : Span) (start end : ℕ) (old new : Content) (is : IsSpan span) (had : HasJournal span.base span.size old) (has_it : HasJournal span.base span.size new) (from : InBuffer span start) (to : InBuffer span end) (whole : start % 512 ≡ 0)
    (same : (s : ℕ) → span.base < s → s < span.base + span.size / 512 → sector new s ≡ sector old s) where
  pub ring_same : ring_text new span.base span.size start end ≡ ring_text old span.base span.size start end
  ring_same =
      let n = distance span.size start end in
      let a = bytes_from (bytes_in new span) start in
      let b = bytes_from (bytes_in old span) start in
      let short : n < span.size - 512 = distance_short span.size start end from.after_header to.after_header from.inside to.inside in
      let long_a : length a ≡ span.size - 512 = length-from (bytes_in new span) span.size start (length-journal span.base span.size new has_it) from.after_header from.inside in
      let long_b : length b ≡ span.size - 512 = length-from (bytes_in old span) span.size start (length-journal span.base span.size old had) from.after_header from.inside in
      let one : length (take n a) ≡ n = length-take-le n a (omega (arith, short, long_a)) in
      ext_get_or 0 (take n a) (take n b) (one ∙ sym (length-take-le n b (omega (arith, short, long_b)))) (λ j below.
      let less : j < n = omega (arith, below, one) in
      let there = in_journal span start (j / 512) is from whole (omega (arith, less, short)) in
      get_or-take n a j 0 less ∙ ring_byte span new start j is has_it from whole (omega (arith, less, short))
      ∙ ap (λ (v : List ℕ). get_or v (j % 512) 0) (same (sector_after span start (j / 512)) there.0 there.1)
      ∙ sym (ring_byte span old start j is had from whole (omega (arith, less, short))) ∙ sym (get_or-take n b j 0 less))

-- the same volume is the same as itself
same_itself : (head : VolumeHeader) → is_same_volume head head ≡ true
unfolding is_same_volume
same_itself head = grind (arith, nat_tests)

pub same_from : (old new : VolumeHeader) → IsSame old new → is_same_volume old new ≡ true
same_from old new s = sym (same_as old new new s) ∙ same_itself new

is_none_from : {A : Type 0} (o : Option A) → o ≡ None → is_none o ≡ true
is_none_from None h = refl
is_none_from (Some x) h = absurd (cc h)

-- a header that is kept, as a list's block wants it
pub keeps_from : (volume : Volume) (old new : Content) → volume.sectors ≡ length old → volume.header ≡ header_of_volume old → KeepsHeader old new → keeps_volume volume (sector new 2) ≡ true
keeps_from volume old new size head k =
    and_from (is_none (header_refusal (header_of_volume new) volume.sectors)) (is_same_volume volume.header (header_of_volume new))
    (is_none_from (header_refusal (header_of_volume new) volume.sectors) (ap (λ n. header_refusal (header_of_volume new) n) size ∙ k.accepted))
    (ap (λ (v : VolumeHeader). is_same_volume v (header_of_volume new)) head ∙ same_from (header_of_volume old) (header_of_volume new) k.same)

-- open puts fit the volume
open_put : (plan : Plan) (sectors : ℕ) (put : Put) → (ltb put.at sectors && not (is_closed plan put.at)) ≡ true → (put.at < sectors) × (is_closed plan put.at ≡ false)
open_put plan sectors put h =
    let p = and_parts (ltb put.at sectors) (not (is_closed plan put.at)) h in
    (ltb-true put.at sectors p.0, not-true (is_closed plan put.at) p.1)

not_closed : (plan : Plan) (s : ℕ) → is_closed plan s ≡ false → IsClosed plan s → ⊥
not_closed plan s h is = absurd (cc (sym is ∙ h))

fits_one : (plan : Plan) (volume : Volume) (put : Put) (old new : Content) → volume.first ≡ plan.info.offset / 512 → volume.count ≡ plan.info.size / 512 → volume.info_sector ≡ plan.place.info_sector
    → put.at < volume.sectors → is_closed plan put.at ≡ false → (put.at ≡ 2 → keeps_volume volume put.bytes ≡ true) → IsFitPut volume put
fits_one plan volume put old new first count info inside free header = record {
  inside = inside;
  apart = elim (cases_lt put.at volume.first) [
    | inl before ↦ inl before
    | inr low ↦ elim (cases_lt put.at (volume.first + volume.count)) [
      | inl high ↦ absurd (not_closed plan put.at free (closed_own plan put.at (omega (arith, low, first)) (omega (arith, high, first, count))))
      | inr behind ↦ inr behind
    ]
  ];
  no_info = λ same. not_closed plan put.at free (closed_info plan put.at (same ∙ info));
  header = header;
}

abbrev put_in : Content → Put → Content
put_in c put = set c put.at put.bytes

-- where each sector is put once, what is put stands in the content
put_stands : (puts : List Put) (put : Put) (c : Content) → names puts put.at ≡ false → 0 < length c → put.at < length c → sector (overlay puts (put_in c put)) put.at ≡ put.bytes
put_stands puts put c alone some inside = overlay-other puts (put_in c put) put.at alone ∙ get_or-set_same c put.at put.bytes [] inside

module _ (plan : Plan) (volume : Volume) (old : Content) (first : volume.first ≡ plan.info.offset / 512) (count : volume.count ≡ plan.info.size / 512) (info : volume.info_sector ≡ plan.place.info_sector) (size : volume.sectors ≡ length old) where
  pub fit_all : (puts : List Put) (c : Content) → AreOnce puts → are_open plan (length old) puts ≡ true → length c ≡ length old → keeps_volume volume (sector (overlay puts c) 2) ≡ true → All (IsFitPut volume) puts
  fit_all [] c once free long header = All-nil (IsFitPut volume)
  fit_all (put ∷ puts) c once free long header =
      let p = and_parts (ltb put.at (length old) && not (is_closed plan put.at)) (are_open plan (length old) puts) free in
      let o = open_put plan (length old) put p.0 in
      All-cons (IsFitPut volume) put puts
      (fits_one plan volume put old c first count info (omega (arith, o.0, size)) o.1 (λ two.
      let here : sector (overlay puts (put_in c put)) put.at ≡ put.bytes = put_stands puts put c once.0 (omega (arith, o.0, long)) (omega (arith, o.0, long)) in
      ap (keeps_volume volume) (sym here ∙ ap (sector (overlay puts (put_in c put))) two) ∙ header))
      (fit_all puts (put_in c put) once.1 p.1 (length-set c put.at put.bytes ∙ long) header)

last_not : (b : Bool) (version : ℕ) → cond (b && not true) (Some (ForeignJournal version)) None ≡ None
last_not true version = refl
last_not false version = refl

pub foreign_none : (journal_start journal_end version : ℕ) → version ≡ journaling_version → cond (not (eqb journal_start journal_end) && not (eqb version journaling_version)) (Some (ForeignJournal version)) None ≡ None
foreign_none a b version is = ap (λ t. cond (not (eqb a b) && not t) (Some (ForeignJournal version)) None) (eq-eqb version journaling_version is) ∙ last_not (not (eqb a b)) version

-- Over an older content c0, another content c holds the plan's journal, and an image of it differs in the journal
-- header alone, which names the text of the puts.
pub record IsLiveOver (plan : Plan) (puts : List Put) (end : ℕ) (c0 image : Content) : Type 0 where
  pub size : length image ≡ length c0
  pub volume : sector image 2 ≡ sector c0 2
  pub info : sector image plan.place.info_sector ≡ sector c0 plan.place.info_sector
  pub header : sector image (plan.info.offset / 512) ≡ header_bytes (with_text plan 512 end).header ++ drop 44 (sector c0 (plan.info.offset / 512))
  pub text : ring_text image (plan.info.offset / 512) plan.info.size 512 end ≡ lists_text (form_of plan) puts
  pub agrees : AgreesOutside (IsClosed plan) c0 image

module _ (plan : Plan) (puts : List Put) (end : ℕ) (c0 image : Content) (rest : IsAtRest plan) (h : HoldsJournal plan c0) (once : AreOnce puts) (free : are_open plan (length c0) puts ≡ true) (keeps : KeepsHeader c0 (overlay puts c0))
    (version : (header_of_volume c0).last_mounted_version ≡ journaling_version) (small : length c0 < 2 ^ 64) (to : InBuffer (span_of plan) end) (even : end % 512 ≡ 0) (live : IsLiveOver plan puts end c0 image) where
  pub live_form : IsInForm plan (with_text plan 512 end).header
  live_form = record {
    whole = record {
      start_whole = omega arith;
      start_low = omega arith;
      start_high = omega (arith, rest.least);
      end_whole = even;
      end_low = to.after_header;
      end_high = to.inside;
      size = rest.header.size;
      blhdr_whole = rest.header.blhdr_whole;
      blhdr_low = rest.header.blhdr_low;
      blhdr_high = rest.header.blhdr_high;
    };
    order = refl;
    blhdr = refl;
  }

  form_is : IsForm (form_of plan)
  form_is = record { whole = rest.header.blhdr_whole; least = rest.header.blhdr_low; most = rest.header.blhdr_high }

  still : IsPlace image plan.place × (info_in plan.place.info_sector image ≡ Ok plan.info)
  still = found_still plan c0 image h live.size live.volume live.info

  fit : All (IsFitPut (volume_of plan.place.info_sector (journal_of (with_text plan 512 end)) image)) puts
  fit =
      let v = volume_of plan.place.info_sector (journal_of (with_text plan 512 end)) image in
      fit_all plan v c0 refl refl refl live.size puts c0 once free refl
      (keeps_from v c0 (overlay puts c0) live.size (ap header_of live.volume) keeps)

  good : bad_list (volume_of plan.place.info_sector (journal_of (with_text plan 512 end)) image) plan.header.order plan.header.blhdr (text_of (journal_of (with_text plan 512 end)) image) (length (text_of (journal_of (with_text plan 512 end)) image)) 0 ≡ None
  good =
      let v = volume_of plan.place.info_sector (journal_of (with_text plan 512 end)) image in
      ap (λ (t : List ℕ). bad_list v plan.header.order plan.header.blhdr t (length t) 0) live.text
      ∙ good_lists v (form_of plan) puts form_is (omega (arith, small, live.size)) fit
