-- Images of a disk on whose journal lists are live, while a text is written behind them, or their sectors home.
use Rattle.std.proofs.Common.{◌≡◌, ◌≢◌, ◌⊎◌, ℕ, ◌+◌, ◌-◌, ◌*◌, ◌/◌, ◌%◌, ◌<◌, ◌≤◌, true, ◌||◌, List, [], ◌∷◌, ◌++◌, inl, inr, ⊎_elim, length, get_or, take, drop, refl, sym, ◌∙◌, ap, subst, arith, length-take-le}
use Rattle.std.specs.Prelude.{None, Ok, Option, IsTrue, option_map}
use Rattle.std.proofs.lemmas.Bool.{cases_lt}
use Rattle.std.proofs.lemmas.List.{ext_get_or, get_or-take, get_or_past, length-map}
use Rattle.sector_disk.specs.Lists.{Content, last, sector}
use Rattle.sector_disk.specs.Disk.{State, IsDisk, candidates_of, content}
use Rattle.sector_disk.specs.Space.{AgreesOutside}
use Rattle.jnl_format.specs.Header.{header_bytes}
use Rattle.jnl_format.specs.Ring.{bytes_from, distance, offset_after, ring_text}
use Rattle.jnl_format.specs.Text.{bad_list, keeps_volume, text_homes}
use Rattle.jnl_format.specs.Recovery.{Journal, header_of_volume, foreign_fault, homes_of, journal_in, or_else, recovery, replayed, text_fault, text_of, volume_of, with_homes}
use Rattle.jnl_format.specs.declared.blocks.Home.{Home}
use Rattle.jnl_format.specs.declared.blocks.Volume.{Volume}
use Rattle.jnl_format.specs.declared.structures.Header.{Header}
use Rattle.jnl_format.specs.Info.{holds, info_fault, info_of}
use Rattle.volume_header.specs.Refusal.{header_refusal}
use Rattle.volume_header.specs.declared.header.VolumeHeader.{VolumeHeader}
use Rattle.jnl_format.proofs.Alike.{keeps_parts}
use Rattle.jnl_format.proofs.Mixing.{home_has}
use Rattle.jnl_store.proofs.Attached.{place_is}
use Rattle.sector_disk.specs.Disk.{Mixes, only}
use Rattle.jnl_replay.specs.Homing.{StandsForSame, emptied, empty_header}
use Rattle.jnl_replay.specs.Plan.{FitsPlan}
use Rattle.jnl_replay.proofs.Stages.{stage_empty}
use Rattle.std.proofs.lemmas.Bool.{true≢false}
use Rattle.jnl_format.specs.declared.structures.JnlRefusal.TheVariants.{BadList}
use Rattle.jnl_format.proofs.Alike.{good_homes, recovers, stands_for}
use Rattle.jnl_format.specs.Keeping.{KeepsHeader}
use Rattle.jnl_format.specs.Named.{IsGoodHome, Each}
use Rattle.jnl_format.proofs.Mixing.{named_home, not_named}
use Rattle.jnl_format.specs.Named.{IsHomeOf, IsNamed}
use Rattle.jnl_format.proofs.Recovering.{journal_is_kept}
use Rattle.jnl_format.proofs.Volumes.{bad_same}
use Rattle.jnl_format.specs.Keeping.{IsSame}
use Rattle.jnl_ring.specs.Span.{InBuffer, IsSpan, sector_after}
use Rattle.jnl_ring.specs.Writing.{MixesInRing}
use Rattle.jnl_ring.specs.declared.span.Span.{Span}
use Rattle.jnl_ring.proofs.Bytes.{HasJournal, content_whole, length-journal}
use Rattle.jnl_ring.specs.Whole.{AreWhole}
use Rattle.jnl_ring.proofs.Placing.{apart}
use Rattle.jnl_ring.proofs.RingLaws.{in_journal, outside}
use Rattle.jnl_ring.proofs.Texts.{journal_in as bytes_in, ring_byte}
use Rattle.jnl_ring.proofs.Wrap.{distance_reaches, distance_short, distance_whole, length-from, offset_sum}
use Rattle.jnl_replay.specs.Homing.{IsHomeMix}
use Rattle.jnl_replay.specs.Plan.{IsPlan, journal_of}
use Rattle.jnl_replay.specs.declared.plan.Plan.{Plan}
use Rattle.jnl_replay.proofs.Checks.{place_of}
use Rattle.jnl_replay.proofs.Stages.{replayed_still}
use Rattle.jnl_store.specs.InUse.{IsInUse, used_of}
use Rattle.jnl_store.specs.Journal.{IsClosed, IsSpilled}
use Rattle.jnl_store.specs.Plan.{span_of}
use Rattle.jnl_store.specs.Standing.{IsInForm, StandsFor}
use Rattle.jnl_store.proofs.Images.{closed_info, closed_or, closed_own, closed_parts, info_apart, one_is, same_or_more, volume_apart}
use Rattle.jnl_store.proofs.Journals.{HoldsJournal, KeepsJournal}
use Rattle.jnl_store.proofs.Quiet.{header_found, header_spells, info_found, info_whole, old_is, volume_still}
use Rattle.jnl_store.proofs.RingHomes.{home_long, homes_agree}

-- what the test of the live lists says, fact by fact, but for the table
pub record KeepsText (plan : Plan) (disk : State) : Type 0 where
  pub journal : KeepsJournal plan disk.candidates
  pub lists : text_fault plan.place.info_sector plan.place.last_mounted (journal_of plan) (content disk) ≡ None
  pub stable : (k : ℕ) → k < used_of plan / 512 → length (candidates_of disk.candidates (sector_after (span_of plan) plan.header.start k)) ≡ 1

-- the volume header stays one of the same volume where it is the old one or a home's
pub header_stays : (volume : Volume) (text : List ℕ) (homes : List Home) (old new : Content) → volume.sectors ≡ length old → volume.header ≡ header_of_volume old → Each (IsGoodHome volume text) homes → header_refusal (header_of_volume old) (length old) ≡ None
    → (sector new 2 ≡ sector old 2) ⊎ IsHomeOf text homes 2 (sector new 2) → KeepsHeader old new
header_stays volume text homes old new size head all accepted (inl e) = volume_still old new accepted e
header_stays volume text homes old new size head all accepted (inr h) =
    let P : Home → Type 0 = IsGoodHome volume text in
    let Q : List ℕ → Type 0 = λ value. keeps_volume volume value ≡ true in
    let k : Q (sector new 2) = home_has P Q text homes 2 (sector new 2) all (λ home good two. good.header two) h in
    let p = keeps_parts volume (sector new 2) k in
    record {
      same = subst (λ (v : VolumeHeader). IsSame v (header_of_volume new)) head p.1;
      accepted = subst (λ n. header_refusal (header_of_volume new) n ≡ None) size p.0;
    }

-- the text is that of its own sectors
pub ring_by : (span : Span) (start end : ℕ) (old new : Content) → IsSpan span → HasJournal span.base span.size old → HasJournal span.base span.size new → InBuffer span start → InBuffer span end → start % 512 ≡ 0 → end % 512 ≡ 0
    → ((k : ℕ) → k < distance span.size start end / 512 → sector new (sector_after span start k) ≡ sector old (sector_after span start k)) → ring_text new span.base span.size start end ≡ ring_text old span.base span.size start end
ring_by span start end old new is had has_it from to whole end_whole same =
    let n = distance span.size start end in
    let a = bytes_from (bytes_in new span) start in
    let b = bytes_from (bytes_in old span) start in
    let short : n < span.size - 512 = distance_short span.size start end from.after_header to.after_header from.inside to.inside in
    let even : n % 512 ≡ 0 = distance_whole span.size start end is.whole whole end_whole to.after_header from.inside in
    let long_a : length a ≡ span.size - 512 = length-from (bytes_in new span) span.size start (length-journal span.base span.size new has_it) from.after_header from.inside in
    let long_b : length b ≡ span.size - 512 = length-from (bytes_in old span) span.size start (length-journal span.base span.size old had) from.after_header from.inside in
    let one : length (take n a) ≡ n = length-take-le n a (omega (arith, short, long_a)) in
    ext_get_or 0 (take n a) (take n b) (one ∙ sym (length-take-le n b (omega (arith, short, long_b)))) (λ j below.
    let less : j < n = omega (arith, below, one) in
    get_or-take n a j 0 less ∙ ring_byte span new start j is has_it from whole (omega (arith, less, short))
    ∙ ap (λ (v : List ℕ). get_or v (j % 512) 0) (same (j / 512) (omega (arith, less, even)))
    ∙ sym (ring_byte span old start j is had from whole (omega (arith, less, short))) ∙ sym (get_or-take n b j 0 less))

-- a fault of a text is the same against the same volume
pub same_fault : (at version : ℕ) (journal : Journal) (old image : Content) → length image ≡ length old → text_of journal image ≡ text_of journal old → IsSame (header_of_volume old) (header_of_volume image) → text_fault at version journal image ≡ text_fault at version journal old
same_fault at version journal old image size text header =
    let order = journal.header.order in
    let blhdr = journal.header.blhdr in
    let was = volume_of at journal old in
    let new = volume_of at journal image in
    let bad : bad_list new order blhdr (text_of journal image) (length (text_of journal image)) 0 ≡ bad_list was order blhdr (text_of journal old) (length (text_of journal old)) 0 =
    ap (λ (t : List ℕ). bad_list new order blhdr t (length t) 0) text
    ∙ bad_same was new order blhdr (text_of journal old) (length (text_of journal old)) 0 (record { sectors = size; first = refl; count = refl; info_sector = refl; header = header }) in
    ap (λ (o : Option ℕ). or_else (option_map (λ place. BadList (offset_after journal.info.size journal.header.start place)) o) (foreign_fault version journal)) bad

pub span_in_use : (plan : Plan) → IsInUse plan → IsSpan (span_of plan)
span_in_use plan rest = record { whole = rest.whole; least = rest.least; most = rest.most }

pub start_in : (plan : Plan) → IsInUse plan → InBuffer (span_of plan) plan.header.start
start_in plan rest = record { after_header = rest.header.start_low; inside = rest.header.start_high }

pub end_in : (plan : Plan) → IsInUse plan → InBuffer (span_of plan) plan.header.end
end_in plan rest = record { after_header = rest.header.end_low; inside = rest.header.end_high }

pub form_in_use : (plan : Plan) → IsInUse plan → IsInForm plan plan.header
form_in_use plan rest = record { whole = rest.header; order = refl; blhdr = refl }

pub found_in_use : (plan : Plan) (c : Content) → IsInUse plan → HoldsJournal plan c → journal_in plan.place.info_sector c ≡ Ok (journal_of plan)
found_in_use plan c rest h =
    journal_is_kept plan.place.info_sector c plan.info (Ok plan.header) (info_found plan c h) h.old
    (header_found plan plan.header (sector c (plan.info.offset / 512)) (drop 44 (sector c (plan.info.offset / 512))) (form_in_use plan rest) rest.most (header_spells plan c h))
    ∙ ap (λ j. Ok j) (sym (old_is plan rest.old))

module _ (plan : Plan) (rest : IsInUse plan) (disk : State) (is : IsDisk disk) (k : KeepsText plan disk) where
  abbrev c : Content
  c = content disk

  abbrev text : List ℕ
  text = text_of (journal_of plan) (content disk)

  abbrev homes : List Home
  homes = homes_of (journal_of plan) (content disk)

  pub length-c : length (content disk) ≡ length disk.candidates
  length-c = length-map disk.candidates last

  pub content_plan : IsPlan (content disk) plan
  content_plan = record { place = k.journal.holds.place; journal = found_in_use plan (content disk) rest k.journal.holds; text = k.lists }

  pub good : Each (IsGoodHome (volume_of plan.place.info_sector (journal_of plan) (content disk)) (text_of (journal_of plan) (content disk))) (homes_of (journal_of plan) (content disk))
  good = good_homes plan.place.info_sector plan.place.last_mounted (journal_of plan) (content disk) k.lists

  pub has_content : HasJournal (plan.info.offset / 512) plan.info.size (content disk)
  has_content = let i = info_whole plan (content disk) k.journal.holds in record { whole = content_whole disk is; fits = omega (arith, i.inside, i.offset_whole, i.size_whole); sectors = rest.whole }

  -- an image with a header of the same volume, the same sectors where it counts, and the same text
  module _ (image : Content) (size : length image ≡ length (content disk)) (keeps : KeepsHeader (content disk) image) (info : sector image plan.place.info_sector ≡ sector (content disk) plan.place.info_sector)
      (header : sector image (plan.info.offset / 512) ≡ sector (content disk) (plan.info.offset / 512)) (same : text_of (journal_of plan) image ≡ text_of (journal_of plan) (content disk)) where
    still : HoldsJournal plan image
    still = record {
      place = place_is (content disk) image plan k.journal.holds.place size keeps;
      info = ap info_of info ∙ k.journal.holds.info;
      no_fault = ap (λ n. info_fault (n * 512) (holds plan.info 2 || holds plan.info plan.place.info_sector) plan.info) size ∙ k.journal.holds.no_fault;
      old = k.journal.holds.old;
      header = ap (take 44) header ∙ k.journal.holds.header;
    }

    pub image_plan : IsPlan image plan
    image_plan = record {
      place = still.place;
      journal = found_in_use plan image rest still;
      text = same_fault plan.place.info_sector plan.place.last_mounted (journal_of plan) (content disk) image size same keeps.same ∙ k.lists;
    }

    pub image_recovers : recovery image ≡ Ok (replayed (journal_of plan) image)
    image_recovers =
        recovers plan.place.info_sector plan.place.last_mounted image (place_of image plan.place still.place)
        ∙ stands_for plan.place.info_sector plan.place.last_mounted (journal_of plan) image image_plan.journal image_plan.text

    pub image_stands : StandsFor plan (content disk) image (replayed (journal_of plan) image)
    image_stands = record {
      stands = image_recovers;
      volume = keeps;
      info = info;
      header = plan.header;
      form = form_in_use plan rest;
      spelled = header ∙ header_spells plan (content disk) k.journal.holds;
      own = λ s shut. replayed_still image plan image_plan s (closed_parts plan s shut);
    }

    image_replayed : replayed (journal_of plan) image ≡ with_homes (text_of (journal_of plan) (content disk)) (homes_of (journal_of plan) (content disk)) image
    image_replayed = ap (λ (t : List ℕ). with_homes t (text_homes plan.header.order plan.header.blhdr t (length t) 0) image) same

    pub image_agrees : (these : ℕ → Type 0) → AgreesOutside (λ s. these s ⊎ IsNamed (homes_of (journal_of plan) (content disk)) s) (content disk) image → AgreesOutside these (replayed (journal_of plan) (content disk)) (replayed (journal_of plan) image)
    image_agrees these a =
        subst (λ (d : Content). AgreesOutside these (replayed (journal_of plan) (content disk)) d) (sym image_replayed)
        (homes_agree (text_of (journal_of plan) (content disk)) (homes_of (journal_of plan) (content disk)) these (content disk) image a)

  inside_one : (s : ℕ) → length (candidates_of disk.candidates s) ≡ 1 → s < length disk.candidates
  inside_one s one = elim (cases_lt s (length disk.candidates)) [ inl inside ↦ inside | inr past ↦ absurd (omega (arith, one, ap length (get_or_past disk.candidates s [] past))) ]

  even : used_of plan % 512 ≡ 0
  even = distance_whole plan.info.size plan.header.start plan.header.end rest.whole rest.header.start_whole rest.header.end_whole rest.header.end_low rest.header.start_high

  -- while a list of sectors is written behind the text
  module _ (list : Content) (whole : AreWhole list) (room : used_of plan + 512 * length list ≤ plan.info.size - 512) (image : Content) (m : MixesInRing (span_of plan) plan.header.end list disk.candidates image) where
    list_room : 512 * length list ≤ plan.info.size - 512
    list_room = omega (arith, room)

    long : length image ≡ length (content disk)
    long = m.size ∙ sym length-c

    not_placed : (s : ℕ) → (s ≤ plan.info.offset / 512) ⊎ (plan.info.offset / 512 + plan.info.size / 512 ≤ s) → (j : ℕ) → j < length list → s ≢ sector_after (span_of plan) plan.header.end j
    not_placed s out = outside (span_of plan) plan.header.end (length list) s (span_in_use plan rest) (end_in plan rest) rest.header.end_whole list_room out

    -- the same where one value can stand and none is written
    kept_one : (s : ℕ) → length (candidates_of disk.candidates s) ≡ 1 → ((j : ℕ) → j < length list → s ≢ sector_after (span_of plan) plan.header.end j) → sector image s ≡ sector (content disk) s
    kept_one s one never = ⊎_elim (λ was. one_is disk.candidates s (sector image s) one was) (λ placed. absurd (never placed.0 placed.1 placed.2)) (m.each s (inside_one s one))

    -- a sector of the text isn't one behind it
    text_apart : (j : ℕ) → j < used_of plan / 512 → (i : ℕ) → i < length list → sector_after (span_of plan) plan.header.start j ≢ sector_after (span_of plan) plan.header.end i
    text_apart j less i below same =
        let used = used_of plan in
        let reached : offset_after plan.info.size plan.header.start used ≡ plan.header.end = distance_reaches plan.info.size plan.header.start plan.header.end rest.header.end_low rest.header.start_high rest.header.end_high in
        let steps : 512 * (used / 512 + i) ≡ used + 512 * i = omega (arith, even) in
        let there : offset_after plan.info.size plan.header.end (512 * i) ≡ offset_after plan.info.size plan.header.start (512 * (used / 512 + i)) =
        ap (λ n. offset_after plan.info.size n (512 * i)) (sym reached) ∙ offset_sum plan.info.size plan.header.start used (512 * i) rest.header.start_low rest.header.start_high (omega (arith, room, below)) ∙ ap (offset_after plan.info.size plan.header.start) (sym steps) in
        apart (span_of plan) plan.header.start j (used / 512 + i) (span_in_use plan rest) (start_in plan rest) rest.header.start_whole (omega (arith, less)) (omega (arith, steps, room, below))
        (same ∙ ap (λ n. plan.info.offset / 512 + n / 512) there)

    image_whole : AreWhole image
    image_whole s inside = ⊎_elim (λ was. (is.whole s (sector image s) was).size) (λ placed. ap length placed.3 ∙ whole placed.0 placed.1) (m.each s (omega (arith, inside, m.size)))

    has_image : HasJournal (plan.info.offset / 512) plan.info.size image
    has_image = record { whole = image_whole; fits = omega (arith, has_content.fits, long); sectors = rest.whole }

    text_still : text_of (journal_of plan) image ≡ text_of (journal_of plan) (content disk)
    text_still =
        ring_by (span_of plan) plan.header.start plan.header.end (content disk) image (span_in_use plan rest) has_content has_image (start_in plan rest) (end_in plan rest) rest.header.start_whole rest.header.end_whole
        (λ j less. kept_one (sector_after (span_of plan) plan.header.start j) (k.stable j less) (text_apart j less))

    volume_still_there : KeepsHeader (content disk) image
    volume_still_there = volume_still (content disk) image k.journal.holds.place.accepted (kept_one 2 k.journal.volume_one (not_placed 2 (volume_apart plan (content disk) k.journal.holds)))

    info_still_there : sector image plan.place.info_sector ≡ sector (content disk) plan.place.info_sector
    info_still_there = kept_one plan.place.info_sector k.journal.info_one (not_placed plan.place.info_sector (info_apart plan (content disk) k.journal.holds))

    header_still_there : sector image (plan.info.offset / 512) ≡ sector (content disk) (plan.info.offset / 512)
    header_still_there = kept_one (plan.info.offset / 512) k.journal.header_one (not_placed (plan.info.offset / 512) (inl (omega arith)))

    -- it stands for what the disk does
    pub listed_stands : StandsFor plan (content disk) image (replayed (journal_of plan) image)
    listed_stands = image_stands image long volume_still_there info_still_there header_still_there text_still

    pub listed_plan : IsPlan image plan
    listed_plan = image_plan image long volume_still_there info_still_there header_still_there text_still

    placed_closed : (j : ℕ) → j < length list → IsClosed plan (sector_after (span_of plan) plan.header.end j)
    placed_closed j less =
        let there = in_journal (span_of plan) plan.header.end j (span_in_use plan rest) (end_in plan rest) rest.header.end_whole (omega (arith, list_room, less)) in
        closed_own plan (sector_after (span_of plan) plan.header.end j) (omega (arith, there.0)) there.1

    -- but in what was spilled and in the journal
    pub listed_agrees : AgreesOutside (λ s. IsSpilled plan disk.candidates s ⊎ IsClosed plan s) (replayed (journal_of plan) (content disk)) (replayed (journal_of plan) image)
    listed_agrees = image_agrees image long volume_still_there info_still_there header_still_there text_still (λ s. IsSpilled plan disk.candidates s ⊎ IsClosed plan s) (record {
      size = long;
      each = λ s. elim (closed_or plan s) [
        | inl shut ↦ inr (inl (inr shut))
        | inr free ↦ elim (cases_lt s (length disk.candidates)) [
          | inl inside ↦ ⊎_elim
              (λ was. ⊎_elim (λ same. inl same) (λ more. inr (inl (inl (more, free)))) (same_or_more disk.candidates s (sector image s) was))
              (λ placed. absurd (free (subst (IsClosed plan) (sym placed.2) (placed_closed placed.0 placed.1))))
              (m.each s inside)
          | inr past ↦ inl (get_or_past image s [] (omega (arith, past, m.size)) ∙ sym (get_or_past (content disk) s [] (omega (arith, past, length-c))))
        ]
      ];
    })

  -- while the live sectors are written home
  module _ (image : Content) (m : IsHomeMix (text_of (journal_of plan) (content disk)) (homes_of (journal_of plan) (content disk)) disk.candidates image) where
    home_size : length image ≡ length (content disk)
    home_size = m.size ∙ sym length-c

    -- no home is in the journal, or the info block
    home_open : (s : ℕ) → IsClosed plan s → IsNamed (homes_of (journal_of plan) (content disk)) s → ⊥
    home_open s shut = not_named (IsGoodHome (volume_of plan.place.info_sector (journal_of plan) (content disk)) (text_of (journal_of plan) (content disk))) (homes_of (journal_of plan) (content disk)) s good (λ home g same. elim (closed_parts plan s shut) [
      | inl inside ↦ elim g.apart [ inl a ↦ omega (arith, a, same, inside.0) | inr b ↦ omega (arith, b, same, inside.1) ]
      | inr info ↦ g.no_info (same ∙ info)
    ])

    home_kept : (s : ℕ) → IsClosed plan s → length (candidates_of disk.candidates s) ≡ 1 → sector image s ≡ sector (content disk) s
    home_kept s shut one =
        ⊎_elim (λ was. one_is disk.candidates s (sector image s) one was) (λ h. absurd (home_open s shut (named_home (text_of (journal_of plan) (content disk)) (homes_of (journal_of plan) (content disk)) s (sector image s) h))) (m.each s (inside_one s one))

    home_keeps : KeepsHeader (content disk) image
    home_keeps =
        header_stays (volume_of plan.place.info_sector (journal_of plan) (content disk)) (text_of (journal_of plan) (content disk)) (homes_of (journal_of plan) (content disk)) (content disk) image refl refl good k.journal.holds.place.accepted
        (⊎_elim (λ was. inl (one_is disk.candidates 2 (sector image 2) k.journal.volume_one was)) (λ h. inr h) (m.each 2 (inside_one 2 k.journal.volume_one)))

    home_whole : AreWhole image
    home_whole s inside =
        ⊎_elim (λ was. (is.whole s (sector image s) was).size)
        (λ h. home_long (volume_of plan.place.info_sector (journal_of plan) (content disk)) (text_of (journal_of plan) (content disk)) (homes_of (journal_of plan) (content disk)) s (sector image s) good h)
        (m.each s (omega (arith, inside, m.size)))

    home_has_journal : HasJournal (plan.info.offset / 512) plan.info.size image
    home_has_journal = record { whole = home_whole; fits = omega (arith, has_content.fits, home_size); sectors = rest.whole }

    text_own : (j : ℕ) → j < used_of plan / 512 → IsClosed plan (sector_after (span_of plan) plan.header.start j)
    text_own j less =
        let short = distance_short plan.info.size plan.header.start plan.header.end rest.header.start_low rest.header.end_low rest.header.start_high rest.header.end_high in
        let there = in_journal (span_of plan) plan.header.start j (span_in_use plan rest) (start_in plan rest) rest.header.start_whole (omega (arith, less, short)) in
        closed_own plan (sector_after (span_of plan) plan.header.start j) (omega (arith, there.0)) there.1

    home_text : text_of (journal_of plan) image ≡ text_of (journal_of plan) (content disk)
    home_text =
        ring_by (span_of plan) plan.header.start plan.header.end (content disk) image (span_in_use plan rest) has_content home_has_journal (start_in plan rest) (end_in plan rest) rest.header.start_whole rest.header.end_whole
        (λ j less. home_kept (sector_after (span_of plan) plan.header.start j) (text_own j less) (k.stable j less))

    home_info : sector image plan.place.info_sector ≡ sector (content disk) plan.place.info_sector
    home_info = home_kept plan.place.info_sector (closed_info plan plan.place.info_sector refl) k.journal.info_one

    home_header : sector image (plan.info.offset / 512) ≡ sector (content disk) (plan.info.offset / 512)
    home_header = home_kept (plan.info.offset / 512) (closed_own plan (plan.info.offset / 512) (omega arith) (omega (arith, rest.least))) k.journal.header_one

    -- it stands for what the disk does
    pub home_stands : StandsFor plan (content disk) image (replayed (journal_of plan) image)
    home_stands = image_stands image home_size home_keeps home_info home_header home_text

    -- but in what was spilled and in the journal
    pub home_agrees : AgreesOutside (λ s. IsSpilled plan disk.candidates s ⊎ IsClosed plan s) (replayed (journal_of plan) (content disk)) (replayed (journal_of plan) image)
    home_agrees = image_agrees image home_size home_keeps home_info home_header home_text (λ s. IsSpilled plan disk.candidates s ⊎ IsClosed plan s) (record {
      size = home_size;
      each = λ s. elim (closed_or plan s) [
        | inl shut ↦ inr (inl (inr shut))
        | inr free ↦ elim (cases_lt s (length disk.candidates)) [
          | inl inside ↦ ⊎_elim
              (λ was. ⊎_elim (λ same. inl same) (λ more. inr (inl (inl (more, free)))) (same_or_more disk.candidates s (sector image s) was))
              (λ h. inr (inr (named_home (text_of (journal_of plan) (content disk)) (homes_of (journal_of plan) (content disk)) s (sector image s) h)))
              (m.each s inside)
          | inr past ↦ inl (get_or_past image s [] (omega (arith, past, m.size)) ∙ sym (get_or_past (content disk) s [] (omega (arith, past, length-c))))
        ]
      ];
    })

  -- while the journal header is emptied over a content with all live sectors home
  module _ (fits : FitsPlan disk.sectors plan) (tells : IsTrue disk.tells) (image : Content) (m : Mixes (only (replayed (journal_of plan) (content disk))) (plan.info.offset / 512) (empty_header plan (replayed (journal_of plan) (content disk)) ∷ []) image) where
    abbrev pub found : StandsForSame plan (content disk) image
    found = stage_empty (content disk) plan content_plan disk.sectors fits (length-c ∙ is.size tells) rest.old image m

    empty_form : IsInForm plan (emptied plan.header)
    empty_form = record {
      whole = record {
        start_whole = rest.header.end_whole;
        start_low = rest.header.end_low;
        start_high = rest.header.end_high;
        end_whole = rest.header.end_whole;
        end_low = rest.header.end_low;
        end_high = rest.header.end_high;
        size = rest.header.size;
        blhdr_whole = rest.header.blhdr_whole;
        blhdr_low = rest.header.blhdr_low;
        blhdr_high = rest.header.blhdr_high;
      };
      order = refl;
      blhdr = refl;
    }

    record HasForm : Type 0 where
      header : Header
      form_is : IsInForm plan header
      spelled : sector image (plan.info.offset / 512) ≡ header_bytes header ++ drop 44 (sector (content disk) (plan.info.offset / 512))

    has_form : (sector image (plan.info.offset / 512) ≡ sector (content disk) (plan.info.offset / 512)) ⊎ (sector image (plan.info.offset / 512) ≡ empty_header plan (content disk)) → HasForm
    has_form (inl e) = record { header = plan.header; form_is = form_in_use plan rest; spelled = e ∙ header_spells plan (content disk) k.journal.holds }
    has_form (inr e) = record { header = emptied plan.header; form_is = empty_form; spelled = e }

    pub emptied_stands : StandsFor plan (content disk) image found.recovered
    emptied_stands =
        let f = has_form found.header in
        record {
          stands = found.stands;
          volume = found.volume;
          info = ⊎_elim (λ e. e) (λ fresh. absurd (true≢false (sym fresh.0 ∙ rest.old))) found.info;
          header = f.header;
          form = f.form_is;
          spelled = f.spelled;
          own = λ s shut. found.own s (closed_parts plan s shut);
        }

    pub emptied_agrees : AgreesOutside (IsClosed plan) (replayed (journal_of plan) (content disk)) found.recovered
    emptied_agrees = record {
      size = found.agrees.size;
      each = λ s. elim (found.agrees.each s) [
        | inl e ↦ inl e
        | inr (inl base) ↦ inr (closed_own plan s (omega (arith, base)) (omega (arith, base, rest.least)))
        | inr (inr info) ↦ inr (closed_info plan s info)
      ];
    }
