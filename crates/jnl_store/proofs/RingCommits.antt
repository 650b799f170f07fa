-- A transaction behind live lists, stage by stage: what a crash leaves in each, and what stands at the end.
use Rattle.std.proofs.Common.{◌≡◌, ◌≢◌, ◌⊎◌, ℕ, ◌+◌, ◌-◌, ◌*◌, ◌/◌, ◌%◌, ◌^◌, ◌<◌, ◌≤◌, ◌||◌, true, List, [], ◌∷◌, ◌++◌, inl, inr, ⊎_elim, length, take, drop, refl, sym, ◌∙◌, ap, subst, arith}
use Rattle.std.specs.Prelude.{None, Ok, Option, IsTrue, All, option_map}
use Rattle.std.proofs.lemmas.Bool.{cases_eq, cases_lt}
use Rattle.volume_header.specs.Header.{header_of}
use Rattle.volume_header.specs.Refusal.{header_refusal}
use Rattle.sector_disk.specs.Lists.{Content, sector}
use Rattle.sector_disk.specs.Disk.{State, Candidates, IsDisk, CrashesLeave, Mixes, SameSink, candidates_of, content, content_of, only}
use Rattle.sector_disk.specs.Space.{AgreesOutside}
use Rattle.sector_disk.proofs.Candidates.{content_of-only}
use Rattle.sector_disk.proofs.Stages.{leaves_both, leaves_with, mixes_size}
use Rattle.jnl_format.specs.Header.{header_bytes}
use Rattle.jnl_format.specs.Ring.{offset_after, ring_text}
use Rattle.jnl_format.specs.Text.{bad_list, text_homes}
use Rattle.jnl_format.specs.declared.blocks.Home.{Home}
use Rattle.jnl_format.specs.Recovery.{header_of_volume, homes_of, info_in, journal_in, journaling_version, foreign_fault, or_else, replayed, text_fault, text_of, volume_of, with_homes}
use Rattle.jnl_format.specs.declared.structures.JnlRefusal.TheVariants.{BadList}
use Rattle.jnl_format.specs.Info.{holds, info_fault, info_of}
use Rattle.jnl_store.proofs.Commits.{long_sector}
use Rattle.jnl_format.specs.Named.{IsGoodHome}
use Rattle.jnl_format.proofs.Alike.{good_homes, recovers, stands_for, text_parts}
use Rattle.jnl_format.specs.Keeping.{KeepsHeader}
use Rattle.jnl_format.proofs.Mixing.{not_named, length-with_homes, mixes_with_homes}
use Rattle.jnl_format.specs.Named.{IsNamed}
use Rattle.jnl_format.proofs.Recovering.{apart_sector, journal_is_kept}
use Rattle.jnl_format.proofs.Volumes.{bad_same, same_as, same_parts}
use Rattle.jnl_format.specs.Keeping.{IsSame}
use Rattle.jnl_ring.specs.Span.{InBuffer, sector_after}
use Rattle.jnl_ring.specs.Writing.{MixesInRing, PutsInRing}
use Rattle.jnl_ring.proofs.Bytes.{HasJournal}
use Rattle.jnl_ring.specs.Whole.{AreWhole}
use Rattle.jnl_ring.proofs.RingLaws.{in_journal, outside, text_appended, text_kept}
use Rattle.jnl_ring.proofs.Wrap.{distance_short, offset_before, offset_behind, distance_whole, offset_after_header, offset_inside}
use Rattle.jnl_replay.specs.Plan.{FitsPlan, IsPlace, IsPlan, journal_of}
use Rattle.jnl_replay.specs.declared.plan.Plan.{Plan}
use Rattle.jnl_replay.proofs.Checks.{place_of}
use Rattle.jnl_replay.proofs.Stages.{replayed_still}
use Rattle.jnl_store.specs.Batch.{AreOnce, names}
use Rattle.jnl_store.specs.Appending.{MayAppend, end_after, longer, opened}
use Rattle.jnl_store.specs.InUse.{IsInUse, used_of}
use Rattle.jnl_store.specs.Journal.{IsClosed, IsSpilled, are_open}
use Rattle.jnl_store.specs.Lists.{IsFitPut, IsForm, lists_homes, lists_sectors, lists_text, text_sectors}
use Rattle.jnl_store.specs.Newest.{newest, or_later}
use Rattle.jnl_store.specs.Overlay.{overlay}
use Rattle.jnl_store.specs.Plan.{form_of, header_sector_of, span_of}
use Rattle.jnl_store.specs.Standing.{IsInForm, StandsFor, StandsForOne}
use Rattle.jnl_store.specs.declared.puts.Put.{Put}
use Rattle.jnl_store.proofs.Attached.{keeps_only, only_length, take_44}
use Rattle.jnl_store.proofs.Images.{agrees_both, agrees_with, closed_or, closed_own, closed_parts, info_apart, overlay_agrees, volume_apart}
use Rattle.jnl_store.proofs.Journals.{HoldsJournal, KeepsJournal}
use Rattle.jnl_store.proofs.ListsSectors.{concat-lists_sectors, length-lists_sectors, lists_whole}
use Rattle.jnl_store.proofs.Live.{fit_all, foreign_none, keeps_from, ring_same, same_from}
use Rattle.jnl_store.proofs.One.{length-one, mixed_else, mixed_here, one_else, one_here}
use Rattle.jnl_store.proofs.Quiet.{found_still, header_found, info_whole, not_info, old_is, volume_still}
use Rattle.jnl_store.proofs.RingAppended.{appended_good, appended_homes, appended_overlay}
use Rattle.jnl_store.proofs.RingHomes.{homes_agree, named_back}
use Rattle.jnl_store.proofs.Newest.{newest_append}
use Rattle.jnl_store.proofs.RingKept.{lists_parts, long_text}
use Rattle.jnl_store.proofs.RingStages.{KeepsText, end_in, good, has_content, header_stays, image_agrees, image_stands, length-c, listed_agrees, listed_stands, span_in_use, start_in}

-- before the transaction
pub record Begins (plan : Plan) (puts : List Put) (s0 : State) : Type 0 where
  pub rest : IsInUse plan
  pub tells : IsTrue s0.tells
  pub disk : IsDisk s0
  pub keeps : KeepsText plan s0
  pub once : AreOnce puts
  pub open_puts : are_open plan s0.sectors puts ≡ true
  pub fits : FitsPlan s0.sectors plan
  pub room : used_of plan / 512 + text_sectors plan.header.blhdr (length puts) ≤ plan.info.size / 512 - 2
  pub volume : KeepsHeader (replayed (journal_of plan) (content s0)) (overlay puts (replayed (journal_of plan) (content s0)))
  pub version : (header_of_volume (replayed (journal_of plan) (content s0))).last_mounted_version ≡ journaling_version

module _ (plan : Plan) (puts : List Put) (s0 : State) (b : Begins plan puts s0) where
  abbrev c0 : Content
  c0 = content s0

  abbrev durable : Content
  durable = replayed (journal_of plan) (content s0)

  abbrev target : Content
  target = overlay puts (replayed (journal_of plan) (content s0))

  abbrev list : Content
  list = lists_sectors (form_of plan) puts

  form : IsForm (form_of plan)
  form = record { whole = b.rest.header.blhdr_whole; least = b.rest.header.blhdr_low; most = b.rest.header.blhdr_high }

  list_long : length (lists_sectors (form_of plan) puts) ≡ text_sectors plan.header.blhdr (length puts)
  list_long = length-lists_sectors (form_of plan) form puts

  even : used_of plan % 512 ≡ 0
  even = distance_whole plan.info.size plan.header.start plan.header.end b.rest.whole b.rest.header.start_whole b.rest.header.end_whole b.rest.header.end_low b.rest.header.start_high

  list_room : used_of plan + 512 * length (lists_sectors (form_of plan) puts) < plan.info.size - 512
  list_room = omega (arith, list_long, b.room, even, b.rest.whole, b.rest.least)

  size0 : length (content s0) ≡ s0.sectors
  size0 = length-c plan b.rest s0 b.disk b.keeps ∙ b.disk.size b.tells

  free : are_open plan (length (content s0)) puts ≡ true
  free = ap (λ n. are_open plan n puts) size0 ∙ b.open_puts

  -- while the lists are written
  pub image_text : (image : Content) → MixesInRing (span_of plan) plan.header.end (lists_sectors (form_of plan) puts) s0.candidates image → StandsForOne plan s0 (replayed (journal_of plan) (content s0)) (overlay puts (replayed (journal_of plan) (content s0))) image
  image_text image m = (
    replayed (journal_of plan) image,
    listed_stands plan b.rest s0 b.disk b.keeps (lists_sectors (form_of plan) puts) (lists_whole (form_of plan) form puts) (omega (arith, list_room)) image m,
    inl (listed_agrees plan b.rest s0 b.disk b.keeps (lists_sectors (form_of plan) puts) (lists_whole (form_of plan) form puts) (omega (arith, list_room)) image m),
  )

  new_in : InBuffer (span_of plan) (end_after plan puts)
  new_in = record {
    after_header = offset_after_header plan.info.size plan.header.end (512 * text_sectors plan.header.blhdr (length puts)) b.rest.header.end_low;
    inside = offset_inside plan.info.size plan.header.end (512 * text_sectors plan.header.blhdr (length puts)) b.rest.header.end_low b.rest.header.end_high (omega (arith, list_room, list_long));
  }

  new_even : end_after plan puts % 512 ≡ 0
  new_even = elim (cases_lt (plan.header.end + 512 * text_sectors plan.header.blhdr (length puts)) plan.info.size) [
    | inl before ↦ ap (λ n. n % 512) (offset_before plan.info.size plan.header.end (512 * text_sectors plan.header.blhdr (length puts)) before) ∙ omega (arith, b.rest.header.end_whole)
    | inr behind ↦ ap (λ n. n % 512) (offset_behind plan.info.size plan.header.end (512 * text_sectors plan.header.blhdr (length puts)) behind) ∙ omega (arith, b.rest.header.end_whole, b.rest.whole, behind)
  ]

  new_rest : IsInUse (longer plan puts)
  new_rest = record {
    header = record {
      start_whole = b.rest.header.start_whole;
      start_low = b.rest.header.start_low;
      start_high = b.rest.header.start_high;
      end_whole = new_even;
      end_low = new_in.after_header;
      end_high = new_in.inside;
      size = b.rest.header.size;
      blhdr_whole = b.rest.header.blhdr_whole;
      blhdr_low = b.rest.header.blhdr_low;
      blhdr_high = b.rest.header.blhdr_high;
    };
    least = b.rest.least;
    most = b.rest.most;
    whole = b.rest.whole;
    old = b.rest.old;
  }

  new_form : IsInForm plan (longer plan puts).header
  new_form = record { whole = new_rest.header; order = refl; blhdr = refl }

  base_inside : plan.info.offset / 512 < length (content s0)
  base_inside = omega (arith, size0, b.fits.inside, b.fits.least)

  volume_other : 2 ≢ plan.info.offset / 512
  volume_other e = let i = info_whole plan (content s0) b.keeps.journal.holds in elim (apart_sector (length (content s0) * 512) plan.place.info_sector plan.info 2 i i.no_header) [ inl a ↦ omega (arith, a, e) | inr a ↦ omega (arith, a, e, b.rest.least) ]

  info_other : plan.place.info_sector ≢ plan.info.offset / 512
  info_other e = not_info plan (content s0) b.keeps.journal.holds b.rest.least e

  -- the volume header of the durable content is of the same volume as the disk's
  durable_kind : IsSame (header_of_volume (content s0)) (header_of_volume (replayed (journal_of plan) (content s0)))
  durable_kind =
      let text = text_of (journal_of plan) (content s0) in
      let homes = homes_of (journal_of plan) (content s0) in
      let keeps : KeepsHeader (content s0) (replayed (journal_of plan) (content s0)) =
      header_stays (volume_of plan.place.info_sector (journal_of plan) (content s0)) text homes (content s0) (replayed (journal_of plan) (content s0)) refl refl (good plan b.rest s0 b.disk b.keeps) b.keeps.journal.holds.place.accepted
      ((mixes_with_homes text homes (content s0)).each 2) in
      keeps.same

  durable_size : length (replayed (journal_of plan) (content s0)) ≡ length (content s0)
  durable_size = length-with_homes (text_of (journal_of plan) (content s0)) (homes_of (journal_of plan) (content s0)) (content s0)

  target_keeps : KeepsHeader (content s0) (overlay puts (replayed (journal_of plan) (content s0)))
  target_keeps =
      let was = header_of_volume (content s0) in
      let mid = header_of_volume (replayed (journal_of plan) (content s0)) in
      let new = header_of_volume (overlay puts (replayed (journal_of plan) (content s0))) in
      record {
        same = same_parts was new (sym (same_as was mid new durable_kind) ∙ same_from mid new b.volume.same);
        accepted = ap (λ n. header_refusal new n) (sym durable_size) ∙ b.volume.accepted;
      }

  version_is : plan.place.last_mounted ≡ journaling_version
  version_is = b.keeps.journal.holds.place.last_mounted ∙ sym durable_kind.last_mounted ∙ b.version

  -- the lists stand in the ring
  module _ (c1 : Content) (whole : AreWhole c1) (puts_in : PutsInRing (span_of plan) plan.header.end (lists_sectors (form_of plan) puts) (content s0) c1) where
    size1 : length c1 ≡ length (content s0)
    size1 = puts_in.size

    has_c0 : HasJournal (plan.info.offset / 512) plan.info.size (content s0)
    has_c0 = has_content plan b.rest s0 b.disk b.keeps

    has_c1 : HasJournal (plan.info.offset / 512) plan.info.size c1
    has_c1 = record { whole = whole; fits = omega (arith, has_c0.fits, size1); sectors = b.rest.whole }

    same_apart : (s : ℕ) → (s ≤ plan.info.offset / 512) ⊎ (plan.info.offset / 512 + plan.info.size / 512 ≤ s) → sector c1 s ≡ sector (content s0) s
    same_apart s out = puts_in.elsewhere s (outside (span_of plan) plan.header.end (length (lists_sectors (form_of plan) puts)) s (span_in_use plan b.rest) (end_in plan b.rest) b.rest.header.end_whole (omega (arith, list_room)) out)

    base_same : sector c1 (plan.info.offset / 512) ≡ sector (content s0) (plan.info.offset / 512)
    base_same = same_apart (plan.info.offset / 512) (inl (omega arith))

    listed_outside : AgreesOutside (IsClosed plan) (content s0) c1
    listed_outside = record {
      size = size1;
      each = λ s. elim (closed_or plan s) [
        | inl shut ↦ inr shut
        | inr open_one ↦ inl (puts_in.elsewhere s (λ k less same.
            let there = in_journal (span_of plan) plan.header.end k (span_in_use plan b.rest) (end_in plan b.rest) b.rest.header.end_whole (omega (arith, list_room, less)) in
            open_one (closed_own plan s (omega (arith, same, there.0)) (omega (arith, same, there.1)))))
      ];
    }

    -- the old text, and the new one
    old_text : ring_text c1 (plan.info.offset / 512) plan.info.size plan.header.start plan.header.end ≡ text_of (journal_of plan) (content s0)
    old_text =
        text_kept (span_of plan) plan.header.start plan.header.end (length (lists_sectors (form_of plan) puts)) (content s0) c1 (span_in_use plan b.rest) has_c0 has_c1 (start_in plan b.rest) (end_in plan b.rest) b.rest.header.start_whole b.rest.header.end_whole
        (omega (arith, list_room)) (λ s other. puts_in.elsewhere s other)

    new_text : ring_text c1 (plan.info.offset / 512) plan.info.size plan.header.start (end_after plan puts) ≡ text_of (journal_of plan) (content s0) ++ lists_text (form_of plan) puts
    new_text =
        ap (λ n. ring_text c1 (plan.info.offset / 512) plan.info.size plan.header.start (offset_after plan.info.size plan.header.end (512 * n))) (sym list_long)
        ∙ text_appended (span_of plan) plan.header.start plan.header.end (lists_sectors (form_of plan) puts) (content s0) c1 (span_in_use plan b.rest) has_c0 has_c1 (start_in plan b.rest) (end_in plan b.rest) b.rest.header.start_whole b.rest.header.end_whole
        (lists_whole (form_of plan) form puts) list_room puts_in
        ∙ ap (λ (l : List ℕ). text_of (journal_of plan) (content s0) ++ l) (concat-lists_sectors (form_of plan) form puts)

    -- an image that differs from that content in the journal header at most
    module _ (image : Content) (size : length image ≡ length c1) (other : (s : ℕ) → s ≢ plan.info.offset / 512 → sector image s ≡ sector c1 s) (image_whole : AreWhole image) where
      long : length image ≡ length (content s0)
      long = size ∙ size1

      volume_same : sector image 2 ≡ sector (content s0) 2
      volume_same = other 2 volume_other ∙ same_apart 2 (volume_apart plan (content s0) b.keeps.journal.holds)

      info_same : sector image plan.place.info_sector ≡ sector (content s0) plan.place.info_sector
      info_same = other plan.place.info_sector info_other ∙ same_apart plan.place.info_sector (info_apart plan (content s0) b.keeps.journal.holds)

      keeps_kind : KeepsHeader (content s0) image
      keeps_kind = volume_still (content s0) image b.keeps.journal.holds.place.accepted volume_same

      has_image : HasJournal (plan.info.offset / 512) plan.info.size image
      has_image = record { whole = image_whole; fits = omega (arith, has_c0.fits, long); sectors = b.rest.whole }

      image_outside : AgreesOutside (IsClosed plan) (content s0) image
      image_outside = agrees_both (IsClosed plan) (content s0) c1 image listed_outside (record {
        size = size;
        each = λ s. elim (cases_eq s (plan.info.offset / 512)) [
          | inl same ↦ inr (closed_own plan s (omega (arith, same)) (omega (arith, same, b.rest.least)))
          | inr n ↦ inl (other s n)
        ];
      })

      text_same : (end : ℕ) → InBuffer (span_of plan) end → ring_text image (plan.info.offset / 512) plan.info.size plan.header.start end ≡ ring_text c1 (plan.info.offset / 512) plan.info.size plan.header.start end
      text_same end to = ring_same (span_of plan) plan.header.start end c1 image (span_in_use plan b.rest) has_c1 has_image (start_in plan b.rest) to b.rest.header.start_whole (λ s low high. other s (λ same. absurd (omega (arith, same, low))))

      -- the old header stands there
      pub quiet : sector image (plan.info.offset / 512) ≡ sector c1 (plan.info.offset / 512) → StandsForOne plan s0 (replayed (journal_of plan) (content s0)) (overlay puts (replayed (journal_of plan) (content s0))) image
      quiet same =
          let text = text_same plan.header.end (end_in plan b.rest) ∙ old_text in (
            replayed (journal_of plan) image,
            image_stands plan b.rest s0 b.disk b.keeps image long keeps_kind info_same (same ∙ base_same) text,
            inl (agrees_with (IsClosed plan) (λ s. IsSpilled plan s0.candidates s ⊎ IsClosed plan s) (replayed (journal_of plan) (content s0)) (replayed (journal_of plan) image)
                (image_agrees plan b.rest s0 b.disk b.keeps image long keeps_kind info_same (same ∙ base_same) text (IsClosed plan) (agrees_with (IsClosed plan) (λ s. IsClosed plan s ⊎ IsNamed (homes_of (journal_of plan) (content s0)) s) (content s0) image image_outside (λ s shut. inl shut)))
                (λ s shut. inr shut)),
          )

      -- the new header stands there
      module _ (new : sector image (plan.info.offset / 512) ≡ header_sector_of (longer plan puts) c1) where
        abbrev next : Plan
        next = longer plan puts

        spelled : sector image (plan.info.offset / 512) ≡ header_bytes (longer plan puts).header ++ drop 44 (sector (content s0) (plan.info.offset / 512))
        spelled = new ∙ ap (λ (v : List ℕ). header_bytes (longer plan puts).header ++ drop 44 v) base_same

        found : IsPlace image plan.place × (info_in plan.place.info_sector image ≡ Ok plan.info)
        found = found_still plan (content s0) image b.keeps.journal.holds long volume_same info_same

        new_found : journal_in plan.place.info_sector image ≡ Ok (journal_of (longer plan puts))
        new_found =
            journal_is_kept plan.place.info_sector image plan.info (Ok (longer plan puts).header) found.1 b.keeps.journal.holds.old
            (header_found plan (longer plan puts).header (sector image (plan.info.offset / 512)) (drop 44 (sector (content s0) (plan.info.offset / 512))) new_form b.rest.most spelled)
            ∙ ap (λ j. Ok j) (sym (old_is (longer plan puts) b.rest.old))

        text_is : text_of (journal_of (longer plan puts)) image ≡ text_of (journal_of plan) (content s0) ++ lists_text (form_of plan) puts
        text_is = text_same (end_after plan puts) new_in ∙ new_text

        small : length image < 2 ^ 64
        small = omega (arith, long, size0, b.fits.sectors)

        fit : All (IsFitPut (volume_of plan.place.info_sector (journal_of (longer plan puts)) image)) puts
        fit =
            let v = volume_of plan.place.info_sector (journal_of (longer plan puts)) image in
            fit_all plan v (content s0) refl refl refl long puts (replayed (journal_of plan) (content s0)) b.once free durable_size
            (keeps_from v (content s0) (overlay puts (replayed (journal_of plan) (content s0))) long (ap header_of volume_same) target_keeps)

        old_good : bad_list (volume_of plan.place.info_sector (journal_of (longer plan puts)) image) plan.header.order plan.header.blhdr (text_of (journal_of plan) (content s0)) (length (text_of (journal_of plan) (content s0))) 0 ≡ None
        old_good =
            bad_same (volume_of plan.place.info_sector (journal_of plan) (content s0)) (volume_of plan.place.info_sector (journal_of (longer plan puts)) image) plan.header.order plan.header.blhdr (text_of (journal_of plan) (content s0)) (length (text_of (journal_of plan) (content s0))) 0
            (record { sectors = long; first = refl; count = refl; info_sector = refl; header = keeps_kind.same })
            ∙ (text_parts plan.place.info_sector plan.place.last_mounted (journal_of plan) (content s0) b.keeps.lists).0

        new_good : bad_list (volume_of plan.place.info_sector (journal_of (longer plan puts)) image) plan.header.order plan.header.blhdr (text_of (journal_of (longer plan puts)) image) (length (text_of (journal_of (longer plan puts)) image)) 0 ≡ None
        new_good =
            let v = volume_of plan.place.info_sector (journal_of (longer plan puts)) image in
            ap (λ (t : List ℕ). bad_list v plan.header.order plan.header.blhdr t (length t) 0) text_is
            ∙ appended_good v (form_of plan) puts form small fit (text_of (journal_of plan) (content s0)) old_good

        new_fault : text_fault plan.place.info_sector plan.place.last_mounted (journal_of (longer plan puts)) image ≡ None
        new_fault =
            ap (λ (o : Option ℕ). or_else (option_map (λ place. BadList (offset_after plan.info.size plan.header.start place)) o) (foreign_fault plan.place.last_mounted (journal_of (longer plan puts)))) new_good
            ∙ foreign_none plan.header.start (end_after plan puts) plan.place.last_mounted version_is

        pub new_plan : IsPlan image (longer plan puts)
        new_plan = record { place = found.0; journal = new_found; text = new_fault }

        -- over any content, the lists of the new text do what those of the old did, and then the puts
        pub new_homes : (d : Content) → with_homes (text_of (journal_of (longer plan puts)) image) (homes_of (journal_of (longer plan puts)) image) d ≡ overlay puts (with_homes (text_of (journal_of plan) (content s0)) (homes_of (journal_of plan) (content s0)) d)
        new_homes d =
            let v = volume_of plan.place.info_sector (journal_of (longer plan puts)) image in
            ap (λ (t : List ℕ). with_homes t (text_homes plan.header.order plan.header.blhdr t (length t) 0) d) text_is
            ∙ appended_overlay v (form_of plan) puts form small fit (text_of (journal_of plan) (content s0)) old_good d

        -- and their homes follow theirs
        pub new_listed : homes_of (journal_of (longer plan puts)) image ≡ homes_of (journal_of plan) (content s0) ++ lists_homes plan.header.blhdr (used_of plan) 0 puts
        new_listed =
            let v = volume_of plan.place.info_sector (journal_of (longer plan puts)) image in
            let front = homes_of (journal_of plan) (content s0) in
            ap (λ (t : List ℕ). text_homes plan.header.order plan.header.blhdr t (length t) 0) text_is
            ∙ appended_homes v (form_of plan) puts form small fit (text_of (journal_of plan) (content s0)) old_good
            ∙ ap (λ n. front ++ lists_homes plan.header.blhdr n 0 puts) (long_text plan b.rest s0 b.disk b.keeps)

        pub new_stands : StandsFor plan (content s0) image (replayed (journal_of (longer plan puts)) image)
        new_stands = record {
          stands =
              recovers plan.place.info_sector plan.place.last_mounted image (place_of image plan.place found.0)
              ∙ stands_for plan.place.info_sector plan.place.last_mounted (journal_of (longer plan puts)) image new_found new_fault;
          volume = keeps_kind;
          info = info_same;
          header = (longer plan puts).header;
          form = new_form;
          spelled = spelled;
          own = λ s shut. replayed_still image (longer plan puts) new_plan s (closed_parts plan s shut);
        }

        pub new_agrees : AgreesOutside (IsClosed plan) (overlay puts (replayed (journal_of plan) (content s0))) (replayed (journal_of (longer plan puts)) image)
        new_agrees =
            subst (λ (d : Content). AgreesOutside (IsClosed plan) (overlay puts (replayed (journal_of plan) (content s0))) d) (sym (new_homes image))
            (overlay_agrees puts (IsClosed plan) (replayed (journal_of plan) (content s0)) (with_homes (text_of (journal_of plan) (content s0)) (homes_of (journal_of plan) (content s0)) image)
            (homes_agree (text_of (journal_of plan) (content s0)) (homes_of (journal_of plan) (content s0)) (IsClosed plan) (content s0) image
            (agrees_with (IsClosed plan) (λ s. IsClosed plan s ⊎ IsNamed (homes_of (journal_of plan) (content s0)) s) (content s0) image image_outside (λ s shut. inl shut))))

        pub new_one : StandsForOne plan s0 (replayed (journal_of plan) (content s0)) (overlay puts (replayed (journal_of plan) (content s0))) image
        new_one = (replayed (journal_of (longer plan puts)) image, new_stands, inr new_agrees)

    -- while the journal header is written
    mixed_whole : (image : Content) → length image ≡ length c1 → ((s : ℕ) → s ≢ plan.info.offset / 512 → sector image s ≡ sector c1 s) → (sector image (plan.info.offset / 512) ≡ sector c1 (plan.info.offset / 512)) ⊎ (sector image (plan.info.offset / 512) ≡ header_sector_of (longer plan puts) c1) → AreWhole image
    mixed_whole image size other here s inside = elim (cases_eq s (plan.info.offset / 512)) [
      | inl same ↦
          ap (λ n. length (sector image n)) same
          ∙ ⊎_elim (λ old. ap length old ∙ whole (plan.info.offset / 512) (omega (arith, base_inside, size1)))
          (λ new. ap length new ∙ long_sector (longer plan puts) c1 (whole (plan.info.offset / 512) (omega (arith, base_inside, size1)))) here
      | inr n ↦ ap length (other s n) ∙ whole s (omega (arith, inside, size))
    ]

    pub image_header : (image : Content) → Mixes (only c1) (plan.info.offset / 512) (header_sector_of (longer plan puts) c1 ∷ []) image → StandsForOne plan s0 (replayed (journal_of plan) (content s0)) (overlay puts (replayed (journal_of plan) (content s0))) image
    image_header image m =
        let value = header_sector_of (longer plan puts) c1 in
        let inside : plan.info.offset / 512 < length c1 = omega (arith, base_inside, size1) in
        let size : length image ≡ length c1 = mixes_size c1 (plan.info.offset / 512) (value ∷ []) image m in
        let other = mixed_else c1 (plan.info.offset / 512) value inside image m in
        let here = mixed_here c1 (plan.info.offset / 512) value inside image m in
        let good_image = mixed_whole image size other here in
        ⊎_elim (λ old. quiet image size other good_image old) (λ new. new_one image size other good_image new) here

    opened_inside : plan.info.offset / 512 < length c1
    opened_inside = omega (arith, base_inside, size1)

    pub opened_size : length (opened plan puts c1) ≡ length c1
    opened_size = length-one c1 (plan.info.offset / 512) (header_sector_of (longer plan puts) c1) opened_inside

    opened_else : (s : ℕ) → s ≢ plan.info.offset / 512 → sector (opened plan puts c1) s ≡ sector c1 s
    opened_else = one_else c1 (plan.info.offset / 512) (header_sector_of (longer plan puts) c1) opened_inside

    opened_here : sector (opened plan puts c1) (plan.info.offset / 512) ≡ header_sector_of (longer plan puts) c1
    opened_here = one_here c1 (plan.info.offset / 512) (header_sector_of (longer plan puts) c1) opened_inside

    opened_whole : AreWhole (opened plan puts c1)
    opened_whole = mixed_whole (opened plan puts c1) opened_size opened_else (inr opened_here)

    pub opened_stands : StandsFor plan (content s0) (opened plan puts c1) (replayed (journal_of (longer plan puts)) (opened plan puts c1))
    opened_stands = new_stands (opened plan puts c1) opened_size opened_else opened_whole opened_here

    pub opened_agrees : AgreesOutside (IsClosed plan) (overlay puts (replayed (journal_of plan) (content s0))) (replayed (journal_of (longer plan puts)) (opened plan puts c1))
    opened_agrees = new_agrees (opened plan puts c1) opened_size opened_else opened_whole opened_here

    -- what a table has to have then
    pub opened_table : (live new : List Home) → ((at : ℕ) → at < length (content s0) → newest live at ≡ newest (homes_of (journal_of plan) (content s0)) at)
        → ((at : ℕ) → newest new at ≡ or_later (newest (lists_homes plan.header.blhdr (used_of plan) 0 puts) at) (newest live at))
        → (at : ℕ) → at < length (opened plan puts c1) → newest new at ≡ newest (homes_of (journal_of (longer plan puts)) (opened plan puts c1)) at
    opened_table live new table joined at inside =
        let more = lists_homes plan.header.blhdr (used_of plan) 0 puts in
        let front = homes_of (journal_of plan) (content s0) in
        joined at ∙ ap (or_later (newest more at)) (table at (omega (arith, inside, opened_size, size1)))
        ∙ sym (ap (λ (hs : List Home). newest hs at) (new_listed (opened plan puts c1) opened_size opened_else opened_whole opened_here) ∙ newest_append front more at)

    opened_holds : HoldsJournal (longer plan puts) (opened plan puts c1)
    opened_holds =
        let image = opened plan puts c1 in
        let long : length image ≡ length (content s0) = opened_size ∙ size1 in
        record {
          place = (new_plan image opened_size opened_else opened_whole opened_here).place;
          info = ap info_of (opened_else plan.place.info_sector info_other ∙ same_apart plan.place.info_sector (info_apart plan (content s0) b.keeps.journal.holds)) ∙ b.keeps.journal.holds.info;
          no_fault = ap (λ n. info_fault (n * 512) (holds plan.info 2 || holds plan.info plan.place.info_sector) plan.info) long ∙ b.keeps.journal.holds.no_fault;
          old = b.keeps.journal.holds.old;
          header = ap (take 44) opened_here ∙ take_44 (longer plan puts).header (drop 44 (sector c1 (plan.info.offset / 512)));
        }

    -- the journal with the new lists, on a disk of which nothing is pending
    pub opened_keeps : (s2 : State) → s2.candidates ≡ only (opened plan puts c1) → KeepsText (longer plan puts) s2
    opened_keeps s2 settled =
        let image = opened plan puts c1 in
        let long : length image ≡ length (content s0) = opened_size ∙ size1 in
        let has = has_content plan b.rest s0 b.disk b.keeps in
        record {
          journal = subst (λ (d : Candidates). KeepsJournal (longer plan puts) d) (sym settled)
              (keeps_only (longer plan puts) image opened_holds (omega (arith, long, size0, b.fits.inside, b.fits.least)) (omega (arith, long, size0, b.fits.info_sector)) (omega (arith, long, base_inside)));
          lists = subst (λ (d : Candidates). text_fault plan.place.info_sector plan.place.last_mounted (journal_of (longer plan puts)) (content_of d) ≡ None) (sym settled)
              (subst (λ (d : Content). text_fault plan.place.info_sector plan.place.last_mounted (journal_of (longer plan puts)) d ≡ None) (sym (content_of-only image)) (new_plan image opened_size opened_else opened_whole opened_here).text);
          stable = λ k less.
              let short = distance_short plan.info.size plan.header.start (end_after plan puts) b.rest.header.start_low new_in.after_header b.rest.header.start_high new_in.inside in
              let there = in_journal (span_of plan) plan.header.start k (span_in_use plan b.rest) (start_in plan b.rest) b.rest.header.start_whole (omega (arith, less, short)) in
              ap (λ (d : Candidates). length (candidates_of d (sector_after (span_of plan) plan.header.start k))) settled
              ∙ only_length image (sector_after (span_of plan) plan.header.start k) (omega (arith, there.1, has.fits, long));
        }

    -- each sector that the lists name is one of the disk's
    pub longer_inside : (s2 : State) → s2.candidates ≡ only (opened plan puts c1) → (s : ℕ) → IsNamed (homes_of (journal_of (longer plan puts)) (content s2)) s → s < length (opened plan puts c1)
    longer_inside s2 settled s named =
        let image = opened plan puts c1 in
        let is : content s2 ≡ image = ap content_of settled ∙ content_of-only image in
        let there : IsNamed (homes_of (journal_of (longer plan puts)) image) s = subst (λ (d : Content). IsNamed (homes_of (journal_of (longer plan puts)) d) s) is named in
        let all = good_homes plan.place.info_sector plan.place.last_mounted (journal_of (longer plan puts)) image (new_plan image opened_size opened_else opened_whole opened_here).text in
        elim (cases_lt s (length image)) [
          | inl inside ↦ inside
          | inr past ↦ absurd (not_named (IsGoodHome (volume_of plan.place.info_sector (journal_of (longer plan puts)) image) (text_of (journal_of (longer plan puts)) image)) (homes_of (journal_of (longer plan puts)) image) s all (λ home g same. omega (arith, g.inside, same, past)) there)
        ]

    -- and each of them a put or an earlier list names
    pub longer_named : (s2 : State) → s2.candidates ≡ only (opened plan puts c1) → (s : ℕ) → IsNamed (homes_of (journal_of (longer plan puts)) (content s2)) s → (names puts s ≡ true) ⊎ IsNamed (homes_of (journal_of plan) (content s0)) s
    longer_named s2 settled s named =
        let image = opened plan puts c1 in
        let is : content s2 ≡ image = ap content_of settled ∙ content_of-only image in
        named_back (text_of (journal_of (longer plan puts)) image) (text_of (journal_of plan) (content s0)) (homes_of (journal_of (longer plan puts)) image) (homes_of (journal_of plan) (content s0)) puts (length image) s
        (longer_inside s2 settled s named) (new_homes image opened_size opened_else opened_whole opened_here) (subst (λ (d : Content). IsNamed (homes_of (journal_of (longer plan puts)) d) s) is named)

    pub new_in_use : IsInUse (longer plan puts)
    new_in_use = new_rest

    pub longer_fits : FitsPlan s0.sectors (longer plan puts)
    longer_fits = record {
      sectors = b.fits.sectors;
      info_sector = b.fits.info_sector;
      offset = b.fits.offset;
      whole = b.fits.whole;
      least = b.fits.least;
      inside = b.fits.inside;
      start_low = b.rest.header.start_low;
      start_high = b.rest.header.start_high;
      end_low = new_in.after_header;
      end_high = new_in.inside;
      blhdr = b.fits.blhdr;
      header = new_form.whole;
    }

-- the lists are written
pub stage_text : (plan : Plan) (puts : List Put) (s0 s1 : State) (b : Begins plan puts s0) → CrashesLeave s0 s1 (MixesInRing (span_of plan) plan.header.end (lists_sectors (form_of plan) puts) s0.candidates)
    → CrashesLeave s0 s1 (StandsForOne plan s0 (replayed (journal_of plan) (content s0)) (overlay puts (replayed (journal_of plan) (content s0))))
stage_text plan puts s0 s1 b leaves =
    leaves_with s0 s1 (MixesInRing (span_of plan) plan.header.end (lists_sectors (form_of plan) puts) s0.candidates) (StandsForOne plan s0 (replayed (journal_of plan) (content s0)) (overlay puts (replayed (journal_of plan) (content s0)))) leaves
    (image_text plan puts s0 b)

-- and then the header
pub stage_header : (plan : Plan) (puts : List Put) (s0 s1 s2 : State) (b : Begins plan puts s0) → AreWhole (content s1) → PutsInRing (span_of plan) plan.header.end (lists_sectors (form_of plan) puts) (content s0) (content s1) → s1.candidates ≡ only (content s1)
    → CrashesLeave s0 s1 (MixesInRing (span_of plan) plan.header.end (lists_sectors (form_of plan) puts) s0.candidates) → SameSink s0 s1
    → CrashesLeave s1 s2 (Mixes s1.candidates (plan.info.offset / 512) (header_sector_of (longer plan puts) (content s1) ∷ [])) → CrashesLeave s0 s2 (StandsForOne plan s0 (replayed (journal_of plan) (content s0)) (overlay puts (replayed (journal_of plan) (content s0))))
stage_header plan puts s0 s1 s2 b whole puts_in settled first sink second =
    let P : Content → Type 0 = StandsForOne plan s0 (replayed (journal_of plan) (content s0)) (overlay puts (replayed (journal_of plan) (content s0))) in
    leaves_both s0 s1 s2 P (Mixes s1.candidates (plan.info.offset / 512) (header_sector_of (longer plan puts) (content s1) ∷ [])) P (stage_text plan puts s0 s1 b first) sink second
    (λ image p. p)
    (λ image m. image_header plan puts s0 b (content s1) whole puts_in image (subst (λ (d : Candidates). Mixes d (plan.info.offset / 512) (header_sector_of (longer plan puts) (content s1) ∷ []) image) settled m))

-- what a transaction begins with
pub begins : (plan : Plan) (live : List Home) (puts : List Put) (s0 : State) → IsInUse plan → MayAppend plan live puts s0 → IsDisk s0 → AreOnce puts → FitsPlan s0.sectors plan → used_of plan / 512 + text_sectors plan.header.blhdr (length puts) ≤ plan.info.size / 512 - 2 → Begins plan puts s0
begins plan live puts s0 rest may disk once fits room = record {
  rest = rest;
  tells = may.tells;
  disk = disk;
  keeps = (lists_parts plan live s0 may.kept).text;
  once = once;
  open_puts = may.open_puts;
  fits = fits;
  room = room;
  volume = may.volume;
  version = may.version;
}
