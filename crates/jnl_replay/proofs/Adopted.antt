-- What an adoption leaves, at its end and on the way.
use Rattle.std.proofs.Common.{◌≡◌, ◌≢◌, ◌⊎◌, ◌<◌, ◌≤◌, ◌+◌, ◌*◌, ◌/◌, ◌%◌, ◌^◌, ℕ, Bool, true, false, List, [], ◌∷◌, ◌++◌, inl, inr, length, drop, refl, sym, ◌∙◌, ap, subst, arith, cond, leb}
use Rattle.std.specs.Prelude.{Ok}
use Rattle.std.proofs.lemmas.Bool.{cases_eq, leb-true}
use Rattle.std.proofs.lemmas.List.{ext_get_or}
use Rattle.volume_header.specs.Header.{header_of}
use Rattle.volume_header.specs.Refusal.{header_refusal}
use Rattle.sector_disk.specs.Lists.{Content, sector}
use Rattle.sector_disk.specs.Disk.{Mixes, only}
use Rattle.sector_disk.proofs.Stages.{mixes_size}
use Rattle.jnl_format.specs.Checksum.{checksum_of}
use Rattle.jnl_format.specs.Header.{header_bytes, header_spelled, IsHeaderAs}
use Rattle.jnl_format.specs.Info.{is_fresh, with_info}
use Rattle.jnl_format.specs.Keeping.{IsSame, KeepsHeader}
use Rattle.jnl_format.specs.Recovery.{Journal, fresh_header, header_of_volume, homes_of, recovery, recovery_as, replayed, text_of}
use Rattle.jnl_format.specs.declared.dialect.Dialect.{Dialect}
use Rattle.jnl_format.specs.declared.dialect.Dialect.TheVariants.{Plain, Wide}
use Rattle.jnl_format.specs.declared.structures.Header.{Header}
use Rattle.jnl_format.proofs.Alike.{stands_alike_as, same_place}
use Rattle.jnl_format.proofs.Headers.{drop_header}
use Rattle.jnl_format.proofs.Mixing.{mixes_with_homes}
use Rattle.jnl_format.proofs.ReadBack.{FitsHeader}
use Rattle.jnl_format.proofs.Recovering.{apart_sector, found_journal_as, header_parts_as, journal_is_fresh_as, journal_parts_as, kept_journal, ok_same}
use Rattle.jnl_format.proofs.Widening.{head_wide, journal_wide, recovery_wide}
use Rattle.jnl_replay.specs.Adopting.{IsAdopted, StandsAdopted, after_adoption, narrowed, plain_blhdr}
use Rattle.jnl_replay.specs.Homing.{AgreesOutsideJournal, StandsForSameAs, after_replay, emptied, empty_header, initialised, with_empty_header, with_info_done}
use Rattle.jnl_replay.specs.Plan.{FitsPlanAs, FitsAny, IsPlanAs, journal_of}
use Rattle.jnl_replay.specs.declared.plan.Plan.{Plan}
use Rattle.jnl_replay.proofs.Checks.{place_of}
use Rattle.jnl_replay.proofs.Fits.{fits_any}
use Rattle.jnl_replay.proofs.Fresh.{fresh_found}
use Rattle.jnl_replay.proofs.One.{length-one, one_else, one_here, mixed_else, mixed_here, put_mixes}
use Rattle.jnl_replay.proofs.Renewed.{renewed_found, renewed_recovers}
use Rattle.jnl_replay.proofs.Replayed.{base_inside, info_apart, length-replayed, replay_stands_as}
use Rattle.jnl_replay.proofs.Stages.{empty_fault_as, empty_replay, empty_text, kept_header}
use Rattle.jnl_ring.specs.Whole.{AreWhole}

plain_by : (blhdr : ℕ) (b : Bool) → leb blhdr 65536 ≡ b → blhdr % 512 ≡ 0 → 512 ≤ blhdr → (cond b blhdr 4096 % 512 ≡ 0) × (512 ≤ cond b blhdr 4096) × (cond b blhdr 4096 ≤ 65536)
plain_by blhdr true is whole low = (whole, low, leb-true blhdr 65536 is)
plain_by blhdr false is whole low = (omega arith, omega arith, omega arith)

-- an emptied header as the plain dialect has it
pub plain_head : (plan : Plan) → IsHeaderAs Wide plan.info.size plan.header → IsHeaderAs Plain plan.info.size (emptied (narrowed plan).header)
plain_head plan h =
    let p = plain_by plan.header.blhdr (leb plan.header.blhdr 65536) refl h.blhdr_whole h.blhdr_low in
    record {
      start_whole = h.end_whole;
      start_low = h.end_low;
      start_high = h.end_high;
      end_whole = h.end_whole;
      end_low = h.end_low;
      end_high = h.end_high;
      size = h.size;
      blhdr_whole = p.0;
      blhdr_low = p.1;
      blhdr_high = p.2;
    }

-- the plan of the journal that this plan's becomes fits the disk too
pub fits_narrowed : (total : ℕ) (plan : Plan) → FitsAny total plan → FitsAny total (narrowed plan)
fits_narrowed total plan f =
    let h = f.header in
    let p = plain_by plan.header.blhdr (leb plan.header.blhdr 65536) refl h.blhdr_whole h.blhdr_low in
    record {
      sectors = f.sectors;
      info_sector = f.info_sector;
      offset = f.offset;
      whole = f.whole;
      least = f.least;
      inside = f.inside;
      start_low = f.start_low;
      start_high = f.start_high;
      end_low = f.end_low;
      end_high = f.end_high;
      blhdr = p.1;
      header = record {
        start_whole = h.start_whole;
        start_low = h.start_low;
        start_high = h.start_high;
        end_whole = h.end_whole;
        end_low = h.end_low;
        end_high = h.end_high;
        size = h.size;
        blhdr_whole = p.0;
        blhdr_low = p.1;
        blhdr_high = omega (arith, p.2);
      };
    }

plain_reads_same : (image given recovered : Content) → recovery_as Wide image ≡ Ok recovered → recovery image ≡ Ok given → given ≡ recovered
plain_reads_same image given recovered stands read = ok_same given recovered (sym (recovery_wide Plain image given read) ∙ stands)

-- what a replay leaves on the way
pub found_adopted : (plan : Plan) (c image : Content) → StandsForSameAs Wide plan c image → StandsAdopted plan c image
found_adopted plan c image s = record {
  recovered = s.recovered;
  stands = s.stands;
  plain = λ given read. plain_reads_same image given s.recovered s.stands read;
  agrees = s.agrees;
  volume = s.volume;
  journal = s.journal;
  found = s.found;
  offset = s.offset;
  size = s.size;
  order = s.order;
  blhdr = inl s.blhdr;
  own = s.own;
}

module _ {form : Dialect} (plan : Plan) (total : ℕ) (fits : FitsPlanAs form total plan) (c : Content) (is : IsPlanAs Wide c plan) (long : length c ≡ total) (whole : AreWhole c) where
  -- a journal that was initialised, with its blocks home and a header anew
  kept_adopted : plan.fresh ≡ false → (image : Content) (rest : List ℕ) → length image ≡ length c → ((s : ℕ) → s ≢ plan.info.offset / 512 → sector image s ≡ sector (replayed (journal_of plan) c) s)
      → sector image (plan.info.offset / 512) ≡ header_bytes (emptied (narrowed plan).header) ++ rest → StandsAdopted plan c image × IsAdopted plan c image
  kept_adopted old image rest size same there =
      let j = journal_of plan in
      let rc = replayed j c in
      let info_at = plan.place.info_sector in
      let version = plan.place.last_mounted in
      let base = plan.info.offset / 512 in
      let head = emptied (narrowed plan).header in
      let a = stands_alike_as Wide info_at version j c rc is.journal is.text is.place.accepted (mixes_with_homes (text_of j c) (homes_of j c) c) in
      let parts = journal_parts_as Wide info_at c j is.journal in
      let kh = kept_header c plan old (found_journal_as Wide c plan.info j parts.found) in
      let h = header_parts_as Wide plan.info.size (sector c base) plan.header fits.least kh.1 in
      let ph = plain_head plan h in
      let rp = journal_parts_as Wide info_at rc j a.found in
      let small : FitsHeader head = record { start = omega (arith, h.end_high, fits.inside, fits.sectors); end = omega (arith, h.end_high, fits.inside, fits.sectors); size = omega (arith, h.size, fits.inside, fits.sectors) } in
      let size_rc : length image ≡ length rc = size ∙ sym a.size in
      let place = same_place info_at version c rc a.size (place_of c plan.place is.place) a.header in
      let recovers : recovery image ≡ Ok image = renewed_recovers info_at rc image j head rest rp kh.0 size_rc same ph small there version place refl in
      let found = journal_wide Plain info_at image (kept_journal plan.info head) (renewed_found info_at rc image j head rest rp kh.0 size_rc same ph small there) in
      let not_two : 2 ≢ base = λ e. elim (apart_sector (length c * 512) info_at plan.info 2 parts.info parts.info.no_header) [ inl x ↦ omega arith | inr y ↦ omega (arith, fits.least) ] in
      let two : sector image 2 ≡ sector rc 2 = same 2 not_two in
      let keeps : KeepsHeader c image = record {
        same = subst (λ (s : List ℕ). IsSame (header_of_volume c) (header_of s)) (sym two) a.header.same;
        accepted = ap (λ (s : List ℕ). header_refusal (header_of s) (length c)) two ∙ a.header.accepted;
      } in
      let agrees : AgreesOutsideJournal plan (replayed (journal_of plan) c) image = record { size = size_rc; each = λ s. elim (cases_eq s base) [ inl e ↦ inr (inl e) | inr n ↦ inl (same s n) ] } in (
        record {
          recovered = image;
          stands = recovery_wide Plain image image recovers;
          plain = λ given read. ok_same given image (sym read ∙ recovers);
          agrees = agrees;
          volume = keeps;
          journal = kept_journal plan.info head;
          found = found;
          offset = refl;
          size = refl;
          order = refl;
          blhdr = inr refl;
          own = λ s own. refl;
        },
        record { stands = recovers; agrees = agrees; volume = keeps },
      )

  -- A journal that still had to be initialised: its header is the one that the plain dialect has, so the adoption writes the same bytes.
  module _ (new : plan.fresh ≡ true) where
    facts : (is_fresh plan.info ≡ true) × (plan.header ≡ fresh_header plan.info.size)
    facts = fresh_found c plan new (found_journal_as Wide c plan.info (journal_of plan) (journal_parts_as Wide plan.place.info_sector c (journal_of plan) is.journal).found)

    plain_plan : IsPlanAs Plain c plan
    plain_plan =
        let parts = journal_parts_as Wide plan.place.info_sector c (journal_of plan) is.journal in
        let none = empty_text plan.info plan.header plan.fresh c (ap (λ (h : Header). h.start) facts.1 ∙ sym (ap (λ (h : Header). h.end) facts.1)) in
        record {
          place = is.place;
          journal =
              journal_is_fresh_as Plain plan.place.info_sector c plan.info parts.whole facts.0
              ∙ ap (λ (h : Header). let k : Journal = record { info = plan.info; header = h; fresh = true } in Ok k) (sym facts.1)
              ∙ ap (λ (b : Bool). let k : Journal = record { info = plan.info; header = plan.header; fresh = b } in Ok k) (sym new);
          text = empty_fault_as Plain plan.place.info_sector plan.place.last_mounted (journal_of plan) c none (ap (λ (h : Header). h.start) facts.1 ∙ sym (ap (λ (h : Header). h.end) facts.1));
        }

    fresh_is : after_replay plan c ≡ with_info_done plan (with_empty_header plan c)
    fresh_is = ap (λ b. cond b (with_info_done plan (with_empty_header plan c)) (with_empty_header plan (replayed (journal_of plan) c))) new

    first_size : length (with_empty_header plan c) ≡ length c
    first_size = length-one c (plan.info.offset / 512) (empty_header plan c) (base_inside plan total fits c is long whole)

    -- the header that stands there is the one that is written
    header_stands : sector (after_replay plan c) (plan.info.offset / 512) ≡ header_bytes (emptied (narrowed plan).header) ++ drop 44 (sector (after_replay plan c) (plan.info.offset / 512))
    header_stands =
        let base = plan.info.offset / 512 in
        let d = with_empty_header plan c in
        let rest = drop 44 (sector c base) in
        let sum = checksum_of (header_spelled 0 (emptied plan.header)) in
        let blhdr_is : plan.header.blhdr ≡ 4096 = ap (λ (h : Header). h.blhdr) facts.1 in
        let narrow : plain_blhdr plan.header.blhdr ≡ plan.header.blhdr = ap plain_blhdr blhdr_is ∙ sym blhdr_is in
        let there : sector (after_replay plan c) base ≡ header_bytes (emptied plan.header) ++ rest =
        ap (λ (x : Content). sector x base) fresh_is
        ∙ one_else d plan.place.info_sector (with_info (initialised plan.info) (sector d plan.place.info_sector)) (omega (arith, first_size, long, fits.info_sector)) base (λ e. info_apart plan total fits c is long whole (sym e))
        ∙ one_here c base (empty_header plan c) (base_inside plan total fits c is long whole) in
        let front : header_bytes (emptied (narrowed plan).header) ≡ header_bytes (emptied plan.header) = ap (λ n. header_bytes (record (emptied plan.header) { blhdr = n })) narrow in
        let back : drop 44 (sector (after_replay plan c) base) ≡ rest = ap (drop 44) there ∙ drop_header sum (emptied plan.header) rest in
        there ∙ ap (λ (l : List ℕ). l ++ rest) (sym front) ∙ ap (λ (l : List ℕ). header_bytes (emptied (narrowed plan).header) ++ l) (sym back)

    -- the plain dialect reads what a replay leaves as itself
    fresh_reads : IsAdopted plan c (after_replay plan c)
    fresh_reads =
        let s = replay_stands_as plan total fits c plain_plan long whole in
        let r = after_replay plan c in
        let base = plan.info.offset / 512 in
        let d = with_empty_header plan c in
        let at = plan.place.info_sector in
        let value = with_info (initialised plan.info) (sector d at) in
        let inside : at < length d = omega (arith, first_size, long, fits.info_sector) in
        let size : length r ≡ length c = ap (λ (x : Content). length x) fresh_is ∙ length-one d at value inside ∙ first_size in
        let same_size : length s.recovered ≡ length r = s.agrees.size ∙ length-replayed plan total fits c is long whole ∙ sym size in
        let nothing : replayed (journal_of plan) c ≡ c =
        empty_replay (journal_of plan) c (empty_text plan.info plan.header plan.fresh c (ap (λ (h : Header). h.start) facts.1 ∙ sym (ap (λ (h : Header). h.end) facts.1))) in
        let untouched : (k : ℕ) → k ≢ base → k ≢ at → sector r k ≡ sector c k = λ k n m.
        ap (λ (x : Content). sector x k) fresh_is ∙ one_else d at value inside k m ∙ one_else c base (empty_header plan c) (base_inside plan total fits c is long whole) k n in
        let whole_same : s.recovered ≡ r = ext_get_or [] s.recovered r same_size (λ k below. elim (cases_eq k base) [
          | inl e ↦ s.own k (inl (omega (arith, e), omega (arith, e, fits.least)))
          | inr n ↦ elim (cases_eq k at) [
            | inl e ↦ s.own k (inr e)
            | inr m ↦ elim (s.agrees.each k) [
              | inl e ↦ e ∙ ap (λ (x : Content). sector x k) nothing ∙ sym (untouched k n m)
              | inr away ↦ elim away [ inl e ↦ absurd (n e) | inr e ↦ absurd (m e) ]
            ]
          ]
        ]) in
        record {
          stands = s.stands ∙ ap (λ (x : Content). Ok x) whole_same;
          agrees = subst (λ (x : Content). AgreesOutsideJournal plan (replayed (journal_of plan) c) x) whole_same s.agrees;
          volume = s.volume;
        }

  off_base : plan.fresh ≡ false → (s : ℕ) → s ≢ plan.info.offset / 512 → sector (after_replay plan c) s ≡ sector (replayed (journal_of plan) c) s
  off_base old s n =
      let rc = replayed (journal_of plan) c in
      ap (λ b. sector (cond b (with_info_done plan (with_empty_header plan c)) (with_empty_header plan rc)) s) old
      ∙ one_else rc (plan.info.offset / 512) (empty_header plan rc) (omega (arith, length-replayed plan total fits c is long whole, base_inside plan total fits c is long whole)) s n

  pub length-after : length (after_replay plan c) ≡ length c
  length-after = by_length plan.fresh refl
    where
      by_length : (fresh : Bool) → plan.fresh ≡ fresh → length (cond fresh (with_info_done plan (with_empty_header plan c)) (with_empty_header plan (replayed (journal_of plan) c))) ≡ length c
      by_length true new =
          let d = with_empty_header plan c in
          let size : length d ≡ length c = length-one c (plan.info.offset / 512) (empty_header plan c) (base_inside plan total fits c is long whole) in
          length-one d plan.place.info_sector (with_info (initialised plan.info) (sector d plan.place.info_sector)) (omega (arith, size, long, fits.info_sector)) ∙ size
      by_length false old =
          let rc = replayed (journal_of plan) c in
          let size = length-replayed plan total fits c is long whole in
          length-one rc (plan.info.offset / 512) (empty_header plan rc) (omega (arith, size, base_inside plan total fits c is long whole)) ∙ size

  -- the header is written anew over what a replay leaves
  narrow_by : (fresh : Bool) → plan.fresh ≡ fresh → (image : Content) → length image ≡ length (after_replay plan c) → ((s : ℕ) → s ≢ plan.info.offset / 512 → sector image s ≡ sector (after_replay plan c) s)
      → sector image (plan.info.offset / 512) ≡ header_bytes (emptied (narrowed plan).header) ++ drop 44 (sector (after_replay plan c) (plan.info.offset / 512)) → StandsAdopted plan c image × IsAdopted plan c image
  narrow_by true new image size same there =
      let r = after_replay plan c in
      let base = plan.info.offset / 512 in
      let is_r : image ≡ r = ext_get_or [] image r size (λ k below. elim (cases_eq k base) [ inl e ↦ ap (sector image) e ∙ there ∙ sym (header_stands new) ∙ ap (sector r) (sym e) | inr n ↦ same k n ]) in (
        subst (StandsAdopted plan c) (sym is_r) (found_adopted plan c r (replay_stands_as plan total fits c is long whole)),
        subst (IsAdopted plan c) (sym is_r) (fresh_reads new),
      )
  narrow_by false old image size same there =
      kept_adopted old image (drop 44 (sector (after_replay plan c) (plan.info.offset / 512))) (size ∙ length-after) (λ s n. same s n ∙ off_base old s n) there

  r_inside : plan.info.offset / 512 < length (after_replay plan c)
  r_inside = omega (arith, length-after, base_inside plan total fits c is long whole)

  -- while it is written
  pub adopted_mix : (image : Content) → Mixes (only (after_replay plan c)) (plan.info.offset / 512) (empty_header (narrowed plan) (after_replay plan c) ∷ []) image → StandsAdopted plan c image
  adopted_mix image m =
      let r = after_replay plan c in
      let base = plan.info.offset / 512 in
      let value = empty_header (narrowed plan) r in
      let size : length image ≡ length r = mixes_size r base (value ∷ []) image m in
      let off = mixed_else r base value r_inside image m in
      elim (mixed_here r base value r_inside image m) [
        | inl kept ↦
            let is_r : image ≡ r = ext_get_or [] image r size (λ k below. elim (cases_eq k base) [ inl e ↦ ap (sector image) e ∙ kept ∙ ap (sector r) (sym e) | inr n ↦ off k n ]) in
            subst (StandsAdopted plan c) (sym is_r) (found_adopted plan c r (replay_stands_as plan total fits c is long whole))
        | inr changed ↦ (narrow_by plan.fresh refl image size off changed).0
      ]

  -- and at the end
  pub adopted_reads : IsAdopted plan c (after_adoption plan c)
  adopted_reads =
      let r = after_replay plan c in
      let base = plan.info.offset / 512 in
      let value = empty_header (narrowed plan) r in
      (narrow_by plan.fresh refl (after_adoption plan c) (length-one r base value r_inside) (one_else r base value r_inside) (one_here r base value r_inside)).1
