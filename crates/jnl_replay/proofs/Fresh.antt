-- What a crash leaves while a journal is initialised: a content that stands for the same.
use Rattle.std.proofs.Common.{◌≡◌, ◌≢◌, ◌⊎◌, ◌<◌, ◌≤◌, ◌+◌, ◌*◌, ◌/◌, ◌%◌, ◌^◌, ℕ, Bool, true, false, not, ◌||◌, List, [], ◌∷◌, inl, inr, length, drop, refl, sym, ◌∙◌, ap, subst, arith, cond, eqb}
use Rattle.std.specs.Prelude.{Option, None, Some, Ok, bit_and}
use Rattle.std.proofs.lemmas.Bool.{cases_lt, cases_eq}
use Rattle.std.proofs.lemmas.List.{get_or_past}
use Rattle.volume_header.specs.Header.{header_of}
use Rattle.volume_header.specs.Refusal.{header_refusal}
use Rattle.sector_disk.specs.Lists.{Content, sector}
use Rattle.sector_disk.specs.Disk.{only, Mixes}
use Rattle.sector_disk.proofs.Stages.{mixes_size, mixes_before, mixes_behind, mixes_inside, put_before, put_behind, put_inside, length-put}
use Rattle.jnl_format.specs.Info.{info_of, info_fault, with_info, is_fresh, is_sized, holds, unless_fault, IsInfo}
use Rattle.jnl_format.specs.Header.{header_read_as, header_spelled, IsHeaderAs}
use Rattle.jnl_format.specs.Recovery.{header_of_volume, Journal, journal_as, info_in, info_from, text_of, replayed, fresh_header}
use Rattle.jnl_format.specs.Dialect.{most_blhdr}
use Rattle.jnl_format.specs.declared.dialect.Dialect.{Dialect}
use Rattle.jnl_format.specs.declared.dialect.Dialect.TheVariants.{Plain, Wide}
use Rattle.jnl_format.specs.declared.structures.Info.{Info}
use Rattle.jnl_format.specs.declared.structures.Header.{Header}
use Rattle.jnl_format.specs.declared.structures.JnlRefusal.{JnlRefusal}
use Rattle.jnl_format.specs.declared.structures.JnlRefusal.TheVariants.{OtherDevice, BadInfo}
use Rattle.jnl_format.proofs.Alike.{stands_for_as, same_place, recovers_as}
use Rattle.jnl_format.specs.Keeping.{KeepsHeader}
use Rattle.jnl_format.proofs.InfoBack.{info_back, flag_off, flags_fit, here_stays, elsewhere_stays, no_info_block}
use Rattle.jnl_format.proofs.ReadBack.{header_back, checksum_fits}
use Rattle.jnl_format.proofs.Recovering.{IsJournalAs, FoundAs, is_new, is_kept, journal_parts_as, journal_is_fresh_as, journal_is_kept_as, apart_sector, kept_journal, fresh_journal, found_journal_as, unless_parts}
use Rattle.jnl_format.proofs.Volumes.{same_refl}
use Rattle.jnl_format.specs.Keeping.{IsSame}
use Rattle.jnl_replay.specs.Homing.{AgreesOutsideJournal, StandsForSameAs, emptied, initialised, empty_header, with_empty_header}
use Rattle.jnl_replay.specs.Plan.{IsPlanAs, FitsPlanAs, journal_of}
use Rattle.jnl_replay.specs.declared.plan.Plan.{Plan}
use Rattle.jnl_replay.proofs.Checks.{place_of}
use Rattle.jnl_replay.proofs.Stages.{empty_fault_as, empty_replay, empty_text}

pub fresh_found : {dialect : Dialect} (c : Content) (plan : Plan) → plan.fresh ≡ true → FoundAs dialect c plan.info (journal_of plan) → (is_fresh plan.info ≡ true) × (plan.header ≡ fresh_header plan.info.size)
fresh_found c plan new (is_new f e) = (f, ap (λ (j : Journal). j.header) e)
fresh_found c plan new (is_kept header f r e) = absurd (let x = ap (λ (j : Journal). j.fresh) e in cc)

-- the two flags that count are the same
pub same_fault : (volume : ℕ) (taken : Bool) (info : Info) → info_fault volume taken (initialised info) ≡ info_fault volume taken info
same_fault volume taken info =
    let rest : Option JnlRefusal = cond (not (eqb (info.offset % 512) 0) || taken) (Some (BadInfo 36)) (cond (not (is_sized volume info)) (Some (BadInfo 44)) None) in
    ap (λ x. cond (not (eqb x 0)) (Some OtherDevice) (cond (not (not (eqb (bit_and (bit_and info.flags 4294967291) 1) 0))) (Some (BadInfo 0)) rest)) (elsewhere_stays info.flags)
    ∙ ap (λ x. cond (not (eqb (bit_and info.flags 2) 0)) (Some OtherDevice) (cond (not (not (eqb x 0))) (Some (BadInfo 0)) rest)) (here_stays info.flags)

least_most : (dialect : Dialect) → 4096 ≤ most_blhdr dialect
least_most Plain = omega arith
least_most Wide = omega arith

module _ {dialect form : Dialect} (c : Content) (plan : Plan) (is : IsPlanAs dialect c plan) (total : ℕ) (fits : FitsPlanAs form total plan) (size : length c ≡ total) (new : plan.fresh ≡ true) where
  parts : IsJournalAs dialect plan.place.info_sector c (journal_of plan)
  parts = journal_parts_as dialect plan.place.info_sector c (journal_of plan) is.journal

  facts : (is_fresh plan.info ≡ true) × (plan.header ≡ fresh_header plan.info.size)
  facts = fresh_found c plan new (found_journal_as dialect c plan.info (journal_of plan) parts.found)

  nothing : text_of (journal_of plan) c ≡ []
  nothing = empty_text plan.info plan.header plan.fresh c (let e = ap (λ (h : Header). h.start) facts.1 in let f = ap (λ (h : Header). h.end) facts.1 in e ∙ sym f)

  same_content : replayed (journal_of plan) c ≡ c
  same_content = empty_replay (journal_of plan) c nothing

  not_info : plan.place.info_sector ≢ plan.info.offset / 512
  not_info e = elim (apart_sector (length c * 512) plan.place.info_sector plan.info plan.place.info_sector parts.info parts.info.no_info) [ inl a ↦ omega arith | inr b ↦ omega (arith, fits.least) ]

  not_two : 2 ≢ plan.info.offset / 512
  not_two e = elim (apart_sector (length c * 512) plan.place.info_sector plan.info 2 parts.info parts.info.no_header) [ inl a ↦ omega arith | inr b ↦ omega (arith, fits.least) ]

  info_not_two : plan.place.info_sector ≢ 2
  info_not_two e =
      no_info_block (sector c 2) (length c) plan.place.info_sector is.place.accepted
      (subst (λ (i : Info). IsInfo (length c * 512) plan.place.info_sector i) (sym (ap (λ k. info_of (sector c k)) (sym e) ∙ parts.read)) parts.info)

  keeps : (image : Content) → sector image 2 ≡ sector c 2 → KeepsHeader c image
  keeps image e = record {
    same = subst (λ (s : List ℕ). IsSame (header_of_volume c) (header_of s)) (sym e) (same_refl (header_of_volume c));
    accepted = ap (λ (s : List ℕ). header_refusal (header_of s) (length c)) e ∙ is.place.accepted;
  }

  agreeing : (image : Content) → length image ≡ length c → ((s : ℕ) → (sector image s ≡ sector c s) ⊎ (s ≡ plan.info.offset / 512) ⊎ (s ≡ plan.place.info_sector)) → AgreesOutsideJournal plan (replayed (journal_of plan) c) image
  agreeing image long each = subst (λ (d : Content). AgreesOutsideJournal plan d image) (sym same_content) (record { size = long; each = each })

  -- the flag still stands
  stands_new : (image : Content) → length image ≡ length c → ((s : ℕ) → s ≢ plan.info.offset / 512 → sector image s ≡ sector c s)
      → (sector image (plan.info.offset / 512) ≡ sector c (plan.info.offset / 512)) ⊎ (sector image (plan.info.offset / 512) ≡ empty_header plan c) → StandsForSameAs dialect plan c image
  stands_new image long same header =
      let at = plan.place.info_sector in
      let info : info_in at image ≡ Ok plan.info = ap (λ n. info_from n at (sector image at)) long ∙ ap (λ (b : List ℕ). info_from (length c) at b) (same at not_info) ∙ parts.whole in
      let k = fresh_journal plan.info in
      let found = journal_is_fresh_as dialect at image plan.info info facts.0 in
      let none = empty_text plan.info (fresh_header plan.info.size) true image refl in
      record {
        recovered = image;
        stands =
            recovers_as dialect at plan.place.last_mounted image (same_place at plan.place.last_mounted c image long (place_of c plan.place is.place) (keeps image (same 2 not_two)))
            ∙ stands_for_as dialect at plan.place.last_mounted k image found (empty_fault_as dialect at plan.place.last_mounted k image none refl)
            ∙ ap (λ (x : Content). Ok x) (empty_replay k image none);
        agrees = agreeing image long (λ s. elim (cases_eq s (plan.info.offset / 512)) [ inl e ↦ inr (inl e) | inr n ↦ inl (same s n) ]);
        volume = keeps image (same 2 not_two);
        journal = k;
        found = found;
        offset = refl;
        size = refl;
        order = ap (λ (h : Header). h.order) (sym facts.1);
        blhdr = ap (λ (h : Header). h.blhdr) (sym facts.1);
        header = header;
        info = inl (same at not_info);
        own = λ s own. refl;
      }

  -- it is cleared
  stands_done : (image : Content) (old : List ℕ) → length image ≡ length c → 52 ≤ length old → old ≡ sector c plan.place.info_sector → sector image plan.place.info_sector ≡ with_info (initialised plan.info) old → sector image (plan.info.offset / 512) ≡ empty_header plan c
      → ((s : ℕ) → s ≢ plan.info.offset / 512 → s ≢ plan.place.info_sector → sector image s ≡ sector c s) → StandsForSameAs dialect plan c image
  stands_done image old long enough was info_new header_new same =
      let rest = drop 44 (sector c (plan.info.offset / 512)) in
      let at = plan.place.info_sector in
      let base = plan.info.offset / 512 in
      let done = initialised plan.info in
      let size_fits : plan.info.size < 2 ^ 64 = omega (arith, fits.inside, fits.sectors) in
      let back : info_of (with_info done old) ≡ done = info_back done old enough (flags_fit plan.info.flags) (omega (arith, fits.inside, fits.sectors)) size_fits in
      let first = info_of (sector c at) in
      let whole = unless_parts (info_fault (length c * 512) (holds first 2 || holds first at) first) first plan.info parts.whole in
      let sound : info_fault (length c * 512) (holds plan.info 2 || holds plan.info at) plan.info ≡ None = ap (λ (i : Info). info_fault (length c * 512) (holds i 2 || holds i at) i) (sym parts.read) ∙ whole.0 in
      let info : info_in at image ≡ Ok done =
      ap (λ n. info_from n at (sector image at)) long ∙ ap (λ (b : List ℕ). info_from (length c) at b) info_new
      ∙ ap (λ (i : Info). unless_fault (info_fault (length c * 512) (holds i 2 || holds i at) i) i) back
      ∙ ap (λ (f : Option JnlRefusal). unless_fault f done) (same_fault (length c * 512) (holds plan.info 2 || holds plan.info at) plan.info ∙ sound) in
      let off : is_fresh done ≡ false = ap (λ x. not (eqb x 0)) (flag_off plan.info.flags) in
      let head = emptied plan.header in
      let end_is : plan.header.end ≡ 512 = ap (λ (h : Header). h.end) facts.1 in
      let size_is : plan.header.size ≡ plan.info.size = ap (λ (h : Header). h.size) facts.1 in
      let blhdr_is : plan.header.blhdr ≡ 4096 = ap (λ (h : Header). h.blhdr) facts.1 in
      let is_head : IsHeaderAs dialect plan.info.size head = record {
        start_whole = omega arith;
        start_low = omega arith;
        start_high = omega (arith, fits.least);
        end_whole = omega arith;
        end_low = omega arith;
        end_high = omega (arith, fits.least);
        size = size_is;
        blhdr_whole = omega arith;
        blhdr_low = omega arith;
        blhdr_high = omega (arith, blhdr_is, least_most dialect);
      } in
      let end_fits : plan.header.end < 2 ^ 64 = omega arith in
      let head_size_fits : plan.header.size < 2 ^ 64 = omega (arith, size_fits) in
      let read : header_read_as dialect plan.info.size (sector image base) ≡ Ok head =
      ap (λ (b : List ℕ). header_read_as dialect plan.info.size b) header_new
      ∙ header_back head plan.info.size rest is_head (record { start = end_fits; end = end_fits; size = head_size_fits }) (checksum_fits (header_spelled 0 head)) in
      let k = kept_journal done head in
      let found : journal_as dialect at image ≡ Ok k = journal_is_kept_as dialect at image done (Ok head) info off read in
      let none = empty_text done head false image refl in
      let other : (s : ℕ) → (sector image s ≡ sector c s) ⊎ (s ≡ base) ⊎ (s ≡ at) = λ s. elim (cases_eq s base) [
        | inl e ↦ inr (inl e)
        | inr n ↦ elim (cases_eq s at) [ inl e ↦ inr (inr e) | inr m ↦ inl (same s n m) ]
      ] in
      record {
        recovered = image;
        stands =
            recovers_as dialect at plan.place.last_mounted image (same_place at plan.place.last_mounted c image long (place_of c plan.place is.place) (keeps image (same 2 not_two (λ e. info_not_two (sym e)))))
            ∙ stands_for_as dialect at plan.place.last_mounted k image found (empty_fault_as dialect at plan.place.last_mounted k image none refl)
            ∙ ap (λ (x : Content). Ok x) (empty_replay k image none);
        agrees = agreeing image long other;
        volume = keeps image (same 2 not_two (λ e. info_not_two (sym e)));
        journal = k;
        found = found;
        offset = refl;
        size = refl;
        order = refl;
        blhdr = refl;
        header = inr header_new;
        info = inr (new, info_new ∙ ap (with_info done) was);
        own = λ s own. refl;
      }

  base_inside : plan.info.offset / 512 + 1 ≤ length c
  base_inside = omega (arith, size, fits.inside, fits.least)

  -- the empty header is written
  pub stage_header : (image : Content) → Mixes (only c) (plan.info.offset / 512) (empty_header plan c ∷ []) image → StandsForSameAs dialect plan c image
  stage_header image m =
      let base = plan.info.offset / 512 in
      let e = empty_header plan c ∷ [] in
      let long : length image ≡ length c = mixes_size c base e image m in
      let zero_more : base + 0 ≡ base = omega arith in
      let there = subst (λ k. (sector image k ≡ sector c k) ⊎ (sector image k ≡ sector e 0)) zero_more (mixes_inside c base e image m 0 (omega (arith, base_inside))) in
      stands_new image long (λ s n. elim (cases_lt s (length c)) [
        | inl here ↦ elim (cases_lt s base) [
          | inl before ↦ mixes_before c base e image m s here before
          | inr behind ↦ mixes_behind c base e image m s here (omega (arith, n))
        ]
        | inr past ↦ get_or_past image s [] (omega arith) ∙ sym (get_or_past c s [] past)
      ]) there

  -- and then the info block
  pub stage_info : (image : Content) → 52 ≤ length (sector (with_empty_header plan c) plan.place.info_sector)
      → Mixes (only (with_empty_header plan c)) plan.place.info_sector (with_info (initialised plan.info) (sector (with_empty_header plan c) plan.place.info_sector) ∷ []) image → StandsForSameAs dialect plan c image
  stage_info image enough m =
      let base = plan.info.offset / 512 in
      let at = plan.place.info_sector in
      let one = empty_header plan c ∷ [] in
      let d = with_empty_header plan c in
      let v = with_info (initialised plan.info) (sector d at) ∷ [] in
      let size_d : length d ≡ length c = length-put c base one base_inside in
      let long : length image ≡ length d = mixes_size d at v image m in
      let at_inside : at < length d = omega (arith, size, size_d, fits.info_sector) in
      let of_d : (s : ℕ) → s ≢ base → sector d s ≡ sector c s = λ s n. elim (cases_lt s base) [
        | inl before ↦ put_before c base one base_inside s before
        | inr behind ↦ put_behind c base one base_inside s (omega (arith, n))
      ] in
      let zero_more : base + 0 ≡ base = omega arith in
      let at_base : sector d base ≡ empty_header plan c = ap (sector d) (sym zero_more) ∙ put_inside c base one base_inside 0 (omega arith) in
      let other : (s : ℕ) → s ≢ at → sector image s ≡ sector d s = λ s n. elim (cases_lt s (length d)) [
        | inl here ↦ elim (cases_lt s at) [
          | inl before ↦ mixes_before d at v image m s here before
          | inr behind ↦ mixes_behind d at v image m s here (omega (arith, n))
        ]
        | inr past ↦ get_or_past image s [] (omega arith) ∙ sym (get_or_past d s [] past)
      ] in
      let at_more : at + 0 ≡ at = omega arith in
      elim (mixes_inside d at v image m 0 (omega arith)) [
        | inl kept ↦
            let there : sector image at ≡ sector d at = subst (λ k. sector image k ≡ sector d k) at_more kept in
            stands_new image (long ∙ size_d) (λ s n. elim (cases_eq s at) [ inl q ↦ ap (sector image) q ∙ there ∙ ap (sector d) (sym q) ∙ of_d s n | inr k ↦ other s k ∙ of_d s n ])
            (inr (other base (λ e. not_info (sym e)) ∙ at_base))
        | inr changed ↦
            stands_done image (sector d at) (long ∙ size_d) enough (of_d at not_info) (ap (sector image) (sym at_more) ∙ changed) (other base (λ e. not_info (sym e)) ∙ at_base)
            (λ s n k. other s k ∙ of_d s n)
      ]
