-- What a crash leaves while a journal is replayed: a content that stands for the same.
use Rattle.std.proofs.Common.{◌≡◌, ◌≢◌, ◌⊎◌, ◌<◌, ◌≤◌, ◌+◌, ◌-◌, ◌*◌, ◌/◌, ◌^◌, ℕ, Bool, false, not, ◌&&◌, List, [], ◌∷◌, ◌++◌, Contains, inl, inr, length, take, drop, refl, sym, ◌∙◌, ap, subst, arith, cond, eqb}
use Rattle.std.specs.Prelude.{None, Some, Ok, option_map}
use Rattle.std.proofs.lemmas.Bool.{cases_lt, cases_eq, le-leb, eq-eqb}
use Rattle.std.proofs.lemmas.List.{ext_get_or, get_or_past}
use Rattle.volume_header.specs.Header.{header_of}
use Rattle.volume_header.specs.Refusal.{header_refusal}
use Rattle.sector_disk.specs.Lists.{Content, sector}
use Rattle.sector_disk.specs.Disk.{Candidates, IsImage, candidates_of, only, Mixes}
use Rattle.sector_disk.proofs.Stages.{image_only, mixes_size, mixes_before, mixes_behind, mixes_inside, length-only, only_one}
use Rattle.jnl_format.specs.Info.{is_fresh}
use Rattle.jnl_format.specs.Header.{header_bytes, header_read_as, header_spelled, IsHeaderAs}
use Rattle.jnl_format.specs.Ring.{journal_bytes, bytes_from, distance, offset_after}
use Rattle.jnl_format.specs.Text.{bad_list_as, text_homes}
use Rattle.jnl_format.specs.Recovery.{header_of_volume, Journal, journal_as, info_in, info_from, text_of, volume_of, homes_of, foreign_fault, text_fault_as, text_fault, or_else, with_homes, replayed}
use Rattle.jnl_format.specs.declared.blocks.Home.{Home}
use Rattle.jnl_format.specs.declared.dialect.Dialect.{Dialect}
use Rattle.jnl_format.specs.declared.dialect.Dialect.TheVariants.{Plain}
use Rattle.jnl_format.specs.declared.structures.Info.{Info}
use Rattle.jnl_format.specs.declared.structures.Header.{Header}
use Rattle.jnl_format.specs.declared.structures.JnlRefusal.TheVariants.{BadList, ForeignJournal}
use Rattle.jnl_format.specs.Named.{Each, IsGoodHome}
use Rattle.jnl_format.specs.declared.blocks.Volume.{Volume}
use Rattle.jnl_format.proofs.Alike.{good_homes_as, StandsAlikeAs, stands_alike_as, stands_for_as, same_place, recovers_as, text_parts_as}
use Rattle.jnl_format.specs.Keeping.{KeepsHeader}
use Rattle.jnl_format.proofs.Mixing.{mixes_with_homes, named_home, not_named}
use Rattle.jnl_format.specs.Named.{MixesHomes, IsHomeOf}
use Rattle.jnl_format.proofs.ReadBack.{header_back, checksum_fits}
use Rattle.jnl_format.proofs.Recovering.{FoundAs, is_new, is_kept, journal_parts_as, journal_is_kept_as, apart_sector, header_parts_as, kept_journal, found_journal_as}
use Rattle.jnl_format.proofs.Widening.{lists_wide}
use Rattle.jnl_format.specs.Keeping.{IsSame}
use Rattle.jnl_replay.specs.Homing.{AreHomesOf, IsHomeMix, IsJournalSector, StandsForSameAs, emptied, empty_header}
use Rattle.jnl_replay.specs.Plan.{IsPlanAs, FitsPlanAs, journal_of}
use Rattle.jnl_replay.specs.Text.{words, text_in}
use Rattle.jnl_replay.specs.declared.plan.Plan.{Plan}
use Rattle.jnl_replay.specs.declared.text.Text.{Text}
use Rattle.jnl_replay.proofs.Checks.{place_of}

mix_inside : (bytes : List ℕ) (homes : List Home) (c image : Content) (at : ℕ) → at < length c → Contains (candidates_of (only c) at) (sector image at) ⊎ IsHomeOf bytes homes at (sector image at) → (sector image at ≡ sector c at) ⊎ IsHomeOf bytes homes at (sector image at)
mix_inside bytes homes c image at inside (inl a) = inl (only_one c at (sector image at) inside a)
mix_inside bytes homes c image at inside (inr b) = inr b

-- over a settled disk
pub mix_settled : (bytes : List ℕ) (homes : List Home) (c image : Content) → IsHomeMix bytes homes (only c) image → MixesHomes bytes homes c image
mix_settled bytes homes c image m =
    let size : length image ≡ length c = m.size ∙ length-only c in
    record {
      size = size;
      each = λ at. elim (cases_lt at (length c)) [
        | inl inside ↦ mix_inside bytes homes c image at inside (m.each at (omega (arith, inside, length-only c)))
        | inr past ↦ inl (get_or_past image at [] (omega arith) ∙ sym (get_or_past c at [] past))
      ];
    }

-- the homes of a plan's journal
pub homes_of_plan : {dialect : Dialect} (c : Content) (plan : Plan) (text : Text) (total : ℕ) → IsPlanAs dialect c plan → text ≡ text_in plan.info plan.header → length c ≡ total
    → AreHomesOf total text (words text c) (volume_of plan.place.info_sector (journal_of plan) c) (homes_of (journal_of plan) c)
unfolding words
homes_of_plan {dialect = dialect} c plan text total is same size =
    subst (λ (t : Text). AreHomesOf total t (words t c) (volume_of plan.place.info_sector (journal_of plan) c) (homes_of (journal_of plan) c)) (sym same)
    (record {
      sectors = size;
      first = refl;
      count = refl;
      good =
          lists_wide dialect (volume_of plan.place.info_sector (journal_of plan) c) plan.header.order plan.header.blhdr (text_of (journal_of plan) c) (length (text_of (journal_of plan) c)) 0
          (text_parts_as dialect plan.place.info_sector plan.place.last_mounted (journal_of plan) c is.text).0;
      homes_are = refl;
    })

pub words_of_plan : (c : Content) (plan : Plan) (text : Text) → text ≡ text_in plan.info plan.header → words text c ≡ text_of (journal_of plan) c
unfolding words
words_of_plan c plan text same = ap (λ (t : Text). words t c) same

-- no home is a sector of the journal, or the info block
never_home : (volume : Volume) (text : List ℕ) (s : ℕ) (home : Home) → ((volume.first ≤ s) × (s < volume.first + volume.count)) ⊎ (s ≡ volume.info_sector) → IsGoodHome volume text home → home.sector ≢ s
never_home volume text s home (inl inside) good same = elim good.apart [ inl a ↦ absurd (omega (arith, a, same, inside.0)) | inr b ↦ absurd (omega (arith, b, same, inside.1)) ]
never_home volume text s home (inr info) good same = good.no_info (same ∙ info)

still : (volume : Volume) (text : List ℕ) (homes : List Home) (old new : Content) (s : ℕ) → Each (IsGoodHome volume text) homes → ((volume.first ≤ s) × (s < volume.first + volume.count)) ⊎ (s ≡ volume.info_sector)
    → (sector new s ≡ sector old s) ⊎ IsHomeOf text homes s (sector new s) → sector new s ≡ sector old s
still volume text homes old new s all own (inl e) = e
still volume text homes old new s all own (inr h) = absurd (not_named (IsGoodHome volume text) homes s all (λ home good. never_home volume text s home own good) (named_home text homes s (sector new s) h))

module _ {dialect : Dialect} (c : Content) (plan : Plan) (is : IsPlanAs dialect c plan) where
  -- blocks that are written home leave the journal and the info block alone
  pub own_still : (image : Content) → MixesHomes (text_of (journal_of plan) c) (homes_of (journal_of plan) c) c image → (s : ℕ) → IsJournalSector plan s → sector image s ≡ sector c s
  own_still image m s own =
      still (volume_of plan.place.info_sector (journal_of plan) c) (text_of (journal_of plan) c) (homes_of (journal_of plan) c) c image s (good_homes_as dialect plan.place.info_sector plan.place.last_mounted (journal_of plan) c is.text) own (m.each s)

  pub replayed_still : (s : ℕ) → IsJournalSector plan s → sector (replayed (journal_of plan) c) s ≡ sector c s
  replayed_still s own = own_still (replayed (journal_of plan) c) (mixes_with_homes (text_of (journal_of plan) c) (homes_of (journal_of plan) c) c) s own

  alike : (image : Content) → MixesHomes (text_of (journal_of plan) c) (homes_of (journal_of plan) c) c image → StandsAlikeAs dialect plan.place.info_sector plan.place.last_mounted (journal_of plan) c image
  alike image m = stands_alike_as dialect plan.place.info_sector plan.place.last_mounted (journal_of plan) c image is.journal is.text is.place.accepted m

  base_own : {form : Dialect} (total : ℕ) → FitsPlanAs form total plan → IsJournalSector plan (plan.info.offset / 512)
  base_own total fits = inl (omega arith, omega (arith, fits.least))

  -- some of the blocks are written home
  pub stands_mixed : {form : Dialect} (total : ℕ) → FitsPlanAs form total plan → (image : Content) → MixesHomes (text_of (journal_of plan) c) (homes_of (journal_of plan) c) c image → StandsForSameAs dialect plan c image
  stands_mixed total fits image m =
      let a = alike image m in
      record {
        recovered = replayed (journal_of plan) c;
        stands =
            recovers_as dialect plan.place.info_sector plan.place.last_mounted image (same_place plan.place.info_sector plan.place.last_mounted c image a.size (place_of c plan.place is.place) a.header)
            ∙ stands_for_as dialect plan.place.info_sector plan.place.last_mounted (journal_of plan) image a.found a.fault ∙ ap (λ (r : Content). Ok r) a.replayed;
        agrees = record { size = refl; each = λ s. inl refl };
        volume = a.header;
        journal = journal_of plan;
        found = a.found;
        offset = refl;
        size = refl;
        order = refl;
        blhdr = refl;
        header = inl (own_still image m (plan.info.offset / 512) (base_own total fits));
        info = inl (own_still image m plan.place.info_sector (inr refl));
        own = λ s own. replayed_still s own ∙ sym (own_still image m s own);
      }

  -- none is
  pub stands_image : {form : Dialect} (total : ℕ) → FitsPlanAs form total plan → (d : Candidates) → d ≡ only c → (image : Content) → IsImage d image → StandsForSameAs dialect plan c image
  stands_image total fits d settled image there =
      let same : image ≡ c = image_only c image (subst (λ (e : Candidates). IsImage e image) settled there) in
      stands_mixed total fits image (record { size = ap (λ (i : Content). length i) same; each = λ s. inl (ap (λ (i : Content). sector i s) same) })

  -- all are
  pub stands_replayed : {form : Dialect} (total : ℕ) → FitsPlanAs form total plan → StandsForSameAs dialect plan c (replayed (journal_of plan) c)
  stands_replayed total fits = stands_mixed total fits (replayed (journal_of plan) c) (mixes_with_homes (text_of (journal_of plan) c) (homes_of (journal_of plan) c) c)

  replayed_alike : StandsAlikeAs dialect plan.place.info_sector plan.place.last_mounted (journal_of plan) c (replayed (journal_of plan) c)
  replayed_alike = alike (replayed (journal_of plan) c) (mixes_with_homes (text_of (journal_of plan) c) (homes_of (journal_of plan) c) c)

pub kept_header : {dialect : Dialect} (c : Content) (plan : Plan) → plan.fresh ≡ false → FoundAs dialect c plan.info (journal_of plan) → (is_fresh plan.info ≡ false) × (header_read_as dialect plan.info.size (sector c (plan.info.offset / 512)) ≡ Ok plan.header)
kept_header c plan old (is_new f e) = absurd (let x = ap (λ (j : Journal). j.fresh) e in cc)
kept_header c plan old (is_kept header f r e) = (f, r ∙ ap (λ (j : Journal). Ok j.header) (sym e))

-- an empty journal has no text, and so no fault and no homes
distance_none : (size end : ℕ) → distance size end end ≡ 0
distance_none size end = ap (λ b. cond b (end - end) ((size - 512) - (end - end))) (le-leb end end (omega arith)) ∙ omega arith

pub empty_text : (info : Info) (header : Header) (fresh : Bool) (image : Content) → header.start ≡ header.end → text_of (record { info = info; header = header; fresh = fresh }) image ≡ []
empty_text info header fresh image same =
    ap (λ k. take (distance info.size k header.end) (bytes_from (journal_bytes image (info.offset / 512) info.size) header.start)) same
    ∙ ap (λ n. take n (bytes_from (journal_bytes image (info.offset / 512) info.size) header.start)) (distance_none info.size header.end)

pub empty_fault_as : (dialect : Dialect) (at version : ℕ) (journal : Journal) (image : Content) → text_of journal image ≡ [] → journal.header.start ≡ journal.header.end → text_fault_as dialect at version journal image ≡ None
empty_fault_as dialect at version journal image none same =
    ap (λ (t : List ℕ). or_else (option_map (λ place. BadList (offset_after journal.info.size journal.header.start place)) (bad_list_as dialect (volume_of at journal image) journal.header.order journal.header.blhdr t (length t) 0)) (foreign_fault version journal)) none
    ∙ ap (λ b. cond (not b && not (eqb version 0x4846534A)) (Some (ForeignJournal version)) None) (eq-eqb journal.header.start journal.header.end same)

pub empty_fault : (at version : ℕ) (journal : Journal) (image : Content) → text_of journal image ≡ [] → journal.header.start ≡ journal.header.end → text_fault at version journal image ≡ None
empty_fault = empty_fault_as Plain

pub empty_replay : (journal : Journal) (image : Content) → text_of journal image ≡ [] → replayed journal image ≡ image
empty_replay journal image none = ap (λ (t : List ℕ). with_homes t (text_homes journal.header.order journal.header.blhdr t (length t) 0) image) none

module _ {dialect form : Dialect} (c : Content) (plan : Plan) (is : IsPlanAs dialect c plan) (total : ℕ) (fits : FitsPlanAs form total plan) (size : length c ≡ total) (old : plan.fresh ≡ false) where
  r : Content
  r = replayed (journal_of plan) c

  -- the journal is emptied over a content with all blocks home
  pub stands_empty : (image : Content) → length image ≡ length (replayed (journal_of plan) c) → ((s : ℕ) → s ≢ plan.info.offset / 512 → sector image s ≡ sector (replayed (journal_of plan) c) s)
      → sector image (plan.info.offset / 512) ≡ empty_header plan (replayed (journal_of plan) c) → StandsForSameAs dialect plan c image
  stands_empty image long same new =
      let base = plan.info.offset / 512 in
      let j = journal_of plan in
      let rc = replayed j c in
      let info_at = plan.place.info_sector in
      let version = plan.place.last_mounted in
      let parts = journal_parts_as dialect info_at c j is.journal in
      let ra = replayed_alike c plan is in
      let rp = journal_parts_as dialect info_at rc j ra.found in
      let kh = kept_header c plan old (found_journal_as dialect c plan.info j parts.found) in
      let h = header_parts_as dialect plan.info.size (sector c base) plan.header fits.least kh.1 in
      let count : 3 ≤ plan.info.size / 512 = omega (arith, fits.least) in
      let not_info : info_at ≢ base = λ e. elim (apart_sector (length c * 512) info_at plan.info info_at parts.info parts.info.no_info) [ inl a ↦ omega arith | inr b ↦ omega arith ] in
      let not_two : 2 ≢ base = λ e. elim (apart_sector (length c * 512) info_at plan.info 2 parts.info parts.info.no_header) [ inl a ↦ omega arith | inr b ↦ omega arith ] in
      let head = emptied plan.header in
      let info : info_in info_at image ≡ Ok plan.info =
      ap (λ n. info_from n info_at (sector image info_at)) long ∙ ap (λ (b : List ℕ). info_from (length rc) info_at b) (same info_at not_info) ∙ rp.whole in
      let is_head : IsHeaderAs dialect plan.info.size head = record {
        start_whole = h.end_whole;
        start_low = h.end_low;
        start_high = h.end_high;
        end_whole = h.end_whole;
        end_low = h.end_low;
        end_high = h.end_high;
        size = h.size;
        blhdr_whole = h.blhdr_whole;
        blhdr_low = h.blhdr_low;
        blhdr_high = h.blhdr_high;
      } in
      let end_fits : plan.header.end < 2 ^ 64 = omega (arith, h.end_high, fits.inside, fits.sectors) in
      let size_fits : plan.header.size < 2 ^ 64 = omega (arith, h.size, fits.inside, fits.sectors) in
      let read : header_read_as dialect plan.info.size (sector image base) ≡ Ok head =
      ap (λ (b : List ℕ). header_read_as dialect plan.info.size b) new
      ∙ header_back head plan.info.size (drop 44 (sector rc base)) is_head (record { start = end_fits; end = end_fits; size = size_fits }) (checksum_fits (header_spelled 0 head)) in
      let k = kept_journal plan.info head in
      let found : journal_as dialect info_at image ≡ Ok k = journal_is_kept_as dialect info_at image plan.info (Ok head) info kh.0 read in
      let none = empty_text plan.info head false image refl in
      let head_same : sector image 2 ≡ sector rc 2 = same 2 not_two in
      let keeps : KeepsHeader c image = record {
        same = subst (λ (s : List ℕ). IsSame (header_of_volume c) (header_of s)) (sym head_same) ra.header.same;
        accepted = ap (λ (s : List ℕ). header_refusal (header_of s) (length c)) head_same ∙ ra.header.accepted;
      } in
      record {
        recovered = image;
        stands =
            recovers_as dialect info_at version image (same_place info_at version c image (long ∙ ra.size) (place_of c plan.place is.place) keeps)
            ∙ stands_for_as dialect info_at version k image found (empty_fault_as dialect info_at version k image none refl)
            ∙ ap (λ (x : Content). Ok x) (empty_replay k image none);
        agrees = record { size = long; each = λ s. elim (cases_eq s base) [ inl e ↦ inr (inl e) | inr n ↦ inl (same s n) ] };
        volume = keeps;
        journal = k;
        found = found;
        offset = refl;
        size = refl;
        order = refl;
        blhdr = refl;
        header = inr (new ∙ ap (λ (v : List ℕ). header_bytes (emptied plan.header) ++ drop 44 v) (replayed_still c plan is base (base_own c plan is total fits)));
        info = inl (same info_at not_info ∙ replayed_still c plan is info_at (inr refl));
        own = λ s own. refl;
      }

  -- while its header is written, the old one or the new one stands there
  pub stage_empty : (image : Content) → Mixes (only (replayed (journal_of plan) c)) (plan.info.offset / 512) (empty_header plan (replayed (journal_of plan) c) ∷ []) image → StandsForSameAs dialect plan c image
  stage_empty image m =
      let base = plan.info.offset / 512 in
      let rc = replayed (journal_of plan) c in
      let e = empty_header plan rc ∷ [] in
      let ra = replayed_alike c plan is in
      let long : length image ≡ length rc = mixes_size rc base e image m in
      let inside : base < length rc = omega (arith, ra.size, size, fits.inside, fits.least) in
      let other : (s : ℕ) → s ≢ base → sector image s ≡ sector rc s = λ s n. elim (cases_lt s (length rc)) [
        | inl here ↦ elim (cases_lt s base) [
          | inl before ↦ mixes_before rc base e image m s here before
          | inr behind ↦ mixes_behind rc base e image m s here (omega (arith, n))
        ]
        | inr past ↦ get_or_past image s [] (omega arith) ∙ sym (get_or_past rc s [] past)
      ] in
      let zero_more : base + 0 ≡ base = omega arith in
      elim (mixes_inside rc base e image m 0 (omega arith)) [
        | inl kept ↦
            let there : sector image base ≡ sector rc base = subst (λ k. sector image k ≡ sector rc k) zero_more kept in
            let whole : image ≡ rc = ext_get_or [] image rc long (λ s below. elim (cases_eq s base) [ inl q ↦ ap (sector image) q ∙ there ∙ ap (sector rc) (sym q) | inr n ↦ other s n ]) in
            subst (StandsForSameAs dialect plan c) (sym whole) (stands_replayed c plan is total fits)
        | inr changed ↦ stands_empty image long other (ap (sector image) (sym zero_more) ∙ changed)
      ]
