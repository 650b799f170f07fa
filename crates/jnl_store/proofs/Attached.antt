-- The disk that a replay leaves holds the journal of the store that is attached.
use Rattle.std.proofs.Common.{◌≡◌, ◌≢◌, ℕ, ◌*◌, ◌/◌, ◌^◌, ◌<◌, ◌≤◌, Bool, true, false, ◌||◌, not, List, [], ◌∷◌, ◌++◌, inl, inr, length, take, drop, refl, sym, ◌∙◌, ap, subst, arith, cond, eqb}
use Rattle.std.specs.Prelude.{None}
use Rattle.std.proofs.lemmas.List.{get_or-map}
use Rattle.sector_disk.specs.Lists.{Content, sector}
use Rattle.sector_disk.specs.Disk.{candidates_of, only}
use Rattle.sector_disk.proofs.Candidates.{content_of-only}
use Rattle.jnl_format.specs.Header.{header_bytes, header_spelled}
use Rattle.jnl_format.specs.Checksum.{checksum_of}
use Rattle.jnl_format.specs.Info.{info_of, info_fault, holds, is_fresh, with_info, IsInfo}
use Rattle.jnl_format.specs.Recovery.{replayed, Journal, homes_of, text_of}
use Rattle.jnl_format.specs.declared.structures.Info.{Info}
use Rattle.jnl_format.specs.declared.structures.Header.{Header}
use Rattle.jnl_format.proofs.Alike.{same_place}
use Rattle.jnl_format.specs.Keeping.{KeepsHeader}
use Rattle.jnl_format.proofs.Headers.{take_header}
use Rattle.jnl_format.proofs.InfoBack.{info_back, flag_off, flags_fit, no_info_block}
use Rattle.jnl_format.proofs.Mixing.{length-with_homes}
use Rattle.jnl_format.proofs.Recovering.{IsJournal, Found, is_new, is_kept, journal_parts, found_journal, unless_parts, apart_sector}
use Rattle.jnl_replay.specs.Homing.{StandsForSame, after_replay, emptied, empty_header, initialised, with_empty_header, with_info_done}
use Rattle.jnl_replay.specs.Plan.{IsPlace, IsPlan, FitsPlan, journal_of}
use Rattle.jnl_replay.specs.declared.plan.Plan.{Plan}
use Rattle.jnl_replay.proofs.Checks.{place_of}
use Rattle.jnl_replay.proofs.Fresh.{same_fault}
use Rattle.jnl_replay.proofs.Stages.{replayed_still, stands_empty}
use Rattle.jnl_store.specs.Plan.{info_after, rested}
use Rattle.jnl_store.proofs.Journals.{HoldsJournal, KeepsJournal}
use Rattle.jnl_store.proofs.One.{length-one, one_here, one_else}
use Rattle.jnl_store.proofs.Quiet.{volume_still}
use Rattle.jnl_ring.specs.Whole.{AreWhole}

pub fresh_is : (c : Content) (plan : Plan) → Found c plan.info (journal_of plan) → is_fresh plan.info ≡ plan.fresh
fresh_is c plan (is_new f e) = f ∙ sym (ap (λ (j : Journal). j.fresh) e)
fresh_is c plan (is_kept header f r e) = f ∙ sym (ap (λ (j : Journal). j.fresh) e)

pub place_is : (c image : Content) (plan : Plan) → IsPlace c plan.place → length image ≡ length c → KeepsHeader c image → IsPlace image plan.place
place_is c image plan p long keeps =
    let q = same_place plan.place.info_sector plan.place.last_mounted c image long (place_of c plan.place p) keeps in
    record { accepted = q.accepted; info_sector = q.info_sector; last_mounted = q.last_mounted }

-- the 44 bytes of a header in front of others
pub take_44 : (head : Header) (rest : List ℕ) → take 44 (header_bytes head ++ rest) ≡ header_bytes head
take_44 head rest = take_header (checksum_of (header_spelled 0 head)) head rest

module _ (c : Content) (plan : Plan) (is : IsPlan c plan) (total : ℕ) (fits : FitsPlan total plan) (size : length c ≡ total) where
  parts : IsJournal plan.place.info_sector c (journal_of plan)
  parts = journal_parts plan.place.info_sector c (journal_of plan) is.journal

  no_fault : info_fault (length c * 512) (holds plan.info 2 || holds plan.info plan.place.info_sector) plan.info ≡ None
  no_fault =
      let at = plan.place.info_sector in
      let first = info_of (sector c at) in
      ap (λ (i : Info). info_fault (length c * 512) (holds i 2 || holds i at) i) (sym parts.read)
      ∙ (unless_parts (info_fault (length c * 512) (holds first 2 || holds first at) first) first plan.info parts.whole).0

  not_info : plan.place.info_sector ≢ plan.info.offset / 512
  not_info e = elim (apart_sector (length c * 512) plan.place.info_sector plan.info plan.place.info_sector parts.info parts.info.no_info) [ inl a ↦ omega arith | inr b ↦ omega (arith, fits.least) ]

  not_two : 2 ≢ plan.info.offset / 512
  not_two e = elim (apart_sector (length c * 512) plan.place.info_sector plan.info 2 parts.info parts.info.no_header) [ inl a ↦ omega arith | inr b ↦ omega (arith, fits.least) ]

  -- a journal that was initialised before
  pub holds_old : plan.fresh ≡ false → HoldsJournal (rested plan) (with_empty_header plan (replayed (journal_of plan) c))
  holds_old old =
      let at = plan.place.info_sector in
      let rc = replayed (journal_of plan) c in
      let image = with_empty_header plan rc in
      let long_rc : length rc ≡ length c = length-with_homes (text_of (journal_of plan) c) (homes_of (journal_of plan) c) c in
      let inside : plan.info.offset / 512 < length rc = omega (arith, long_rc, size, fits.inside, fits.least) in
      let long : length image ≡ length rc = length-one rc (plan.info.offset / 512) (empty_header plan rc) inside in
      let other = one_else rc (plan.info.offset / 512) (empty_header plan rc) inside in
      let s : StandsForSame plan c image = stands_empty c plan is total fits size old image long other (one_here rc (plan.info.offset / 512) (empty_header plan rc) inside) in
      let info_is : info_after plan ≡ plan.info = ap (λ b. cond b (initialised plan.info) plan.info) old in
      record {
        place = place_is c image plan is.place (long ∙ long_rc) s.volume;
        info = ap info_of (other at not_info ∙ replayed_still c plan is at (inr refl)) ∙ parts.read ∙ sym info_is;
        no_fault =
            ap (λ (i : Info). info_fault (length image * 512) (holds i 2 || holds i at) i) info_is
            ∙ ap (λ n. info_fault (n * 512) (holds plan.info 2 || holds plan.info at) plan.info) (long ∙ long_rc) ∙ no_fault;
        old = ap is_fresh info_is ∙ fresh_is c plan (found_journal c plan.info (journal_of plan) parts.found) ∙ old;
        header =
            ap (λ (i : Info). take 44 (sector image (i.offset / 512))) info_is
            ∙ ap (take 44) (one_here rc (plan.info.offset / 512) (empty_header plan rc) inside) ∙ take_44 (emptied plan.header) (drop 44 (sector rc (plan.info.offset / 512)));
      }

  -- one that still had to be initialised
  pub holds_new : AreWhole c → plan.fresh ≡ true → HoldsJournal (rested plan) (with_info_done plan (with_empty_header plan c))
  holds_new whole new =
      let at = plan.place.info_sector in
      let base_at = plan.info.offset / 512 in
      let e = empty_header plan c in
      let d = with_empty_header plan c in
      let inside : base_at < length c = omega (arith, size, fits.inside, fits.least) in
      let long_d : length d ≡ length c = length-one c base_at e inside in
      let at_inside : at < length d = omega (arith, long_d, size, fits.info_sector) in
      let v = with_info (initialised plan.info) (sector d at) in
      let image = with_info_done plan d in
      let long : length image ≡ length c = length-one d at v at_inside ∙ long_d in
      let same_at : sector d at ≡ sector c at = one_else c base_at e inside at not_info in
      let enough : 52 ≤ length (sector d at) = omega (arith, ap length same_at, whole at (omega (arith, at_inside, long_d))) in
      let size_fits : plan.info.size < 2 ^ 64 = omega (arith, fits.inside, fits.sectors) in
      let offset_fits : plan.info.offset < 2 ^ 64 = omega (arith, fits.inside, fits.sectors) in
      let back : info_of v ≡ initialised plan.info = info_back (initialised plan.info) (sector d at) enough (flags_fit plan.info.flags) offset_fits size_fits in
      let here : sector image at ≡ v = one_here d at v at_inside in
      let info_is : info_after plan ≡ initialised plan.info = ap (λ b. cond b (initialised plan.info) plan.info) new in
      let two : at ≢ 2 = λ q. no_info_block (sector c 2) (length c) at is.place.accepted
      (subst (λ (i : Info). IsInfo (length c * 512) at i) (sym (ap (λ k. info_of (sector c k)) (sym q) ∙ parts.read)) parts.info) in
      let volume : sector image 2 ≡ sector c 2 = one_else d at v at_inside 2 (λ q. two (sym q)) ∙ one_else c base_at e inside 2 not_two in
      let header : sector image base_at ≡ e = one_else d at v at_inside base_at (λ q. not_info (sym q)) ∙ one_here c base_at e inside in
      record {
        place = place_is c image plan is.place long (volume_still c image is.place.accepted volume);
        info = ap info_of here ∙ back ∙ sym info_is;
        no_fault =
            ap (λ (i : Info). info_fault (length image * 512) (holds i 2 || holds i at) i) info_is
            ∙ ap (λ n. info_fault (n * 512) (holds plan.info 2 || holds plan.info at) (initialised plan.info)) long
            ∙ same_fault (length c * 512) (holds plan.info 2 || holds plan.info at) plan.info ∙ no_fault;
        old = ap is_fresh info_is ∙ ap (λ x. not (eqb x 0)) (flag_off plan.info.flags);
        header =
            ap (λ (i : Info). take 44 (sector image (i.offset / 512))) info_is
            ∙ ap (take 44) header ∙ take_44 (emptied plan.header) (drop 44 (sector c base_at));
      }

  holds_by : AreWhole c → (fresh : Bool) → plan.fresh ≡ fresh → HoldsJournal (rested plan) (after_replay plan c)
  holds_by whole true new = subst (HoldsJournal (rested plan)) (sym (ap (λ b. cond b (with_info_done plan (with_empty_header plan c)) (with_empty_header plan (replayed (journal_of plan) c))) new)) (holds_new whole new)
  holds_by whole false old = subst (HoldsJournal (rested plan)) (sym (ap (λ b. cond b (with_info_done plan (with_empty_header plan c)) (with_empty_header plan (replayed (journal_of plan) c))) old)) (holds_old old)

  pub holds_after : AreWhole c → HoldsJournal (rested plan) (after_replay plan c)
  holds_after whole = holds_by whole plan.fresh refl

-- a sector of a content of which nothing is pending
pub only_length : (c : Content) (at : ℕ) → at < length c → length (candidates_of (only c) at) ≡ 1
only_length c at inside = ap length (get_or-map (λ (v : List ℕ). v ∷ []) c at [] [] inside)

pub keeps_only : (plan : Plan) (c : Content) → HoldsJournal plan c → 2 < length c → plan.place.info_sector < length c → plan.info.offset / 512 < length c → KeepsJournal plan (only c)
keeps_only plan c h two info base = record {
  volume_one = only_length c 2 two;
  info_one = only_length c plan.place.info_sector info;
  header_one = only_length c (plan.info.offset / 512) base;
  holds = subst (HoldsJournal plan) (sym (content_of-only c)) h;
}

volume_sector : (c : Content) (plan : Plan) (total : ℕ) → IsPlan c plan → FitsPlan total plan → length c ≡ total → 2 < length c
volume_sector c plan total is fits size = omega (arith, size, fits.inside, fits.least)

length_by : (c : Content) (plan : Plan) (total : ℕ) → FitsPlan total plan → length c ≡ total → (fresh : Bool) → length (cond fresh (with_info_done plan (with_empty_header plan c)) (with_empty_header plan (replayed (journal_of plan) c))) ≡ length c
length_by c plan total fits size true =
    let base_at = plan.info.offset / 512 in
    let d = with_empty_header plan c in
    let inside : base_at < length c = omega (arith, size, fits.inside, fits.least) in
    let long_d : length d ≡ length c = length-one c base_at (empty_header plan c) inside in
    let at_inside : plan.place.info_sector < length d = omega (arith, long_d, size, fits.info_sector) in
    length-one d plan.place.info_sector (with_info (initialised plan.info) (sector d plan.place.info_sector)) at_inside ∙ long_d
length_by c plan total fits size false =
    let base_at = plan.info.offset / 512 in
    let rc = replayed (journal_of plan) c in
    let long_rc : length rc ≡ length c = length-with_homes (text_of (journal_of plan) c) (homes_of (journal_of plan) c) c in
    let inside : base_at < length rc = omega (arith, long_rc, size, fits.inside, fits.least) in
    length-one rc base_at (empty_header plan rc) inside ∙ long_rc

pub length-after : (c : Content) (plan : Plan) (total : ℕ) → FitsPlan total plan → length c ≡ total → length (after_replay plan c) ≡ length c
length-after c plan total fits size = length_by c plan total fits size plan.fresh

pub size_is : (plan : Plan) (fresh : Bool) → plan.fresh ≡ fresh → (info_after plan).size ≡ plan.info.size
size_is plan true e = ap (λ b. (cond b (initialised plan.info) plan.info).size) e
size_is plan false e = ap (λ b. (cond b (initialised plan.info) plan.info).size) e

pub offset_is : (plan : Plan) (fresh : Bool) → plan.fresh ≡ fresh → (info_after plan).offset ≡ plan.info.offset
offset_is plan true e = ap (λ b. (cond b (initialised plan.info) plan.info).offset) e
offset_is plan false e = ap (λ b. (cond b (initialised plan.info) plan.info).offset) e

pub attached_holds : (c : Content) (plan : Plan) → IsPlan c plan → (total : ℕ) → FitsPlan total plan → length c ≡ total → AreWhole c → KeepsJournal (rested plan) (only (after_replay plan c))
attached_holds c plan is total fits size whole =
    let long = length-after c plan total fits size in
    let two = volume_sector c plan total is fits size in
    let same_offset : (info_after plan).offset ≡ plan.info.offset = offset_is plan plan.fresh refl in
    keeps_only (rested plan) (after_replay plan c) (holds_after c plan is total fits size whole) (omega (arith, long, two)) (omega (arith, long, size, fits.info_sector)) (omega (arith, long, size, same_offset, fits.inside, fits.least))
