-- The version of systems that keep the journal, written into the header of a volume whose journal is empty.
use Rattle.std.proofs.Common.{◌≡◌, ◌≢◌, ◌⊎◌, ◌<◌, ◌≤◌, ◌+◌, ◌*◌, ◌/◌, ◌==◌, ℕ, ◌&&◌, ◌||◌, List, [], ◌∷◌, ◌++◌, Contains, inl, inr, ⊎_elim, length, take, drop, refl, sym, ◌∙◌, ap, subst, arith, eqb, cond}
use Rattle.std.specs.Prelude.{is_none, Result, Ok, Err, nat_le, nat_lt}
use Rattle.std.proofs.lemmas.Bool.{and_parts, and_from, cases_eq, eq-eqb, eqb-true, leb-true, ltb-true, le-leb, lt-ltb, or_cases, or_left, or_right}
use Rattle.std.proofs.lemmas.List.{ext_get_or, get_or-map}
use Rattle.volume_header.specs.Header.{header_of}
use Rattle.volume_header.specs.Refusal.{header_refusal}
use Rattle.volume_header.specs.declared.header.VolumeHeader.{VolumeHeader}
use Rattle.sector_disk.specs.Lists.{sector, put_sectors}
use Rattle.sector_disk.specs.Disk.{IsImage, only}
use Rattle.sector_disk.specs.Space.{AgreesOutside}
use Rattle.sector_disk.proofs.Stages.{length-only}
use Rattle.jnl_format.specs.Header.{header_bytes}
use Rattle.jnl_format.specs.Info.{info_of, info_fault, holds, IsInfo}
use Rattle.jnl_format.specs.Recovery.{Content, Journal, header_of_volume, info_sector_of, journal_in, recovery, replayed}
use Rattle.jnl_format.specs.Text.{is_same_volume}
use Rattle.jnl_format.specs.declared.structures.Info.{Info}
use Rattle.jnl_format.specs.declared.structures.Header.{Header}
use Rattle.jnl_format.specs.declared.structures.JnlRefusal.{JnlRefusal}
use Rattle.jnl_format.proofs.InfoBack.{no_info_block}
use Rattle.jnl_format.proofs.Recovering.{apart_sector}
use Rattle.jnl_replay.specs.Homing.{AgreesOutsideJournal, after_replay, emptied, empty_header, with_empty_header, with_info_done}
use Rattle.jnl_replay.specs.Plan.{FitsPlan, IsPlan, journal_of}
use Rattle.jnl_replay.specs.declared.plan.Plan.{Plan}
use Rattle.jnl_ring.specs.Whole.{AreWhole}
use Rattle.jnl_store.specs.Journal.{IsAtRest, IsClosed}
use Rattle.jnl_store.specs.Plan.{rested}
use Rattle.jnl_store.specs.Spaces.{found, found_in, is_in_form, is_mountable}
use Rattle.jnl_store.proofs.AtRest.{rested_rests}
use Rattle.jnl_store.proofs.Attached.{holds_after, length-after, offset_is, size_is}
use Rattle.jnl_store.proofs.Journals.{HoldsJournal}
use Rattle.jnl_store.proofs.One.{length-one, one_else, one_here}
use Rattle.jnl_store.proofs.Quiet.{header_spells, info_whole, plan_found, rest_replayed, rest_text}
use Rattle.jnl_store.proofs.SpacedTime.{found_live}
use Rattle.hfs_volume.specs.Aside.{IsJournalSector}
use Rattle.hfs_volume.specs.Content.{JournalPlace, volume_of}
use Rattle.hfs_serving.specs.Readying.{with_version}
use Rattle.hfs_serving.specs.Runs.{version_header}
use Rattle.hfs_serving.proofs.Replays.{journal_lies, start_info}

-- ---- what is found hangs on the place and the sizes of a journal alone

form_like : (a b : Plan) (r : Result Journal JnlRefusal) → a.info.size ≡ b.info.size → a.info.offset ≡ b.info.offset → a.header.blhdr ≡ b.header.blhdr → is_in_form a r ≡ is_in_form b r
form_like a b (Err e) size offset blhdr = refl
form_like a b (Ok j) size offset blhdr = λ i. eqb j.info.size (size i) && eqb j.header.blhdr (blhdr i) && eqb j.info.offset (offset i)

pub found_like : (a b : Plan) (image : Content) → a.place.info_sector ≡ b.place.info_sector → a.info.size ≡ b.info.size → a.info.offset ≡ b.info.offset → a.header.blhdr ≡ b.header.blhdr → found a image ≡ found b image
unfolding found
found_like a b image place size offset blhdr = go (recovery image)
  where
    mountable : (x : Content) → is_mountable a image x ≡ is_mountable b image x
    mountable x =
        let first = is_none (header_refusal (header_of_volume image) (length image)) && is_same_volume (header_of_volume x) (header_of_volume image) in
        ap (λ n. first && is_in_form a (journal_in n image) && eqb n (info_sector_of (header_of_volume image))) place
        ∙ ap (λ t. first && t && eqb b.place.info_sector (info_sector_of (header_of_volume image))) (form_like a b (journal_in b.place.info_sector image) size offset blhdr)

    go : (r : Result Content JnlRefusal) → found_in a image r ≡ found_in b image r
    go (Err e) = refl
    go (Ok x) = ap (λ t. cond t x []) (mountable x)

-- ---- a content with an empty journal

module _ (p : Plan) (rest : IsAtRest p) (c : Content) (h : HoldsJournal p c) where
  pub plan_here : IsPlan c p
  plan_here = record { place = h.place; journal = plan_found p c rest h; text = rest_text p c rest }

  -- is found as it is
  pub found_here : found p c ≡ c
  found_here = found_live p c plan_here ∙ rest_replayed p c rest

  -- and a replay leaves it so
  pub emptied_here : p.info.offset / 512 < length c → after_replay p c ≡ c
  emptied_here inside =
      ap (λ b. cond b (with_info_done p (with_empty_header p c)) (with_empty_header p (replayed (journal_of p) c))) rest.old
      ∙ ap (with_empty_header p) (rest_replayed p c rest) ∙ ap (λ (l : List ℕ). put_sectors c (p.info.offset / 512) (l ∷ [])) spelled ∙ put_same
    where
      header_is : emptied p.header ≡ p.header
      header_is = λ i. record p.header { start = sym rest.empty i }

      spelled : empty_header p c ≡ sector c (p.info.offset / 512)
      spelled = ap (λ (head : Header). header_bytes head ++ drop 44 (sector c (p.info.offset / 512))) header_is ∙ sym (header_spells p c h)

      put_same : put_sectors c (p.info.offset / 512) (sector c (p.info.offset / 512) ∷ []) ≡ c
      put_same =
          let at = p.info.offset / 512 in
          let value = sector c at in
          ext_get_or [] (put_sectors c at (value ∷ [])) c (length-one c at value inside) (λ s below. elim (cases_eq s at) [
            | inl is ↦ ap (sector (put_sectors c at (value ∷ []))) is ∙ one_here c at value inside ∙ ap (sector c) (sym is)
            | inr other ↦ one_else c at value inside s other
          ])

  info_not_2 : p.place.info_sector ≢ 2
  info_not_2 two = no_info_block (sector c 2) (length c) p.place.info_sector h.place.accepted
      (subst (λ (i : Info). IsInfo (length c * 512) p.place.info_sector i) (sym (ap (λ k. info_of (sector c k)) (sym two) ∙ h.info)) (info_whole p c h))

  base_not_2 : p.info.offset / 512 ≢ 2
  base_not_2 two = let i = info_whole p c h in elim (apart_sector (length c * 512) p.place.info_sector p.info 2 i i.no_header) [ inl a ↦ omega (arith, two, a) | inr b ↦ omega (arith, two, b, rest.least) ]

  -- ---- the same with the version in its header

  pub rest_version : IsAtRest (with_version p)
  rest_version = record { header = rest.header; least = rest.least; most = rest.most; whole = rest.whole; empty = rest.empty; old = rest.old }

  module _ (image : Content) (size : length image ≡ length c) (same : (s : ℕ) → s ≢ 2 → sector image s ≡ sector c s) (head_is : header_of_volume image ≡ version_header (header_of_volume c)) where
    pub holds_version : HoldsJournal (with_version p) image
    holds_version = record {
      place = record {
        accepted = ap (λ n. header_refusal (header_of_volume image) n) size ∙ ap (λ (head : VolumeHeader). header_refusal head (length c)) head_is ∙ h.place.accepted;
        info_sector = h.place.info_sector ∙ sym (ap (λ (head : VolumeHeader). info_sector_of head) head_is);
        last_mounted = sym (ap (λ (head : VolumeHeader). head.last_mounted_version) head_is);
      };
      info = ap info_of (same p.place.info_sector info_not_2) ∙ h.info;
      no_fault = ap (λ n. info_fault (n * 512) (holds p.info 2 || holds p.info p.place.info_sector) p.info) size ∙ h.no_fault;
      old = h.old;
      header = ap (take 44) (same (p.info.offset / 512) base_not_2) ∙ h.header;
    }

-- the one image of a disk of which nothing is pending
pub only_image : (c : Content) → IsImage (only c) c
only_image c = record {
  size = sym (length-only c);
  each = λ at inside.
      let below : at < length c = omega (arith, inside, length-only c) in
      subst (λ (l : List (List ℕ)). Contains l (sector c at)) (sym (get_or-map (λ (v : List ℕ). v ∷ []) c at [] [] below)) (0, omega arith, refl);
}

-- ---- the sectors of a journal

closed_cases : (p : Plan) (s : ℕ) → IsClosed p s → ((p.info.offset / 512 ≤ s) × (s < p.info.offset / 512 + p.info.size / 512)) ⊎ (s ≡ p.place.info_sector)
closed_cases p s closed = elim (or_cases (nat_le (p.info.offset / 512) s && nat_lt s (p.info.offset / 512 + p.info.size / 512)) (s == p.place.info_sector) closed) [
  | inl range ↦
      let both = and_parts (nat_le (p.info.offset / 512) s) (nat_lt s (p.info.offset / 512 + p.info.size / 512)) range in
      inl (leb-true (p.info.offset / 512) s both.0, ltb-true s (p.info.offset / 512 + p.info.size / 512) both.1)
  | inr is ↦ inr (eqb-true s p.place.info_sector is)
]

closed_info : (p : Plan) (s : ℕ) → s ≡ p.place.info_sector → IsClosed p s
closed_info p s is = or_right (nat_le (p.info.offset / 512) s && nat_lt s (p.info.offset / 512 + p.info.size / 512)) (s == p.place.info_sector) (eq-eqb s p.place.info_sector is)

closed_header : (p : Plan) (s : ℕ) → 1536 ≤ p.info.size → s ≡ p.info.offset / 512 → IsClosed p s
closed_header p s least is =
    or_left (nat_le (p.info.offset / 512) s && nat_lt s (p.info.offset / 512 + p.info.size / 512)) (s == p.place.info_sector)
    (and_from (nat_le (p.info.offset / 512) s) (nat_lt s (p.info.offset / 512 + p.info.size / 512)) (le-leb (p.info.offset / 512) s (omega (arith, is))) (lt-ltb s (p.info.offset / 512 + p.info.size / 512) (omega (arith, is, least))))

-- the sectors of a journal that lies here, whose info block is this
abbrev pub LiesIn : JournalPlace → ℕ → ℕ → Type 0
LiesIn journal info at = ((journal.offset / 512 ≤ at) × (at < (journal.offset + journal.size) / 512)) ⊎ (at ≡ info)

-- ---- after a replay

module _ (plan : Plan) (total : ℕ) (fits : FitsPlan total plan) (before : Content) (is : IsPlan before plan) (long : length before ≡ total) (whole : AreWhole before) (start : Content) (recovers : recovery before ≡ Ok start)
    (home : AgreesOutsideJournal plan start (after_replay plan before)) where
  abbrev c : Content
  c = after_replay plan before

  abbrev p : Plan
  p = rested plan

  size_same : p.info.size ≡ plan.info.size
  size_same = size_is plan plan.fresh refl

  offset_same : p.info.offset ≡ plan.info.offset
  offset_same = offset_is plan plan.fresh refl

  pub rest : IsAtRest p
  rest = rested_rests plan total fits

  pub h : HoldsJournal p c
  h = holds_after before plan is total fits long whole

  pub long_c : length c ≡ total
  long_c = length-after before plan total fits long ∙ long

  pub base_inside : p.info.offset / 512 < length c
  base_inside = omega (arith, offset_same, long_c, fits.inside, fits.least)

  pub closed_start : (s : ℕ) → IsClosed p s → IsJournalSector start s
  closed_start s closed =
      let lies : LiesIn (record { offset = plan.info.offset; size = plan.info.size }) plan.place.info_sector s = elim (closed_cases p s closed) [
        | inl range ↦ inl (omega (arith, range.0, offset_same), omega (arith, range.1, offset_same, size_same, fits.offset, fits.whole))
        | inr info ↦ inr info
      ] in
      subst (λ (n : ℕ). LiesIn (volume_of start).journal n s) (sym (start_info plan before total fits is start recovers))
      (subst (λ (j : JournalPlace). LiesIn j plan.place.info_sector s) (sym (journal_lies plan before total fits is start recovers)) lies)

  pub agrees_start : AgreesOutside (IsClosed p) start c
  agrees_start = record {
    size = home.size;
    each = λ s. elim (home.each s) [
      | inl same ↦ inl same
      | inr (inl header) ↦ inr (closed_header p s (omega (arith, fits.least, size_same)) (header ∙ ap (λ n. n / 512) (sym offset_same)))
      | inr (inr info) ↦ inr (closed_info p s info)
    ];
  }

  pub apart : IsClosed p 2 → ⊥
  apart closed = elim (closed_cases p 2 closed) [
    | inl range ↦ elim (apart_sector (length c * 512) p.place.info_sector p.info 2 (info_whole p c h) (info_whole p c h).no_header) [ inl a ↦ omega (arith, range.0, a) | inr b ↦ omega (arith, range.1, b) ]
    | inr info ↦ info_not_2 p rest c h (sym info)
  ]

  pub header_same : header_of_volume c ≡ header_of_volume start
  header_same = ap header_of (⊎_elim (λ (same : sector c 2 ≡ sector start 2). same) (λ closed. absurd (apart closed)) (agrees_start.each 2))

  -- what is found by the plan is found by that of before
  pub found_before : (version : ℕ) (image : Content) → found plan image ≡ found (record p { place = record p.place { last_mounted = version } }) image
  found_before version image = found_like plan (record p { place = record p.place { last_mounted = version } }) image refl (sym size_same) (sym offset_same) refl
