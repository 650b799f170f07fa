-- What crashes leave of an image while it is repaired, and what stands at the end.
use Rattle.std.proofs.Common.{◌≡◌, ◌≢◌, ◌≤◌, ◌++◌, ℕ, List, [], inl, inr, ⊎_elim, refl, sym, ◌∙◌, ap, subst, arith}
use Rattle.std.proofs.lemmas.Bool.{cases_lt}
use Rattle.std.proofs.lemmas.List.{append-nil, append_cancel_left}
use Rattle.hx_bytes.specs.declared.faults.Trouble.{Trouble}
use Rattle.hx_bytes.specs.declared.faults.Trouble.TheVariants as trouble
use Rattle.sector_disk.specs.Clock.{TimePasses}
use Rattle.sector_disk.specs.Disk.{Candidates, HasNothingPending, IsImage, LeftNow, OnlyReads, State, ToldPrefix, content, content_of, only}
use Rattle.sector_disk.proofs.Stages.{image_only}
use Rattle.jnl_format.specs.Recovery.{Content, Journal, header_of_volume}
use Rattle.jnl_replay.specs.declared.plan.Plan.{Plan}
use Rattle.jnl_store.specs.Spaces.{found}
use Rattle.hfs_volume.specs.Aside.{IsJournalSector}
use Rattle.hfs_volume.specs.Mount.{HasJournal, HoldsAtMost}
use Rattle.hfs_serving.specs.Opening.{Opens}
use Rattle.hfs_serving.specs.Outside.{outside_of}
use Rattle.hfs_serving.specs.Stages.{MayLeave}
use Rattle.hfs_serving.proofs.Agreeing.{agrees_self}
use Rattle.hfs_serving.proofs.Versions.{only_image}
use Rattle.image_repair.specs.Mending.{FindsEither, FindsRepair, IsBroughtHome, StandsEither, StandsRepaired}
use Rattle.hfsx_server.specs.Repairing.{HasSoundRepair, IsMendableImage, KeepsImage, ToldRepaired, repaired_text, trouble_status}
use Rattle.hfsx_server.specs.declared.status.Status.TheVariants as status
use Rattle.hfsx_server.proofs.Finding.{same_journal, same_recovered}

-- ---- an image is opened in one way

pub holds_one : (j : Journal) (a b : ℕ) → HoldsAtMost j a → HoldsAtMost j b → a ≡ b
holds_one j a b one other = elim (cases_lt a b) [
  | inl less ↦ absurd (omega (arith, one.is_most b less, other.fits))
  | inr more ↦ elim (cases_lt b a) [ inl over_it ↦ absurd (omega (arith, other.is_most a over_it, one.fits)) | inr under ↦ omega (arith, more, under) ]
]

pub opens_one : (image : Content) (a b : ℕ) (one other : Content) → Opens image a one → Opens image b other → (a ≡ b) × (one ≡ other)
opens_one image a b one other first second =
    let same = same_journal image first.0.journal second.0.journal first.0.found second.0.found in
    (holds_one second.0.journal a b (subst (λ (j : Journal). HoldsAtMost j a) same first.0.holds) second.0.holds, same_recovered image one other first.0.recovers second.0.recovers)

-- ---- while it is repaired

module _ (plan : Plan) (start : Content) (capacity : ℕ) (first s0 : State) (settled : HasNothingPending s0) (reads : OnlyReads first s0) (only_now : (image : Content) (told : List ℕ) → first.clock.left first.clock.moment image told → LeftNow first image told)
    (is_start : found plan (content s0) ≡ start) (finds : (image : Content) → StandsEither start (found plan image) → FindsEither capacity start image) where
  stands0 : (image : Content) → IsImage s0.candidates image → StandsEither start (found plan image)
  stands0 image is =
      let same : image ≡ content s0 = image_only (content s0) image (subst (λ (d : Candidates). IsImage d image) settled is) in
      subst (λ (x : Content). StandsEither start x) (sym (ap (found plan) same ∙ is_start)) (inl (inl (agrees_self (IsJournalSector start) start)))

  pub starts : (r : Content) → (outside_of plan s0).leaves r → StandsEither start r
  starts r left = subst (StandsEither start) (sym left.2) (stands0 left.0 left.1)

  module _ (s1 : State) (may : MayLeave (StandsEither start) (outside_of plan s0) (outside_of plan s1)) where
    left_before : (image : Content) (told : List ℕ) → s1.clock.left first.clock.moment image told → StandsEither start (found plan image) × (told ≡ first.told)
    left_before image told left = elim (may.time.nothing_else first.clock.moment (found plan image) told reads.time.later (image, left, refl)) [
      | inl was ↦ elim (reads.time.nothing_else first.clock.moment was.0 told (omega arith) was.1) [
        | inl before ↦
            let now = only_now was.0 told before in
            (subst (StandsEither start) (sym was.2) (stands0 was.0 (subst (λ (d : Candidates). IsImage d was.0) (sym reads.candidates) now.0)), now.1)
        | inr now ↦ (subst (StandsEither start) (sym was.2) (stands0 was.0 now.0), now.1 ∙ reads.sink.told)
      ]
      | inr here ↦ (here.0, here.1 ∙ reads.sink.told)
    ]

    crash_before : (image : Content) (told : List ℕ) → s1.clock.left first.clock.moment image (first.told ++ told) → FindsEither capacity start image × (told ≢ [] → FindsRepair capacity start image)
    crash_before image told left =
        let there = left_before image (first.told ++ told) left in
        (finds image there.0, λ some. absurd (some (append_cancel_left first.told told [] (there.1 ∙ sym (append-nil first.told)))))

    -- nothing was told
    pub keeps_untold : KeepsImage capacity start first s1
    keeps_untold = record { crash = crash_before; now = λ image is. finds image (may.leaves (found plan image) (image, is, refl)) }

    module _ (s2 : State) (text : List ℕ) (time : TimePasses s1.clock s2.clock (λ image told. IsImage s1.candidates image × ToldPrefix s1.told text told)) (same : s2.candidates ≡ s1.candidates) (repaired : (image : Content) → StandsRepaired start (found plan image) → FindsRepair capacity start image)
        (stands : (r : Content) → (outside_of plan s1).leaves r → StandsRepaired start r) where
      pub keeps_told : KeepsImage capacity start first s2
      keeps_told = record {
        crash = λ image told left.
            let moment : first.clock.moment ≤ s1.clock.moment = omega (arith, reads.time.later, may.time.later) in
            ⊎_elim (λ was. crash_before image told was) (λ now. let there = stands (found plan image) (image, now.0, refl) in (finds image (inr there), λ some. repaired image there)) (time.nothing_else first.clock.moment image (first.told ++ told) moment left);
        now = λ image is. finds image (inr (stands (found plan image) (image, subst (λ (d : Candidates). IsImage d image) same is, refl)));
      }

-- ---- at the end

brought_on : (s1 s2 : State) → s2.candidates ≡ s1.candidates → IsBroughtHome s1 → IsBroughtHome s2
brought_on s1 s2 same home = record {
  settled = subst (λ (d : Candidates). d ≡ only (content_of d)) (sym same) home.settled;
  empty = subst (λ (d : Candidates). (journal : Journal) × HasJournal (content_of d) journal × (journal.header.start ≡ journal.header.end)) (sym same) home.empty;
  version = ap (λ (d : Candidates). (header_of_volume (content_of d)).last_mounted_version) same ∙ home.version;
}

pub told_repaired : (plan : Plan) (start : Content) (capacity sectors : ℕ) (s0 s1 s2 : State) → HasSoundRepair start sectors → s1.told ≡ s0.told → s2.told ≡ s1.told ++ repaired_text sectors → s2.candidates ≡ s1.candidates → IsBroughtHome s1
    → ((image : Content) → StandsRepaired start (found plan image) → FindsRepair capacity start image) → ((r : Content) → (outside_of plan s1).leaves r → StandsRepaired start r) → ToldRepaired capacity start s0 s2
told_repaired plan start capacity sectors s0 s1 s2 repair before told same home finds stands = record {
  sectors = sectors;
  repair = repair;
  told = told ∙ ap (λ (l : List ℕ). l ++ repaired_text sectors) before;
  finds = finds (content s2) (stands (found plan (content s2)) (content s2, subst (λ (d : Candidates). IsImage s1.candidates (content_of d)) (sym same) (subst (λ (d : Candidates). IsImage d (content s1)) (sym home.settled) (only_image (content s1))), refl));
  home = brought_on s1 s2 same home;
}

-- the same from before a stretch in which it was only read
pub told_from_before : (capacity : ℕ) (start : Content) (first s0 new : State) → OnlyReads first s0 → ToldRepaired capacity start s0 new → ToldRepaired capacity start first new
told_from_before capacity start first s0 new reads told = record {
  sectors = told.sectors;
  repair = told.repair;
  told = told.told ∙ ap (λ (l : List ℕ). l ++ repaired_text told.sectors) reads.sink.told;
  finds = told.finds;
  home = told.home;
}

-- an image that was only read
pub keeps_read : (plan : Plan) (start : Content) (capacity : ℕ) (first s0 : State) (settled : HasNothingPending s0) (reads : OnlyReads first s0) (only_now : (image : Content) (told : List ℕ) → first.clock.left first.clock.moment image told → LeftNow first image told) (is_start : found plan (content s0) ≡ start)
    (finds : (image : Content) → StandsEither start (found plan image) → FindsEither capacity start image) → MayLeave (StandsEither start) (outside_of plan s0) (outside_of plan s0) → KeepsImage capacity start first s0
keeps_read plan start capacity first s0 settled reads only_now is_start finds may = keeps_untold plan start capacity first s0 settled reads only_now is_start finds s0 may

-- for the one capacity and content that a mount finds
pub same_opened : (image : Content) (a b : ℕ) (one other : Content) → Opens image a one → Opens image b other → (P : ℕ → Content → Type 0) → P a one → P b other
same_opened image a b one other first second P holds =
    let same = opens_one image a b one other first second in
    subst (λ n. P n other) same.0 (subst (λ (x : Content). P a x) same.1 holds)

pub no_done : (t : Trouble) → trouble_status t ≡ status.Done → ⊥
no_done trouble.Disk is = absurd (cc is)
no_done trouble.Memory is = absurd (cc is)

-- an image that can be repaired and was only read
pub keeps_unread : (capacity : ℕ) (start : Content) (first new : State) (settled : HasNothingPending first) (only_now : (image : Content) (told : List ℕ) → first.clock.left first.clock.moment image told → LeftNow first image told) → OnlyReads first new → IsMendableImage (content first) capacity start → KeepsImage capacity start first new
keeps_unread capacity start first new settled only_now reads mendable = record {
  crash = λ image told left.
      let there : LeftNow first image (first.told ++ told) =
      ⊎_elim (λ was. only_now image (first.told ++ told) was) (λ now. (subst (λ (d : Candidates). IsImage d image) reads.candidates now.0, now.1 ∙ reads.sink.told)) (reads.time.nothing_else first.clock.moment image (first.told ++ told) (omega arith) left) in
      (finds image there.0, λ some. absurd (some (append_cancel_left first.told told [] (there.1 ∙ sym (append-nil first.told)))));
  now = λ image is. finds image (subst (λ (d : Candidates). IsImage d image) reads.candidates is);
}
  where
    finds : (image : Content) → IsImage first.candidates image → FindsEither capacity start image
    finds image is =
        let same : image ≡ content first = image_only (content first) image (subst (λ (d : Candidates). IsImage d image) settled is) in
        record { found = start; opens = subst (λ (x : Content). Opens x capacity start) (sym same) mendable.opens; stands = inl (inl (agrees_self (IsJournalSector start) start)) }

pub no_refused : (t : Trouble) → trouble_status t ≡ status.Refused → ⊥
no_refused trouble.Disk is = absurd (cc is)
no_refused trouble.Memory is = absurd (cc is)
