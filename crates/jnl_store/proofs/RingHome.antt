-- The live sectors written home, and the journal emptied, stage by stage.
use Rattle.std.proofs.Common.{◌≡◌, ◌⊎◌, ◌+◌, ◌-◌, ◌*◌, ◌/◌, ◌≤◌, [], ◌∷◌, inl, inr, length, refl, sym, ◌∙◌, ap, subst, arith, cond}
use Rattle.std.specs.Prelude.{IsTrue}
use Rattle.sector_disk.specs.Lists.{Content}
use Rattle.sector_disk.specs.Disk.{State, Candidates, IsDisk, IsImage, CrashesLeave, Mixes, SameSink, content, only}
use Rattle.sector_disk.specs.Space.{AgreesOutside}
use Rattle.sector_disk.proofs.Stages.{leaves_both, leaves_with}
use Rattle.jnl_format.specs.Recovery.{homes_of, replayed, text_of}
use Rattle.jnl_ring.specs.Writing.{MixesInRing}
use Rattle.jnl_ring.proofs.Bytes.{content_whole}
use Rattle.jnl_ring.specs.Whole.{AreWhole}
use Rattle.jnl_ring.proofs.Wrap.{distance_short}
use Rattle.jnl_replay.specs.Homing.{IsHomeMix, after_replay, empty_header, initialised, with_empty_header, with_info_done}
use Rattle.jnl_replay.specs.Plan.{FitsPlan, IsPlan, journal_of}
use Rattle.jnl_replay.specs.declared.plan.Plan.{Plan}
use Rattle.jnl_store.specs.Appending.{StandsStill}
use Rattle.jnl_store.specs.InUse.{IsInUse, used_of}
use Rattle.jnl_store.specs.Journal.{IsAtRest, IsClosed, IsSpilled}
use Rattle.jnl_store.specs.Plan.{rested, span_of}
use Rattle.jnl_store.specs.Standing.{StandsFor}
use Rattle.jnl_store.proofs.Attached.{holds_after, keeps_only, length-after}
use Rattle.jnl_store.proofs.Commits.{same_ok}
use Rattle.jnl_store.proofs.Images.{agrees_with}
use Rattle.jnl_store.proofs.Journals.{HoldsJournal, KeepsJournal}
use Rattle.jnl_store.proofs.Quiet.{volume_still, recovers_itself, rest_replayed}
use Rattle.jnl_store.proofs.AtRest.{rested_rests}
use Rattle.jnl_store.proofs.RingStages.{KeepsText, content_plan, emptied_agrees, emptied_stands, found, home_agrees, home_stands, image_stands, length-c, listed_agrees, listed_plan, listed_stands}

module _ (plan : Plan) (rest : IsInUse plan) (s0 : State) (is : IsDisk s0) (k : KeepsText plan s0) where
  -- while nothing is written
  pub image_still : (image : Content) → IsImage s0.candidates image → StandsStill plan s0 image
  image_still image i =
      let m : MixesInRing (span_of plan) plan.header.end [] s0.candidates image = record { size = i.size; each = λ s inside. inl (i.each s inside) } in
      let whole : AreWhole [] = λ j below. absurd (omega (arith, below)) in
      let short = distance_short plan.info.size plan.header.start plan.header.end rest.header.start_low rest.header.end_low rest.header.start_high rest.header.end_high in
      let room : used_of plan + 512 * length (let l : Content = [] in l) ≤ plan.info.size - 512 = omega (arith, short) in
      (replayed (journal_of plan) image, listed_stands plan rest s0 is k [] whole room image m, listed_agrees plan rest s0 is k [] whole room image m)

  pub still_plan : (image : Content) → IsImage s0.candidates image → IsPlan image plan
  still_plan image i =
      let m : MixesInRing (span_of plan) plan.header.end [] s0.candidates image = record { size = i.size; each = λ s inside. inl (i.each s inside) } in
      let whole : AreWhole [] = λ j below. absurd (omega (arith, below)) in
      let short = distance_short plan.info.size plan.header.start plan.header.end rest.header.start_low rest.header.end_low rest.header.start_high rest.header.end_high in
      let room : used_of plan + 512 * length (let l : Content = [] in l) ≤ plan.info.size - 512 = omega (arith, short) in
      listed_plan plan rest s0 is k [] whole room image m

  pub still_agrees : (image : Content) → IsImage s0.candidates image → AgreesOutside (λ s. IsSpilled plan s0.candidates s ⊎ IsClosed plan s) (replayed (journal_of plan) (content s0)) (replayed (journal_of plan) image)
  still_agrees image i =
      let m : MixesInRing (span_of plan) plan.header.end [] s0.candidates image = record { size = i.size; each = λ s inside. inl (i.each s inside) } in
      let whole : AreWhole [] = λ j below. absurd (omega (arith, below)) in
      let short = distance_short plan.info.size plan.header.start plan.header.end rest.header.start_low rest.header.end_low rest.header.start_high rest.header.end_high in
      let room : used_of plan + 512 * length (let l : Content = [] in l) ≤ plan.info.size - 512 = omega (arith, short) in
      listed_agrees plan rest s0 is k [] whole room image m

  -- the content itself stands for the durable content
  pub own_stands : StandsFor plan (content s0) (content s0) (replayed (journal_of plan) (content s0))
  own_stands = image_stands plan rest s0 is k (content s0) refl (volume_still (content s0) (content s0) k.journal.holds.place.accepted refl) refl refl refl

  -- while the sectors are written home
  pub stage_homes : (s1 : State) → CrashesLeave s0 s1 (IsHomeMix (text_of (journal_of plan) (content s0)) (homes_of (journal_of plan) (content s0)) s0.candidates) → CrashesLeave s0 s1 (StandsStill plan s0)
  stage_homes s1 leaves =
      leaves_with s0 s1 (IsHomeMix (text_of (journal_of plan) (content s0)) (homes_of (journal_of plan) (content s0)) s0.candidates) (StandsStill plan s0) leaves
      (λ image m. (replayed (journal_of plan) image, home_stands plan rest s0 is k image m, home_agrees plan rest s0 is k image m))

  -- while the header is written over them
  module _ (fits : FitsPlan s0.sectors plan) (tells : IsTrue s0.tells) where
    r : Content
    r = replayed (journal_of plan) (content s0)

    pub image_emptied : (image : Content) → Mixes (only (replayed (journal_of plan) (content s0))) (plan.info.offset / 512) (empty_header plan (replayed (journal_of plan) (content s0)) ∷ []) image → StandsStill plan s0 image
    image_emptied image m = (
      (found plan rest s0 is k fits tells image m).recovered,
      emptied_stands plan rest s0 is k fits tells image m,
      agrees_with (IsClosed plan) (λ s. IsSpilled plan s0.candidates s ⊎ IsClosed plan s) (replayed (journal_of plan) (content s0)) (found plan rest s0 is k fits tells image m).recovered (emptied_agrees plan rest s0 is k fits tells image m) (λ s shut. inr shut),
    )

    pub stage_emptied : (s2 s3 : State) → CrashesLeave s0 s2 (StandsStill plan s0) → SameSink s0 s2 → s2.candidates ≡ only (replayed (journal_of plan) (content s0)) → content s2 ≡ replayed (journal_of plan) (content s0)
        → CrashesLeave s2 s3 (Mixes s2.candidates (plan.info.offset / 512) (empty_header plan (content s2) ∷ [])) → CrashesLeave s0 s3 (StandsStill plan s0)
    stage_emptied s2 s3 first sink settled now second =
        leaves_both s0 s2 s3 (StandsStill plan s0) (Mixes s2.candidates (plan.info.offset / 512) (empty_header plan (content s2) ∷ [])) (StandsStill plan s0) first sink second
        (λ image p. p)
        (λ image m. image_emptied image
        (subst (λ (d : Candidates). Mixes d (plan.info.offset / 512) (empty_header plan (replayed (journal_of plan) (content s0)) ∷ []) image) settled
        (subst (λ (d : Content). Mixes s2.candidates (plan.info.offset / 512) (empty_header plan d ∷ []) image) now m)))

    -- what stands at the end
    size0 : length (content s0) ≡ s0.sectors
    size0 = length-c plan rest s0 is k ∙ is.size tells

    after_is : after_replay plan (content s0) ≡ with_empty_header plan (replayed (journal_of plan) (content s0))
    after_is = ap (λ b. cond b (with_info_done plan (with_empty_header plan (content s0))) (with_empty_header plan (replayed (journal_of plan) (content s0)))) rest.old

    size3 : length (with_empty_header plan (replayed (journal_of plan) (content s0))) ≡ length (content s0)
    size3 = ap (λ (d : Content). length d) (sym after_is) ∙ length-after (content s0) plan s0.sectors fits size0

    at_rest : IsAtRest (rested plan)
    at_rest = rested_rests plan s0.sectors fits

    holds_end : HoldsJournal (rested plan) (with_empty_header plan (replayed (journal_of plan) (content s0)))
    holds_end = subst (HoldsJournal (rested plan)) after_is (holds_after (content s0) plan (content_plan plan rest s0 is k) s0.sectors fits size0 (content_whole s0 is))

    same_offset : (rested plan).info.offset ≡ plan.info.offset
    same_offset = ap (λ b. (cond b (initialised plan.info) plan.info).offset) rest.old

    pub end_keeps : KeepsJournal (rested plan) (only (with_empty_header plan (replayed (journal_of plan) (content s0))))
    end_keeps =
        keeps_only (rested plan) (with_empty_header plan (replayed (journal_of plan) (content s0))) holds_end
        (omega (arith, size3, size0, fits.inside, fits.least)) (omega (arith, size3, size0, fits.info_sector)) (omega (arith, same_offset, size3, size0, fits.inside, fits.least))

    pub end_durable : replayed (journal_of (rested plan)) (with_empty_header plan (replayed (journal_of plan) (content s0))) ≡ with_empty_header plan (replayed (journal_of plan) (content s0))
    end_durable = rest_replayed (rested plan) (with_empty_header plan (replayed (journal_of plan) (content s0))) at_rest

    -- its own image
    module _ (m : Mixes (only (replayed (journal_of plan) (content s0))) (plan.info.offset / 512) (empty_header plan (replayed (journal_of plan) (content s0)) ∷ []) (with_empty_header plan (replayed (journal_of plan) (content s0)))) where
      itself : (found plan rest s0 is k fits tells (with_empty_header plan (replayed (journal_of plan) (content s0))) m).recovered ≡ with_empty_header plan (replayed (journal_of plan) (content s0))
      itself =
          let image = with_empty_header plan (replayed (journal_of plan) (content s0)) in
          same_ok (found plan rest s0 is k fits tells image m).recovered image (sym (found plan rest s0 is k fits tells image m).stands ∙ recovers_itself (rested plan) image at_rest holds_end)

      pub end_stands : StandsFor plan (content s0) (with_empty_header plan (replayed (journal_of plan) (content s0))) (with_empty_header plan (replayed (journal_of plan) (content s0)))
      end_stands =
          let image = with_empty_header plan (replayed (journal_of plan) (content s0)) in
          subst (λ (d : Content). StandsFor plan (content s0) image d) itself (emptied_stands plan rest s0 is k fits tells image m)

      pub end_agrees : AgreesOutside (IsClosed plan) (replayed (journal_of plan) (content s0)) (with_empty_header plan (replayed (journal_of plan) (content s0)))
      end_agrees =
          let image = with_empty_header plan (replayed (journal_of plan) (content s0)) in
          subst (λ (d : Content). AgreesOutside (IsClosed plan) (replayed (journal_of plan) (content s0)) d) itself (emptied_agrees plan rest s0 is k fits tells image m)
