-- An adoption that was cut off, taken on by another.
use Rattle.std.proofs.Common.{◌≡◌, ◌⊎◌, ◌/◌, ◌==◌, ℕ, List, inl, inr, ⊎_elim, refl, sym, ◌∙◌, ap, subst, length}
use Rattle.std.specs.Prelude.{Err, Ok, true, false}
use Rattle.volume_header.specs.Refusal.{header_refusal, is_locked}
use Rattle.jnl_format.specs.Info.{unless_fault}
use Rattle.jnl_format.specs.Recovery.{Content, Journal, header_of_volume, homes_of, info_sector_of, journal_as, recovery, recovery_as, recovery_at_as, replayed, text_fault_as, text_of}
use Rattle.jnl_format.specs.declared.dialect.Dialect.TheVariants.{Wide}
use Rattle.jnl_format.proofs.Mixing.{mixes_with_homes}
use Rattle.jnl_format.proofs.Recovering.{ok_same, then_parts, unless_parts}
use Rattle.jnl_replay.specs.Adopting.{IsAdopted, StandsAdopted}
use Rattle.jnl_replay.specs.Homing.{AgreesOutsideJournal}
use Rattle.jnl_replay.specs.Plan.{IsPlanAs, journal_of}
use Rattle.jnl_replay.specs.declared.plan.Plan.{Plan}
use Rattle.jnl_replay.proofs.Checks.{plan_recovers}
use Rattle.image_adopt.specs.Adopting.{EndsAs, IsAdoptedAs, MayChange, RefusesAdoption}
use Rattle.image_adopt.specs.declared.answers.Adopted.{Adopted}
use Rattle.image_adopt.specs.declared.answers.Adopted.TheVariants.{Already, Anew}
use Rattle.image_adopt.specs.declared.answers.AdoptRefusal.{AdoptRefusal}
use Rattle.image_adopt.specs.declared.answers.AdoptRefusal.TheVariants.{Header, SoftwareLocked, Journal as JournalRefused}

each_both : (a b c : List ℕ) (at p q p2 q2 : ℕ) → p2 ≡ p → q2 ≡ q → (b ≡ a) ⊎ ((at ≡ p) ⊎ (at ≡ q)) → (c ≡ b) ⊎ ((at ≡ p2) ⊎ (at ≡ q2)) → (c ≡ a) ⊎ ((at ≡ p) ⊎ (at ≡ q))
each_both a b c at p q p2 q2 hp hq first second =
    ⊎_elim (λ e. ⊎_elim (λ f. inl (e ∙ f)) (λ f. inr f) first) (λ h. inr (⊎_elim (λ k. inl (k ∙ hp)) (λ k. inr (k ∙ hq)) h)) second

-- what a content stands for has as many sectors
recovered_size : (image recovered : Content) → recovery_as Wide image ≡ Ok recovered → length recovered ≡ length image
unfolding recovery_at_as
recovered_size image recovered is =
    let at = info_sector_of (header_of_volume image) in
    let version = (header_of_volume image).last_mounted_version in
    let p = then_parts (journal_as Wide at image) (λ (j : Journal). unless_fault (text_fault_as Wide at version j image) (replayed j image)) recovered is in
    let j = p.0 in
    let q = unless_parts (text_fault_as Wide at version j image) (replayed j image) recovered p.2 in
    ap (λ (d : Content). length d) (sym q.1) ∙ (mixes_with_homes (text_of j image) (homes_of j image) image).size

plan_stands : (c : Content) (plan : Plan) → IsPlanAs Wide c plan → recovery_as Wide c ≡ Ok (replayed (journal_of plan) c)
plan_stands c plan is = plan_recovers Wide c c plan.place plan is.place refl refl is.journal is.text

module _ (old image : Content) (plan : Plan) (is : IsPlanAs Wide old plan) (stands : StandsAdopted plan old image) where
  -- the info block stands where it stood
  same_place : info_sector_of (header_of_volume image) ≡ plan.place.info_sector
  same_place =
      let same : info_sector_of (header_of_volume old) ≡ info_sector_of (header_of_volume image) = (let e = stands.volume.same.info_block in let f = stands.volume.same.block_size in cc) in
      sym (is.place.info_sector ∙ same)

  -- another plan is of the same journal, and writes what the image stands for
  again : (other : Plan) → IsPlanAs Wide image other → (other.info.offset ≡ plan.info.offset) × (other.place.info_sector ≡ plan.place.info_sector) × (replayed (journal_of other) image ≡ stands.recovered)
  again other there =
      let at : other.place.info_sector ≡ plan.place.info_sector = there.place.info_sector ∙ same_place in
      let found : journal_as Wide plan.place.info_sector image ≡ Ok (journal_of other) = subst (λ n. journal_as Wide n image ≡ Ok (journal_of other)) at there.journal in
      let journal : journal_of other ≡ stands.journal = ok_same (journal_of other) stands.journal (sym found ∙ stands.found) in
      (ap (λ (j : Journal). j.info.offset) journal ∙ stands.offset, at, ok_same (replayed (journal_of other) image) stands.recovered (sym (plan_stands image other there) ∙ stands.stands))

  agrees_anew : (new : Content) (other : Plan) → IsPlanAs Wide image other → IsAdopted other image new → AgreesOutsideJournal plan (replayed (journal_of plan) old) new
  agrees_anew new other there adopted =
      let a = again other there in
      let second : AgreesOutsideJournal other stands.recovered new = subst (λ (d : Content). AgreesOutsideJournal other d new) a.2 adopted.agrees in
      record {
        size = second.size ∙ stands.agrees.size;
        each = λ at. each_both _ _ _ at (plan.info.offset / 512) plan.place.info_sector (other.info.offset / 512) other.place.info_sector (ap (λ n. n / 512) a.0) a.1 (stands.agrees.each at) (second.each at);
      }

  pub goes_on : (new : Content) (how : Adopted) → IsAdoptedAs image new how → EndsAs plan old new
  goes_on new Already done = (
    done.2,
    subst (λ (d : Content). recovery d ≡ Ok done.2) (sym done.1) done.3,
    subst (AgreesOutsideJournal plan (replayed (journal_of plan) old)) (sym (stands.plain done.2 done.3)) stands.agrees,
  )
  goes_on new (Anew made) done =
      let it = done.2 in (new, it.1.adopted.stands, agrees_anew new it.0 it.1.plan_is it.1.adopted)

  same_size : length image ≡ length old
  same_size = sym (recovered_size image stands.recovered stands.stands) ∙ stands.agrees.size ∙ recovered_size old (replayed (journal_of plan) old) (plan_stands old plan is)

  pub not_refused : MayChange old → (why : AdoptRefusal) → RefusesAdoption image why → ⊥
  not_refused may (Header why) refused = absurd (cc (sym refused ∙ ap (λ n. header_refusal (header_of_volume image) n) same_size ∙ stands.volume.accepted))
  not_refused may SoftwareLocked refused = absurd (cc (sym refused.1 ∙ ap (λ n. n == 1) stands.volume.same.bit_15 ∙ may.unlocked))
  not_refused may (JournalRefused why) refused = absurd (cc (sym stands.stands ∙ refused.1))
