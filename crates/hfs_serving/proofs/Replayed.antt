-- The content that a replay leaves stands for what the one before it stood for.
use Rattle.std.proofs.Common.{◌≡◌, ◌≢◌, ◌<◌, ◌*◌, ◌/◌, ℕ, Bool, true, false, List, [], ◌∷◌, Contains, inl, inr, length, refl, sym, ◌∙◌, ap, subst, arith, cond}
use Rattle.std.proofs.lemmas.Bool.{cases_eq}
use Rattle.sector_disk.specs.Lists.{Content, put_sectors, sector}
use Rattle.sector_disk.specs.Disk.{Mixes, candidates_of, only}
use Rattle.sector_disk.proofs.Stages.{length-only}
use Rattle.jnl_format.specs.Info.{with_info}
use Rattle.jnl_format.specs.Recovery.{homes_of, replayed, text_of}
use Rattle.jnl_format.proofs.Mixing.{length-with_homes}
use Rattle.jnl_format.proofs.Recovering.{apart_sector, journal_parts}
use Rattle.jnl_replay.specs.Homing.{StandsForSame, after_replay, empty_header, initialised, with_empty_header, with_info_done}
use Rattle.jnl_replay.specs.Plan.{FitsPlan, IsPlan, journal_of}
use Rattle.jnl_replay.specs.declared.plan.Plan.{Plan}
use Rattle.jnl_replay.proofs.Fresh.{stage_info}
use Rattle.jnl_replay.proofs.Stages.{stage_empty}
use Rattle.jnl_ring.specs.Whole.{AreWhole}
use Rattle.jnl_store.proofs.One.{length-one, one_else, one_here}
use Rattle.hfs_serving.proofs.Versions.{only_image}

-- a content with one sector in place of another is one of those that its write leaves
put_mixes : (c : Content) (at : ℕ) (value : List ℕ) → at < length c → Mixes (only c) at (value ∷ []) (put_sectors c at (value ∷ []))
put_mixes c at value inside = record {
  size = length-one c at value inside ∙ sym (length-only c);
  each = λ s below. elim (cases_eq s at) [
    | inl is ↦ inr (0, omega arith, omega (arith, is), ap (sector (put_sectors c at (value ∷ []))) is ∙ one_here c at value inside)
    | inr other ↦ inl (subst (λ (v : List ℕ). Contains (candidates_of (only c) s) v) (sym (one_else c at value inside s other)) ((only_image c).each s below))
  ];
}

module _ (plan : Plan) (total : ℕ) (fits : FitsPlan total plan) (before : Content) (is : IsPlan before plan) (long : length before ≡ total) (whole : AreWhole before) where
  base_inside : plan.info.offset / 512 < length before
  base_inside = omega (arith, long, fits.inside, fits.least)

  not_info : plan.place.info_sector ≢ plan.info.offset / 512
  not_info same =
      let parts = journal_parts plan.place.info_sector before (journal_of plan) is.journal in
      elim (apart_sector (length before * 512) plan.place.info_sector plan.info plan.place.info_sector parts.info parts.info.no_info) [ inl a ↦ omega (arith, same, a) | inr b ↦ omega (arith, same, b, fits.least) ]

  by_flag : (fresh : Bool) → plan.fresh ≡ fresh → StandsForSame plan before (cond fresh (with_info_done plan (with_empty_header plan before)) (with_empty_header plan (replayed (journal_of plan) before)))
  by_flag true new =
      let at = plan.place.info_sector in
      let d = with_empty_header plan before in
      let size : length d ≡ length before = length-one before (plan.info.offset / 512) (empty_header plan before) base_inside in
      let inside : at < length d = omega (arith, size, long, fits.info_sector) in
      let there : sector d at ≡ sector before at = one_else before (plan.info.offset / 512) (empty_header plan before) base_inside at not_info in
      stage_info before plan is total fits long new (with_info_done plan d) (omega (arith, ap length there, whole at (omega (arith, long, fits.info_sector))))
      (put_mixes d at (with_info (initialised plan.info) (sector d at)) inside)
  by_flag false old =
      let rc = replayed (journal_of plan) before in
      let size : length rc ≡ length before = length-with_homes (text_of (journal_of plan) before) (homes_of (journal_of plan) before) before in
      stage_empty before plan is total fits long old (with_empty_header plan rc) (put_mixes rc (plan.info.offset / 512) (empty_header plan rc) (omega (arith, size, base_inside)))

  pub replay_stands : StandsForSame plan before (after_replay plan before)
  replay_stands = by_flag plan.fresh refl
