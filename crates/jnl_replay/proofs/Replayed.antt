-- The content that a replay leaves stands for what the one before it stood for.
use Rattle.std.proofs.Common.{◌≡◌, ◌≢◌, ◌<◌, ◌≤◌, ◌*◌, ◌/◌, ℕ, Bool, true, false, List, [], ◌∷◌, inl, inr, length, refl, ◌∙◌, ap, arith, cond}
use Rattle.sector_disk.specs.Lists.{Content, sector}
use Rattle.jnl_format.specs.Info.{with_info}
use Rattle.jnl_format.specs.Recovery.{homes_of, replayed, text_of}
use Rattle.jnl_format.specs.declared.dialect.Dialect.{Dialect}
use Rattle.jnl_format.proofs.Mixing.{length-with_homes}
use Rattle.jnl_format.proofs.Recovering.{apart_sector, journal_parts_as}
use Rattle.jnl_replay.specs.Homing.{StandsForSameAs, after_replay, empty_header, initialised, with_empty_header, with_info_done}
use Rattle.jnl_replay.specs.Plan.{FitsPlanAs, IsPlanAs, journal_of}
use Rattle.jnl_replay.specs.declared.plan.Plan.{Plan}
use Rattle.jnl_replay.proofs.Fresh.{stage_info}
use Rattle.jnl_replay.proofs.One.{length-one, one_else, put_mixes}
use Rattle.jnl_replay.proofs.Stages.{stage_empty}
use Rattle.jnl_ring.specs.Whole.{AreWhole}

module _ {dialect form : Dialect} (plan : Plan) (total : ℕ) (fits : FitsPlanAs form total plan) (c : Content) (is : IsPlanAs dialect c plan) (long : length c ≡ total) (whole : AreWhole c) where
  pub base_inside : plan.info.offset / 512 < length c
  base_inside = omega (arith, long, fits.inside, fits.least)

  pub info_apart : plan.place.info_sector ≢ plan.info.offset / 512
  info_apart same =
      let parts = journal_parts_as dialect plan.place.info_sector c (journal_of plan) is.journal in
      elim (apart_sector (length c * 512) plan.place.info_sector plan.info plan.place.info_sector parts.info parts.info.no_info) [ inl a ↦ omega (arith, same, a) | inr b ↦ omega (arith, same, b, fits.least) ]

  pub length-replayed : length (replayed (journal_of plan) c) ≡ length c
  length-replayed = length-with_homes (text_of (journal_of plan) c) (homes_of (journal_of plan) c) c

  by_flag : (fresh : Bool) → plan.fresh ≡ fresh → StandsForSameAs dialect plan c (cond fresh (with_info_done plan (with_empty_header plan c)) (with_empty_header plan (replayed (journal_of plan) c)))
  by_flag true new =
      let at = plan.place.info_sector in
      let d = with_empty_header plan c in
      let size : length d ≡ length c = length-one c (plan.info.offset / 512) (empty_header plan c) base_inside in
      let inside : at < length d = omega (arith, size, long, fits.info_sector) in
      let there : sector d at ≡ sector c at = one_else c (plan.info.offset / 512) (empty_header plan c) base_inside at info_apart in
      stage_info c plan is total fits long new (with_info_done plan d) (omega (arith, ap length there, whole at (omega (arith, long, fits.info_sector))))
      (put_mixes d at (with_info (initialised plan.info) (sector d at)) inside)
  by_flag false old =
      let rc = replayed (journal_of plan) c in
      stage_empty c plan is total fits long old (with_empty_header plan rc) (put_mixes rc (plan.info.offset / 512) (empty_header plan rc) (omega (arith, length-replayed, base_inside)))

  pub replay_stands_as : StandsForSameAs dialect plan c (after_replay plan c)
  replay_stands_as = by_flag plan.fresh refl
