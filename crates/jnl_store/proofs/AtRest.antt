-- The plan that a replay leaves.
use Rattle.std.proofs.Common.{◌≡◌, ℕ, ◌%◌, refl, sym, ◌∙◌, ap, arith}
use Rattle.jnl_replay.specs.Plan.{FitsPlan}
use Rattle.jnl_replay.specs.declared.plan.Plan.{Plan}
use Rattle.jnl_store.specs.Journal.{IsAtRest}
use Rattle.jnl_store.specs.Plan.{rested}
use Rattle.jnl_store.proofs.Attached.{offset_is, size_is}

-- the plan after a replay is at rest
pub rested_rests : (plan : Plan) (sectors : ℕ) → FitsPlan sectors plan → IsAtRest (rested plan)
rested_rests plan sectors f =
    let size : (rested plan).info.size ≡ plan.info.size = size_is plan plan.fresh refl in
    let w = f.header in
    record {
      header = record {
        start_whole = w.end_whole;
        start_low = w.end_low;
        start_high = omega (arith, w.end_high, size);
        end_whole = w.end_whole;
        end_low = w.end_low;
        end_high = omega (arith, w.end_high, size);
        size = w.size ∙ sym size;
        blhdr_whole = w.blhdr_whole;
        blhdr_low = w.blhdr_low;
        blhdr_high = w.blhdr_high;
      };
      least = omega (arith, f.least, size);
      most = omega (arith, f.inside, f.sectors, size);
      whole = ap (λ n. n % 512) size ∙ f.whole;
      empty = refl;
      old = refl;
    }

pub fits_rested : (plan now : Plan) (sectors : ℕ) → IsAtRest now → now ≡ rested plan → FitsPlan sectors plan → FitsPlan sectors now
fits_rested plan now sectors rest is f =
    let w = rest.header in
    let place : now.place.info_sector ≡ plan.place.info_sector = ap (λ (p : Plan). p.place.info_sector) is in
    let offset : now.info.offset ≡ plan.info.offset = ap (λ (p : Plan). p.info.offset) is ∙ offset_is plan plan.fresh refl in
    let size : now.info.size ≡ plan.info.size = ap (λ (p : Plan). p.info.size) is ∙ size_is plan plan.fresh refl in
    record {
      sectors = f.sectors;
      info_sector = omega (arith, place, f.info_sector);
      offset = ap (λ n. n % 512) offset ∙ f.offset;
      whole = ap (λ n. n % 512) size ∙ f.whole;
      least = rest.least;
      inside = omega (arith, offset, size, f.inside);
      start_low = w.start_low;
      start_high = w.start_high;
      end_low = w.end_low;
      end_high = w.end_high;
      blhdr = w.blhdr_low;
      header = w;
    }
